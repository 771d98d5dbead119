-- File A of document 01 in an answer that has room for its seven rows and two bytes more, and File A with a row too few, computed. Assumes nothing.
use mathlib.Core.Path.{◌≡◌, refl}
use mathlib.Core.List.{[], ◌∷◌, ◌++◌}
use lib.ListN.{replicate}
use Rattle.numbers.specs.Big.{num, be}
use Rattle.strings.specs.Same.{same}
use Rattle.strings.specs.Characters.{token}
use Rattle.strings.specs.Headers.{next, after, textual}
use Rattle.format.specs.Kinds.{other_in, kind_of, fields_length, holds_run, inside, kind_number, same_kind, is_six}
use Rattle.format.specs.Header.{header_length, size_of, type_of, header_fault}
use Rattle.format.specs.Tree.{opens, grow, parse}
use Rattle.format.specs.Judge.{note, no_row, late_at_top, misplaced, missing, ragged, cut, newer, takes, wrong_method, wrong_length, malformed, agrees, wrong_data, again, wrong, and_then, read_of}
use Rattle.format.specs.Report.{answer_of}
use Rattle.format.specs.Worked.{file_a}
use Rattle.player.specs.Layout.{le, words, answer_bytes}
use Rattle.player.specs.Call.{rows_lent, answer_after}

pub worked : answer_after (read_of (rows_lent 2450) file_a) (replicate 2450 165)
    ≡ words
    ((7 ∷ 1 ∷ 121 ∷ 0 ∷ 40 ∷ 0
    ∷ 20 ∷ 101 ∷ 0 ∷ 0x6f64726d ∷ 0 ∷ 40 ∷ 49 ∷ 1 ∷ 0x6f646865 ∷ 0 ∷ 56 ∷ 33 ∷ 2 ∷ 0x6f686472 ∷ 0 ∷ 89 ∷ 32 ∷ 1 ∷ 0x6f646461 ∷ 0
    ∷ 0 ∷ 0 ∷ 4 ∷ 4 ∷ 53 ∷ 3 ∷ 84 ∷ 5 ∷ 89 ∷ 0 ∷ 89 ∷ 0 ∷ 117 ∷ 4 ∷ [])
    ++ replicate 238 0
    ++ (0 ∷ 20 ∷ 0 ∷ 0x66747970 ∷ 20 ∷ 101 ∷ 0 ∷ 0x6f64726d ∷ 40 ∷ 49 ∷ 1 ∷ 0x6f646865 ∷ 56 ∷ 33 ∷ 2 ∷ 0x6f686472 ∷ 89 ∷ 32 ∷ 1 ∷ 0x6f646461
    ∷ 121 ∷ 48 ∷ 0 ∷ 0x6d647269 ∷ 129 ∷ 40 ∷ 1 ∷ 0x66726565 ∷ []))
    ++ (165 ∷ 165 ∷ [])
unfolding num be same token next after textual other_in kind_of fields_length holds_run inside kind_number same_kind is_six header_length size_of type_of header_fault opens grow parse note no_row late_at_top misplaced missing ragged cut newer takes wrong_method wrong_length malformed agrees wrong_data again wrong and_then read_of answer_of le words answer_bytes answer_after
worked = refl

pub short : answer_after (read_of (rows_lent 2447) file_a) (replicate 2447 165) ≡ replicate 2447 165
unfolding num be same token next after textual other_in kind_of fields_length holds_run inside kind_number same_kind is_six header_length size_of type_of header_fault opens grow parse note no_row late_at_top misplaced missing ragged cut newer takes wrong_method wrong_length malformed agrees wrong_data again wrong and_then read_of answer_after
short = refl

-- The worked files of document 01, computed. Assumes nothing.
use mathlib.Core.Path.{refl}
use Rattle.numbers.specs.Big.{num, be}
use Rattle.strings.specs.Same.{same}
use Rattle.strings.specs.Characters.{token}
use Rattle.strings.specs.Headers.{next, after, textual}
use Rattle.format.specs.Kinds.{other_in, kind_of, fields_length, holds_run, inside, kind_number, same_kind, is_six}
use Rattle.format.specs.Header.{header_length, size_of, type_of, header_fault}
use Rattle.format.specs.Tree.{opens, grow, parse}
use Rattle.format.specs.Judge.{note, no_row, late_at_top, misplaced, missing, ragged, cut, newer, takes, wrong_method, wrong_length, malformed, agrees, wrong_data, again, wrong, and_then, read_of}
use Rattle.format.specs.Worked.{Holds, table}

pub worked : Holds table
unfolding num be same token next after textual other_in kind_of fields_length holds_run inside kind_number same_kind is_six header_length size_of type_of header_fault opens grow parse note no_row late_at_top misplaced missing ragged cut newer takes wrong_method wrong_length malformed agrees wrong_data again wrong and_then read_of
worked = (refl, (refl, (refl, (refl, (refl, (refl, (refl, (refl, tt))))))))

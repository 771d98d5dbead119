-- The listings of document 01's worked files, computed. Assumes nothing.
use mathlib.Core.Path.{◌≡◌, refl}
use Prim.Native.Nat.{ℕ}
use mathlib.Core.List.{List, [], ◌∷◌}
use Rattle.numbers.specs.Big.{num, be}
use Rattle.strings.specs.Same.{same}
use Rattle.strings.specs.Characters.{token}
use Rattle.strings.specs.Headers.{next, after, textual}
use Rattle.format.specs.Kinds.{other_in, kind_of, fields_length, holds_run, inside, kind_number, same_kind, is_six}
use Rattle.format.specs.Header.{header_length, size_of, type_of, header_fault}
use Rattle.format.specs.Tree.{opens, grow, parse}
use Rattle.format.specs.Judge.{note, no_row, late_at_top, misplaced, missing, ragged, cut, newer, takes, wrong_method, wrong_length, malformed, agrees, wrong_data, again, wrong, and_then, read_of}
use Rattle.format.specs.Numbers.{rule_of}
use Rattle.format.specs.Report.{answer_of}
use Rattle.format.specs.Worked.{file_a, file_b, row}
use Rattle.text.specs.Number.{ascii, decimal_by, decimal, hex8, field, entry}
use Rattle.text.specs.Text.{totals, row_line, row_lines, refused_text, listing_of, file_text}

abbrev text_a : List ℕ
text_a = ascii "verdict=0\nboxes=7\ncontainers=1\nmutable=121\nrights=0\nfree=40\nrow=0,20,0,66747970\nrow=20,101,0,6f64726d\nrow=40,49,1,6f646865\nrow=56,33,2,6f686472\nrow=89,32,1,6f646461\nrow=121,48,0,6d647269\nrow=129,40,1,66726565\n"

pub worked : (file_text file_a ≡ text_a) × (file_text file_b ≡ ascii "verdict=3\nplace=121\n") × (file_text [] ≡ ascii "verdict=6\nplace=0\n")
unfolding num be same token next after textual other_in kind_of fields_length holds_run inside kind_number same_kind is_six header_length size_of type_of header_fault opens grow parse note no_row late_at_top misplaced missing ragged cut newer takes wrong_method wrong_length malformed agrees wrong_data again wrong and_then read_of rule_of answer_of decimal_by decimal hex8 field entry totals row_line row_lines refused_text listing_of file_text
worked = (refl, refl, refl)

-- the widest numbers
pub widest : row_lines (row 0 18446744073709551615 10 4294967295 ∷ row 7 100 12345 10 ∷ []) ≡ ascii "row=0,18446744073709551615,10,ffffffff\nrow=7,100,12345,0000000a\n"
unfolding row_lines row_line field decimal decimal_by hex8
widest = refl

-- Further files, computed. Assumes nothing.
use mathlib.Core.Path.{refl}
use mathlib.Core.List.{List, [], ◌∷◌, ◌++◌}
use Rattle.numbers.specs.Big.{num, be}
use Rattle.strings.specs.Same.{same}
use Rattle.strings.specs.Characters.{token}
use Rattle.strings.specs.Headers.{next, after, textual}
use Rattle.format.specs.Kinds.{other_in, kind_of, fields_length, holds_run, inside, kind_number, same_kind, is_six}
use Rattle.format.specs.Header.{header_length, size_of, type_of, header_fault}
use Rattle.format.specs.Tree.{opens, grow, parse}
use Rattle.format.specs.Judge.{note, no_row, late_at_top, misplaced, missing, ragged, cut, newer, takes, wrong_method, wrong_length, malformed, agrees, wrong_data, again, wrong, and_then, read_of}
use Rattle.format.specs.Numbers.{rule_of}
use Rattle.format.specs.Report.{answer_of}
use Rattle.format.specs.Worked.{Line, Holds}
use Rattle.format.specs.Vectors.{answers, headers, places, fields, order, table}

join : (xs ys : List Line) → Holds xs → Holds ys → Holds (xs ++ ys)
join [] ys p q = q
join (x ∷ xs) ys p q = (p.0, join xs ys p.1 q)

pub vectors : Holds table
unfolding num be same token next after textual other_in kind_of fields_length holds_run inside kind_number same_kind is_six header_length size_of type_of header_fault opens grow parse note no_row late_at_top misplaced missing ragged cut newer takes wrong_method wrong_length malformed agrees wrong_data again wrong and_then read_of rule_of answer_of
vectors =
    join answers (headers ++ (places ++ (fields ++ order))) answering
    (join headers (places ++ (fields ++ order)) headed (join places (fields ++ order) placed (join fields order fielded ordered)))
  where
    answering : Holds answers
    answering = (refl, (refl, (refl, (refl, tt))))

    headed : Holds headers
    headed = (refl, (refl, (refl, (refl, (refl, (refl, (refl, (refl, (refl, (refl, (refl, (refl, (refl, (refl, (refl, (refl, (refl, (refl, (refl, (refl, (refl, (refl, (refl, tt)))))))))))))))))))))))

    placed : Holds places
    placed = (refl, (refl, (refl, (refl, (refl, (refl, (refl, (refl, (refl, (refl, (refl, (refl, (refl, (refl, (refl, (refl, (refl, (refl, (refl, (refl, (refl, (refl, (refl, (refl, (refl, (refl, (refl, (refl, (refl, tt)))))))))))))))))))))))))))))

    fielded : Holds fields
    fielded = (refl, (refl, (refl, (refl, (refl, (refl, (refl, (refl, (refl, (refl, (refl, (refl, (refl, (refl, (refl, (refl, (refl, (refl, (refl, (refl, (refl, (refl, (refl, (refl, (refl, (refl, (refl, (refl, (refl, (refl, (refl, (refl, (refl, (refl, (refl, (refl, (refl, (refl, (refl, (refl, (refl, (refl, (refl, (refl, (refl, (refl, (refl, (refl, (refl, (refl, (refl, tt)))))))))))))))))))))))))))))))))))))))))))))))))))

    ordered : Holds order
    ordered = (refl, (refl, (refl, (refl, (refl, (refl, (refl, (refl, (refl, (refl, (refl, (refl, (refl, (refl, (refl, (refl, (refl, (refl, (refl, (refl, (refl, tt)))))))))))))))))))))

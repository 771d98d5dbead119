-- The loop has put the lines of the first rows. Assumes nothing.
use Rattle.std.proofs.Common.{◌*◌, take}
use Rattle.text.specs.Adds.{Adds}
use Rattle.text.specs.Text.{row_lines}
use Rattle.text.proofs.put_rows.Given as goal

abbrev pub invariant-loop-row : goal.invariant-loop-row
invariant-loop-row l = Adds l.initial.text l.text (row_lines (take l.row-index l.rows)) (76 * l.row-index)

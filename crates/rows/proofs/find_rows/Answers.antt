-- A refusal leaves no row; an accepted file's rows stand in front of rows that are 0. Assumes nothing.
use Rattle.std.proofs.Common.{rules, arith}
use Rattle.rows.proofs.Laws.{found-refused, found-done}
use Rattle.rows.proofs.find_rows.Goals as goal

pub returns-then-ne : goal.returns-then-ne
returns-then-ne c = found-refused c.args.cap _ c.read_over-reading.ensures (omega (arith, c.min.ensures)) (search rules) (search rules)

pub returns-else-ne : goal.returns-else-ne
returns-else-ne c = found-done c.args.cap c.read_over-reading.ensures (omega (arith, c.min.ensures)) (search rules) (search rules)

-- The bytes that are still to be written complete the number. Assumes nothing.
use mathlib.Core.Path.{◌≡◌}
use lib.Seq.{sets}
use Rattle.numbers.specs.Big.{be}
use Rattle.numbers.proofs.put.Given as goal

abbrev pub invariant-loop-i : goal.invariant-loop-i
invariant-loop-i g l = sets l.out l.at (be l.i l.left) ≡ sets l.fn.out l.at (be g.row.N l.n)

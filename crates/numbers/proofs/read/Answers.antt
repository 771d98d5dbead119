-- A byte more is a number of one byte more. Assumes nothing.
use native.Mathlib.Omega.{arith}
use Rattle.numbers.proofs.Turns.{byte, read-none, read-turn, seven}
use Rattle.numbers.proofs.read.Goals as goal

pub loop-x-init : goal.loop-x-init
loop-x-init g c = read-none _ _

pub overflow_mul-n : goal.overflow_mul-n
overflow_mul-n g c = omega (arith, seven _ _ c.loop-x.invariant.bound (omega arith))

pub overflow_add-n : goal.overflow_add-n
overflow_add-n g c =
    omega (
      arith,
      seven _ _ c.loop-x.invariant.bound (omega arith),
      byte c.args.s.now c.args.at g.row.N c.loop-x.x-index (λ j. omega (arith, c.type_inv.s j)) (omega arith),
    )

pub loop-x-preserved : goal.loop-x-preserved
loop-x-preserved g c = read-turn _ _ _ _ _ (λ j. omega (arith, c.type_inv.s j)) (omega arith) c.loop-x.invariant

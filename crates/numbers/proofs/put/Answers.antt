-- The last byte that is still to be written is one less to be written. Assumes nothing.
use native.Mathlib.Omega.{arith}
use Rattle.numbers.proofs.Turns.{put-turn, put-done}
use Rattle.numbers.proofs.put.Goals as goal

pub loop-i-preserved : goal.loop-i-preserved
loop-i-preserved g c = put-turn _ _ _ _ _ (omega arith) c.loop-i.invariant

pub returns : goal.returns
returns g c = put-done _ _ _ _ _ (omega arith) c.loop-i.invariant

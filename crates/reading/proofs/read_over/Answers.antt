use native.Mathlib.Omega.{arith}
use Rattle.reading.proofs.Answers.{read-over}
use Rattle.reading.proofs.read_over.Goals as goal

pub returns : goal.returns
returns c = read-over c.read_with.ensures (omega (arith, c.min-cap.ensures))

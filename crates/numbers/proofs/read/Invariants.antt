-- What was read so far is the number of as many bytes. Assumes nothing.
use Rattle.numbers.specs.Read.{Read}
use Rattle.numbers.proofs.read.Given as goal

abbrev pub invariant-loop-x : goal.invariant-loop-x
invariant-loop-x g l = Read l.x-index l.s l.at l.n

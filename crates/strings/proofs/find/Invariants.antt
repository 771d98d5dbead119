-- What is left of the field is entries, and their answer is the whole field's. Assumes nothing.
use lib.ListN.{length}
use Rattle.strings.proofs.Search.{Left}
use Rattle.strings.proofs.find.Given as goal

abbrev pub invariant-loop-rest : goal.invariant-loop-rest
invariant-loop-rest l = Left l.field l.name l.rest

abbrev pub decreases-loop-rest : goal.decreases-loop-rest
decreases-loop-rest l = length l.rest

-- What is left of those kept answers for all of them. Assumes nothing.
use mathlib.Core.Path.{◌≡◌}
use lib.ListN.{take, drop}
use Rattle.walk.proofs.Known.{within}
use Rattle.walk.proofs.Kept.knows.Given as goal

abbrev pub invariant-loop-x : goal.invariant-loop-x
invariant-loop-x l =
    let known = take l.self.tally.headers l.self.ids in
    within l.id l.file (drop l.x-index known) ≡ within l.id l.file known

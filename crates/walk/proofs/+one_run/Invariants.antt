-- A box ends after it starts; the run in it starts after the box does. Assumes nothing.
use Rattle.std.proofs.Common.{◌-◌, ◌+◌, ◌*◌}
use Rattle.walk.proofs.Steps.{Going}
use Rattle.walk.proofs.+one_run.Given as goal

abbrev pub decreases-one : goal.decreases-one
decreases-one l = 2 * (l.scope.end - l.at)

abbrev pub decreases-run : goal.decreases-run
decreases-run l = 2 * (l.scope.end - l.from) + 1

abbrev pub invariant-run-loop-at : goal.invariant-run-loop-at
invariant-run-loop-at l = Going l.scope.file.now l.scope.cap l.scope.end l.scope.spot l.fn.from l.fn.kept l.fn.rows l.at l.n l.kept l.rows

abbrev pub decreases-run-loop-at : goal.decreases-run-loop-at
decreases-run-loop-at l = l.scope.end - l.at

use Prim.Native.Nat.{◌-◌}
use lib.ListN.{length}
use Rattle.format.specs.Judge.{read_of}
use Rattle.stretches.specs.Given.{log_of}
use Rattle.stretches.specs.Rights.{odrb_at}
use Rattle.stretches.proofs.Seeking.{Seek}
use Rattle.stretches.proofs.rights_at.Given as goal

abbrev pub invariant-loop-start : goal.invariant-loop-start
invariant-loop-start l = Seek l.file l.at l.left (odrb_at (log_of (read_of 256 l.file)) l.index)

abbrev pub decreases-loop-start : goal.decreases-loop-start
decreases-loop-start l = length l.file - l.at

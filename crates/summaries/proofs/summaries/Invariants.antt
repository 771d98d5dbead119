-- The array is the summaries of the containers passed, and 0 behind them. Assumes nothing.
use lib.ListN.{length}
use Rattle.summaries.proofs.Filling.{Stored}
use Rattle.summaries.proofs.summaries.Given as goal

abbrev pub invariant-loop-i : goal.invariant-loop-i
invariant-loop-i l = Stored l.s l.starts (length l.starts) l.all l.i

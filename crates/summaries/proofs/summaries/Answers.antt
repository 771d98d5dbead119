-- One summary is stored at each turn, and all are at the end. Assumes nothing.
use Rattle.summaries.proofs.Filling.{one-stored}
use Rattle.summaries.proofs.summaries.Goals as goal

pub loop-i-preserved : goal.loop-i-preserved
loop-i-preserved c = one-stored c.requires.few c.loop-i-test.true c.summary_at.ensures c.loop-i.invariant

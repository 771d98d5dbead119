use Rattle.player.proofs.Laws.{then}
use Rattle.player.proofs.SummaryLayout.put.Goals as goal

pub returns : goal.returns
returns c = then (then c.put_all-method_at.ensures c.put_all-stretches_at.ensures) c.put_all.ensures

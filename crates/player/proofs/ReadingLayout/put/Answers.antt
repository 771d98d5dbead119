use Rattle.player.proofs.Laws.{then}
use Rattle.player.proofs.ReadingLayout.put.Goals as goal

pub returns : goal.returns
returns c = then c.put_all-summaries_at.ensures c.put_all.ensures

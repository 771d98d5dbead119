use Rattle.player.proofs.Laws.{then}
use Rattle.player.proofs.FullLayout.put.Goals as goal

pub returns : goal.returns
returns c = then c.put-flags_at.ensures c.put.ensures

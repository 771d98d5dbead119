use mathlib.Core.Path.{◌∙◌}
use Rattle.player.proofs.Laws.{number-put}
use Rattle.player.proofs.UsizeLayout.put.Goals as goal

pub returns : goal.returns
returns c = number-put _ _ _ _ c.requires (c.copy_from_slice.ensures.after ∙ c.to_le_bytes.ensures)

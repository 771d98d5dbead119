-- Six lines, one after the other. Assumes nothing.
use Rattle.text.proofs.Laws.{then}
use Rattle.text.specs.Text.{totals}
use Rattle.text.proofs.put_totals.Goals as goal

pub returns : goal.returns
unfolding totals
returns c = then c.put_entry.ensures (then c.put_entry-2.ensures (then c.put_entry-3.ensures (then c.put_entry-4.ensures (then c.put_entry-5.ensures c.put_entry-6.ensures))))

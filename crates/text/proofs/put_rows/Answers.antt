-- The lines of one row more. Assumes nothing.
use Rattle.std.proofs.Common.{rules}
use Rattle.text.proofs.Laws.{then, lines_more}
use Rattle.text.proofs.put_rows.Goals as goal

pub loop-row-preserved : goal.loop-row-preserved
loop-row-preserved c =
    let lines = then c.loop-row.invariant c.put_row.ensures in
    record { bytes = rw (lines_more c.args.rows.now c.loop-row.row-index (search rules)) lines.bytes; len = search rules }

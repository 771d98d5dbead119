-- The rows counted are stored. Assumes nothing.
use Rattle.std.proofs.Common.{rules, arith}
use Rattle.rows.proofs.Laws.{counted, stored-done, stored-refused}
use Rattle.rows.proofs.read.Goals as goal

pub slice_bounds-store-end : goal.slice_bounds-store-end
slice_bounds-store-end c = counted c.args.rows.now _ c.read_over-reading.ensures (omega (arith, c.min.ensures)) (search rules)

pub returns-then-eq : goal.returns-then-eq
returns-then-eq c = stored-done c.args.rows.now _ c.read_over-reading.ensures (omega (arith, c.min.ensures)) (search rules) c.store.ensures

pub returns-else-eq : goal.returns-else-eq
returns-else-eq c = stored-refused c.args.rows.now _ c.read_over-reading.ensures (omega (arith, c.min.ensures)) (search rules)

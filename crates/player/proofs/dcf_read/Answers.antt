use mathlib.Core.Path.{sym, ◌∙◌}
use lib.Seq.{length-take-le}
use native.Mathlib.Omega.{arith}
use denote.Enum.Bare.{differs_true, differs_false}
use Rattle.format.specs.contracts.Rule.{the_type}
use Rattle.player.proofs.Calls.{Ready, ready, told-refused, told-done}
use Rattle.player.proofs.dcf_read.Goals as goal
use Rattle.player.proofs.dcf_read.Goals.{Else-ne}

is-ready : (c : Else-ne) → Ready c.args.file.now c.args.answer.now c.read_over-reading.result c.read_over-reading.new.rows
is-ready c =
    ready _ (length-take-le _ _ (omega (arith, c.rows_lent.ensures)) ∙ c.rows_lent.ensures) c.read_over-reading.ensures
    (differs_false the_type tt _ _ (sym c.if-ne.ensures)) (omega (arith, c.read_over-reading.type_inv))

pub returns-then-ne : goal.returns-then-ne
returns-then-ne c =
    told-refused _ (length-take-le _ _ (omega (arith, c.rows_lent.ensures)) ∙ c.rows_lent.ensures) c.read_over-reading.ensures
    (differs_true the_type _ _ (sym c.if-ne.ensures)) c.from.ensures

pub put-rows_at-requires : goal.put-rows_at-requires
put-rows_at-requires c = let x = is-ready (goal.at.put-rows_at-requires c).Else-ne in omega (arith, x.room)

pub slice_bounds-put_all-end : goal.slice_bounds-put_all-end
slice_bounds-put_all-end c = (is-ready (goal.at.slice_bounds-put_all-end c).Else-ne).counted

pub put_all-requires : goal.put_all-requires
put_all-requires c = let x = is-ready (goal.at.put_all-requires c).Else-ne in omega (arith, x.room, c.put-rows_at.ensures.past, c.put-rows_at.auto.out)

pub returns : goal.returns
returns c = told-done _ (is-ready (goal.at.returns c).Else-ne) c.put-rows_at.ensures c.put_all.ensures c.from-2.ensures

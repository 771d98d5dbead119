use borrow.Author.Rules.{rules}
use native.Mathlib.Omega.{arith}
use Rattle.std.proofs.lemmas.List.Folds.{length-flat_map-take}
use Rattle.player.proofs.Laws.{none, again}
use Rattle.player.proofs.put_all.Goals as goal

pub loop-value-init : goal.loop-value-init
loop-value-init g c = none _ _

pub put-next-requires : goal.put-next-requires
put-next-requires g c =
    let most = length-flat_map-take g.T.Layout.numbers c.args.values.now c.loop-value.value-index c.value-item.result c.loop-value-test.true in
    omega (arith, rw (← c.value-item.is) at most, c.loop-value.invariant.past, c.requires)

pub loop-value-preserved : goal.loop-value-preserved
loop-value-preserved g c = again g.T.Layout.numbers _ _ _ (search rules) (search rules) c.loop-value.invariant c.put-next.ensures

use lib.ListN.{take}
use Rattle.std.specs.List.{flat_map}
use Rattle.player.specs.Wrote.{Wrote}
use Rattle.player.proofs.put_all.Given as goal

abbrev pub invariant-loop-value : goal.invariant-loop-value
invariant-loop-value g l =
    Wrote l.initial.out l.at (flat_map g.T.Layout.numbers (take l.value-index l.values)) l.out l.next

-- A read adds what it gave to the front of the room. Assumes nothing.
use Rattle.std.proofs.Common.{rules, subst, sym}
use Rattle.std.specs.Io.KnownBytes.{Consumes}
use Rattle.std.proofs.KnownBytes.{Consumes-trans}
use Rattle.input.proofs.Laws.{read-behind}
use Rattle.input.proofs.read_full.Goals as goal

pub loop-done-preserved : goal.loop-done-preserved
loop-done-preserved g c =
    let loop = c.loop-done.invariant in
    let read = c.in_ok-n.ensures in
    let all = Consumes-trans _ _ _ _ _ loop.1 read.bytes.0 in
    (search rules, subst (Consumes _ _) (sym (read-behind _ _ _ _ _ loop.0 read.bound.0)) all)

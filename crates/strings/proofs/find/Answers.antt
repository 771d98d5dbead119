-- What is left of the field is entries, and their answer is the whole field's. Assumes nothing.
use mathlib.Core.Path.{sym, ◌∙◌}
use lib.ListN.{length-take}
use native.Mathlib.Omega.{arith}
use Rattle.strings.proofs.Search.{colon_inside, found, next_left, none_left}
use Rattle.strings.proofs.find.Goals as goal

pub slice_bounds-is_same_name-end : goal.slice_bounds-is_same_name-end
slice_bounds-is_same_name-end c = grind (arith, length-take, colon_inside)

pub returns-then-is_same_name : goal.returns-then-is_same_name
returns-then-is_same_name c =
    found c.loop-rest.invariant (sym c.is_empty.ensures ∙ c.loop-rest-test.true) c.index_of-colon.ensures c.index_of-length.ensures
    c.is_same_name.ensures c.if-is_same_name.true

pub loop-rest-preserved : goal.loop-rest-preserved
loop-rest-preserved c =
    next_left c.loop-rest.invariant (sym c.is_empty.ensures ∙ c.loop-rest-test.true) c.index_of-colon.ensures c.index_of-length.ensures
    c.is_same_name.ensures c.if-is_same_name.false

pub returns : goal.returns
returns c = none_left c.loop-rest.invariant (sym c.is_empty.ensures ∙ c.loop-rest-test.false)

-- Each box is where the one before it says; what three sums ask is one law, a line each. Assumes nothing.
use native.Mathlib.Omega.{arith}
use Rattle.format.specs.declared.Kind.TheVariants.{Odhe, Ohdr, Odda}
use Rattle.summaries.proofs.Laws.{ends, odhe-opens, ohdr-opens, odda-opens, type-in, four}
use Rattle.summaries.proofs.four_at.Goals as goal

pub opened_at-odhe-requires : goal.opened_at-odhe-requires
opened_at-odhe-requires c = (Odhe, _, odhe-opens c.requires.1 c.opened_at-odrm.ensures)

pub overflow_add-start : goal.overflow_add-start
overflow_add-start c = omega (arith, type-in c.requires.1 c.opened_at-odrm.ensures c.opened_at-odhe.ensures)

pub overflow_add-odhe : goal.overflow_add-odhe
overflow_add-odhe c = omega (arith, type-in c.requires.1 c.opened_at-odrm.ensures c.opened_at-odhe.ensures)

pub read-length-requires-clause-within : goal.read-length-requires-clause-within
read-length-requires-clause-within c = omega (arith, type-in c.requires.1 c.opened_at-odrm.ensures c.opened_at-odhe.ensures)

pub overflow_add-start-2 : goal.overflow_add-start-2
overflow_add-start-2 c =
    let o = ohdr-opens c.requires.1 c.opened_at-odrm.ensures c.opened_at-odhe.ensures c.read-length.ensures.value in
    omega (arith, o.here, ends o)

pub opened_at-ohdr-requires : goal.opened_at-ohdr-requires
opened_at-ohdr-requires c = (Ohdr, _, ohdr-opens c.requires.1 c.opened_at-odrm.ensures c.opened_at-odhe.ensures c.read-length.ensures.value)

pub opened_at-odda-requires : goal.opened_at-odda-requires
opened_at-odda-requires c = (Odda, _, odda-opens c.requires.1 c.opened_at-odrm.ensures c.opened_at-odhe.ensures)

pub returns : goal.returns
returns c = λ k h.
    four h c.opened_at-odrm.ensures c.opened_at-odhe.ensures c.read-length.ensures.value c.opened_at-ohdr.ensures
    c.opened_at-odda.ensures

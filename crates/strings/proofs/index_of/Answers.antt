-- The first such byte is found, or there is none. Assumes nothing.
use mathlib.Core.Path.{◌≡◌, ◌∙◌}
use mathlib.Core.Logic.{◌≢◌}
use borrow.Author.Tests.{tests}
use Rattle.std.proofs.Common.{rules}
use Rattle.std.proofs.lemmas.Iterator.{YieldsList-from_slice, IsFirst-from_position}
use Rattle.strings.proofs.Library.{index_first}
use Rattle.strings.proofs.index_of.Goals as goal

pub returns : goal.returns
returns c =
    c.unwrap_or.ensures
    ∙ index_first c.args.byte c.args.s.now c.position.result (IsFirst-from_position _ _ _
    (λ x. x ≡ c.args.byte) (λ x. x ≢ c.args.byte) c.position.ensures.ran
    (YieldsList-from_slice c.args.s.now cc) (λ x q k. search (rules, tests)) (λ x q k. search (rules, tests)))

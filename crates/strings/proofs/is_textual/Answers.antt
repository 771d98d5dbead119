-- The fold ends in the part after the whole field. Assumes nothing.
use mathlib.Core.Path.{◌∙◌}
use borrow.Author.Tests.{tests}
use Rattle.std.proofs.Common.{rules}
use Rattle.std.proofs.lemmas.Iterator.{YieldsList-from_slice}
use Rattle.std.proofs.lemmas.Iterator.Consumers.{fold_from_yields_List}
use Rattle.strings.proofs.Library.{textual_fold}
use Rattle.strings.proofs.is_textual.Goals as goal

pub returns : goal.returns
returns c =
    c.eq.ensures
    ∙ textual_fold c.args.s.now c.fold.result (fold_from_yields_List _ _ _ _ c.fold.ensures.ran
    (YieldsList-from_slice c.args.s.now cc) (λ a x b q k. search (rules, tests)))

-- Number 1, and the run at the top. Assumes nothing.
use Rattle.std.proofs.Common.{rules, refl, ◌≡◌, replicate}
use Rattle.format.specs.Report.{no_stretch}
use Rattle.walk.proofs.Fresh.{all-same}
use Rattle.walk.proofs.Steps.{started, long-walked, run-refused, run-walked}
use Rattle.walk.proofs.walk_file.Goals as goal
use Rattle.walk.proofs.walk_file.Goals.{After-default-kept}

pub returns-then-end-gt16777216 : goal.returns-then-end-gt16777216
returns-then-end-gt16777216 c = long-walked _ _ _ c.if-end-gt16777216.true

-- the walk begins with nothing kept
fresh : (c : After-default-kept) → c.default-kept.result ≡ started
fresh c =
    let e = c.default-kept.ensures in
    let s : c.default-kept.result.starts ≡ replicate 8 0 = all-same _ (λ x f. f) e.1.1.0 in
    let i : c.default-kept.result.ids ≡ replicate 8 no_stretch = all-same _ (λ x f. search rules) e.1.1.1 in
    search (rules, s, i)

pub returns-in_err-run : goal.returns-in_err-run
returns-in_err-run c =
    run-refused c.if-end-gt16777216.false (rw (fresh (goal.at.returns-in_err-run c).After-default-kept) at c.run.ensures)
    c.in_err-run.field-0.0 (search rules) (search rules)

pub returns : goal.returns
returns c = run-walked c.if-end-gt16777216.false (rw (fresh (goal.at.returns c).After-default-kept) at c.run.ensures) refl (search rules)

-- The verdict of the walk, as an answer. Assumes nothing.
use Rattle.std.proofs.Common.{rules, ◌≡◌, refl, replicate}
use Rattle.format.specs.declared.Rule.TheVariants.{Done}
use Rattle.format.specs.Report.{no_summary}
use Rattle.walk.proofs.Fresh.{all-same}
use Rattle.reading.proofs.Answers.{answered-refused, accepted, most, begun, answered-done}
use Rattle.reading.proofs.read_with.Goals as goal

pub returns-in-Err : goal.returns-in-Err
returns-in-Err c =
    let s : c.default.result.summaries ≡ replicate 8 no_summary = all-same _ (λ x f. search rules) c.default.ensures.1.1.1.0 in
    let d : c.default.result ≡ record { refusal = record { rule = Done; place = 0 }; boxes = 0; containers = 0; summaries = replicate 8 no_summary; mdri = 0; rights = 0; free = 0; transaction = 0 } = search (rules, s) in
    rw d (answered-refused c.walk_file.ensures c.in-Err.is refl)

pub shared_ref_as_front-summaries : goal.shared_ref_as_front-summaries
shared_ref_as_front-summaries c = most (accepted c.walk_file.ensures c.in-Ok.is)

pub summaries-summaries-requires : goal.summaries-summaries-requires
summaries-summaries-requires c = begun (accepted c.walk_file.ensures c.in-Ok.is)

pub returns-in-Ok : goal.returns-in-Ok
returns-in-Ok c =
    let e : c.default-in-Ok.result ≡ record { rule = Done; place = 0 } = search rules in
    rw e (answered-done (accepted c.walk_file.ensures c.in-Ok.is) c.summaries-summaries.ensures c.walk_file.auto.rows)

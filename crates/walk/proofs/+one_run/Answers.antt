-- The walk over one box and the walk over a run: one law of Steps for each way out. Assumes nothing.
use Rattle.std.proofs.Common.{ℕ, rules, arith, refl, sym, ◌∙◌}
use Rattle.walk.proofs.Steps.{head-of, met, Judged, known-fair, stepped-head, stepped-wrong, known-none, known-addable, known_next, inner-ready, stepped-leaf, stepped-inner, stepped-node, held-place, held-yes, held-no, ran-end, ran-missing, ran-stop, going-next}
use Rattle.walk.proofs.+one_run.Goals as goal
use Rattle.walk.proofs.+one_run.Goals.{one-After-add}

-- the box that was read breaks no rule
it : (t : ℕ) (c : one-After-add t)
    → Judged c.args.scope.file.now c.args.scope.cap c.args.scope.end c.args.scope.spot c.args.n c.args.at c.args.kept.now c.in_ok-h.h c.kind_of-kind.result
it t c = record {
  met = met c.requires.0 c.requires.1 c.read_head.ensures.gives (search rules) c.kind_of-kind.ensures;
  fine = sym c.judge.ensures ∙ search rules;
}

pub one-returns-in_err-h : goal.one-returns-in_err-h
one-returns-in_err-h t c =
    stepped-head c.requires.0 c.requires.1 c.in_err-h.field-0.0 (search rules) (search rules)
    (head-of c.requires.0 c.requires.1 c.read_head.ensures.gives (search rules))

pub one-returns-in_err-map_err : goal.one-returns-in_err-map_err
one-returns-in_err-map_err t c =
    stepped-wrong c.requires.0 c.requires.1 (met c.requires.0 c.requires.1 c.read_head.ensures.gives (search rules) c.kind_of-kind.ensures)
    c.in_err-map_err.field-0.0 (search rules) (search rules) (sym c.judge.ensures ∙ search rules)

pub one-add-requires : goal.one-add-requires
one-add-requires t c =
    known-addable c.requires.0 c.requires.1 (met c.requires.0 c.requires.1 c.read_head.ensures.gives (search rules) c.kind_of-kind.ensures)
    (sym c.judge.ensures ∙ search rules)

pub run-returns-in_err-next : goal.run-returns-in_err-next
run-returns-in_err-next t c = c.loop-at.invariant.rest (ran-stop c.in_err-next.field-0.0 (search rules) (search rules) c.loop-at-test.true c.one.ensures)

pub run-loop-at-smaller : goal.run-loop-at-smaller
run-loop-at-smaller t c = omega (arith, (c.one.ensures.went (c.in_ok-next.next, c.in_ok-next.kind) (search rules)).more)

pub run-loop-at-preserved : goal.run-loop-at-preserved
run-loop-at-preserved t c = going-next c.loop-at-test.true c.loop-at.invariant c.one.ensures (search rules) c.noted-n.ensures

pub run-returns-then-is_missing : goal.run-returns-then-is_missing
run-returns-then-is_missing t c =
    c.loop-at.invariant.rest (ran-missing _ refl refl (omega (arith, c.loop-at.invariant.ready.within, c.loop-at-test.false)) (sym c.is_missing.ensures ∙ c.if-is_missing.true))

pub run-returns : goal.run-returns
run-returns t c =
    c.loop-at.invariant.rest
    (ran-end c.loop-at.invariant.ready (omega (arith, c.loop-at.invariant.ready.within, c.loop-at-test.false)) (sym c.is_missing.ensures ∙ c.if-is_missing.false))

pub one-fields_length-requires : goal.one-fields_length-requires
one-fields_length-requires t c =
    let x = it t (goal.at.one-fields_length-requires t c).After-add in
    (known-none c.requires.0 c.requires.1 x.met x.fine).fit

pub one-overflow_add-from : goal.one-overflow_add-from
one-overflow_add-from t c =
    let x = it t (goal.at.one-overflow_add-from t c).After-add in
    let f = known-fair c.requires.0 c.requires.1 x.met in
    omega (arith, f.most, f.least, known_next c.requires.0 c.requires.1 x.met x.fine, c.fields_length.ensures, c.requires.1.ends, c.requires.1.short)

pub one-run-requires : goal.one-run-requires
one-run-requires t c =
    let x = it t (goal.at.one-run-requires t c).After-add in
    let f = known-fair c.requires.0 c.requires.1 x.met in (
      omega (arith, f.most, f.least, f.eight, known_next c.requires.0 c.requires.1 x.met x.fine, c.fields_length.ensures, c.decreases, c.requires.0),
      rw (c.add.ensures, held-place c.kind_of-kind.result c.inside_of.ensures c.in-Some.is)
          (inner-ready c.requires.0 c.requires.1 x.met x.fine c.fields_length.result c.fields_length.ensures (held-yes c.kind_of-kind.result c.inside_of.ensures c.in-Some.is)),
    )

pub one-returns-in_err-run : goal.one-returns-in_err-run
one-returns-in_err-run t c =
    let x = it t (goal.at.one-returns-in_err-run t c).After-add in
    stepped-inner c.requires.0 c.requires.1 x.met x.fine c.fields_length.ensures (held-yes c.kind_of-kind.result c.inside_of.ensures c.in-Some.is)
    (rw (c.put.ensures, c.add.ensures, held-place c.kind_of-kind.result c.inside_of.ensures c.in-Some.is) at c.run.ensures) c.in_err-run.field-0.0 (search rules) (search rules)

pub one-returns-in_ok-run : goal.one-returns-in_ok-run
one-returns-in_ok-run t c =
    let x = it t (goal.at.one-returns-in_ok-run t c).After-add in
    stepped-node c.requires.0 c.requires.1 x.met x.fine c.fields_length.ensures (held-yes c.kind_of-kind.result c.inside_of.ensures c.in-Some.is)
    (rw (c.put.ensures, c.add.ensures, held-place c.kind_of-kind.result c.inside_of.ensures c.in-Some.is) at c.run.ensures) refl (search rules)

pub one-returns-in_default : goal.one-returns-in_default
one-returns-in_default t c =
    let x = it t (goal.at.one-returns-in_default t c).After-add in
    rw (c.put.ensures, c.add.ensures)
    (stepped-leaf c.requires.0 c.requires.1 x.met x.fine refl (held-no c.kind_of-kind.result c.inside_of.ensures c.in_default.not-Some))

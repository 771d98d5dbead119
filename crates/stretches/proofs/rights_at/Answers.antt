-- The seek stays in the mdri; what two answers ask of an odrb is one law, a line each. Assumes nothing.
use native.Mathlib.Omega.{arith}
use Rattle.stretches.proofs.Seeking.{mdri_inside, mdri_read, seek_read, odrb_fits, is_sought}
use Rattle.stretches.proofs.rights_at.Goals as goal

pub slice_bounds-read_head-count : goal.slice_bounds-read_head-count
slice_bounds-read_head-count c = search mdri_inside

pub slice_bounds-read_head-start : goal.slice_bounds-read_head-start
slice_bounds-read_head-start c = search mdri_inside

pub unwrap-requires : goal.unwrap-requires
unwrap-requires c = search mdri_read

pub unwrap-head-requires : goal.unwrap-head-requires
unwrap-head-requires c = search seek_read

pub overflow_sub-result : goal.overflow_sub-result
overflow_sub-result c =
    omega (arith, odrb_fits c.loop-start.invariant c.read_head-in-loop-start.ensures.gives c.unwrap-head.ensures c.if-head-eq-ODRB.true)

pub returns-then-left-eq0-clause-value : goal.returns-then-left-eq0-clause-value
returns-then-left-eq0-clause-value c = search is_sought

pub returns-then-left-eq0-clause-inside : goal.returns-then-left-eq0-clause-inside
returns-then-left-eq0-clause-inside c =
    omega (arith, odrb_fits c.loop-start.invariant c.read_head-in-loop-start.ensures.gives c.unwrap-head.ensures c.if-head-eq-ODRB.true)

-- The four boxes and the fields of ohdr and odda. Assumes nothing.
use Rattle.summaries.proofs.Laws.{headers-in, summary}
use Rattle.summaries.proofs.summary_at.Goals as goal

pub common_headers-header-requires : goal.common_headers-header-requires
common_headers-header-requires c =
    let h = c.requires.1 in
    headers-in h (c.four_at-four.ensures _ h)

pub returns : goal.returns
returns c = λ k h.
    summary h (c.four_at-four.ensures k h) c.common_headers-header.ensures c.content_at-content.ensures

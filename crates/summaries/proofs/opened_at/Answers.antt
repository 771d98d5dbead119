-- What is read at an offset is the box that stands there. Assumes nothing.
use mathlib.Core.Path.{refl}
use native.Mathlib.Omega.{arith}
use Rattle.summaries.proofs.Laws.{head, flags-in, opened}
use Rattle.summaries.proofs.opened_at.Goals as goal

pub unwrap-head-requires : goal.unwrap-head-requires
unwrap-head-requires c = rw (head c.requires.2 c.read_head.ensures.gives) refl

pub read-flags-requires-clause-within : goal.read-flags-requires-clause-within
read-flags-requires-clause-within c = omega (arith, flags-in c.requires.2 c.read_head.ensures.gives c.unwrap-head.ensures)

pub returns : goal.returns
returns c = λ k x o. opened o c.read_head.ensures.gives c.unwrap-head.ensures c.read-flags.ensures.value

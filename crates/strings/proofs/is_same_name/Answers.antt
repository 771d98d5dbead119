-- Names that are the same in lower case are the same. Assumes nothing.
use Rattle.strings.proofs.Library.{same_names}
use Rattle.strings.proofs.is_same_name.Goals as goal

pub returns : goal.returns
returns c = same_names _ _ _ c.eq_ignore_ascii_case.ensures.test

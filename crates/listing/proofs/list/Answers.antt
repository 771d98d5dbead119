-- The rows that reading leaves in the room are those of the listing. Assumes nothing.
use borrow.Author.Rules.{rules}
use Rattle.listing.proofs.Laws.{file-text}
use Rattle.listing.proofs.list.Goals as goal

pub returns-clause-laid : goal.returns-clause-laid
returns-clause-laid c = rw (file-text c.read-reading.ensures (search rules)) at c.put_listing.ensures.laid

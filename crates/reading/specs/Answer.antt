-- What reading a file answers, and what the lent rows hold afterwards, of every file and every slice of rows. Assumes nothing.
use Rattle.std.specs.Prelude.{◌≡◌, ℕ, ◌≤◌, min, List, ◌++◌, length, drop}
use Rattle.format.specs.declared.Row.{Row}
use Rattle.format.specs.declared.Reading.{Reading}
use Rattle.format.specs.Boxes.{Box}
use Rattle.format.specs.Judge.{done, read_of}
use Rattle.format.specs.Report.{rows, answer_of}

-- the answer with so many rows at most; of an accepted file the rows over the first of those that are lent, if there is room for them
pub record Answered (s : List ℕ) (cap : ℕ) (old : List Row) (r : Reading) (new : List Row) : Type 0 where
  pub answer : r ≡ answer_of (read_of cap s)
  pub rows : (log : List Box) → read_of cap s ≡ done log → length log ≤ length old → new ≡ rows log ++ drop (length log) old

-- as many rows as are lent, 256 at most
pub record ReadOver (s : List ℕ) (old : List Row) (r : Reading) (new : List Row) : Type 0 where
  pub answer : r ≡ answer_of (read_of (min 256 (length old)) s)
  pub rows : (log : List Box) → read_of (min 256 (length old)) s ≡ done log → new ≡ rows log ++ drop (length log) old

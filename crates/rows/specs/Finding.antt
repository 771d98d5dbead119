-- What is found in a file, by value, and what a lent slice of rows holds after it is read (document 01, Numbers given back), of every file
-- and every slice. Assumes nothing.
use Rattle.std.specs.Prelude.{◌≡◌, ℕ, ◌-◌, min, List, [], ◌++◌, length, take, drop, replicate}
use Rattle.format.specs.declared.Row.{Row}
use Rattle.format.specs.declared.Reading.{Reading}
use Rattle.format.specs.Judge.{Out, fault, done, read_of}
use Rattle.format.specs.Report.{rows, no_row, answer_of}
use Rattle.rows.specs.declared.Found.{Found}

-- ---- by value

-- the array of 256: these rows, and 0 in the unused ones
abbrev pub filled : List Row → List Row
filled rs = rs ++ replicate (256 - length rs) no_row

unfoldable pub rows_of : Out → List Row
rows_of (fault k place) = filled []
rows_of (done log) = filled (rows log)

unfoldable pub find_of : Out → Found
find_of o = record { reading = answer_of o; rows = rows_of o }

-- ---- in a lent slice

-- ys with its first n replaced by the first n of xs
abbrev pub over : ℕ → List Row → List Row → List Row
over n xs ys = take n xs ++ drop n ys

-- on success the rows counted, and nothing else altered; when refused nothing altered
unfoldable pub rows_after : Out → List Row → List Row
rows_after (fault k place) old = old
rows_after (done log) old = rows log ++ drop (length log) old

-- 256 rows, or fewer where the lent slice is shorter
pub record ReadRows (s : List ℕ) (old : List Row) (r : Reading) (new : List Row) : Type 0 where
  pub answer : r ≡ answer_of (read_of (min 256 (length old)) s)
  pub rows : new ≡ rows_after (read_of (min 256 (length old)) s) old

-- What a reader of k bytes gives back. Assumes nothing.
use Rattle.std.specs.Prelude.{◌≡◌, ℕ, ◌^◌, ◌<◌, List}
use Rattle.numbers.specs.Big.{num}

-- r is the number of the k bytes of s from `at` on, and is below 256 ^ k
pub record Read (k : ℕ) (s : List ℕ) (at r : ℕ) : Type 0 where
  pub value : r ≡ num k s at
  pub bound : r < 256 ^ k

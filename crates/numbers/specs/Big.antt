-- Big-endian numbers of any width (document 01, Boxes: "Numbers are big-endian"). Assumes nothing.
use Rattle.std.specs.Prelude.{ℕ, zero, suc, ◌+◌, ◌*◌, ◌/◌, ◌%◌, List, [], ◌∷◌, ◌++◌, get_or}

-- the number of k bytes from an index on, the highest first; a byte past the end counts as 0
unfoldable pub num : ℕ → List ℕ → ℕ → ℕ
num zero s at = 0
num (suc k) s at = num k s at * 256 + get_or s (at + k) 0

-- the low k bytes of n, the highest first
unfoldable pub be : ℕ → ℕ → List ℕ
be zero n = []
be (suc k) n = be k (n / 256) ++ (n % 256 ∷ [])

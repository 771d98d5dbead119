-- What the functions that lay a text into a lent buffer do. Assumes nothing.
use Rattle.std.specs.Prelude.{◌≡◌, ℕ, ◌≤◌, List, ◌++◌, length, drop, leb, Option, Some, None, IfSome, IsSome}
use Rattle.text.specs.declared.TheConstants.{LONGEST}
use Rattle.numbers.specs.Choice.{pick}
use Rattle.io.specs.Counts.{IsPrefixLen}

-- a whole text in a buffer: the text, then the old bytes from there on; if it does not fit, the old bytes
unfoldable pub laid : List ℕ → List ℕ → List ℕ
laid text old = pick (leb (length text) (length old)) (text ++ drop (length text) old) old

-- the text's length, if it fits
unfoldable pub laid_length : List ℕ → List ℕ → Option ℕ
laid_length text old = pick (leb (length text) (length old)) (Some (length text)) None

-- `bytes` and `size` fix the answer on every input; `counts` follows from them, for a caller who takes the text out of the buffer
pub record Laid (text old new : List ℕ) (r : Option ℕ) : Type 0 where
  pub bytes : new ≡ laid text old
  pub size : r ≡ laid_length text old
  pub counts : IfSome r (λ n. IsPrefixLen n new)

-- a buffer as long as the longest listing is long enough
abbrev pub Fits : List ℕ → Option ℕ → Type 0
Fits old r = LONGEST ≤ length old → IsSome r

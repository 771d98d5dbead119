-- What the functions that write a piece of a listing do. Assumes nothing.
use Rattle.std.specs.Prelude.{◌≡◌, ℕ, ◌+◌, ◌≤◌, List, ◌++◌}
use Rattle.text.specs.declared.TheConstants.{LONGEST}
use Rattle.arrayvec.specs.ArrayString.{ArrayString, array_string_len}

-- room for n bytes more, in a text that holds the longest listing
abbrev pub HasRoom : ArrayString → ℕ → Type 0
HasRoom t n = array_string_len t + n ≤ LONGEST

-- the text with a piece at its end, of n bytes at most
pub record Adds (old new : ArrayString) (piece : List ℕ) (n : ℕ) : Type 0 where
  pub bytes : new.bytes ≡ old.bytes ++ piece
  pub len : array_string_len new ≤ array_string_len old + n

-- Words and numbers as text. Assumes nothing.
use Rattle.std.specs.Prelude.{ℕ, zero, suc, ◌+◌, ◌/◌, ◌%◌, List, [], ◌∷◌, ◌++◌, ltb}
use Prim.Native.Char.{code}
use Prim.Native.String.{String, [] as []ˢ, ◌∷◌ as ◌∷ˢ◌}
use Rattle.numbers.specs.Choice.{pick}
use Rattle.io.specs.Digits.{last_digits}

-- the bytes of a quoted text of ASCII characters
abbrev pub ascii : String → List ℕ
ascii []ˢ = []
ascii (c ∷ˢ s) = code c ∷ ascii s

-- n in decimal, in at most f digits: below ten its digit; else the digits of n / 10, then the last one
unfoldable pub decimal_by : ℕ → ℕ → List ℕ
decimal_by zero n = []
decimal_by (suc f) n = pick (ltb n 10) ((48 + n) ∷ []) (decimal_by f (n / 10) ++ ((48 + n % 10) ∷ []))

-- 64 bits have at most 20 digits
unfoldable pub decimal : ℕ → List ℕ
decimal n = decimal_by 20 n

-- the low 32 bits of n, as eight digits in base 16, in lower case
unfoldable pub hex8 : ℕ → List ℕ
hex8 n = last_digits 16 8 (n % 4294967296)

-- a word, then a number
unfoldable pub field : List ℕ → ℕ → List ℕ
field s n = s ++ decimal n

-- a line: a key with its `=`, a number, a line feed
unfoldable pub entry : List ℕ → ℕ → List ℕ
entry key n = field key n ++ ascii "\n"

-- RFC 2616, 2.2: a token character is any US-ASCII character that is no control character and no separator.
-- Document 01: ASCII letters are matched in either case. Assumes nothing.
use Rattle.std.specs.Prelude.{ℕ, ◌+◌, Bool, false, not, List, [], ◌∷◌, map, leb, ltb, eqb}
use Rattle.numbers.specs.Choice.{pick, both, either}
use Rattle.strings.specs.Same.{same}

abbrev pub elem : ℕ → List ℕ → Bool
elem x [] = false
elem x (y ∷ ys) = either (eqb x y) (elem x ys)

-- ( ) < > @ , ; : \ " / [ ] ? = { } space and tab
abbrev pub separators : List ℕ
separators = 40 ∷ 41 ∷ 60 ∷ 62 ∷ 64 ∷ 44 ∷ 59 ∷ 58 ∷ 92 ∷ 34 ∷ 47 ∷ 91 ∷ 93 ∷ 63 ∷ 61 ∷ 123 ∷ 125 ∷ 32 ∷ 9 ∷ []

-- 0 to 31 and 127 are control characters; US-ASCII ends at 127
unfoldable pub token : ℕ → Bool
token x = both (both (ltb 31 x) (ltb x 127)) (not (elem x separators))

-- an upper-case letter as its lower-case one, every other byte as itself
unfoldable pub lower : ℕ → ℕ
lower x = pick (both (leb 65 x) (leb x 90)) (x + 32) x

-- the same name, ASCII letters in either case
unfoldable pub same_name : List ℕ → List ℕ → Bool
same_name xs ys = same (map lower xs) (map lower ys)

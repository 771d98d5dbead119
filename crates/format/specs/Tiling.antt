-- Children fill their parent: a run must fill its parent's remaining bytes exactly (document 01, Boxes), said of the boxes reported.
-- Assumes nothing.
use Rattle.std.specs.Prelude.{◌≡◌, ℕ, ◌+◌, Bool, true, List, [], ◌∷◌, leb, ltb, eqb}
use Rattle.numbers.specs.Choice.{pick, both}
use Rattle.strings.specs.Headers.{Each}
use Rattle.format.specs.Kinds.{holds_run}
use Rattle.format.specs.Boxes.{Box, kind, start}

-- boxes lie end to end, from an offset to another
abbrev pub Tiles : ℕ → ℕ → List Box → Type 0
Tiles a e [] = a ≡ e
Tiles a e (x ∷ xs) = (x.at ≡ a) × Tiles (a + x.size) e xs

-- the boxes of one depth
abbrev pub level : ℕ → List Box → List Box
level d [] = []
level d (x ∷ xs) = pick (eqb x.depth d) (x ∷ level d xs) (level d xs)

-- the boxes one deeper than x that start in its bytes
abbrev pub is_in : Box → Box → Bool
is_in x y = both (eqb y.depth (x.depth + 1)) (both (leb x.at y.at) (ltb y.at (x.at + x.size)))

abbrev pub children_of : Box → List Box → List Box
children_of x [] = []
children_of x (y ∷ ys) = pick (is_in x y) (y ∷ children_of x ys) (children_of x ys)

-- the top's boxes fill the n bytes of the file, and each box that holds a run is filled from the end of its fields to its own end
pub record Tiled (n : ℕ) (log : List Box) : Type 0 where
  pub top : Tiles 0 n (level 0 log)
  pub nested : Each (λ x. holds_run (kind x) ≡ true → Tiles (start x) (x.at + x.size) (children_of x log)) log

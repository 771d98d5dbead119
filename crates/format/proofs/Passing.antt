-- What judge asks, taken apart: of the types of each run, of each box after the boxes before it, and of each odda and the ohdr before it.
-- Assumes nothing.
use mathlib.Core.Path.{◌≡◌}
use Prim.Native.Nat.{ℕ}
use mathlib.Core.Bool.{true, false}
use mathlib.Core.List.{List, [], ◌∷◌, ◌++◌}
use lib.ListN.{length}
use lib.Dec.{leb}
use Rattle.numbers.specs.Choice.{pick, both}
use Rattle.format.specs.declared.Place.{Place}
use Rattle.format.specs.declared.Kind.{Kind}
use Rattle.format.specs.declared.Kind.TheVariants.{Odrm, Ohdr, Odda}
use Rattle.format.specs.declared.Seen.{Seen}
use Rattle.format.specs.Kinds.{kind_of, same_kind, inside}
use Rattle.format.specs.Tree.{Run, end, bad, leaf, node, kind_at}
use Rattle.format.specs.Fields.{method, plaintext, data_length}
use Rattle.format.specs.Boxes.{Box, kind, room}
use Rattle.format.specs.Allowed.{types}
use Rattle.format.specs.Judge.{nothing, note, misplaced, missing, cut, newer, wrong_method, wrong_length, malformed, agrees, wrong_data, again, ids, last_ohdr}

-- ---- one run: 5 for a ninth odrm, and 6

abbrev pub Fit : Place → Seen → Kind → Type 0
Fit c n k = (both (same_kind k Odrm) (leb 8 n.odrms) ≡ false) × (misplaced c n k ≡ false)

abbrev pub Scanned : Place → Seen → List ℕ → Type 0
Scanned c n [] = missing c n ≡ false
Scanned c n (t ∷ ts) = Fit c n (kind_of c t) × Scanned c (note n (kind_of c t)) ts

-- every run inside a run
abbrev pub Nested : Place → Run → Type 0
Nested c end = Unit {0}
Nested c (bad k s) = ⊥
Nested c (leaf h b r) = Nested c r
Nested c (node h f k r) = Scanned (inside (kind_at c h)) nothing (types k) × Nested (inside (kind_at c h)) k × Nested c r

-- ---- one box after the boxes of the log: 5 for a row, and 7 to 13

pub record Fine (cap : ℕ) (log : List Box) (x : Box) : Type 0 where
  pub row : leb cap (length log) ≡ false
  pub whole : cut (kind x) (room x) x.fields ≡ false
  pub old : newer (kind x) x.fields ≡ false
  pub methods : wrong_method (kind x) x.fields ≡ false
  pub lengths : wrong_length (kind x) x.fields ≡ false
  pub headers : malformed (kind x) x.fields ≡ false
  pub lengths-agree : wrong_data (kind x) (room x) (method (last_ohdr log)) (plaintext (last_ohdr log)) x.fields ≡ false
  pub fresh : again (kind x) (ids log) x.fields ≡ false

abbrev pub Clear : ℕ → List Box → List Box → Type 0
Clear cap log [] = Unit {0}
Clear cap log (x ∷ xs) = Fine cap log x × Clear cap (log ++ (x ∷ [])) xs

-- ---- the data length of each odda, with o the last ohdr before

abbrev pub Agreed : Box → List Box → Type 0
Agreed o [] = Unit {0}
Agreed o (x ∷ xs) =
    (same_kind (kind x) Odda ≡ true → agrees (method o.fields) (plaintext o.fields) (data_length x.fields) ≡ true)
    × Agreed (pick (same_kind (kind x) Ohdr) x o) xs

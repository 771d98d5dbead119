-- Trees of boxes: a box's contents are a run of boxes, and a run is made of boxes (document 01, Boxes). Header bytes are kept as they are.
-- Every list of bytes is the bytes of exactly one tree, whose last part may be a header that breaks number 2, 3 or 4; no other rule is
-- known here. Assumes nothing.
use Rattle.std.specs.Prelude.{◌≡◌, ℕ, zero, suc, ◌+◌, ◌-◌, Bool, true, false, List, [], ◌++◌, length, take, drop, leb, eqb}
use Rattle.numbers.specs.Choice.{pick, both}
use Rattle.format.specs.declared.Place.{Place}
use Rattle.format.specs.declared.Kind.{Kind}
use Rattle.format.specs.Kinds.{ODDA, kind_of, fields_length, holds_run, inside}
use Rattle.format.specs.Header.{header_length, size_of, type_of, header_fault}

pub data Run : Type 0 where
  end : Run
  bad : ℕ → List ℕ → Run  -- a header that breaks this number, and all that is left of the run
  leaf : List ℕ → List ℕ → Run → Run  -- header, bytes after it; the boxes that follow
  node : List ℕ → List ℕ → Run → Run → Run  -- header, fields, the boxes inside; the boxes that follow

abbrev pub encode : Run → List ℕ
encode end = []
encode (bad k s) = s
encode (leaf h b r) = h ++ (b ++ encode r)
encode (node h f k r) = h ++ (f ++ (encode k ++ encode r))

abbrev pub kind_at : Place → List ℕ → Kind
kind_at c h = kind_of c (type_of h)

-- a box holds a run where its kind does and its fields leave room for one
unfoldable pub opens : Kind → List ℕ → Bool
opens k b = both (holds_run k) (leb (fields_length k b) (length b))

-- a header of its form's length, whose size is an allowed one and counts the header and the n bytes after it; left are the bytes from
-- the header on to the end of the run
pub record Headed (c : Place) (left : ℕ) (h : List ℕ) (n : ℕ) : Type 0 where
  pub form : length h ≡ header_length h
  pub sized : size_of c left h ≡ length h + n
  pub long : type_of h ≡ ODDA → length h ≡ 16

-- the trees that bytes have, in a place: headers tell their boxes' lengths, and a box holds a run where it opens
abbrev pub Good : Place → Run → Type 0
Good c end = Unit {0}
Good c (bad k s) = (length s ≡ 0 → ⊥) × (header_fault c s ≡ k) × (k ≡ 0 → ⊥)
Good c (leaf h b r) = Headed c (length (encode (leaf h b r))) h (length b) × (opens (kind_at c h) b ≡ false) × Good c r
Good c (node h f k r) =
    Headed c (length (encode (node h f k r))) h (length f + length (encode k))
    × ((holds_run (kind_at c h) ≡ true) × (fields_length (kind_at c h) f ≡ length f))
    × Good (inside (kind_at c h)) k × Good c r

-- ---- the tree of a run's bytes

abbrev pub head_of : List ℕ → List ℕ
head_of s = take (header_length s) s

abbrev pub body_of : Place → List ℕ → List ℕ
body_of c s = take (size_of c (length s) s - header_length s) (drop (header_length s) s)

abbrev pub rest_of : Place → List ℕ → List ℕ
rest_of c s = drop (size_of c (length s) s) s

unfoldable pub grow : Kind → List ℕ → List ℕ → (Place → List ℕ → Run) → Run → Run
grow k h b go r =
    pick (opens k b) (node h (take (fields_length k b) b) (go (inside k) (drop (fields_length k b) b)) r) (leaf h b r)

-- the first argument is at least the number of bytes
unfoldable pub parse : ℕ → Place → List ℕ → Run
parse zero c s = pick (eqb (length s) 0) end (bad 1 s)
parse (suc n) c s =
    pick (eqb (length s) 0) end
    (pick (eqb (header_fault c s) 0)
    (grow (kind_at c (head_of s)) (head_of s) (body_of c s) (parse n) (parse n c (rest_of c s)))
    (bad (header_fault c s) s))

-- The boxes of a tree in file order, and what is known of each: no byte of it but its header and its fields. Assumes nothing.
use Rattle.std.specs.Prelude.{ℕ, ◌+◌, ◌-◌, List, [], ◌∷◌, ◌++◌, length, take, eqb}
use Rattle.format.specs.declared.Place.{Place}
use Rattle.format.specs.declared.Place.TheVariants.{Top}
use Rattle.format.specs.declared.Kind.{Kind}
use Rattle.format.specs.declared.Spot.{Spot}
use Rattle.numbers.specs.Choice.{pick}
use Rattle.format.specs.Kinds.{ODRM, kind_of, same_kind, fields_length, inside}
use Rattle.format.specs.Header.{type_of}
use Rattle.format.specs.Tree.{Run, end, bad, leaf, node, encode, kind_at}

pub record Box : Type 0 where
  pub place : Place
  pub depth : ℕ
  pub at : ℕ
  pub size : ℕ
  pub skip : ℕ
  pub type : ℕ
  pub fields : List ℕ

-- no box
abbrev pub no_box : Box
no_box = record { place = Top; depth = 0; at = 0; size = 0; skip = 0; type = 0; fields = [] }

abbrev pub top : Spot
top = record { place = Top; depth = 0; own = 0 }

abbrev pub kind : Box → Kind
kind x = kind_of x.place x.type

-- the number of bytes after its header
abbrev pub room : Box → ℕ
room x = x.size - x.skip

-- a box of n bytes after its header, which start with b
abbrev pub box_of : Spot → ℕ → List ℕ → ℕ → List ℕ → Box
box_of q at h n b = record {
  place = q.place;
  depth = q.depth;
  at = at;
  size = length h + n;
  skip = length h;
  type = type_of h;
  fields = take (fields_length (kind_at q.place h) b) b;
}

-- the run in a box
abbrev pub into : Spot → Box → Spot
into q x = record { place = inside (kind x); depth = q.depth + 1; own = x.at }

-- the boxes of a run that starts at an offset
abbrev pub boxes : Spot → ℕ → Run → List Box
boxes q at end = []
boxes q at (bad k s) = []
boxes q at (leaf h b r) = box_of q at h (length b) b ∷ boxes q (at + (length h + length b)) r
boxes q at (node h f k r) =
    let n : ℕ = length f + length (encode k) in
    let x : Box = box_of q at h n f in
    x ∷ (boxes (into q x) (at + (length h + length f)) k ++ boxes q (at + (length h + n)) r)

-- the boxes of a kind
abbrev pub only : Kind → List Box → List Box
only k [] = []
only k (x ∷ xs) = pick (same_kind (kind x) k) (x ∷ only k xs) (only k xs)

-- ---- containers: an odrm, its first box, the odhe, the first box in that, the ohdr, and its second box, the odda

pub record Container : Type 0 where
  pub odrm : Box
  pub odhe : Box
  pub ohdr : Box
  pub odda : Box

-- the first box of a run, the run inside it and the run after it
abbrev pub first_of : Spot → ℕ → Run → Box
first_of q at end = no_box
first_of q at (bad k s) = no_box
first_of q at (leaf h b r) = box_of q at h (length b) b
first_of q at (node h f k r) = box_of q at h (length f + length (encode k)) f

abbrev pub inside_first : Run → Run
inside_first end = end
inside_first (bad k s) = end
inside_first (leaf h b r) = end
inside_first (node h f k r) = k

abbrev pub after_first : Run → Run
after_first end = end
after_first (bad k s) = end
after_first (leaf h b r) = r
after_first (node h f k r) = r

-- where the run in a box starts
abbrev pub start : Box → ℕ
start x = x.at + (x.skip + length x.fields)

abbrev pub container_of : Box → Run → Container
container_of x k =
    let odhe : Box = first_of (into top x) (start x) k in
    record {
      odrm = x;
      odhe = odhe;
      ohdr = first_of (into (into top x) odhe) (start odhe) (inside_first k);
      odda = first_of (into top x) (odhe.at + odhe.size) (after_first k);
    }

-- the containers of the run at the top
abbrev pub containers : ℕ → Run → List Container
containers at end = []
containers at (bad k s) = []
containers at (leaf h b r) = containers (at + (length h + length b)) r
containers at (node h f k r) =
    let n : ℕ = length f + length (encode k) in
    pick (eqb (type_of h) ODRM) (container_of (box_of top at h n f) k ∷ []) [] ++ containers (at + (length h + n)) r

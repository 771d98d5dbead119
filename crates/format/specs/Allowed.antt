-- What document 01 allows, on a tree of boxes: Boxes and Bounds, a definition for each of their sentences. Assumes nothing.
use Rattle.std.specs.Prelude.{◌≡◌, ◌⊎◌, ℕ, ◌+◌, ◌*◌, ◌/◌, ◌%◌, ◌≤◌, ◌<◌, List, [], ◌∷◌, map, length, get_or, eqb}
use Rattle.numbers.specs.Choice.{pick}
use Rattle.strings.specs.Headers.{Each, Textual}
use Rattle.format.specs.declared.Place.{Place}
use Rattle.format.specs.declared.Place.TheVariants.{Top, InOdrm, InOdhe, InOhdr, InMdri}
use Rattle.format.specs.declared.Kind.{Kind}
use Rattle.format.specs.declared.Kind.TheVariants.{Ftyp, Odrm, Odhe, Ohdr, Odda, Mdri, Odtt, Odrb, Udta, Other}
use Rattle.format.specs.declared.PlaintextLength.{PlaintextLength}
use Rattle.format.specs.declared.DataLength.{DataLength}
use Rattle.format.specs.Kinds.{FTYP, ODRM, ODHE, OHDR, ODDA, MDRI, ODTT, UDTA, ODCF, six, fields_length, inside}
use Rattle.format.specs.Header.{type_of}
use Rattle.format.specs.Tree.{Run, end, bad, leaf, node, encode, kind_at, Good}
use Rattle.format.specs.Fields.{version, major_brand, type_length, method, padding, plaintext, id_length, content_id, textual_headers, data_length}
use Rattle.format.specs.Boxes.{Box, top, kind, room, boxes, Container, containers}

-- ---- what stands in a run: the types of its boxes, in order

abbrev pub types : Run → List ℕ
types end = []
types (bad k s) = []
types (leaf h b r) = type_of h ∷ types r
types (node h f k r) = type_of h ∷ types r

abbrev pub count : ℕ → List ℕ → ℕ
count x [] = 0
count x (y ∷ ys) = pick (eqb y x) 1 0 + count x ys

-- "Others" are boxes of any type but these six
abbrev pub IsOther : ℕ → Type 0
IsOther t = Each (λ s. t ≡ s → ⊥) six

-- At the top: ftyp first; one to eight odrm; at most one mdri, after the last odrm; others anywhere after ftyp
pub record TopRun (ts : List ℕ) : Type 0 where
  pub first : get_or ts 0 0 ≡ FTYP
  pub ftyp : count FTYP ts ≡ 1
  pub odrm : (1 ≤ count ODRM ts) × (count ODRM ts ≤ 8)
  pub mdri : count MDRI ts ≤ 1
  pub last : (i j : ℕ) → get_or ts i 0 ≡ MDRI → get_or ts j 0 ≡ ODRM → j < i
  pub none : (count ODHE ts ≡ 0) × (count OHDR ts ≡ 0) × (count ODDA ts ≡ 0)

-- odrm: odhe, odda, then others
pub record OdrmRun (ts : List ℕ) : Type 0 where
  pub rest : List ℕ
  pub starts : ts ≡ ODHE ∷ (ODDA ∷ rest)
  pub others : Each IsOther rest

-- odhe: ohdr, then at most one udta
abbrev pub OdheRun : List ℕ → Type 0
OdheRun ts = (ts ≡ OHDR ∷ []) ⊎ (ts ≡ OHDR ∷ (UDTA ∷ []))

-- mdri: others, at most one odtt
pub record MdriRun (ts : List ℕ) : Type 0 where
  pub others : Each IsOther ts
  pub odtt : count ODTT ts ≤ 1

abbrev pub Ordered : Place → List ℕ → Type 0
Ordered Top ts = TopRun ts
Ordered InOdrm ts = OdrmRun ts
Ordered InOdhe ts = OdheRun ts
Ordered InOhdr ts = Each IsOther ts
Ordered InMdri ts = MdriRun ts

-- every run inside a run is in order, and boxes fill every run to its end
abbrev pub Filled : Place → Run → Type 0
Filled c end = Unit {0}
Filled c (bad k s) = ⊥
Filled c (leaf h b r) = Filled c r
Filled c (node h f k r) = Ordered (inside (kind_at c h)) (types k) × Filled (inside (kind_at c h)) k × Filled c r

-- ---- the fields of each box

-- Method 0 takes padding 0, method 1 (CBC) padding 1, method 2 (CTR) padding 0
abbrev pub MethodTakes : ℕ → ℕ → Type 0
MethodTakes m p = ((m ≡ 0) × (p ≡ 0)) ⊎ (((m ≡ 1) × (p ≡ 1)) ⊎ ((m ≡ 2) × (p ≡ 0)))

-- With plaintext length P, a data length D that is not 0 must be: method 0, D = P or P = 0; method 1, D = 16 + 16 × (P / 16 + 1), the
-- quotient rounded down; method 2, D = 16 + P. D = 0 is allowed with every method and P.
abbrev pub LengthsAgree : ℕ → PlaintextLength → DataLength → Type 0
LengthsAgree m p d =
    (d.0 ≡ 0)
    ⊎ (((m ≡ 0) × ((d.0 ≡ p.0) ⊎ (p.0 ≡ 0)))
    ⊎ (((m ≡ 1) × (d.0 ≡ 16 + 16 * (p.0 / 16 + 1)))
    ⊎ ((m ≡ 2) × (d.0 ≡ 16 + p.0))))

-- what the fields of a box of this kind say; n is the number of bytes after its header, f its fields
abbrev pub Says : Kind → ℕ → List ℕ → Type 0
Says Ftyp n f = (n % 4 ≡ 0) × (major_brand f ≡ ODCF)
Says Odrm n f = version f ≡ 0
Says Odhe n f = (version f ≡ 0) × ((1 ≤ type_length f) × (type_length f ≤ 255))
Says Ohdr n f =
    (version f ≡ 0) × MethodTakes (method f) (padding f) × ((1 ≤ id_length f) × (id_length f ≤ 256)) × Textual (textual_headers f)
Says Odda n f = (version f ≡ 0) × (12 + (data_length f).0 ≤ n)
Says Mdri n f = Unit {0}
Says Odtt n f = (version f ≡ 0) × (n ≡ 20)
Says Odrb n f = version f ≡ 0
Says Udta n f = Unit {0}
Says Other n f = Unit {0}

pub record Fielded (x : Box) : Type 0 where
  pub fit : fields_length (kind x) x.fields ≤ room x
  pub says : Says (kind x) (room x) x.fields

-- ---- the whole file

-- no two are the same
abbrev pub Distinct : List (List ℕ) → Type 0
Distinct xs = (i j : ℕ) → i < j → j < length xs → get_or xs i [] ≡ get_or xs j [] → ⊥

abbrev pub Agreeing : Container → Type 0
Agreeing c = LengthsAgree (method c.ohdr.fields) (plaintext c.ohdr.fields) (data_length c.odda.fields)

abbrev pub id_of : Container → List ℕ
id_of c = content_id c.ohdr.fields

-- cap is the number of boxes that may be reported: 256, or fewer where the lent list of rows is shorter
pub record Allowed (cap : ℕ) (t : Run) : Type 0 where
  pub good : Good Top t  -- headers and sizes
  pub short : length (encode t) ≤ 16777216  -- file 16,777,216 bytes
  pub few : length (boxes top 0 t) ≤ cap
  pub ordered : Ordered Top (types t)  -- what stands at the top
  pub filled : Filled Top t  -- what stands in each box, and that boxes fill it
  pub fielded : Each Fielded (boxes top 0 t)  -- fields
  pub agreeing : Each Agreeing (containers 0 t)  -- data lengths
  pub distinct : Distinct (map id_of (containers 0 t))  -- ContentIDs

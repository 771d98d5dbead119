-- A box header (document 01, Boxes): a 32-bit size, then a four-byte type; size 1 means that a 64-bit size follows the type.
-- Here s is what is left of the run that the box stands in, and c the place of that run. Assumes nothing.
use Rattle.std.specs.Prelude.{ℕ, Bool, List, ltb, eqb, length}
use Rattle.numbers.specs.Choice.{pick, both, either}
use Rattle.numbers.specs.Big.{num}
use Rattle.format.specs.declared.Place.{Place}
use Rattle.format.specs.Kinds.{ODDA}

-- long form, 16 bytes, or short form, 8 bytes
unfoldable pub header_length : List ℕ → ℕ
header_length s = pick (eqb (num 4 s 0) 1) 16 8

-- the size counts the header; it may depend on the place and on how many bytes are left, and by today's rules does not
unfoldable pub size_of : Place → ℕ → List ℕ → ℕ
size_of c left s = pick (eqb (num 4 s 0) 1) (num 8 s 8) (num 4 s 0)

unfoldable pub type_of : List ℕ → ℕ
type_of s = num 4 s 4

-- number 2: bytes left cannot hold a box header
abbrev pub too_few : List ℕ → Bool
too_few s = ltb (length s) (header_length s)

-- number 3: sizes 0 and 2 to 7, and a long size below 16; odda not in long form
abbrev pub size_wrong : Place → List ℕ → Bool
size_wrong c s = either (ltb (size_of c (length s) s) (header_length s)) (both (eqb (type_of s) ODDA) (eqb (header_length s) 8))

-- number 4: box ends after its parent or the file
abbrev pub past_end : Place → List ℕ → Bool
past_end c s = ltb (length s) (size_of c (length s) s)

-- the first of these that a header breaks, or 0
unfoldable pub header_fault : Place → List ℕ → ℕ
header_fault c s = pick (too_few s) 2 (pick (size_wrong c s) 3 (pick (past_end c s) 4 0))

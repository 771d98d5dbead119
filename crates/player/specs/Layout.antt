-- The bytes of an answer, as include/dcf.h names them: numbers of eight bytes each, laid out as the machine does. Assumes nothing.
use Rattle.std.specs.Prelude.{ℕ, zero, suc, ◌+◌, ◌*◌, ◌/◌, ◌%◌, List, [], ◌∷◌, ◌++◌, flat_map}
use Rattle.format.specs.declared.Row.{Row}
use Rattle.format.specs.declared.Full.{Full}
use Rattle.format.specs.declared.Stretch.{Stretch}
use Rattle.format.specs.declared.Summary.{Summary}
use Rattle.format.specs.declared.Reading.{Reading}

-- the low k bytes of n, the lowest first
unfoldable pub le : ℕ → ℕ → List ℕ
le zero n = []
le (suc k) n = n % 256 ∷ le k (n / 256)

-- the number that bytes are, the lowest first
unfoldable pub value : List ℕ → ℕ
value [] = 0
value (b ∷ bs) = b + 256 * value bs

-- eight bytes for each number
unfoldable pub words : List ℕ → List ℕ
words [] = []
words (n ∷ ns) = le 8 n ++ words ns

-- ---- the numbers of an answer, in their order

-- struct dcf_row
abbrev pub row_numbers : Row → List ℕ
row_numbers x = x.offset ∷ x.size ∷ x.depth ∷ x.boxtype ∷ []

-- struct dcf_full: a row, then the flags
abbrev pub full_numbers : Full → List ℕ
full_numbers x = row_numbers x.row ++ (x.flags ∷ [])

-- struct dcf_stretch
abbrev pub stretch_numbers : Stretch → List ℕ
stretch_numbers x = x.offset ∷ x.length ∷ []

-- struct dcf_summary
abbrev pub fulls_numbers : Summary → List ℕ
fulls_numbers x = full_numbers x.odrm ++ full_numbers x.odhe ++ full_numbers x.ohdr ++ full_numbers x.odda

abbrev pub method_numbers : Summary → List ℕ
method_numbers x = x.method ∷ x.padding ∷ x.plaintextlength.0 ∷ x.datalength.0 ∷ []

abbrev pub stretches_numbers : Summary → List ℕ
stretches_numbers x =
    stretch_numbers x.contenttype ++ stretch_numbers x.contentid ++ stretch_numbers x.issuer ++ stretch_numbers x.headers
    ++ stretch_numbers x.content

abbrev pub summary_numbers : Summary → List ℕ
summary_numbers x = fulls_numbers x ++ method_numbers x ++ stretches_numbers x

-- struct dcf_answer up to its summaries
abbrev pub count_numbers : Reading → List ℕ
count_numbers r = r.boxes ∷ r.containers ∷ r.mdri ∷ r.rights ∷ r.free ∷ r.transaction ∷ []

-- struct dcf_answer up to its rows
abbrev pub reading_numbers : Reading → List ℕ
reading_numbers r = count_numbers r ++ flat_map summary_numbers r.summaries

abbrev pub answer_numbers : Reading → List Row → List ℕ
answer_numbers r rows = reading_numbers r ++ flat_map row_numbers rows

unfoldable pub answer_bytes : Reading → List Row → List ℕ
answer_bytes r rows = words (answer_numbers r rows)

-- Textual header: reading, 21, 22. The value is that of the first entry with that name, ASCII letters matched in either case (document 01).
-- Assumes nothing.
use Rattle.std.specs.Prelude.{ℕ, zero, suc, ◌+◌, ◌≤◌, List, [], ◌∷◌, length, take, drop, eqb, Option, Some, None}
use Rattle.numbers.specs.Choice.{pick}
use Rattle.strings.specs.Headers.{Entry, Textual, index, lookup}
use Rattle.format.specs.declared.Stretch.{Stretch}
use Rattle.format.specs.Fields.{textual_headers}
use Rattle.format.specs.Boxes.{Box}
use Rattle.format.specs.Judge.{read_of}
use Rattle.format.specs.Report.{no_stretch, summary_of, bytes_in}
use Rattle.stretches.specs.Given.{refusal_of, log_of, given}
use Rattle.stretches.specs.Content.{container_at, unless_no_container, summary_in}

-- ---- the entries of a field

-- what stands before the first of a byte, and what stands behind it
abbrev pub before : ℕ → List ℕ → List ℕ
before z s = take (index z s) s

abbrev pub behind : ℕ → List ℕ → List ℕ
behind z s = drop (index z s + 1) s

-- a name up to a colon, a value up to a zero byte, and so on; the first argument is at least the number of entries
unfoldable pub entries_in : ℕ → List ℕ → List Entry
entries_in zero s = []
entries_in (suc n) s =
    pick (eqb (length s) 0) []
    (record { name = before 58 s; value = before 0 (behind 58 s) } ∷ entries_in n (behind 0 (behind 58 s)))

abbrev pub entries_of : List ℕ → List Entry
entries_of s = entries_in (length s) s

-- where the value of the first entry of a name starts in a field, and its length
abbrev pub value_in : List ℕ → List ℕ → Option (ℕ × ℕ)
value_in field name = lookup name (entries_of field) 0

-- ---- the number and the stretch

-- 22: no textual header of that name
abbrev pub found_number : Option (ℕ × ℕ) → ℕ
found_number (Some v) = 0
found_number None = 22

-- a place in a field as one of the file
abbrev pub found_in : Stretch → Option (ℕ × ℕ) → Stretch
found_in p (Some (start, length)) = record { offset = p.offset + start; length = length }
found_in p None = no_stretch

-- the value of a name among the textual headers of the container of an index
abbrev pub value_at : List Box → ℕ → List ℕ → Option (ℕ × ℕ)
value_at log i name = value_in (textual_headers (container_at log i).ohdr.fields) name

-- where it stands in a file
unfoldable pub header_in : List ℕ → ℕ → List ℕ → Stretch
header_in s i name = found_in (summary_in s i).headers (value_at (log_of (read_of 256 s)) i name)

unfoldable pub textual_header_refusal : List ℕ → ℕ → List ℕ → ℕ
textual_header_refusal s i name = refusal_of (read_of 256 s) (λ log. unless_no_container log i (found_number (value_at log i name)))

unfoldable pub textual_header_of : List ℕ → ℕ → List ℕ → Stretch
textual_header_of s i name =
    let log : List Box = log_of (read_of 256 s) in
    given (textual_header_refusal s i name) (found_in (summary_of (container_at log i)).headers (value_at log i name))

-- a stretch of a file that is textual headers
pub record HeadersIn (s : List ℕ) (p : Stretch) : Type 0 where
  pub inside : p.offset + p.length ≤ length s
  pub textual : Textual (bytes_in s p)

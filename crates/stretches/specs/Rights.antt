-- Rights data: reading, 14, 17. A rights object's data is the very stretch of the file (document 01). Assumes nothing.
use Rattle.std.specs.Prelude.{◌≡◌, ℕ, ◌+◌, ◌-◌, ◌<◌, List, length, get_or, ltb, eqb}
use Rattle.numbers.specs.Choice.{pick}
use Rattle.format.specs.declared.Kind.TheVariants.{Mdri, Odrb}
use Rattle.format.specs.declared.Stretch.{Stretch}
use Rattle.format.specs.Boxes.{Box, no_box, only}
use Rattle.format.specs.Judge.{done, read_of}
use Rattle.format.specs.Report.{mdri_at}
use Rattle.stretches.specs.Given.{refusal_of, log_of, given}

-- the rights object of an odrb: after its version and flags, up to its end
abbrev pub rights_in : Box → Stretch
rights_in x = record { offset = x.at + x.skip + 4; length = x.size - (x.skip + 4) }

-- the odrb boxes of mdri are counted in file order
abbrev pub odrb_at : List Box → ℕ → Box
odrb_at log i = get_or (only Odrb log) i no_box

-- 14: no mdri; 17: no rights object of that index
abbrev pub rights_number : List Box → ℕ → ℕ
rights_number log i = pick (eqb (length (only Mdri log)) 0) 14 (pick (ltb i (length (only Odrb log))) 0 17)

unfoldable pub rights_data_refusal : List ℕ → ℕ → ℕ
rights_data_refusal s i = refusal_of (read_of 256 s) (λ log. rights_number log i)

unfoldable pub rights_data_of : List ℕ → ℕ → Stretch
rights_data_of s i = given (rights_data_refusal s i) (rights_in (odrb_at (log_of (read_of 256 s)) i))

-- an accepted file whose mdri stands at this offset and has a rights object of that index
pub record RightsAt (s : List ℕ) (mdri i : ℕ) : Type 0 where
  pub log : List Box
  pub read : read_of 256 s ≡ done log
  pub here : mdri ≡ mdri_at log
  pub some : i < length (only Odrb log)

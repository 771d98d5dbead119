-- A ContentID among those kept: one at a time. Assumes nothing.
use mathlib.Core.Path.{◌≡◌, ◌∙◌}
use Prim.Native.Nat.{ℕ, ◌+◌, ◌-◌}
use native.Mathlib.Omega.{arith}
use mathlib.Core.Bool.{Bool}
use mathlib.Core.List.{List, map}
use lib.ListN.{take, drop}
use Rattle.format.specs.declared.Stretch.{Stretch}
use Rattle.format.specs.Fields.{id_length, content_id}
use Rattle.format.specs.Judge.{among}
use Rattle.format.proofs.Slices.{part_slice}
use Rattle.format.specs.Report.{bytes_in}

-- among those of a list of stretches
abbrev pub within : List ℕ → List ℕ → List Stretch → Bool
within x s l = among x (map (bytes_in s) l)

-- the ContentID as it is read
pub id_read : (b : List ℕ) (n : ℕ) → n ≡ id_length b → take (20 + n - 20) (drop 20 b) ≡ content_id b
id_read b n e = part_slice 20 (20 + n) b (omega arith) ∙ rw e

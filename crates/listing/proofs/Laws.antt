-- The rows that reading leaves in its room are those of the file's listing. Assumes nothing.
use mathlib.Core.Path.{◌≡◌, refl, ap, ◌∙◌}
use Prim.Native.Nat.{ℕ, min}
use native.Mathlib.Omega.{arith}
use mathlib.Core.List.{List}
use lib.ListN.{length, length-map}
use lib.Seq.{take_at}
use Rattle.format.specs.declared.Row.{Row}
use Rattle.format.specs.declared.Reading.{Reading}
use Rattle.format.specs.Judge.{Out, fault, done, read_of}
use Rattle.format.specs.Report.{row_of, rows, answer_of}
use Rattle.format.proofs.Exact.{reported}
use Rattle.rows.specs.Finding.{rows_after, ReadRows}
use Rattle.text.specs.Text.{listing_of, boxes_of, file_text, shown}

-- the rows shown of what reading left in the room
shown-rows : (s : List ℕ) (room : List Row) (o : Out) → read_of 256 s ≡ o → shown (answer_of o) (rows_after o room) ≡ rows (boxes_of o)
unfolding shown answer_of rows_after
shown-rows s room (fault k p) e = refl
shown-rows s room (done log) e =
    let p = reported 256 s log e in
    let few : min (length log) 256 ≡ length log = omega (arith, ap length p.boxes-of, p.allowed.few) in
    rw few (take_at (rows log) _ (length log) (length-map log row_of))

pub file-text : {s : List ℕ} {room room' : List Row} {r : Reading} → ReadRows s room r room' → length room ≡ 256 → listing_of r (shown r room') ≡ file_text s
unfolding file_text
file-text {s} {room} {room'} {r} k h =
    let a : r ≡ answer_of (read_of 256 s) = k.answer ∙ rw h in
    let b : room' ≡ rows_after (read_of 256 s) room = k.rows ∙ rw h in
    rw (a, b, shown-rows s room (read_of 256 s) refl)

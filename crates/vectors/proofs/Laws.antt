-- A reading counts no more boxes than rows are lent. Assumes nothing.
use Rattle.std.proofs.Common.{◌≡◌, ℕ, ◌≤◌, min, List, ◌++◌, length, ap, arith}
use Rattle.std.proofs.lemmas.List.{length-append}
use Rattle.format.specs.declared.Row.{Row}
use Rattle.format.specs.declared.Reading.{Reading}
use Rattle.format.proofs.Exact.{boxes-few}
use Rattle.rows.specs.Finding.{ReadRows}

pub boxes_fit : {s : List ℕ} {old new : List Row} {r : Reading} (rest : List Row) → ReadRows s old r new → length new ≡ length old → r.boxes ≤ length (new ++ rest)
boxes_fit {s} {old} {new} {r} rest a e =
    omega (arith, e, ap (λ x. x.boxes) a.answer, boxes-few (min 256 (length old)) s, length-append new rest)

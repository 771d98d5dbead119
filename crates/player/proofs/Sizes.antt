-- How long an answer is: 2,224 bytes before the rows, and 32 for each row. Assumes nothing.
use mathlib.Core.Path.{◌≡◌, refl, ◌∙◌}
use Prim.Native.Nat.{ℕ, ◌+◌, ◌*◌}
use native.Mathlib.Nat.{mul-suc}
use native.Mathlib.Omega.{arith}
use mathlib.Core.List.{List, [], ◌∷◌}
use lib.ListN.{length, length-append}
use Rattle.std.specs.List.{flat_map}
use Rattle.format.specs.declared.Row.{Row}
use Rattle.format.specs.declared.Reading.{Reading}
use Rattle.player.specs.Layout.{row_numbers, summary_numbers, reading_numbers, answer_numbers, answer_bytes}
use Rattle.player.proofs.Laws.{length-words}

-- values of k numbers each
length-each : {X : Type 0} (f : X → List ℕ) (k : ℕ) → ((x : X) → length (f x) ≡ k) → (xs : List X) → length (flat_map f xs) ≡ k * length xs
length-each f k h [] = omega arith
length-each f k h (x ∷ xs) = length-append (f x) (flat_map f xs) ∙ rw (h x, length-each f k h xs, mul-suc) (omega arith)

pub length-reading : (r : Reading) → length r.summaries ≡ 8 → length (reading_numbers r) ≡ 278
length-reading r e = omega (arith, length-each summary_numbers 34 (λ x. refl) r.summaries, e)

pub length-rows : (l : List Row) → length (flat_map row_numbers l) ≡ 4 * length l
length-rows = length-each row_numbers 4 (λ x. refl)

pub length-answer : (r : Reading) (l : List Row) → length r.summaries ≡ 8 → length (answer_bytes r l) ≡ 2224 + 32 * length l
unfolding answer_bytes
length-answer r l e =
    omega (arith, length-words (answer_numbers r l), length-append (reading_numbers r) (flat_map row_numbers l), length-reading r e, length-rows l)

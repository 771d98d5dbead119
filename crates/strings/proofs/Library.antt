-- What std promises of a comparison, a fold and a search, in the words of specs/. Assumes nothing.
use mathlib.Core.Path.{◌≡◌, refl, sym, ap, ap₂, ◌∙◌}
use Prim.Native.Nat.{ℕ, ◌<◌}
use native.Mathlib.Omega.{arith}
use mathlib.Core.Bool.{Bool, true, false}
use mathlib.Core.List.{List, [], ◌∷◌, map}
use mathlib.Core.Logic.{◌≢◌}
use lib.ListN.{length}
use lib.Dec.{eqb}
use borrow.Author.Tests.{eq-eqb, ne_eqb}
use denote.Enum.Bare.{sameb}
use Rattle.std.specs.Prelude.{nat_eq, ◌&&◌, IsTrue, ◌↔◌, Option, MatchOption, unwrap_or}
use Rattle.std.specs.Char.{to_ascii_lowercase}
use Rattle.std.specs.Cmp.Lexicographic.{pointwise}
use Rattle.std.specs.List.{fold, AllWithin, HoldsAt}
use Rattle.std.proofs.lemmas.Bool.Decides.{nat_tests}
use Rattle.std.proofs.lemmas.Iterator.{index_from_first}
use Rattle.numbers.specs.Choice.{both}
use Rattle.strings.specs.Same.{same}
use Rattle.strings.specs.Characters.{lower, same_name}
use Rattle.strings.specs.Headers.{next, after, is_start, textual, index}
use Rattle.strings.specs.contracts.Part.{the_type}
use Rattle.strings.specs.declared.Part.{Part}
use Rattle.strings.specs.declared.Part.TheVariants.{Start, Name, Value, Bad}
use Rattle.strings.proofs.Laws.{same_true, same_refl}

-- `==` on slices
pub same_slices : (xs ys : List ℕ) → pointwise nat_eq xs ys ≡ same xs ys
unfolding same
same_slices [] [] = refl
same_slices [] (y ∷ ys) = refl
same_slices (x ∷ xs) [] = refl
same_slices (x ∷ xs) (y ∷ ys) = go (eqb x y) (same_slices xs ys)
  where
    go : {a b : Bool} (t : Bool) → a ≡ b → (t && a) ≡ both t b
    go true e = e
    go false e = refl

-- `to_ascii_lowercase`
lower_byte : (x : ℕ) → to_ascii_lowercase x ≡ lower x
unfolding lower
lower_byte x = grind (arith, nat_tests)

lower_bytes : (xs : List ℕ) → map to_ascii_lowercase xs ≡ map lower xs
lower_bytes [] = refl
lower_bytes (x ∷ xs) = ap₂ ◌∷◌ (lower_byte x) (lower_bytes xs)

-- `eq_ignore_ascii_case`
pub same_names : (xs ys : List ℕ) (r : Bool) → IsTrue r ↔ (map to_ascii_lowercase xs ≡ map to_ascii_lowercase ys) → r ≡ same_name xs ys
unfolding same_name
same_names xs ys true h =
    sym (ap (same (map lower xs)) (sym (lower_bytes ys) ∙ sym (h.0 refl) ∙ lower_bytes xs) ∙ same_refl (map lower xs))
same_names xs ys false h = go (same (map lower xs) (map lower ys)) refl
  where
    go : (t : Bool) → same (map lower xs) (map lower ys) ≡ t → false ≡ t
    go true e = h.1 (lower_bytes xs ∙ same_true _ _ e ∙ sym (lower_bytes ys))
    go false e = refl

-- `fold`, and the derived `==`
after_fold : (p : Part) (xs : List ℕ) → fold next p xs ≡ after p xs
unfolding after
after_fold p [] = refl
after_fold p (x ∷ xs) = after_fold (next p x) xs

start_equals : (p : Part) → sameb the_type p Start ≡ is_start p
start_equals Start = refl
start_equals Name = refl
start_equals Value = refl
start_equals Bad = refl

pub textual_fold : (xs : List ℕ) (p : Part) → p ≡ fold next Start xs → sameb the_type p Start ≡ textual xs
unfolding textual
textual_fold xs p e = start_equals p ∙ ap is_start (e ∙ after_fold Start xs)

-- `position`, or the length
pub index_first : (z : ℕ) (xs : List ℕ) (r : Option ℕ)
    → MatchOption r (AllWithin (λ x. x ≢ z) xs 0 (length xs)) (λ i. (i < length xs) × HoldsAt (λ x. x ≡ z) xs i × AllWithin (λ x. x ≢ z) xs 0 i)
    → unwrap_or r (length xs) ≡ index z xs
unfolding index
index_first z xs r h =
    sym (index_from_first (index z) (λ x. x ≡ z) (λ x. x ≢ z) refl (λ x ys e. rw (eq-eqb x z e)) (λ x ys n. rw (ne_eqb x z n)) xs r h)

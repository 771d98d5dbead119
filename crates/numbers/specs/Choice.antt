-- Choices by a truth value, and what follows from them. Assumes nothing.
use Rattle.std.specs.Prelude.{◌≡◌, refl, ℕ, suc, Bool, true, false}
use Rattle.std.proofs.Common.{arith}

abbrev pub pick {ℓ} : {A : Type ℓ} → Bool → A → A → A
pick true a b = a
pick false a b = b

abbrev pub both : Bool → Bool → Bool
both true b = b
both false b = false

abbrev pub either : Bool → Bool → Bool
either true b = true
either false b = b

pub true-not-false : false ≡ true → ⊥
true-not-false e = let z : ◌≡◌ {A = ℕ} 0 1 = cc in omega arith

-- what holds of each side holds of the pick
pub pick-by {ℓ} : {A : Type 0} (P : A → Type ℓ) (t : Bool) (a b : A) → (t ≡ true → P a) → (t ≡ false → P b) → P (pick t a b)
pick-by P true a b f g = f refl
pick-by P false a b f g = g refl

-- a rule's number is none only where its test fails
pub pick-zero : (t : Bool) (n x : ℕ) → pick t (suc n) x ≡ 0 → (t ≡ false) × (x ≡ 0)
pick-zero true n x e = absurd (omega arith)
pick-zero false n x e = (refl, e)

pub both_true : (a b : Bool) → both a b ≡ true → (a ≡ true) × (b ≡ true)
both_true true b e = (refl, e)
both_true false b e = absurd (true-not-false e)

pub either-false : (a b : Bool) → either a b ≡ false → (a ≡ false) × (b ≡ false)
either-false true b e = absurd (true-not-false (cc))
either-false false b e = (refl, e)

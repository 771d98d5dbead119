-- What an answer or the rule of a broken number says of the number. Assumes nothing.
use mathlib.Core.Path.{◌≡◌, refl}
use Prim.Native.Nat.{ℕ}
use mathlib.Core.Bool.{Bool, true, false}
use lib.Dec.{eqb}
use borrow.Author.Tests.{eqb-true, eqb-false}
use Rattle.std.specs.Prelude.{Ok, Err}
use Rattle.numbers.specs.Choice.{pick}
use Rattle.format.specs.declared.Rule.{Rule}
use Rattle.format.specs.Numbers.{rule_of, unless_broken}

-- an answer: the number is none
pub answered : {A : Type 0} (n : ℕ) (x y : A) → unless_broken n x ≡ Ok y → (n ≡ 0) × (x ≡ y)
answered n x y = go (eqb n 0) refl
  where
    go : (t : Bool) → eqb n 0 ≡ t → pick t (Ok x) (Err (rule_of n)) ≡ Ok y → (n ≡ 0) × (x ≡ y)
    go true f e = (eqb-true _ _ f, cc)
    go false f e = absurd (cc)

-- a rule: it is that of the number
pub broken : {A : Type 0} (n : ℕ) (x : A) (r : Rule) → unless_broken n x ≡ Err r → (n ≡ 0 → ⊥) × (rule_of n ≡ r)
broken n x r = go (eqb n 0) refl
  where
    go : (t : Bool) → eqb n 0 ≡ t → pick t (Ok x) (Err (rule_of n)) ≡ Err r → (n ≡ 0 → ⊥) × (rule_of n ≡ r)
    go true f e = absurd (cc)
    go false f e = (eqb-false _ _ f, cc)

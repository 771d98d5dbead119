-- What the reader tests of a box's fields is what the paper says of them, kind by kind. Assumes nothing.
use mathlib.Core.Path.{◌≡◌, refl, sym, ◌∙◌}
use mathlib.Core.Logic.{◌⊎◌, inl, inr}
use Prim.Native.Nat.{ℕ, ◌+◌, ◌*◌, ◌/◌, ◌≤◌}
use mathlib.Core.Bool.{Bool, true, false, not}
use mathlib.Core.List.{List}
use lib.Dec.{ltb, eqb}
use borrow.Author.Tests.{ltb-false, le-ltb, eqb-true, eq-eqb, not-false}
use Rattle.numbers.specs.Choice.{both, either, both_true, either-false, true-not-false}
use Rattle.strings.proofs.Laws.{textual-good, good-textual}
use Rattle.format.specs.declared.Kind.{Kind}
use Rattle.format.specs.declared.Kind.TheVariants.{Ftyp, Odrm, Odhe, Ohdr, Odda, Mdri, Odtt, Odrb, Udta, Other}
use Rattle.format.specs.declared.PlaintextLength.{PlaintextLength}
use Rattle.format.specs.declared.DataLength.{DataLength}
use Rattle.format.specs.Kinds.{fields_length, kind_number, same_kind}
use Rattle.format.specs.Fields.{type_length, data_length}
use Rattle.format.specs.Allowed.{MethodTakes, LengthsAgree, Says}
use Rattle.format.specs.Judge.{ragged, cut, newer, takes, wrong_method, outside, wrong_length, malformed, agrees}

-- ---- tests

pub clash : {A : Type 0} {b : Bool} → b ≡ false → b ≡ true → A
clash f t = absurd (true-not-false (sym f ∙ t))

pub either_true : (a b : Bool) → either a b ≡ true → (a ≡ true) ⊎ (b ≡ true)
either_true true b e = inl refl
either_true false b e = inr e

pub true-either : (a b : Bool) → (a ≡ true) ⊎ (b ≡ true) → either a b ≡ true
true-either true b e = refl
true-either false b (inl e) = absurd (true-not-false e)
true-either false b (inr e) = e

pub true-both : (a b : Bool) → a ≡ true → b ≡ true → both a b ≡ true
true-both true b e f = f
true-both false b e f = absurd (true-not-false e)

pub false-either : (a b : Bool) → a ≡ false → b ≡ false → either a b ≡ false
false-either true b e f = absurd (true-not-false (sym e))
false-either false b e f = f

-- a test that is asked only under another
pub under : (a b : Bool) → both a b ≡ false → a ≡ true → b ≡ false
under true b e f = e
under false b e f = absurd (true-not-false f)

pub under_all : (a b : Bool) → (a ≡ true → b ≡ false) → both a b ≡ false
under_all true b f = f refl
under_all false b f = refl

same_number : (a b : ℕ) → not (eqb a b) ≡ false → a ≡ b
same_number a b e = eqb-true a b (not-false (eqb a b) e)

number_same : (a b : ℕ) → a ≡ b → not (eqb a b) ≡ false
number_same a b e = rw (eq-eqb a b e)

within : (most n : ℕ) → outside most n ≡ false → (1 ≤ n) × (n ≤ most)
within most n e = let p = either-false (ltb n 1) _ e in (ltb-false n 1 p.0, ltb-false most n p.1)

not-outside : (most n : ℕ) → (1 ≤ n) × (n ≤ most) → outside most n ≡ false
not-outside most n p = false-either (ltb n 1) (ltb most n) (le-ltb n 1 p.0) (le-ltb most n p.1)

-- ---- methods

pair : (a b c d : ℕ) → both (eqb a b) (eqb c d) ≡ true → (a ≡ b) × (c ≡ d)
pair a b c d e = let p = both_true (eqb a b) _ e in (eqb-true a b p.0, eqb-true c d p.1)

pair-back : (a b c d : ℕ) → (a ≡ b) × (c ≡ d) → both (eqb a b) (eqb c d) ≡ true
pair-back a b c d p = true-both _ _ (eq-eqb a b p.0) (eq-eqb c d p.1)

takes-true : (m p : ℕ) → takes m p ≡ true → MethodTakes m p
unfolding takes
takes-true m p e = first (either_true (both (eqb m 0) (eqb p 0)) _ e)
  where
    second : (both (eqb m 1) (eqb p 1) ≡ true) ⊎ (both (eqb m 2) (eqb p 0) ≡ true) → ((m ≡ 1) × (p ≡ 1)) ⊎ ((m ≡ 2) × (p ≡ 0))
    second (inl a) = inl (pair m 1 p 1 a)
    second (inr a) = inr (pair m 2 p 0 a)

    first : (both (eqb m 0) (eqb p 0) ≡ true) ⊎ (either (both (eqb m 1) (eqb p 1)) (both (eqb m 2) (eqb p 0)) ≡ true) → MethodTakes m p
    first (inl a) = inl (pair m 0 p 0 a)
    first (inr a) = inr (second (either_true _ _ a))

true-takes : (m p : ℕ) → MethodTakes m p → takes m p ≡ true
unfolding takes
true-takes m p (inl a) = rw (pair-back m 0 p 0 a)
true-takes m p (inr (inl a)) = true-either (both (eqb m 0) (eqb p 0)) _ (inr (rw (pair-back m 1 p 1 a)))
true-takes m p (inr (inr a)) =
    true-either (both (eqb m 0) (eqb p 0)) _ (inr (true-either (both (eqb m 1) (eqb p 1)) _ (inr (pair-back m 2 p 0 a))))

-- ---- the two lengths

abbrev Plain : PlaintextLength → DataLength → Type 0
Plain p d = (d.0 ≡ p.0) ⊎ (p.0 ≡ 0)

pub agrees-true : (m : ℕ) (p : PlaintextLength) (d : DataLength) → agrees m p d ≡ true → LengthsAgree m p d
unfolding agrees
agrees-true m p d e = first (either_true (eqb d.0 0) _ e)
  where
    plain : (eqb d.0 p.0 ≡ true) ⊎ (eqb p.0 0 ≡ true) → Plain p d
    plain (inl a) = inl (eqb-true _ _ a)
    plain (inr a) = inr (eqb-true _ _ a)

    zeroth : both (eqb m 0) (either (eqb d.0 p.0) (eqb p.0 0)) ≡ true → (m ≡ 0) × Plain p d
    zeroth a = let q = both_true (eqb m 0) _ a in (eqb-true m 0 q.0, plain (either_true _ _ q.1))

    third : (both (eqb m 1) (eqb d.0 (16 + 16 * (p.0 / 16 + 1))) ≡ true) ⊎ (both (eqb m 2) (eqb d.0 (16 + p.0)) ≡ true)
        → ((m ≡ 1) × (d.0 ≡ 16 + 16 * (p.0 / 16 + 1))) ⊎ ((m ≡ 2) × (d.0 ≡ 16 + p.0))
    third (inl a) = inl (pair m 1 _ _ a)
    third (inr a) = inr (pair m 2 _ _ a)

    second : (both (eqb m 0) (either (eqb d.0 p.0) (eqb p.0 0)) ≡ true)
        ⊎ (either (both (eqb m 1) (eqb d.0 (16 + 16 * (p.0 / 16 + 1)))) (both (eqb m 2) (eqb d.0 (16 + p.0))) ≡ true)
        → ((m ≡ 0) × Plain p d) ⊎ (((m ≡ 1) × (d.0 ≡ 16 + 16 * (p.0 / 16 + 1))) ⊎ ((m ≡ 2) × (d.0 ≡ 16 + p.0)))
    second (inl a) = inl (zeroth a)
    second (inr a) = inr (third (either_true _ _ a))

    first : (eqb d.0 0 ≡ true)
        ⊎ (either (both (eqb m 0) (either (eqb d.0 p.0) (eqb p.0 0)))
        (either (both (eqb m 1) (eqb d.0 (16 + 16 * (p.0 / 16 + 1)))) (both (eqb m 2) (eqb d.0 (16 + p.0)))) ≡ true) → LengthsAgree m p d
    first (inl a) = inl (eqb-true _ _ a)
    first (inr a) = inr (second (either_true _ _ a))

plain-true : (p : PlaintextLength) (d : DataLength) → Plain p d → either (eqb d.0 p.0) (eqb p.0 0) ≡ true
plain-true p d (inl a) = rw (eq-eqb _ _ a)
plain-true p d (inr a) = true-either (eqb d.0 p.0) _ (inr (eq-eqb _ _ a))

pub true-agrees : (m : ℕ) (p : PlaintextLength) (d : DataLength) → LengthsAgree m p d → agrees m p d ≡ true
unfolding agrees
true-agrees m p d (inl a) = rw (eq-eqb _ _ a)
true-agrees m p d (inr (inl a)) = true-either (eqb d.0 0) _ (inr (rw (eq-eqb m 0 a.0, plain-true p d a.1)))
true-agrees m p d (inr (inr a)) =
    true-either (eqb d.0 0) _ (inr (true-either (both (eqb m 0) (either (eqb d.0 p.0) (eqb p.0 0))) _ (inr (rest a))))
  where
    rest : ((m ≡ 1) × (d.0 ≡ 16 + 16 * (p.0 / 16 + 1))) ⊎ ((m ≡ 2) × (d.0 ≡ 16 + p.0))
        → either (both (eqb m 1) (eqb d.0 (16 + 16 * (p.0 / 16 + 1)))) (both (eqb m 2) (eqb d.0 (16 + p.0))) ≡ true
    rest (inl a) = rw (pair-back m 1 _ _ a)
    rest (inr a) = true-either (both (eqb m 1) (eqb d.0 (16 + 16 * (p.0 / 16 + 1)))) _ (inr (pair-back m 2 _ _ a))

-- ---- the fields of a box of a kind

pub record Tested (k : Kind) (n : ℕ) (f : List ℕ) : Type 0 where
  pub whole : cut k n f ≡ false
  pub old : newer k f ≡ false
  pub method : wrong_method k f ≡ false
  pub lengths : wrong_length k f ≡ false
  pub headers : malformed k f ≡ false
  pub held : same_kind k Odda ≡ true → 12 + (data_length f).0 ≤ n

pub tested-fit : (k : Kind) (n : ℕ) (f : List ℕ) → Tested k n f → fields_length k f ≤ n
unfolding cut
tested-fit k n f t = ltb-false n _ (either-false (ltb n (fields_length k f)) _ t.whole).0

tested-ragged : (k : Kind) (n : ℕ) (f : List ℕ) → Tested k n f → ragged k n ≡ false
unfolding cut
tested-ragged k n f t = (either-false (ltb n (fields_length k f)) _ t.whole).1

pub tested-says : (k : Kind) (n : ℕ) (f : List ℕ) → Tested k n f → Says k n f
unfolding ragged newer wrong_method wrong_length malformed same_kind kind_number
tested-says Ftyp n f t = (same_number _ _ (tested-ragged Ftyp n f t), same_number _ _ t.old)
tested-says Odrm n f t = same_number _ _ t.old
tested-says Odhe n f t = (same_number _ _ t.old, within 255 _ (either-false (outside 255 (type_length f)) _ t.lengths).0)
tested-says Ohdr n f t = (
  same_number _ _ t.old,
  takes-true _ _ (not-false _ t.method),
  within 256 _ t.lengths,
  good-textual _ (not-false _ t.headers),
)
tested-says Odda n f t = (same_number _ _ t.old, t.held refl)
tested-says Mdri n f t = tt
tested-says Odtt n f t = (same_number _ _ t.old, same_number _ _ (tested-ragged Odtt n f t))
tested-says Odrb n f t = same_number _ _ t.old
tested-says Udta n f t = tt
tested-says Other n f t = tt

whole-cut : (k : Kind) (n : ℕ) (f : List ℕ) → fields_length k f ≤ n → ragged k n ≡ false → cut k n f ≡ false
unfolding cut
whole-cut k n f l r = false-either _ _ (le-ltb n _ l) r

-- a box that holds no content
tested : (k : Kind) (n : ℕ) (f : List ℕ) → fields_length k f ≤ n → ragged k n ≡ false → newer k f ≡ false → wrong_method k f ≡ false
    → wrong_length k f ≡ false → malformed k f ≡ false → same_kind k Odda ≡ false → Tested k n f
tested k n f l r v m w h o = record {
  whole = whole-cut k n f l r;
  old = v;
  method = m;
  lengths = w;
  headers = h;
  held = clash o;
}

pub says-tested : (k : Kind) (n : ℕ) (f : List ℕ) → fields_length k f ≤ n → Says k n f → Tested k n f
unfolding ragged newer wrong_method wrong_length malformed same_kind kind_number
says-tested Ftyp n f l s = tested Ftyp n f l (number_same _ _ s.0) (number_same _ _ s.1) refl refl refl refl
says-tested Odrm n f l s = tested Odrm n f l refl (number_same _ _ s) refl refl refl refl
says-tested Odhe n f l s = tested Odhe n f l refl (number_same _ _ s.0) refl (false-either _ _ (not-outside 255 _ s.1) refl) refl refl
says-tested Ohdr n f l s =
    tested Ohdr n f l refl (number_same _ _ s.0) (rw (true-takes _ _ s.1)) (not-outside 256 _ s.2) (rw (textual-good _ s.3)) refl
says-tested Odda n f l s = record {
  whole = whole-cut Odda n f l refl;
  old = number_same _ _ s.0;
  method = refl;
  lengths = refl;
  headers = refl;
  held = λ _. s.1;
}
says-tested Mdri n f l s = tested Mdri n f l refl refl refl refl refl refl
says-tested Odtt n f l s = tested Odtt n f l (number_same _ _ s.1) (number_same _ _ s.0) refl refl refl refl
says-tested Odrb n f l s = tested Odrb n f l refl (number_same _ _ s) refl refl refl refl
says-tested Udta n f l s = tested Udta n f l refl refl refl refl refl refl
says-tested Other n f l s = tested Other n f l refl refl refl refl refl refl

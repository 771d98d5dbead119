-- Stretches of bytes that test the same are the same; a field is well formed just if it is the bytes of good entries, and these
-- are the only ones. Assumes nothing.
use mathlib.Core.Path.{◌≡◌, refl, sym, ap, ap₂, ◌∙◌}
use Prim.Native.Nat.{ℕ, suc, ◌≤◌, ◌<◌}
use native.Mathlib.Omega.{arith}
use mathlib.Core.Bool.{Bool, true, false}
use mathlib.Core.List.{List, [], ◌∷◌, ◌++◌, append_assoc}
use lib.ListN.{length, get_or}
use lib.Dec.{eqb}
use borrow.Author.Tests.{eqb-true, eqb-false, eq-eqb, ne_eqb}
use Rattle.numbers.specs.Choice.{pick, both, both_true, pick-by, true-not-false}
use Rattle.strings.specs.Same.{same}
use Rattle.strings.specs.Characters.{token}
use Rattle.strings.specs.Headers.{Each, Entry, GoodEntry, entry_bytes, field_of, Textual, next, after, is_start, textual}
use Rattle.strings.specs.declared.Part.{Part}
use Rattle.strings.specs.declared.Part.TheVariants.{Start, Name, Value, Bad}

-- ---- the same bytes

pub same_true : (xs ys : List ℕ) → same xs ys ≡ true → xs ≡ ys
unfolding same
same_true [] [] e = refl
same_true [] (y ∷ ys) e = absurd (true-not-false e)
same_true (x ∷ xs) [] e = absurd (true-not-false e)
same_true (x ∷ xs) (y ∷ ys) e =
    let b = both_true (eqb x y) (same xs ys) e in
    ap₂ ◌∷◌ (eqb-true x y b.0) (same_true xs ys b.1)

pub same_refl : (xs : List ℕ) → same xs xs ≡ true
unfolding same
same_refl [] = refl
same_refl (x ∷ xs) = rw (eq-eqb x x refl) (same_refl xs)

pub same_false : (xs ys : List ℕ) → same xs ys ≡ false → xs ≡ ys → ⊥
same_false xs ys e p = true-not-false (sym e ∙ ap (same xs) (sym p) ∙ same_refl xs)

-- at some index of the first
abbrev pub Differ : List ℕ → List ℕ → Type 0
Differ xs ys = (k : ℕ) × (k < length xs) × (get_or xs k 0 ≡ get_or ys k 0 → ⊥)

-- stretches of one length that are not the same differ; the edit smaller_byte cites it, so that its right twin is proved
pub bytes_differ : (xs ys : List ℕ) → same xs ys ≡ false → length xs ≡ length ys → Differ xs ys
unfolding same
bytes_differ [] [] f l = absurd (true-not-false (sym f))
bytes_differ [] (y ∷ ys) f l = absurd (omega arith)
bytes_differ (x ∷ xs) [] f l = absurd (omega arith)
bytes_differ (x ∷ xs) (y ∷ ys) f l = go (eqb x y) refl f (λ g. bytes_differ xs ys g (omega arith))
  where
    go : (t : Bool) → eqb x y ≡ t → both t (same xs ys) ≡ false → (same xs ys ≡ false → Differ xs ys) → Differ (x ∷ xs) (y ∷ ys)
    go true e g h = let r = h g in (suc r.0, omega (arith, r.1), r.2)
    go false e g h = (0, omega arith, eqb-false x y e)

-- ---- token characters

pub token-colon : token 58 ≡ false
unfolding token
token-colon = refl

-- a byte that is no token character stands in no list of them
pub without : (z : ℕ) → token z ≡ false → (xs : List ℕ) → Each (λ x. token x ≡ true) xs → Each (λ x. x ≡ z → ⊥) xs
without z f [] h = tt
without z f (x ∷ xs) h = ((λ e. true-not-false (sym f ∙ ap token (sym e) ∙ h.0)), without z f xs h.1)

-- ---- the parts of an entry, byte by byte

pub after-append : (p : Part) (xs ys : List ℕ) → after p (xs ++ ys) ≡ after (after p xs) ys
unfolding after
after-append p [] ys = refl
after-append p (x ∷ xs) ys = after-append (next p x) xs ys

after-name : (xs ys : List ℕ) → Each (λ x. token x ≡ true) xs → after Name (xs ++ ys) ≡ after Name ys
unfolding after next
after-name [] ys h = refl
after-name (x ∷ xs) ys h =
    ap (λ (t : Bool). after (pick t Name (pick (eqb x 58) Value Bad)) (xs ++ ys)) h.0 ∙ after-name xs ys h.1

after-value : (xs ys : List ℕ) → Each (λ x. x ≡ 0 → ⊥) xs → after Value (xs ++ ys) ≡ after Value ys
unfolding after next
after-value [] ys h = refl
after-value (x ∷ xs) ys h =
    ap (λ (t : Bool). after (pick t Start Value) (xs ++ ys)) (ne_eqb x 0 h.0) ∙ after-value xs ys h.1

after_first_lem : (xs ys : List ℕ) → 1 ≤ length xs → Each (λ x. token x ≡ true) xs → after Start (xs ++ ys) ≡ after Name ys
unfolding after next
after_first_lem [] ys l h = absurd (omega arith)
after_first_lem (x ∷ xs) ys l h = ap (λ (t : Bool). after (pick t Name Bad) (xs ++ ys)) h.0 ∙ after-name xs ys h.1

after-colon : (ys : List ℕ) → after Name (58 ∷ ys) ≡ after Value ys
unfolding after next
after-colon ys = rw token-colon

after-zero : (ys : List ℕ) → after Value (0 ∷ ys) ≡ after Start ys
unfolding after next
after-zero ys = refl

-- the bytes of an entry, and what comes after it
pub entry-split : (e : Entry) (t : List ℕ) → entry_bytes e ++ t ≡ e.name ++ (58 ∷ (e.value ++ (0 ∷ t)))
entry-split e t = append_assoc e.name _ t ∙ ap (λ (l : List ℕ). e.name ++ (58 ∷ l)) (append_assoc e.value (0 ∷ []) t)

after-entry : (e : Entry) (t : List ℕ) → GoodEntry e → after Start (entry_bytes e ++ t) ≡ after Start t
after-entry e t g =
    ap (after Start) (entry-split e t) ∙ after_first_lem e.name _ g.named g.tokens
    ∙ after-colon _ ∙ after-value e.value (0 ∷ t) g.filled ∙ after-zero t

after-field : (es : List Entry) → Each GoodEntry es → after Start (field_of es) ≡ Start
unfolding after
after-field [] g = refl
after-field (e ∷ es) g = after-entry e (field_of es) g.0 ∙ after-field es g.1

-- a field that is the bytes of good entries passes the test
pub textual-good : (s : List ℕ) → Textual s → textual s ≡ true
unfolding textual
textual-good s t = ap (λ (l : List ℕ). is_start (after Start l)) t.bytes ∙ ap is_start (after-field t.entries t.good)

-- what is left of a well-formed field, from a place in a name or in a value on
record InName (s : List ℕ) : Type 0 where
  name : List ℕ
  value : List ℕ
  entries : List Entry
  tokens : Each (λ x. token x ≡ true) name
  filled : Each (λ x. x ≡ 0 → ⊥) value
  good : Each GoodEntry entries
  bytes : s ≡ name ++ (58 ∷ (value ++ (0 ∷ field_of entries)))

record InValue (s : List ℕ) : Type 0 where
  value : List ℕ
  entries : List Entry
  filled : Each (λ x. x ≡ 0 → ⊥) value
  good : Each GoodEntry entries
  bytes : s ≡ value ++ (0 ∷ field_of entries)

abbrev Left : Part → List ℕ → Type 0
Left Start s = Textual s
Left Name s = InName s
Left Value s = InValue s
Left Bad s = ⊥

first-of-name : (x : ℕ) (xs : List ℕ) → token x ≡ true → InName xs → Textual (x ∷ xs)
first-of-name x xs t i =
    let e : Entry = record { name = x ∷ i.name; value = i.value } in
    record {
      entries = e ∷ i.entries;
      good = (record { named = omega arith; tokens = (t, i.tokens); filled = i.filled }, i.good);
      bytes = ap (λ (l : List ℕ). x ∷ l) i.bytes ∙ sym (entry-split e (field_of i.entries));
    }

more-of-name : (x : ℕ) (xs : List ℕ) → token x ≡ true → InName xs → InName (x ∷ xs)
more-of-name x xs t i = record {
  name = x ∷ i.name;
  value = i.value;
  entries = i.entries;
  tokens = (t, i.tokens);
  filled = i.filled;
  good = i.good;
  bytes = ap (λ (l : List ℕ). x ∷ l) i.bytes;
}

end-of-name : (x : ℕ) (xs : List ℕ) → x ≡ 58 → InValue xs → InName (x ∷ xs)
end-of-name x xs e i = record {
  name = [];
  value = i.value;
  entries = i.entries;
  tokens = tt;
  filled = i.filled;
  good = i.good;
  bytes = ap₂ ◌∷◌ e i.bytes;
}

more-of-value : (x : ℕ) (xs : List ℕ) → (x ≡ 0 → ⊥) → InValue xs → InValue (x ∷ xs)
more-of-value x xs h i = record {
  value = x ∷ i.value;
  entries = i.entries;
  filled = (h, i.filled);
  good = i.good;
  bytes = ap (λ (l : List ℕ). x ∷ l) i.bytes;
}

end-of-value : (x : ℕ) (xs : List ℕ) → x ≡ 0 → Textual xs → InValue (x ∷ xs)
end-of-value x xs e t = record {
  value = [];
  entries = t.entries;
  filled = tt;
  good = t.good;
  bytes = ap₂ ◌∷◌ e t.bytes;
}

left : (p : Part) (s : List ℕ) → is_start (after p s) ≡ true → Left p s
unfolding after next
left Start [] e = record { entries = []; good = tt; bytes = refl }
left Name [] e = absurd (true-not-false e)
left Value [] e = absurd (true-not-false e)
left Bad [] e = true-not-false e
left Start (x ∷ xs) e =
    pick-by (λ (q : Part). is_start (after q xs) ≡ true → Textual (x ∷ xs)) (token x) Name Bad
    (λ t f. first-of-name x xs t (left Name xs f)) (λ t f. absurd (left Bad xs f)) e
left Name (x ∷ xs) e =
    pick-by (λ (q : Part). is_start (after q xs) ≡ true → InName (x ∷ xs)) (token x) Name (pick (eqb x 58) Value Bad)
    (λ t f. more-of-name x xs t (left Name xs f))
    (λ _. pick-by (λ (q : Part). is_start (after q xs) ≡ true → InName (x ∷ xs)) (eqb x 58) Value Bad
    (λ t f. end-of-name x xs (eqb-true x 58 t) (left Value xs f)) (λ t f. absurd (left Bad xs f))) e
left Value (x ∷ xs) e =
    pick-by (λ (q : Part). is_start (after q xs) ≡ true → InValue (x ∷ xs)) (eqb x 0) Start Value
    (λ t f. end-of-value x xs (eqb-true x 0 t) (left Start xs f)) (λ t f. more-of-value x xs (eqb-false x 0 t) (left Value xs f)) e
left Bad (x ∷ xs) e = left Bad xs e

-- only such a field passes it
pub good-textual : (s : List ℕ) → textual s ≡ true → Textual s
unfolding textual
good-textual s e = left Start s e

-- ---- a field has one list of entries

-- what stands before the first of a byte, and what stands after it
pub split-unique : (z : ℕ) (xs ys us vs : List ℕ) → Each (λ x. x ≡ z → ⊥) xs → Each (λ x. x ≡ z → ⊥) ys
    → xs ++ (z ∷ us) ≡ ys ++ (z ∷ vs) → (xs ≡ ys) × (us ≡ vs)
split-unique z [] [] us vs f g e = (refl, (cc))
split-unique z [] (y ∷ ys) us vs f g e = absurd (g.0 (cc))
split-unique z (x ∷ xs) [] us vs f g e = absurd (f.0 (cc))
split-unique z (x ∷ xs) (y ∷ ys) us vs f g e =
    let h : x ≡ y = cc in
    let i = split-unique z xs ys us vs f.1 g.1 (cc) in
    (ap₂ ◌∷◌ h i.0, i.1)

abbrev entry_of : List ℕ → List ℕ → Entry
entry_of a b = record { name = a; value = b }

entry-not-empty : (e : Entry) (t : List ℕ) → [] ≡ entry_bytes e ++ t → ⊥
entry-not-empty e t h = go e.name (h ∙ entry-split e t)
  where
    go : (n : List ℕ) → [] ≡ n ++ (58 ∷ (e.value ++ (0 ∷ t))) → ⊥
    go [] k = absurd (cc)
    go (x ∷ n) k = absurd (cc)

pub entries-unique : (xs ys : List Entry) → Each GoodEntry xs → Each GoodEntry ys → field_of xs ≡ field_of ys → xs ≡ ys
entries-unique [] [] f g e = refl
entries-unique [] (y ∷ ys) f g e = absurd (entry-not-empty y (field_of ys) e)
entries-unique (x ∷ xs) [] f g e = absurd (entry-not-empty x (field_of xs) (sym e))
entries-unique (x ∷ xs) (y ∷ ys) f g e =
    let n = split-unique 58 x.name y.name _ _ (without 58 token-colon x.name f.0.tokens) (without 58 token-colon y.name g.0.tokens)
    (sym (entry-split x (field_of xs)) ∙ e ∙ entry-split y (field_of ys)) in
    let v = split-unique 0 x.value y.value _ _ f.0.filled g.0.filled n.1 in
    let h : x ≡ y = ap₂ entry_of n.0 v.0 in
    ap₂ ◌∷◌ h (entries-unique xs ys f.1 g.1 v.1)

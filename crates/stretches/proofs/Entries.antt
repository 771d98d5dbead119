-- The entries of a field that is textual headers are those that it is the bytes of, and a value that is found lies in it.
-- Assumes nothing.
use mathlib.Core.Path.{◌≡◌, refl, sym, ap, ◌∙◌, subst}
use Prim.Native.Nat.{ℕ, zero, suc, ◌+◌, ◌≤◌}
use native.Mathlib.Omega.{arith}
use mathlib.Core.Bool.{Bool, true, false}
use mathlib.Core.List.{List, [], ◌∷◌, ◌++◌, append_assoc}
use lib.ListN.{length, drop, length-append}
use lib.Seq.{slice, take_at, drop-append-add}
use borrow.Author.Tests.{ne_eqb}
use Rattle.format.proofs.Slices.{slice-mid}
use Rattle.numbers.specs.Choice.{pick}
use Rattle.std.specs.Prelude.{Option, Some, None}
use Rattle.strings.specs.Characters.{same_name}
use Rattle.strings.specs.Headers.{Each, Entry, GoodEntry, entry_bytes, field_of, Textual, lookup, Answers}
use Rattle.strings.proofs.Laws.{token-colon, without, entry-split}
use Rattle.strings.proofs.Search.{index_at}
use Rattle.stretches.specs.Header.{before, behind, entries_in, entries_of, value_in}

before_at : (z : ℕ) (xs t : List ℕ) → Each (λ x. x ≡ z → ⊥) xs → before z (xs ++ (z ∷ t)) ≡ xs
before_at z xs t h = take_at xs (z ∷ t) _ (sym (index_at z xs t h))

behind-at : (z : ℕ) (xs t : List ℕ) → Each (λ x. x ≡ z → ⊥) xs → behind z (xs ++ (z ∷ t)) ≡ t
behind-at z xs t h = ap (λ (n : ℕ). drop (n + 1) (xs ++ (z ∷ t))) (index_at z xs t h) ∙ drop-append-add xs (z ∷ t) 1

entry_length : (e : Entry) → length (entry_bytes e) ≡ length e.name + (length e.value + 2)
entry_length e =
    length-append e.name (58 ∷ (e.value ++ (0 ∷ []))) ∙ omega (arith, length-append e.value (0 ∷ []))

field-length : (es : List Entry) → length es ≤ length (field_of es)
field-length [] = omega arith
field-length (e ∷ es) = omega (arith, length-append (entry_bytes e) (field_of es), entry_length e, field-length es)

entries-in : (n : ℕ) (es : List Entry) → Each GoodEntry es → length es ≤ n → entries_in n (field_of es) ≡ es
unfolding entries_in
entries-in zero [] g l = refl
entries-in zero (e ∷ es) g l = absurd (omega arith)
entries-in (suc n) [] g l = refl
entries-in (suc n) (e ∷ es) g l =
    let t : List ℕ = e.value ++ (0 ∷ field_of es) in
    let c = without 58 token-colon e.name g.0.tokens in
    let f : length (e.name ++ (58 ∷ t)) ≡ 0 → ⊥ = λ z. omega (arith, length-append e.name (58 ∷ t)) in
    rw (entry-split e (field_of es), ne_eqb (length (e.name ++ (58 ∷ t))) 0 f, before_at 58 e.name t c, behind-at 58 e.name t c, before_at 0 e.value (field_of es) g.0.filled, behind-at 0 e.value (field_of es) g.0.filled, entries-in n es g.1 (omega arith))

pub entries-of : {s : List ℕ} (t : Textual s) → entries_of s ≡ t.entries
entries-of {s} t = rw t.bytes (entries-in (length (field_of t.entries)) t.entries t.good (field-length t.entries))

-- what the search answers is the value of the first entry of the name
pub found-value : {field name : List ℕ} {r : Option (ℕ × ℕ)} → Textual field → Answers field name r → r ≡ value_in field name
found-value {field} {name} t a = a.said t.entries t.good t.bytes ∙ ap (λ (es : List Entry). lookup name es 0) (sym (entries-of t))

lookup-inside : (name : List ℕ) (es : List Entry) (at a n : ℕ) → lookup name es at ≡ Some (a, n) → a + n ≤ at + length (field_of es)
unfolding lookup
lookup-inside name [] at a n e = let z : ◌≡◌ {A = ℕ} 0 1 = cc in absurd (omega arith)
lookup-inside name (x ∷ es) at a n e = go (same_name x.name name) (lookup-inside name es (at + length (entry_bytes x)) a n) e
  where
    l : length (field_of (x ∷ es)) ≡ length (entry_bytes x) + length (field_of es)
    l = length-append (entry_bytes x) (field_of es)

    go : (b : Bool) → (lookup name es (at + length (entry_bytes x)) ≡ Some (a, n) → a + n ≤ at + length (entry_bytes x) + length (field_of es))
        → pick b (Some (at + length x.name + 1, length x.value)) (lookup name es (at + length (entry_bytes x))) ≡ Some (a, n)
        → a + n ≤ at + length (field_of (x ∷ es))
    go true i f =
        let w : ◌≡◌ {A = ℕ × ℕ} (at + length x.name + 1, length x.value) (a, n) = cc in
        let u : at + length x.name + 1 ≡ a = ap (λ (p : ℕ × ℕ). p.0) w in
        let v : length x.value ≡ n = ap (λ (p : ℕ × ℕ). p.1) w in
        omega (arith, l, entry_length x)
    go false i f = omega (arith, l, i f)

pub value-inside : {field : List ℕ} (name : List ℕ) {a n : ℕ} → Textual field → value_in field name ≡ Some (a, n) → a + n ≤ length field
value-inside {field} name {a} {n} t e =
    let h = lookup-inside name t.entries 0 a n (ap (λ (es : List Entry). lookup name es 0) (sym (entries-of t)) ∙ e) in
    omega (arith, ap length t.bytes)

-- ---- what is found

-- the value at that place of a field is that of the first of these entries with the name
pub record FirstOf (field name : List ℕ) (es : List Entry) (a n : ℕ) : Type 0 where
  pub earlier : List Entry
  pub entry : Entry
  pub others : List Entry
  pub all : es ≡ earlier ++ (entry ∷ others)
  pub none : Each (λ e. same_name e.name name ≡ false) earlier
  pub named : same_name entry.name name ≡ true
  pub value : slice a (a + n) field ≡ entry.value

entry-mid : (pre : List ℕ) (x : Entry) (t : List ℕ) → pre ++ (entry_bytes x ++ t) ≡ (pre ++ (x.name ++ (58 ∷ []))) ++ (x.value ++ (0 ∷ t))
entry-mid pre x t = ap (λ (l : List ℕ). pre ++ l) (entry-split x t) ∙ simp append_assoc

first_of : (name : List ℕ) (es : List Entry) (pre : List ℕ) (at a n : ℕ) → length pre ≡ at → lookup name es at ≡ Some (a, n)
    → FirstOf (pre ++ field_of es) name es a n
unfolding lookup
first_of name [] pre at a n l e = let z : ◌≡◌ {A = ℕ} 0 1 = cc in absurd (omega arith)
first_of name (x ∷ es) pre at a n l e =
    let m : length (pre ++ entry_bytes x) ≡ at + length (entry_bytes x) = length-append pre (entry_bytes x) ∙ omega arith in
    go (same_name x.name name) refl e (first_of name es (pre ++ entry_bytes x) (at + length (entry_bytes x)) a n m)
  where
    go : (b : Bool) → same_name x.name name ≡ b
        → pick b (Some (at + length x.name + 1, length x.value)) (lookup name es (at + length (entry_bytes x))) ≡ Some (a, n)
        → (lookup name es (at + length (entry_bytes x)) ≡ Some (a, n) → FirstOf ((pre ++ entry_bytes x) ++ field_of es) name es a n)
        → FirstOf (pre ++ field_of (x ∷ es)) name (x ∷ es) a n
    go true h f i =
        let w : ◌≡◌ {A = ℕ × ℕ} (at + length x.name + 1, length x.value) (a, n) = cc in
        let u : at + length x.name + 1 ≡ a = ap (λ (p : ℕ × ℕ). p.0) w in
        let v : length x.value ≡ n = ap (λ (p : ℕ × ℕ). p.1) w in
        let k : length (pre ++ (x.name ++ (58 ∷ []))) ≡ a = simp length-append (omega arith) in
        record {
          earlier = [];
          entry = x;
          others = es;
          all = refl;
          none = tt;
          named = h;
          value = rw (entry-mid pre x (field_of es)) (slice-mid (pre ++ (x.name ++ (58 ∷ []))) x.value (0 ∷ field_of es) a (a + n) k (omega (arith, v)));
        }
    go false h f i =
        let r = i f in
        record {
          earlier = x ∷ r.earlier;
          entry = r.entry;
          others = r.others;
          all = ap (λ (l : List Entry). x ∷ l) r.all;
          none = (h, r.none);
          named = r.named;
          value = ap (slice a (a + n)) (sym (append_assoc pre (entry_bytes x) (field_of es))) ∙ r.value;
        }

pub first-value : {field : List ℕ} (name : List ℕ) {a n : ℕ} → Textual field → value_in field name ≡ Some (a, n) → FirstOf field name (entries_of field) a n
first-value {field} name {a} {n} t e =
    let d = entries-of t in
    let f = first_of name t.entries [] 0 a n refl (ap (λ (es : List Entry). lookup name es 0) (sym d) ∙ e) in
    subst (λ (es : List Entry). FirstOf field name es a n) (sym d) (subst (λ (s : List ℕ). FirstOf s name t.entries a n) (sym t.bytes) f)

none_named : (name : List ℕ) (es : List Entry) (at : ℕ) → lookup name es at ≡ None → Each (λ e. same_name e.name name ≡ false) es
unfolding lookup
none_named name [] at e = tt
none_named name (x ∷ es) at e = go (same_name x.name name) refl e (none_named name es (at + length (entry_bytes x)))
  where
    go : (b : Bool) → same_name x.name name ≡ b
        → pick b (Some (at + length x.name + 1, length x.value)) (lookup name es (at + length (entry_bytes x))) ≡ None
        → (lookup name es (at + length (entry_bytes x)) ≡ None → Each (λ e. same_name e.name name ≡ false) es)
        → (same_name x.name name ≡ false) × Each (λ e. same_name e.name name ≡ false) es
    go true h f i = let z : ◌≡◌ {A = ℕ} 0 1 = cc in absurd (omega arith)
    go false h f i = (h, i f)

-- where nothing is found no entry has the name
pub no_value : (field name : List ℕ) → value_in field name ≡ None → Each (λ e. same_name e.name name ≡ false) (entries_of field)
no_value field name e = none_named name (entries_of field) 0 e

-- A search over the entries of a field: what is left of the field is entries, and their answer is the whole field's.
-- Assumes nothing.
use mathlib.Core.Path.{◌≡◌, refl, sym, ap, ap₂, ◌∙◌}
use Prim.Native.Nat.{ℕ, ◌+◌, ◌-◌, ◌≤◌, ◌<◌}
use native.Mathlib.Omega.{arith}
use mathlib.Core.Bool.{Bool, true, false}
use mathlib.Core.List.{List, [], ◌∷◌, ◌++◌}
use lib.ListN.{length, take, drop, length-append, length-drop}
use lib.Seq.{take_at, drop-append-add}
use borrow.Author.Tests.{eqb-true, eqb-false, eq-eqb, ne_eqb}
use Rattle.std.specs.Prelude.{◌==◌, Option, Some, None}
use Rattle.std.proofs.lemmas.List.{take_rest, nil_from_length}
use Rattle.strings.specs.Characters.{same_name}
use Rattle.strings.specs.Headers.{Each, Entry, GoodEntry, entry_bytes, field_of, Textual, textual, index, lookup, Answers}
use Rattle.strings.proofs.Laws.{token-colon, without, entry-split, textual-good, good-textual, entries-unique}

-- `&s[k..]`
abbrev pub past : ℕ → List ℕ → List ℕ
past k s = take (length s - k) (drop k s)

length_past : (k : ℕ) (s : List ℕ) → length (past k s) ≡ length s - k
length_past k s = ap length (take_rest s k) ∙ length-drop k s

-- ---- where a byte is first

pub index_at : (z : ℕ) (xs t : List ℕ) → Each (λ x. x ≡ z → ⊥) xs → index z (xs ++ (z ∷ t)) ≡ length xs
unfolding index
index_at z [] t h = rw (eq-eqb z z refl)
index_at z (x ∷ xs) t h = rw (ne_eqb x z h.0) (omega (arith, index_at z xs t h.1))

record First (s xs t : List ℕ) (k : ℕ) : Type 0 where
  place : k ≡ length xs
  inside : k < length s
  before : take k s ≡ xs
  later : past (k + 1) s ≡ t

first : (z : ℕ) (s xs t : List ℕ) (k : ℕ) → Each (λ x. x ≡ z → ⊥) xs → s ≡ xs ++ (z ∷ t) → k ≡ index z s → First s xs t k
first z s xs t k h d e =
    let p : k ≡ length xs = e ∙ ap (index z) d ∙ index_at z xs t h in
    let l : length s ≡ length (xs ++ (z ∷ t)) = ap length d in
    let m : length (xs ++ (z ∷ t)) ≡ length xs + length (z ∷ t) = length-append xs (z ∷ t) in
    let n : k + 1 ≡ length xs + 1 = omega arith in
    record {
      place = p;
      inside = omega arith;
      before = ap (take k) d ∙ take_at xs (z ∷ t) k (omega arith);
      later = take_rest s (k + 1) ∙ ap₂ drop n d ∙ drop-append-add xs (z ∷ t) 1;
    }

-- ---- an entry, and what is left after it

record Opened (s : List ℕ) : Type 0 where
  entry : Entry
  rest : List Entry
  good : GoodEntry entry
  rest-good : Each GoodEntry rest
  bytes : s ≡ entry_bytes entry ++ field_of rest

opened : (s : List ℕ) → textual s ≡ true → (length s == 0) ≡ false → Opened s
opened s h l = let t = good-textual s h in go t.entries t.good t.bytes
  where
    go : (es : List Entry) → Each GoodEntry es → s ≡ field_of es → Opened s
    go [] g b = absurd (eqb-false (length s) 0 l (ap length b))
    go (x ∷ es) g b = record { entry = x; rest = es; good = g.0; rest-good = g.1; bytes = b }

module _ {s : List ℕ} (o : Opened s) {colon : ℕ} (e : colon ≡ index 58 s) where
  at_colon : First s o.entry.name (o.entry.value ++ (0 ∷ field_of o.rest)) colon
  at_colon = first 58 s _ _ colon (without 58 token-colon o.entry.name o.good.tokens) (o.bytes ∙ entry-split o.entry (field_of o.rest)) e

  at_zero : {end : ℕ} → end ≡ index 0 (past (colon + 1) s) → First (past (colon + 1) s) o.entry.value (field_of o.rest) end
  at_zero f = first 0 _ _ _ _ o.good.filled at_colon.later f

pub colon_inside : (s : List ℕ) → textual s ≡ true → (length s == 0) ≡ false → index 58 s < length s
colon_inside s h l = (at_colon (opened s h l) refl).inside

pub end_inside : (s : List ℕ) (colon : ℕ) → textual s ≡ true → (length s == 0) ≡ false → colon ≡ index 58 s
    → index 0 (past (colon + 1) s) < length (past (colon + 1) s)
end_inside s colon h l e = (at_zero (opened s h l) e refl).inside

-- ---- what is left of the field is entries, and their answer is the whole field's

pub record Left (field name rest : List ℕ) : Type 0 where
  pub whole : Textual field
  pub well : textual rest ≡ true
  pub within : length rest ≤ length field
  pub same : (es : List Entry) → Each GoodEntry es → rest ≡ field_of es
      → lookup name whole.entries 0 ≡ lookup name es (length field - length rest)

pub all_left : (field name : List ℕ) → textual field ≡ true → Left field name field
all_left field name e =
    let t = good-textual field e in
    let z : 0 ≡ length field - length field = omega arith in
    record {
      whole = t;
      well = e;
      within = omega arith;
      same = λ es g b. ap₂ (lookup name) (entries-unique t.entries es t.good g (sym t.bytes ∙ b)) z;
    }

answers : {field name rest : List ℕ} (f : Left field name rest) (w : Textual rest) (r : Option (ℕ × ℕ))
    → r ≡ lookup name w.entries (length field - length rest) → Answers field name r
answers {field} {name} f w r e = record {
  said = λ es g b. e ∙ sym (f.same w.entries w.good w.bytes)
      ∙ ap (λ (l : List Entry). lookup name l 0) (entries-unique f.whole.entries es f.whole.good g (sym f.whole.bytes ∙ b));
}

-- nothing is left
pub none_left : {field name rest : List ℕ} → Left field name rest → (length rest == 0) ≡ true → Answers field name None
unfolding lookup
none_left {field} {name} {rest} f l =
    let w : Textual rest = record { entries = []; good = tt; bytes = nil_from_length rest (eqb-true (length rest) 0 l) } in
    answers f w None refl

module _ {field name rest : List ℕ} (f : Left field name rest) (l : (length rest == 0) ≡ false)
    {colon end : ℕ} (e : colon ≡ index 58 rest) (g : end ≡ index 0 (past (colon + 1) rest))
    {t : Bool} (n : t ≡ same_name (take colon rest) name) where
  o : Opened rest
  o = opened rest f.well l

  colon_at : First rest o.entry.name (o.entry.value ++ (0 ∷ field_of o.rest)) colon
  colon_at = at_colon o e

  zero_at : First (past (colon + 1) rest) o.entry.value (field_of o.rest) end
  zero_at = at_zero o e g

  named : {r : Bool} → t ≡ r → same_name o.entry.name name ≡ r
  named h = ap (λ (s : List ℕ). same_name s name) (sym colon_at.before) ∙ sym n ∙ h

  -- how much of the field stands before the value, and before what is left
  value_at : length field - length rest + length o.entry.name + 1 ≡ length field - length (past (colon + 1) rest)
  value_at = omega (arith, colon_at.place, colon_at.inside, length_past (colon + 1) rest, f.within)

  rest_at : length field - length rest + length (entry_bytes o.entry) ≡ length field - length (past (end + 1) (past (colon + 1) rest))
  rest_at =
      let b = length-append o.entry.name (58 ∷ (o.entry.value ++ (0 ∷ []))) in
      let d = length-append o.entry.value (0 ∷ []) in
      omega (
        arith,
        colon_at.place,
        colon_at.inside,
        zero_at.place,
        zero_at.inside,
        length_past (colon + 1) rest,
        length_past (end + 1) (past (colon + 1) rest),
        f.within,
      )

  -- the entry of that name
  pub found : t ≡ true → Answers field name (Some (length field - length (past (colon + 1) rest), end))
  unfolding lookup
  found h =
      let w : Textual rest = record { entries = o.entry ∷ o.rest; good = (o.good, o.rest-good); bytes = o.bytes } in
      answers f w _ (sym (rw (named h) (ap₂ (λ (i k : ℕ). Some (i, k)) value_at (sym zero_at.place))))

  -- an entry of another name
  pub next_left : t ≡ false → Left field name (past (end + 1) (past (colon + 1) rest))
  unfolding lookup
  next_left h = record {
    whole = f.whole;
    well = textual-good _ (record { entries = o.rest; good = o.rest-good; bytes = zero_at.later });
    within = omega (arith, length_past (colon + 1) rest, length_past (end + 1) (past (colon + 1) rest), f.within);
    same = λ es k b.
        f.same (o.entry ∷ es) (o.good, k) (o.bytes ∙ ap (λ (s : List ℕ). entry_bytes o.entry ++ s) (sym zero_at.later ∙ b))
        ∙ rw (named h) (ap (lookup name es) rest_at);
  }

-- Boxes of a list by their kind, and the rules that ask about the boxes before, said of the whole list. Assumes nothing.
use mathlib.Core.Path.{◌≡◌, refl, sym, ap, ◌∙◌}
use Prim.Native.Nat.{ℕ, zero, suc, ◌+◌, ◌≤◌, ◌<◌}
use native.Mathlib.Omega.{arith}
use mathlib.Core.Bool.{Bool, true, false}
use mathlib.Core.List.{List, [], ◌∷◌, ◌++◌, append_assoc, append-nil, map}
use lib.ListN.{length, get_or, length-append, get_or-append}
use lib.Dec.{ltb}
use borrow.Author.Tests.{leb-false, lt-leb, ltb-false, le-ltb, not-false}
use Rattle.std.proofs.lemmas.Bool.{false_from_ne_true}
use Rattle.std.proofs.lemmas.List.{map-append}
use Rattle.numbers.specs.Choice.{pick, both, either-false}
use Rattle.strings.specs.Same.{same}
use Rattle.strings.specs.Headers.{Each}
use Rattle.strings.proofs.Laws.{same_true, same_false}
use Rattle.format.specs.declared.Kind.{Kind}
use Rattle.format.specs.declared.Kind.TheVariants.{Ohdr, Odda}
use Rattle.format.specs.declared.PlaintextLength.{PlaintextLength}
use Rattle.format.specs.Kinds.{same_kind}
use Rattle.format.specs.Fields.{method, plaintext, content_id, data_length}
use Rattle.format.specs.Boxes.{Box, no_box, kind, room, only}
use Rattle.format.specs.Allowed.{Fielded, Distinct}
use Rattle.format.specs.Judge.{agrees, wrong_data, among, again, ids, last_of, last_ohdr}
use Rattle.format.proofs.Passing.{Fine, Clear, Agreed}
use Rattle.format.proofs.Saying.{false-either, under, under_all, Tested, tested-fit, tested-says, says-tested}

-- ---- boxes of a kind

pub only-append : (k : Kind) (xs ys : List Box) → only k (xs ++ ys) ≡ only k xs ++ only k ys
only-append k [] ys = refl
only-append k (x ∷ xs) ys = go (same_kind (kind x) k) (only-append k xs ys)
  where
    go : (t : Bool) → only k (xs ++ ys) ≡ only k xs ++ only k ys
        → pick t (x ∷ only k (xs ++ ys)) (only k (xs ++ ys)) ≡ pick t (x ∷ only k xs) (only k xs) ++ only k ys
    go true e = ap (λ (l : List Box). x ∷ l) e
    go false e = e

last-append : (d : Box) (xs ys : List Box) → last_of d (xs ++ ys) ≡ last_of (last_of d xs) ys
last-append d [] ys = refl
last-append d (x ∷ xs) ys = last-append x xs ys

-- of the last box of a kind, and of each, with one box more
pub last-snoc : {A : Type 0} (f : Box → A) (k : Kind) (log : List Box) (x : Box)
    → f (last_of no_box (only k (log ++ (x ∷ [])))) ≡ pick (same_kind (kind x) k) (f x) (f (last_of no_box (only k log)))
last-snoc f k log x =
    ap (λ (l : List Box). f (last_of no_box l)) (only-append k log (x ∷ []))
    ∙ ap f (last-append no_box (only k log) (only k (x ∷ []))) ∙ go (same_kind (kind x) k)
  where
    go : (t : Bool) → f (last_of (last_of no_box (only k log)) (pick t (x ∷ []) [])) ≡ pick t (f x) (f (last_of no_box (only k log)))
    go true = refl
    go false = refl

pub map-snoc : {A : Type 0} (f : Box → A) (k : Kind) (log : List Box) (x : Box)
    → map f (only k (log ++ (x ∷ []))) ≡ map f (only k log) ++ pick (same_kind (kind x) k) (f x ∷ []) []
map-snoc f k log x = ap (map f) (only-append k log (x ∷ [])) ∙ map-append f (only k log) (only k (x ∷ [])) ∙ go (same_kind (kind x) k)
  where
    go : (t : Bool) → map f (only k log) ++ map f (pick t (x ∷ []) []) ≡ map f (only k log) ++ pick t (f x ∷ []) []
    go true = refl
    go false = refl

abbrev id_bytes : Box → List ℕ
id_bytes x = content_id x.fields

pub ids-snoc : (log : List Box) (x : Box) → ids (log ++ (x ∷ [])) ≡ ids log ++ pick (same_kind (kind x) Ohdr) (id_bytes x ∷ []) []
ids-snoc log x = map-snoc id_bytes Ohdr log x

-- ---- none of those before

abbrev Fresh : List (List ℕ) → List (List ℕ) → Type 0
Fresh seen [] = Unit {0}
Fresh seen (y ∷ ys) = (among y seen ≡ false) × Fresh (seen ++ (y ∷ [])) ys

not-among : (y : List ℕ) (xs : List (List ℕ)) → among y xs ≡ false → (i : ℕ) → i < length xs → get_or xs i [] ≡ y → ⊥
not-among y [] e i l g = absurd (omega arith)
not-among y (x ∷ xs) e zero l g = same_false y x (either-false (same y x) _ e).0 (sym g)
not-among y (x ∷ xs) e (suc i) l g = not-among y xs (either-false (same y x) _ e).1 i (omega arith) g

among-not : (y : List ℕ) (xs : List (List ℕ)) → ((i : ℕ) → i < length xs → get_or xs i [] ≡ y → ⊥) → among y xs ≡ false
among-not y [] f = refl
among-not y (x ∷ xs) f =
    false-either _ _ (false_from_ne_true _ (λ e. f 0 (omega arith) (sym (same_true y x e)))) (among-not y xs (λ i l. f (suc i) (omega arith)))

fresh-apart : (seen ys : List (List ℕ)) → Fresh seen ys → (i j : ℕ) → i < length seen + j → j < length ys → get_or (seen ++ ys) i [] ≡ get_or ys j [] → ⊥
fresh-apart seen [] f i j l m g = absurd (omega arith)
fresh-apart seen (y ∷ ys) f i zero l m g = not-among y seen f.0 i (omega arith) (sym (get_or-append seen (y ∷ ys) [] i (omega arith)) ∙ g)
fresh-apart seen (y ∷ ys) f i (suc j) l m g =
    fresh-apart (seen ++ (y ∷ [])) ys f.1 i j (rw length-append (omega arith)) (omega arith) (rw (append_assoc seen (y ∷ []) ys) g)

apart-fresh : (seen ys : List (List ℕ)) → ((i j : ℕ) → i < length seen + j → j < length ys → get_or (seen ++ ys) i [] ≡ get_or ys j [] → ⊥) → Fresh seen ys
apart-fresh seen [] f = tt
apart-fresh seen (y ∷ ys) f = (
  among-not y seen (λ i l g. f i 0 (omega arith) (omega arith) (get_or-append seen (y ∷ ys) [] i l ∙ g)),
  apart-fresh (seen ++ (y ∷ [])) ys
      (λ i j l m g. f i (suc j) (omega (arith, length-append seen (y ∷ []))) (omega arith) (rw (append_assoc seen (y ∷ []) ys) at g)),
)

fresh-distinct : (ys : List (List ℕ)) → Fresh [] ys → Distinct ys
fresh-distinct ys f = λ i j l m. fresh-apart [] ys f i j (omega arith) m

distinct-fresh : (ys : List (List ℕ)) → Distinct ys → Fresh [] ys
distinct-fresh ys d = apart-fresh [] ys (λ i j l m. d i j (omega arith) m)

-- ---- one box

data-held : (k : Kind) (n m : ℕ) (p : PlaintextLength) (f : List ℕ) → wrong_data k n m p f ≡ false → same_kind k Odda ≡ true
    → (12 + (data_length f).0 ≤ n) × (agrees m p (data_length f) ≡ true)
unfolding wrong_data
data-held k n m p f e t =
    let q = either-false (ltb n (12 + (data_length f).0)) _ (under (same_kind k Odda) _ e t) in
    (ltb-false n _ q.0, not-false _ q.1)

held-data : (k : Kind) (n m : ℕ) (p : PlaintextLength) (f : List ℕ) → (same_kind k Odda ≡ true → 12 + (data_length f).0 ≤ n)
    → (same_kind k Odda ≡ true → agrees m p (data_length f) ≡ true) → wrong_data k n m p f ≡ false
unfolding wrong_data
held-data k n m p f a b = under_all (same_kind k Odda) _ (λ t. false-either _ _ (le-ltb n _ (a t)) (rw (b t)))

fine-tested : (cap : ℕ) (log : List Box) (x : Box) → Fine cap log x → Tested (kind x) (room x) x.fields
fine-tested cap log x f = record {
  whole = f.whole;
  old = f.old;
  method = f.methods;
  lengths = f.lengths;
  headers = f.headers;
  held = λ t. (data-held (kind x) (room x) (method (last_ohdr log)) (plaintext (last_ohdr log)) x.fields f.lengths-agree t).0;
}

-- ---- the whole list

pub record Lawful (cap : ℕ) (xs : List Box) : Type 0 where
  pub few : length xs ≤ cap
  pub fielded : Each Fielded xs
  pub agreed : Agreed no_box xs
  pub distinct : Distinct (ids xs)

clear-few : (cap : ℕ) (log xs : List Box) → Clear cap log xs → length log ≤ cap → length log + length xs ≤ cap
clear-few cap log [] c l = omega arith
clear-few cap log (x ∷ xs) c l =
    let h : length log < cap = leb-false _ _ c.0.row in
    let e : length (log ++ (x ∷ [])) ≡ length log + 1 = length-append log (x ∷ []) in
    omega (arith, clear-few cap (log ++ (x ∷ [])) xs c.1 (omega arith))

clear-fielded : (cap : ℕ) (log xs : List Box) → Clear cap log xs → Each Fielded xs
clear-fielded cap log [] c = tt
clear-fielded cap log (x ∷ xs) c =
    let t = fine-tested cap log x c.0 in
    (record { fit = tested-fit _ _ _ t; says = tested-says _ _ _ t }, clear-fielded cap (log ++ (x ∷ [])) xs c.1)

clear-agreed : (cap : ℕ) (log xs : List Box) → Clear cap log xs → Agreed (last_of no_box (only Ohdr log)) xs
clear-agreed cap log [] c = tt
clear-agreed cap log (x ∷ xs) c = (
  λ t. (data-held (kind x) (room x) (method (last_ohdr log)) (plaintext (last_ohdr log)) x.fields c.0.lengths-agree t).1,
  rw (last-snoc (λ (y : Box). y) Ohdr log x) at (clear-agreed cap (log ++ (x ∷ [])) xs c.1),
)

-- the ContentIDs of a list that starts with x
ids-cons : (x : Box) (xs : List Box) → ids (x ∷ xs) ≡ pick (same_kind (kind x) Ohdr) (id_bytes x ∷ []) [] ++ ids xs
ids-cons x xs = go (same_kind (kind x) Ohdr)
  where
    go : (t : Bool) → map id_bytes (pick t (x ∷ only Ohdr xs) (only Ohdr xs)) ≡ pick t (id_bytes x ∷ []) [] ++ ids xs
    go true = refl
    go false = refl

fresh-cons : (k : Kind) (seen rest : List (List ℕ)) (f : List ℕ) → again k seen f ≡ false
    → Fresh (seen ++ pick (same_kind k Ohdr) (content_id f ∷ []) []) rest → Fresh seen (pick (same_kind k Ohdr) (content_id f ∷ []) [] ++ rest)
unfolding again
fresh-cons k seen rest f = go (same_kind k Ohdr)
  where
    go : (t : Bool) → both t (among (content_id f) seen) ≡ false → Fresh (seen ++ pick t (content_id f ∷ []) []) rest
        → Fresh seen (pick t (content_id f ∷ []) [] ++ rest)
    go true e g = (e, g)
    go false e g = rw append-nil at g

cons-fresh : (k : Kind) (seen rest : List (List ℕ)) (f : List ℕ) → Fresh seen (pick (same_kind k Ohdr) (content_id f ∷ []) [] ++ rest)
    → (again k seen f ≡ false) × Fresh (seen ++ pick (same_kind k Ohdr) (content_id f ∷ []) []) rest
unfolding again
cons-fresh k seen rest f = go (same_kind k Ohdr)
  where
    go : (t : Bool) → Fresh seen (pick t (content_id f ∷ []) [] ++ rest)
        → (both t (among (content_id f) seen) ≡ false) × Fresh (seen ++ pick t (content_id f ∷ []) []) rest
    go true g = (g.0, g.1)
    go false g = (refl, rw append-nil g)

clear-fresh : (cap : ℕ) (log xs : List Box) → Clear cap log xs → Fresh (ids log) (ids xs)
clear-fresh cap log [] c = tt
clear-fresh cap log (x ∷ xs) c =
    rw (ids-cons x xs)
    (fresh-cons (kind x) (ids log) (ids xs) x.fields c.0.fresh (rw (ids-snoc log x) at (clear-fresh cap (log ++ (x ∷ [])) xs c.1)))

pub clear-lawful : (cap : ℕ) (xs : List Box) → Clear cap [] xs → Lawful cap xs
clear-lawful cap xs c = record {
  few = omega (arith, clear-few cap [] xs c (omega arith));
  fielded = clear-fielded cap [] xs c;
  agreed = clear-agreed cap [] xs c;
  distinct = fresh-distinct (ids xs) (clear-fresh cap [] xs c);
}

clear-after : (cap : ℕ) (log xs : List Box) → length log + length xs ≤ cap → Each Fielded xs → Agreed (last_of no_box (only Ohdr log)) xs
    → Fresh (ids log) (ids xs) → Clear cap log xs
clear-after cap log [] l e a f = tt
clear-after cap log (x ∷ xs) l e a f =
    let s = cons-fresh (kind x) (ids log) (ids xs) x.fields (rw (ids-cons x xs) at f) in
    let n : length (log ++ (x ∷ [])) ≡ length log + 1 = length-append log (x ∷ []) in
    let t = says-tested (kind x) (room x) x.fields e.0.fit e.0.says in (
      record {
        row = lt-leb cap (length log) (omega arith);
        whole = t.whole;
        old = t.old;
        methods = t.method;
        lengths = t.lengths;
        headers = t.headers;
        lengths-agree = held-data (kind x) (room x) (method (last_ohdr log)) (plaintext (last_ohdr log)) x.fields t.held a.0;
        fresh = s.0;
      },
      clear-after cap (log ++ (x ∷ [])) xs (omega arith) e.1 (rw (last-snoc (λ (y : Box). y) Ohdr log x) a.1) (rw (ids-snoc log x) s.1),
    )

pub lawful-clear : (cap : ℕ) (xs : List Box) → Lawful cap xs → Clear cap [] xs
lawful-clear cap xs w = clear-after cap [] xs (omega (arith, w.few)) w.fielded w.agreed (distinct-fresh (ids xs) w.distinct)

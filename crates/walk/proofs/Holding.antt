-- What the walk keeps grows with the boxes that it has read. Assumes nothing.
use mathlib.Core.Path.{◌≡◌, refl, sym, ap, ◌∙◌}
use Prim.Native.Nat.{ℕ, ◌+◌, ◌≤◌, ◌<◌}
use native.Mathlib.Nat.{add-zero, zero-add}
use native.Mathlib.Numerals.{add-one}
use native.Mathlib.Omega.{arith}
use mathlib.Core.Bool.{Bool, true, false}
use mathlib.Core.List.{List, [], ◌∷◌, ◌++◌, append-nil, map}
use lib.ListN.{length, take, set, length-append, length-set}
use lib.Seq.{slice, take-suc-set}
use Rattle.std.proofs.lemmas.List.{map-append}
use Rattle.numbers.specs.Choice.{pick}
use Rattle.numbers.specs.Big.{num}
use Rattle.numbers.proofs.Laws.{num-take}
use Rattle.format.specs.declared.Kind.{Kind}
use Rattle.format.specs.declared.Kind.TheVariants.{Odrm, Ohdr, Mdri, Odtt, Odrb}
use Rattle.format.specs.declared.PlaintextLength.{PlaintextLength}
use Rattle.format.specs.declared.Row.{Row}
use Rattle.format.specs.declared.Stretch.{Stretch}
use Rattle.format.specs.Kinds.{fields_length, same_kind}
use Rattle.format.specs.Fields.{method, plaintext, id_length, content_id}
use Rattle.format.specs.Boxes.{Box, kind, only}
use Rattle.format.specs.Judge.{ids, last_ohdr}
use Rattle.format.specs.Report.{row_of, rows, is_free, free_total, transaction_after, transaction_at, bytes_in}
use Rattle.format.proofs.Order.{same_kind_lem}
use Rattle.format.proofs.Logs.{only-append, last-snoc, map-snoc, ids-snoc}
use Rattle.boxes.specs.declared.Head.{Head}
use Rattle.walk.specs.declared.Kept.{Kept}
use Rattle.walk.specs.Keeping.{tally_of, free_at, added, with_box, Holds}

-- ---- the tally

length-snoc : (k : Kind) (log : List Box) (x : Box) → length (only k (log ++ (x ∷ []))) ≡ pick (same_kind (kind x) k) (length (only k log) + 1) (length (only k log))
length-snoc k log x = ap length (only-append k log (x ∷ [])) ∙ go (same_kind (kind x) k)
  where
    go : (t : Bool) → length (only k log ++ pick t (x ∷ []) []) ≡ pick t (length (only k log) + 1) (length (only k log))
    go true = length-append (only k log) (x ∷ [])
    go false = ap length (append-nil (only k log))

after-append : (n : ℕ) (xs ys : List Box) → transaction_after n (xs ++ ys) ≡ transaction_after (transaction_after n xs) ys
after-append n [] ys = refl
after-append n (x ∷ xs) ys = after-append (x.at + x.skip + 4) xs ys

transaction-snoc : (log : List Box) (x : Box) → transaction_at (log ++ (x ∷ [])) ≡ pick (same_kind (kind x) Odtt) (x.at + x.skip + 4) (transaction_at log)
transaction-snoc log x =
    ap (transaction_after 0) (only-append Odtt log (x ∷ [])) ∙ after-append 0 (only Odtt log) (only Odtt (x ∷ [])) ∙ go (same_kind (kind x) Odtt)
  where
    go : (t : Bool) → transaction_after (transaction_at log) (pick t (x ∷ []) []) ≡ pick t (x.at + x.skip + 4) (transaction_at log)
    go true = refl
    go false = refl

free_snoc : (log : List Box) (x : Box) → free_total (log ++ (x ∷ [])) ≡ free_total log + pick (is_free x) x.size 0
free_snoc [] x = add-zero _ ∙ sym (zero-add _)
free_snoc (y ∷ log) x = omega (arith, free_snoc log x)

pick-left : {A : Type 0} (t : Bool) (a a' b : A) → (t ≡ true → a ≡ a') → pick t a b ≡ pick t a' b
pick-left true a a' b f = f refl
pick-left false a a' b f = refl

-- what is read of an ohdr lies in its fields
ohdr-num : (w at : ℕ) (k : Kind) (b : List ℕ) → at + w ≤ 20 → same_kind k Ohdr ≡ true → num w (take (fields_length k b) b) at ≡ num w b at
unfolding fields_length
ohdr-num w at k b l e =
    num-take w (fields_length k b) b at (rw (same_kind_lem k Ohdr e) (omega arith))

pub tally-add : (log : List Box) (x : Box) (h : Head) (b : List ℕ) → x.size ≡ h.size → x.skip ≡ h.skip → x.type ≡ h.boxtype
    → x.fields ≡ take (fields_length (kind x) b) b → added (tally_of log) x.place (kind x) x.at h b ≡ tally_of (log ++ (x ∷ []))
unfolding free_at
tally-add log x h b e1 e2 e3 e4 =
    let m : method (last_ohdr (log ++ (x ∷ []))) ≡ pick (same_kind (kind x) Ohdr) (method b) (method (last_ohdr log)) =
    last-snoc (λ (y : Box). method y.fields) Ohdr log x ∙ pick-left (same_kind (kind x) Ohdr) _ _ _ (λ e. ap method e4 ∙ ohdr-num 1 4 (kind x) b (omega arith) e) in
    let p : plaintext (last_ohdr (log ++ (x ∷ []))) ≡ pick (same_kind (kind x) Ohdr) (plaintext b) (plaintext (last_ohdr log)) =
    last-snoc (λ (y : Box). plaintext y.fields) Ohdr log x
    ∙ pick-left (same_kind (kind x) Ohdr) _ _ _ (λ e. ap plaintext e4 ∙ ap (λ (n : ℕ). wrap n) (ohdr-num 8 6 (kind x) b (omega arith) e)) in
    sym (rw (length-snoc Odrm log x, length-snoc Ohdr log x, m, p, last-snoc (λ (y : Box). y.at) Mdri log x, length-snoc Odrb log x, free_snoc log x, transaction-snoc log x, e1, e2, e3))
  where
    wrap : ℕ → PlaintextLength
    wrap n = record { 0 = n }

-- ---- lists with one element more

-- the first n, with an element more just where it is stored behind them
stored-more : {A : Type 0} (l : List A) (n : ℕ) (t : Bool) (y : A) → (t ≡ true → n < length l)
    → take (pick t (n + 1) n) (pick t (set l n y) l) ≡ take n l ++ pick t (y ∷ []) []
stored-more l n true y f = ap (λ (i : ℕ). take i (set l n y)) (add-one n) ∙ take-suc-set l n y (f refl)
stored-more l n false y f = sym (append-nil (take n l))

map-one : {A B : Type 0} (f : A → B) (t : Bool) (y : A) → map f (pick t (y ∷ []) []) ≡ pick t (f y ∷ []) []
map-one f true y = refl
map-one f false y = refl

rows-add : (log : List Box) (x : Box) (count : ℕ) (out : List Row) → (count ≤ length out → take count out ≡ rows log)
    → count + 1 ≤ length (set out count (row_of x)) → take (count + 1) (set out count (row_of x)) ≡ rows (log ++ (x ∷ []))
rows-add log x count out f l =
    let m : count < length out = omega (arith, l, length-set out count (row_of x)) in
    stored-more out count true (row_of x) (λ _. m)
    ∙ ap (λ (r : List Row). r ++ (row_of x ∷ [])) (f (omega arith)) ∙ sym (map-append row_of log (x ∷ []))

-- ---- all of it

-- what is needed of a box x, with its header h and the bytes b after it
pub record Fits (s : List ℕ) (y : Kept) (x : Box) (h : Head) (b : List ℕ) : Type 0 where
  pub size : x.size ≡ h.size
  pub skip : x.skip ≡ h.skip
  pub type : x.type ≡ h.boxtype
  pub fields : x.fields ≡ take (fields_length (kind x) b) b
  pub named : same_kind (kind x) Ohdr ≡ true → slice (x.at + h.skip + 20) (x.at + h.skip + 20 + id_length b) s ≡ content_id x.fields
  pub odrm : same_kind (kind x) Odrm ≡ true → y.tally.containers < length y.starts
  pub ohdr : same_kind (kind x) Ohdr ≡ true → y.tally.headers < length y.ids

pub holds-add : (s : List ℕ) (log : List Box) (y : Kept) (out : List Row) (x : Box) (h : Head) (b : List ℕ)
    → Holds s log y out → Fits s y x h b → Holds s (log ++ (x ∷ [])) (with_box y x.place (kind x) x.at h b) (set out y.count (row_of x))
unfolding with_box
holds-add s log y out x h b o f =
    let p : Stretch = record { offset = x.at + h.skip + 20; length = id_length b } in
    record {
      number = rw o.number (sym (length-append log (x ∷ [])));
      tally = rw o.tally (tally-add log x h b f.size f.skip f.type f.fields);
      rows = λ l. rows-add log x y.count out o.rows l;
      starts = stored-more y.starts y.tally.containers (same_kind (kind x) Odrm) x.at f.odrm ∙ rw o.starts (sym (map-snoc (λ (y : Box). y.at) Odrm log x));
      names = ap (map (bytes_in s)) (stored-more y.ids y.tally.headers (same_kind (kind x) Ohdr) p f.ohdr)
          ∙ map-append (bytes_in s) (take y.tally.headers y.ids) (pick (same_kind (kind x) Ohdr) (p ∷ []) [])
          ∙ rw (o.names, map-one (bytes_in s) (same_kind (kind x) Ohdr) p)
          (ap (λ (l : List (List ℕ)). ids log ++ l) (pick-left (same_kind (kind x) Ohdr) _ _ _ (λ e. ap (λ (i : List ℕ). i ∷ []) (f.named e)))
          ∙ sym (ids-snoc log x));
    }

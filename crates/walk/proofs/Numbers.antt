-- The number that the code finds in a box is the number that the box breaks. Assumes nothing.
use mathlib.Core.Path.{◌≡◌, refl, sym, ap, ◌∙◌}
use Prim.Native.Nat.{ℕ, ◌≤◌, ◌<◌}
use native.Mathlib.Omega.{arith}
use mathlib.Core.Bool.{Bool, true, false}
use mathlib.Core.List.{List}
use lib.ListN.{length, take}
use lib.Dec.{leb, eqb}
use borrow.Author.Tests.{leb-false, eqb-true, ne_eqb}
use Rattle.numbers.specs.Choice.{pick, pick-zero, either-false}
use Rattle.format.specs.declared.Place.{Place}
use Rattle.format.specs.declared.Kind.{Kind}
use Rattle.format.specs.declared.Seen.{Seen}
use Rattle.format.specs.declared.Spot.{Spot}
use Rattle.format.specs.declared.PlaintextLength.{PlaintextLength}
use Rattle.format.specs.Kinds.{fields_length}
use Rattle.format.specs.Header.{header_fault}
use Rattle.format.specs.Tree.{body_of}
use Rattle.format.specs.Fields.{method, plaintext}
use Rattle.format.specs.Boxes.{Box, room}
use Rattle.format.specs.Judge.{no_row, misplaced, cut, newer, wrong_method, wrong_length, malformed, wrong_data, again, ids, last_ohdr, wrong}
use Rattle.fields.specs.Fault.{field_fault}
use Rattle.fields.proofs.Laws.{fault-fields, again-fields, fault-fit}
use Rattle.format.specs.declared.Row.{Row}
use Rattle.walk.specs.declared.Kept.{Kept}
use Rattle.walk.specs.declared.Tally.{Tally}
use Rattle.walk.specs.Keeping.{ids_in, Holds}
use Rattle.walk.specs.Walking.{number_in}
use Rattle.walk.proofs.Boxing.{kind_in, box_at, cutting}

-- a test more in front of a chain of numbers that goes on where it is 0
pick-tail : (t : Bool) (k u v x : ℕ) → (k ≡ 0 → ⊥) → u ≡ pick (eqb v 0) x v → pick t k u ≡ pick (eqb (pick t k v) 0) x (pick t k v)
pick-tail true k u v x f e = sym (rw (ne_eqb k 0 f))
pick-tail false k u v x f e = e

-- the numbers 7 to 12 and then x, if none of them is broken
chain-tail : (a b c d e f : Bool) (x : ℕ) → pick a 7 (pick b 8 (pick c 9 (pick d 10 (pick e 11 (pick f 12 x)))))
    ≡ pick (eqb (pick a 7 (pick b 8 (pick c 9 (pick d 10 (pick e 11 (pick f 12 0)))))) 0) x (pick a 7 (pick b 8 (pick c 9 (pick d 10 (pick e 11 (pick f 12 0))))))
chain-tail a b c d e f x =
    pick-tail a 7 _ _ x (λ z. omega arith)
    (pick-tail b 8 _ _ x (λ z. omega arith)
    (pick-tail c 9 _ _ x (λ z. omega arith)
    (pick-tail d 10 _ _ x (λ z. omega arith)
    (pick-tail e 11 _ _ x (λ z. omega arith) (pick-tail f 12 x 0 x (λ z. omega arith) refl)))))

pub number_is : (cap : ℕ) (q : Spot) (n : Seen) (at : ℕ) (b : List ℕ) (fine : header_fault q.place b ≡ 0) (s : List ℕ) (log : List Box) (y : Kept)
    (out : List Row) → Holds s log y out
    → wrong cap n log (box_at q at b) ≡ number_in cap q.place n (kind_in q.place b) y (body_of q.place b) (ids_in s y.ids y.tally.headers)
unfolding wrong number_in
number_is cap q n at b fine s log y out o =
    let c = cutting q.place b fine in
    let k : Kind = kind_in q.place b in
    let B : List ℕ = body_of q.place b in
    let m : ℕ = method (last_ohdr log) in
    let p : PlaintextLength = plaintext (last_ohdr log) in
    let x : Box = box_at q at b in
    let f : List ℕ = take (fields_length k B) B in
    let em : y.tally.method ≡ m = ap (λ (u : Tally). u.method) o.tally in
    let ep : y.tally.plaintext ≡ p = ap (λ (u : Tally). u.plaintext) o.tally in
    let tail : ℕ = pick (again k (ids log) f) 13 0 in
    let e1 : pick (cut k (room x) f) 7 (pick (newer k f) 8 (pick (wrong_method k f) 9 (pick (wrong_length k f) 10 (pick (malformed k f) 11 (pick (wrong_data k (room x) m p f) 12 tail)))))
    ≡ pick (eqb (field_fault k m p B) 0) tail (field_fault k m p B) =
    chain-tail (cut k (room x) f) (newer k f) (wrong_method k f) (wrong_length k f) (malformed k f) (wrong_data k (room x) m p f) tail ∙ ap (λ (i : ℕ). pick (eqb i 0) tail i) (fault-fields k (room x) m p B c.body) in
    rw (o.number, em, ep, o.names, ← again-fields k (ids log) B)
    (ap (λ (i : ℕ). pick (no_row cap n (length log) k) 5 (pick (misplaced q.place n k) 6 i)) e1)

-- a box that breaks no number has a row, stands where it may, and its fields fit
pub record Clean (cap : ℕ) (c : Place) (n : Seen) (rows : ℕ) (k : Kind) (b : List ℕ) : Type 0 where
  pub row : no_row cap n rows k ≡ false
  pub few : rows < cap
  pub placed : misplaced c n k ≡ false
  pub fit : fields_length k b ≤ length b

left_over : (cap : ℕ) (n : Seen) (rows : ℕ) (k : Kind) → no_row cap n rows k ≡ false → rows < cap
unfolding no_row
left_over cap n rows k e = leb-false cap rows (either-false (leb cap rows) _ e).0

pub none_in : (cap : ℕ) (c : Place) (n : Seen) (k : Kind) (y : Kept) (b : List ℕ) (l : List (List ℕ)) → number_in cap c n k y b l ≡ 0 → Clean cap c n y.count k b
unfolding number_in
none_in cap c n k y b l e =
    let a = pick-zero (no_row cap n y.count k) 4 _ e in
    let d = pick-zero (misplaced c n k) 5 _ a.1 in
    record { row = a.0; few = left_over cap n y.count k a.0; placed = d.0; fit = fault-fit k y.tally.method y.tally.plaintext b (go (eqb F 0) refl d.1) }
  where
    F : ℕ
    F = field_fault k y.tally.method y.tally.plaintext b

    go : (t : Bool) → eqb F 0 ≡ t → pick t (pick (again k l b) 13 0) F ≡ 0 → F ≡ 0
    go true h e = eqb-true F 0 h
    go false h e = e

-- A refused file has one number, from 1 to 13, and one place, and 0 for all else that is reported. Assumes nothing.
use mathlib.Core.Path.{◌≡◌, refl}
use Prim.Native.Nat.{ℕ, ◌+◌, ◌≤◌}
use native.Mathlib.Nat.{pos_of_ne-zero}
use native.Mathlib.Omega.{arith}
use mathlib.Core.Bool.{Bool, true, false}
use mathlib.Core.List.{List, [], ◌∷◌, ◌++◌}
use lib.ListN.{length}
use lib.Dec.{ltb, eqb}
use borrow.Author.Tests.{eqb-true, eqb-false}
use Rattle.std.proofs.lemmas.Bool.{agree_below_at}
use Rattle.numbers.specs.Choice.{pick}
use Rattle.format.specs.declared.Place.{Place}
use Rattle.format.specs.declared.Place.TheVariants.{Top}
use Rattle.format.specs.declared.Seen.{Seen}
use Rattle.format.specs.declared.Spot.{Spot}
use Rattle.format.specs.Numbers.{number_of, rule_of}
use Rattle.format.specs.Kinds.{inside}
use Rattle.format.specs.Header.{too_few, size_wrong, past_end, header_fault}
use Rattle.format.specs.Tree.{Run, end, bad, leaf, node, encode, kind_at, Good, parse}
use Rattle.format.specs.Fields.{method, plaintext}
use Rattle.format.specs.Boxes.{Box, top, kind, room, box_of, into}
use Rattle.format.specs.Judge.{nothing, note, no_row, misplaced, missing, cut, newer, wrong_method, wrong_length, malformed, wrong_data, again, ids, last_ohdr, wrong, Out, fault, done, unless, and_then, judge, read_of}
use Rattle.format.specs.Report.{refused_by, answer_of}
use Rattle.format.proofs.Trees.{parse-whole}

most : (t : Bool) (k n : ℕ) → k ≤ 13 → n ≤ 13 → pick t k n ≤ 13
most true k n a b = a
most false k n a b = b

header-most : (c : Place) (s : List ℕ) → header_fault c s ≤ 13
unfolding header_fault
header-most c s =
    most (too_few s) 2 _ (omega arith) (most (size_wrong c s) 3 _ (omega arith) (most (past_end c s) 4 0 (omega arith) (omega arith)))

wrong-most : (rows : ℕ) (n : Seen) (log : List Box) (x : Box) → wrong rows n log x ≤ 13
unfolding wrong
wrong-most rows n log x =
    most (no_row rows n (length log) (kind x)) 5 _ (omega arith)
    (most (misplaced x.place n (kind x)) 6 _ (omega arith)
    (most (cut (kind x) (room x) x.fields) 7 _ (omega arith)
    (most (newer (kind x) x.fields) 8 _ (omega arith)
    (most (wrong_method (kind x) x.fields) 9 _ (omega arith)
    (most (wrong_length (kind x) x.fields) 10 _ (omega arith)
    (most (malformed (kind x) x.fields) 11 _ (omega arith)
    (most (wrong_data (kind x) (room x) (method (last_ohdr log)) (plaintext (last_ohdr log)) x.fields) 12 _ (omega arith)
    (most (again (kind x) (ids log) x.fields) 13 0 (omega arith) (omega arith)))))))))

abbrev Ranged : ℕ → Type 0
Ranged k = (1 ≤ k) × (k ≤ 13)

unless-fault : (w place k p : ℕ) (o : Out) → w ≤ 13 → unless w place o ≡ fault k p → (o ≡ fault k p → Ranged k) → Ranged k
unless-fault w place k p o l e f = go (eqb w 0) refl e
  where
    go : (t : Bool) → eqb w 0 ≡ t → pick t o (fault w place) ≡ fault k p → Ranged k
    go true h e = f e
    go false h e = let z : w ≡ k = cc in (omega (arith, pos_of_ne-zero (eqb-false w 0 h)), omega arith)

then-fault : (o : Out) (f : List Box → Out) (k p : ℕ) → (o ≡ fault k p → Ranged k) → ((l : List Box) → f l ≡ fault k p → Ranged k)
    → and_then o f ≡ fault k p → Ranged k
unfolding and_then
then-fault (fault j r) f k p a b e = a e
then-fault (done l) f k p a b e = b l e

judge-fault : (rows : ℕ) (c : Place) (q : Spot) (n : Seen) (at : ℕ) (log : List Box) (t : Run) (k p : ℕ) → Good c t
    → judge rows q n at log t ≡ fault k p → Ranged k
judge-fault rows c q n at log end k p g e = go (missing q.place n) e
  where
    go : (t : Bool) → pick t (fault 6 q.own) (done log) ≡ fault k p → Ranged k
    go true e = let z : 6 ≡ k = cc in (omega arith, omega arith)
    go false e = absurd (cc)
judge-fault rows c q n at log (bad j s) k p g e =
    let z : j ≡ k = cc in
    (omega (arith, pos_of_ne-zero g.2), omega (arith, header-most c s, g.1))
judge-fault rows c q n at log (leaf h b r) k p g e =
    let x : Box = box_of q at h (length b) b in
    unless-fault (wrong rows n log x) _ k p _ (wrong-most rows n log x) e
    (judge-fault rows c q (note n (kind x)) (at + (length h + length b)) (log ++ (x ∷ [])) r k p g.2)
judge-fault rows c q n at log (node h f i r) k p g e =
    let m : ℕ = length f + length (encode i) in
    let x : Box = box_of q at h m f in
    let o : Out = judge rows (into q x) nothing (at + (length h + length f)) (log ++ (x ∷ [])) i in
    let then : List Box → Out = λ l. judge rows q (note n (kind x)) (at + (length h + m)) l r in
    unless-fault (wrong rows n log x) _ k p (and_then o then) (wrong-most rows n log x) e
    (λ e. then-fault o then k p
    (judge-fault rows (inside (kind_at c h)) (into q x) nothing (at + (length h + length f)) (log ++ (x ∷ [])) i k p g.2)
    (λ l. judge-fault rows c q (note n (kind x)) (at + (length h + m)) l r k p g.3) e)

-- every number of the paper is that of its rule
pub numbered : (k : ℕ) → k ≤ 22 → number_of (rule_of k) ≡ k
unfolding rule_of
numbered k l = eqb-true _ k (agree_below_at (λ n. eqb (number_of (rule_of n)) n) (λ _. true) 23 k refl (omega arith))

pub record Refused (rows : ℕ) (s : List ℕ) (k p : ℕ) : Type 0 where
  pub range : Ranged k
  pub number : number_of (answer_of (read_of rows s)).refusal.rule ≡ k
  pub place : (answer_of (read_of rows s)).refusal.place ≡ p
  pub all : answer_of (read_of rows s) ≡ refused_by k p

read-fault : (rows : ℕ) (s : List ℕ) (k p : ℕ) → read_of rows s ≡ fault k p → Ranged k
unfolding read_of
read-fault rows s k p = go (ltb 16777216 (length s))
  where
    o : Out
    o = judge rows top nothing 0 [] (parse (length s) Top s)

    go : (t : Bool) → pick t (fault 1 0) o ≡ fault k p → Ranged k
    go true e = let z : 1 ≡ k = cc in (omega arith, omega arith)
    go false e = judge-fault rows Top top nothing 0 [] (parse (length s) Top s) k p (parse-whole (length s) Top s (omega arith)).good e

pub refused : (rows : ℕ) (s : List ℕ) (k p : ℕ) → read_of rows s ≡ fault k p → Refused rows s k p
unfolding answer_of
refused rows s k p e =
    let r = read-fault rows s k p e in
    record {
      range = r;
      number = rw e (numbered k (omega arith));
      place = rw e;
      all = rw e;
    }

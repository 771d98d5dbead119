-- A header is read from its own bytes, fields from theirs; a right header cuts its box off, and a box cut off has a right header.
-- Assumes nothing.
use mathlib.Core.Path.{◌≡◌, refl, sym, ap, ◌∙◌}
use Prim.Native.Nat.{ℕ, ◌+◌, ◌-◌, ◌≤◌}
use native.Mathlib.Omega.{arith}
use mathlib.Core.Bool.{Bool, true, false}
use mathlib.Core.List.{List, ◌++◌}
use lib.ListN.{length, take, drop, length-append, length-drop, take-append-drop}
use lib.Seq.{take_at, drop_at, length-take-le, drop-drop}
use lib.Dec.{ltb, eqb}
use borrow.Author.Tests.{le-ltb, ltb-false, ne_eqb, eq-eqb, eqb-true}
use Rattle.numbers.specs.Choice.{pick, both, either, pick-by, pick-zero, either-false, true-not-false}
use Rattle.numbers.specs.Big.{num}
use Rattle.numbers.proofs.Laws.{num-append, num-take}
use Rattle.format.specs.declared.Place.{Place}
use Rattle.format.specs.declared.Kind.{Kind}
use Rattle.format.specs.declared.Kind.TheVariants.{Ftyp, Odrm, Odhe, Ohdr, Odda, Mdri, Odtt, Odrb, Udta, Other}
use Rattle.format.specs.Kinds.{ODDA, fields_length}
use Rattle.format.specs.Header.{header_length, size_of, type_of, header_fault}
use Rattle.format.specs.Tree.{Headed, head_of, body_of, rest_of}

-- ---- a header's own bytes

pub at-least-eight : (h : List ℕ) → 8 ≤ header_length h
unfolding header_length
at-least-eight h = pick-by (λ (n : ℕ). 8 ≤ n) (eqb (num 4 h 0) 1) 16 8 (λ _. omega arith) (λ _. omega arith)

pub header-length : (h r : List ℕ) → 8 ≤ length h → header_length (h ++ r) ≡ header_length h
unfolding header_length
header-length h r l = rw (num-append 4 h r 0 (omega arith))

pub header-type : (h r : List ℕ) → 8 ≤ length h → type_of (h ++ r) ≡ type_of h
unfolding type_of
header-type h r l = num-append 4 h r 4 l

pub header-size : (c : Place) (left : ℕ) (h r : List ℕ) → length h ≡ header_length h → size_of c left (h ++ r) ≡ size_of c left h
unfolding size_of header_length
header-size c left h r l = rw (num-append 4 h r 0 (omega (arith, at-least-eight h))) (go (eqb (num 4 h 0) 1) l)
  where
    go : (b : Bool) → length h ≡ pick b 16 8 → pick b (num 8 (h ++ r) 8) (num 4 h 0) ≡ pick b (num 8 h 8) (num 4 h 0)
    go true e = num-append 8 h r 8 (omega arith)
    go false e = refl

-- ---- the fields' own bytes

pub fields-append : (k : Kind) (f r : List ℕ) → fields_length k f ≤ length f → fields_length k (f ++ r) ≡ fields_length k f
unfolding fields_length
fields-append Ftyp f r l = refl
fields-append Odrm f r l = refl
fields-append Odhe f r l = rw (num-append 1 f r 4 (omega arith))
fields-append Ohdr f r l =
    rw (num-append 2 f r 14 (omega arith), num-append 2 f r 16 (omega arith), num-append 2 f r 18 (omega arith))
fields-append Odda f r l = refl
fields-append Mdri f r l = refl
fields-append Odtt f r l = refl
fields-append Odrb f r l = refl
fields-append Udta f r l = refl
fields-append Other f r l = refl

pub fields-take : (k : Kind) (b : List ℕ) → fields_length k (take (fields_length k b) b) ≡ fields_length k b
unfolding fields_length
fields-take Ftyp b = refl
fields-take Odrm b = refl
fields-take Odhe b = rw (num-take 1 (5 + num 1 b 4) b 4 (omega arith))
fields-take Ohdr b =
    let n : ℕ = 20 + num 2 b 14 + num 2 b 16 + num 2 b 18 in
    rw (num-take 2 n b 14 (omega arith), num-take 2 n b 16 (omega arith), num-take 2 n b 18 (omega arith))
fields-take Odda b = refl
fields-take Mdri b = refl
fields-take Odtt b = refl
fields-take Odrb b = refl
fields-take Udta b = refl
fields-take Other b = refl

-- ---- a box cut off the bytes that are left

pub record Cut (c : Place) (s h b r : List ℕ) : Type 0 where
  pub fine : header_fault c s ≡ 0
  pub head : head_of s ≡ h
  pub body : body_of c s ≡ b
  pub rest : rest_of c s ≡ r

-- an odda's header is long, so the test for one in short form fails
pub not_short : (t n : ℕ) → (t ≡ ODDA → n ≡ 16) → both (eqb t ODDA) (eqb n 8) ≡ false
not_short t n f = go (eqb t ODDA) refl
  where
    go : (b : Bool) → eqb t ODDA ≡ b → both b (eqb n 8) ≡ false
    go true e = ne_eqb n 8 (λ z. omega (arith, f (eqb-true _ _ e)))
    go false e = refl

short-not : (t n : ℕ) → both (eqb t ODDA) (eqb n 8) ≡ false → t ≡ ODDA → n ≡ 8 → ⊥
short-not t n e a b = true-not-false (sym e ∙ rw (eq-eqb t ODDA a, eq-eqb n 8 b))

pub cut-good : (c : Place) (h b r : List ℕ) → Headed c (length (h ++ (b ++ r))) h (length b) → Cut c (h ++ (b ++ r)) h b r
unfolding header_fault
cut-good c h b r g =
    let m : ℕ = length h in
    let n : ℕ = length h + length b in
    let s : List ℕ = h ++ (b ++ r) in
    let h8 : 8 ≤ length h = omega (arith, at-least-eight h, g.form) in
    let e1 : header_length s ≡ m = header-length h (b ++ r) h8 ∙ sym g.form in
    let e2 : size_of c (length s) s ≡ n = header-size c (length s) h (b ++ r) g.form ∙ g.sized in
    let e3 : type_of s ≡ type_of h = header-type h (b ++ r) h8 in
    let d8 : drop m s ≡ b ++ r = drop_at h (b ++ r) m refl in
    let k : n - m ≡ length b = omega arith in
    let l : n ≤ length s = simp length-append (omega arith) in
    record {
      fine = rw (e1, e2, e3, le-ltb (length s) m (omega arith), le-ltb n m (omega arith), not_short (type_of h) m g.long, le-ltb (length s) n l);
      head = rw e1 (take_at h (b ++ r) m refl);
      body = rw (e1, e2, d8, k) (take_at b r _ refl);
      rest = rw e2 (sym (drop-drop (length b) m s) ∙ ap (drop (length b)) d8 ∙ drop_at b r _ refl);
    }

sixteen : (s : List ℕ) → (header_length s ≡ 8 → ⊥) → header_length s ≡ 16
unfolding header_length
sixteen s f = pick-by (λ (n : ℕ). (n ≡ 8 → ⊥) → n ≡ 16) (eqb (num 4 s 0) 1) 16 8 (λ _ _. refl) (λ _ g. absurd (g refl)) f

pub record Sliced (c : Place) (s : List ℕ) : Type 0 where
  pub least : header_length s ≤ size_of c (length s) s
  pub most : size_of c (length s) s ≤ length s
  pub whole : s ≡ head_of s ++ (body_of c s ++ rest_of c s)
  pub good : Headed c (length s) (head_of s) (length (body_of c s))

pub good-cut : (c : Place) (s : List ℕ) → header_fault c s ≡ 0 → Sliced c s
unfolding header_fault
good-cut c s e =
    let m : ℕ = header_length s in
    let n : ℕ = size_of c (length s) s in
    let p0 = pick-zero (ltb (length s) m) 1 _ e in
    let p1 = pick-zero (either (ltb n m) (both (eqb (type_of s) ODDA) (eqb m 8))) 2 _ p0.1 in
    let p2 = pick-zero (ltb (length s) n) 3 _ p1.1 in
    let p3 = either-false (ltb n m) _ p1.0 in
    let hs : m ≤ length s = ltb-false _ _ p0.0 in
    let hm : m ≤ n = ltb-false _ _ p3.0 in
    let hn : n ≤ length s = ltb-false _ _ p2.0 in
    let lh : length (take m s) ≡ m = length-take-le m s hs in
    let lb : length (take (n - m) (drop m s)) ≡ n - m = length-take-le (n - m) (drop m s) (rw length-drop (omega arith)) in
    let k : m + (n - m) ≡ n = omega arith in
    let dn : drop (n - m) (drop m s) ≡ drop n s = drop-drop (n - m) m s ∙ ap (λ (j : ℕ). drop j s) k in
    let w : take m s ++ drop m s ≡ s = take-append-drop m s in
    let h8 : 8 ≤ length (take m s) = omega (arith, at-least-eight s, lh) in
    let hl : header_length (take m s) ≡ m = sym (header-length (take m s) (drop m s) h8) ∙ ap header_length w in
    let hz : size_of c (length s) (take m s) ≡ n = sym (header-size c (length s) (take m s) (drop m s) (lh ∙ sym hl)) ∙ ap (size_of c (length s)) w in
    let ht : type_of (take m s) ≡ type_of s = sym (header-type (take m s) (drop m s) h8) ∙ ap type_of w in
    record {
      least = hm;
      most = hn;
      whole = sym (rw (← dn, take-append-drop (n - m) (drop m s)) w);
      good = record {
        form = lh ∙ sym hl;
        sized = hz ∙ sym (rw (lh, lb) k);
        long = λ t. lh ∙ sixteen s (short-not (type_of s) m p3.1 (sym ht ∙ t));
      };
    }

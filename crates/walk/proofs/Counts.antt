-- A box that breaks neither 5 nor 6 leaves at most eight containers, and no more ohdr boxes than containers. Assumes nothing.
use mathlib.Core.Path.{◌≡◌, refl, sym}
use Prim.Native.Nat.{ℕ, ◌+◌, ◌≤◌, ◌<◌}
use native.Mathlib.Omega.{arith}
use mathlib.Core.Bool.{Bool, true, false}
use lib.Dec.{leb, eqb}
use borrow.Author.Tests.{leb-false}
use Rattle.numbers.specs.Choice.{pick, either-false, true-not-false}
use Rattle.format.specs.declared.Place.{Place}
use Rattle.format.specs.declared.Place.TheVariants.{Top, InOdrm, InOdhe, InOhdr, InMdri}
use Rattle.format.specs.declared.Kind.{Kind}
use Rattle.format.specs.declared.Kind.TheVariants.{Ftyp, Odrm, Odhe, Ohdr, Odda, Mdri, Odtt, Odrb, Udta, Other}
use Rattle.format.specs.declared.Seen.{Seen}
use Rattle.format.specs.Kinds.{kind_number, same_kind, is_six, holds_run, inside}
use Rattle.format.specs.Judge.{nothing, note, no_row, late_at_top, misplaced}
use Rattle.format.proofs.Saying.{clash}
use Rattle.walk.specs.declared.Tally.{Tally}
use Rattle.walk.specs.Walking.{is_top, to_come, Counted}

three : (a b : Bool) → pick a true (pick b true true) ≡ false → ⊥
three true b e = true-not-false (sym e)
three false true e = true-not-false (sym e)
three false false e = true-not-false (sym e)

two : (a : Bool) → pick a true true ≡ false → ⊥
two true e = true-not-false (sym e)
two false e = true-not-false (sym e)

-- an odrm stands at the top
odrm-top : (c : Place) (n : Seen) → misplaced c n Odrm ≡ false → is_top c ≡ true
unfolding misplaced same_kind kind_number is_six
odrm-top Top n e = refl
odrm-top InOdrm n e = absurd (three (eqb n.boxes 0) (eqb n.boxes 1) e)
odrm-top InOdhe n e = absurd (three (eqb n.boxes 0) (eqb n.boxes 1) e)
odrm-top InOhdr n e = absurd (true-not-false (sym e))
odrm-top InMdri n e = absurd (true-not-false (sym e))

-- where a box is the first of its run, an ohdr is to come
first : (a b : Bool) → pick a false (pick b true true) ≡ false → pick {A = ℕ} a 1 0 ≡ 1
first true b e = refl
first false true e = absurd (true-not-false (sym e))
first false false e = absurd (true-not-false (sym e))

odhe-first : (c : Place) (n : Seen) → misplaced c n Odhe ≡ false → to_come c n ≡ 1
unfolding misplaced late_at_top same_kind kind_number is_six
odhe-first Top n e = absurd (two (eqb n.boxes 0) e)
odhe-first InOdrm n e = first (eqb n.boxes 0) (eqb n.boxes 1) e
odhe-first InOdhe n e = absurd (three (eqb n.boxes 0) (eqb n.boxes 1) e)
odhe-first InOhdr n e = absurd (true-not-false (sym e))
odhe-first InMdri n e = absurd (true-not-false (sym e))

ohdr-first : (c : Place) (n : Seen) → misplaced c n Ohdr ≡ false → to_come c n ≡ 1
unfolding misplaced late_at_top same_kind kind_number is_six
ohdr-first Top n e = absurd (two (eqb n.boxes 0) e)
ohdr-first InOdrm n e = absurd (three (eqb n.boxes 0) (eqb n.boxes 1) e)
ohdr-first InOdhe n e = first (eqb n.boxes 0) (eqb n.boxes 1) e
ohdr-first InOhdr n e = absurd (true-not-false (sym e))
ohdr-first InMdri n e = absurd (true-not-false (sym e))

eighth : (cap : ℕ) (n : Seen) (rows : ℕ) → no_row cap n rows Odrm ≡ false → n.odrms < 8
unfolding no_row same_kind kind_number
eighth cap n rows e = leb-false 8 n.odrms (either-false (leb cap rows) _ e).1

-- after one box of a kind, before its run
pub record Counting (c : Place) (n : Seen) (k : Kind) (t : Tally) : Type 0 where
  pub odrm : same_kind k Odrm ≡ true → t.containers < 8
  pub ohdr : same_kind k Ohdr ≡ true → t.headers < 8
  pub spare : pick (same_kind k Ohdr) (t.headers + 1) t.headers + to_come (inside k) nothing ≤ pick (same_kind k Odrm) (t.containers + 1) t.containers
  pub most : pick (same_kind k Odrm) (t.containers + 1) t.containers ≤ 8
  pub same : is_top c ≡ false → pick (same_kind k Odrm) (t.containers + 1) t.containers ≡ t.containers
  pub top : is_top c ≡ true → pick (same_kind k Odrm) (t.containers + 1) t.containers ≡ (note n k).odrms

-- a box that is no odrm and no ohdr
plain : (c : Place) (n : Seen) (k : Kind) (t : Tally) → same_kind k Odrm ≡ false → same_kind k Ohdr ≡ false
    → t.headers + to_come (inside k) nothing ≤ t.containers → Counted c n t → Counting c n k t
unfolding note
plain c n k t e f l d = record {
  odrm = λ z. clash e z;
  ohdr = λ z. clash f z;
  spare = rw (e, f) l;
  most = rw e d.most;
  same = λ _. rw e;
  top = λ u. rw e (d.top u);
}

pub counting : (cap : ℕ) (c : Place) (n : Seen) (rows : ℕ) (k : Kind) (t : Tally) → Counted c n t → no_row cap n rows k ≡ false → misplaced c n k ≡ false → Counting c n k t
unfolding same_kind kind_number inside note
counting cap c n rows Odrm t d r m =
    let u : is_top c ≡ true = odrm-top c n m in
    let e : t.containers ≡ n.odrms = d.top u in
    let l : n.odrms < 8 = eighth cap n rows r in
    record {
      odrm = λ _. omega arith;
      ohdr = λ z. absurd (true-not-false z);
      spare = omega (arith, d.spare);
      most = omega arith;
      same = λ f. clash f u;
      top = λ _. omega arith;
    }
counting cap c n rows Odhe t d r m =
    let u : to_come c n ≡ 1 = odhe-first c n m in
    plain c n Odhe t refl refl (omega (arith, d.spare)) d
counting cap c n rows Ohdr t d r m =
    let u : to_come c n ≡ 1 = ohdr-first c n m in
    record {
      odrm = λ z. absurd (true-not-false z);
      ohdr = λ _. omega (arith, d.spare, d.most);
      spare = omega (arith, d.spare);
      most = d.most;
      same = λ _. refl;
      top = d.top;
    }
counting cap c n rows Ftyp t d r m = plain c n Ftyp t refl refl (omega (arith, d.spare)) d
counting cap c n rows Odda t d r m = plain c n Odda t refl refl (omega (arith, d.spare)) d
counting cap c n rows Mdri t d r m = plain c n Mdri t refl refl (omega (arith, d.spare)) d
counting cap c n rows Odtt t d r m = plain c n Odtt t refl refl (omega (arith, d.spare)) d
counting cap c n rows Odrb t d r m = plain c n Odrb t refl refl (omega (arith, d.spare)) d
counting cap c n rows Udta t d r m = plain c n Udta t refl refl (omega (arith, d.spare)) d
counting cap c n rows Other t d r m = plain c n Other t refl refl (omega (arith, d.spare)) d

-- no run inside a box is the top's
pub inside-not-top : (k : Kind) → holds_run k ≡ true → is_top (inside k) ≡ false
unfolding holds_run inside
inside-not-top Ftyp e = absurd (true-not-false e)
inside-not-top Odrm e = refl
inside-not-top Odhe e = refl
inside-not-top Ohdr e = refl
inside-not-top Odda e = absurd (true-not-false e)
inside-not-top Mdri e = refl
inside-not-top Odtt e = absurd (true-not-false e)
inside-not-top Odrb e = absurd (true-not-false e)
inside-not-top Udta e = absurd (true-not-false e)
inside-not-top Other e = absurd (true-not-false e)

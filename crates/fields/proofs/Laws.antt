-- The walk's laws: fields say the same cut off as in the bytes after the header, and fields without fault fit. Assumes nothing.
use mathlib.Core.Path.{◌≡◌, refl, ap}
use Prim.Native.Nat.{ℕ, ◌+◌, ◌≤◌}
use native.Mathlib.Omega.{arith}
use mathlib.Core.Bool.{Bool, true, false}
use mathlib.Core.List.{List}
use lib.ListN.{length, take}
use lib.Seq.{slice, take-take}
use lib.Dec.{ltb}
use borrow.Author.Tests.{ltb-false}
use Rattle.std.specs.Prelude.{Ok}
use Rattle.numbers.specs.Choice.{pick, both, pick-zero, either-false}
use Rattle.numbers.specs.Big.{num}
use Rattle.numbers.proofs.Laws.{num-take}
use Rattle.format.specs.declared.Kind.{Kind}
use Rattle.format.specs.declared.Kind.TheVariants.{Ftyp, Odrm, Odhe, Ohdr, Odda, Mdri, Odtt, Odrb, Udta, Other}
use Rattle.format.specs.declared.PlaintextLength.{PlaintextLength}
use Rattle.format.specs.Kinds.{fields_length, kind_number, same_kind}
use Rattle.format.specs.Fields.{content_id}
use Rattle.format.specs.Judge.{cut, newer, wrong_method, wrong_length, malformed, wrong_data, among, again}
use Rattle.format.proofs.Broken.{answered}
use Rattle.format.proofs.Order.{same_kind_lem}
use Rattle.fields.specs.Fault.{field_fault, field_verdict}

slice-take : (i j n : ℕ) (b : List ℕ) → j ≤ n → slice i j (take n b) ≡ slice i j b
slice-take i j n b h = rw (take-take j n b)

-- the numbers 7 to 12 of the fields cut off, with room for n bytes
pub fault-fields : (k : Kind) (n m : ℕ) (p : PlaintextLength) (b : List ℕ) → length b ≡ n → let f : List ℕ = take (fields_length k b) b in
    pick (cut k n f) 7
    (pick (newer k f) 8
    (pick (wrong_method k f) 9
    (pick (wrong_length k f) 10
    (pick (malformed k f) 11
    (pick (wrong_data k n m p f) 12 0))))) ≡ field_fault k m p b
unfolding field_fault fields_length same_kind kind_number cut newer wrong_method wrong_length malformed wrong_data
fault-fields Ftyp n m p b e = rw (e, num-take 4 8 b 0 (omega arith))
fault-fields Odrm n m p b e = rw (e, num-take 1 4 b 0 (omega arith))
fault-fields Odhe n m p b e =
    let l : ℕ = 5 + num 1 b 4 in
    rw (e, num-take 1 l b 0 (omega arith), num-take 1 l b 4 (omega arith))
fault-fields Ohdr n m p b e =
    let l : ℕ = 20 + num 2 b 14 + num 2 b 16 + num 2 b 18 in
    rw (
      e,
      num-take 1 l b 0 (omega arith),
      num-take 1 l b 4 (omega arith),
      num-take 1 l b 5 (omega arith),
      num-take 2 l b 14 (omega arith),
      num-take 2 l b 16 (omega arith),
      num-take 2 l b 18 (omega arith),
      slice-take (20 + num 2 b 14 + num 2 b 16) l l b (omega arith),
    )
fault-fields Odda n m p b e = rw (e, num-take 1 12 b 0 (omega arith), num-take 8 12 b 4 (omega arith))
fault-fields Mdri n m p b e = rw e
fault-fields Odtt n m p b e = rw (e, num-take 1 20 b 0 (omega arith))
fault-fields Odrb n m p b e = rw (e, num-take 1 4 b 0 (omega arith))
fault-fields Udta n m p b e = rw e
fault-fields Other n m p b e = rw e

-- the ContentID of the fields cut off
pub id-fields : (k : Kind) (b : List ℕ) → same_kind k Ohdr ≡ true → content_id (take (fields_length k b) b) ≡ content_id b
unfolding fields_length
id-fields k b e =
    let l : ℕ = 20 + num 2 b 14 + num 2 b 16 + num 2 b 18 in
    rw (same_kind_lem k Ohdr e) (rw (num-take 2 l b 14 (omega arith), slice-take 20 (20 + num 2 b 14) l b (omega arith)))

pub again-fields : (k : Kind) (ids : List (List ℕ)) (b : List ℕ) → again k ids (take (fields_length k b) b) ≡ again k ids b
unfolding again
again-fields k ids b = go (same_kind k Ohdr) (id-fields k b)
  where
    go : {x y : List ℕ} (t : Bool) → (t ≡ true → x ≡ y) → both t (among x ids) ≡ both t (among y ids)
    go true f = ap (λ (x : List ℕ). among x ids) (f refl)
    go false f = refl

-- fields without fault are whole
pub fault-fit : (k : Kind) (m : ℕ) (p : PlaintextLength) (b : List ℕ) → field_fault k m p b ≡ 0 → fields_length k b ≤ length b
unfolding field_fault cut
fault-fit k m p b e =
    let w = pick-zero (cut k (length b) b) 6 _ e in
    ltb-false (length b) (fields_length k b) (either-false (ltb (length b) (fields_length k b)) _ w.0).0

pub verdict_fit : (k : Kind) (m : ℕ) (p : PlaintextLength) (b : List ℕ) → field_verdict k m p b ≡ Ok tt → fields_length k b ≤ length b
unfolding field_verdict
verdict_fit k m p b e = fault-fit k m p b (answered (field_fault k m p b) tt tt e).0

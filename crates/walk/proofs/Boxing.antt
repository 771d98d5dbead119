-- One box of the bytes b that are left of a run: how the tree starts with it, and what the judge asks of it. Assumes nothing.
use mathlib.Core.Path.{◌≡◌, refl, sym, ap, ◌∙◌}
use Prim.Native.Nat.{ℕ, suc, ◌+◌, ◌-◌, ◌≤◌}
use native.Mathlib.Omega.{arith}
use mathlib.Core.Bool.{Bool, true, false}
use mathlib.Core.List.{List, [], ◌∷◌, ◌++◌}
use lib.ListN.{length, take, drop, length-drop}
use lib.Seq.{slice, length-slice, length-take-le, take-take}
use borrow.Author.Tests.{leb-true, ne_eqb}
use Rattle.numbers.specs.Choice.{both_true}
use Rattle.format.specs.declared.Place.{Place}
use Rattle.format.specs.declared.Kind.{Kind}
use Rattle.format.specs.declared.Seen.{Seen}
use Rattle.format.specs.declared.Spot.{Spot}
use Rattle.format.specs.Kinds.{kind_of, fields_length, holds_run, inside}
use Rattle.format.specs.Header.{header_length, size_of, type_of, header_fault}
use Rattle.format.specs.Tree.{Run, leaf, node, encode, opens, head_of, body_of, rest_of, grow, parse}
use Rattle.format.specs.Boxes.{Box, into}
use Rattle.format.specs.Judge.{nothing, note, wrong, fault, unless, and_then, judge}
use Rattle.format.proofs.Headers.{at-least-eight, header-type, fields-take, Cut, good-cut}
use Rattle.format.proofs.Trees.{parse-cons, parse-bad, parse-whole, grow-leaf}
use Rattle.format.proofs.Slices.{take-slice, slice-drop}

abbrev pub kind_in : Place → List ℕ → Kind
kind_in c b = kind_of c (type_of b)

abbrev pub size_in : Place → List ℕ → ℕ
size_in c b = size_of c (length b) b

abbrev pub fields_in : Place → List ℕ → ℕ
fields_in c b = fields_length (kind_in c b) (body_of c b)

abbrev pub box_at : Spot → ℕ → List ℕ → Box
box_at q at b = record {
  place = q.place;
  depth = q.depth;
  at = at;
  size = size_in q.place b;
  skip = header_length b;
  type = type_of b;
  fields = take (fields_in q.place b) (body_of q.place b);
}

pub record Cutting (c : Place) (b : List ℕ) : Type 0 where
  pub type : type_of (head_of b) ≡ type_of b
  pub head : length (head_of b) ≡ header_length b
  pub body : length (body_of c b) ≡ size_in c b - header_length b
  pub least : header_length b ≤ size_in c b
  pub most : size_in c b ≤ length b
  pub eight : 8 ≤ header_length b

pub cutting : (c : Place) (b : List ℕ) → header_fault c b ≡ 0 → Cutting c b
cutting c b e =
    let g = good-cut c b e in
    let m : ℕ = header_length b in
    let n : ℕ = size_in c b in
    let h8 : 8 ≤ m = at-least-eight b in
    let lm : m ≤ n = g.least in
    let ln : n ≤ length b = g.most in
    let lh : length (head_of b) ≡ m = length-take-le m b (omega arith) in
    record {
      type = sym (header-type (head_of b) (drop m b) (omega arith)) ∙ ap type_of (lib.ListN.take-append-drop m b);
      head = lh;
      body = length-take-le (n - m) (drop m b) (rw length-drop (omega arith));
      least = lm;
      most = ln;
      eight = h8;
    }

some : (c : Place) (b : List ℕ) → Cutting c b → length b ≡ 0 → ⊥
some c b k e = omega (arith, k.eight, k.least, k.most)

cut-self : (c : Place) (b : List ℕ) → header_fault c b ≡ 0 → Cut c b (head_of b) (body_of c b) (rest_of c b)
cut-self c b e = record { fine = e; head = refl; body = refl; rest = refl }

grow-open : (k : Kind) (h b : List ℕ) (go : Place → List ℕ → Run) (r : Run) → opens k b ≡ true
    → grow k h b go r ≡ node h (take (fields_length k b) b) (go (inside k) (drop (fields_length k b) b)) r
unfolding grow
grow-open k h b go r e = rw e

pub judge-bad : (cap : ℕ) (q : Spot) (n : Seen) (at : ℕ) (log : List Box) (m : ℕ) (b : List ℕ) → (length b ≡ 0 → ⊥) → (header_fault q.place b ≡ 0 → ⊥)
    → judge cap q n at log (parse (suc m) q.place b) ≡ fault (header_fault q.place b) at
judge-bad cap q n at log m b f g = ap (judge cap q n at log) (parse-bad m q.place b f g)

module _ (cap : ℕ) (q : Spot) (n : Seen) (at : ℕ) (log : List Box) (m : ℕ) (b : List ℕ) (fine : header_fault q.place b ≡ 0) where
  pub judge-leaf : opens (kind_in q.place b) (body_of q.place b) ≡ false
      → judge cap q n at log (parse (suc m) q.place b)
      ≡ unless (wrong cap n log (box_at q at b)) at
      (judge cap q (note n (kind_in q.place b)) (at + size_in q.place b) (log ++ (box_at q at b ∷ [])) (parse m q.place (rest_of q.place b)))
  judge-leaf o =
      let c = cutting q.place b fine in
      let z : length (head_of b) + length (body_of q.place b) ≡ size_in q.place b = omega (arith, c.head, c.body, c.least) in
      let e : parse (suc m) q.place b ≡ leaf (head_of b) (body_of q.place b) (parse m q.place (rest_of q.place b)) =
      parse-cons m q.place b _ _ _ (some q.place b c) (cut-self q.place b fine) ∙ grow-leaf _ _ _ _ _ (rw c.type o) in
      ap (judge cap q n at log) e ∙ rw (c.type, z, c.head)

  pub judge-node : opens (kind_in q.place b) (body_of q.place b) ≡ true → fields_in q.place b ≤ length (body_of q.place b) → length b ≤ suc m
      → judge cap q n at log (parse (suc m) q.place b)
      ≡ unless (wrong cap n log (box_at q at b)) at
      (and_then (judge cap (into q (box_at q at b)) nothing (at + (header_length b + fields_in q.place b)) (log ++ (box_at q at b ∷ []))
      (parse m (inside (kind_in q.place b)) (drop (fields_in q.place b) (body_of q.place b))))
      (λ l. judge cap q (note n (kind_in q.place b)) (at + size_in q.place b) l (parse m q.place (rest_of q.place b))))
  judge-node o h l =
      let c = cutting q.place b fine in
      let B : List ℕ = body_of q.place b in
      let k : Kind = kind_in q.place b in
      let f : ℕ = fields_in q.place b in
      let i : Run = parse m (inside k) (drop f B) in
      let ld : length (drop f B) ≡ length B - f = length-drop f B in
      let w = parse-whole m (inside k) (drop f B) (omega (arith, c.body, c.least, c.most, c.eight)) in
      let lk : length (encode i) ≡ length B - f = ap length w.same ∙ ld in
      let lf : length (take f B) ≡ f = length-take-le f B h in
      let z : length (head_of b) + (length (take f B) + length (encode i)) ≡ size_in q.place b = omega (arith, c.head, c.body, c.least) in
      let y : length (head_of b) + length (take f B) ≡ header_length b + f = omega (arith, c.head) in
      let e : parse (suc m) q.place b ≡ node (head_of b) (take f B) i (parse m q.place (rest_of q.place b)) =
      parse-cons m q.place b _ _ _ (some q.place b c) (cut-self q.place b fine)
      ∙ rw c.type (grow-open k (head_of b) B (parse m) (parse m q.place (rest_of q.place b)) o) in
      ap (judge cap q n at log) e ∙ rw (c.type, z, y, c.head, fields-take k B, take-take f f B (omega arith))

  pub judge-wrong : length b ≤ suc m → (k : ℕ) → wrong cap n log (box_at q at b) ≡ k → (k ≡ 0 → ⊥) → judge cap q n at log (parse (suc m) q.place b) ≡ fault k at
  unfolding opens
  judge-wrong l k e f = go (opens (kind_in q.place b) (body_of q.place b)) refl
    where
      go : (t : Bool) → opens (kind_in q.place b) (body_of q.place b) ≡ t → judge cap q n at log (parse (suc m) q.place b) ≡ fault k at
      go true o = judge-node o (leb-true _ _ (both_true (holds_run (kind_in q.place b)) _ o).1) l ∙ rw (e, ne_eqb k 0 f)
      go false o = judge-leaf o ∙ rw (e, ne_eqb k 0 f)

-- ---- where its bytes stand in the file

module _ (s : List ℕ) (c : Place) (at end : ℕ) (lt : at ≤ end) (le : end ≤ length s) (fine : header_fault c (slice at end s) ≡ 0) where
  pub body-slice : body_of c (slice at end s) ≡ slice (at + header_length (slice at end s)) (at + size_in c (slice at end s)) s
  body-slice =
      let b : List ℕ = slice at end s in
      let k = cutting c b fine in
      let m : ℕ = header_length b in
      let z : ℕ = size_in c b in
      let lb : length b ≡ end - at = length-slice at end s le in
      let e1 : drop m b ≡ slice (at + m) end s = slice-drop at end m s in
      let h : at + m + (z - m) ≤ end = omega (arith, k.least, k.most) in
      let j : at + m + (z - m) ≡ at + z = omega (arith, k.least) in
      ap (take (z - m)) e1 ∙ take-slice (at + m) end (z - m) s h ∙ ap (λ (i : ℕ). slice (at + m) i s) j

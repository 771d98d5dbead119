-- The rights object of an index, sought along the boxes in mdri: each header that is read is the next box's. Assumes nothing.
use mathlib.Core.Path.{◌≡◌, refl, sym, ap, ◌∙◌, subst}
use mathlib.Core.Logic.{◌⊎◌, inl, inr}
use Prim.Native.Nat.{ℕ, suc, ◌+◌, ◌-◌, ◌≤◌, ◌<◌}
use native.Mathlib.Omega.{arith}
use mathlib.Core.List.{List, [], ◌∷◌}
use lib.ListN.{length, take, drop, get_or, length-drop}
use lib.Seq.{take_all}
use lib.Dec.{eqb}
use borrow.Author.Tests.{le-ltb, eq-eqb, ne_eqb}
use Rattle.std.specs.Prelude.{Result, Ok, IsOk}
use Rattle.format.specs.declared.Place.{Place}
use Rattle.format.specs.declared.Rule.{Rule}
use Rattle.format.specs.declared.Kind.TheVariants.{Mdri, Odrb}
use Rattle.format.specs.declared.Stretch.{Stretch}
use Rattle.format.specs.Kinds.{ODDA, ODRB, kind_of, fields_length, kind_number, same_kind}
use Rattle.format.specs.Header.{size_of, header_fault}
use Rattle.format.specs.Boxes.{Box, no_box, kind, room, only}
use Rattle.format.specs.Judge.{Out, read_of, last_of}
use Rattle.format.specs.Standing.{Stands}
use Rattle.format.proofs.Headers.{not_short}
use Rattle.format.proofs.Order.{odrb, same-named, same_kind_lem}
use Rattle.boxes.specs.declared.Head.{Head}
use Rattle.boxes.specs.Head.{head_in}
use Rattle.boxes.proofs.Laws.{kept-head}
use Rattle.summaries.proofs.Laws.{HeadOf}
use Rattle.stretches.specs.Given.{log_of}
use Rattle.stretches.specs.Rights.{rights_in, odrb_at, RightsAt}
use Rattle.stretches.proofs.Mdri.{Child, Chain, MdriOf, mdri-of}

-- ---- the header of a box that stands

-- what is read of the bytes from an offset on
abbrev pub ReadAt : List ℕ → ℕ → Result Head Rule → Type 0
ReadAt s at r = (c : Place) → r ≡ head_in c (take (length s - at) (drop at s))

module _ {s : List ℕ} {at : ℕ} {x : Box} (t : Stands s x) (plain : x.type ≡ ODDA → ⊥) (here : x.at ≡ at) where
  fine : header_fault x.place (drop x.at s) ≡ 0
  unfolding header_fault size_of
  fine =
      let b : List ℕ = drop x.at s in
      let l : length b ≡ length s - x.at = length-drop x.at s in
      let e : size_of x.place (length b) b ≡ x.size = sym t.size in
      rw (
        ← t.skip,
        e,
        ← t.type,
        le-ltb (length b) x.skip (omega (arith, t.within.0, t.within.1, t.headed)),
        le-ltb x.size x.skip t.headed,
        not_short x.type x.skip (λ z. absurd (plain z)),
        le-ltb (length b) x.size (omega (arith, t.within.0, t.within.1)),
      )

  -- what is read there is the box's header
  its : {r : Result Head Rule} → ReadAt s at r → r ≡ head_in x.place (drop x.at s)
  its e =
      let l : length (drop at s) ≡ length s - at = length-drop at s in
      e x.place ∙ ap (head_in x.place) (take_all (length s - at) (drop at s) (omega arith) ∙ ap (λ (n : ℕ). drop n s) (sym here))

  is-read : {r : Result Head Rule} → ReadAt s at r → IsOk r
  unfolding head_in
  is-read e = rw (its e, fine) refl

  head-of : {r : Result Head Rule} {h : Head} → ReadAt s at r → r ≡ Ok h → HeadOf x h
  unfolding size_of
  head-of {r} {h} e i =
      let k = kept-head x.place (drop x.at s) h (sym (its e) ∙ i) in
      record { size = k.size ∙ sym t.size; skip = k.skip ∙ sym t.skip; boxtype = k.boxtype ∙ sym t.type }

-- ---- what is left to seek

-- the box at an offset and those behind it have the sought one, with so many rights objects before it
pub record Seek (s : List ℕ) (at left : ℕ) (sought : Box) : Type 0 where
  pub box : Box
  pub rest : List Box
  pub child : Child s at box
  pub chained : Chain s (at + box.size) rest
  pub some : left < length (only Odrb (box ∷ rest))
  pub same : get_or (only Odrb (box ∷ rest)) left no_box ≡ sought

seek-at : {s : List ℕ} {at left : ℕ} {sought : Box} (ys : List Box) → Chain s at ys → left < length (only Odrb ys)
    → get_or (only Odrb ys) left no_box ≡ sought → Seek s at left sought
seek-at [] c l m = absurd (omega arith)
seek-at (y ∷ ys) c l m = record { box = y; rest = ys; child = c.0; chained = c.1; some = l; same = m }

pub seek_read : {s : List ℕ} {at left : ℕ} {sought : Box} {r : Result Head Rule} → Seek s at left sought → ReadAt s at r → IsOk r
seek_read k e = is-read k.child.stands k.child.plain k.child.here e

module _ {s : List ℕ} {at left : ℕ} {sought : Box} {r : Result Head Rule} {h : Head} (n : Seek s at left sought) (e : ReadAt s at r) (i : r ≡ Ok h) where
  o : HeadOf n.box h
  o = head-of n.child.stands n.child.plain n.child.here e i

  -- its type tells whether it is a rights object
  told : same_kind (kind n.box) Odrb ≡ eqb h.boxtype ODRB
  unfolding kind_number
  told =
      ap (λ (c : Place). same_kind (kind_of c n.box.type) Odrb) n.child.place
      ∙ same-named odrb (omega arith) n.box.type ∙ ap (λ (t : ℕ). eqb t ODRB) (sym o.boxtype)

  -- then its fields fit in it, as it does in the bytes
  pub odrb_fits : h.boxtype ≡ ODRB → (h.skip + 4 ≤ h.size) × (at + h.size ≤ length s)
  unfolding fields_length
  odrb_fits b =
      let k : kind n.box ≡ Odrb = same_kind_lem (kind n.box) Odrb (told ∙ eq-eqb _ _ b) in
      let f : fields_length (kind n.box) n.box.fields ≤ room n.box = n.child.fielded.fit in
      let t = n.child.stands in
      (omega (arith, rw k at f, o.skip, o.size, t.headed), omega (arith, o.size, n.child.here, t.within.0, t.within.1))

  -- it is the sought one where none is left before it
  pub is_sought : h.boxtype ≡ ODRB → left ≡ 0
      → ◌≡◌ {A = Stretch} (record { offset = at + (h.skip + 4); length = h.size - (h.skip + 4) }) (rights_in sought)
  is_sought b z =
      let m : n.box ≡ sought = rw (told ∙ eq-eqb _ _ b, z) at n.same in
      let a : at + (n.box.skip + 4) ≡ n.box.at + n.box.skip + 4 = omega (arith, n.child.here) in
      rw (← m, o.size, o.skip, a)

  -- the boxes behind it start where it ends
  next : Chain s (at + h.size) n.rest
  next = subst (λ (j : ℕ). Chain s (at + j) n.rest) (sym o.size) n.chained

  pub past_odrb : h.boxtype ≡ ODRB → (left ≡ 0 → ⊥) → Seek s (at + h.size) (left - 1) sought
  past_odrb b z =
      let t = told ∙ eq-eqb _ _ b in
      let l : left ≡ suc (left - 1) = omega (arith, z) in
      let q : left < suc (length (only Odrb n.rest)) = rw t at n.some in
      let m : get_or (n.box ∷ only Odrb n.rest) left no_box ≡ sought = rw t at n.same in
      seek-at n.rest next (omega (arith, l)) (subst (λ (j : ℕ). get_or (n.box ∷ only Odrb n.rest) j no_box ≡ sought) l m)

  pub past_other : (h.boxtype ≡ ODRB → ⊥) → Seek s (at + h.size) left sought
  past_other b = let t = told ∙ ne_eqb _ _ b in seek-at n.rest next (rw t at n.some) (rw t at n.same)

-- ---- from the mdri on

module _ {s : List ℕ} {mdri i : ℕ} (r : RightsAt s mdri i) where
  the-mdri : MdriOf s (only Mdri r.log) (only Odrb r.log)
  the-mdri = go (mdri-of s r.log r.read)
    where
      M : Type 0
      M = MdriOf s (only Mdri r.log) (only Odrb r.log)

      go : ((m : M) × (m.box.at ≡ 0 → ⊥)) ⊎ ((only Mdri r.log ≡ []) × (only Odrb r.log ≡ [])) → M
      go (inl m) = m.0
      go (inr n) = absurd (omega (arith, r.some, ap length n.1))

  at-mdri : the-mdri.box.at ≡ mdri
  at-mdri = sym (r.here ∙ ap (λ (l : List Box). (last_of no_box l).at) the-mdri.alone)

  pub mdri_inside : mdri ≤ length s
  mdri_inside = omega (arith, at-mdri, the-mdri.stands.within.1)

  pub mdri_read : {a : Result Head Rule} → ReadAt s mdri a → IsOk a
  mdri_read e = is-read the-mdri.stands the-mdri.plain at-mdri e

  pub seek : {a : Result Head Rule} {h : Head} → ReadAt s mdri a → a ≡ Ok h → Seek s (mdri + h.skip) i (odrb_at (log_of (read_of 256 s)) i)
  unfolding log_of
  seek {a} {h} e j =
      let m = head-of the-mdri.stands the-mdri.plain at-mdri e j in
      let k : the-mdri.box.at + the-mdri.box.skip ≡ mdri + h.skip = omega (arith, at-mdri, m.skip) in
      seek-at the-mdri.children
      (subst (λ (p : ℕ). Chain s p the-mdri.children) k the-mdri.chained)
      (rw the-mdri.rights at r.some)
      (ap (λ (l : List Box). get_or l i no_box) (sym the-mdri.rights) ∙ sym (ap (λ (o : Out). odrb_at (log_of o) i) r.read))

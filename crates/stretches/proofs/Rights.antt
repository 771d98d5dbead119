-- The rights object that is handed out is the specification's, and so is the companion's number. Assumes nothing.
use mathlib.Core.Path.{◌≡◌, refl, sym, ap, ◌∙◌, subst}
use mathlib.Core.Logic.{◌⊎◌, inl, inr}
use Prim.Native.Nat.{ℕ, zero, suc, ◌+◌, ◌-◌, ◌≤◌, ◌<◌}
use native.Mathlib.Omega.{arith}
use mathlib.Core.Bool.{Bool, true, false}
use mathlib.Core.List.{List, [], ◌∷◌}
use lib.ListN.{length, get_or}
use lib.Dec.{ltb, eqb}
use lib.Seq.{slice}
use borrow.Author.Tests.{lt-ltb, le-ltb, ne_eqb}
use Rattle.numbers.specs.Choice.{pick}
use Rattle.strings.specs.Headers.{Each}
use Rattle.format.specs.declared.Rule.{Rule}
use Rattle.format.specs.declared.Rule.TheVariants.{NoMdri, NoRights}
use Rattle.format.specs.declared.Kind.{Kind}
use Rattle.format.specs.declared.Kind.TheVariants.{Mdri, Odrb}
use Rattle.format.specs.declared.Reading.{Reading}
use Rattle.format.specs.Kinds.{fields_length, same_kind}
use Rattle.format.specs.Boxes.{Box, no_box, kind, room, only}
use Rattle.format.specs.Allowed.{Fielded}
use Rattle.format.specs.Judge.{done, read_of, last_of}
use Rattle.format.specs.Report.{mdri_at, bytes_in, rights_of, answer_of}
use Rattle.format.specs.Standing.{Stands}
use Rattle.format.proofs.Order.{same_kind_lem}
use Rattle.format.proofs.Exact.{reported}
use Rattle.stretches.specs.Given.{refusal_of, verdict, Refuses}
use Rattle.stretches.specs.Rights.{rights_in, odrb_at, rights_number, rights_data_refusal, RightsAt}
use Rattle.stretches.proofs.Readings.{sooner, Accepted, accepted}
use Rattle.stretches.proofs.Mdri.{MdriOf, mdri-of}

-- there is no mdri just if its offset is 0
mdri-zero : (s : List ℕ) (log : List Box) → read_of 256 s ≡ done log → eqb (length (only Mdri log)) 0 ≡ eqb (mdri_at log) 0
mdri-zero s log e = go (mdri-of s log e)
  where
    Same : List Box → Type 0
    Same l = eqb (length l) 0 ≡ eqb (last_of no_box l).at 0

    go : ((m : MdriOf s (only Mdri log) (only Odrb log)) × (m.box.at ≡ 0 → ⊥)) ⊎ ((only Mdri log ≡ []) × (only Odrb log ≡ []))
        → eqb (length (only Mdri log)) 0 ≡ eqb (mdri_at log) 0
    go (inl (m, z)) = subst Same (sym m.alone) (sym (ne_eqb m.box.at 0 z))
    go (inr n) = subst Same (sym n.0) refl

-- ---- the numbers

-- the reading's refusal is one of `rights_data`
pub rights_refused : (s : List ℕ) (i : ℕ) (rule : Rule) → Refuses (verdict s) rule → Refuses (rights_data_refusal s i) rule
unfolding rights_data_refusal
rights_refused s i rule h = sooner (read_of 256 s) rule (λ log k. absurd (k refl)) h

module _ (s : List ℕ) {r : Reading} (i : ℕ) (g : (verdict s ≡ 0) × (r ≡ answer_of (read_of 256 s))) where
  x : Accepted s r
  x = accepted s g

  rights-number : rights_data_refusal s i ≡ pick (eqb r.mdri 0) 14 (pick (ltb i r.rights) 0 17)
  unfolding rights_data_refusal refusal_of
  rights-number = go x
    where
      go : Accepted s r → refusal_of (read_of 256 s) (λ log. rights_number log i) ≡ pick (eqb r.mdri 0) 14 (pick (ltb i r.rights) 0 17)
      go x = rw (x.read, x.answer, mdri-zero s x.log x.read)

  pub no_mdri : r.mdri ≡ 0 → Refuses (rights_data_refusal s i) NoMdri
  no_mdri e = let n : rights_data_refusal s i ≡ 14 = rights-number ∙ rw e refl in (n, λ z. omega (arith, n))

  pub no_rights : (r.mdri ≡ 0 → ⊥) → r.rights ≤ i → Refuses (rights_data_refusal s i) NoRights
  no_rights e l =
      let n : rights_data_refusal s i ≡ 17 = rights-number ∙ rw (ne_eqb r.mdri 0 e, le-ltb i r.rights l) refl in
      (n, λ z. omega (arith, n))

  pub has_rights : (r.mdri ≡ 0 → ⊥) → i < r.rights → rights_data_refusal s i ≡ 0
  has_rights e l = rights-number ∙ rw (ne_eqb r.mdri 0 e, lt-ltb i r.rights l) refl

  pub rights_object_at : i < r.rights → RightsAt s r.mdri i
  rights_object_at l = record {
    log = x.log;
    read = x.read;
    here = ap (λ (y : Reading). y.mdri) x.answer;
    some = omega (arith, ap (λ (y : Reading). y.rights) x.answer);
  }

-- ---- the stretch

-- one of the boxes of a kind is one of the boxes
only_at : (P : Box → Type 0) (k : Kind) (xs : List Box) → Each P xs → (i : ℕ) → i < length (only k xs)
    → P (get_or (only k xs) i no_box) × (kind (get_or (only k xs) i no_box) ≡ k)
only_at P k [] a i l = absurd (omega arith)
only_at P k (x ∷ xs) a i l = go (same_kind (kind x) k) refl (only_at P k xs a.1) i l
  where
    go : (b : Bool) → same_kind (kind x) k ≡ b
        → ((j : ℕ) → j < length (only k xs) → P (get_or (only k xs) j no_box) × (kind (get_or (only k xs) j no_box) ≡ k))
        → (j : ℕ) → j < length (pick b (x ∷ only k xs) (only k xs))
        → P (get_or (pick b (x ∷ only k xs) (only k xs)) j no_box) × (kind (get_or (pick b (x ∷ only k xs) (only k xs)) j no_box) ≡ k)
    go true e f zero l = (a.0, same_kind_lem (kind x) k e)
    go true e f (suc j) l = f j (omega arith)
    go false e f j l = f j l

module _ {s : List ℕ} {mdri i : ℕ} (r : RightsAt s mdri i) where
  held : (Stands s (odrb_at r.log i) × Fielded (odrb_at r.log i)) × (kind (odrb_at r.log i) ≡ Odrb)
  held =
      let p = reported 256 s r.log r.read in
      let st = only_at (Stands s) Odrb r.log p.stand i r.some in
      let fi = only_at Fielded Odrb r.log (rw p.boxes-of p.allowed.fielded) i r.some in
      ((st.0, fi.0), st.1)

  odrb-held : (odrb_at r.log i).skip + 4 ≤ (odrb_at r.log i).size
  unfolding fields_length
  odrb-held =
      let h = held in
      let f : fields_length (kind (odrb_at r.log i)) (odrb_at r.log i).fields ≤ room (odrb_at r.log i) = h.0.1.fit in
      omega (arith, rw h.1 at f, h.0.0.headed)

  -- its bytes are those of the rights object in the reading
  pub rights-bytes : bytes_in s (rights_in (odrb_at r.log i)) ≡ rights_of s (odrb_at r.log i)
  rights-bytes =
      let x : Box = odrb_at r.log i in
      let e : x.at + x.skip + 4 + (x.size - (x.skip + 4)) ≡ x.at + x.size = omega (arith, odrb-held) in
      ap (λ (n : ℕ). slice (x.at + x.skip + 4) n s) e

-- The stretches that are reported hold the bytes of the fields: strings are where the summaries say. Assumes nothing.
use mathlib.Core.Path.{◌≡◌, refl, sym, ap, ◌∙◌, subst}
use Prim.Native.Nat.{ℕ, ◌+◌, ◌≤◌}
use native.Mathlib.Omega.{arith}
use mathlib.Core.List.{List, [], ◌∷◌, map}
use lib.ListN.{length, drop}
use lib.Seq.{slice, length-slice, take-take}
use Rattle.strings.specs.Headers.{Each}
use Rattle.format.specs.declared.Place.TheVariants.{Top}
use Rattle.format.specs.declared.Kind.{Kind}
use Rattle.format.specs.declared.Kind.TheVariants.{Odhe, Ohdr, Odda}
use Rattle.format.specs.Kinds.{fields_length}
use Rattle.format.specs.Tree.{Run, encode}
use Rattle.format.specs.Fields.{type_length, id_length, issuer_length, headers_length, data_length}
use Rattle.format.specs.Boxes.{Box, top, kind, room, boxes, only, Container, containers}
use Rattle.format.specs.Allowed.{Says, Fielded}
use Rattle.format.specs.Report.{stretch, bytes_in}
use Rattle.format.specs.Standing.{body_in, Stands, HeaderStands}
use Rattle.format.proofs.Headers.{fields-take}
use Rattle.format.proofs.Slices.{slice-slice}
use Rattle.format.proofs.Containers.{Sound, only-odhe, only-ohdr, only-odda}
use Rattle.format.proofs.Tiling.{each_both, each-only}
use Rattle.format.proofs.Standing.{file-stands}

-- the bytes after the header, and the fields that they have
pub body-length : {s : List ℕ} {x : Box} → Stands s x → length (body_in s x) ≡ room x
body-length {s} {x} t = length-slice (x.at + x.skip) (x.at + x.size) s (omega (arith, t.within.0, t.within.1)) ∙ omega (arith, t.headed)

pub body-fields : {s : List ℕ} {x : Box} → Stands s x → fields_length (kind x) x.fields ≡ fields_length (kind x) (body_in s x)
body-fields {s} {x} t = ap (fields_length (kind x)) t.fields ∙ fields-take (kind x) (body_in s x)

-- n bytes of the fields from byte k on stand in the file
fields-stand : (s : List ℕ) (x : Box) (k n : ℕ) → Stands s x → Fielded x → k + n ≤ fields_length (kind x) x.fields
    → bytes_in s (stretch x k n) ≡ slice k (k + n) x.fields
fields-stand s x k n t f l =
    let b : List ℕ = body_in s x in
    let F : ℕ = fields_length (kind x) b in
    let h : k + n ≤ F = omega (arith, body-fields t) in
    let g : F ≤ room x = omega (arith, body-fields t, f.fit) in
    let p : x.at + x.skip + k + n ≡ x.at + x.skip + (k + n) = omega arith in
    sym
    (ap (slice k (k + n)) t.fields ∙ ap (drop k) (take-take (k + n) F b h)
    ∙ slice-slice (x.at + x.skip) (x.at + x.size) k n s (omega (arith, t.headed)) ∙ rw p)

-- ---- the header of a container whose boxes stand

pub record Held (s : List ℕ) (k : Kind) (x : Box) : Type 0 where
  pub stands : Stands s x
  pub fielded : Fielded x
  pub of : kind x ≡ k

pub header-stands : (s : List ℕ) (c : Container) → Held s Odhe c.odhe → Held s Ohdr c.ohdr → Held s Odda c.odda → HeaderStands s c
unfolding fields_length
header-stands s c e o d =
    let f : List ℕ = c.ohdr.fields in
    let i : ℕ = id_length f in
    let u : ℕ = issuer_length f in
    let n : ℕ = (data_length c.odda.fields).0 in
    let y : Box = c.odda in
    let h : 12 + n ≤ room y = data-held y d.of d.fielded in
    let w : y.at + y.size ≤ length s = omega (arith, d.stands.within.0, d.stands.within.1) in
    record {
      content_type = fields-stand s c.odhe 5 (type_length c.odhe.fields) e.stands e.fielded (rw e.of (omega arith));
      content_id = fields-stand s c.ohdr 20 i o.stands o.fielded (rw o.of (omega arith));
      issuer = fields-stand s c.ohdr (20 + i) u o.stands o.fielded (rw o.of (omega arith));
      textual_headers = fields-stand s c.ohdr (20 + i + u) (headers_length f) o.stands o.fielded (rw o.of (omega arith));
      content = length-slice (y.at + y.skip + 12) (y.at + y.skip + 12 + n) s (omega (arith, d.stands.headed)) ∙ omega arith;
      inside = omega (arith, d.stands.headed);
    }
  where
    data-held : (y : Box) → kind y ≡ Odda → Fielded y → 12 + (data_length y.fields).0 ≤ room y
    data-held y e f = (subst (λ (k : Kind). Says k (room y) y.fields) e f.says).1

-- ---- every container of a file

held-only : (s : List ℕ) (k : Kind) (xs : List Box) → Each (Stands s) xs → Each Fielded xs → Each (Held s k) (only k xs)
held-only s k xs a b =
    each-only (λ x. Stands s x × Fielded x) (Held s k) k (λ x h e. record { stands = h.0; fielded = h.1; of = e }) xs (each_both (Stands s) Fielded xs a b)

pub each_of : (P : Box → Type 0) (f : Container → Box) (cs : List Container) → Each P (map f cs) → Each (λ c. P (f c)) cs
each_of P f [] a = tt
each_of P f (c ∷ cs) a = (a.0, each_of P f cs a.1)

pub headers-stand : (s : List ℕ) (cs : List Container) → Each (λ c. Held s Odhe c.odhe) cs → Each (λ c. Held s Ohdr c.ohdr) cs
    → Each (λ c. Held s Odda c.odda) cs → Each (HeaderStands s) cs
headers-stand s [] e o d = tt
headers-stand s (c ∷ cs) e o d = (header-stands s c e.0 o.0 d.0, headers-stand s cs e.1 o.1 d.1)

pub tree-headers : (t : Run) → Sound 0 t → Each (HeaderStands (encode t)) (containers 0 t)
tree-headers t u =
    let s : List ℕ = encode t in
    let l : List Box = boxes top 0 t in
    let st : Each (Stands s) l = file-stands Top top t refl u.good in
    let cs : List Container = containers 0 t in
    headers-stand s cs
    (each_of (Held s Odhe) (λ c. c.odhe) cs (rw (only-odhe u) at (held-only s Odhe l st u.fielded)))
    (each_of (Held s Ohdr) (λ c. c.ohdr) cs (rw (only-ohdr u) at (held-only s Ohdr l st u.fielded)))
    (each_of (Held s Odda) (λ c. c.odda) cs (rw (only-odda u) at (held-only s Odda l st u.fielded)))

-- What the bytes say of a full box that stands in them, and of a container: its header, its fields and where the next box is. Assumes nothing.
use mathlib.Core.Path.{◌≡◌, refl, sym, ap, ◌∙◌}
use Prim.Native.Nat.{ℕ, ◌+◌, ◌-◌, ◌≤◌}
use native.Mathlib.Omega.{arith}
use mathlib.Core.List.{List}
use lib.ListN.{length, take, drop, length-drop}
use lib.Seq.{length-take-le, take_all}
use borrow.Author.Tests.{le-ltb}
use Rattle.std.specs.Prelude.{Result, Ok}
use Rattle.numbers.specs.Big.{num}
use Rattle.numbers.proofs.Laws.{num-take, num-slice}
use Rattle.format.specs.declared.Place.{Place}
use Rattle.format.specs.declared.Kind.{Kind}
use Rattle.format.specs.declared.Kind.TheVariants.{Odrm, Odhe, Ohdr, Odda}
use Rattle.format.specs.declared.Rule.{Rule}
use Rattle.format.specs.declared.Stretch.{Stretch}
use Rattle.format.specs.declared.Summary.{Summary}
use Rattle.format.specs.Kinds.{fields_length}
use Rattle.format.specs.Header.{size_of, header_fault}
use Rattle.format.specs.Boxes.{Box, kind, room, start, Container}
use Rattle.format.specs.Report.{summary_of}
use Rattle.format.specs.Standing.{body_in}
use Rattle.format.proofs.Headers.{not_short}
use Rattle.format.proofs.Strings.{body-length, body-fields}
use Rattle.boxes.specs.declared.Head.{Head}
use Rattle.boxes.specs.Head.{head_in}
use Rattle.summaries.specs.declared.Opened.{Opened}
use Rattle.summaries.specs.declared.Four.{Four}
use Rattle.summaries.specs.declared.CommonHeaders.{CommonHeaders}
use Rattle.summaries.specs.Contained.{Opens, Contained}
use Rattle.summaries.specs.Parts.{opened_of, Opening, four_of, headers_end, headers_in, ContentIn}

-- a header that was read is the box's
pub record HeadOf (x : Box) (h : Head) : Type 0 where
  pub size : h.size ≡ x.size
  pub skip : h.skip ≡ x.skip
  pub boxtype : h.boxtype ≡ x.type

module _ {s : List ℕ} {k : Kind} {at depth : ℕ} {x : Box} (o : Opens s k at depth x) where
  pub ends : x.at + x.size ≤ length s
  ends = omega (arith, o.stands.within.0, o.stands.within.1)

  -- the fields are those of the bytes after the header
  same-fields : fields_length k x.fields ≡ fields_length (kind x) (body_in s x)
  same-fields =
      rw (← o.of) (body-fields o.stands)

  fit : fields_length k x.fields ≤ room x
  fit = rw (← o.of) o.fielded.fit

  -- the fields end in the box
  pub fields-end : x.at + x.skip + fields_length k x.fields ≤ x.at + x.size
  fields-end = omega (arith, fit, o.stands.headed)

  fields-length : length x.fields ≡ fields_length k x.fields
  fields-length =
      let F : ℕ = fields_length (kind x) (body_in s x) in
      ap length o.stands.fields ∙ length-take-le F (body_in s x) (omega (arith, same-fields, body-length o.stands, fit)) ∙ sym same-fields

  -- where the run starts
  starts : start x ≡ x.at + x.skip + fields_length k x.fields
  starts = omega (arith, fields-length)

  -- a number of the fields, in the bytes
  field : (j i : ℕ) → i + j ≤ fields_length k x.fields → num j x.fields i ≡ num j s (x.at + x.skip + i)
  field j i l =
      ap (λ (f : List ℕ). num j f i) o.stands.fields
      ∙ num-take j (fields_length (kind x) (body_in s x)) (body_in s x) i (omega (arith, same-fields))
      ∙ num-slice j s (x.at + x.skip) (x.at + x.size) i (omega (arith, fields-end))

  -- the header breaks no rule, taken up to the end of s: by today's rules a size does not depend on how many bytes are left
  fine : header_fault x.place (drop x.at s) ≡ 0
  unfolding header_fault size_of
  fine =
      let b : List ℕ = drop x.at s in
      let l : length b ≡ length s - x.at = length-drop x.at s in
      let e : size_of x.place (length b) b ≡ x.size = sym o.stands.size in
      rw (
        ← o.stands.skip,
        e,
        ← o.stands.type,
        le-ltb (length b) x.skip (omega (arith, ends, o.stands.headed)),
        le-ltb x.size x.skip o.stands.headed,
        not_short x.type x.skip o.long,
        le-ltb (length b) x.size (omega (arith, ends)),
      )

  -- what is read there is its header
  pub head : {r : Result Head Rule} → ((c : Place) → r ≡ head_in c (take (length s - at) (drop at s))) → r ≡ Ok (record { size = x.size; skip = x.skip; boxtype = x.type })
  unfolding head_in size_of
  head e =
      let l : length (drop at s) ≡ length s - at = length-drop at s in
      let w : take (length s - at) (drop at s) ≡ drop x.at s = take_all (length s - at) (drop at s) (omega arith) ∙ ap (λ (n : ℕ). drop n s) (sym o.here) in
      e x.place ∙ rw (w, fine) (ap (λ (h : Head). Ok h) (rw (o.stands.size, o.stands.skip, o.stands.type)))

  head-of : {r : Result Head Rule} {h : Head} → ((c : Place) → r ≡ head_in c (take (length s - at) (drop at s))) → r ≡ Ok h → HeadOf x h
  head-of {r} {h} e i = same h (sym (head e) ∙ i)
    where
      same : (h : Head) → ◌≡◌ {A = Result Head Rule} (Ok (record { size = x.size; skip = x.skip; boxtype = x.type })) (Ok h) → HeadOf x h
      same h q = let p : h ≡ record { size = x.size; skip = x.skip; boxtype = x.type } = cc in rw p (record { size = refl; skip = refl; boxtype = refl })

  -- the version and flags stand in s
  pub flags-in : {r : Result Head Rule} {h : Head} → ((c : Place) → r ≡ head_in c (take (length s - at) (drop at s))) → r ≡ Ok h → at + h.skip + 4 ≤ length s
  flags-in e i = omega (arith, o.here, (head-of e i).skip, ends, fields-end, o.full)

  -- what is read of the box is the box's
  pub opened : {r : Result Head Rule} {h : Head} {f : ℕ} → ((c : Place) → r ≡ head_in c (take (length s - at) (drop at s))) → r ≡ Ok h
      → f ≡ num 3 s (at + h.skip + 1)
      → ◌≡◌ {A = Opened} (record {
        full = record { row = record { offset = at; size = h.size; depth = depth; boxtype = h.boxtype }; flags = f };
        fields = at + h.skip;
        end = at + h.size;
      }) (opened_of x)
  opened e i g =
      let w = head-of e i in
      rw (g, w.size, w.skip, w.boxtype, ← o.here, ← o.deep, ← field 3 1 o.full)

-- the same box, its offset said otherwise
moved : {s : List ℕ} {k : Kind} {p q depth : ℕ} {x : Box} → p ≡ q → Opens s k p depth x → Opens s k q depth x
moved e o = rw e at o

-- ---- the fields of each kind

odrm-start : {s : List ℕ} {at depth : ℕ} {x : Box} → Opens s Odrm at depth x → start x ≡ x.at + x.skip + 4
unfolding fields_length
odrm-start o = starts o

odhe-start : {s : List ℕ} {at depth : ℕ} {x : Box} → Opens s Odhe at depth x
    → start x ≡ x.at + x.skip + 5 + num 1 s (x.at + x.skip + 4)
unfolding fields_length
odhe-start o = omega (arith, starts o, field o 1 4 (omega arith))

type-length : {s : List ℕ} {at depth : ℕ} {x : Box} → Opens s Odhe at depth x → num 1 x.fields 4 ≡ num 1 s (x.at + x.skip + 4)
unfolding fields_length
type-length o = field o 1 4 (omega arith)

headers-end : {s : List ℕ} {at depth : ℕ} {x : Box} → Opens s Ohdr at depth x → headers_end s (x.at + x.skip) ≤ length s
unfolding fields_length
headers-end o =
    omega (arith, ends o, fields-end o, field o 2 14 (omega arith), field o 2 16 (omega arith), field o 2 18 (omega arith))

-- ---- a container

module _ {s : List ℕ} {at : ℕ} {c : Container} (h : Contained s at c) where
  odrm-read : {a : Opened} → Opening s at 0 a → a ≡ opened_of c.odrm
  odrm-read f = f Odrm c.odrm h.odrm

  pub odhe-opens : {a : Opened} → Opening s at 0 a → Opens s Odhe (a.fields + 4) 1 c.odhe
  odhe-opens f = moved (odrm-start h.odrm ∙ rw (odrm-read f)) h.odhe

  odhe-read : {a b : Opened} → Opening s at 0 a → Opening s (a.fields + 4) 1 b → b ≡ opened_of c.odhe
  odhe-read f g = g Odhe c.odhe (odhe-opens f)

  pub ohdr-opens : {a b : Opened} {n : ℕ} → Opening s at 0 a → Opening s (a.fields + 4) 1 b → n ≡ num 1 s (b.fields + 4) → Opens s Ohdr (b.fields + 5 + n) 2 c.ohdr
  ohdr-opens f g l = moved (odhe-start h.odhe ∙ rw (l, odhe-read f g)) h.ohdr

  pub odda-opens : {a b : Opened} → Opening s at 0 a → Opening s (a.fields + 4) 1 b → Opens s Odda b.end 1 c.odda
  odda-opens f g = moved (rw (odhe-read f g)) h.odda

  -- the ContentType's length stands in s
  pub type-in : {a b : Opened} → Opening s at 0 a → Opening s (a.fields + 4) 1 b → b.fields + 5 ≤ length s
  unfolding fields_length
  type-in f g = rw (odhe-read f g) (omega (arith, ends h.odhe, fields-end h.odhe))

  pub four : {a b d e : Opened} {n : ℕ} → Opening s at 0 a → Opening s (a.fields + 4) 1 b → n ≡ num 1 s (b.fields + 4)
      → Opening s (b.fields + 5 + n) 2 d → Opening s b.end 1 e
      → ◌≡◌ {A = Four} (record {
        odrm = a.full;
        odhe = b.full;
        ohdr = d.full;
        odda = e.full;
        contenttype = record { offset = b.fields + 5; length = n };
        ohdrfields = d.fields;
        oddafields = e.fields;
      }) (four_of c)
  four f g l u v =
      rw (l, odrm-read f, odhe-read f g, u Ohdr c.ohdr (ohdr-opens f g l), v Odda c.odda (odda-opens f g), ← type-length h.odhe)

  pub headers-in : {f : Four} → f ≡ four_of c → headers_end s f.ohdrfields ≤ length s
  headers-in e = rw e (headers-end h.ohdr)

  pub summary : {f : Four} {g : CommonHeaders} {r : Stretch} → f ≡ four_of c → g ≡ headers_in s f.ohdrfields → ContentIn s f.oddafields r
      → ◌≡◌ {A = Summary} (record {
        odrm = f.odrm;
        odhe = f.odhe;
        ohdr = f.ohdr;
        odda = f.odda;
        method = g.method;
        padding = g.padding;
        plaintextlength = g.plaintextlength;
        datalength = record { 0 = r.length };
        contenttype = f.contenttype;
        contentid = g.contentid;
        issuer = g.issuer;
        headers = g.headers;
        content = record { offset = r.offset; length = r.length };
      }) (summary_of c)
  unfolding fields_length
  summary p q w =
      let o = h.ohdr in
      let b : ℕ = c.ohdr.at + c.ohdr.skip in
      let id : ℕ = num 2 c.ohdr.fields 14 in
      let issuer : ℕ = num 2 c.ohdr.fields 16 in
      let e1 : b + 20 + id ≡ b + (20 + id) = omega arith in
      let e2 : b + 20 + id + issuer ≡ b + (20 + id + issuer) = omega arith in
      rw (
        w.offset,
        w.length,
        q,
        p,
        ← field h.odda 8 4 (omega arith),
        ← field o 1 4 (omega arith),
        ← field o 1 5 (omega arith),
        ← field o 8 6 (omega arith),
        ← field o 2 14 (omega arith),
        ← field o 2 16 (omega arith),
        ← field o 2 18 (omega arith),
        e2,
        e1,
      )

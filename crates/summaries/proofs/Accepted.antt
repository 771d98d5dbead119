-- In every accepted file each container is what its summary is made from: what summary_at asks of an odrm's offset holds. Assumes nothing.
use mathlib.Core.Path.{◌≡◌, refl, sym, ap, ◌∙◌}
use Prim.Native.Nat.{ℕ, ◌+◌, ◌≤◌, ◌<◌}
use native.Mathlib.Omega.{arith}
use mathlib.Core.Bool.{Bool, true, false}
use mathlib.Core.List.{List, [], ◌∷◌, ◌++◌, map}
use lib.ListN.{length, get_or, take, get_or-map}
use lib.Seq.{get_or-take}
use lib.Dec.{eqb}
use Rattle.numbers.specs.Choice.{pick}
use Rattle.strings.specs.Headers.{Each}
use Rattle.format.specs.declared.Place.TheVariants.{Top}
use Rattle.format.specs.declared.Kind.{Kind}
use Rattle.format.specs.declared.Kind.TheVariants.{Odrm, Odhe, Ohdr, Odda}
use Rattle.format.specs.declared.Spot.{Spot}
use Rattle.format.specs.Kinds.{ODRM, ODDA, other_in, kind_of, fields_length, kind_number}
use Rattle.format.specs.Header.{type_of}
use Rattle.format.specs.Tree.{Run, end, bad, leaf, node, encode, Good}
use Rattle.format.specs.Boxes.{Box, top, kind, box_of, into, boxes, only, Container, first_of, inside_first, after_first, start, container_of, containers}
use Rattle.format.specs.Allowed.{Fielded}
use Rattle.format.specs.Judge.{done, read_of}
use Rattle.format.specs.Report.{containers_in}
use Rattle.format.specs.Standing.{Stands}
use Rattle.format.proofs.Tiling.{each_append, each_both, each_at, each-only}
use Rattle.format.proofs.Containers.{Sound, only-odrm, only-odhe, only-ohdr, only-odda}
use Rattle.format.proofs.Standing.{file-stands}
use Rattle.format.proofs.Strings.{each_of}
use Rattle.format.proofs.Exact.{sound, reported}
use Rattle.summaries.specs.Contained.{Opens, Contained, no_container, Begun, Listed}

-- ---- the boxes of each kind

abbrev Long : Box → Type 0
Long x = x.type ≡ ODDA → x.skip ≡ 16

long-each : (q : Spot) (at : ℕ) (t : Run) → Good q.place t → Each Long (boxes q at t)
long-each q at end g = tt
long-each q at (bad k s) g = tt
long-each q at (leaf h b r) g = (g.0.long, long-each q (at + (length h + length b)) r g.2)
long-each q at (node h f k r) g =
    let n : ℕ = length f + length (encode k) in
    let x : Box = box_of q at h n f in
    let p : ℕ = at + (length h + length f) in
    let e : ℕ = at + (length h + n) in
    (g.0.long, each_append Long (boxes (into q x) p k) (boxes q e r) (long-each (into q x) p k g.2) (long-each q e r g.3))

record Held (s : List ℕ) (k : Kind) (x : Box) : Type 0 where
  stands : Stands s x
  fielded : Fielded x
  long : Long x
  of : kind x ≡ k

held-only : (s : List ℕ) (k : Kind) (xs : List Box) → Each (Stands s) xs → Each Fielded xs → Each Long xs → Each (Held s k) (only k xs)
held-only s k xs a b l =
    each-only (λ x. Stands s x × (Fielded x × Long x)) (Held s k) k (λ x h e. record { stands = h.0; fielded = h.1.0; long = h.1.1; of = e }) xs
    (each_both (Stands s) (λ x. Fielded x × Long x) xs a (each_both Fielded Long xs b l))

-- ---- where the boxes of a container are

-- the first box of a run, which is none only where there is no box
first-at : (q : Spot) (at : ℕ) (t : Run) (k : Kind) → kind_number k < 9 → kind (first_of q at t) ≡ k
    → ((first_of q at t).at ≡ at) × ((first_of q at t).depth ≡ q.depth)
unfolding kind_number kind_of other_in
first-at q at end k l e = absurd (omega (arith, ap kind_number e))
first-at q at (bad j s) k l e = absurd (omega (arith, ap kind_number e))
first-at q at (leaf h b r) k l e = (refl, refl)
first-at q at (node h f i r) k l e = (refl, refl)

record Placed (c : Container) : Type 0 where
  odrm : c.odrm.depth ≡ 0
  odhe : kind c.odhe ≡ Odhe → (c.odhe.at ≡ start c.odrm) × (c.odhe.depth ≡ 1)
  ohdr : kind c.ohdr ≡ Ohdr → (c.ohdr.at ≡ start c.odhe) × (c.ohdr.depth ≡ 2)
  odda : kind c.odda ≡ Odda → (c.odda.at ≡ c.odhe.at + c.odhe.size) × (c.odda.depth ≡ 1)

placed : (x : Box) (k : Run) → x.depth ≡ 0 → Placed (container_of x k)
unfolding kind_number
placed x k d =
    let q : Spot = into top x in
    let y : Box = first_of q (start x) k in
    record {
      odrm = d;
      odhe = first-at q (start x) k Odhe (omega arith);
      ohdr = first-at (into q y) (start y) (inside_first k) Ohdr (omega arith);
      odda = first-at q (y.at + y.size) (after_first k) Odda (omega arith);
    }

placed-each : (at : ℕ) (t : Run) → Each Placed (containers at t)
placed-each at end = tt
placed-each at (bad k s) = tt
placed-each at (leaf h b r) = placed-each (at + (length h + length b)) r
placed-each at (node h f k r) = go (eqb (type_of h) ODRM) (placed-each (at + (length h + n)) r)
  where
    n : ℕ
    n = length f + length (encode k)

    c : Container
    c = container_of (box_of top at h n f) k

    rest : List Container
    rest = containers (at + (length h + n)) r

    go : (b : Bool) → Each Placed rest → Each Placed (pick b (c ∷ []) [] ++ rest)
    go true i = (placed (box_of top at h n f) k refl, i)
    go false i = i

-- ---- every container of a file

opens : {s : List ℕ} {k : Kind} {at depth : ℕ} {x : Box} → Held s k x → (x.at ≡ at) × (x.depth ≡ depth) → 4 ≤ fields_length k x.fields
    → Opens s k at depth x
opens h p l = record {
  stands = h.stands;
  fielded = h.fielded;
  of = h.of;
  full = l;
  here = p.0;
  deep = p.1;
  long = h.long;
}

contained : {s : List ℕ} {c : Container} → Held s Odrm c.odrm → Held s Odhe c.odhe → Held s Ohdr c.ohdr → Held s Odda c.odda
    → Placed c → Contained s c.odrm.at c
unfolding fields_length
contained a e o d p = record {
  odrm = opens a (refl, p.odrm) (omega arith);
  odhe = opens e (p.odhe e.of) (omega arith);
  ohdr = opens o (p.ohdr o.of) (omega arith);
  odda = opens d (p.odda d.of) (omega arith);
}

contained-each : (s : List ℕ) (cs : List Container) → Each (λ c. Held s Odrm c.odrm) cs → Each (λ c. Held s Odhe c.odhe) cs
    → Each (λ c. Held s Ohdr c.ohdr) cs → Each (λ c. Held s Odda c.odda) cs → Each Placed cs
    → Each (λ c. Contained s c.odrm.at c) cs
contained-each s [] a e o d p = tt
contained-each s (c ∷ cs) a e o d p =
    (contained a.0 e.0 o.0 d.0 p.0, contained-each s cs a.1 e.1 o.1 d.1 p.1)

tree-contained : (t : Run) → Sound 0 t → Each (λ c. Contained (encode t) c.odrm.at c) (containers 0 t)
tree-contained t u =
    let s : List ℕ = encode t in
    let l : List Box = boxes top 0 t in
    let st : Each (Stands s) l = file-stands Top top t refl u.good in
    let lo : Each Long l = long-each top 0 t u.good in
    let cs : List Container = containers 0 t in
    contained-each s cs
    (each_of (Held s Odrm) (λ c. c.odrm) cs (rw (only-odrm u) at (held-only s Odrm l st u.fielded lo)))
    (each_of (Held s Odhe) (λ c. c.odhe) cs (rw (only-odhe u) at (held-only s Odhe l st u.fielded lo)))
    (each_of (Held s Ohdr) (λ c. c.ohdr) cs (rw (only-ohdr u) at (held-only s Ohdr l st u.fielded lo)))
    (each_of (Held s Odda) (λ c. c.odda) cs (rw (only-odda u) at (held-only s Odda l st u.fielded lo)))
    (placed-each 0 t)

pub accepted-contained : (cap : ℕ) (s : List ℕ) (l : List Box) → read_of cap s ≡ done l
    → Each (λ c. Contained s c.odrm.at c) (containers_in l)
accepted-contained cap s l e =
    let r = reported cap s l e in
    rw (r.bytes, r.containers-of) (tree-contained r.tree (sound cap r.tree r.allowed))

-- ---- the containers at the offsets that a reading has kept

pub kept-listed : (s starts : List ℕ) (n : ℕ) (cs : List Container) → length cs ≡ n → take n starts ≡ map (λ c. c.odrm.at) cs
    → Each (λ c. Contained s c.odrm.at c) cs → Listed s starts n cs
kept-listed s starts n cs k t a = record {
  count = k;
  each = λ i l.
      let e : get_or starts i 0 ≡ (get_or cs i no_container).odrm.at =
      sym (get_or-take n starts i 0 l) ∙ ap (λ (xs : List ℕ). get_or xs i 0) t ∙ get_or-map (λ c. c.odrm.at) cs i no_container in
      rw e (each_at (λ c. Contained s c.odrm.at c) no_container cs a i (omega arith));
}

pub listed-begun : {s starts : List ℕ} {n : ℕ} {cs : List Container} → n ≤ 8 → n ≤ length starts → Listed s starts n cs → Begun s starts n
listed-begun {cs = cs} f t l = record { few = f; told = t; each = λ i k. (get_or cs i no_container, l.each i k) }

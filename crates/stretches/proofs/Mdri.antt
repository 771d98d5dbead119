-- The mdri of an accepted file: its boxes lie end to end behind its header, and every rights object is one of them. Assumes nothing.
use mathlib.Core.Path.{◌≡◌, refl, ap, ◌∙◌, subst}
use mathlib.Core.Logic.{◌⊎◌, inl, inr}
use Prim.Native.Nat.{ℕ, ◌+◌, ◌≤◌}
use native.Mathlib.Omega.{arith}
use mathlib.Core.Bool.{Bool, true, false}
use mathlib.Core.List.{List, [], ◌∷◌, ◌++◌, append-nil}
use lib.ListN.{length, get_or}
use lib.Dec.{eqb}
use borrow.Author.Tests.{eqb-true, eqb-false}
use Rattle.numbers.specs.Choice.{pick}
use Rattle.strings.specs.Headers.{Each}
use Rattle.format.specs.declared.Place.{Place}
use Rattle.format.specs.declared.Place.TheVariants.{Top, InMdri}
use Rattle.format.specs.declared.Kind.{Kind}
use Rattle.format.specs.declared.Kind.TheVariants.{Mdri, Odrb}
use Rattle.format.specs.declared.Spot.{Spot}
use Rattle.format.specs.Kinds.{FTYP, MDRI, ODDA, UDTA, OHDR, kind_of, fields_length, holds_run, inside, kind_number, same_kind}
use Rattle.format.specs.Header.{type_of}
use Rattle.format.specs.Tree.{Run, end, bad, leaf, node, encode, Good}
use Rattle.format.specs.Boxes.{Box, top, kind, box_of, into, boxes, only}
use Rattle.format.specs.Allowed.{types, count, IsOther, Ordered, Filled, Fielded}
use Rattle.format.specs.Judge.{done, read_of}
use Rattle.format.specs.Standing.{Stands}
use Rattle.format.proofs.Saying.{clash}
use Rattle.format.proofs.Headers.{at-least-eight}
use Rattle.format.proofs.Logs.{only-append}
use Rattle.format.proofs.Order.{Named, ftyp, odrm, odhe, ohdr, odda, mdri, odtt, odrb, udta, other, named}
use Rattle.format.proofs.Tiling.{each_left, each_right, each_map, leaf-holds}
use Rattle.format.proofs.Exact.{reported}

-- ---- kinds

abbrev NoMdri : List ℕ → Type 0
NoMdri ts = Each (λ t. t ≡ MDRI → ⊥) ts

-- a rights object stands in mdri alone
not-odrb : {c : Place} {t : ℕ} {k : Kind} → Named c t k → (c ≡ InMdri → ⊥) → same_kind k Odrb ≡ false
unfolding same_kind kind_number
not-odrb ftyp n = refl
not-odrb odrm n = refl
not-odrb odhe n = refl
not-odrb ohdr n = refl
not-odrb odda n = refl
not-odrb mdri n = refl
not-odrb odtt n = refl
not-odrb odrb n = absurd (n refl)
not-odrb udta n = refl
not-odrb (other o) n = refl

not-mdri : {c : Place} {t : ℕ} {k : Kind} → Named c t k → (t ≡ MDRI → ⊥) → same_kind k Mdri ≡ false
unfolding same_kind kind_number
not-mdri ftyp n = refl
not-mdri odrm n = refl
not-mdri odhe n = refl
not-mdri ohdr n = refl
not-mdri odda n = refl
not-mdri mdri n = absurd (n refl)
not-mdri odtt n = refl
not-mdri odrb n = refl
not-mdri udta n = refl
not-mdri (other o) n = refl

-- the others hold no run
shut : {c : Place} {t : ℕ} {k : Kind} → Named c t k → IsOther t → holds_run k ≡ false
unfolding holds_run
shut ftyp o = refl
shut odrm o = absurd (o.1.0 refl)
shut odhe o = absurd (o.1.1.0 refl)
shut ohdr o = absurd (o.1.1.1.0 refl)
shut odda o = refl
shut mdri o = absurd (o.1.1.1.1.1.0 refl)
shut odtt o = refl
shut odrb o = refl
shut udta o = refl
shut (other o) _ = refl

others-no_mdri : (ts : List ℕ) → Each IsOther ts → NoMdri ts
others-no_mdri ts o = each_map IsOther (λ t. t ≡ MDRI → ⊥) (λ t p. p.1.1.1.1.1.0) ts o

-- the run in a box that is no mdri is not mdri's, and has no mdri in it
record Elsewhere (k : Kind) (ts : List ℕ) : Type 0 where
  place : inside k ≡ InMdri → ⊥
  none : NoMdri ts

elsewhere : {c : Place} {t : ℕ} {k : Kind} → Named c t k → (ts : List ℕ) → (t ≡ MDRI → ⊥) → holds_run k ≡ true → Ordered (inside k) ts → Elsewhere k ts
unfolding holds_run inside
elsewhere ftyp ts n h o = clash refl h
elsewhere odrm ts n h o = record {
  place = λ e. let z : ◌≡◌ {A = ℕ} 0 1 = cc in omega arith;
  none = rw o.starts ((λ e. omega arith), ((λ e. omega arith), others-no_mdri o.rest o.others));
}
elsewhere odhe ts n h o = record { place = λ e. let z : ◌≡◌ {A = ℕ} 0 1 = cc in omega arith; none = go o }
  where
    go : (ts ≡ OHDR ∷ []) ⊎ (ts ≡ OHDR ∷ (UDTA ∷ [])) → NoMdri ts
    go (inl e) = rw e ((λ z. omega arith), tt)
    go (inr e) = rw e ((λ z. omega arith), ((λ z. omega arith), tt))
elsewhere ohdr ts n h o = record { place = λ e. let z : ◌≡◌ {A = ℕ} 0 1 = cc in omega arith; none = others-no_mdri ts o }
elsewhere odda ts n h o = clash refl h
elsewhere mdri ts n h o = absurd (n refl)
elsewhere odtt ts n h o = clash refl h
elsewhere odrb ts n h o = clash refl h
elsewhere udta ts n h o = clash refl h
elsewhere (other p) ts n h o = clash refl h

-- ---- no mdri and no rights object

abbrev None : List Box → Type 0
None log = (only Mdri log ≡ []) × (only Odrb log ≡ [])

-- a box and the boxes in it that are none of them
skipped : (x : Box) (xs ys : List Box) → same_kind (kind x) Mdri ≡ false → same_kind (kind x) Odrb ≡ false → None xs
    → (only Mdri (x ∷ (xs ++ ys)) ≡ only Mdri ys) × (only Odrb (x ∷ (xs ++ ys)) ≡ only Odrb ys)
skipped x xs ys a b n = (rw (a, only-append Mdri xs ys, n.0), rw (b, only-append Odrb xs ys, n.1))

none_in : (q : Spot) (at : ℕ) (t : Run) → (q.place ≡ InMdri → ⊥) → NoMdri (types t) → Good q.place t → Filled q.place t → None (boxes q at t)
none_in q at end p n g w = (refl, refl)
none_in q at (bad k s) p n g w = (refl, refl)
none_in q at (leaf h b r) p n g w =
    let x : Box = box_of q at h (length b) b in
    let i = none_in q (at + (length h + length b)) r p n.1 g.2 w in
    let m = named q.place (type_of h) in
    let u = skipped x [] (boxes q (at + (length h + length b)) r) (not-mdri m n.0) (not-odrb m p) (refl, refl) in
    (u.0 ∙ i.0, u.1 ∙ i.1)
none_in q at (node h f k r) p n g w =
    let z : ℕ = length f + length (encode k) in
    let x : Box = box_of q at h z f in
    let m = named q.place (type_of h) in
    let e = elsewhere m (types k) n.0 g.1.0 w.0 in
    let j = none_in (into q x) (at + (length h + length f)) k e.place e.none g.2 w.1 in
    let i = none_in q (at + (length h + z)) r p n.1 g.3 w.2 in
    let u = skipped x (boxes (into q x) (at + (length h + length f)) k) (boxes q (at + (length h + z)) r) (not-mdri m n.0) (not-odrb m p) j in
    (u.0 ∙ i.0, u.1 ∙ i.1)

-- ---- the boxes in mdri, end to end

pub record Child (s : List ℕ) (at : ℕ) (y : Box) : Type 0 where
  pub stands : Stands s y
  pub fielded : Fielded y
  pub here : y.at ≡ at
  pub place : y.place ≡ InMdri
  pub plain : y.type ≡ ODDA → ⊥

abbrev pub Chain : List ℕ → ℕ → List Box → Type 0
Chain s at [] = Unit {0}
Chain s at (y ∷ ys) = Child s at y × Chain s (at + y.size) ys

chain : (s : List ℕ) (q : Spot) (at : ℕ) (t : Run) → q.place ≡ InMdri → Each IsOther (types t) → Good q.place t → Filled q.place t
    → Each (Stands s) (boxes q at t) → Each Fielded (boxes q at t) → Chain s at (boxes q at t)
chain s q at end p o g w a d = tt
chain s q at (bad k b) p o g w a d = absurd w
chain s q at (leaf h b r) p o g w a d = (
  record { stands = a.0; fielded = d.0; here = refl; place = p; plain = o.0.1.1.1.1.0 },
  chain s q (at + (length h + length b)) r p o.1 g.2 w a.1 d.1,
)
chain s q at (node h f k r) p o g w a d = clash (shut (named q.place (type_of h)) o.0) g.1.0

-- ---- the run at the top: its mdri, or none

-- the one mdri of a file among its mdris ms, with its boxes end to end, and its rights objects os
pub record MdriOf (s : List ℕ) (ms os : List Box) : Type 0 where
  pub box : Box
  pub stands : Stands s box
  pub plain : box.type ≡ ODDA → ⊥
  pub alone : ms ≡ box ∷ []
  pub children : List Box
  pub chained : Chain s (box.at + box.skip) children
  pub rights : os ≡ only Odrb children

-- ts: the types of the run that starts at an offset and has these mdris and rights objects
record Found (s : List ℕ) (at : ℕ) (ts : List ℕ) (ms os : List Box) : Type 0 where
  mdri : MdriOf s ms os
  late : at ≤ mdri.box.at
  first : mdri.box.at ≡ at → get_or ts 0 0 ≡ MDRI

abbrev Sought : List ℕ → ℕ → List ℕ → List Box → Type 0
Sought s at ts log = Found s at ts (only Mdri log) (only Odrb log) ⊎ None log

later : (s : List ℕ) (at n t : ℕ) (ts : List ℕ) (log log' : List Box) → 1 ≤ n → only Mdri log' ≡ only Mdri log → only Odrb log' ≡ only Odrb log
    → Sought s (at + n) ts log → Sought s at (t ∷ ts) log'
later s at n t ts log log' l a b (inl m) =
    rw (a, b) (inl (record { mdri = m.mdri; late = omega (arith, m.late); first = λ e. absurd (omega (arith, m.late)) }))
later s at n t ts log log' l a b (inr m) = inr (a ∙ m.0, b ∙ m.1)

no_more : (ts : List ℕ) → count MDRI ts ≡ 0 → NoMdri ts
no_more [] e = tt
no_more (t ∷ ts) e = go (eqb t MDRI) refl e (no_more ts)
  where
    go : (b : Bool) → eqb t MDRI ≡ b → pick b 1 0 + count MDRI ts ≡ 0 → (count MDRI ts ≡ 0 → NoMdri ts) → (t ≡ MDRI → ⊥) × NoMdri ts
    go true f e i = absurd (omega arith)
    go false f e i = (eqb-false t MDRI f, i (omega arith))

top-not : Top ≡ InMdri → ⊥
top-not e = let z : ◌≡◌ {A = ℕ} 0 1 = cc in omega arith

-- others are no mdri
none-among : (q : Spot) (at : ℕ) (t : Run) → Each IsOther (types t) → Good q.place t → only Mdri (boxes q at t) ≡ []
none-among q at end o g = refl
none-among q at (bad k s) o g = refl
none-among q at (leaf h b r) o g =
    rw (not-mdri (named q.place (type_of h)) o.0.1.1.1.1.1.0) (none-among q (at + (length h + length b)) r o.1 g.2)
none-among q at (node h f k r) o g = clash (shut (named q.place (type_of h)) o.0) g.1.0

-- an mdri, the boxes in it and the boxes after it
kept : (x : Box) (xs ys : List Box) → kind x ≡ Mdri → only Mdri xs ≡ [] → None ys
    → (only Mdri (x ∷ (xs ++ ys)) ≡ x ∷ []) × (only Odrb (x ∷ (xs ++ ys)) ≡ only Odrb xs)
unfolding same_kind kind_number
kept x xs ys m a n = (rw (m, only-append Mdri xs ys, a, n.0), rw (m, only-append Odrb xs ys, n.1) (append-nil (only Odrb xs)))

is-here : (s : List ℕ) (at : ℕ) (h f : List ℕ) (k r : Run) → type_of h ≡ MDRI → Good Top (node h f k r) → Filled Top (node h f k r)
    → count MDRI (types r) ≡ 0 → Each (Stands s) (boxes top at (node h f k r)) → Each Fielded (boxes top at (node h f k r))
    → Found s at (types (node h f k r)) (only Mdri (boxes top at (node h f k r))) (only Odrb (boxes top at (node h f k r)))
unfolding kind_of inside fields_length
is-here s at h f k r e g w n a d =
    let z : ℕ = length f + length (encode k) in
    let x : Box = box_of top at h z f in
    let p : ℕ = at + (length h + length f) in
    let xs : List Box = boxes (into top x) p k in
    let ys : List Box = boxes top (at + (length h + z)) r in
    let m : kind x ≡ Mdri = ap (kind_of Top) e in
    let o : Each IsOther (types k) = (subst (λ (j : Kind). Ordered (inside j) (types k)) m w.0).others in
    let l : 0 ≡ length f = rw m at g.1.1 in
    let q : p ≡ at + length h = omega arith in
    let rest = none_in top (at + (length h + z)) r top-not (no_more (types r) n) g.3 w.2 in
    let c : Chain s p xs = chain s (into top x) p k (ap inside m) o g.2 w.1 (each_left (Stands s) xs ys a.1) (each_left Fielded xs ys d.1) in
    let u = kept x xs ys m (none-among (into top x) p k o g.2) rest in
    record {
      mdri = record {
        box = x;
        stands = a.0;
        plain = λ t. absurd (omega arith);
        alone = u.0;
        children = xs;
        chained = subst (λ (j : ℕ). Chain s j xs) q c;
        rights = u.1;
      };
      late = omega arith;
      first = λ _. e;
    }

find : (s : List ℕ) (at : ℕ) (t : Run) → Good Top t → Filled Top t → count MDRI (types t) ≤ 1 → Each (Stands s) (boxes top at t)
    → Each Fielded (boxes top at t) → Sought s at (types t) (boxes top at t)
unfolding kind_of holds_run
find s at end g w n a d = inr (refl, refl)
find s at (bad k b) g w n a d = inr (refl, refl)
find s at (leaf h b r) g w n a d =
    let x : Box = box_of top at h (length b) b in
    let ys : List Box = boxes top (at + (length h + length b)) r in
    let m : type_of h ≡ MDRI → ⊥ = λ e. clash (leaf-holds top at h b g.1 d.0) (ap (λ (t : ℕ). holds_run (kind_of Top t)) e) in
    let u = skipped x [] ys (not-mdri (named Top (type_of h)) m) (not-odrb (named Top (type_of h)) top-not) (refl, refl) in
    later s at (length h + length b) (type_of h) (types r) ys (x ∷ ys) (omega (arith, g.0.form, at-least-eight h)) u.0 u.1
    (find s (at + (length h + length b)) r g.2 w (omega arith) a.1 d.1)
find s at (node h f k r) g w n a d =
    let z : ℕ = length f + length (encode k) in
    let x : Box = box_of top at h z f in
    let xs : List Box = boxes (into top x) (at + (length h + length f)) k in
    let ys : List Box = boxes top (at + (length h + z)) r in
    let i = find s (at + (length h + z)) r g.3 w.2 (omega arith) (each_right (Stands s) xs ys a.1) (each_right Fielded xs ys d.1) in
    go (eqb (type_of h) MDRI) refl n i
  where
    go : (b : Bool) → eqb (type_of h) MDRI ≡ b → pick b 1 0 + count MDRI (types r) ≤ 1
        → Sought s (at + (length h + (length f + length (encode k)))) (types r) (boxes top (at + (length h + (length f + length (encode k)))) r)
        → Sought s at (types (node h f k r)) (boxes top at (node h f k r))
    go true e l i = inl (is-here s at h f k r (eqb-true (type_of h) MDRI e) g w (omega arith) a d)
    go false e l i =
        let z : ℕ = length f + length (encode k) in
        let x : Box = box_of top at h z f in
        let xs : List Box = boxes (into top x) (at + (length h + length f)) k in
        let ys : List Box = boxes top (at + (length h + z)) r in
        let m : type_of h ≡ MDRI → ⊥ = eqb-false (type_of h) MDRI e in
        let v = elsewhere (named Top (type_of h)) (types k) m g.1.0 w.0 in
        let j = none_in (into top x) (at + (length h + length f)) k v.place v.none g.2 w.1 in
        let u = skipped x xs ys (not-mdri (named Top (type_of h)) m) (not-odrb (named Top (type_of h)) top-not) j in
        later s at (length h + z) (type_of h) (types r) ys (x ∷ (xs ++ ys)) (omega (arith, g.0.form, at-least-eight h)) u.0 u.1 i

-- ---- an accepted file

-- its mdri is not its first box
pub mdri-of : (s : List ℕ) (log : List Box) → read_of 256 s ≡ done log
    → ((m : MdriOf s (only Mdri log) (only Odrb log)) × (m.box.at ≡ 0 → ⊥)) ⊎ ((only Mdri log ≡ []) × (only Odrb log ≡ []))
mdri-of s log e =
    let p = reported 256 s log e in
    let f = find s 0 p.tree p.allowed.good p.allowed.filled p.allowed.ordered.mdri (rw p.boxes-of at p.stand) p.allowed.fielded in
    rw p.boxes-of (go (types p.tree) (boxes top 0 p.tree) p.allowed.ordered.first f)
  where
    go : (ts : List ℕ) (l : List Box) → get_or ts 0 0 ≡ FTYP → Sought s 0 ts l
        → ((m : MdriOf s (only Mdri l) (only Odrb l)) × (m.box.at ≡ 0 → ⊥)) ⊎ None l
    go ts l t (inl m) = inl (m.mdri, λ z. omega (arith, m.first z))
    go ts l t (inr n) = inr n

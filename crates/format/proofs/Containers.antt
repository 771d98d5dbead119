-- The odrm, odhe, ohdr and odda of the boxes read are those of the tree's containers, one of each to a container. Assumes nothing.
use mathlib.Core.Path.{◌≡◌, refl, sym, ap, ◌∙◌, subst}
use mathlib.Core.Logic.{inl, inr, ◌↔◌}
use Prim.Native.Nat.{ℕ, ◌+◌}
use native.Mathlib.Omega.{arith}
use mathlib.Core.Bool.{Bool, true, false}
use mathlib.Core.List.{List, [], ◌∷◌, ◌++◌, map}
use lib.ListN.{length}
use lib.Seq.{take-length}
use lib.Dec.{leb, eqb}
use borrow.Author.Tests.{ne_eqb, eqb-true, eqb-false}
use Rattle.numbers.specs.Choice.{pick, both, pick-by}
use Rattle.strings.specs.Headers.{Each}
use Rattle.format.specs.declared.Place.{Place}
use Rattle.format.specs.declared.Place.TheVariants.{Top, InOdrm, InOdhe, InOhdr, InMdri}
use Rattle.format.specs.declared.Kind.{Kind}
use Rattle.format.specs.declared.Kind.TheVariants.{Ftyp, Odrm, Odhe, Ohdr, Odda, Mdri, Odtt, Odrb, Udta, Other}
use Rattle.format.specs.declared.Spot.{Spot}
use Rattle.format.specs.Kinds.{FTYP, ODRM, ODHE, OHDR, ODDA, MDRI, ODTT, ODRB, UDTA, other_in, kind_of, fields_length, holds_run, inside, kind_number, same_kind}
use Rattle.format.specs.Header.{type_of}
use Rattle.format.specs.Tree.{Run, end, bad, leaf, node, encode, kind_at, Good}
use Rattle.format.specs.Fields.{method, plaintext, data_length}
use Rattle.format.specs.Boxes.{Box, top, kind, box_of, into, boxes, only, Container, first_of, start, container_of, containers}
use Rattle.format.specs.Allowed.{types, count, IsOther, OdrmRun, OdheRun, Ordered, Filled, Fielded}
use Rattle.format.specs.Judge.{agrees}
use Rattle.format.specs.Report.{group, containers_in}
use Rattle.format.proofs.Passing.{Agreed}
use Rattle.format.proofs.Saying.{clash}
use Rattle.format.proofs.Tiling.{each_left, each_right, leaf-holds}

-- ---- the boxes of the four kinds: what is asked of the boxes is asked of these alone

is_four : Kind → Bool
is_four k = both (leb 1 (kind_number k)) (leb (kind_number k) 4)

abbrev four : List Box → List Box
four [] = []
four (x ∷ xs) = pick (is_four (kind x)) (x ∷ four xs) (four xs)

apart : (j k : Kind) → is_four j ≡ false → is_four k ≡ true → same_kind j k ≡ false
unfolding is_four same_kind
apart j k a b = ne_eqb (kind_number j) (kind_number k) (λ e. clash a (ap (λ (n : ℕ). both (leb 1 n) (leb n 4)) e ∙ b))

four-append : (xs ys : List Box) → four (xs ++ ys) ≡ four xs ++ four ys
four-append [] ys = refl
four-append (x ∷ xs) ys = rw (four-append xs ys) (go (is_four (kind x)))
  where
    go : (b : Bool) → pick b (x ∷ (four xs ++ four ys)) (four xs ++ four ys) ≡ pick b (x ∷ four xs) (four xs) ++ four ys
    go true = refl
    go false = refl

only-four : (k : Kind) → is_four k ≡ true → (xs : List Box) → only k (four xs) ≡ only k xs
only-four k e [] = refl
only-four k e (x ∷ xs) = go (only-four k e xs) (is_four (kind x)) refl
  where
    go : only k (four xs) ≡ only k xs → (b : Bool) → is_four (kind x) ≡ b → only k (pick b (x ∷ four xs) (four xs)) ≡ only k (x ∷ xs)
    go i true _ = rw i
    go i false a = rw (apart (kind x) k a e) i

agreed-four : (o : Box) (xs : List Box) → Agreed o (four xs) ↔ Agreed o xs
unfolding is_four kind_number
agreed-four o [] = (λ a. a, λ a. a)
agreed-four o (x ∷ xs) = go (λ p. agreed-four p xs) (is_four (kind x)) refl
  where
    go : ((p : Box) → Agreed p (four xs) ↔ Agreed p xs) → (b : Bool) → is_four (kind x) ≡ b
        → Agreed o (pick b (x ∷ four xs) (four xs)) ↔ Agreed o (x ∷ xs)
    go i true _ = (λ a. (a.0, (i _).0 a.1), λ a. (a.0, (i _).1 a.1))
    go i false a = rw (apart (kind x) Odda a refl, apart (kind x) Ohdr a refl) (λ z. (clash refl, (i o).0 z), λ z. (i o).1 z.1)

-- ---- the boxes of containers

abbrev flat : List Container → List Box
flat [] = []
flat (c ∷ cs) = c.odrm ∷ (c.odhe ∷ (c.ohdr ∷ (c.odda ∷ flat cs)))

record Kinded (c : Container) : Type 0 where
  odrm : kind c.odrm ≡ Odrm
  odhe : kind c.odhe ≡ Odhe
  ohdr : kind c.ohdr ≡ Ohdr
  odda : kind c.odda ≡ Odda

abbrev pub Matched : Container → Type 0
Matched c = agrees (method c.ohdr.fields) (plaintext c.ohdr.fields) (data_length c.odda.fields) ≡ true

agreed-flat : (o : Box) (cs : List Container) → Each Kinded cs → Agreed o (flat cs) ↔ Each Matched cs
unfolding same_kind kind_number
agreed-flat o [] g = (λ a. a, λ a. a)
agreed-flat o (c ∷ cs) g =
    let i = agreed-flat c.ohdr cs g.1 in
    rw (g.0.odrm, g.0.odhe, g.0.ohdr, g.0.odda) (
      λ a. (a.1.1.1.0 refl, i.0 a.1.1.1.1),
      λ m. (clash refl, (clash refl, (clash refl, (λ _. m.0, i.1 m.1)))),
    )

group-map : (cs : List Container) → group (map (λ c. c.odrm) cs) (map (λ c. c.odhe) cs) (map (λ c. c.ohdr) cs) (map (λ c. c.odda) cs) ≡ cs
group-map [] = refl
group-map (c ∷ cs) = ap (λ (ds : List Container). c ∷ ds) (group-map cs)

-- ---- the kind of a type

-- the chain of kind_of, once
by-type : (P : Kind → Type 0) (c : Place) (t : ℕ) → (t ≡ FTYP → P Ftyp) → (t ≡ ODRM → P Odrm) → (t ≡ ODHE → P Odhe)
    → (t ≡ OHDR → P Ohdr) → (t ≡ ODDA → P Odda) → (t ≡ MDRI → P Mdri) → P (other_in c t) → P (kind_of c t)
unfolding kind_of
by-type P c t f rm he hd da ri o =
    pick-by P (eqb t FTYP) _ _ (λ e. f (eqb-true t FTYP e))
    (λ _. pick-by P (eqb t ODRM) _ _ (λ e. rm (eqb-true t ODRM e))
    (λ _. pick-by P (eqb t ODHE) _ _ (λ e. he (eqb-true t ODHE e))
    (λ _. pick-by P (eqb t OHDR) _ _ (λ e. hd (eqb-true t OHDR e))
    (λ _. pick-by P (eqb t ODDA) _ _ (λ e. da (eqb-true t ODDA e))
    (λ _. pick-by P (eqb t MDRI) _ _ (λ e. ri (eqb-true t MDRI e)) (λ _. o))))))

-- the types of the four kinds, in any place
record Named (c : Place) (t : ℕ) : Type 0 where
  odrm : t ≡ ODRM → kind_of c t ≡ Odrm
  odhe : t ≡ ODHE → kind_of c t ≡ Odhe
  ohdr : t ≡ OHDR → kind_of c t ≡ Ohdr
  odda : t ≡ ODDA → kind_of c t ≡ Odda

named : (c : Place) (t : ℕ) → Named c t
unfolding kind_of
named c t = record { odrm = ap (kind_of c); odhe = ap (kind_of c); ohdr = ap (kind_of c); odda = ap (kind_of c) }

-- of none of the four kinds, and holding no run
abbrev Plain : Kind → Type 0
Plain k = (is_four k ≡ false) × (holds_run k ≡ false)

plain_in : (c : Place) (t : ℕ) → Plain (other_in c t)
unfolding other_in is_four kind_number holds_run
plain_in Top t = (refl, refl)
plain_in InOdrm t = (refl, refl)
plain_in InOdhe t = pick-by Plain (eqb t UDTA) Udta Other (λ _. (refl, refl)) (λ _. (refl, refl))
plain_in InOhdr t = (refl, refl)
plain_in InMdri t =
    pick-by Plain (eqb t ODTT) Odtt _ (λ _. (refl, refl))
    (λ _. pick-by Plain (eqb t ODRB) Odrb Other (λ _. (refl, refl)) (λ _. (refl, refl)))

plain_other : (c : Place) (t : ℕ) → IsOther t → Plain (kind_of c t)
plain_other c t o =
    by-type Plain c t (λ e. absurd (o.0 e)) (λ e. absurd (o.1.0 e)) (λ e. absurd (o.1.1.0 e)) (λ e. absurd (o.1.1.1.0 e))
    (λ e. absurd (o.1.1.1.1.0 e)) (λ e. absurd (o.1.1.1.1.1.0 e)) (plain_in c t)

-- ---- runs: the boxes of the four kinds in each

-- a run of others has none
others-none : (q : Spot) (at : ℕ) (t : Run) → Each IsOther (types t) → Good q.place t → four (boxes q at t) ≡ []
others-none q at end o g = refl
others-none q at (bad k s) o g = refl
others-none q at (leaf h b r) o g =
    rw (plain_other q.place (type_of h) o.0).0 (others-none q (at + (length h + length b)) r o.1 g.2)
others-none q at (node h f k r) o g = clash (plain_other q.place (type_of h) o.0).1 g.1.0

-- a box of the four kinds, the boxes in it and the boxes after it
kept : (k : Kind) (x : Box) (xs ys : List Box) {us vs : List Box} → is_four k ≡ true → kind x ≡ k → four xs ≡ us → four ys ≡ vs
    → four (x ∷ (xs ++ ys)) ≡ x ∷ (us ++ vs)
kept k x xs ys f e a b = rw (ap is_four e ∙ f, four-append xs ys, a, b)

-- the first box of a run is of this kind, and the only one of the four
record First (k : Kind) (q : Spot) (at : ℕ) (t : Run) : Type 0 where
  kinded : kind (first_of q at t) ≡ k
  alone : four (boxes q at t) ≡ first_of q at t ∷ []

odda-run : (q : Spot) (at : ℕ) (t : Run) (ts : List ℕ) → types t ≡ ODDA ∷ ts → Each IsOther ts → Good q.place t → First Odda q at t
unfolding is_four kind_number holds_run
odda-run q at end ts e o g = absurd (cc)
odda-run q at (bad k s) ts e o g = absurd (cc)
odda-run q at (leaf h b r) ts e o g =
    let x : Box = box_of q at h (length b) b in
    let a : type_of h ≡ ODDA = cc in
    let l : types r ≡ ts = cc in
    let k : kind x ≡ Odda = (named q.place (type_of h)).odda a in
    record {
      kinded = k;
      alone = kept Odda x [] (boxes q (at + (length h + length b)) r) refl k refl (others-none q _ r (rw l o) g.2);
    }
odda-run q at (node h f k r) ts e o g =
    let a : type_of h ≡ ODDA = cc in
    clash (ap holds_run ((named q.place (type_of h)).odda a)) g.1.0

ohdr-run : (q : Spot) (at : ℕ) (t : Run) (ts : List ℕ) → types t ≡ OHDR ∷ ts → Each IsOther ts → Good q.place t → Filled q.place t
    → Each Fielded (boxes q at t) → First Ohdr q at t
unfolding is_four kind_number holds_run inside
ohdr-run q at end ts e o g w d = absurd (cc)
ohdr-run q at (bad k s) ts e o g w d = absurd w
ohdr-run q at (leaf h b r) ts e o g w d =
    let a : type_of h ≡ OHDR = cc in
    clash (leaf-holds q at h b g.1 d.0) (ap holds_run ((named q.place (type_of h)).ohdr a))
ohdr-run q at (node h f i r) ts e o g w d =
    let n : ℕ = length f + length (encode i) in
    let x : Box = box_of q at h n f in
    let a : type_of h ≡ OHDR = cc in
    let l : types r ≡ ts = cc in
    let k : kind x ≡ Ohdr = (named q.place (type_of h)).ohdr a in
    let oi : Each IsOther (types i) = subst (λ (j : Kind). Ordered (inside j) (types i)) k w.0 in
    record {
      kinded = k;
      alone = kept Ohdr x (boxes (into q x) (at + (length h + length f)) i) (boxes q (at + (length h + n)) r) refl k
          (others-none (into q x) _ i oi g.2) (others-none q _ r (rw l o) g.3);
    }

-- odhe: ohdr, then others, among which a udta is
odhe-rest : (ts : List ℕ) → OdheRun ts → (us : List ℕ) × (ts ≡ OHDR ∷ us) × Each IsOther us
odhe-rest ts (inl e) = ([], e, tt)
odhe-rest ts (inr e) = (UDTA ∷ [], e, omega arith)

-- where the run in a node starts
starts : (q : Spot) (at : ℕ) (h : List ℕ) (n : ℕ) (f : List ℕ) → fields_length (kind_at q.place h) f ≡ length f
    → start (box_of q at h n f) ≡ at + (length h + length f)
starts q at h n f e = rw (e, take-length f)

-- an odrm's run has the three others of its container
record Three (x : Box) (t : Run) : Type 0 where
  kinded : Kinded (container_of x t)
  three : four (boxes (into top x) (start x) t) ≡ (container_of x t).odhe ∷ ((container_of x t).ohdr ∷ ((container_of x t).odda ∷ []))

odrm-run : (x : Box) (t : Run) → kind x ≡ Odrm → OdrmRun (types t) → Good (inside (kind x)) t → Filled (inside (kind x)) t
    → Each Fielded (boxes (into top x) (start x) t) → Three x t
unfolding is_four kind_number holds_run inside
odrm-run x end kx o g w d = absurd (cc)
odrm-run x (bad k s) kx o g w d = absurd w
odrm-run x (leaf h b r) kx o g w d =
    let e : type_of h ∷ types r ≡ ODHE ∷ (ODDA ∷ o.rest) = o.starts in
    let a : type_of h ≡ ODHE = cc in
    let q : Spot = into top x in
    clash (leaf-holds q (start x) h b g.1 d.0) (ap holds_run ((named q.place (type_of h)).odhe a))
odrm-run x (node h f i r) kx o g w d =
    let q : Spot = into top x in
    let n : ℕ = length f + length (encode i) in
    let y : Box = box_of q (start x) h n f in
    let p : ℕ = start x + (length h + length f) in
    let e : type_of h ∷ types r ≡ ODHE ∷ (ODDA ∷ o.rest) = o.starts in
    let a : type_of h ≡ ODHE = cc in
    let l : types r ≡ ODDA ∷ o.rest = cc in
    let k : kind y ≡ Odhe = (named q.place (type_of h)).odhe a in
    let u = odhe-rest (types i) (subst (λ (j : Kind). Ordered (inside j) (types i)) k w.0) in
    let z : Each Fielded (boxes (into q y) p i) = each_left Fielded _ (boxes q (start x + (length h + n)) r) d.1 in
    let oh = ohdr-run (into q y) p i u.0 u.1 u.2 g.2 w.1 z in
    let od = odda-run q (start x + (length h + n)) r o.rest l o.others g.3 in
    let here : start y ≡ p = starts q (start x) h n f g.1.1 in
    let same : first_of (into q y) p i ≡ first_of (into q y) (start y) i = ap (λ (j : ℕ). first_of (into q y) j i) (sym here) in
    record {
      kinded = record { odrm = kx; odhe = k; ohdr = ap kind (sym same) ∙ oh.kinded; odda = od.kinded };
      three = kept Odhe y (boxes (into q y) p i) (boxes q (start x + (length h + n)) r) refl k
          (oh.alone ∙ ap (λ (v : Box). v ∷ []) same) od.alone;
    }

-- ---- the run at the top

-- odhe, ohdr and odda do not stand at the top, as TopRun says
abbrev pub Outer : ℕ → Type 0
Outer t = (t ≡ ODHE → ⊥) × (t ≡ OHDR → ⊥) × (t ≡ ODDA → ⊥)

none_of : (x y : ℕ) (ys : List ℕ) → count x (y ∷ ys) ≡ 0 → (y ≡ x → ⊥) × (count x ys ≡ 0)
none_of x y ys = go (eqb y x) refl
  where
    go : (b : Bool) → eqb y x ≡ b → pick b 1 0 + count x ys ≡ 0 → (y ≡ x → ⊥) × (count x ys ≡ 0)
    go true _ e = absurd (omega arith)
    go false f e = (eqb-false y x f, omega arith)

pub outer-each : (ts : List ℕ) → (count ODHE ts ≡ 0) × (count OHDR ts ≡ 0) × (count ODDA ts ≡ 0) → Each Outer ts
outer-each [] n = tt
outer-each (t ∷ ts) n =
    let a = none_of ODHE t ts n.0 in
    let b = none_of OHDR t ts n.1 in
    let c = none_of ODDA t ts n.2 in
    ((a.0, b.0, c.0), outer-each ts (a.1, b.1, c.1))

-- what the theorems ask
pub record Sound (at : ℕ) (t : Run) : Type 0 where
  pub good : Good Top t
  pub filled : Filled Top t
  pub others : Each Outer (types t)
  pub fielded : Each Fielded (boxes top at t)

-- but an odrm, a box at the top is of none of the four kinds, and its run, if it has one, is of others
outside : (t : ℕ) (ts : List ℕ) → Outer t → (t ≡ ODRM → ⊥)
    → (is_four (kind_of Top t) ≡ false) × (holds_run (kind_of Top t) ≡ true → Ordered (inside (kind_of Top t)) ts → Each IsOther ts)
unfolding is_four kind_number holds_run inside
outside t ts o n =
    by-type (λ (k : Kind). (is_four k ≡ false) × (holds_run k ≡ true → Ordered (inside k) ts → Each IsOther ts)) Top t
    (λ _. (refl, clash refl)) (λ e. absurd (n e)) (λ e. absurd (o.0 e)) (λ e. absurd (o.1 e)) (λ e. absurd (o.2 e))
    (λ _. (refl, λ _ m. m.others)) ((plain_in Top t).0, clash (plain_in Top t).1)

-- the boxes of the four kinds are the containers'
record Held (at : ℕ) (t : Run) : Type 0 where
  all : four (boxes top at t) ≡ flat (containers at t)
  kinded : Each Kinded (containers at t)

-- a box that holds a run, by whether it is an odrm
held-node : (at : ℕ) (h f : List ℕ) (k r : Run) → Sound at (node h f k r) → Held (at + (length h + (length f + length (encode k)))) r
    → (b : Bool) → eqb (type_of h) ODRM ≡ b → Held at (node h f k r)
unfolding is_four kind_number inside
held-node at h f k r s i true e =
    let n : ℕ = length f + length (encode k) in
    let x : Box = box_of top at h n f in
    let p : ℕ = at + (length h + length f) in
    let kx : kind x ≡ Odrm = (named Top (type_of h)).odrm (eqb-true (type_of h) ODRM e) in
    let here : start x ≡ p = starts top at h n f s.good.1.1 in
    let o : OdrmRun (types k) = subst (λ (j : Kind). Ordered (inside j) (types k)) kx s.filled.0 in
    let d = each_left Fielded (boxes (into top x) p k) (boxes top (at + (length h + n)) r) s.fielded.1 in
    let c = odrm-run x k kx o s.good.2 s.filled.1 (subst (λ (j : ℕ). Each Fielded (boxes (into top x) j k)) (sym here) d) in
    let three = ap (λ (j : ℕ). four (boxes (into top x) j k)) (sym here) ∙ c.three in
    record {
      all = rw e (kept Odrm x (boxes (into top x) p k) (boxes top (at + (length h + n)) r) refl kx three i.all);
      kinded = rw e (c.kinded, i.kinded);
    }
held-node at h f k r s i false e =
    let n : ℕ = length f + length (encode k) in
    let x : Box = box_of top at h n f in
    let p : ℕ = at + (length h + length f) in
    let u = outside (type_of h) (types k) s.others.0 (eqb-false (type_of h) ODRM e) in
    let none = others-none (into top x) p k (u.1 s.good.1.0 s.filled.0) s.good.2 in
    record {
      all = rw (e, u.0, four-append (boxes (into top x) p k) (boxes top (at + (length h + n)) r), none) i.all;
      kinded = rw e i.kinded;
    }

held : (at : ℕ) (t : Run) → Sound at t → Held at t
unfolding holds_run
held at end s = record { all = refl; kinded = tt }
held at (bad k b) s = record { all = refl; kinded = tt }
held at (leaf h b r) s =
    let shut : holds_run (kind_at Top h) ≡ false = leaf-holds top at h b s.good.1 s.fielded.0 in
    let n : type_of h ≡ ODRM → ⊥ = λ e. clash shut (ap holds_run ((named Top (type_of h)).odrm e)) in
    let i = held (at + (length h + length b)) r (record { good = s.good.2; filled = s.filled; others = s.others.1; fielded = s.fielded.1 }) in
    record { all = rw (outside (type_of h) [] s.others.0 n).0 i.all; kinded = i.kinded }
held at (node h f k r) s =
    let n : ℕ = length f + length (encode k) in
    let in-k : List Box = boxes (into top (box_of top at h n f)) (at + (length h + length f)) k in
    let d = each_right Fielded in-k (boxes top (at + (length h + n)) r) s.fielded.1 in
    let i = held (at + (length h + n)) r (record { good = s.good.3; filled = s.filled.2; others = s.others.1; fielded = d }) in
    held-node at h f k r s i (eqb (type_of h) ODRM) refl

-- ---- the theorems

-- a part of each container is all the boxes of its kind
module _ (k : Kind) (p : Container → Box) (f : is_four k ≡ true)
    (one : (c : Container) (cs : List Container) → Kinded c → only k (flat (c ∷ cs)) ≡ p c ∷ only k (flat cs)) where
  only-flat : (cs : List Container) → Each Kinded cs → only k (flat cs) ≡ map p cs
  only-flat [] g = refl
  only-flat (c ∷ cs) g = one c cs g.0 ∙ ap (λ (xs : List Box). p c ∷ xs) (only-flat cs g.1)

  only-each : {at : ℕ} {t : Run} → Sound at t → only k (boxes top at t) ≡ map p (containers at t)
  only-each {at} {t} s =
      let h = held at t s in
      sym (only-four k f (boxes top at t)) ∙ ap (only k) h.all ∙ only-flat (containers at t) h.kinded

pub only-odrm : {at : ℕ} {t : Run} → Sound at t → only Odrm (boxes top at t) ≡ map (λ c. c.odrm) (containers at t)
unfolding is_four same_kind kind_number
only-odrm = only-each Odrm (λ c. c.odrm) refl (λ c cs g. rw (g.odrm, g.odhe, g.ohdr, g.odda))

pub only-odhe : {at : ℕ} {t : Run} → Sound at t → only Odhe (boxes top at t) ≡ map (λ c. c.odhe) (containers at t)
unfolding is_four same_kind kind_number
only-odhe = only-each Odhe (λ c. c.odhe) refl (λ c cs g. rw (g.odrm, g.odhe, g.ohdr, g.odda))

pub only-ohdr : {at : ℕ} {t : Run} → Sound at t → only Ohdr (boxes top at t) ≡ map (λ c. c.ohdr) (containers at t)
unfolding is_four same_kind kind_number
only-ohdr = only-each Ohdr (λ c. c.ohdr) refl (λ c cs g. rw (g.odrm, g.odhe, g.ohdr, g.odda))

pub only-odda : {at : ℕ} {t : Run} → Sound at t → only Odda (boxes top at t) ≡ map (λ c. c.odda) (containers at t)
unfolding is_four same_kind kind_number
only-odda = only-each Odda (λ c. c.odda) refl (λ c cs g. rw (g.odrm, g.odhe, g.ohdr, g.odda))

pub grouped : {at : ℕ} {t : Run} → Sound at t → containers_in (boxes top at t) ≡ containers at t
grouped {at} {t} s = rw (only-odrm s, only-odhe s, only-ohdr s, only-odda s) (group-map (containers at t))

-- the data length of each odda agrees with the ohdr last before it just if each container's does with its ohdr
pub agreed-each : {at : ℕ} {t : Run} (o : Box) → Sound at t → Agreed o (boxes top at t) → Each Matched (containers at t)
agreed-each {at} {t} o s a =
    let h = held at t s in
    (agreed-flat o (containers at t) h.kinded).0 (rw h.all at ((agreed-four o (boxes top at t)).1 a))

pub each-agreed : {at : ℕ} {t : Run} (o : Box) → Sound at t → Each Matched (containers at t) → Agreed o (boxes top at t)
each-agreed {at} {t} o s m =
    let h = held at t s in
    (agreed-four o (boxes top at t)).0 (rw h.all ((agreed-flat o (containers at t) h.kinded).1 m))

-- What a scan of one run asks, a box at a time, is what the paper says of the run. Assumes nothing.
use mathlib.Core.Path.{◌≡◌, refl, sym, ap, ◌∙◌}
use mathlib.Core.Logic.{◌↔◌, inl, inr}
use Prim.Native.Nat.{ℕ, zero, suc, ◌+◌, ◌-◌, ◌*◌, ◌≤◌, ◌<◌}
use native.Mathlib.Omega.{arith}
use mathlib.Core.Bool.{Bool, true, false}
use mathlib.Core.List.{List, [], ◌∷◌}
use lib.ListN.{get_or}
use lib.Dec.{leb, eqb}
use borrow.Author.Tests.{ltb-false, leb-false, lt-leb, le-ltb, eqb-true, eqb-false, eq-eqb, ne_eqb, not-false}
use Rattle.std.specs.Cmp.{both_ways}
use Rattle.numbers.specs.Choice.{pick, both, either, pick-by, pick-zero, either-false, true-not-false}
use Rattle.strings.specs.Headers.{Each}
use Rattle.format.specs.declared.Place.{Place}
use Rattle.format.specs.declared.Place.TheVariants.{Top, InOdrm, InOdhe, InOhdr, InMdri}
use Rattle.format.specs.declared.Kind.{Kind}
use Rattle.format.specs.declared.Kind.TheVariants.{Ftyp, Odrm, Odhe, Ohdr, Odda, Mdri, Odtt, Odrb, Udta, Other}
use Rattle.format.specs.declared.Seen.{Seen}
use Rattle.format.specs.Kinds.{FTYP, ODRM, ODHE, OHDR, ODDA, MDRI, ODTT, ODRB, UDTA, six, other_in, kind_of, kind_number, same_kind, is_six}
use Rattle.format.specs.Allowed.{count, IsOther, TopRun, OdrmRun, OdheRun, Ordered}
use Rattle.format.specs.Judge.{nothing, note, late_at_top, misplaced, missing}
use Rattle.format.proofs.Passing.{Scanned}

-- ---- the kinds of a place: each has its name, and the others have none of the six

pub data Named : Place → ℕ → Kind → Type 0 where
  ftyp : {c : Place} → Named c FTYP Ftyp
  odrm : {c : Place} → Named c ODRM Odrm
  odhe : {c : Place} → Named c ODHE Odhe
  ohdr : {c : Place} → Named c OHDR Ohdr
  odda : {c : Place} → Named c ODDA Odda
  mdri : {c : Place} → Named c MDRI Mdri
  odtt : Named InMdri ODTT Odtt
  odrb : Named InMdri ODRB Odrb
  udta : Named InOdhe UDTA Udta
  other : {c : Place} {t : ℕ} → IsOther t → Named c t Other

-- one test of the chain
link : {c : Place} {t x : ℕ} {j k : Kind} → Named c x j → ((t ≡ x → ⊥) → Named c t k) → Named c t (pick (eqb t x) j k)
link {c} {t} {x} {j} {k} a f =
    pick-by (Named c t) (eqb t x) j k (λ e. rw (eqb-true t x e) a) (λ e. f (eqb-false t x e))

others : (c : Place) (t : ℕ) → IsOther t → Named c t (other_in c t)
unfolding other_in
others Top t o = other o
others InOdrm t o = other o
others InOdhe t o = link udta (λ _. other o)
others InOhdr t o = other o
others InMdri t o = link odtt (λ _. link odrb (λ _. other o))

pub named : (c : Place) (t : ℕ) → Named c t (kind_of c t)
unfolding kind_of
named c t =
    link ftyp (λ f. link odrm (λ m. link odhe (λ e. link ohdr (λ h. link odda (λ a. link mdri (λ r.
    others c t (f, (m, (e, (h, (a, (r, tt))))))))))))

-- the names in the order of their kinds' numbers
abbrev names : List ℕ
names = FTYP ∷ ODRM ∷ ODHE ∷ OHDR ∷ ODDA ∷ MDRI ∷ ODTT ∷ ODRB ∷ UDTA ∷ []

by_name : {c : Place} {t : ℕ} {k : Kind} → Named c t k → kind_number k < 9 → (t ≡ get_or names (kind_number k) 0) × (kind_of c t ≡ k)
unfolding kind_of other_in kind_number
by_name ftyp h = (refl, refl)
by_name odrm h = (refl, refl)
by_name odhe h = (refl, refl)
by_name ohdr h = (refl, refl)
by_name odda h = (refl, refl)
by_name mdri h = (refl, refl)
by_name odtt h = (refl, refl)
by_name odrb h = (refl, refl)
by_name udta h = (refl, refl)
by_name (other o) h = absurd (omega arith)

-- a box has a kind with a name just if it has the name
pub is-named : {c : Place} {x : ℕ} {j : Kind} → Named c x j → kind_number j < 9 → (t : ℕ) → same_kind (kind_of c t) j ≡ true → t ≡ x
unfolding same_kind
is-named {c} {x} {j} a h t e =
    let q : kind_number (kind_of c t) ≡ kind_number j = eqb-true _ _ e in
    (by_name (named c t) (omega arith)).0 ∙ (ap (λ (n : ℕ). get_or names n 0) q ∙ sym (by_name a h).0)

pub same-named : {c : Place} {x : ℕ} {j : Kind} → Named c x j → kind_number j < 9 → (t : ℕ) → same_kind (kind_of c t) j ≡ eqb t x
unfolding same_kind
same-named {c} {x} {j} a h t =
    both_ways _ _ (λ e. eq-eqb t x (is-named a h t e)) (λ e. rw (eqb-true t x e, (by_name a h).1) (eq-eqb (kind_number j) (kind_number j) refl))

-- ---- kinds told apart by their numbers

abbrev listed : List Kind
listed = Ftyp ∷ Odrm ∷ Odhe ∷ Ohdr ∷ Odda ∷ Mdri ∷ Odtt ∷ Odrb ∷ Udta ∷ Other ∷ []

numbered : (k : Kind) → get_or listed (kind_number k) Other ≡ k
unfolding kind_number
numbered Ftyp = refl
numbered Odrm = refl
numbered Odhe = refl
numbered Ohdr = refl
numbered Odda = refl
numbered Mdri = refl
numbered Odtt = refl
numbered Odrb = refl
numbered Udta = refl
numbered Other = refl

pub same_kind_lem : (j k : Kind) → same_kind j k ≡ true → j ≡ k
unfolding same_kind
same_kind_lem j k e = sym (numbered j) ∙ ap (λ (n : ℕ). get_or listed n Other) (eqb-true (kind_number j) (kind_number k) e) ∙ numbered k

-- ---- the same for each name

pub is-ftyp : (c : Place) (t : ℕ) → same_kind (kind_of c t) Ftyp ≡ true → t ≡ FTYP
unfolding kind_number
is-ftyp c = is-named ftyp (omega arith)

pub is-odhe : (c : Place) (t : ℕ) → same_kind (kind_of c t) Odhe ≡ true → t ≡ ODHE
unfolding kind_number
is-odhe c = is-named odhe (omega arith)

pub is-ohdr : (c : Place) (t : ℕ) → same_kind (kind_of c t) Ohdr ≡ true → t ≡ OHDR
unfolding kind_number
is-ohdr c = is-named ohdr (omega arith)

pub is-odda : (c : Place) (t : ℕ) → same_kind (kind_of c t) Odda ≡ true → t ≡ ODDA
unfolding kind_number
is-odda c = is-named odda (omega arith)

pub is-udta : (t : ℕ) → same_kind (kind_of InOdhe t) Udta ≡ true → t ≡ UDTA
unfolding kind_number
is-udta = is-named udta (omega arith)

pub same-odtt : (t : ℕ) → same_kind (kind_of InMdri t) Odtt ≡ eqb t ODTT
unfolding kind_number
same-odtt = same-named odtt (omega arith)

-- ---- the six and the others

beside-six : {c : Place} {t : ℕ} {k : Kind} → Named c t k → (is_six k ≡ false) ↔ IsOther t
unfolding is_six kind_number
beside-six ftyp = (λ e. absurd (true-not-false (sym e)), λ o. absurd (o.0 refl))
beside-six odrm = (λ e. absurd (true-not-false (sym e)), λ o. absurd (o.1.0 refl))
beside-six odhe = (λ e. absurd (true-not-false (sym e)), λ o. absurd (o.1.1.0 refl))
beside-six ohdr = (λ e. absurd (true-not-false (sym e)), λ o. absurd (o.1.1.1.0 refl))
beside-six odda = (λ e. absurd (true-not-false (sym e)), λ o. absurd (o.1.1.1.1.0 refl))
beside-six mdri = (λ e. absurd (true-not-false (sym e)), λ o. absurd (o.1.1.1.1.1.0 refl))
beside-six odtt = (λ e. omega arith, λ o. refl)
beside-six odrb = (λ e. omega arith, λ o. refl)
beside-six udta = (λ e. omega arith, λ o. refl)
beside-six (other o) = (λ e. o, λ o. refl)

pub kind-six : (c : Place) (t : ℕ) → is_six (kind_of c t) ≡ false → IsOther t
kind-six c t = (beside-six (named c t)).0

pub six-kind : (c : Place) (t : ℕ) → IsOther t → is_six (kind_of c t) ≡ false
six-kind c t = (beside-six (named c t)).1

-- an other is no odrm, so there is a row for it
other_row : (k : Kind) (b : Bool) → is_six k ≡ false → both (same_kind k Odrm) b ≡ false
unfolding is_six same_kind kind_number
other_row k b e =
    let h : 6 ≤ kind_number k = ltb-false (kind_number k) 6 e in
    rw (ne_eqb (kind_number k) 1 (λ q. omega arith))

-- ---- nothing but others, after b boxes: in odrm and in ohdr

scan-others : (c : Place) (b : ℕ)
    → ((n : Seen) (k : Kind) → b ≤ n.boxes → misplaced c n k ≡ is_six k)
    → ((n : Seen) → b ≤ n.boxes → missing c n ≡ false)
    → (n : Seen) (ts : List ℕ) → b ≤ n.boxes → Scanned c n ts ↔ Each IsOther ts
unfolding note
scan-others c b plain full n [] h = (λ s. tt, λ o. full n h)
scan-others c b plain full n (t ∷ ts) h =
    let k : Kind = kind_of c t in
    let e = plain n k h in
    let i = scan-others c b plain full (note n k) ts (omega arith) in (
      λ s. (kind-six c t (sym e ∙ s.0.1), i.0 s.1),
      λ o. let z = six-kind c t o.0 in ((other_row k _ z, e ∙ z), i.1 o.1),
    )

scan-odrm : (n : Seen) (ts : List ℕ) → 2 ≤ n.boxes → Scanned InOdrm n ts ↔ Each IsOther ts
unfolding misplaced missing
scan-odrm =
    scan-others InOdrm 2
    (λ n k h. rw (ne_eqb n.boxes 0 (λ e. omega arith), ne_eqb n.boxes 1 (λ e. omega arith)))
    (λ n h. le-ltb n.boxes 2 h)

scan-ohdr : (n : Seen) (ts : List ℕ) → Scanned InOhdr n ts ↔ Each IsOther ts
unfolding misplaced missing
scan-ohdr n ts = scan-others InOhdr 0 (λ n k h. refl) (λ n h. refl) n ts (omega arith)

-- ---- mdri: no second odtt

abbrev one : Bool → ℕ
one b = pick b 1 0

no_second : (a b : Bool) (m : ℕ) → ((both a b ≡ false) × (m ≤ 1 - one (either a b))) ↔ (one a + m ≤ 1 - one b)
no_second true true m = (λ h. absurd (true-not-false (sym h.0)), λ h. absurd (omega arith))
no_second true false m = (λ h. omega arith, λ h. (refl, omega arith))
no_second false b m = (λ h. omega arith, λ h. (refl, omega arith))

scan-mdri : (n : Seen) (ts : List ℕ) → Scanned InMdri n ts ↔ (Each IsOther ts × (count ODTT ts ≤ 1 - one n.odtt))
unfolding note misplaced missing
scan-mdri n [] = (λ s. (tt, omega arith), λ o. refl)
scan-mdri n (t ∷ ts) =
    let k : Kind = kind_of InMdri t in
    let i = scan-mdri (note n k) ts in
    let p = no_second (same_kind k Odtt) n.odtt (count ODTT ts) in (
      λ s.
          let e = either-false (is_six k) (both (same_kind k Odtt) n.odtt) s.0.1 in
          let r = i.0 s.1 in
          ((kind-six InMdri t e.0, r.0), rw (same-odtt t) at (p.0 (e.1, r.1))),
      λ o.
          let e = six-kind InMdri t o.0.0 in
          let q = p.1 (rw (same-odtt t) o.1) in
          ((other_row k _ e, rw e q.0), i.1 (o.0.1, q.1)),
    )

-- ---- at the top: no y after an x, a box at a time and by the places

abbrev Closed : ℕ → ℕ → List ℕ → Type 0
Closed x y [] = Unit {0}
Closed x y (t ∷ ts) = (t ≡ x → count y ts ≡ 0) × Closed x y ts

count_none : (y : ℕ) (ts : List ℕ) → ((j : ℕ) → get_or ts j 0 ≡ y → ⊥) → count y ts ≡ 0
count_none y [] f = refl
count_none y (t ∷ ts) f = rw (ne_eqb t y (f 0)) (omega (arith, count_none y ts (λ j. f (suc j))))

none-at : (y : ℕ) (ts : List ℕ) → 1 ≤ y → count y ts ≡ 0 → (j : ℕ) → get_or ts j 0 ≡ y → ⊥
none-at y [] p e j q = omega arith
none-at y (t ∷ ts) p e zero q = let h : 1 + count y ts ≡ 0 = rw (eq-eqb t y q) at e in omega arith
none-at y (t ∷ ts) p e (suc j) q = none-at y ts p (omega arith) j q

closed-last : (x y : ℕ) (ts : List ℕ) → 1 ≤ x → x < y → Closed x y ts → (i j : ℕ) → get_or ts i 0 ≡ x → get_or ts j 0 ≡ y → j < i
closed-last x y [] p q c i j a b = absurd (omega arith)
closed-last x y (t ∷ ts) p q c zero zero a b = absurd (omega arith)
closed-last x y (t ∷ ts) p q c zero (suc j) a b = absurd (none-at y ts (omega arith) (c.0 a) j b)
closed-last x y (t ∷ ts) p q c (suc i) zero a b = omega arith
closed-last x y (t ∷ ts) p q c (suc i) (suc j) a b = omega (arith, closed-last x y ts p q c.1 i j a b)

last-closed : (x y : ℕ) (ts : List ℕ) → ((i j : ℕ) → get_or ts i 0 ≡ x → get_or ts j 0 ≡ y → j < i) → Closed x y ts
last-closed x y [] f = tt
last-closed x y (t ∷ ts) f =
    (λ e. count_none y ts (λ j q. omega (arith, f 0 (suc j) e q)), last-closed x y ts (λ i j a b. omega (arith, f (suc i) (suc j) a b)))

-- ---- at the top: what may still come after the boxes seen

record Rest (n : Seen) (ts : List ℕ) : Type 0 where
  ftyps : count FTYP ts ≡ 0
  some : 1 ≤ n.odrms + count ODRM ts
  most : count ODRM ts ≤ 8 - (n.odrms + 8 * one n.mdri)
  mdris : count MDRI ts ≤ 1 - one n.mdri
  none : (count ODHE ts ≡ 0) × (count OHDR ts ≡ 0) × (count ODDA ts ≡ 0)

abbrev After : Seen → List ℕ → Type 0
After n ts = Rest n ts × Closed MDRI ODRM ts

-- what a box after the first is asked
abbrev Late : Seen → Kind → Type 0
Late n k = (both (same_kind k Odrm) (leb 8 n.odrms) ≡ false) × (late_at_top n k ≡ false)

-- an other counts for none of the six
uncounted : (t : ℕ) (xs : List ℕ) → Each (λ x. t ≡ x → ⊥) xs → Each (λ x. one (eqb t x) ≡ 0) xs
uncounted t [] o = tt
uncounted t (x ∷ xs) o = (rw (ne_eqb t x o.0), uncounted t xs o.1)

unseen : (m : Bool) → m ≡ false → one m ≡ 0
unseen m e = rw e

-- a box may stand here, and the rest after it, just if it and the rest may come
late-after : {t : ℕ} {k : Kind} (n : Seen) (ts : List ℕ) → Named Top t k → (Late n k × After (note n k) ts) ↔ After n (t ∷ ts)
unfolding note same_kind kind_number late_at_top
late-after n ts ftyp = (λ s. absurd (true-not-false (sym s.0.1)), λ r. absurd (omega arith))
late-after n ts odrm = (
  λ s.
      let p = unseen n.mdri s.0.1 in
      let q = leb-false 8 n.odrms s.0.0 in
      (omega arith, (λ e. omega arith, s.1.1)),
  λ r. ((lt-leb 8 n.odrms (omega arith), (pick-zero n.mdri 0 0 (omega arith)).0), (omega arith, r.1.1)),
)
late-after n ts odhe = (λ s. absurd (true-not-false (sym s.0.1)), λ r. absurd (omega arith))
late-after n ts ohdr = (λ s. absurd (true-not-false (sym s.0.1)), λ r. absurd (omega arith))
late-after n ts odda = (λ s. absurd (true-not-false (sym s.0.1)), λ r. absurd (omega arith))
late-after n ts mdri = (
  λ s. let p = unseen n.mdri s.0.1 in (omega arith, (λ e. omega arith, s.1.1)),
  λ r. let z = r.1.0 refl in ((refl, (pick-zero n.mdri 0 0 (omega arith)).0), (omega arith, r.1.1)),
)
late-after {t} n ts (other o) =
    let z = uncounted t six o in (
      λ s. (omega arith, (λ e. absurd (o.1.1.1.1.1.0 e), s.1.1)),
      λ r. ((refl, refl), (omega arith, r.1.1)),
    )

scan-top : (n : Seen) (ts : List ℕ) → 1 ≤ n.boxes → Scanned Top n ts ↔ After n ts
unfolding missing misplaced note
scan-top n [] h = (λ s. (omega (arith, eqb-false n.odrms 0 s), tt), λ r. ne_eqb n.odrms 0 (λ e. omega arith))
scan-top n (t ∷ ts) h =
    let k : Kind = kind_of Top t in
    let l : misplaced Top n k ≡ late_at_top n k = rw (ne_eqb n.boxes 0 (λ e. omega arith)) in
    let i = scan-top (note n k) ts (omega arith) in
    let p = late-after n ts (named Top t) in (
      λ s. p.0 ((s.0.0, sym l ∙ s.0.1), i.0 s.1),
      λ r. let q = p.1 r in ((q.0.0, l ∙ q.0.1), i.1 q.1),
    )

-- ---- each run from its first box

top-ordered : (ts : List ℕ) → Scanned Top nothing ts → TopRun ts
unfolding missing misplaced note kind_of same_kind kind_number
top-ordered [] s = absurd (true-not-false (sym s))
top-ordered (t ∷ ts) s =
    let e : t ≡ FTYP = is-ftyp Top t (not-false _ s.0.1) in
    let r = (scan-top (note nothing Ftyp) ts (omega arith)).0 (rw e at s.1) in
    rw e (record {
      first = refl;
      ftyp = omega arith;
      odrm = omega arith;
      mdri = omega arith;
      last = closed-last MDRI ODRM (FTYP ∷ ts) (omega arith) (omega arith) (λ e. omega arith, r.1);
      none = omega arith;
    })

ordered-top : (ts : List ℕ) → TopRun ts → Scanned Top nothing ts
unfolding missing misplaced note kind_of same_kind kind_number
ordered-top [] r = absurd (omega arith)
ordered-top (t ∷ ts) r =
    let e : t ≡ FTYP = r.first in
    let q : TopRun (FTYP ∷ ts) = rw e at r in
    rw e ((refl, refl), (scan-top (note nothing Ftyp) ts (omega arith)).1 (omega arith, (last-closed MDRI ODRM (FTYP ∷ ts) q.last).1))

odrm-ordered : (ts : List ℕ) → Scanned InOdrm nothing ts → OdrmRun ts
unfolding missing misplaced note
odrm-ordered [] s = absurd (true-not-false (sym s))
odrm-ordered (t ∷ []) s = absurd (true-not-false (sym s.1))
odrm-ordered (t ∷ u ∷ ts) s =
    let a : t ≡ ODHE = is-odhe InOdrm t (not-false _ s.0.1) in
    let b : u ≡ ODDA = is-odda InOdrm u (not-false _ s.1.0.1) in
    let n : Seen = note (note nothing (kind_of InOdrm t)) (kind_of InOdrm u) in
    record { rest = ts; starts = cc; others = (scan-odrm n ts (omega arith)).0 s.1.1 }

ordered-odrm : (ts : List ℕ) → OdrmRun ts → Scanned InOdrm nothing ts
unfolding missing misplaced note kind_of same_kind kind_number
ordered-odrm ts r =
    rw r.starts ((refl, refl), ((refl, refl), (scan-odrm (note (note nothing Odhe) Odda) r.rest (omega arith)).1 r.others))

odhe-ordered : (ts : List ℕ) → Scanned InOdhe nothing ts → OdheRun ts
unfolding missing misplaced note
odhe-ordered [] s = absurd (true-not-false (sym s))
odhe-ordered (t ∷ []) s = let a : t ≡ OHDR = is-ohdr InOdhe t (not-false _ s.0.1) in inl (cc)
odhe-ordered (t ∷ u ∷ []) s =
    let a : t ≡ OHDR = is-ohdr InOdhe t (not-false _ s.0.1) in
    let b : u ≡ UDTA = is-udta u (not-false _ s.1.0.1) in
    inr (cc)
odhe-ordered (t ∷ u ∷ v ∷ ts) s = absurd (true-not-false (sym s.1.1.0.1))

ordered-odhe : (ts : List ℕ) → OdheRun ts → Scanned InOdhe nothing ts
unfolding missing misplaced note kind_of other_in same_kind kind_number
ordered-odhe ts (inl e) = rw e ((refl, refl), refl)
ordered-odhe ts (inr e) = rw e ((refl, refl), ((refl, refl), refl))

-- ---- every place

pub scanned-ordered : (c : Place) (ts : List ℕ) → Scanned c nothing ts → Ordered c ts
scanned-ordered Top ts s = top-ordered ts s
scanned-ordered InOdrm ts s = odrm-ordered ts s
scanned-ordered InOdhe ts s = odhe-ordered ts s
scanned-ordered InOhdr ts s = (scan-ohdr nothing ts).0 s
scanned-ordered InMdri ts s = let r = (scan-mdri nothing ts).0 s in record { others = r.0; odtt = r.1 }

pub ordered-scanned : (c : Place) (ts : List ℕ) → Ordered c ts → Scanned c nothing ts
ordered-scanned Top ts r = ordered-top ts r
ordered-scanned InOdrm ts r = ordered-odrm ts r
ordered-scanned InOdhe ts r = ordered-odhe ts r
ordered-scanned InOhdr ts r = (scan-ohdr nothing ts).1 r
ordered-scanned InMdri ts r = (scan-mdri nothing ts).1 (r.others, r.odtt)

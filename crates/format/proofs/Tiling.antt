-- The boxes of a good tree, filled and with fields that fit, are tiled. Assumes nothing.
use mathlib.Core.Path.{◌≡◌, refl, ap, ◌∙◌}
use mathlib.Core.Logic.{◌⊎◌, inl, inr}
use Prim.Native.Nat.{ℕ, zero, suc, ◌+◌, ◌≤◌, ◌<◌}
use native.Mathlib.Nat.{zero-add}
use native.Mathlib.Omega.{arith}
use mathlib.Core.Bool.{Bool, true, false}
use mathlib.Core.List.{List, [], ◌∷◌, ◌++◌, append_assoc, append-nil}
use lib.ListN.{length, get_or, length-append}
use lib.Seq.{take-length}
use lib.Dec.{leb, eqb}
use borrow.Author.Tests.{eq-eqb, ne_eqb, le-leb, lt-leb, lt-ltb, le-ltb, leb-false}
use Rattle.numbers.specs.Choice.{pick, both}
use Rattle.strings.specs.Headers.{Each}
use Rattle.format.specs.declared.Place.{Place}
use Rattle.format.specs.declared.Place.TheVariants.{Top}
use Rattle.format.specs.declared.Kind.{Kind}
use Rattle.format.specs.declared.Spot.{Spot}
use Rattle.format.specs.Kinds.{fields_length, same_kind, holds_run, inside}
use Rattle.format.specs.Tree.{Run, end, bad, leaf, node, encode, kind_at, opens, Good}
use Rattle.format.specs.Boxes.{Box, top, kind, box_of, into, boxes, only, start}
use Rattle.format.specs.Allowed.{Filled, Fielded}
use Rattle.format.specs.Tiling.{Tiles, level, is_in, children_of, Tiled}
use Rattle.format.proofs.Headers.{at-least-eight, fields-take}
use Rattle.format.proofs.Order.{same_kind_lem}
use Rattle.format.proofs.Saying.{clash}

-- ---- each of a list

pub each_append : {A : Type 0} (P : A → Type 0) (xs ys : List A) → Each P xs → Each P ys → Each P (xs ++ ys)
each_append P [] ys a b = b
each_append P (x ∷ xs) ys a b = (a.0, each_append P xs ys a.1 b)

pub each_left : {A : Type 0} (P : A → Type 0) (xs ys : List A) → Each P (xs ++ ys) → Each P xs
each_left P [] ys a = tt
each_left P (x ∷ xs) ys a = (a.0, each_left P xs ys a.1)

pub each_right : {A : Type 0} (P : A → Type 0) (xs ys : List A) → Each P (xs ++ ys) → Each P ys
each_right P [] ys a = a
each_right P (x ∷ xs) ys a = each_right P xs ys a.1

pub each_map : {A : Type 0} (P Q : A → Type 0) → ((x : A) → P x → Q x) → (xs : List A) → Each P xs → Each Q xs
each_map P Q f [] a = tt
each_map P Q f (x ∷ xs) a = (f x a.0, each_map P Q f xs a.1)

pub each_both : {A : Type 0} (P Q : A → Type 0) (xs : List A) → Each P xs → Each Q xs → Each (λ x. P x × Q x) xs
each_both P Q [] a b = tt
each_both P Q (x ∷ xs) a b = ((a.0, b.0), each_both P Q xs a.1 b.1)

pub each_at : {A : Type 0} (P : A → Type 0) (d : A) (xs : List A) → Each P xs → (i : ℕ) → i < length xs → P (get_or xs i d)
each_at P d [] a i l = absurd (omega arith)
each_at P d (x ∷ xs) a zero l = a.0
each_at P d (x ∷ xs) a (suc i) l = each_at P d xs a.1 i (omega arith)

-- of the boxes of a kind
pub each-only : (P Q : Box → Type 0) (k : Kind) → ((x : Box) → P x → kind x ≡ k → Q x) → (xs : List Box) → Each P xs → Each Q (only k xs)
each-only P Q k f [] a = tt
each-only P Q k f (x ∷ xs) a = go (same_kind (kind x) k) refl (each-only P Q k f xs a.1)
  where
    go : (t : Bool) → same_kind (kind x) k ≡ t → Each Q (only k xs) → Each Q (pick t (x ∷ only k xs) (only k xs))
    go true e rest = (f x a.0 (same_kind_lem (kind x) k e), rest)
    go false e rest = rest

-- ---- the fields of a box of a good tree

-- a box without a run, whose fields fit, is of a kind that holds none
pub leaf-holds : (q : Spot) (at : ℕ) (h b : List ℕ) → opens (kind_at q.place h) b ≡ false → Fielded (box_of q at h (length b) b)
    → holds_run (kind_at q.place h) ≡ false
unfolding opens
leaf-holds q at h b o f = go (holds_run (kind_at q.place h)) refl o
  where
    k : Kind
    k = kind_at q.place h

    go : (t : Bool) → holds_run k ≡ t → both t (leb (fields_length k b) (length b)) ≡ false → holds_run k ≡ false
    go true e o = absurd (omega (arith, leb-false (fields_length k b) (length b) o, f.fit, fields-take k b))
    go false e o = e

-- the fields of a box with a run are the node's
pub node-fields : (q : Spot) (at n : ℕ) (h f : List ℕ) → fields_length (kind_at q.place h) f ≡ length f → (box_of q at h n f).fields ≡ f
node-fields q at n h f e = rw e (take-length f)

-- ---- where the boxes of a run stand

pub record Inside (d a e : ℕ) (y : Box) : Type 0 where
  pub deep : d ≤ y.depth
  pub from : a ≤ y.at
  pub to : y.at + y.size ≤ e
  pub some : 1 ≤ y.size

widen : (d d' a a' e e' : ℕ) → d' ≤ d → a' ≤ a → e ≤ e' → (ys : List Box) → Each (Inside d a e) ys → Each (Inside d' a' e') ys
widen d d' a a' e e' l m n ys i = each_map (Inside d a e) (Inside d' a' e') one ys i
  where
    one : (y : Box) → Inside d a e y → Inside d' a' e' y
    one y i = record { deep = omega (arith, i.deep); from = omega (arith, i.from); to = omega (arith, i.to); some = i.some }

pub boxes-inside : (c : Place) (q : Spot) (at : ℕ) (t : Run) → Good c t → Each (Inside q.depth at (at + length (encode t))) (boxes q at t)
boxes-inside c q at end g = tt
boxes-inside c q at (bad k s) g = tt
boxes-inside c q at (leaf h b r) g =
    let e : ℕ = at + length (h ++ (b ++ encode r)) in
    let at' : ℕ = at + (length h + length b) in
    let l : length (h ++ (b ++ encode r)) ≡ length h + (length b + length (encode r)) = simp length-append in
    let h1 : 1 ≤ length h = omega (arith, at-least-eight h, g.0.form) in (
      record { deep = omega arith; from = omega arith; to = omega arith; some = omega arith },
      widen q.depth q.depth at' at (at' + length (encode r)) e (omega arith) (omega arith) (omega arith) (boxes q at' r) (boxes-inside c q at' r g.2),
    )
boxes-inside c q at (node h f k r) g =
    let m : ℕ = length f + length (encode k) in
    let x : Box = box_of q at h m f in
    let e : ℕ = at + length (h ++ (f ++ (encode k ++ encode r))) in
    let s : ℕ = at + (length h + length f) in
    let at' : ℕ = at + (length h + m) in
    let l : length (h ++ (f ++ (encode k ++ encode r))) ≡ length h + (length f + (length (encode k) + length (encode r))) = simp length-append in
    let h1 : 1 ≤ length h = omega (arith, at-least-eight h, g.0.form) in (
      record { deep = omega arith; from = omega arith; to = omega arith; some = omega arith },
      each_append (Inside q.depth at e) (boxes (into q x) s k) (boxes q at' r)
          (widen (q.depth + 1) q.depth s at (s + length (encode k)) e (omega arith) (omega arith) (omega arith) (boxes (into q x) s k) (boxes-inside (inside (kind_at c h)) (into q x) s k g.2))
          (widen q.depth q.depth at' at (at' + length (encode r)) e (omega arith) (omega arith) (omega arith) (boxes q at' r) (boxes-inside c q at' r g.3)),
    )

-- ---- the boxes of a run, at its depth

level-append : (d : ℕ) (xs ys : List Box) → level d (xs ++ ys) ≡ level d xs ++ level d ys
level-append d [] ys = refl
level-append d (x ∷ xs) ys = go (level-append d xs ys) (eqb x.depth d)
  where
    go : level d (xs ++ ys) ≡ level d xs ++ level d ys
        → (t : Bool) → pick t (x ∷ level d (xs ++ ys)) (level d (xs ++ ys)) ≡ pick t (x ∷ level d xs) (level d xs) ++ level d ys
    go e true = ap (λ (l : List Box). x ∷ l) e
    go e false = e

level-none : (d a e : ℕ) (ys : List Box) → Each (Inside (d + 1) a e) ys → level d ys ≡ []
level-none d a e [] i = refl
level-none d a e (y ∷ ys) i = rw (ne_eqb y.depth d (λ z. omega (arith, i.0.deep))) (level-none d a e ys i.1)

pub tiles : (c : Place) (q : Spot) (at : ℕ) (t : Run) → Good c t → Filled c t
    → Tiles at (at + length (encode t)) (level q.depth (boxes q at t))
tiles c q at end g f = omega arith
tiles c q at (bad k s) g f = absurd f
tiles c q at (leaf h b r) g f =
    let e : at + (length h + length b) + length (encode r) ≡ at + length (h ++ (b ++ encode r)) = simp length-append (omega arith) in
    rw (eq-eqb q.depth q.depth refl) (refl, rw e at (tiles c q (at + (length h + length b)) r g.2 f))
tiles c q at (node h n k r) g f =
    let m : ℕ = length n + length (encode k) in
    let x : Box = box_of q at h m n in
    let s : ℕ = at + (length h + length n) in
    let e : at + (length h + m) + length (encode r) ≡ at + length (h ++ (n ++ (encode k ++ encode r))) = simp length-append (omega arith) in
    rw (
      eq-eqb q.depth q.depth refl,
      level-append q.depth (boxes (into q x) s k) (boxes q (at + (length h + m)) r),
      level-none q.depth s (s + length (encode k)) (boxes (into q x) s k) (boxes-inside (inside (kind_at c h)) (into q x) s k g.2),
    )
    (refl, rw e at (tiles c q (at + (length h + m)) r g.3 f.2))

-- ---- the children of a box among all boxes

children-append : (x : Box) (ys zs : List Box) → children_of x (ys ++ zs) ≡ children_of x ys ++ children_of x zs
children-append x [] zs = refl
children-append x (y ∷ ys) zs = go (children-append x ys zs) (is_in x y)
  where
    go : children_of x (ys ++ zs) ≡ children_of x ys ++ children_of x zs
        → (t : Bool) → pick t (y ∷ children_of x (ys ++ zs)) (children_of x (ys ++ zs)) ≡ pick t (y ∷ children_of x ys) (children_of x ys) ++ children_of x zs
    go e true = ap (λ (l : List Box). y ∷ l) e
    go e false = e

-- a box that is no child of any box at least d deep from a to e
abbrev Outer : ℕ → ℕ → ℕ → Box → Type 0
Outer d a e y = (y.depth ≤ d) ⊎ ((y.at < a) ⊎ (e ≤ y.at))

outer-not : (d a e : ℕ) (x y : Box) → Inside d a e x → Outer d a e y → is_in x y ≡ false
outer-not d a e x y i (inl o) = rw (ne_eqb y.depth (x.depth + 1) (λ z. omega (arith, i.deep)))
outer-not d a e x y i (inr (inl o)) = rw (lt-leb x.at y.at (omega (arith, i.from))) (go (eqb y.depth (x.depth + 1)))
  where
    go : (t : Bool) → both t false ≡ false
    go true = refl
    go false = refl
outer-not d a e x y i (inr (inr o)) = rw (le-ltb y.at (x.at + x.size) (omega (arith, i.to))) (go (eqb y.depth (x.depth + 1)) (leb x.at y.at))
  where
    go : (t u : Bool) → both t (both u false) ≡ false
    go true true = refl
    go true false = refl
    go false u = refl

no-children : (d a e : ℕ) (x : Box) (ys : List Box) → Inside d a e x → Each (Outer d a e) ys → children_of x ys ≡ []
no-children d a e x [] i o = refl
no-children d a e x (y ∷ ys) i o = rw (outer-not d a e x y i o.0) (no-children d a e x ys i o.1)

-- of the boxes inside a box, its children are those one deeper
children-level : (x : Box) (ys : List Box) → Each (Inside (x.depth + 1) x.at (x.at + x.size)) ys → children_of x ys ≡ level (x.depth + 1) ys
children-level x [] i = refl
children-level x (y ∷ ys) i =
    rw (
      le-leb x.at y.at i.0.from,
      lt-ltb y.at (x.at + x.size) (omega (arith, i.0.to, i.0.some)),
      children-level x ys i.1,
    ) (go (eqb y.depth (x.depth + 1)))
  where
    go : (t : Bool) → pick (both t true) (y ∷ level (x.depth + 1) ys) (level (x.depth + 1) ys) ≡ pick t (y ∷ level (x.depth + 1) ys) (level (x.depth + 1) ys)
    go true = refl
    go false = refl

-- ---- every box that holds a run is filled by its children, among all boxes

abbrev FilledIn : List Box → Box → Type 0
FilledIn all x = holds_run (kind x) ≡ true → Tiles (start x) (x.at + x.size) (children_of x all)

outer-after : (d a b e : ℕ) (y : Box) → Inside d b e y → Outer d a b y
outer-after d a b e y i = inr (inr i.from)

narrow : (d d' a a' e e' : ℕ) → d ≤ d' → a ≤ a' → e' ≤ e → (y : Box) → Outer d a e y → Outer d' a' e' y
narrow d d' a a' e e' l m n y (inl o) = inl (omega arith)
narrow d d' a a' e e' l m n y (inr (inl o)) = inr (inl (omega arith))
narrow d d' a a' e e' l m n y (inr (inr o)) = inr (inr (omega arith))

outer-all : (d d' a a' e e' : ℕ) → d ≤ d' → a ≤ a' → e' ≤ e → (ys : List Box) → Each (Outer d a e) ys → Each (Outer d' a' e') ys
outer-all d d' a a' e e' l m n ys o = each_map (Outer d a e) (Outer d' a' e') (narrow d d' a a' e e' l m n) ys o

-- among all boxes, the children of x are those one deeper of the boxes inside it
own-children : (x : Box) (pre ins post : List Box) → 1 ≤ x.size → Each (Outer x.depth x.at (x.at + x.size)) pre
    → Each (Inside (x.depth + 1) x.at (x.at + x.size)) ins → Each (Outer x.depth x.at (x.at + x.size)) post
    → children_of x (pre ++ (x ∷ (ins ++ post))) ≡ level (x.depth + 1) ins
own-children x pre ins post l a i b =
    let j : Inside x.depth x.at (x.at + x.size) x = record { deep = omega arith; from = omega arith; to = omega arith; some = l } in
    children-append x pre (x ∷ (ins ++ post))
    ∙ rw (
      no-children x.depth x.at (x.at + x.size) x pre j a,
      ne_eqb x.depth (x.depth + 1) (λ z. omega arith),
      children-append x ins post,
      no-children x.depth x.at (x.at + x.size) x post j b,
      children-level x ins i,
    ) (append-nil _)

-- pre and post are the boxes of the file before and after those of the run
pub fills : (c : Place) (q : Spot) (at : ℕ) (t : Run) (pre post : List Box) → Good c t → q.place ≡ c → Filled c t → Each Fielded (boxes q at t)
    → Each (Outer q.depth at (at + length (encode t))) pre → Each (Outer q.depth at (at + length (encode t))) post
    → Each (FilledIn (pre ++ (boxes q at t ++ post))) (boxes q at t)
fills c q at end pre post g p f e a b = tt
fills c q at (bad k s) pre post g p f e a b = tt
fills c q at (leaf h b r) pre post g p f e a z =
    let x : Box = box_of q at h (length b) b in
    let at' : ℕ = at + (length h + length b) in
    let l : length (h ++ (b ++ encode r)) ≡ length h + (length b + length (encode r)) = simp length-append in
    let en : ℕ = at + length (h ++ (b ++ encode r)) in
    let en' : ℕ = at' + length (encode r) in
    let sh : (pre ++ (x ∷ [])) ++ (boxes q at' r ++ post) ≡ pre ++ (x ∷ (boxes q at' r ++ post)) = append_assoc pre (x ∷ []) _ in (
      clash (leaf-holds q at h b (rw (← p) at g.1) e.0),
      rw sh at (fills c q at' r (pre ++ (x ∷ [])) post g.2 p f e.1
          (each_append _ pre (x ∷ []) (outer-all q.depth q.depth at at' en en' (omega arith) (omega arith) (omega arith) pre a) (inl (omega arith), tt))
          (outer-all q.depth q.depth at at' en en' (omega arith) (omega arith) (omega arith) post z)),
    )
fills c q at (node h n k r) pre post g p f e a z =
    let m : ℕ = length n + length (encode k) in
    let x : Box = box_of q at h m n in
    let s : ℕ = at + (length h + length n) in
    let at' : ℕ = at + (length h + m) in
    let en : ℕ = at + length (h ++ (n ++ (encode k ++ encode r))) in
    let d : ℕ = q.depth in
    let bk : List Box = boxes (into q x) s k in
    let br : List Box = boxes q at' r in
    let l : length (h ++ (n ++ (encode k ++ encode r))) ≡ length h + (length n + (length (encode k) + length (encode r))) = simp length-append in
    let h1 : 1 ≤ length h = omega (arith, at-least-eight h, g.0.form) in
    let ek : s + length (encode k) ≡ at' = omega arith in
    let er : at' + length (encode r) ≡ en = omega arith in
    let fl : fields_length (kind_at q.place h) n ≡ length n = rw p g.1.1 in
    let nf : x.fields ≡ n = node-fields q at m h n fl in
    let ik : Each (Inside (d + 1) s at') bk = rw ek at (boxes-inside (inside (kind_at c h)) (into q x) s k g.2) in
    let ir : Each (Inside d at' en) br = rw er at (boxes-inside c q at' r g.3) in
    let pre' : Each (Outer d at at') pre = outer-all d d at at en at' (omega arith) (omega arith) (omega arith) pre a in
    let post' : Each (Outer d at at') post = outer-all d d at at en at' (omega arith) (omega arith) (omega arith) post z in
    let br' : Each (Outer d at at') br = each_map (Inside d at' en) (Outer d at at') (outer-after d at at' en) br ir in
    let ra : List Box = br ++ post in
    let ra' : Each (Outer d at at') ra = each_append (Outer d at at') br post br' post' in
    let ik' : Each (Inside (d + 1) at at') bk = widen (d + 1) (d + 1) s at at' at' (omega arith) (omega arith) (omega arith) bk ik in
    let oc : children_of x (pre ++ (x ∷ (bk ++ ra))) ≡ level (d + 1) bk = own-children x pre bk ra (omega arith) pre' ik' ra' in
    let st : start x ≡ s = ap (λ (l : List ℕ). at + (length h + length l)) nf in
    let tk : Tiles s at' (level (d + 1) bk) = rw ek at (tiles (inside (kind_at c h)) (into q x) s k g.2 f.1) in
    let s1 : pre ++ (x ∷ ((bk ++ br) ++ post)) ≡ pre ++ (x ∷ (bk ++ ra)) = simp append_assoc in
    let s2 : (pre ++ (x ∷ [])) ++ (bk ++ ra) ≡ pre ++ (x ∷ ((bk ++ br) ++ post)) = simp append_assoc in
    let s3 : ((pre ++ (x ∷ [])) ++ bk) ++ ra ≡ pre ++ (x ∷ ((bk ++ br) ++ post)) = simp append_assoc in
    let xo : Each (Outer d at at') (x ∷ []) = (inl (omega arith), tt) in
    let px : Each (Outer d at at') (pre ++ (x ∷ [])) = each_append (Outer d at at') pre (x ∷ []) pre' xo in
    let fk = fills (inside (kind_at c h)) (into q x) s k (pre ++ (x ∷ [])) ra g.2 (rw p) f.1
    (each_left Fielded bk br e.1)
    (rw ek (outer-all d (d + 1) at s at' at' (omega arith) (omega arith) (omega arith) (pre ++ (x ∷ [])) px))
    (rw ek (outer-all d (d + 1) at s at' at' (omega arith) (omega arith) (omega arith) ra ra')) in
    let a2 : Each (Outer d at' en) pre = outer-all d d at at' en en (omega arith) (omega arith) (omega arith) pre a in
    let z2 : Each (Outer d at' en) post = outer-all d d at at' en en (omega arith) (omega arith) (omega arith) post z in
    let k2 : Each (Outer d at' en) bk = each_map (Inside (d + 1) s at') (Outer d at' en) (λ y i. inr (inl (omega (arith, i.to, i.some)))) bk ik in
    let x2 : Each (Outer d at' en) (x ∷ []) = (inl (omega arith), tt) in
    let fr = fills c q at' r ((pre ++ (x ∷ [])) ++ bk) post g.3 p f.2 (each_right Fielded bk br e.1)
    (rw er (each_append (Outer d at' en) (pre ++ (x ∷ [])) bk (each_append (Outer d at' en) pre (x ∷ []) a2 x2) k2))
    (rw er z2) in (
      λ _. rw (s1, oc, st) tk,
      each_append (FilledIn (pre ++ (x ∷ ((bk ++ br) ++ post)))) bk br (rw s2 at fk) (rw s3 at fr),
    )

pub tiled : (t : Run) → Good Top t → Filled Top t → Each Fielded (boxes top 0 t) → Tiled (length (encode t)) (boxes top 0 t)
tiled t g f e = record {
  top = rw (zero-add (length (encode t))) at (tiles Top top 0 t g f);
  nested = rw append-nil at (fills Top top 0 t [] [] g refl f e tt tt);
}

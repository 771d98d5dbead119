-- Every list of bytes is the bytes of exactly one good tree: parse finds it. Assumes nothing.
use mathlib.Core.Path.{◌≡◌, refl, sym, ap, ap₂, ◌∙◌}
use Prim.Native.Nat.{ℕ, zero, suc, ◌+◌, ◌≤◌}
use native.Mathlib.Omega.{arith}
use mathlib.Core.Bool.{true, false}
use mathlib.Core.List.{List, [], ◌++◌, append_assoc}
use lib.ListN.{length, take, drop, length-append, length-drop, take-append-drop}
use lib.Seq.{take_at, drop_at, length-take-le}
use lib.Dec.{eqb}
use borrow.Author.Tests.{leb-true, le-leb, ne_eqb, eqb-true, eqb-false}
use Rattle.std.proofs.lemmas.List.{nil_from_length}
use Rattle.numbers.specs.Choice.{pick-by, both_true}
use Rattle.format.specs.declared.Place.{Place}
use Rattle.format.specs.declared.Kind.{Kind}
use Rattle.format.specs.Kinds.{fields_length, holds_run, inside}
use Rattle.format.specs.Header.{header_fault}
use Rattle.format.specs.Tree.{Run, end, bad, leaf, node, encode, kind_at, opens, Headed, Good, head_of, body_of, rest_of, grow, parse}
use Rattle.format.proofs.Headers.{at-least-eight, fields-append, fields-take, Cut, cut-good, Sliced, good-cut}

pub parse-end : (n : ℕ) (c : Place) → parse n c [] ≡ end
unfolding parse
parse-end zero c = refl
parse-end (suc n) c = refl

-- a box that is cut off, and the rest
pub parse-cons : (n : ℕ) (c : Place) (s h b r : List ℕ) → (length s ≡ 0 → ⊥) → Cut c s h b r
    → parse (suc n) c s ≡ grow (kind_at c h) h b (parse n) (parse n c r)
unfolding parse
parse-cons n c s h b r f g = rw (ne_eqb (length s) 0 f, g.fine, g.head, g.body, g.rest)

pub parse-bad : (n : ℕ) (c : Place) (s : List ℕ) → (length s ≡ 0 → ⊥) → (header_fault c s ≡ 0 → ⊥) → parse (suc n) c s ≡ bad (header_fault c s) s
unfolding parse
parse-bad n c s f g = rw (ne_eqb (length s) 0 f, ne_eqb (header_fault c s) 0 g)

long : (c : Place) (left : ℕ) (h b : List ℕ) (n : ℕ) → Headed c left h n → 8 ≤ length (h ++ b)
long c left h b n g = rw length-append (omega (arith, g.form, at-least-eight h))

pub grow-leaf : (k : Kind) (h b : List ℕ) (go : Place → List ℕ → Run) (r : Run) → opens k b ≡ false → grow k h b go r ≡ leaf h b r
unfolding grow
grow-leaf k h b go r e = rw e

pub grow-node : (k : Kind) (h f b : List ℕ) (go : Place → List ℕ → Run) (r : Run) → holds_run k ≡ true → fields_length k f ≡ length f
    → grow k h (f ++ b) go r ≡ node h f (go (inside k) b) r
unfolding grow opens
grow-node k h f b go r e l =
    let p : fields_length k (f ++ b) ≡ length f = fields-append k f b (omega arith) ∙ l in
    let m : length f ≤ length (f ++ b) = rw length-append (omega arith) in
    rw (e, p, le-leb _ _ m, take_at f b (length f) refl, drop_at f b (length f) refl)

pub parse-encode : (n : ℕ) (c : Place) (t : Run) → Good c t → length (encode t) ≤ n → parse n c (encode t) ≡ t
parse-encode n c end g l = parse-end n c
parse-encode zero c (bad k s) g l = absurd (g.0 (omega arith))
parse-encode (suc n) c (bad k s) g l = parse-bad n c s g.0 (λ e. g.2 (sym g.1 ∙ e)) ∙ ap (λ (i : ℕ). bad i s) g.1
parse-encode zero c (leaf h b r) g l = absurd (omega (arith, long c _ h (b ++ encode r) _ g.0))
parse-encode zero c (node h f k r) g l = absurd (omega (arith, long c _ h (f ++ (encode k ++ encode r)) _ g.0))
parse-encode (suc n) c (leaf h b r) g l =
    let m = long c _ h (b ++ encode r) _ g.0 in
    let lr : length (encode r) ≤ n = omega (arith, simp length-append at l, g.0.form, at-least-eight h) in
    parse-cons n c (h ++ (b ++ encode r)) h b (encode r) (λ e. omega arith) (cut-good c h b (encode r) g.0)
    ∙ rw (parse-encode n c r g.2 lr) (grow-leaf (kind_at c h) h b (parse n) r g.1)
parse-encode (suc n) c (node h f k r) g l =
    let m = long c _ h (f ++ (encode k ++ encode r)) _ g.0 in
    let ll : length h + (length f + (length (encode k) + length (encode r))) ≤ suc n = simp length-append at l in
    let e : h ++ (f ++ (encode k ++ encode r)) ≡ h ++ ((f ++ encode k) ++ encode r) = simp append_assoc in
    let gh : Headed c (length (h ++ ((f ++ encode k) ++ encode r))) h (length (f ++ encode k)) = rw (append_assoc f (encode k) (encode r), length-append f (encode k)) g.0 in
    parse-cons n c _ h (f ++ encode k) (encode r) (λ z. omega arith) (rw e (cut-good c h (f ++ encode k) (encode r) gh))
    ∙ grow-node (kind_at c h) h f (encode k) (parse n) (parse n c (encode r)) g.1.0 g.1.1
    ∙ ap₂ (node h f) (parse-encode n (inside (kind_at c h)) k g.2 (omega (arith, g.0.form, at-least-eight h)))
    (parse-encode n c r g.3 (omega (arith, g.0.form, at-least-eight h)))

-- ---- every list of bytes has its tree

pub record Whole (c : Place) (s : List ℕ) (t : Run) : Type 0 where
  pub good : Good c t
  pub same : encode t ≡ s

opened : (k : Kind) (b : List ℕ) → opens k b ≡ true → (holds_run k ≡ true) × (fields_length k b ≤ length b)
unfolding opens
opened k b e = let p = both_true (holds_run k) _ e in (p.0, leb-true _ _ p.1)

grown : (n : ℕ) (c : Place) (s : List ℕ) → length s ≤ suc n → ((d : Place) (r : List ℕ) → length r ≤ n → Whole d r (parse n d r)) → Sliced c s
    → Whole c s (grow (kind_at c (head_of s)) (head_of s) (body_of c s) (parse n) (parse n c (rest_of c s)))
unfolding grow
grown n c s l ih q =
    let h : List ℕ = head_of s in
    let b : List ℕ = body_of c s in
    let k : Kind = kind_at c h in
    let f : ℕ = fields_length k b in
    let tot : length s ≡ length h + (length b + length (rest_of c s)) = ap length q.whole ∙ simp length-append in
    let wr = ih c (rest_of c s) (omega (arith, q.good.form, at-least-eight h)) in
    let wk = ih (inside k) (drop f b) (rw length-drop (omega (arith, q.good.form, at-least-eight h))) in
    pick-by (Whole c s) (opens k b) _ _
    (λ o.
    let op = opened k b o in
    let lf : length (take f b) ≡ f = length-take-le f b op.1 in
    let wb : take f b ++ encode (parse n (inside k) (drop f b)) ≡ b = ap (λ (r : List ℕ). take f b ++ r) wk.same ∙ take-append-drop f b in
    let lb : length b ≡ length (take f b) + length (encode (parse n (inside k) (drop f b))) = ap length (sym wb) ∙ length-append (take f b) _ in
    let st : h ++ (take f b ++ (encode (parse n (inside k) (drop f b)) ++ encode (parse n c (rest_of c s)))) ≡ s =
    ap (λ (x : List ℕ). h ++ x) (sym (append_assoc (take f b) _ _)) ∙ ap₂ (λ (x r : List ℕ). h ++ (x ++ r)) wb wr.same ∙ sym q.whole in
    record {
      good = (rw (← lb, st) q.good, (op.0, fields-take k b ∙ sym lf), wk.good, wr.good);
      same = st;
    })
    (λ e.
    let st : h ++ (b ++ encode (parse n c (rest_of c s))) ≡ s = ap (λ (r : List ℕ). h ++ (b ++ r)) wr.same ∙ sym q.whole in
    record {
      good = (rw st q.good, e, wr.good);
      same = st;
    })

pub parse-whole : (n : ℕ) (c : Place) (s : List ℕ) → length s ≤ n → Whole c s (parse n c s)
unfolding parse
parse-whole zero c s l =
    pick-by (Whole c s) (eqb (length s) 0) _ _ (λ e. record { good = tt; same = sym (nil_from_length s (eqb-true _ _ e)) })
    (λ f. absurd (eqb-false (length s) 0 f (omega arith)))
parse-whole (suc n) c s l =
    pick-by (Whole c s) (eqb (length s) 0) _ _ (λ e. record { good = tt; same = sym (nil_from_length s (eqb-true _ _ e)) })
    (λ f. pick-by (Whole c s) (eqb (header_fault c s) 0) _ _
    (λ e. grown n c s l (parse-whole n) (good-cut c s (eqb-true _ _ e)))
    (λ k. record { good = (eqb-false _ _ f, refl, eqb-false _ _ k); same = refl }))

-- A run is judged well just if its types pass the scan, its inner runs do, and every box is fine after those before it.
-- Assumes nothing.
use mathlib.Core.Path.{◌≡◌, refl, sym, ap, ◌∙◌}
use Prim.Native.Nat.{ℕ, ◌+◌}
use mathlib.Core.Bool.{Bool, true, false}
use mathlib.Core.List.{List, [], ◌∷◌, ◌++◌, append_assoc, append-nil}
use lib.ListN.{length}
use lib.Dec.{leb, eqb}
use borrow.Author.Tests.{eqb-true}
use Rattle.numbers.specs.Choice.{pick, pick-by, pick-zero, either-false}
use Rattle.format.specs.declared.Seen.{Seen}
use Rattle.format.specs.declared.Spot.{Spot}
use Rattle.format.specs.Tree.{Run, end, bad, leaf, node, encode}
use Rattle.format.specs.Fields.{method, plaintext}
use Rattle.format.specs.Boxes.{Box, kind, room, box_of, into, boxes}
use Rattle.format.specs.Allowed.{types}
use Rattle.format.specs.Judge.{nothing, note, no_row, misplaced, missing, cut, newer, wrong_method, wrong_length, malformed, wrong_data, again, ids, last_ohdr, wrong, Out, fault, done, unless, and_then, judge}
use Rattle.format.proofs.Passing.{Fit, Scanned, Nested, Fine, Clear}

-- ---- one box

wrong-none : (cap : ℕ) (n : Seen) (log : List Box) (x : Box) → wrong cap n log x ≡ 0 → Fit x.place n (kind x) × Fine cap log x
unfolding wrong no_row
wrong-none cap n log x e =
    let a = pick-zero (no_row cap n (length log) (kind x)) 4 _ e in
    let b = pick-zero (misplaced x.place n (kind x)) 5 _ a.1 in
    let c = pick-zero (cut (kind x) (room x) x.fields) 6 _ b.1 in
    let d = pick-zero (newer (kind x) x.fields) 7 _ c.1 in
    let f = pick-zero (wrong_method (kind x) x.fields) 8 _ d.1 in
    let g = pick-zero (wrong_length (kind x) x.fields) 9 _ f.1 in
    let h = pick-zero (malformed (kind x) x.fields) 10 _ g.1 in
    let i = pick-zero (wrong_data (kind x) (room x) (method (last_ohdr log)) (plaintext (last_ohdr log)) x.fields) 11 _ h.1 in
    let j = pick-zero (again (kind x) (ids log) x.fields) 12 _ i.1 in
    let r = either-false (leb cap (length log)) _ a.0 in (
      (r.1, b.0),
      record { row = r.0; whole = c.0; old = d.0; methods = f.0; lengths = g.0; headers = h.0; lengths-agree = i.0; fresh = j.0 },
    )

none-wrong : (cap : ℕ) (n : Seen) (log : List Box) (x : Box) → Fit x.place n (kind x) → Fine cap log x → wrong cap n log x ≡ 0
unfolding wrong no_row
none-wrong cap n log x p f = rw (f.row, p.0, p.1, f.whole, f.old, f.methods, f.lengths, f.headers, f.lengths-agree, f.fresh)

unless-done : (k place : ℕ) (o : Out) (l : List Box) → unless k place o ≡ done l → (k ≡ 0) × (o ≡ done l)
unless-done k place o l = go (eqb k 0) refl
  where
    go : (t : Bool) → eqb k 0 ≡ t → pick t o (fault k place) ≡ done l → (k ≡ 0) × (o ≡ done l)
    go true h e = (eqb-true k 0 h, e)
    go false h e = absurd (cc)

then-done : (o : Out) (f : List Box → Out) (l : List Box) → and_then o f ≡ done l → (m : List Box) × (o ≡ done m) × (f m ≡ done l)
unfolding and_then
then-done (fault k p) f l e = absurd (cc)
then-done (done m) f l e = (m, refl, e)

-- ---- a list of boxes

pub clear-append : (cap : ℕ) (log xs ys : List Box) → Clear cap log xs → Clear cap (log ++ xs) ys → Clear cap log (xs ++ ys)
clear-append cap log [] ys a b = rw append-nil at b
clear-append cap log (x ∷ xs) ys a b =
    (a.0, clear-append cap (log ++ (x ∷ [])) xs ys a.1 (rw (append_assoc log (x ∷ []) xs) b))

pub clear-split : (cap : ℕ) (log xs ys : List Box) → Clear cap log (xs ++ ys) → Clear cap log xs × Clear cap (log ++ xs) ys
clear-split cap log [] ys a = (tt, rw append-nil a)
clear-split cap log (x ∷ xs) ys a =
    let q = clear-split cap (log ++ (x ∷ [])) xs ys a.1 in
    ((a.0, q.0), rw (append_assoc log (x ∷ []) xs) at q.1)

-- ---- a run

pub record Passed (cap : ℕ) (q : Spot) (n : Seen) (at : ℕ) (log : List Box) (t : Run) (l : List Box) : Type 0 where
  pub scanned : Scanned q.place n (types t)
  pub nested : Nested q.place t
  pub clear : Clear cap log (boxes q at t)
  pub all : l ≡ log ++ boxes q at t

pub judge-passed : (cap : ℕ) (q : Spot) (n : Seen) (at : ℕ) (log : List Box) (t : Run) (l : List Box)
    → judge cap q n at log t ≡ done l → Passed cap q n at log t l
judge-passed cap q n at log end l e =
    pick-by (λ (o : Out). o ≡ done l → Passed cap q n at log end l) (missing q.place n) _ _
    (λ _ e. absurd (cc))
    (λ f e. let z : log ≡ l = cc in record { scanned = f; nested = tt; clear = tt; all = sym (append-nil log ∙ z) }) e
judge-passed cap q n at log (bad k s) l e = absurd (cc)
judge-passed cap q n at log (leaf h b r) l e =
    let x : Box = box_of q at h (length b) b in
    let s = unless-done (wrong cap n log x) _ _ l e in
    let w = wrong-none cap n log x s.0 in
    let i = judge-passed cap q (note n (kind x)) (at + (length h + length b)) (log ++ (x ∷ [])) r l s.1 in
    record { scanned = (w.0, i.scanned); nested = i.nested; clear = (w.1, i.clear); all = i.all ∙ append_assoc log (x ∷ []) (boxes q (at + (length h + length b)) r) }
judge-passed cap q n at log (node h f k r) l e =
    let m : ℕ = length f + length (encode k) in
    let x : Box = box_of q at h m f in
    let s = unless-done (wrong cap n log x) _ _ l e in
    let w = wrong-none cap n log x s.0 in
    let t = then-done _ _ l s.1 in
    let i = judge-passed cap (into q x) nothing (at + (length h + length f)) (log ++ (x ∷ [])) k t.0 t.1 in
    let j = judge-passed cap q (note n (kind x)) (at + (length h + m)) t.0 r l t.2 in
    record {
      scanned = (w.0, j.scanned);
      nested = (i.scanned, i.nested, j.nested);
      clear = (w.1, clear-append cap (log ++ (x ∷ [])) (boxes (into q x) (at + (length h + length f)) k) (boxes q (at + (length h + m)) r) i.clear (rw i.all at j.clear));
      all = j.all ∙ rw i.all (simp append_assoc);
    }

pub passed-judge : (cap : ℕ) (q : Spot) (n : Seen) (at : ℕ) (log : List Box) (t : Run)
    → Scanned q.place n (types t) → Nested q.place t → Clear cap log (boxes q at t) → judge cap q n at log t ≡ done (log ++ boxes q at t)
unfolding and_then
passed-judge cap q n at log end a b c = rw (a, append-nil)
passed-judge cap q n at log (bad k s) a b c = absurd b
passed-judge cap q n at log (leaf h b r) a i c =
    let x : Box = box_of q at h (length b) b in
    rw (
      none-wrong cap n log x a.0 c.0,
      passed-judge cap q (note n (kind x)) (at + (length h + length b)) (log ++ (x ∷ [])) r a.1 i c.1,
    ) (ap done (append_assoc log (x ∷ []) _))
passed-judge cap q n at log (node h f k r) a i c =
    let m : ℕ = length f + length (encode k) in
    let x : Box = box_of q at h m f in
    let bk : List Box = boxes (into q x) (at + (length h + length f)) k in
    let s = clear-split cap (log ++ (x ∷ [])) bk _ c.1 in
    rw (
      none-wrong cap n log x a.0 c.0,
      passed-judge cap (into q x) nothing (at + (length h + length f)) (log ++ (x ∷ [])) k i.0 i.1 s.0,
      passed-judge cap q (note n (kind x)) (at + (length h + m)) ((log ++ (x ∷ [])) ++ bk) r a.1 i.2 s.1,
    ) (simp append_assoc)

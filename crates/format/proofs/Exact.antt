-- The theorems of reading: a file is accepted just if it is the bytes of an allowed tree; that tree is unique, and all that is reported is
-- that tree's and stands in the bytes. Assumes nothing.
use mathlib.Core.Path.{◌≡◌, refl, sym, ap, ◌∙◌}
use Prim.Native.Nat.{ℕ, ◌≤◌}
use native.Mathlib.Omega.{arith}
use mathlib.Core.Bool.{Bool, true, false}
use mathlib.Core.List.{List, [], map, map-map}
use lib.ListN.{length}
use lib.Dec.{ltb}
use borrow.Author.Tests.{ltb-false, le-ltb}
use Rattle.numbers.specs.Choice.{pick}
use Rattle.strings.specs.Headers.{Each}
use Rattle.format.specs.declared.Place.{Place}
use Rattle.format.specs.declared.Place.TheVariants.{Top}
use Rattle.format.specs.Kinds.{inside}
use Rattle.format.specs.Tree.{Run, end, bad, leaf, node, encode, kind_at, Good, parse}
use Rattle.format.specs.Fields.{content_id}
use Rattle.format.specs.Boxes.{Box, no_box, top, boxes, containers}
use Rattle.format.specs.Allowed.{types, Filled, Agreeing, id_of, Allowed}
use Rattle.format.specs.Judge.{nothing, Out, fault, done, judge, ids, read_of}
use Rattle.format.specs.Report.{containers_in, answer_of}
use Rattle.format.specs.Tiling.{Tiled}
use Rattle.format.specs.Standing.{Stands, HeaderStands}
use Rattle.format.proofs.Trees.{parse-encode, parse-whole}
use Rattle.format.proofs.Passing.{Nested}
use Rattle.format.proofs.Verdicts.{judge-passed, passed-judge}
use Rattle.format.proofs.Saying.{agrees-true, true-agrees}
use Rattle.format.proofs.Logs.{Lawful, clear-lawful, lawful-clear}
use Rattle.format.proofs.Order.{scanned-ordered, ordered-scanned}
use Rattle.format.proofs.Containers.{Matched, Sound, outer-each, only-ohdr, grouped, agreed-each, each-agreed}
use Rattle.format.proofs.Tiling.{each_map, tiled}
use Rattle.format.proofs.Standing.{file-stands}
use Rattle.format.proofs.Strings.{tree-headers}

-- ---- the paper's order in every run, and the scan's

nested-filled : (c : Place) (t : Run) → Nested c t → Filled c t
nested-filled c end n = tt
nested-filled c (bad k s) n = n
nested-filled c (leaf h b r) n = nested-filled c r n
nested-filled c (node h f k r) n = (scanned-ordered _ (types k) n.0, nested-filled (inside (kind_at c h)) k n.1, nested-filled c r n.2)

filled-nested : (c : Place) (t : Run) → Filled c t → Nested c t
filled-nested c end n = tt
filled-nested c (bad k s) n = n
filled-nested c (leaf h b r) n = filled-nested c r n
filled-nested c (node h f k r) n = (ordered-scanned _ (types k) n.0, filled-nested (inside (kind_at c h)) k n.1, filled-nested c r n.2)

-- ---- ContentIDs, of the boxes and of the containers

ids-containers : (t : Run) → Sound 0 t → ids (boxes top 0 t) ≡ map id_of (containers 0 t)
ids-containers t s = ap (map (λ (x : Box). content_id x.fields)) (only-ohdr s) ∙ map-map (λ (x : Box). content_id x.fields) (λ c. c.ohdr) (containers 0 t)

-- ---- accepted, and allowed

-- 16,777,216 bytes at most, and then the judge's verdict
read_done : (cap : ℕ) (s : List ℕ) (l : List Box) → read_of cap s ≡ done l
    → (length s ≤ 16777216) × (judge cap top nothing 0 [] (parse (length s) Top s) ≡ done l)
unfolding read_of
read_done cap s l = go (ltb 16777216 (length s)) refl
  where
    o : Out
    o = judge cap top nothing 0 [] (parse (length s) Top s)

    go : (t : Bool) → ltb 16777216 (length s) ≡ t → pick t (fault 1 0) o ≡ done l → (length s ≤ 16777216) × (o ≡ done l)
    go true h e = absurd (cc)
    go false h e = (ltb-false 16777216 (length s) h, e)

pub read-encode : (cap : ℕ) (t : Run) → Good Top t → length (encode t) ≤ 16777216 → read_of cap (encode t) ≡ judge cap top nothing 0 [] t
unfolding read_of
read-encode cap t g l =
    rw (le-ltb 16777216 (length (encode t)) l) (ap (judge cap top nothing 0 []) (parse-encode (length (encode t)) Top t g (omega arith)))

pub accepted : (cap : ℕ) (s : List ℕ) (l : List Box) → read_of cap s ≡ done l → (t : Run) × (s ≡ encode t) × Allowed cap t × (l ≡ boxes top 0 t)
accepted cap s l e =
    let t : Run = parse (length s) Top s in
    let d = read_done cap s l e in
    let w = parse-whole (length s) Top s (omega arith) in
    let p = judge-passed cap top nothing 0 [] t l d.1 in
    let f : Lawful cap (boxes top 0 t) = clear-lawful cap (boxes top 0 t) p.clear in
    let o = scanned-ordered Top (types t) p.scanned in
    let n = nested-filled Top t p.nested in
    let u : Sound 0 t = record { good = w.good; filled = n; others = outer-each (types t) o.none; fielded = f.fielded } in (
      t,
      sym w.same,
      record {
        good = w.good;
        short = rw w.same d.0;
        few = f.few;
        ordered = o;
        filled = n;
        fielded = f.fielded;
        agreeing = each_map Matched Agreeing (λ c. agrees-true _ _ _) (containers 0 t) (agreed-each no_box u f.agreed);
        distinct = rw (ids-containers t u) at f.distinct;
      },
      p.all,
    )

pub sound : (cap : ℕ) (t : Run) → Allowed cap t → Sound 0 t
sound cap t a = record { good = a.good; filled = a.filled; others = outer-each (types t) a.ordered.none; fielded = a.fielded }

pub allowed-reads : (cap : ℕ) (t : Run) → Allowed cap t → read_of cap (encode t) ≡ done (boxes top 0 t)
allowed-reads cap t a =
    let u : Sound 0 t = sound cap t a in
    let f : Lawful cap (boxes top 0 t) = record {
      few = a.few;
      fielded = a.fielded;
      agreed = each-agreed no_box u (each_map Agreeing Matched (λ c. true-agrees _ _ _) (containers 0 t) a.agreeing);
      distinct = rw (ids-containers t u) a.distinct;
    } in
    read-encode cap t a.good a.short
    ∙ passed-judge cap top nothing 0 [] t (ordered-scanned Top (types t) a.ordered) (filled-nested Top t a.filled) (lawful-clear cap (boxes top 0 t) f)

-- ---- one tree

pub unique : (t u : Run) → Good Top t → Good Top u → encode t ≡ encode u → t ≡ u
unique t u g k e =
    sym (parse-encode (length (encode t)) Top t g (omega arith)) ∙ ap (parse (length (encode t)) Top) e
    ∙ parse-encode (length (encode t)) Top u k (omega (arith, ap length e))

-- ---- what is reported of an accepted file

pub record Reported (cap : ℕ) (s : List ℕ) (l : List Box) : Type 0 where
  pub tree : Run
  pub bytes : s ≡ encode tree
  pub allowed : Allowed cap tree
  pub boxes-of : l ≡ boxes top 0 tree  -- rows and all else are functions of these
  pub containers-of : containers_in l ≡ containers 0 tree  -- summaries
  pub tiles : Tiled (length s) l  -- children fill their parent at every level
  pub stand : Each (Stands s) l  -- every box is what the bytes at its offset say
  pub headers : Each (HeaderStands s) (containers_in l)  -- strings are where the summaries say, and a content is D bytes

reports : (cap : ℕ) (s : List ℕ) (l : List Box) (t : Run) → s ≡ encode t → Allowed cap t → l ≡ boxes top 0 t → Reported cap s l
reports cap s l t b a e = record {
  tree = t;
  bytes = b;
  allowed = a;
  boxes-of = e;
  containers-of = rw e (grouped (sound cap t a));
  tiles = rw (b, e) (tiled t a.good a.filled a.fielded);
  stand = rw (b, e) (file-stands Top top t refl a.good);
  headers = rw (b, e, grouped (sound cap t a)) (tree-headers t (sound cap t a));
}

pub reported : (cap : ℕ) (s : List ℕ) (l : List Box) → read_of cap s ≡ done l → Reported cap s l
reported cap s l e = let a = accepted cap s l e in reports cap s l a.0 a.1 a.2 a.3

-- as many boxes as rows at most
pub few : (cap : ℕ) (s : List ℕ) (l : List Box) → read_of cap s ≡ done l → length l ≤ cap
few cap s l e = let p = reported cap s l e in rw p.boxes-of p.allowed.few

pub boxes-few : (cap : ℕ) (s : List ℕ) → (answer_of (read_of cap s)).boxes ≤ cap
unfolding answer_of
boxes-few cap s = go (read_of cap s) refl
  where
    go : (o : Out) → read_of cap s ≡ o → (answer_of o).boxes ≤ cap
    go (fault k p) e = omega arith
    go (done l) e = few cap s l e

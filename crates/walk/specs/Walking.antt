-- What the functions of the walk ensure. Assumes nothing.
use Rattle.std.specs.Prelude.{◌≡◌, ℕ, suc, ◌+◌, ◌-◌, ◌*◌, ◌≤◌, ◌<◌, Bool, true, false, List, length, drop, get_or, eqb, Result, Ok, Err}
use Rattle.std.proofs.Math.Seq.{slice}
use Rattle.numbers.specs.Choice.{pick}
use Rattle.format.specs.declared.Place.{Place}
use Rattle.format.specs.declared.Place.TheVariants.{Top, InOdrm, InOdhe, InOhdr, InMdri}
use Rattle.format.specs.declared.Kind.{Kind}
use Rattle.format.specs.declared.Kind.TheVariants.{Odrm, Ohdr}
use Rattle.format.specs.declared.Refusal.{Refusal}
use Rattle.format.specs.declared.Row.{Row}
use Rattle.format.specs.declared.Seen.{Seen}
use Rattle.format.specs.declared.Spot.{Spot}
use Rattle.format.specs.declared.Stretch.{Stretch}
use Rattle.format.specs.Numbers.{rule_of}
use Rattle.format.specs.Kinds.{same_kind}
use Rattle.format.specs.Boxes.{Box}
use Rattle.format.specs.Tree.{parse}
use Rattle.format.specs.Judge.{note, no_row, misplaced, again, Out, fault, done, judge}
use Rattle.format.specs.Report.{no_stretch}
use Rattle.fields.specs.Fault.{field_fault}
use Rattle.boxes.specs.declared.Head.{Head}
use Rattle.walk.specs.declared.Kept.{Kept}
use Rattle.walk.specs.declared.Tally.{Tally}
use Rattle.walk.specs.Keeping.{Holds}

-- the first number from 5 on that a box of kind k breaks, of the bytes b after its header
unfoldable pub number_in : ℕ → Place → Seen → Kind → Kept → List ℕ → List (List ℕ) → ℕ
number_in cap c n k x b ids =
    let f : ℕ = field_fault k x.tally.method x.tally.plaintext b in
    pick (no_row cap n x.count k) 5 (pick (misplaced c n k) 6 (pick (eqb f 0) (pick (again k ids b) 13 0) f))

-- ---- what the numbers that are kept can be

abbrev pub is_top : Place → Bool
is_top Top = true
is_top InOdrm = false
is_top InOdhe = false
is_top InOhdr = false
is_top InMdri = false

-- an odrm that has had no odhe, and an odhe that has had no ohdr, may have an ohdr to come
abbrev pub to_come : Place → Seen → ℕ
to_come Top n = 0
to_come InOdrm n = pick (eqb n.boxes 0) 1 0
to_come InOdhe n = pick (eqb n.boxes 0) 1 0
to_come InOhdr n = 0
to_come InMdri n = 0

-- no more than eight containers, and no more ohdr boxes than containers
pub record Counted (c : Place) (n : Seen) (t : Tally) : Type 0 where
  pub spare : t.headers + to_come c n ≤ t.containers
  pub most : t.containers ≤ 8
  pub top : is_top c ≡ true → t.containers ≡ n.odrms

-- the first n ContentIDs lie in the file
abbrev pub Named : List ℕ → List Stretch → ℕ → Type 0
Named s ids n = (i : ℕ) → i < n → (get_or ids i no_stretch).offset + (get_or ids i no_stretch).length ≤ length s

-- sums that cannot wrap, and ContentIDs that lie in the file
pub record Bound (s : List ℕ) (x : Kept) : Type 0 where
  pub rights : x.tally.rights ≤ x.count
  pub free : x.tally.free ≤ x.count * 16777216
  pub long : (length x.starts ≡ 8) × (length x.ids ≡ 8)
  pub named : Named s x.ids x.tally.headers

-- what keeping a box asks, of its kind, its offset, its header and the bytes b after that
pub record Addable (x : Kept) (b : List ℕ) (k : Kind) (at : ℕ) (h : Head) : Type 0 where
  pub count : x.count ≤ 256
  pub containers : x.tally.containers ≤ 8
  pub rights : x.tally.rights ≤ 256
  pub free : x.tally.free ≤ 4294967296
  pub offset : at ≤ 16777216
  pub size : h.size ≤ 16777216
  pub skip : h.skip ≤ h.size
  pub odrm : same_kind k Odrm ≡ true → x.tally.containers < 8
  pub ohdr : same_kind k Ohdr ≡ true → (x.tally.headers < 8) × (20 ≤ length b)

pub record Ready (s : List ℕ) (cap end : ℕ) (q : Spot) (n : Seen) (at : ℕ) (x : Kept) : Type 0 where
  pub within : at ≤ end
  pub ends : end ≤ length s
  pub short : length s ≤ 16777216
  pub rows : cap ≤ 256
  pub few : x.count ≤ cap
  pub deep : q.depth ≤ x.count
  pub seen : (n.boxes ≤ x.count) × (n.odrms ≤ n.boxes)
  pub counted : Counted q.place n x.tally
  pub bound : Bound s x

-- ---- what comes back

abbrev pub refusal : ℕ → ℕ → Refusal
refusal k place = record { rule = rule_of k; place = place }

-- the verdict o of a run
unfoldable pub Told : List ℕ → Out → Result (Unit {0}) Refusal → Kept → List Row → Type 0
Told s (fault k p) r x rows = (r ≡ Err (refusal k p)) × (k ≡ 0 → ⊥)
Told s (done l) r x rows = (r ≡ Ok tt) × Holds s l x rows

-- what is kept after a box, or after a run; rows behind those that are counted stay
pub record After (s : List ℕ) (cap : ℕ) (c : Place) (x : Kept) (rows : List Row) (x' : Kept) (rows' : List Row) : Type 0 where
  pub few : x'.count ≤ cap
  pub grows : x.count ≤ x'.count
  pub past : drop x'.count rows' ≡ drop x'.count rows
  pub spare : x'.tally.headers ≤ x'.tally.containers
  pub most : x'.tally.containers ≤ 8
  pub same : is_top c ≡ false → x'.tally.containers ≡ x.tally.containers
  pub bound : Bound s x'

-- the rest of a run
pub record Ran (s : List ℕ) (cap end : ℕ) (q : Spot) (n : Seen) (at : ℕ) (x : Kept) (rows : List Row) (r : Result (Unit {0}) Refusal) (x' : Kept) (rows' : List Row) : Type 0 where
  pub told : (m : ℕ) (log : List Box) → end - at ≤ m → Holds s log x rows → Told s (judge cap q n at log (parse m q.place (slice at end s))) r x' rows'
  pub after : r ≡ Ok tt → After s cap q.place x rows x' rows'

-- one box, and where the next starts
pub record Went (s : List ℕ) (cap end : ℕ) (q : Spot) (n : Seen) (at : ℕ) (x : Kept) (rows : List Row) (next : ℕ) (k : Kind) (x' : Kept) (rows' : List Row) : Type 0 where
  pub goes : (m : ℕ) (log : List Box) → end - at ≤ suc m → Holds s log x rows
      → (l : List Box) × Holds s l x' rows'
      × (judge cap q n at log (parse (suc m) q.place (slice at end s)) ≡ judge cap q (note n k) next l (parse m q.place (slice next end s)))
  pub more : at < next
  pub within : next ≤ end
  pub grows : x.count < x'.count
  pub after : After s cap q.place x rows x' rows'
  pub top : is_top q.place ≡ true → x'.tally.containers ≡ (note n k).odrms

-- the reading is refused there, or goes on after it
pub record Stepped (s : List ℕ) (cap end : ℕ) (q : Spot) (n : Seen) (at : ℕ) (x : Kept) (rows : List Row) (r : Result (ℕ × Kind) Refusal) (x' : Kept) (rows' : List Row) : Type 0 where
  pub refused : (e : Refusal) → r ≡ Err e → (m : ℕ) (log : List Box) → end - at ≤ suc m → Holds s log x rows
      → (k : ℕ) × (judge cap q n at log (parse (suc m) q.place (slice at end s)) ≡ fault k e.place) × (rule_of k ≡ e.rule) × (k ≡ 0 → ⊥)
  pub went : (y : ℕ × Kind) → r ≡ Ok y → Went s cap end q n at x rows y.0 y.1 x' rows'

-- the boxes of a file, read with so many rows at most
pub record Finished (s : List ℕ) (cap : ℕ) (l : List Box) (x : Kept) (rows rows' : List Row) : Type 0 where
  pub holds : Holds s l x rows'
  pub few : x.count ≤ cap
  pub past : drop x.count rows' ≡ drop x.count rows
  pub most : x.tally.containers ≤ 8

-- the verdict of a file
unfoldable pub Walked : List ℕ → ℕ → Out → Result Kept Refusal → List Row → List Row → Type 0
Walked s cap (fault k p) r rows rows' = (r ≡ Err (refusal k p)) × (k ≡ 0 → ⊥)
Walked s cap (done l) r rows rows' = (x : Kept) × (r ≡ Ok x) × Finished s cap l x rows rows'

-- A stretch of a file that a caller is handed, and the number of its companion call (document 01, Numbers given back): these calls read
-- with 256 rows, and when refused the stretch is empty. Assumes nothing.
use Rattle.std.specs.Prelude.{◌≡◌, ℕ, ◌+◌, ◌≤◌, List, [], length, eqb, Result, Ok, Err}
use Rattle.std.specs.Borrow.{Bor}
use Rattle.numbers.specs.Choice.{pick}
use Rattle.format.specs.declared.Rule.{Rule}
use Rattle.format.specs.declared.Stretch.{Stretch}
use Rattle.format.specs.Numbers.{number_of}
use Rattle.format.specs.Boxes.{Box}
use Rattle.format.specs.Judge.{Out, fault, done, read_of}
use Rattle.format.specs.Report.{no_stretch, bytes_in}

-- the reading's refusal, or the number that follows from the boxes read
unfoldable pub refusal_of : Out → (List Box → ℕ) → ℕ
refusal_of (fault k place) f = k
refusal_of (done log) f = f log

-- the reading's refusal
abbrev pub verdict : List ℕ → ℕ
verdict s = refusal_of (read_of 256 s) (λ log. 0)

-- the boxes read, none where the reading is refused
unfoldable pub log_of : Out → List Box
log_of (fault k place) = []
log_of (done log) = log

-- the stretch of a call that gives this number
abbrev pub given : ℕ → Stretch → Stretch
given k p = pick (eqb k 0) p no_stretch

-- a call that gives this number is refused by this rule
abbrev pub Refuses : ℕ → Rule → Type 0
Refuses k rule = (k ≡ number_of rule) × (k ≡ 0 → ⊥)

-- what is asked of the call that gives this number, or the rule that refuses it
abbrev pub Gives : {T : Type 0} → ℕ → T → Result T Rule → Type 0
Gives k p (Ok q) = (k ≡ 0) × (q ≡ p)
Gives k p (Err rule) = Refuses k rule

-- a stretch that lies in a file
abbrev pub Inside : List ℕ → Stretch → Type 0
Inside s p = p.offset + p.length ≤ length s

-- r is that very stretch of a lent file: it lies in the file, starts so far behind the file's first byte, and has its bytes
pub record PartOf (file : Bor (List ℕ)) (p : Stretch) (r : Bor (List ℕ)) : Type 0 where
  pub inside : p.offset + p.length ≤ length file.now
  pub block : r.ref_ptr.0 ≡ file.ref_ptr.0
  pub place : r.ref_ptr.1 ≡ file.ref_ptr.1 + p.offset
  pub bytes : r.now ≡ bytes_in file.now p

-- The worked files of document 01, in one table under one claim. Assumes nothing.
use Rattle.std.specs.Prelude.{◌≡◌, ℕ, zero, suc, Bool, List, [], ◌∷◌, ◌++◌, length}
use Rattle.std.proofs.lemmas.List.Edits.{sets}
use Rattle.numbers.specs.Choice.{pick}
use Rattle.numbers.specs.Big.{be}
use Rattle.format.specs.declared.Rule.TheVariants.{Done}
use Rattle.format.specs.declared.Row.{Row}
use Rattle.format.specs.declared.Full.{Full}
use Rattle.format.specs.declared.Stretch.{Stretch}
use Rattle.format.specs.declared.Reading.{Reading}
use Rattle.format.specs.declared.PlaintextLength.{PlaintextLength}
use Rattle.format.specs.Judge.{Out, fault, done, agrees, read_of}
use Rattle.format.specs.Report.{rows, eight, accepted_as, answer_of, Lesson, lesson_of}

-- File A: method 0, type a/b, ContentID cid:x, other strings empty, P = D = 4, R = 40; its data is 1, 2, 3, 4
abbrev pub file_a : List ℕ
file_a =
    0 ∷ 0 ∷ 0 ∷ 20 ∷ 102 ∷ 116 ∷ 121 ∷ 112 ∷ 111 ∷ 100 ∷ 99 ∷ 102 ∷ 0 ∷ 0 ∷ 0 ∷ 2 ∷ 111 ∷ 100 ∷ 99 ∷ 102
    ∷ 0 ∷ 0 ∷ 0 ∷ 1 ∷ 111 ∷ 100 ∷ 114 ∷ 109 ∷ 0 ∷ 0 ∷ 0 ∷ 0 ∷ 0 ∷ 0 ∷ 0 ∷ 101 ∷ 0 ∷ 0 ∷ 0 ∷ 0
    ∷ 0 ∷ 0 ∷ 0 ∷ 49 ∷ 111 ∷ 100 ∷ 104 ∷ 101 ∷ 0 ∷ 0 ∷ 0 ∷ 0 ∷ 3 ∷ 97 ∷ 47 ∷ 98
    ∷ 0 ∷ 0 ∷ 0 ∷ 33 ∷ 111 ∷ 104 ∷ 100 ∷ 114 ∷ 0 ∷ 0 ∷ 0 ∷ 0 ∷ 0 ∷ 0 ∷ 0 ∷ 0 ∷ 0 ∷ 0 ∷ 0 ∷ 0 ∷ 0 ∷ 4 ∷ 0 ∷ 5 ∷ 0 ∷ 0 ∷ 0 ∷ 0
    ∷ 99 ∷ 105 ∷ 100 ∷ 58 ∷ 120
    ∷ 0 ∷ 0 ∷ 0 ∷ 1 ∷ 111 ∷ 100 ∷ 100 ∷ 97 ∷ 0 ∷ 0 ∷ 0 ∷ 0 ∷ 0 ∷ 0 ∷ 0 ∷ 32 ∷ 0 ∷ 0 ∷ 0 ∷ 0 ∷ 0 ∷ 0 ∷ 0 ∷ 0 ∷ 0 ∷ 0 ∷ 0 ∷ 4 ∷ 1 ∷ 2 ∷ 3 ∷ 4
    ∷ 0 ∷ 0 ∷ 0 ∷ 48 ∷ 109 ∷ 100 ∷ 114 ∷ 105
    ∷ 0 ∷ 0 ∷ 0 ∷ 40 ∷ 102 ∷ 114 ∷ 101 ∷ 101 ∷ be 32 0

-- A with the size field of mdri set to 0
abbrev pub file_b : List ℕ
file_b = sets file_a 121 (be 4 0)

-- ---- a case, and what comes of it

pub data Case : Type 0 where
  reading : List ℕ → Case  -- a file, read with 256 rows
  answering : List ℕ → Case  -- a file, read with 256 rows: the answer, refused or not
  within : ℕ → List ℕ → Case  -- a file, read with this many rows: how many of them it takes
  holding : List ℕ → Case  -- a file, read with 256 rows: what the reading in the sense of demand 3 holds
  wanting : ℕ → PlaintextLength → Case  -- which data lengths below 256 a method takes with a plaintext length

pub data Outcome : Type 0 where
  refused : ℕ → ℕ → Outcome
  listed : Reading → List Row → Outcome
  answered : Reading → Outcome
  counted : ℕ → Outcome
  held : Lesson → Outcome
  taken : List ℕ → Outcome

abbrev pub up_to : ℕ → List ℕ
up_to zero = []
up_to (suc n) = up_to n ++ (n ∷ [])

abbrev pub keep : (ℕ → Bool) → List ℕ → List ℕ
keep p [] = []
keep p (x ∷ xs) = pick (p x) (x ∷ keep p xs) (keep p xs)

abbrev pub told : Out → Outcome
told (fault k place) = refused k place
told (done log) = listed (accepted_as log) (rows log)

abbrev pub told_count : Out → Outcome
told_count (fault k place) = refused k place
told_count (done log) = counted (length log)

abbrev pub told_lesson : List ℕ → Out → Outcome
told_lesson s (fault k place) = refused k place
told_lesson s (done log) = held (lesson_of s log)

abbrev pub outcome : Case → Outcome
outcome (reading s) = told (read_of 256 s)
outcome (answering s) = answered (answer_of (read_of 256 s))
outcome (within cap s) = told_count (read_of cap s)
outcome (holding s) = told_lesson s (read_of 256 s)
outcome (wanting m p) = taken (keep (λ d. agrees m p (record { 0 = d })) (up_to 256))

pub record Line : Type 0 where
  pub case : Case
  pub comes : Outcome

abbrev pub row : ℕ → ℕ → ℕ → ℕ → Row
row a n d t = record { offset = a; size = n; depth = d; boxtype = t }

abbrev cbc : ℕ → Case
cbc p = wanting 1 (record { 0 = p })

abbrev ctr : ℕ → Case
ctr p = wanting 2 (record { 0 = p })

abbrev pub at : ℕ → ℕ → Stretch
at a n = record { offset = a; length = n }

abbrev full : Row → Full
full r = record { row = r; flags = 0 }

-- what is reported of A besides its rows
abbrev answer_a : Reading
answer_a = record {
  refusal = record { rule = Done; place = 0 };
  boxes = 7;
  containers = 1;
  summaries = eight
      (record {
        odrm = full (row 20 101 0 0x6f64726d);
        odhe = full (row 40 49 1 0x6f646865);
        ohdr = full (row 56 33 2 0x6f686472);
        odda = full (row 89 32 1 0x6f646461);
        method = 0;
        padding = 0;
        plaintextlength = record { 0 = 4 };
        datalength = record { 0 = 4 };
        contenttype = at 53 3;
        contentid = at 84 5;
        issuer = at 89 0;
        headers = at 89 0;
        content = at 117 4;
      } ∷ []);
  mdri = 121;
  rights = 0;
  free = 40;
  transaction = 0;
}

abbrev pub table : List Line
table =
    -- (a) A's rows, and with them all that is reported of A
    record {
      case = reading file_a;
      comes = listed answer_a
          (row 0 20 0 0x66747970 ∷ row 20 101 0 0x6f64726d ∷ row 40 49 1 0x6f646865 ∷ row 56 33 2 0x6f686472 ∷ row 89 32 1 0x6f646461
          ∷ row 121 48 0 0x6d647269 ∷ row 129 40 1 0x66726565 ∷ []);
    }
    -- (b) A with the size field of mdri set to 0 gives 3 at 121
    ∷ record { case = reading file_b; comes = refused 3 121 }
    -- (i) CBC P 0 and 15 want D 32 (D = 0 is always taken)
    ∷ record { case = cbc 0; comes = taken (0 ∷ 32 ∷ []) }
    ∷ record { case = cbc 15; comes = taken (0 ∷ 32 ∷ []) }
    -- (j) 16 wants 48, 100 wants 128
    ∷ record { case = cbc 16; comes = taken (0 ∷ 48 ∷ []) }
    ∷ record { case = cbc 100; comes = taken (0 ∷ 128 ∷ []) }
    -- (k) CTR 100 wants 116
    ∷ record { case = ctr 100; comes = taken (0 ∷ 116 ∷ []) }
    -- (l) the empty file gives 6
    ∷ record { case = reading []; comes = refused 6 0 }
    ∷ []

-- the claim: every case comes out as its line says
abbrev pub Holds : List Line → Type 0
Holds [] = Unit {0}
Holds (l ∷ ls) = (outcome l.case ≡ l.comes) × Holds ls

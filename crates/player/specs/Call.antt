-- What dcf_read gives back, and what the lent answer holds afterwards, of every file and every answer. Assumes nothing.
use Rattle.std.specs.Prelude.{◌≡◌, ℕ, ◌-◌, ◌/◌, min, List, ◌++◌, length, drop}
use Rattle.format.specs.Numbers.{number_of}
use Rattle.format.specs.Judge.{Out, fault, done, read_of}
use Rattle.format.specs.Report.{rows, answer_of}
use Rattle.player.specs.Layout.{answer_bytes}

-- the number of rows that an answer of n bytes lends: rows of 32 bytes stand last, after 2,224 bytes, and 256 of them are used at most
abbrev pub rows_lent : ℕ → ℕ
rows_lent n = min 256 ((n - 2224) / 32)

-- on success the answer's bytes, and those behind stay; when refused all stay
unfoldable pub answer_after : Out → List ℕ → List ℕ
answer_after (fault k place) answer = answer
answer_after (done log) answer =
    answer_bytes (answer_of (done log)) (rows log) ++ drop (length (answer_bytes (answer_of (done log)) (rows log))) answer

pub record Told (s answer : List ℕ) (r : ℕ) (answer' : List ℕ) : Type 0 where
  pub number : r ≡ number_of (answer_of (read_of (rows_lent (length answer)) s)).refusal.rule
  pub bytes : answer' ≡ answer_after (read_of (rows_lent (length answer)) s) answer

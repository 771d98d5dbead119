-- Content: reading, 21. The content answer is the very stretch of the file, D bytes, IV included (document 01). Assumes nothing.
use Rattle.std.specs.Prelude.{ℕ, List, length, get_or, ltb}
use Rattle.numbers.specs.Choice.{pick}
use Rattle.format.specs.declared.Stretch.{Stretch}
use Rattle.format.specs.declared.Summary.{Summary}
use Rattle.format.specs.Boxes.{Box, Container}
use Rattle.format.specs.Judge.{read_of}
use Rattle.format.specs.Report.{summary_of, containers_in}
use Rattle.summaries.specs.Contained.{no_container}
use Rattle.stretches.specs.Given.{refusal_of, log_of, given}

-- the container of an index, of a list of boxes read
abbrev pub container_at : List Box → ℕ → Container
container_at log i = get_or (containers_in log) i no_container

-- 21: no container of that index; else the number n
abbrev pub unless_no_container : List Box → ℕ → ℕ → ℕ
unless_no_container log i n = pick (ltb i (length (containers_in log))) n 21

-- its summary, of a file
abbrev pub summary_in : List ℕ → ℕ → Summary
summary_in s i = summary_of (container_at (log_of (read_of 256 s)) i)

unfoldable pub content_refusal : List ℕ → ℕ → ℕ
content_refusal s i = refusal_of (read_of 256 s) (λ log. unless_no_container log i 0)

unfoldable pub content_of : List ℕ → ℕ → Stretch
content_of s i = given (content_refusal s i) (summary_of (container_at (log_of (read_of 256 s)) i)).content

-- The array of eight as it is filled: a summary for each container passed, and 0 behind them. Assumes nothing.
use mathlib.Core.Path.{◌≡◌, sym, ◌∙◌}
use Prim.Native.Nat.{ℕ, suc, ◌+◌, ◌-◌, ◌≤◌, ◌<◌}
use native.Mathlib.Numerals.{add-one}
use native.Mathlib.Omega.{arith}
use mathlib.Core.List.{List, ◌++◌, map}
use lib.ListN.{length, get_or, take, set, replicate, length-map, get_or-map}
use lib.Seq.{length-take-le, take-suc, append_snoc, set_at}
use Rattle.format.specs.declared.Summary.{Summary}
use Rattle.format.specs.Boxes.{Container}
use Rattle.format.specs.Report.{summary_of, no_summary, eight}
use Rattle.summaries.specs.Contained.{Contained, no_container, Listed}

filled : (i : ℕ) (ss : List Summary) → i ≤ length ss → eight (take i ss) ≡ take i ss ++ replicate (8 - i) no_summary
filled i ss l = rw (length-take-le i ss l)

stored : (i : ℕ) (ss : List Summary) (d : Summary) → i < length ss → length ss ≤ 8
    → set (eight (take i ss)) i (get_or ss i d) ≡ eight (take (i + 1) ss)
stored i ss d l m =
    let k : 8 - i ≡ suc (7 - i) = omega arith in
    let j : 8 - suc i ≡ 7 - i = omega arith in
    rw (filled i ss (omega arith), k)
    (set_at (take i ss) no_summary (replicate (7 - i) no_summary) (get_or ss i d) i (length-take-le i ss (omega arith))
    ∙ rw (add-one, filled (suc i) ss (omega arith), j, take-suc ss i d l)
    (sym (append_snoc (take i ss) (get_or ss i d) (replicate (7 - i) no_summary))))

-- what stands after i summaries
abbrev pub Stored : List ℕ → List ℕ → ℕ → List Summary → ℕ → Type 0
Stored s starts n all i = (cs : List Container) → Listed s starts n cs → all ≡ eight (take i (map summary_of cs))

pub one-stored : {s starts : List ℕ} {n i : ℕ} {all : List Summary} {v : Summary} → n ≤ 8 → i < n
    → ((c : Container) → Contained s (get_or starts i 0) c → v ≡ summary_of c) → Stored s starts n all i → Stored s starts n (set all i v) (i + 1)
one-stored {i = i} m k e a = λ cs l.
    let ss : List Summary = map summary_of cs in
    let len : length ss ≡ length cs = length-map cs summary_of in
    rw (a cs l, e (get_or cs i no_container) (l.each i k), ← get_or-map summary_of cs i no_container)
    (stored i ss (summary_of no_container) (omega (arith, len, l.count)) (omega (arith, len, l.count)))

-- The answer follows from what the walk keeps. Assumes nothing.
use mathlib.Core.Path.{◌≡◌, refl, sym, ap, subst, ◌∙◌}
use Prim.Native.Nat.{ℕ, suc, ◌≤◌, min}
use native.Mathlib.Omega.{arith}
use mathlib.Core.List.{List, [], ◌∷◌, ◌++◌, map}
use lib.ListN.{length, take, drop, take-append-drop, replicate, length-map}
use lib.Seq.{take_all}
use Rattle.std.specs.Prelude.{Result, Ok, Err}
use Rattle.format.specs.declared.Refusal.{Refusal}
use Rattle.format.specs.declared.Rule.TheVariants.{Done}
use Rattle.format.specs.declared.Reading.{Reading}
use Rattle.format.specs.declared.Row.{Row}
use Rattle.format.specs.declared.Summary.{Summary}
use Rattle.format.specs.declared.Kind.TheVariants.{Odrm, Odhe, Ohdr, Odda}
use Rattle.format.specs.Boxes.{Box, only, Container}
use Rattle.format.specs.Judge.{Out, fault, done, read_of}
use Rattle.format.specs.Report.{rows, no_summary, summary_of, group, containers_in, eight, answer_of}
use Rattle.format.proofs.Exact.{few}
use Rattle.summaries.specs.Contained.{Begun, Listed}
use Rattle.summaries.proofs.Accepted.{accepted-contained, kept-listed, listed-begun}
use Rattle.walk.specs.declared.Kept.{Kept}
use Rattle.walk.specs.declared.Tally.{Tally}
use Rattle.walk.specs.Walking.{refusal, Finished, Walked}
use Rattle.walk.proofs.Steps.{err-same, ok-same, ok-not-err}
use Rattle.reading.specs.Answer.{Answered, ReadOver}

length-group : (xs es os ds : List Box) → length (group xs es os ds) ≡ length xs
length-group [] es os ds = refl
length-group (x ∷ xs) es os ds = ap suc (length-group xs (drop 1 es) (drop 1 os) (drop 1 ds))

-- the offsets of the containers are those of the odrm boxes
group_at : (xs es os ds : List Box) → map (λ c. c.odrm.at) (group xs es os ds) ≡ map (λ (x : Box). x.at) xs
group_at [] es os ds = refl
group_at (x ∷ xs) es os ds = ap (λ (l : List ℕ). x.at ∷ l) (group_at xs (drop 1 es) (drop 1 os) (drop 1 ds))

-- ---- refused

pub answered-refused : {s : List ℕ} {cap : ℕ} {t : Result Kept Refusal} {e : Refusal} {none : Summary} {old new : List Row} → Walked s cap (read_of cap s) t old new → t ≡ Err e
    → none ≡ no_summary
    → Answered s cap old (record { refusal = e; boxes = 0; containers = 0; summaries = replicate 8 none; mdri = 0; rights = 0; free = 0; transaction = 0 }) new
unfolding Walked answer_of
answered-refused {s} {cap} {t} {e} {none} {old} {new} w i z = go (read_of cap s) refl w
  where
    go : (o : Out) → read_of cap s ≡ o → Walked s cap o t old new
        → Answered s cap old (record { refusal = e; boxes = 0; containers = 0; summaries = replicate 8 none; mdri = 0; rights = 0; free = 0; transaction = 0 }) new
    go (fault k p) f u =
        let q : e ≡ refusal k p = err-same (sym i ∙ u.0) in
        record { answer = rw (f, q, z) refl; rows = λ log g. let d : fault k p ≡ done log = sym f ∙ g in absurd (cc) }
    go (done l) f u = absurd (ok-not-err (sym u.1 ∙ i))

-- ---- accepted

pub record Accepted (s : List ℕ) (cap : ℕ) (x : Kept) (old new : List Row) : Type 0 where
  pub log : List Box
  pub read : read_of cap s ≡ done log
  pub kept : Finished s cap log x old new

pub accepted : {s : List ℕ} {cap : ℕ} {t : Result Kept Refusal} {x : Kept} {old new : List Row} → Walked s cap (read_of cap s) t old new → t ≡ Ok x → Accepted s cap x old new
unfolding Walked
accepted {s} {cap} {t} {x} {old} {new} w i = go (read_of cap s) refl w
  where
    go : (o : Out) → read_of cap s ≡ o → Walked s cap o t old new → Accepted s cap x old new
    go (fault k p) f u = absurd (ok-not-err (sym i ∙ u.0))
    go (done l) f u = record { log = l; read = f; kept = subst (λ (y : Kept). Finished s cap l y old new) (ok-same (sym u.1 ∙ i)) u.2 }

module _ {s : List ℕ} {cap : ℕ} {x : Kept} {old new : List Row} (a : Accepted s cap x old new) where
  abbrev starts : List ℕ
  starts = take x.tally.containers x.starts

  counted : length starts ≡ length (only Odrm a.log)
  counted = ap length a.kept.holds.starts ∙ length-map (only Odrm a.log) (λ (y : Box). y.at)

  pub most : x.tally.containers ≤ 8
  most = a.kept.most

  -- its containers are those that stand there
  listed : Listed s starts (length starts) (containers_in a.log)
  listed =
      kept-listed s starts (length starts) (containers_in a.log)
      (length-group (only Odrm a.log) (only Odhe a.log) (only Ohdr a.log) (only Odda a.log) ∙ sym counted)
      (take_all (length starts) starts (omega arith) ∙ a.kept.holds.starts ∙ sym (group_at (only Odrm a.log) (only Odhe a.log) (only Ohdr a.log) (only Odda a.log)))
      (accepted-contained cap s a.log a.read)

  pub begun : Begun s starts (length starts)
  begun = listed-begun (omega (arith, counted, ap (λ (t : Tally). t.containers) a.kept.holds.tally, most)) (omega arith) listed

  pub answered-done : {made : List Summary} → ((cs : List Container) → Listed s starts (length starts) cs → made ≡ eight (map summary_of cs)) → length new ≡ length old
      → Answered s cap old (record { refusal = record { rule = Done; place = 0 }; boxes = x.count; containers = x.tally.containers; summaries = made; mdri = x.tally.mdri; rights = x.tally.rights; free = x.tally.free; transaction = x.tally.transaction }) new
  unfolding answer_of
  answered-done {made} f m =
      let o = a.kept.holds in
      let g : length (containers_in a.log) ≡ length (only Odrm a.log) = length-group (only Odrm a.log) (only Odhe a.log) (only Ohdr a.log) (only Odda a.log) in
      record {
        answer = rw (a.read, o.number, o.tally, f (containers_in a.log) listed, g);
        rows = λ log h k.
            let d : done log ≡ done a.log = sym h ∙ a.read in
            let q : log ≡ a.log = cc in
            let c : x.count ≤ length new = omega (arith, o.number, ap length q, k, m) in
            let z : new ≡ rows a.log ++ drop x.count old = sym (take-append-drop x.count new) ∙ ap (λ (r : List Row). r ++ drop x.count new) (o.rows c) ∙ ap (λ (r : List Row). rows a.log ++ r) a.kept.past in
            rw q (z ∙ rw o.number);
      }

-- ---- with as many rows as are lent, an accepted file's rows fit

pub read-over : {s : List ℕ} {cap : ℕ} {old new : List Row} {r : Reading} → Answered s cap old r new → cap ≡ min 256 (length old) → ReadOver s old r new
read-over {s} {cap} {old} {new} {r} a e = record {
  answer = rw (← e) a.answer;
  rows = λ log f. let g : read_of cap s ≡ done log = rw e f in
      a.rows log g (omega (arith, few cap s log g, e));
}

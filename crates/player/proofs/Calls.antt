-- From a reading with the lent rows to the bytes of an answer. Assumes nothing.
use mathlib.Core.Path.{◌≡◌, refl, sym, ap, ◌∙◌}
use Prim.Native.Nat.{ℕ, ◌+◌, ◌*◌, ◌≤◌, min}
use native.Mathlib.Omega.{arith}
use mathlib.Core.List.{List, ◌++◌}
use lib.ListN.{length, take, drop, length-map, length-append}
use lib.Seq.{sets, sets-eq, take_at}
use Rattle.std.specs.List.{flat_map}
use Rattle.format.specs.declared.Rule.TheVariants.{Done}
use Rattle.format.specs.declared.Row.{Row}
use Rattle.format.specs.declared.Reading.{Reading}
use Rattle.format.specs.declared.Place.TheVariants.{Top}
use Rattle.format.specs.Numbers.{number_of}
use Rattle.format.specs.Kinds.{ODRM}
use Rattle.format.specs.Tree.{Run, end, bad, leaf, node}
use Rattle.format.specs.Boxes.{Box, top, boxes}
use Rattle.format.specs.Judge.{Out, fault, done, read_of}
use Rattle.format.specs.Report.{row_of, rows, answer_of}
use Rattle.format.specs.Allowed.{types, count, Filled}
use Rattle.format.proofs.Exact.{reported, few}
use Rattle.format.proofs.Refused.{refused}
use Rattle.reading.specs.Answer.{ReadOver}
use Rattle.player.specs.Layout.{words, row_numbers, reading_numbers, answer_numbers, answer_bytes}
use Rattle.player.specs.Wrote.{Wrote}
use Rattle.player.specs.Call.{rows_lent, answer_after, Told}
use Rattle.player.proofs.Laws.{length-words, then}
use Rattle.player.proofs.Sizes.{length-reading, length-rows}

-- the lent rows are as many as the reading may use
lent-rows : (answer : List ℕ) (old : List Row) → length old ≡ rows_lent (length answer) → min 256 (length old) ≡ rows_lent (length answer)
lent-rows answer old e = omega (arith, e)

-- ---- refused

pub stays : (o : Out) (answer : List ℕ) → ((answer_of o).refusal.rule ≡ Done → ⊥) → answer_after o answer ≡ answer
unfolding answer_after answer_of
stays (fault k p) answer f = refl
stays (done l) answer f = absurd (f refl)

pub told-refused : (answer : List ℕ) {s : List ℕ} {old lent : List Row} {r : Reading} {n : ℕ} → length old ≡ rows_lent (length answer)
    → ReadOver s old r lent → (r.refusal.rule ≡ Done → ⊥) → n ≡ number_of r.refusal.rule → Told s answer n answer
told-refused answer {s} {old} {lent} {r} m a f e =
    let g : r ≡ answer_of (read_of (rows_lent (length answer)) s) = rw (lent-rows answer old m) at a.answer in
    record {
      number = e ∙ ap (λ (x : Reading). number_of x.refusal.rule) g;
      bytes = sym (stays (read_of (rows_lent (length answer)) s) answer (λ d. f (ap (λ (x : Reading). x.refusal.rule) g ∙ d)));
    }

-- ---- accepted

-- no file is accepted with no row
some-box : (t : Run) → Filled Top t → 1 ≤ count ODRM (types t) → 1 ≤ length (boxes top 0 t)
some-box end f h = omega arith
some-box (bad k s) f h = absurd f
some-box (leaf h b r) f l = omega arith
some-box (node h b k r) f l = omega arith

-- what is known of an accepted file: its log, its rows at the front of the lent ones, and that the answer has room for all
pub record Ready (s answer : List ℕ) (r : Reading) (lent : List Row) : Type 0 where
  pub log : List Box
  pub read : read_of (rows_lent (length answer)) s ≡ done log
  pub is : r ≡ answer_of (done log)
  pub rows : take r.boxes lent ≡ rows log
  pub counted : r.boxes ≡ length (take r.boxes lent)
  pub room : 8 * (length (reading_numbers r) + length (flat_map row_numbers (take r.boxes lent))) ≤ length answer

pub ready : (answer : List ℕ) {s : List ℕ} {old lent : List Row} {r : Reading} → length old ≡ rows_lent (length answer) → ReadOver s old r lent
    → r.refusal.rule ≡ Done → length r.summaries ≡ 8 → Ready s answer r lent
unfolding answer_of
ready answer {s} {old} {lent} {r} m a d k = go (read_of (rows_lent (length answer)) s) refl
  where
    cap : ℕ
    cap = rows_lent (length answer)

    h : r ≡ answer_of (read_of cap s)
    h = rw (lent-rows answer old m) at a.answer

    go : (o : Out) → read_of cap s ≡ o → Ready s answer r lent
    go (fault n p) e =
        let f = refused cap s n p e in
        let z : n ≡ 0 = sym f.number ∙ ap (λ (x : Reading). number_of x.refusal.rule) (sym h) ∙ ap number_of d in
        absurd (omega (arith, f.range))
    go (done l) e =
        let g : r ≡ answer_of (done l) = h ∙ ap answer_of e in
        let b : r.boxes ≡ length l = ap (λ (x : Reading). x.boxes) g in
        let n : lent ≡ rows l ++ drop (length l) old = a.rows l (ap (λ (i : ℕ). read_of i s) (lent-rows answer old m) ∙ e) in
        let t : take r.boxes lent ≡ rows l = rw (b, n) (take_at (rows l) (drop (length l) old) (length l) (length-map l row_of)) in
        let c : r.boxes ≡ length (take r.boxes lent) = b ∙ sym (ap length t ∙ length-map l row_of) in
        let p = reported cap s l e in
        let some : 1 ≤ length l = rw p.boxes-of (some-box p.tree p.allowed.filled p.allowed.ordered.odrm.0) in
        let most : length l ≤ cap = few cap s l e in
        record {
          log = l;
          read = e;
          is = g;
          rows = t;
          counted = c;
          room = omega (arith, length-reading r k, length-rows (take r.boxes lent));
        }

front : (vs l : List ℕ) → length vs ≤ length l → sets l 0 vs ≡ vs ++ drop (length vs) l
front vs l h = let e : 0 + length vs ≡ length vs = omega arith in sets-eq vs l 0 (omega arith) ∙ rw e

pub told-done : (answer : List ℕ) {s out answer' : List ℕ} {r : Reading} {lent : List Row} {at next n : ℕ} → Ready s answer r lent
    → Wrote answer 0 (reading_numbers r) out at → Wrote out at (flat_map row_numbers (take r.boxes lent)) answer' next → n ≡ number_of Done
    → Told s answer n answer'
unfolding answer_after answer_bytes answer_of
told-done answer {s} {out} {answer'} {r} {lent} x p q e =
    let w = then p q in
    let ls : List Row = take r.boxes lent in
    let ns : List ℕ = answer_numbers r ls in
    let fits : length (words ns) ≤ length answer = omega (arith, length-words ns, length-append (reading_numbers r) (flat_map row_numbers ls), x.room) in
    let t : ns ≡ answer_numbers (answer_of (done x.log)) (rows x.log) = rw (x.rows, x.is) refl in
    record {
      number = rw x.read e;
      bytes = w.out ∙ front (words ns) answer fits ∙ ap (λ (ms : List ℕ). words ms ++ drop (length (words ms)) answer) t
          ∙ sym (ap (λ (o : Out). answer_after o answer) x.read);
    }

-- What is found in a file, and what a lent slice of rows holds after it is read. Assumes nothing.
use mathlib.Core.Path.{◌≡◌, refl, sym, ap, ◌∙◌, subst}
use Prim.Native.Nat.{ℕ, ◌-◌, ◌≤◌, min}
use native.Mathlib.Omega.{arith}
use mathlib.Core.List.{List, ◌++◌, append_assoc}
use lib.ListN.{length, take, drop, replicate, length-map, length-replicate}
use lib.Seq.{take_at, length-take-le}
use Rattle.std.proofs.lemmas.List.{drop-replicate, take-replicate, replicate-append-replicate}
use Rattle.format.specs.declared.Row.{Row}
use Rattle.format.specs.declared.Rule.TheVariants.{Done}
use Rattle.format.specs.declared.Reading.{Reading}
use Rattle.format.specs.Numbers.{number_of}
use Rattle.format.specs.Boxes.{Box}
use Rattle.format.specs.Judge.{Out, fault, done, read_of}
use Rattle.format.specs.Report.{row_of, rows, no_row, answer_of}
use Rattle.format.proofs.Exact.{few, boxes-few}
use Rattle.format.proofs.Refused.{refused}
use Rattle.reading.specs.Answer.{ReadOver}
use Rattle.rows.specs.declared.Found.{Found}
use Rattle.rows.specs.Finding.{filled, rows_of, find_of, over, rows_after, ReadRows}

-- ---- what is found

-- the lent part of the array, as many rows as may be used
lent : (n : ℕ) (cap : ℕ) (z : Row) → n ≡ min 256 cap → min 256 (length (take n (replicate 256 z))) ≡ min 256 cap
lent n cap z e = omega (arith, e, length-take-le n (replicate 256 z) (omega (arith, e, length-replicate 256 z)))

-- what is known of an accepted file: its log, and its rows in front of the other lent ones
record Ready (s : List ℕ) (n cap : ℕ) (z : Row) (r : Reading) (part : List Row) : Type 0 where
  log : List Box
  read : read_of (min 256 cap) s ≡ done log
  answer : r ≡ answer_of (done log)
  rows : part ≡ rows log ++ drop (length log) (take n (replicate 256 z))

module _ {s : List ℕ} {n : ℕ} (cap : ℕ) (z : Row) {r : Reading} {part : List Row} (a : ReadOver s (take n (replicate 256 z)) r part) (e : n ≡ min 256 cap) where
  told : r ≡ answer_of (read_of (min 256 cap) s)
  told = a.answer ∙ ap (λ (i : ℕ). answer_of (read_of i s)) (lent n cap z e)

  ready : r.refusal.rule ≡ Done → Ready s n cap z r part
  unfolding answer_of
  ready d = go (read_of (min 256 cap) s) refl
    where
      go : (o : Out) → read_of (min 256 cap) s ≡ o → Ready s n cap z r part
      go (fault k p) g =
          let u = refused (min 256 cap) s k p g in
          let v : k ≡ 0 = sym u.number ∙ ap (λ (x : Reading). number_of x.refusal.rule) (sym told) ∙ ap number_of d in
          absurd (omega (arith, u.range))
      go (done log) g = record {
        log = log;
        read = g;
        answer = told ∙ ap answer_of g;
        rows = a.rows log (ap (λ (i : ℕ). read_of i s) (lent n cap z e) ∙ g);
      }

pub found-refused : {s : List ℕ} {n : ℕ} (cap : ℕ) (z : Row) {y : Row} {r : Reading} {part : List Row} → ReadOver s (take n (replicate 256 z)) r part → n ≡ min 256 cap
    → (r.refusal.rule ≡ Done → ⊥) → y ≡ no_row → record { reading = r; rows = replicate 256 y } ≡ find_of (read_of (min 256 cap) s)
unfolding find_of rows_of answer_of
found-refused {s} {n} cap z {y} {r} a e d f = go (read_of (min 256 cap) s) (told cap z a e)
  where
    go : (o : Out) → r ≡ answer_of o → record { reading = r; rows = replicate 256 y } ≡ find_of o
    go (fault k p) q = rw (q, f) refl
    go (done log) q = absurd (d (ap (λ (x : Reading). x.refusal.rule) q))

-- an accepted file's rows in front of rows that are 0
filling : (log : List Box) (n : ℕ) {z : Row} {part : List Row} → part ≡ rows log ++ drop (length log) (take n (replicate 256 z)) → length log ≤ n → n ≤ 256
    → z ≡ no_row → part ++ drop n (replicate 256 z) ≡ filled (rows log)
filling log n {z} p m e f =
    rw (p, take-replicate n 256 z e, drop-replicate (length log) n z, drop-replicate n 256 z, length-map log row_of, f)
    (append_assoc (rows log) _ _ ∙ rw (replicate-append-replicate (n - length log) (256 - n) no_row)
    (ap (λ (i : ℕ). rows log ++ replicate i no_row) (omega (arith, m, e))))

pub found-done : {s : List ℕ} {n : ℕ} (cap : ℕ) {z : Row} {r : Reading} {part : List Row} → ReadOver s (take n (replicate 256 z)) r part → n ≡ min 256 cap
    → r.refusal.rule ≡ Done → z ≡ no_row → record { reading = r; rows = part ++ drop n (replicate 256 z) } ≡ find_of (read_of (min 256 cap) s)
unfolding find_of rows_of
found-done {s} {n} cap {z} {r} {part} a e d f =
    let x = ready cap z a e d in
    let u = filling x.log n x.rows (omega (arith, e, few (min 256 cap) s x.log x.read)) (omega (arith, e)) f in
    let F : Reading → List Row → Found = λ y xs. record { reading = y; rows = xs } in
    ap (λ (y : Reading). F y (part ++ drop n (replicate 256 z))) x.answer ∙ ap (F (answer_of (done x.log))) u ∙ sym (ap find_of x.read)

-- ---- what is stored

module _ {s : List ℕ} {n : ℕ} (ys : List Row) (z : Row) {r : Reading} {part : List Row} (a : ReadOver s (take n (replicate 256 z)) r part) (e : n ≡ min 256 (length ys)) where
  pub stored-refused : (r.refusal.rule ≡ Done → ⊥) → ReadRows s ys r ys
  unfolding answer_of rows_after
  stored-refused d = record { answer = told (length ys) z a e; rows = go (read_of (min 256 (length ys)) s) (told (length ys) z a e) }
    where
      go : (o : Out) → r ≡ answer_of o → ys ≡ rows_after o ys
      go (fault k p) g = refl
      go (done log) g = absurd (d (ap (λ (x : Reading). x.refusal.rule) g))

  -- the rows counted are the file's
  first : (x : Ready s n (length ys) z r part) → take r.boxes part ≡ rows x.log
  unfolding answer_of
  first x = rw (ap (λ (y : Reading). y.boxes) x.answer, x.rows) (take_at (rows x.log) _ (length x.log) (length-map x.log row_of))

  pub counted : r.refusal.rule ≡ Done → r.boxes ≡ length (take r.boxes part)
  unfolding answer_of
  counted d =
      let x = ready (length ys) z a e d in
      rw (first x) (ap (λ (y : Reading). y.boxes) x.answer ∙ sym (length-map x.log row_of))

  pub stored-done : {zs : List Row} → r.refusal.rule ≡ Done → zs ≡ take r.boxes part ++ drop (length (take r.boxes part)) ys → ReadRows s ys r zs
  unfolding rows_after
  stored-done d h =
      let x = ready (length ys) z a e d in
      record { answer = told (length ys) z a e; rows = h ∙ rw (first x, x.read, length-map x.log row_of) refl }

-- ---- what find_rows yields, stored, is what read stores

stored-out : (o : Out) (ys : List Row) → over (answer_of o).boxes (rows_of o) ys ≡ rows_after o ys
unfolding answer_of rows_of rows_after
stored-out (fault k p) ys = refl
stored-out (done log) ys =
    ap (λ (r : List Row). r ++ drop (length log) ys) (take_at (rows log) (replicate (256 - length (rows log)) no_row) (length log) (length-map log row_of))

pub stored_is : (s : List ℕ) (ys zs : List Row) (f : Found) → f ≡ find_of (read_of (min 256 (length ys)) s) → zs ≡ over f.reading.boxes f.rows ys
    → ReadRows s ys f.reading zs
unfolding find_of
stored_is s ys zs f e z =
    let o : Out = read_of (min 256 (length ys)) s in
    record {
      answer = ap (λ (x : Found). x.reading) e;
      rows = z ∙ ap (λ (x : Found). over x.reading.boxes x.rows ys) e ∙ stored-out o ys;
    }

-- the rows counted fit
pub fits : (s : List ℕ) (ys : List Row) (f : Found) → f ≡ find_of (read_of (min 256 (length ys)) s) → (f.reading.boxes ≤ length ys) × (f.reading.boxes ≤ 256)
unfolding find_of
fits s ys f e =
    let c : ℕ = min 256 (length ys) in
    let n : f.reading.boxes ≤ c = subst (λ (x : Found). x.reading.boxes ≤ c) (sym e) (boxes-few c s) in
    (omega (arith, n), omega (arith, n))

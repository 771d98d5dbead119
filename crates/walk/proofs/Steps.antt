-- What one box and a run ensure follows from what the functions below them do. Assumes nothing.
use mathlib.Core.Path.{◌≡◌, refl, sym, ap, subst, ◌∙◌}
use Prim.Native.Nat.{ℕ, zero, suc, ◌+◌, ◌-◌, ◌≤◌, ◌<◌}
use native.Mathlib.Omega.{arith}
use mathlib.Core.Bool.{Bool, true, false}
use mathlib.Core.List.{List, [], ◌∷◌, ◌++◌}
use lib.ListN.{length, take, drop, set}
use lib.Seq.{slice, slice_empty, length-slice, take-length, drop-drop, drop-set-lt}
use borrow.Author.Tests.{le-leb, le-ltb, lt-ltb, ne_eqb}
use Rattle.std.specs.Prelude.{replicate, Option, Some, None, Result, Ok, Err}
use Rattle.numbers.specs.Choice.{pick, pick-by, true-not-false}
use Rattle.numbers.specs.Big.{num}
use Rattle.format.specs.declared.Place.{Place}
use Rattle.format.specs.declared.Place.TheVariants.{Top, InOdrm, InOdhe, InOhdr, InMdri}
use Rattle.format.specs.declared.Kind.{Kind}
use Rattle.format.specs.declared.Kind.TheVariants.{Odrm, Ohdr}
use Rattle.format.specs.declared.Refusal.{Refusal}
use Rattle.format.specs.declared.Row.{Row}
use Rattle.format.specs.declared.Rule.{Rule}
use Rattle.format.specs.declared.Rule.TheVariants.{FileTooLong, WrongPlace}
use Rattle.format.specs.declared.Seen.{Seen}
use Rattle.format.specs.declared.Spot.{Spot}
use Rattle.format.specs.Numbers.{rule_of, unless_broken}
use Rattle.format.specs.Kinds.{kind_of, fields_length, same_kind, holds_run, inside}
use Rattle.format.specs.Header.{header_length}
use Rattle.format.specs.Tree.{opens, body_of, rest_of, parse}
use Rattle.format.specs.Fields.{id_length, content_id}
use Rattle.format.specs.Boxes.{Box, top, kind, into}
use Rattle.format.specs.Judge.{nothing, note, missing, wrong, Out, fault, done, unless, and_then, judge, read_of}
use Rattle.format.specs.Report.{no_stretch}
use Rattle.format.proofs.Broken.{answered, broken}
use Rattle.format.proofs.Trees.{parse-end}
use Rattle.format.proofs.Order.{same_kind_lem}
use Rattle.format.proofs.Slices.{slice-drop, slice-slice, part_slice}
use Rattle.boxes.specs.declared.Head.{Head}
use Rattle.boxes.specs.Head.{head_in}
use Rattle.boxes.proofs.Laws.{KeptHead, kept-head, refused-head}
use Rattle.fields.proofs.Laws.{id-fields}
use Rattle.walk.specs.declared.Kept.{Kept}
use Rattle.walk.specs.declared.Tally.{Tally}
use Rattle.walk.specs.Keeping.{tally_of, ids_in, with_box, Holds}
use Rattle.walk.specs.Walking.{number_in, is_top, to_come, Bound, Addable, Ready, refusal, Told, Ran, Went, Stepped, Walked}
use Rattle.walk.proofs.Boxing.{kind_in, size_in, fields_in, box_at, cutting, judge-bad, judge-leaf, judge-node, judge-wrong, body-slice}
use Rattle.walk.proofs.Holding.{Fits, holds-add}
use Rattle.walk.proofs.Counts.{Counting, counting, inside-not-top}
use Rattle.walk.proofs.Bounds.{bound-add}
use Rattle.walk.proofs.Numbers.{number_is, Clean, none_in}

-- ---- verdicts

pub err-same : {A B : Type 0} {x y : B} → ◌≡◌ {A = Result A B} (Err x) (Err y) → x ≡ y
err-same e = cc

pub ok-same : {A B : Type 0} {x y : A} → ◌≡◌ {A = Result A B} (Ok x) (Ok y) → x ≡ y
ok-same e = cc

pub ok-not-err : {A B : Type 0} {x : A} {y : B} → ◌≡◌ {A = Result A B} (Ok x) (Err y) → ⊥
ok-not-err e = absurd (cc)

-- an outcome is a fault of a number whose rule and place are those of a refusal
abbrev Faulty : Out → Refusal → Type 0
Faulty o e = (k : ℕ) × (o ≡ fault k e.place) × (rule_of k ≡ e.rule) × (k ≡ 0 → ⊥)

told-fault : (s : List ℕ) (o : Out) (r : Result (Unit {0}) Refusal) (e : Refusal) (y : Kept) (out : List Row) → r ≡ Err e → Faulty o e → Told s o r y out
unfolding Told
told-fault s o r e y out q f = rw (f.1, f.2) (q, f.3)

told-refused : (s : List ℕ) (o : Out) (r : Result (Unit {0}) Refusal) (e : Refusal) (y : Kept) (out : List Row) → r ≡ Err e → Told s o r y out → (f : List Box → Out)
    → Faulty (and_then o f) e
unfolding Told and_then
told-refused s (fault k p) r e y out q t f =
    let i : e ≡ refusal k p = err-same (sym q ∙ t.0) in
    (k, ap (λ (u : Refusal). fault k u.place) (sym i), ap (λ (u : Refusal). u.rule) (sym i), t.1)
told-refused s (done l) r e y out q t f = absurd (ok-not-err (sym t.0 ∙ q))

told-kept : (s : List ℕ) (o : Out) (r : Result (Unit {0}) Refusal) (y : Kept) (out : List Row) → r ≡ Ok tt → Told s o r y out → (f : List Box → Out)
    → (l : List Box) × Holds s l y out × (and_then o f ≡ f l)
unfolding Told and_then
told-kept s (fault k p) r y out q t f = absurd (ok-not-err (sym q ∙ t.0))
told-kept s (done l) r y out q t f = (l, t.1, refl)

unless-none : (k place : ℕ) (o : Out) → k ≡ 0 → unless k place o ≡ o
unless-none k place o e = rw e

opens_not : (k : Kind) (b : List ℕ) → holds_run k ≡ false → opens k b ≡ false
unfolding opens
opens_not k b e = rw e

opens-yes : (k : Kind) (b : List ℕ) → holds_run k ≡ true → fields_length k b ≤ length b → opens k b ≡ true
unfolding opens
opens-yes k b e l = rw (e, le-leb _ _ l)

-- ---- the ContentID of an ohdr

pub id-fit : (k : Kind) (b : List ℕ) → same_kind k Ohdr ≡ true → fields_length k b ≤ length b → 20 + id_length b ≤ length b
unfolding fields_length
id-fit k b e l = let m : fields_length Ohdr b ≤ length b = rw (same_kind_lem k Ohdr e) at l in omega arith

id-in : (s b : List ℕ) (from to : ℕ) → b ≡ slice from to s → to ≤ length s → 20 + id_length b ≤ length b
    → slice (from + 20) (from + 20 + id_length b) s ≡ content_id b
id-in s b from to e m l =
    let n : ℕ = id_length b in
    let lb : length b ≡ to - from = ap length e ∙ length-slice from to s m in
    let p : from + 20 + n ≡ from + (20 + n) = omega arith in
    rw p (sym (slice-slice from to 20 n s (omega arith)) ∙ ap (slice 20 (20 + n)) (sym e))

-- ---- what is known of the box at an offset, once its header is read and no rule is broken

-- its header, as the definitions have it
pub record Fair (s : List ℕ) (c : Place) (at end : ℕ) (h : Head) : Type 0 where
  pub same : KeptHead c (slice at end s) h
  pub least : h.skip ≤ h.size
  pub most : at + h.size ≤ end
  pub eight : 8 ≤ h.skip

-- the header that was read of the part that is left
pub head-of : {s : List ℕ} {cap at end : ℕ} {q : Spot} {n : Seen} {y : Kept} {r u : Result Head Rule} → at < end → Ready s cap end q n at y
    → ((c : Place) → r ≡ head_in c (take (end - at) (drop at s))) → r ≡ u → head_in q.place (slice at end s) ≡ u
head-of {s} {at = at} {end = end} {q = q} lt rd e i = ap (head_in q.place) (sym (part_slice at end s (omega arith))) ∙ sym (e q.place) ∙ i

pub fair : (s : List ℕ) (c : Place) (at end : ℕ) (h : Head) → at ≤ end → end ≤ length s → head_in c (slice at end s) ≡ Ok h → Fair s c at end h
fair s c at end h lt le e =
    let b : List ℕ = slice at end s in
    let g = kept-head c b h e in
    let cu = cutting c b g.fine in
    let lb : length b ≡ end - at = length-slice at end s le in
    record {
      same = g;
      least = omega (arith, g.size, g.skip, cu.least);
      most = omega (arith, g.size, cu.most);
      eight = omega (arith, g.skip, cu.eight);
    }

-- the header, the kind, and the bytes after the header
pub record Met (s : List ℕ) (q : Spot) (at end : ℕ) (h : Head) (k : Kind) (b : List ℕ) : Type 0 where
  pub head : head_in q.place (slice at end s) ≡ Ok h
  pub of : k ≡ kind_of q.place h.boxtype
  pub bytes : b ≡ slice (at + h.skip) (at + h.size) s

-- those bytes, as a lent slice has them
abbrev pub after_header : List ℕ → ℕ → Head → List ℕ
after_header s at h = take (at + h.size - (at + h.skip)) (drop (at + h.skip) s)

pub met : {s : List ℕ} {cap at end : ℕ} {q : Spot} {n : Seen} {y : Kept} {h : Head} {k : Kind} {r : Result Head Rule} → at < end → Ready s cap end q n at y
    → ((c : Place) → r ≡ head_in c (take (end - at) (drop at s))) → r ≡ Ok h → k ≡ kind_of q.place h.boxtype
    → Met s q at end h k (after_header s at h)
met {s} {at = at} {end = end} {q = q} {h = h} lt rd e i ek =
    let hd = head-of lt rd e i in
    let f = fair s q.place at end h (omega arith) rd.ends hd in
    record { head = hd; of = ek; bytes = part_slice (at + h.skip) (at + h.size) s (omega (arith, f.least)) }

-- the box that was met breaks no rule
pub record Judged (s : List ℕ) (cap end : ℕ) (q : Spot) (n : Seen) (at : ℕ) (y : Kept) (h : Head) (k : Kind) : Type 0 where
  pub met : Met s q at end h k (after_header s at h)
  pub fine : ◌≡◌ {A = Result (Unit {0}) Rule} (unless_broken (number_in cap q.place n k y (after_header s at h) (ids_in s y.ids y.tally.headers)) tt) (Ok tt)

-- rows that agree from n on agree from m on
past-more : (l l' : List Row) (n m : ℕ) → n ≤ m → drop n l ≡ drop n l' → drop m l ≡ drop m l'
past-more l l' n m h e =
    let k : n + (m - n) ≡ m = omega arith in
    rw (drop-drop (m - n) n l, drop-drop (m - n) n l', k) at (ap (drop (m - n)) e)

module _ {s : List ℕ} {cap end : ℕ} {q : Spot} {n : Seen} {at : ℕ} {y : Kept} where
  stepped-err : {out : List Row} {r : Result (ℕ × Kind) Refusal} {y' : Kept} {out' : List Row} (e : Refusal) → r ≡ Err e
      → ((m : ℕ) (log : List Box) → end - at ≤ suc m → Holds s log y out → Faulty (judge cap q n at log (parse (suc m) q.place (slice at end s))) e)
      → Stepped s cap end q n at y out r y' out'
  stepped-err {out} e i f = record {
    refused = λ e' i'. subst (λ (u : Refusal). (m : ℕ) (log : List Box) → end - at ≤ suc m → Holds s log y out → Faulty (judge cap q n at log (parse (suc m) q.place (slice at end s))) u)
        (err-same (sym i ∙ i')) f;
    went = λ z i'. absurd (ok-not-err (sym i' ∙ i));
  }

  stepped-ok : {out : List Row} {r : Result (ℕ × Kind) Refusal} {y' : Kept} {out' : List Row} (z : ℕ × Kind) → r ≡ Ok z
      → Went s cap end q n at y out z.0 z.1 y' out' → Stepped s cap end q n at y out r y' out'
  stepped-ok {out} {y' = y'} {out' = out'} z i w = record {
    refused = λ e i'. absurd (ok-not-err (sym i ∙ i'));
    went = λ z' i'. subst (λ (u : ℕ × Kind). Went s cap end q n at y out u.0 u.1 y' out') (ok-same (sym i ∙ i')) w;
  }

  module _ (lt : at < end) (rd : Ready s cap end q n at y) where
    pub stepped-head : {out : List Row} {r : Result (ℕ × Kind) Refusal} (e : Refusal) → r ≡ Err e → e.place ≡ at → head_in q.place (slice at end s) ≡ Err e.rule
        → Stepped s cap end q n at y out r y out
    stepped-head e i p f =
        let b : List ℕ = slice at end s in
        let g = refused-head q.place b e.rule f in
        let lb : length b ≡ end - at = length-slice at end s rd.ends in
        stepped-err e i (λ m log l o. (_, judge-bad cap q n at log m b (λ z. omega arith) g.0 ∙ rw p, g.1, g.0))

    -- its kind, and the bytes after its header
    module _ {h : Head} {k : Kind} {b : List ℕ} (x : Met s q at end h k b) where
      pub known-fair : Fair s q.place at end h
      known-fair = fair s q.place at end h (omega arith) rd.ends x.head

      -- kind and bytes, of what is left of the run
      known-kind : k ≡ kind_in q.place (slice at end s)
      known-kind = x.of ∙ ap (kind_of q.place) known-fair.same.boxtype

      known_bytes : b ≡ body_of q.place (slice at end s)
      known_bytes =
          let f = known-fair in
          x.bytes ∙ rw (f.same.size, f.same.skip) (sym (body-slice s q.place at end (omega arith) rd.ends f.same.fine))

      known-length : length b ≡ h.size - h.skip
      known-length =
          ap length x.bytes ∙ length-slice (at + h.skip) (at + h.size) s (omega (arith, known-fair.most, rd.ends))
          ∙ omega (arith, known-fair.least)

      -- the number that it breaks
      abbrev number : ℕ
      number = number_in cap q.place n k y b (ids_in s y.ids y.tally.headers)

      abbrev verdict : Result (Unit {0}) Rule
      verdict = unless_broken number tt

      wrong-is : {out : List Row} (log : List Box) → Holds s log y out → wrong cap n log (box_at q at (slice at end s)) ≡ number
      wrong-is {out} log o = number_is cap q n at (slice at end s) known-fair.same.fine s log y out o ∙ rw (known-kind, known_bytes)

      pub stepped-wrong : {out : List Row} {r : Result (ℕ × Kind) Refusal} (e : Refusal) → r ≡ Err e → e.place ≡ at → verdict ≡ Err e.rule
          → Stepped s cap end q n at y out r y out
      stepped-wrong e i p f =
          let B : List ℕ = slice at end s in
          let lb : length B ≡ end - at = length-slice at end s rd.ends in
          let g = broken number tt e.rule f in
          stepped-err e i (λ m log l o. (
            number,
            judge-wrong cap q n at log m B known-fair.same.fine (omega arith) number (wrong-is log o) g.0 ∙ rw p,
            g.1,
            g.0,
          ))

      -- ---- a box that breaks no rule
      module _ (fine : verdict ≡ Ok tt) where
        none : number ≡ 0
        none = (answered number tt tt fine).0

        pub known-none : Clean cap q.place n y.count k b
        known-none = none_in cap q.place n k y b _ none

        pub known-counting : Counting q.place n k y.tally
        known-counting = counting cap q.place n y.count k y.tally rd.counted known-none.row known-none.placed

        -- the box itself
        abbrev it : Box
        it = box_at q at (slice at end s)

        abbrev after : Kept
        after = with_box y q.place k at h b

        abbrev its-row : Row
        its-row = record { offset = at; size = h.size; depth = q.depth; boxtype = h.boxtype }

        it-fits : Fits s y it h b
        it-fits =
            let f = known-fair in
            let c = known-counting in
            record {
              size = sym f.same.size;
              skip = sym f.same.skip;
              type = sym f.same.boxtype;
              fields = sym (ap (λ (l : List ℕ). take (fields_length (kind it) l) l) known_bytes);
              named = λ e.
                  id-in s b (at + h.skip) (at + h.size) x.bytes (omega (arith, f.most, rd.ends))
                  (id-fit k b (rw known-kind e) known-none.fit)
                  ∙ sym (ap (λ (l : List ℕ). content_id (take (fields_length (kind it) l) l)) (sym known_bytes) ∙ id-fields (kind it) b e);
              odrm = λ e. omega (arith, c.odrm (rw known-kind e), rd.bound.long.0);
              ohdr = λ e. omega (arith, c.ohdr (rw known-kind e), rd.bound.long.1);
            }

        stored : {out : List Row} (log : List Box) → Holds s log y out → Holds s (log ++ (it ∷ [])) after (set out y.count its-row)
        stored {out} log o =
            rw (known-kind, known-fair.same.size, known-fair.same.boxtype)
            (rw (known-fair.same.size, known-fair.same.boxtype) at (holds-add s log y out it h b o it-fits))

        kept-bound : Bound s after
        kept-bound =
            let f = known-fair in
            let c = known-counting in
            bound-add s y q.place k at h b rd.bound (omega (arith, f.most, rd.ends, rd.short))
            (λ e. (c.ohdr e, omega (arith, id-fit k b e known-none.fit, known-length, f.most, f.least, rd.ends)))

        -- what keeping it asks
        pub known-addable : Addable y b k at h
        known-addable =
            let f = known-fair in
            let c = known-counting in
            record {
              count = omega (arith, rd.few, rd.rows);
              containers = rd.counted.most;
              rights = omega (arith, rd.bound.rights, rd.few, rd.rows);
              free = omega (arith, rd.bound.free, rd.few, rd.rows);
              offset = omega (arith, f.most, rd.ends, rd.short);
              size = omega (arith, f.most, rd.ends, rd.short);
              skip = f.least;
              odrm = c.odrm;
              ohdr = λ e. (c.ohdr e, omega (arith, id-fit k b e known-none.fit));
            }

        pub known_next : fields_length k b ≤ h.size - h.skip
        known_next = omega (arith, known-none.fit, known-length)

        -- what is left of the run after the box
        rest-is : rest_of q.place (slice at end s) ≡ slice (at + h.size) end s
        rest-is = slice-drop at end (size_in q.place (slice at end s)) s ∙ rw known-fair.same.size

        pub stepped-leaf : {out : List Row} {r : Result (ℕ × Kind) Refusal} → r ≡ Ok (at + h.size, k) → holds_run k ≡ false
            → Stepped s cap end q n at y out r after (set out y.count its-row)
        unfolding with_box
        stepped-leaf {out} i shut =
            let B : List ℕ = slice at end s in
            let f = known-fair in
            let c = known-counting in
            stepped-ok (at + h.size, k) i record {
              goes = λ m log l o. (
                log ++ (it ∷ []),
                stored log o,
                judge-leaf cap q n at log m B f.same.fine (opens_not (kind_in q.place B) (body_of q.place B) (rw known-kind at shut))
                    ∙ rw (wrong-is log o ∙ none, rest-is, ← f.same.size, ← known-kind),
              );
              more = omega (arith, f.least, f.eight);
              within = f.most;
              grows = omega arith;
              after = record {
                few = omega (arith, known-none.few);
                grows = omega arith;
                past = drop-set-lt (y.count + 1) out y.count its-row (omega arith);
                spare = omega (arith, c.spare);
                most = c.most;
                same = c.same;
                bound = kept-bound;
              };
              top = c.top;
            }

        -- the run inside
        abbrev within-it : Spot
        within-it = record { place = inside k; depth = q.depth + 1; own = at }

        pub inner-ready : (f : ℕ) → f ≡ fields_length k b → holds_run k ≡ true → Ready s cap (at + h.size) within-it nothing (at + h.skip + f) after
        unfolding with_box
        inner-ready f e held =
            let g = known-fair in
            let c = known-counting in
            record {
              within = omega (arith, known-none.fit, known-length, g.least);
              ends = omega (arith, g.most, rd.ends);
              short = rd.short;
              rows = rd.rows;
              few = omega (arith, known-none.few);
              deep = omega (arith, rd.deep);
              seen = (omega arith, omega arith);
              counted = record { spare = c.spare; most = c.most; top = λ u. absurd (true-not-false (sym (inside-not-top k held) ∙ u)) };
              bound = kept-bound;
            }

        abbrev B : List ℕ
        B = slice at end s

        abbrev P : Place
        P = q.place

        abbrev F : ℕ
        F = fields_in P B

        -- the outcome of the run inside
        abbrev inner : ℕ → List Box → Out
        inner m log = judge cap (into q it) nothing (at + (header_length B + F)) (log ++ (it ∷ [])) (parse m (inside (kind_in P B)) (drop F (body_of P B)))

        -- after the run inside, what is left of the run
        fin : (m : ℕ) (l : List Box)
            → judge cap q (note n (kind_in P B)) (at + size_in P B) l (parse m P (rest_of P B)) ≡ judge cap q (note n k) (at + h.size) l (parse m P (slice (at + h.size) end s))
        fin m l = rw (rest-is, ← known-kind, ← known-fair.same.size)

        module _ {out : List Row} {f : ℕ} {ran : Result (Unit {0}) Refusal} {y' : Kept} {out' : List Row} (ef : f ≡ fields_length k b) (held : holds_run k ≡ true)
            (g : Ran s cap (at + h.size) within-it nothing (at + h.skip + f) after (set out y.count its-row) ran y' out') where
          told : (m : ℕ) (log : List Box) → end - at ≤ suc m → Holds s log y out → Told s (inner m log) ran y' out'
          told m log l o =
              let a = known-fair in
              let eF : f ≡ F = ef ∙ rw (known-kind, known_bytes) in
              let from : at + h.skip + f ≡ at + (header_length B + F) = omega (arith, a.same.skip) in
              let i : at + header_length B + F ≡ at + (header_length B + F) = omega arith in
              let body : drop F (body_of P B) ≡ slice (at + (header_length B + F)) (at + size_in P B) s =
              ap (drop F) (body-slice s P at end (omega arith) rd.ends a.same.fine) ∙ slice-drop (at + header_length B) (at + size_in P B) F s
              ∙ ap (λ (i : ℕ). slice i (at + size_in P B) s) i in
              rw body (rw (known-kind, a.same.size, from) at (g.told m (log ++ (it ∷ [])) (omega (arith, a.most, a.eight)) (stored log o)))

          go : (m : ℕ) (log : List Box) → end - at ≤ suc m → Holds s log y out
              → judge cap q n at log (parse (suc m) P B)
              ≡ and_then (inner m log) (λ l. judge cap q (note n (kind_in P B)) (at + size_in P B) l (parse m P (rest_of P B)))
          go m log l o =
              let lB : length B ≡ end - at = length-slice at end s rd.ends in
              let fit : F ≤ length (body_of P B) = rw (known-kind, known_bytes) at known-none.fit in
              judge-node cap q n at log m B known-fair.same.fine (opens-yes (kind_in P B) (body_of P B) (rw known-kind at held) fit) fit (omega arith)
              ∙ unless-none _ _ _ (wrong-is log o ∙ none)

          pub stepped-inner : {r : Result (ℕ × Kind) Refusal} (e : Refusal) → r ≡ Err e → ran ≡ Err e → Stepped s cap end q n at y out r y' out'
          stepped-inner e i j = stepped-err e i (λ m log l o.
              subst (λ (u : Out). Faulty u e) (sym (go m log l o)) (told-refused s (inner m log) ran e y' out' j (told m log l o) _))

          pub stepped-node : {r : Result (ℕ × Kind) Refusal} → r ≡ Ok (at + h.size, k) → ran ≡ Ok tt → Stepped s cap end q n at y out r y' out'
          unfolding with_box
          stepped-node i j =
              let a = g.after j in
              let b' = known-fair in
              let c = known-counting in
              let nt : is_top (inside k) ≡ false = inside-not-top k held in
              stepped-ok (at + h.size, k) i record {
                goes = λ m log l o.
                    let t = told-kept s (inner m log) ran y' out' j (told m log l o) (λ l. judge cap q (note n (kind_in P B)) (at + size_in P B) l (parse m P (rest_of P B))) in (
                      t.0,
                      t.1,
                      go m log l o ∙ t.2 ∙ fin m t.0,
                    );
                more = omega (arith, b'.least, b'.eight);
                within = b'.most;
                grows = omega (arith, a.grows);
                after = record {
                  few = a.few;
                  grows = omega (arith, a.grows);
                  past = a.past ∙ past-more (set out y.count its-row) out (y.count + 1) y'.count a.grows (drop-set-lt (y.count + 1) out y.count its-row (omega arith));
                  spare = a.spare;
                  most = a.most;
                  same = λ u. a.same nt ∙ c.same u;
                  bound = a.bound;
                };
                top = λ u. a.same nt ∙ c.top u;
              }

-- ---- the place of the run in a box, if it holds one

held-yes-place : (t : Bool) (p u : Place) → pick t (Some p) None ≡ Some u → (t ≡ true) × (p ≡ u)
held-yes-place true p u e = (refl, cc)
held-yes-place false p u e = absurd (cc)

pub held-yes : (k : Kind) {r : Option Place} {u : Place} → r ≡ pick (holds_run k) (Some (inside k)) None → r ≡ Some u → holds_run k ≡ true
held-yes k {r} {u} e i = (held-yes-place (holds_run k) (inside k) u (sym e ∙ i)).0

pub held-place : (k : Kind) {r : Option Place} {u : Place} → r ≡ pick (holds_run k) (Some (inside k)) None → r ≡ Some u → u ≡ inside k
held-place k {r} {u} e i = sym (held-yes-place (holds_run k) (inside k) u (sym e ∙ i)).1

pub held-no : (k : Kind) {r : Option Place} → r ≡ pick (holds_run k) (Some (inside k)) None → ((u : Place) → r ≡ Some u → ⊥) → holds_run k ≡ false
held-no k {r} e n = go (holds_run k) (λ u i. n u (e ∙ i))
  where
    go : (t : Bool) → ((u : Place) → pick t (Some (inside k)) None ≡ Some u → ⊥) → t ≡ false
    go true f = absurd (f (inside k) refl)
    go false f = refl

-- ---- a run

over : (s : List ℕ) (cap end : ℕ) (q : Spot) (n : Seen) (at m : ℕ) (log : List Box) → at ≡ end
    → judge cap q n at log (parse m q.place (slice at end s)) ≡ pick (missing q.place n) (fault 6 q.own) (done log)
over s cap end q n at m log e = rw (e, slice_empty end s, parse-end m q.place)

module _ {s : List ℕ} {cap end : ℕ} {q : Spot} {n : Seen} {at : ℕ} {y : Kept} {out : List Row} where
  pub ran-end : Ready s cap end q n at y → at ≡ end → missing q.place n ≡ false → Ran s cap end q n at y out (Ok tt) y out
  unfolding Told
  ran-end rd e f = record {
    told = λ m log l o. rw (over s cap end q n at m log e, f) (refl, o);
    after = λ _. record {
      few = rd.few;
      grows = omega arith;
      past = refl;
      spare = omega (arith, rd.counted.spare);
      most = rd.counted.most;
      same = λ _. refl;
      bound = rd.bound;
    };
  }

  ran-err : {r : Result (Unit {0}) Refusal} {y' : Kept} {out' : List Row} (e : Refusal) → r ≡ Err e
      → ((m : ℕ) (log : List Box) → end - at ≤ m → Holds s log y out → Faulty (judge cap q n at log (parse m q.place (slice at end s))) e)
      → Ran s cap end q n at y out r y' out'
  ran-err {r} {y'} {out'} e i f = record {
    told = λ m log l o. told-fault s _ r e y' out' i (f m log l o);
    after = λ j. absurd (ok-not-err (sym j ∙ i));
  }

  pub ran-missing : (e : Refusal) → e.rule ≡ WrongPlace → e.place ≡ q.own → at ≡ end → missing q.place n ≡ true → Ran s cap end q n at y out (Err e) y out
  unfolding rule_of
  ran-missing e i p a f = ran-err e refl (λ m log l o. (
    6,
    over s cap end q n at m log a ∙ rw (f, p),
    sym i,
    (λ z. omega arith),
  ))

  pub ran-stop : {r : Result (Unit {0}) Refusal} {t : Result (ℕ × Kind) Refusal} {y' : Kept} {out' : List Row} (e : Refusal) → r ≡ Err e → t ≡ Err e → at < end
      → Stepped s cap end q n at y out t y' out' → Ran s cap end q n at y out r y' out'
  ran-stop e i j lt b = ran-err e i (λ m. elim m as (λ (m : ℕ). (log : List Box) → end - at ≤ m → Holds s log y out → Faulty (judge cap q n at log (parse m q.place (slice at end s))) e) [
    | zero ↦ λ log l o. absurd (omega arith)
    | suc m ↦ λ log l o. b.refused e j m log l o
  ])

  -- what is true of the rest is true of the whole
  pub ran-go : {next : ℕ} {k : Kind} {r : Result (Unit {0}) Refusal} {y₁ y₂ : Kept} {out₁ out₂ : List Row} → at < end → Went s cap end q n at y out next k y₁ out₁
      → Ran s cap end q (note n k) next y₁ out₁ r y₂ out₂ → Ran s cap end q n at y out r y₂ out₂
  ran-go {next} {k} {r} {y₁} {y₂} {out₁} {out₂} lt b g = record {
    told = λ m. elim m as (λ (m : ℕ). (log : List Box) → end - at ≤ m → Holds s log y out → Told s (judge cap q n at log (parse m q.place (slice at end s))) r y₂ out₂) [
      | zero ↦ λ log l o. absurd (omega arith)
      | suc m ↦ λ log l o.
          let t = b.goes m log l o in
          rw t.2 (g.told m t.0 (omega (arith, b.more, b.within)) t.1)
    ];
    after = λ z.
        let a = g.after z in
        record {
          few = a.few;
          grows = omega (arith, a.grows, b.after.grows);
          past = a.past ∙ past-more out₁ out y₁.count y₂.count a.grows b.after.past;
          spare = a.spare;
          most = a.most;
          same = λ u. a.same u ∙ b.after.same u;
          bound = a.bound;
        };
  }

-- after a box no ohdr is to come in its run
none-to-come : (c : Place) (n : Seen) (k : Kind) → to_come c (note n k) ≡ 0
unfolding note
none-to-come Top n k = refl
none-to-come InOdrm n k = rw (ne_eqb (n.boxes + 1) 0 (λ z. omega arith))
none-to-come InOdhe n k = rw (ne_eqb (n.boxes + 1) 0 (λ z. omega arith))
none-to-come InOhdr n k = refl
none-to-come InMdri n k = refl

-- the walk after a box is ready for the next
pub ready-next : {s : List ℕ} {cap end : ℕ} {q : Spot} {n : Seen} {at next : ℕ} {k : Kind} {y y' : Kept} {out out' : List Row} → Ready s cap end q n at y
    → Went s cap end q n at y out next k y' out' → Ready s cap end q (note n k) next y'
unfolding note
ready-next {q = q} {n = n} {k = k} rd b =
    let a = b.after in
    record {
      within = b.within;
      ends = rd.ends;
      short = rd.short;
      rows = rd.rows;
      few = a.few;
      deep = omega (arith, rd.deep, b.grows);
      seen = (
        omega (arith, rd.seen.0, b.grows),
        pick-by (λ (i : ℕ). i ≤ n.boxes + 1) (same_kind k Odrm) _ _ (λ _. omega (arith, rd.seen.1)) (λ _. omega (arith, rd.seen.1)),
      );
      counted = record { spare = omega (arith, none-to-come q.place n k, a.spare); most = a.most; top = b.top };
      bound = a.bound;
    }

-- what a run's loop keeps
pub record Going (s : List ℕ) (cap end : ℕ) (q : Spot) (from : ℕ) (y₀ : Kept) (out₀ : List Row) (at : ℕ) (n : Seen) (y : Kept) (out : List Row) : Type 0 where
  pub ready : Ready s cap end q n at y
  pub late : from ≤ at
  pub rest : {r : Result (Unit {0}) Refusal} {y' : Kept} {out' : List Row} → Ran s cap end q n at y out r y' out' → Ran s cap end q nothing from y₀ out₀ r y' out'

pub going-next : {s : List ℕ} {cap end : ℕ} {q : Spot} {from : ℕ} {y₀ : Kept} {out₀ : List Row} {at next : ℕ} {n n' : Seen} {k : Kind} {y y' : Kept} {out out' : List Row}
    {r : Result (ℕ × Kind) Refusal} → at < end → Going s cap end q from y₀ out₀ at n y out → Stepped s cap end q n at y out r y' out' → r ≡ Ok (next, k)
    → n' ≡ note n k → Going s cap end q from y₀ out₀ next n' y' out'
going-next lt g b i e =
    let w = b.went _ i in
    rw e record { ready = ready-next g.ready w; late = omega (arith, w.more, g.late); rest = λ u. g.rest (ran-go lt w u) }

-- ---- the whole file

abbrev pub no_tally : Tally
no_tally = record { containers = 0; headers = 0; method = 0; plaintext = record { 0 = 0 }; mdri = 0; rights = 0; free = 0; transaction = 0 }

none-counted : no_tally ≡ tally_of []
unfolding num
none-counted = refl

abbrev pub started : Kept
started = record { count = 0; tally = no_tally; starts = replicate 8 0; ids = replicate 8 no_stretch }

abbrev topmost : ℕ → List ℕ → Out
topmost cap s = judge cap top nothing 0 [] (parse (length s) Top s)

read-short : (s : List ℕ) (cap : ℕ) → length s ≤ 16777216 → read_of cap s ≡ topmost cap s
unfolding read_of
read-short s cap l = rw (le-ltb 16777216 (length s) l)

module _ {s : List ℕ} {cap : ℕ} {out : List Row} {r : Result (Unit {0}) Refusal} {y' : Kept} {out' : List Row} (l : length s ≤ 16777216)
    (g : Ran s cap (length s) top nothing 0 started out r y' out') where
  top-told : Told s (topmost cap s) r y' out'
  top-told = rw (take-length s) at (g.told (length s) [] (omega arith) (record { number = refl; tally = none-counted; rows = λ _. refl; starts = refl; names = refl }))

  pub run-refused : {t : Result Kept Refusal} (e : Refusal) → t ≡ Err e → r ≡ Err e → Walked s cap (read_of cap s) t out out'
  unfolding Told Walked
  run-refused {t} e i j = rw (read-short s cap l) (go (topmost cap s) top-told)
    where
      go : (o : Out) → Told s o r y' out' → Walked s cap o t out out'
      go (fault k p) u = (i ∙ ap (λ (x : Refusal). Err x) (err-same (sym j ∙ u.0)), u.1)
      go (done b) u = absurd (ok-not-err (sym u.0 ∙ j))

  pub run-walked : {t : Result Kept Refusal} → t ≡ Ok y' → r ≡ Ok tt → Walked s cap (read_of cap s) t out out'
  unfolding Told Walked
  run-walked {t} i j = rw (read-short s cap l) (go (topmost cap s) top-told)
    where
      go : (o : Out) → Told s o r y' out' → Walked s cap o t out out'
      go (fault k p) u = absurd (ok-not-err (sym j ∙ u.0))
      go (done b) u = let a = g.after j in (y', i, record { holds = u.1; few = a.few; past = a.past; most = a.most })

pub long-walked : (s : List ℕ) (cap : ℕ) (out : List Row) → 16777216 < length s
    → Walked s cap (read_of cap s) (Err (record { rule = FileTooLong; place = 0 })) out out
unfolding read_of Walked rule_of
long-walked s cap out l = rw (lt-ltb 16777216 (length s) l) (refl, (λ z. omega arith))

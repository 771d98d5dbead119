-- What a reading's answer tells: the number of a refusal, and the containers of an accepted file. Assumes nothing.
use mathlib.Core.Path.{◌≡◌, refl, sym, ap, ◌∙◌, subst}
use Prim.Native.Nat.{ℕ, ◌+◌, ◌-◌, ◌≤◌, ◌<◌}
use native.Mathlib.Omega.{arith}
use mathlib.Core.Bool.{Bool, true, false}
use mathlib.Core.List.{List, [], ◌∷◌, ◌++◌, map}
use lib.ListN.{length, take, get_or, replicate, length-map, length-append, get_or-append}
use lib.Dec.{ltb, eqb}
use borrow.Author.Tests.{ltb-true, lt-ltb, le-ltb}
use Rattle.std.proofs.lemmas.List.{get_or-map, get_or-take, length-take-le}
use Rattle.std.specs.Prelude.{Option, Some, None, Result, Ok, Err, IfOk, IsErrAnd}
use Rattle.std.specs.Option.{ok_or, option_copied}
use Rattle.std.specs.Slice.{IsItemAt}
use Rattle.std.specs.Borrow.{Bor}
use Rattle.numbers.specs.Choice.{pick}
use Rattle.strings.specs.Headers.{Textual}
use Rattle.format.specs.declared.Rule.{Rule}
use Rattle.format.specs.declared.Rule.TheVariants.{Done, NoContainer}
use Rattle.format.specs.declared.Kind.{Kind}
use Rattle.format.specs.declared.Reading.{Reading}
use Rattle.format.specs.declared.Summary.{Summary}
use Rattle.format.specs.Numbers.{number_of}
use Rattle.format.specs.Kinds.{ODRM, fields_length}
use Rattle.format.specs.Header.{type_of}
use Rattle.format.specs.Tree.{Run, end, bad, leaf, node, encode}
use Rattle.format.specs.Fields.{textual_headers, data_length}
use Rattle.format.specs.Boxes.{Box, kind, room, Container, containers}
use Rattle.format.specs.Allowed.{types, count, Says}
use Rattle.format.specs.Judge.{Out, fault, done, read_of}
use Rattle.format.specs.Report.{no_summary, summary_of, containers_in, accepted_as, answer_of}
use Rattle.format.specs.Standing.{HeaderStands}
use Rattle.format.proofs.Tiling.{each_at}
use Rattle.format.proofs.Exact.{reported}
use Rattle.format.proofs.Refused.{refused}
use Rattle.summaries.specs.Contained.{Contained, no_container}
use Rattle.summaries.proofs.Accepted.{accepted-contained}
use Rattle.stretches.specs.Given.{refusal_of, verdict, log_of, Refuses, Gives, Inside}
use Rattle.stretches.specs.Header.{HeadersIn}
use Rattle.stretches.specs.Content.{container_at, unless_no_container, summary_in, content_refusal}

-- ---- refused, and accepted

-- a number that is not 0 comes before what follows
pub sooner : {f g : List Box → ℕ} (o : Out) (rule : Rule) → ((log : List Box) → (f log ≡ 0 → ⊥) → f log ≡ g log)
    → Refuses (refusal_of o f) rule → Refuses (refusal_of o g) rule
unfolding refusal_of
sooner (fault n p) rule h k = k
sooner (done log) rule h k = let e = h log k.1 in (sym e ∙ k.0, λ z. k.1 (e ∙ z))

-- the reading's refusal is one of `content`
pub content_refused : (s : List ℕ) (i : ℕ) (rule : Rule) → Refuses (verdict s) rule → Refuses (content_refusal s i) rule
unfolding content_refusal
content_refused s i rule h = sooner (read_of 256 s) rule (λ log k. absurd (k refl)) h

-- a rule that is passed on refuses
pub passed_on : {T : Type 0} (k : ℕ) (p : T) (rule : Rule) (r : Result T Rule) → Refuses k rule → IsErrAnd r (λ e. e ≡ rule) → Gives k p r
passed_on k p rule (Ok q) f e = absurd e
passed_on k p rule (Err x) f e = (f.0 ∙ ap number_of (sym e), f.1)

-- the boxes of an accepted file
pub record Accepted (s : List ℕ) (r : Reading) : Type 0 where
  pub log : List Box
  pub read : read_of 256 s ≡ done log
  pub answer : r ≡ accepted_as log

module _ (s : List ℕ) {r : Reading} (a : r ≡ answer_of (read_of 256 s)) where
  -- a reading that is not done has the number of its rule, whatever its boxes would be asked
  pub stopped : (r.refusal.rule ≡ Done → ⊥) → (f : List Box → ℕ) → Refuses (refusal_of (read_of 256 s) f) r.refusal.rule
  unfolding answer_of refusal_of
  stopped k f = go (read_of 256 s) refl
    where
      go : (o : Out) → read_of 256 s ≡ o → Refuses (refusal_of o f) r.refusal.rule
      go (fault n p) e =
          let f = refused 256 s n p e in
          (sym f.number ∙ ap (λ (x : Reading). number_of x.refusal.rule) (sym a), λ z. omega (arith, f.range))
      go (done log) e = absurd (k (ap (λ (x : Reading). x.refusal.rule) (a ∙ ap answer_of e)))

  pub not_accepted : (r.refusal.rule ≡ Done → ⊥) → Refuses (verdict s) r.refusal.rule
  not_accepted k = stopped k (λ log. 0)

  pub went_on : r.refusal.rule ≡ Done → verdict s ≡ 0
  unfolding answer_of refusal_of
  went_on d = go (read_of 256 s) refl
    where
      go : (o : Out) → read_of 256 s ≡ o → refusal_of o (λ log. 0) ≡ 0
      go (fault n p) e = sym (refused 256 s n p e).number ∙ ap (λ (x : Reading). number_of x.refusal.rule) (sym a) ∙ ap number_of d
      go (done log) e = refl

pub accepted : (s : List ℕ) {r : Reading} → (verdict s ≡ 0) × (r ≡ answer_of (read_of 256 s)) → Accepted s r
unfolding answer_of refusal_of
accepted s {r} g = go (read_of 256 s) refl g.0
  where
    go : (o : Out) → read_of 256 s ≡ o → refusal_of o (λ log. 0) ≡ 0 → Accepted s r
    go (fault n p) e z = absurd (omega (arith, (refused 256 s n p e).range))
    go (done log) e z = record { log = log; read = e; answer = g.1 ∙ ap answer_of e }

-- ---- the containers of an accepted file

-- no more than odrm boxes at the top, of which an accepted file has eight at most
pub few-containers : (at : ℕ) (t : Run) → length (containers at t) ≤ count ODRM (types t)
few-containers at end = omega arith
few-containers at (bad k s) = omega arith
few-containers at (leaf h b r) = omega (arith, few-containers (at + (length h + length b)) r)
few-containers at (node h f k r) = go _ _ (eqb (type_of h) ODRM) (few-containers (at + (length h + (length f + length (encode k)))) r)
  where
    go : (c : Container) (cs : List Container) (b : Bool) → length cs ≤ count ODRM (types r) → length (pick b (c ∷ []) [] ++ cs) ≤ pick b 1 0 + count ODRM (types r)
    go c cs true l = omega arith
    go c cs false l = omega arith

-- the container of an index
pub record Counted (s : List ℕ) (i : ℕ) : Type 0 where
  pub log : List Box
  pub read : read_of 256 s ≡ done log
  pub counted : i < length (containers_in log)
  pub contained : Contained s (container_at log i).odrm.at (container_at log i)
  pub stands : HeaderStands s (container_at log i)

below : (i n : ℕ) (b : Bool) → ltb i n ≡ b → ◌≡◌ {A = ℕ} (pick b 0 21) 0 → i < n
below i n true e z = ltb-true i n e
below i n false e z = absurd (omega arith)

pub counted : (s : List ℕ) (i : ℕ) → content_refusal s i ≡ 0 → Counted s i
unfolding content_refusal refusal_of
counted s i z = go (read_of 256 s) refl z
  where
    go : (o : Out) → read_of 256 s ≡ o → refusal_of o (λ log. unless_no_container log i 0) ≡ 0 → Counted s i
    go (fault n p) e z = absurd (omega (arith, (refused 256 s n p e).range))
    go (done log) e z =
        let cs : List Container = containers_in log in
        let m : i < length cs = below i (length cs) (ltb i (length cs)) refl z in
        let p = reported 256 s log e in
        record {
          log = log;
          read = e;
          counted = m;
          contained = each_at (λ c. Contained s c.odrm.at c) no_container cs (accepted-contained 256 s log e) i m;
          stands = each_at (HeaderStands s) no_container cs p.headers i m;
        }

pub log-of : {s : List ℕ} {i : ℕ} (c : Counted s i) → log_of (read_of 256 s) ≡ c.log
unfolding log_of
log-of c = rw c.read

-- ---- the summary that is looked up

module _ (s : List ℕ) {r : Reading} (g : (verdict s ≡ 0) × (r ≡ answer_of (read_of 256 s))) where
  x : Accepted s r
  x = accepted s g

  pub few : r.containers ≤ length r.summaries
  few =
      let cs : List Container = containers_in x.log in
      omega (
        arith,
        ap (λ (y : Reading). y.containers) x.answer,
        ap (λ (y : Reading). length y.summaries) x.answer,
        length-append (map summary_of cs) (replicate (8 - length (map summary_of cs)) no_summary),
        length-map cs summary_of,
      )

  pub few_taken : r.containers ≡ length (take r.containers r.summaries)
  few_taken = sym (length-take-le r.containers r.summaries few)

  number : (i : ℕ) → content_refusal s i ≡ pick (ltb i r.containers) 0 21
  unfolding content_refusal refusal_of
  number i = go x
    where
      go : Accepted s r → refusal_of (read_of 256 s) (λ log. unless_no_container log i 0) ≡ pick (ltb i r.containers) 0 21
      go x = rw (x.read, x.answer)

  item : (i : ℕ) → i < r.containers → get_or r.summaries i no_summary ≡ summary_in s i
  unfolding log_of
  item i l =
      let cs : List Container = containers_in x.log in
      let m : i < length cs = omega (arith, ap (λ (y : Reading). y.containers) x.answer) in
      rw x.read (ap (λ (y : Reading). get_or y.summaries i no_summary) x.answer
      ∙ get_or-append (map summary_of cs) _ no_summary i (omega (arith, length-map cs summary_of)) ∙ get_or-map summary_of cs i no_container no_summary m)

  pub looked_up : (i : ℕ) (o : Option (Bor Summary)) → IsItemAt (take r.containers r.summaries) i o
      → Gives (content_refusal s i) (summary_in s i) (ok_or (option_copied o) NoContainer)
  looked_up i None h =
      let l : r.containers ≤ i = omega (arith, h.3, few_taken) in
      let n : content_refusal s i ≡ 21 = number i ∙ rw (le-ltb i r.containers l) refl in
      (n, λ z. omega (arith, n))
  looked_up i (Some b) h =
      let l : i < r.containers = omega (arith, h.3.0, few_taken) in
      let g : b.now ≡ get_or (take r.containers r.summaries) i no_summary = h.4 (omega arith) no_summary in
      (number i ∙ rw (lt-ltb i r.containers l) refl, g ∙ get_or-take r.containers r.summaries i no_summary l ∙ item i l)

-- ---- its stretches lie in the file

module _ {s : List ℕ} {at : ℕ} {c : Container} (h : Contained s at c) where
  pub content-inside : (summary_of c).content.offset + (summary_of c).content.length ≤ length s
  content-inside =
      let x = h.odda in
      let d : 12 + (data_length c.odda.fields).0 ≤ room c.odda = (subst (λ (k : Kind). Says k (room c.odda) c.odda.fields) x.of x.fielded.says).1 in
      omega (arith, x.stands.headed, x.stands.within.0, x.stands.within.1)

  pub headers-inside : (summary_of c).headers.offset + (summary_of c).headers.length ≤ length s
  unfolding fields_length
  headers-inside =
      let x = h.ohdr in
      let f : fields_length (kind c.ohdr) c.ohdr.fields ≤ room c.ohdr = x.fielded.fit in
      omega (arith, rw x.of at f, x.stands.headed, x.stands.within.0, x.stands.within.1)

  pub headers-textual : Textual (textual_headers c.ohdr.fields)
  headers-textual = (subst (λ (k : Kind). Says k (room c.ohdr) c.ohdr.fields) h.ohdr.of h.ohdr.fielded.says).3

module _ (s : List ℕ) (i : ℕ) {x : Summary} (g : (content_refusal s i ≡ 0) × (x ≡ summary_in s i)) where
  pub content_held : Inside s x.content
  content_held = let c = counted s i g.0 in rw (g.1, log-of c) (content-inside c.contained)

  pub headers_held : HeadersIn s x.headers
  headers_held =
      let c = counted s i g.0 in
      rw (g.1, log-of c) (record {
        inside = headers-inside c.contained;
        textual = rw c.stands.textual_headers (headers-textual c.contained);
      })

pub summary_headers : (s : List ℕ) (i : ℕ) (r : Result Summary Rule) → Gives (content_refusal s i) (summary_in s i) r → IfOk r (λ x. HeadersIn s x.headers)
summary_headers s i (Ok x) g = headers_held s i g
summary_headers s i (Err rule) g = tt

-- The part that is handed out is the stretch of the specification. Assumes nothing.
use mathlib.Core.Path.{◌≡◌, refl, sym, ap, ◌∙◌, subst}
use Prim.Native.Nat.{ℕ, ◌+◌}
use native.Mathlib.Omega.{arith}
use mathlib.Core.Bool.{Bool, true, false}
use mathlib.Core.List.{List}
use lib.ListN.{length}
use lib.Seq.{length-slice}
use lib.Dec.{ltb}
use borrow.Author.Tests.{lt-ltb, ne_eqb}
use Rattle.std.specs.Borrow.{Bor}
use Rattle.std.specs.Prelude.{Option, Some, None, Result, Ok, Err}
use Rattle.std.specs.Result.{ResultUnwrapsOrElse}
use Rattle.numbers.specs.Choice.{pick}
use Rattle.strings.specs.Headers.{textual, Answers}
use Rattle.strings.proofs.Laws.{textual-good}
use Rattle.format.specs.declared.Rule.{Rule}
use Rattle.format.specs.declared.Rule.TheVariants.{NoTextualHeader}
use Rattle.format.specs.declared.Summary.{Summary}
use Rattle.format.specs.declared.Stretch.{Stretch}
use Rattle.format.specs.Numbers.{number_of}
use Rattle.format.specs.Judge.{read_of}
use Rattle.format.specs.Report.{containers_in, bytes_in}
use Rattle.stretches.specs.Given.{refusal_of, log_of, Refuses, Gives, Inside, given, PartOf}
use Rattle.stretches.specs.Content.{summary_in, content_refusal}
use Rattle.stretches.specs.Header.{value_in, found_number, found_in, value_at, header_in, textual_header_refusal}
use Rattle.stretches.proofs.Readings.{sooner, counted, log-of, headers_held}
use Rattle.stretches.proofs.Entries.{found-value, value-inside}

-- ---- the part that is handed out

-- the stretch that a call gives, the empty one where it is refused
pub unwrapped : (k : ℕ) (p q : Stretch) (r : Result Stretch Rule) → Gives k p r
    → ResultUnwrapsOrElse r (λ (x : Stretch). (x.offset ≡ 0) × (x.length ≡ 0)) q → q ≡ given k p
unwrapped k p q (Ok x) g u = rw g.0 (u ∙ g.1)
unwrapped k p q (Err rule) g u = rw (ne_eqb k 0 g.1) (ap (λ (n : ℕ). record { offset = n; length = q.length }) u.0 ∙ ap (λ (n : ℕ). record { offset = 0; length = n }) u.1)

pub part : {file r : Bor (List ℕ)} {p q : Stretch} → q ≡ p → Inside file.now q → r.ref_ptr.0 ≡ file.ref_ptr.0
    → r.ref_ptr.1 ≡ file.ref_ptr.1 + q.offset → r.now ≡ bytes_in file.now q → PartOf file p r
part {file} {r} e l b a n = subst (λ (x : Stretch). PartOf file x r) e (record { inside = l; block = b; place = a; bytes = n })

-- ---- the value of a textual header

-- a refusal of `content` is one of `textual_header`
pub header_refused : (s : List ℕ) (i : ℕ) (name : List ℕ) (rule : Rule) → Refuses (content_refusal s i) rule → Refuses (textual_header_refusal s i name) rule
unfolding content_refusal textual_header_refusal
header_refused s i name rule h = sooner (read_of 256 s) rule (λ log k. go (ltb i (length (containers_in log))) (found_number (value_at log i name)) k) h
  where
    go : (b : Bool) (n : ℕ) → (◌≡◌ {A = ℕ} (pick b 0 21) 0 → ⊥) → pick b 0 21 ≡ pick b n 21
    go true n k = absurd (k refl)
    go false n k = refl

-- what is found in the headers of a container
module _ (s : List ℕ) (i : ℕ) {x : Summary} (g : (content_refusal s i ≡ 0) × (x ≡ summary_in s i)) {field : List ℕ} (e : field ≡ bytes_in s x.headers) where
  pub searchable : textual field ≡ true
  searchable = rw e (textual-good _ (headers_held s i g).textual)

  module _ (name : List ℕ) {f : Option (ℕ × ℕ)} (a : Answers field name f) where
    found : f ≡ value_in (bytes_in s x.headers) name
    found = found-value (headers_held s i g).textual (rw e at a)

    found-at : f ≡ value_at (log_of (read_of 256 s)) i name
    found-at =
        let c = counted s i g.0 in
        found ∙ ap (λ (y : Summary). value_in (bytes_in s y.headers) name) g.1
        ∙ rw (log-of c) (ap (λ (l : List ℕ). value_in l name) c.stands.textual_headers)

    number : textual_header_refusal s i name ≡ found_number f
    unfolding textual_header_refusal refusal_of log_of
    number = let c = counted s i g.0 in rw (found-at, c.read, lt-ltb _ _ c.counted)

    stands : found_in x.headers f ≡ header_in s i name
    unfolding header_in
    stands = rw (g.1, found-at)

    pub header_missing : (rule : Rule) → f ≡ None → rule ≡ NoTextualHeader → Refuses (textual_header_refusal s i name) rule
    header_missing rule m r =
        let n : textual_header_refusal s i name ≡ 22 = number ∙ ap found_number m in
        (n ∙ ap number_of (sym r), λ z. omega (arith, n))

    module _ {v : ℕ × ℕ} (m : f ≡ Some v) where
      pub header_given : textual_header_refusal s i name ≡ 0
      header_given = number ∙ ap found_number m

      pub header_found : ◌≡◌ {A = Stretch} (record { offset = x.headers.offset + v.0; length = v.1 }) (header_in s i name)
      header_found = sym (ap (found_in x.headers) m) ∙ stands

      pub value_held : Inside s (record { offset = x.headers.offset + v.0; length = v.1 })
      value_held =
          let h = headers_held s i g in
          let o : ℕ = x.headers.offset in
          omega (arith, h.inside, value-inside name h.textual (sym found ∙ m), length-slice o (o + x.headers.length) s h.inside)

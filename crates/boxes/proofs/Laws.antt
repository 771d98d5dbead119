-- What a header that was read says, where it is kept and where it is refused. Assumes nothing.
use mathlib.Core.Path.{◌≡◌, sym, ap}
use Prim.Native.Nat.{ℕ}
use mathlib.Core.List.{List}
use lib.ListN.{length}
use Rattle.std.specs.Prelude.{Ok, Err}
use Rattle.format.specs.declared.Place.{Place}
use Rattle.format.specs.declared.Rule.{Rule}
use Rattle.format.specs.Header.{header_length, size_of, type_of, header_fault}
use Rattle.format.specs.Numbers.{rule_of}
use Rattle.format.proofs.Broken.{answered, broken}
use Rattle.boxes.specs.declared.Head.{Head}
use Rattle.boxes.specs.Head.{head_in}

pub record KeptHead (c : Place) (b : List ℕ) (h : Head) : Type 0 where
  pub fine : header_fault c b ≡ 0
  pub size : h.size ≡ size_of c (length b) b
  pub skip : h.skip ≡ header_length b
  pub boxtype : h.boxtype ≡ type_of b

pub kept-head : (c : Place) (b : List ℕ) (h : Head) → head_in c b ≡ Ok h → KeptHead c b h
unfolding head_in
kept-head c b h e =
    let a = answered (header_fault c b) _ h e in
    record { fine = a.0; size = ap (λ (x : Head). x.size) (sym a.1); skip = ap (λ (x : Head). x.skip) (sym a.1); boxtype = ap (λ (x : Head). x.boxtype) (sym a.1) }

pub refused-head : (c : Place) (b : List ℕ) (r : Rule) → head_in c b ≡ Err r → (header_fault c b ≡ 0 → ⊥) × (rule_of (header_fault c b) ≡ r)
unfolding head_in
refused-head c b r e = broken (header_fault c b) _ r e

-- Parts of parts of a list. Assumes nothing.
use mathlib.Core.Path.{◌≡◌, refl, sym, ap, ◌∙◌}
use Prim.Native.Nat.{ℕ, ◌+◌, ◌-◌, ◌≤◌}
use native.Mathlib.Omega.{arith}
use mathlib.Core.List.{List, ◌++◌}
use lib.ListN.{length, take, drop}
use lib.Seq.{slice, take-take, drop-drop, take_at, drop_at}
use Rattle.std.proofs.lemmas.List.{drop-take}

pub slice-drop : (a e k : ℕ) (s : List ℕ) → drop k (slice a e s) ≡ slice (a + k) e s
slice-drop a e k s = drop-drop k a (take e s)

pub take-slice : (a e n : ℕ) (s : List ℕ) → a + n ≤ e → take n (slice a e s) ≡ slice a (a + n) s
take-slice a e n s l = sym (drop-take a n (take e s)) ∙ ap (drop a) (take-take (a + n) e s l)

pub slice-slice : (a e k n : ℕ) (s : List ℕ) → a + (k + n) ≤ e → slice k (k + n) (slice a e s) ≡ slice (a + k) (a + (k + n)) s
slice-slice a e k n s l = ap (drop k) (take-slice a e (k + n) s l) ∙ slice-drop a (a + (k + n)) k s

-- a part as a lent slice has it
pub part_slice : (a e : ℕ) (s : List ℕ) → a ≤ e → take (e - a) (drop a s) ≡ slice a e s
part_slice a e s l =
    let k : a + (e - a) ≡ e = omega arith in
    sym (drop-take a (e - a) s) ∙ ap (λ (n : ℕ). slice a n s) k

-- a part of an append of three
pub slice-mid : (a b c : List ℕ) (i j : ℕ) → length a ≡ i → i + length b ≡ j → slice i j (a ++ (b ++ c)) ≡ b
slice-mid a b c i j e f =
    let k : j - i ≡ length b = omega arith in
    sym (part_slice i j (a ++ (b ++ c)) (omega arith)) ∙ rw (drop_at a (b ++ c) i e, k) (take_at b c (length b) refl)

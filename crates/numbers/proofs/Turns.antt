-- The loops of read and put, a byte at a time. Assumes nothing.
use mathlib.Core.Path.{◌≡◌, refl, sym, ◌∙◌}
use Prim.Native.Nat.{ℕ, zero, suc, ◌+◌, ◌-◌, ◌*◌, ◌^◌, ◌/◌, ◌%◌, ◌≤◌, ◌<◌}
use native.Mathlib.Nat.{pow-suc, pow-le-pow_right}
use native.Mathlib.Numerals.{add-one}
use native.Mathlib.Omega.{arith}
use mathlib.Core.List.{List, [], ◌∷◌}
use lib.ListN.{length, take, drop, set, get_or}
use lib.Seq.{sets, get_or-take, get_or-drop}
use lib.Dec.{lit<}
use Rattle.std.proofs.lemmas.List.{set_comm}
use Rattle.numbers.specs.Big.{num, be}
use Rattle.numbers.specs.Read.{Read}
use Rattle.numbers.proofs.Laws.{length-be, sets-append}

-- ---- read: the bytes of s from `at` on, k of them

abbrev part : List ℕ → ℕ → ℕ → List ℕ
part s at k = take (at + k - at) (drop at s)

part-at : (s : List ℕ) (at k i : ℕ) → i < k → get_or (part s at k) i 0 ≡ get_or s (at + i) 0
part-at s at k i l = get_or-take (at + k - at) (drop at s) i 0 (omega arith) ∙ get_or-drop at s i 0

pub byte : (s : List ℕ) (at k i : ℕ) → ((j : ℕ) → get_or s j 0 < 256) → i < k → get_or (part s at k) i 0 < 256
byte s at k i h l = rw (part-at s at k i l) (h (at + i))

pub read-none : (s : List ℕ) (at : ℕ) → Read 0 s at 0
unfolding num
read-none s at = record { value = refl; bound = lit< tt }

pub read-turn : (s : List ℕ) (at k i n : ℕ) → ((j : ℕ) → get_or s j 0 < 256) → i < k → Read i s at n → Read (i + 1) s at (n * 256 + get_or (part s at k) i 0)
unfolding num
read-turn s at k i n h l r = rw (add-one i) record {
  value = rw (r.value, part-at s at k i l) refl;
  bound = omega (arith, pow-suc 256 i, r.bound, byte s at k i h l);
}

-- seven bytes leave room for an eighth
pub seven : (i n : ℕ) → n < 256 ^ i → i < 8 → n < 72057594037927936
seven i n l m = omega (arith, l, pow-le-pow_right {n = 256} (lit< tt) {i = i} {j = 7} (omega arith))

-- ---- put: the bytes that are still to be written, from the last to the first, on top of those that are

-- a store behind a run of stores may come before it
set-behind : (l : List ℕ) (at k b : ℕ) (xs : List ℕ) → length xs ≤ k → set (sets l at xs) (at + k) b ≡ sets (set l (at + k) b) at xs
set-behind l at k b [] m = refl
set-behind l at k b (x ∷ xs) m =
    let e : at + k ≡ suc at + (k - 1) = omega arith in
    rw (set_comm l (at + k) at b x (λ f. omega (arith, f))) (rw e (set-behind (set l at x) (suc at) (k - 1) b xs (omega arith)))

pub put-turn : (l out : List ℕ) (at k n : ℕ) → 0 < k → sets out at (be k n) ≡ l → sets (set out (at + (k - 1)) (n % 256)) at (be (k - 1) (n / 256)) ≡ l
unfolding be
put-turn l out at zero n m e = absurd (omega arith)
put-turn l out at (suc k) n m e =
    let o : suc k - 1 ≡ k = omega arith in
    rw o (sym (set-behind out at k (n % 256) (be k (n / 256)) (omega (arith, length-be k (n / 256))))
    ∙ sym (sets-append out at (be k (n / 256)) (n % 256 ∷ []) ∙ rw (length-be k (n / 256)) refl) ∙ e)

pub put-done : (l out : List ℕ) (at k n : ℕ) → k ≤ 0 → sets out at (be k n) ≡ l → out ≡ l
unfolding be
put-done l out at zero n m e = e
put-done l out at (suc k) n m e = absurd (omega arith)

-- Numbers in the machine's layout: read back as they were written; two puts in a row are one; a turn of the loop over values. Assumes nothing.
use mathlib.Core.Path.{◌≡◌, refl, sym, ap, ◌∙◌}
use Prim.Native.Nat.{ℕ, zero, suc, ◌+◌, ◌*◌, ◌^◌, ◌-◌, ◌/◌, ◌%◌, ◌≤◌, ◌<◌}
use native.Mathlib.Nat.{pow-suc, div-one, div-add-mod', div-lt_iff_lt-mul, div-div-eq-div-mul}
use native.Mathlib.Omega.{arith}
use mathlib.Core.List.{List, [], ◌∷◌, ◌++◌, append_assoc}
use lib.ListN.{length, take, get_or, drop, length-append}
use lib.Seq.{sets-eq}
use lib.Dec.{lit<}
use borrow.Rule.Slice.PartMut.{put_mid, Post-is}
use Rattle.std.specs.Int.{w64, byte_at, bytes_low_first, to_le_bytes}
use Rattle.std.specs.List.{flat_map}
use Rattle.std.proofs.lemmas.List.{take_more, flat_map_more}
use Rattle.numbers.proofs.Laws.{sets-append}
use Rattle.player.specs.Layout.{le, value, words}
use Rattle.player.specs.Wrote.{Wrote}

-- ---- numbers

pub value-le : (k n : ℕ) → n < 256 ^ k → value (le k n) ≡ n
unfolding le value
value-le zero n h = omega arith
value-le (suc k) n h = rw (value-le k (n / 256) ((div-lt_iff_lt-mul (lit< tt)).1 (omega (arith, pow-suc 256 k)))) (omega (arith, div-add-mod' n 256))

length-le : (k n : ℕ) → length (le k n) ≡ k
unfolding le
length-le zero n = refl
length-le (suc k) n = ap suc (length-le k (n / 256))

pub length-words : (xs : List ℕ) → length (words xs) ≡ 8 * length xs
unfolding words
length-words [] = refl
length-words (x ∷ xs) = length-append (le 8 x) (words xs) ∙ rw (length-le 8 x, length-words xs) (omega arith)

words_append : (xs ys : List ℕ) → words (xs ++ ys) ≡ words xs ++ words ys
unfolding words
words_append [] ys = refl
words_append (x ∷ xs) ys = rw (words_append xs ys) (sym (append_assoc (le 8 x) (words xs) (words ys)))

-- the library's bytes of a number are the layout's
byte-at : (i n : ℕ) → byte_at i n ≡ n / 256 ^ i % 256
byte-at zero n = rw div-one refl
byte-at (suc i) n = refl

low-first : (i k n : ℕ) → bytes_low_first i k n ≡ le k (n / 256 ^ i)
unfolding le
low-first i zero n = refl
low-first i (suc k) n = rw (byte-at i n, low-first (suc i) k n, pow-suc 256 i, ← div-div-eq-div-mul n (256 ^ i) 256) refl

-- ---- puts

pub number-put : (o : List ℕ) (at n : ℕ) (bytes : List ℕ) → at + 8 ≤ length o → bytes ≡ to_le_bytes w64 n
    → Wrote o at (n ∷ []) (put_mid at (at + 8 - at) o bytes) (at + 8)
unfolding words le
number-put o at n bytes h e =
    let ws : List ℕ = words (n ∷ []) in
    let b : bytes ≡ ws = e ∙ low-first 0 8 n ∙ ap (le 8) (div-one n) in
    record {
      out = rw (Post-is at (at + 8) o (omega arith), b, ← append_assoc (take at o) ws (drop (at + 8) o)) (sym (sets-eq ws o at h));
      past = refl;
    }

-- two puts in a row are one
pub then : {o xs o₁ ys o₂ : List ℕ} {at a₁ a₂ : ℕ} → Wrote o at xs o₁ a₁ → Wrote o₁ a₁ ys o₂ a₂ → Wrote o at (xs ++ ys) o₂ a₂
then {o} {xs} {o₁} {ys} {o₂} {at} {a₁} {a₂} p q =
    let e : a₁ ≡ at + length (words xs) = omega (arith, p.past, length-words xs) in
    record {
      out = q.out ∙ rw (p.out, e, words_append xs ys) (sym (sets-append o at (words xs) (words ys)));
      past = rw length-append (omega (arith, p.past, q.past));
    }

-- ---- the loop over values

pub none : (o : List ℕ) (at : ℕ) → Wrote o at [] o at
unfolding words
none o at = record { out = refl; past = omega arith }

-- a turn
pub again : {X : Type 0} (f : X → List ℕ) (xs : List X) (i : ℕ) (x : X) {o o₁ o₂ : List ℕ} {at a₁ a₂ : ℕ} → i < length xs → x ≡ get_or xs i x
    → Wrote o at (flat_map f (take i xs)) o₁ a₁ → Wrote o₁ a₁ (f x) o₂ a₂ → Wrote o at (flat_map f (take (i + 1) xs)) o₂ a₂
again f xs i x h e p q =
    let more : take (i + 1) xs ≡ take i xs ++ (x ∷ []) = take_more xs i x h ∙ ap (λ y. take i xs ++ (y ∷ [])) (sym e) in
    rw (more, ← flat_map_more f [] (take i xs) x) (then p q)

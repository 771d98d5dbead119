-- Big-endian numbers: of joined widths, of parts of a list, below their power of 256, and read back as they were written; one law for every
-- width. Assumes nothing.
use mathlib.Core.Path.{◌≡◌, refl, sym, ◌∙◌}
use Prim.Native.Nat.{ℕ, zero, suc, ◌+◌, ◌*◌, ◌^◌, ◌/◌, ◌%◌, ◌≤◌, ◌<◌}
use native.Mathlib.Nat.{add-zero, add-suc, suc-add, add_assoc, mul_assoc, pow-suc, pow-succ', mod-lt, mul-le-mul_right, div-one, div-add-mod', div-lt_iff_lt-mul, div-div-eq-div-mul}
use native.Mathlib.Numerals.{add-one}
use native.Mathlib.Omega.{arith}
use mathlib.Core.List.{List, [], ◌∷◌, ◌++◌, append_assoc, append-nil}
use lib.ListN.{length, take, drop, set, get_or, length-append, get_or-append}
use lib.Seq.{sets, slice, get_or-append-add, get_or-take, get_or-drop, get_or_at}
use lib.Dec.{lit<}
use lib.Pow.{pow-add}
use Rattle.numbers.specs.Big.{num, be}
use Rattle.numbers.specs.Read.{Read}

-- ---- numbers

pub num-add : (j k : ℕ) (s : List ℕ) (at : ℕ) → num (j + k) s at ≡ num j s at * 256 ^ k + num k s (at + j)
unfolding num
num-add j zero s at = rw (add-zero j) (omega arith)
num-add j (suc k) s at = rw (add-suc, num-add j k s at, pow-suc, ← mul_assoc, ← add_assoc at j k) (omega arith)

-- the same bytes are the same number
pub num-same : (k : ℕ) (s t : List ℕ) (at from : ℕ) → ((i : ℕ) → i < k → get_or s (at + i) 0 ≡ get_or t (from + i) 0) → num k s at ≡ num k t from
unfolding num
num-same zero s t at from h = refl
num-same (suc k) s t at from h = rw (num-same k s t at from (λ i l. h i (omega arith)), h k (omega arith))

pub num-append : (k : ℕ) (h r : List ℕ) (at : ℕ) → at + k ≤ length h → num k (h ++ r) at ≡ num k h at
num-append k h r at l = num-same k (h ++ r) h at at (λ i m. get_or-append h r 0 (at + i) (omega arith))

pub num-after : (k : ℕ) (h r : List ℕ) (at : ℕ) → num k (h ++ r) (length h + at) ≡ num k r at
num-after k h r at = num-same k (h ++ r) r (length h + at) at (λ i m. rw add_assoc (get_or-append-add h r (at + i) 0))

pub num-drop : (k n : ℕ) (s : List ℕ) (at : ℕ) → num k (drop n s) at ≡ num k s (n + at)
num-drop k n s at = num-same k (drop n s) s at (n + at) (λ i m. rw add_assoc (get_or-drop n s (at + i) 0))

pub num-take : (k n : ℕ) (s : List ℕ) (at : ℕ) → at + k ≤ n → num k (take n s) at ≡ num k s at
num-take k n s at l = num-same k (take n s) s at at (λ i m. get_or-take n s (at + i) 0 (omega arith))

pub num-slice : (k : ℕ) (s : List ℕ) (from to at : ℕ) → from + at + k ≤ to → num k (slice from to s) at ≡ num k s (from + at)
num-slice k s from to at l = num-drop k from (take to s) at ∙ num-take k to s (from + at) l

pub num-lt : (k : ℕ) (s : List ℕ) (at : ℕ) → ((i : ℕ) → get_or s i 0 < 256) → num k s at < 256 ^ k
unfolding num
num-lt zero s at h = lit< tt
num-lt (suc k) s at h = omega (arith, pow-suc 256 k, num-lt k s at h, h (at + k))

-- two readers in a row are one
pub read-add : (j k : ℕ) {s : List ℕ} {at a b : ℕ} → Read j s at a → Read k s (at + j) b → Read (j + k) s at (a * 256 ^ k + b)
read-add j k {s} {at} {a} {b} p q = record {
  value = rw (p.value, q.value) (sym (num-add j k s at));
  bound = rw pow-add (omega (arith, p.bound, q.bound, mul-le-mul_right (256 ^ k) p.bound));
}

-- ---- bytes

pub length-be : (k n : ℕ) → length (be k n) ≡ k
unfolding be
length-be zero n = refl
length-be (suc k) n = length-append (be k (n / 256)) (n % 256 ∷ []) ∙ rw (length-be k (n / 256)) (add-one k)

pub num-be : (k n : ℕ) (r : List ℕ) → n < 256 ^ k → num k (be k n ++ r) 0 ≡ n
unfolding num be
num-be zero n r h = omega arith
num-be (suc k) n r h =
    let l : n / 256 < 256 ^ k = (div-lt_iff_lt-mul (lit< tt)).1 (omega (arith, pow-suc 256 k)) in
    let e : 0 + k ≡ k = omega arith in
    rw (append_assoc (be k (n / 256)), num-be k (n / 256) (n % 256 ∷ r) l, e, get_or_at (be k (n / 256)) (n % 256) r 0 k (length-be k (n / 256))) (div-add-mod' n 256)

pub bytes-append : (xs ys : List ℕ) → ((i : ℕ) → get_or xs i 0 < 256) → ((i : ℕ) → get_or ys i 0 < 256) → (i : ℕ) → get_or (xs ++ ys) i 0 < 256
bytes-append [] ys f g i = g i
bytes-append (x ∷ xs) ys f g zero = f zero
bytes-append (x ∷ xs) ys f g (suc i) = bytes-append xs ys (λ i. f (suc i)) g i

pub be-bytes : (k n : ℕ) (i : ℕ) → get_or (be k n) i 0 < 256
unfolding be
be-bytes zero n i = lit< tt
be-bytes (suc k) n i = bytes-append (be k (n / 256)) (n % 256 ∷ []) (be-bytes k (n / 256)) last i
  where
    last : (i : ℕ) → get_or (n % 256 ∷ []) i 0 < 256
    last zero = mod-lt n (lit< tt)
    last (suc i) = lit< tt

pub be-add : (j k n : ℕ) → be (j + k) n ≡ be j (n / 256 ^ k) ++ be k n
unfolding be
be-add j zero n = rw (add-zero, div-one, append-nil)
be-add j (suc k) n =
    rw (add-suc, be-add j k (n / 256), append_assoc (be j (n / 256 / 256 ^ k)), div-div-eq-div-mul n 256 (256 ^ k), ← pow-succ' 256 k)

-- ---- runs of stores

pub sets-append : (l : List ℕ) (at : ℕ) (xs ys : List ℕ) → sets l at (xs ++ ys) ≡ sets (sets l at xs) (at + length xs) ys
sets-append l at [] ys = rw add-zero
sets-append l at (x ∷ xs) ys = sets-append (set l at x) (suc at) xs ys ∙ rw (add-suc, suc-add)

-- two writers in a row are one
pub put-add : (j k n : ℕ) (l : List ℕ) (at : ℕ) {m o : List ℕ} → m ≡ sets l at (be j (n / 256 ^ k)) → o ≡ sets m (at + j) (be k n) → o ≡ sets l at (be (j + k) n)
put-add j k n l at p q =
    q ∙ rw (p, be-add j k n, sets-append l at (be j (n / 256 ^ k)) (be k n), length-be j (n / 256 ^ k))

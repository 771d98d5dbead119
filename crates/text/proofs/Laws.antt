-- What the code's answers come to, as facts on lists and numbers. Assumes nothing.
use mathlib.Core.Path.{◌≡◌, refl, sym, ap, ◌∙◌}
use Prim.Native.Nat.{ℕ, zero, suc, ◌+◌, ◌-◌, ◌^◌, ◌/◌, ◌%◌, ◌≤◌, ◌<◌}
use native.Mathlib.Nat.{mod-lt, pow-le-pow_right}
use native.Mathlib.Numerals.{add-one}
use native.Mathlib.Omega.{arith}
use mathlib.Core.Bool.{Bool, true, false}
use mathlib.Core.List.{List, [], ◌∷◌, ◌++◌, append_assoc, append-nil}
use lib.ListN.{length, take}
use lib.Dec.{ltb, lit<}
use borrow.Author.Tests.{lt-ltb, le-ltb, ltb-true, ltb-false}
use Rattle.std.specs.Fmt as std
use Rattle.std.specs.Prelude.{cond, nat_lt, slice_index_or, Option}
use Rattle.format.specs.Report.{no_row}
use Rattle.std.specs.Str.{IsUtf8, IsAscii}
use Rattle.std.proofs.lemmas.Fmt.{AppendsLastDigit, decimal_from_appends, length-decimal-le}
use Rattle.std.proofs.lemmas.Str.{IsUtf8-from_ascii, IsAscii-append}
use Rattle.std.proofs.lemmas.Str.Ascii.{IsAscii-nil}
use Rattle.io.specs.Digits.{last_digits, hex_digit_ascii, IsDigitCount}
use Rattle.format.specs.declared.Row.{Row}
use Rattle.arrayvec.specs.ArrayString.{ArrayString}
use Rattle.text.specs.Adds.{Adds}
use Rattle.text.specs.Number.{decimal_by, decimal, hex8}
use Rattle.text.specs.Laid.{Laid}
use Rattle.text.specs.Text.{row_line, row_lines}

-- ---- pieces

-- one piece, then the next
pub then : {o p q : ArrayString} {s t : List ℕ} {k n : ℕ} → Adds o p s k → Adds p q t n → Adds o q (s ++ t) (k + n)
then {o} {p} {q} {s} {t} h g = record { bytes = g.bytes ∙ rw h.bytes (append_assoc o.bytes s t); len = omega (arith, h.len, g.len) }

-- ---- numbers

appends : AppendsLastDigit decimal_by
unfolding decimal_by
appends = record { one = λ k n h. rw (lt-ltb n 10 h) refl; more = λ k n h. rw (le-ltb n 10 h) refl }

-- what std writes of a number
pub decimal_text : (n : ℕ) → n < 2 ^ 64 → std.decimal n ≡ decimal n
unfolding decimal
decimal_text n h = sym (decimal_from_appends decimal_by appends 20 n h (length-decimal-le 20 n (omega arith) (omega arith) h))

-- eight digits hold 32 bits
eight : (m k : ℕ) → m < 4294967296 → IsDigitCount 16 8 m k → (b : Bool) → ltb 8 k ≡ b → k ≡ 8
eight m k h w true e =
    let big : 16 ^ (k - 1) ≤ m = w.2 (ltb-true 8 k e) in
    let more : 16 ^ 8 ≤ 16 ^ (k - 1) = pow-le-pow_right (lit< tt) {i = 8} (omega (arith, ltb-true 8 k e)) in
    absurd (omega arith)
eight m k h w false e = omega (arith, ltb-false 8 k e, w.0)

pub hex_length : (n k : ℕ) → IsDigitCount 16 8 (n % 4294967296) k → k ≡ 8
hex_length n k w = eight (n % 4294967296) k (mod-lt n (lit< tt)) w (ltb 8 k) refl

pub hex_text : (n k : ℕ) → k ≡ 8 → last_digits 16 k (n % 4294967296) ≡ hex8 n
unfolding hex8
hex_text n k e = ap (λ (j : ℕ). last_digits 16 j (n % 4294967296)) e

-- digits are text
digit : (d : ℕ) → d < 16 → hex_digit_ascii d < 128
digit d h = go (nat_lt d 10)
  where
    go : (b : Bool) → cond b (48 + d) (87 + d) < 128
    go true = omega arith
    go false = omega arith

last : {c : ℕ} → c < 128 → IsAscii (c ∷ [])
last h zero = h
last h (suc i) = omega arith

digits : (k n : ℕ) → IsAscii (last_digits 16 k n)
digits zero n = IsAscii-nil
digits (suc k) n = IsAscii-append (last_digits 16 k (n / 16)) _ (digits k (n / 16)) (last (digit (n % 16) (mod-lt n (lit< tt))))

pub hex_utf8 : (n k : ℕ) (d : List ℕ) → take k d ≡ last_digits 16 k n → IsUtf8 (take k d)
hex_utf8 n k d e = IsUtf8-from_ascii (take k d) (rw e (digits k n))

-- ---- rows

-- one row more
one-more : (rows : List Row) (i : ℕ) → i < length rows → row_lines (take (suc i) rows) ≡ row_lines (take i rows) ++ row_line (slice_index_or rows i no_row)
unfolding row_lines
one-more [] i h = absurd (omega arith)
one-more (x ∷ rows) zero h = append-nil (row_line x)
one-more (x ∷ rows) (suc i) h = rw (one-more rows i (omega arith)) (sym (append_assoc (row_line x) _ _))

pub lines_more : (rows : List Row) (i : ℕ) → i < length rows → row_lines (take (i + 1) rows) ≡ row_lines (take i rows) ++ row_line (slice_index_or rows i no_row)
lines_more rows i h = rw add-one (one-more rows i h)

-- ---- the whole

-- one answer for one input
pub laid-once : {s o p q : List ℕ} {b c : Option ℕ} → Laid s o p b → Laid s o q c → (p ≡ q) × (b ≡ c)
laid-once h k = (h.bytes ∙ sym k.bytes, h.size ∙ sym k.size)

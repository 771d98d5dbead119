-- What field_fault and field_verdict say of each kind: the tests that the kind has, in number order. Assumes nothing.
use mathlib.Core.Path.{◌≡◌, ap}
use Prim.Native.Nat.{ℕ, ◌+◌, ◌-◌, ◌%◌, ◌≤◌}
use native.Mathlib.Omega.{arith}
use mathlib.Core.Bool.{Bool}
use mathlib.Core.List.{List}
use lib.ListN.{length, take, drop}
use lib.Dec.{ltb, eqb}
use Rattle.std.specs.Prelude.{Ok}
use Rattle.numbers.specs.Choice.{pick}
use Rattle.numbers.specs.Big.{num}
use Rattle.numbers.specs.Read.{Read}
use Rattle.strings.specs.Headers.{textual}
use Rattle.format.specs.declared.Kind.TheVariants.{Ftyp, Odrm, Odrb, Odhe, Ohdr, Odda, Mdri, Odtt, Udta, Other}
use Rattle.format.specs.declared.PlaintextLength.{PlaintextLength}
use Rattle.format.specs.Numbers.{unless_broken}
use Rattle.format.specs.Kinds.{ODCF, fields_length, kind_number, same_kind}
use Rattle.format.specs.Judge.{ragged, cut, newer, takes, outside, wrong_method, wrong_length, malformed, agrees, wrong_data}
use Rattle.format.specs.Fields.{textual_headers, data_length}
use Rattle.format.proofs.Slices.{part_slice}
use Rattle.fields.specs.Fault.{field_fault, field_verdict}

-- ---- kinds with fields

pub fault_of_ftyp : (m : ℕ) (p : PlaintextLength) (b : List ℕ) → field_fault Ftyp m p b ≡ pick (ltb (length b) 8) 7 (pick (eqb (length b % 4) 0) (pick (eqb (num 4 b 0) ODCF) 0 8) 7)
unfolding field_fault fields_length cut ragged newer wrong_method wrong_length malformed wrong_data same_kind kind_number
fault_of_ftyp m p b = grind arith

pub fault_of_odrm : (m : ℕ) (p : PlaintextLength) (b : List ℕ) → field_fault Odrm m p b ≡ pick (ltb (length b) 4) 7 (pick (eqb (num 1 b 0) 0) 0 8)
unfolding field_fault fields_length cut ragged newer wrong_method wrong_length malformed wrong_data same_kind kind_number
fault_of_odrm m p b = grind arith

pub fault_of_odrb : (m : ℕ) (p : PlaintextLength) (b : List ℕ) → field_fault Odrb m p b ≡ pick (ltb (length b) 4) 7 (pick (eqb (num 1 b 0) 0) 0 8)
unfolding field_fault fields_length cut ragged newer wrong_method wrong_length malformed wrong_data same_kind kind_number
fault_of_odrb m p b = grind arith

pub fault_of_odhe : (m : ℕ) (p : PlaintextLength) (b : List ℕ) → field_fault Odhe m p b ≡ pick (ltb (length b) (5 + num 1 b 4)) 7 (pick (eqb (num 1 b 0) 0) (pick (outside 255 (num 1 b 4)) 10 0) 8)
unfolding field_fault fields_length cut ragged newer wrong_method wrong_length malformed wrong_data same_kind kind_number
fault_of_odhe m p b = grind arith

pub fault_of_ohdr : (m : ℕ) (p : PlaintextLength) (b : List ℕ) → field_fault Ohdr m p b ≡ pick (ltb (length b) (20 + num 2 b 14 + num 2 b 16 + num 2 b 18)) 7
    (pick (eqb (num 1 b 0) 0) (pick (takes (num 1 b 4) (num 1 b 5)) (pick (outside 256 (num 2 b 14)) 10 (pick (textual (textual_headers b)) 0 11)) 9) 8)
unfolding field_fault fields_length cut ragged newer wrong_method wrong_length malformed wrong_data same_kind kind_number
fault_of_ohdr m p b = grind arith

pub fault_of_odda : (m : ℕ) (p : PlaintextLength) (b : List ℕ) → field_fault Odda m p b ≡ pick (ltb (length b) 12) 7
    (pick (eqb (num 1 b 0) 0) (pick (ltb (length b) (12 + num 8 b 4)) 12 (pick (agrees m p (data_length b)) 0 12)) 8)
unfolding field_fault fields_length cut ragged newer wrong_method wrong_length malformed wrong_data same_kind kind_number
fault_of_odda m p b = grind arith

pub fault_of_odtt : (m : ℕ) (p : PlaintextLength) (b : List ℕ) → field_fault Odtt m p b ≡ pick (eqb (length b) 20) (pick (eqb (num 1 b 0) 0) 0 8) 7
unfolding field_fault fields_length cut ragged newer wrong_method wrong_length malformed wrong_data same_kind kind_number
fault_of_odtt m p b = grind arith

-- the textual headers stand after ContentID and issuer, up to the end of the fields
pub headers_read : {b : List ℕ} {i u n : ℕ} {r : Bool} → Read 2 b 14 i → Read 2 b 16 u → Read 2 b 18 n → 20 + i + u + n ≤ length b
    → r ≡ textual (take (20 + i + u + n - (20 + i + u)) (drop (20 + i + u) b)) → r ≡ textual (textual_headers b)
headers_read {b} {i} {u} {n} p q s l e =
    rw (← p.value, ← q.value, ← s.value, ← part_slice (20 + i + u) (20 + i + u + n) b (omega arith)) e

-- ---- kinds without fields break nothing

pub fault_of_mdri : (m : ℕ) (p : PlaintextLength) (b : List ℕ) → field_fault Mdri m p b ≡ 0
unfolding field_fault fields_length cut ragged newer wrong_method wrong_length malformed wrong_data same_kind kind_number
fault_of_mdri m p b = grind arith

pub fault_of_udta : (m : ℕ) (p : PlaintextLength) (b : List ℕ) → field_fault Udta m p b ≡ 0
unfolding field_fault fields_length cut ragged newer wrong_method wrong_length malformed wrong_data same_kind kind_number
fault_of_udta m p b = grind arith

pub fault_of_other : (m : ℕ) (p : PlaintextLength) (b : List ℕ) → field_fault Other m p b ≡ 0
unfolding field_fault fields_length cut ragged newer wrong_method wrong_length malformed wrong_data same_kind kind_number
fault_of_other m p b = grind arith

pub verdict_of_mdri : (m : ℕ) (p : PlaintextLength) (b : List ℕ) → field_verdict Mdri m p b ≡ Ok tt
unfolding field_verdict
verdict_of_mdri m p b = ap (λ (n : ℕ). unless_broken n tt) (fault_of_mdri m p b)

pub verdict_of_udta : (m : ℕ) (p : PlaintextLength) (b : List ℕ) → field_verdict Udta m p b ≡ Ok tt
unfolding field_verdict
verdict_of_udta m p b = ap (λ (n : ℕ). unless_broken n tt) (fault_of_udta m p b)

pub verdict_of_other : (m : ℕ) (p : PlaintextLength) (b : List ℕ) → field_verdict Other m p b ≡ Ok tt
unfolding field_verdict
verdict_of_other m p b = ap (λ (n : ℕ). unless_broken n tt) (fault_of_other m p b)

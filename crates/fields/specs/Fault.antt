-- The first of the numbers 7 to 12 that the fields of a box break, of the bytes b after its header. Assumes nothing.
use Rattle.std.specs.Prelude.{ℕ, List, length, Result}
use Rattle.numbers.specs.Choice.{pick}
use Rattle.format.specs.declared.Kind.{Kind}
use Rattle.format.specs.declared.PlaintextLength.{PlaintextLength}
use Rattle.format.specs.declared.Rule.{Rule}
use Rattle.format.specs.Numbers.{unless_broken}
use Rattle.format.specs.Judge.{cut, newer, wrong_method, wrong_length, malformed, wrong_data}

-- m and p are the method and the plaintext length of the container's ohdr, which an odda's data length must agree with
unfoldable pub field_fault : Kind → ℕ → PlaintextLength → List ℕ → ℕ
field_fault k m p b =
    pick (cut k (length b) b) 7
    (pick (newer k b) 8
    (pick (wrong_method k b) 9
    (pick (wrong_length k b) 10
    (pick (malformed k b) 11
    (pick (wrong_data k (length b) m p b) 12 0)))))

-- nothing, or the rule of that number
unfoldable pub field_verdict : Kind → ℕ → PlaintextLength → List ℕ → Result (Unit {0}) Rule
field_verdict k m p b = unless_broken (field_fault k m p b) tt

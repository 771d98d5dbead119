-- What is read of a header, of the bytes b that are left of its run. Assumes nothing.
use Rattle.std.specs.Prelude.{ℕ, Bool, List, length, ltb, eqb, Result, Ok, Err}
use Rattle.numbers.specs.Choice.{pick, both, either}
use Rattle.format.specs.declared.Place.{Place}
use Rattle.format.specs.declared.Rule.{Rule}
use Rattle.format.specs.declared.Rule.TheVariants.{BadSize, PastParent}
use Rattle.format.specs.Numbers.{unless_broken}
use Rattle.format.specs.Kinds.{ODDA}
use Rattle.format.specs.Header.{header_length, size_of, type_of, header_fault}
use Rattle.boxes.specs.declared.Head.{Head}

abbrev pub head : ℕ → ℕ → ℕ → Head
head size skip boxtype = record { size = size; skip = skip; boxtype = boxtype }

-- number 3, of a size, the header's length and the type
abbrev pub wrong_size : ℕ → ℕ → ℕ → Bool
wrong_size size skip boxtype = either (ltb size skip) (both (eqb boxtype ODDA) (eqb skip 8))

-- of a run with `left` bytes, which hold the header
unfoldable pub sized_head : ℕ → ℕ → ℕ → ℕ → Result Head Rule
sized_head left size skip boxtype =
    pick (wrong_size size skip boxtype) (Err BadSize) (pick (ltb left size) (Err PastParent) (Ok (head size skip boxtype)))

-- the rule that the header breaks, or its size, its own length and its type
unfoldable pub head_in : Place → List ℕ → Result Head Rule
head_in c b = unless_broken (header_fault c b) (head (size_of c (length b) b) (header_length b) (type_of b))

-- Textual headers (document 01, Boxes): entries ended by a zero byte: a name of one or more token characters, a colon, a value
-- without zero bytes; an empty field has no entries. Assumes nothing.
use Rattle.std.specs.Prelude.{◌≡◌, ℕ, ◌+◌, ◌≤◌, Bool, true, false, List, [], ◌∷◌, ◌++◌, length, eqb, Option, Some, None}
use Rattle.numbers.specs.Choice.{pick}
use Rattle.strings.specs.Characters.{token, same_name}
use Rattle.strings.specs.declared.Part.{Part}
use Rattle.strings.specs.declared.Part.TheVariants.{Start, Name, Value, Bad}

-- every element of a list is such
abbrev pub Each : {A : Type 0} → (A → Type 0) → List A → Type 0
Each P [] = Unit {0}
Each P (x ∷ xs) = P x × Each P xs

pub record Entry : Type 0 where
  pub name : List ℕ
  pub value : List ℕ

pub record GoodEntry (e : Entry) : Type 0 where
  pub named : 1 ≤ length e.name
  pub tokens : Each (λ x. token x ≡ true) e.name
  pub filled : Each (λ x. x ≡ 0 → ⊥) e.value

-- the bytes of an entry: name, colon, value, zero byte
abbrev pub entry_bytes : Entry → List ℕ
entry_bytes e = e.name ++ (58 ∷ (e.value ++ (0 ∷ [])))

abbrev pub field_of : List Entry → List ℕ
field_of [] = []
field_of (e ∷ es) = entry_bytes e ++ field_of es

-- a field that is the bytes of good entries
pub record Textual (s : List ℕ) : Type 0 where
  pub entries : List Entry
  pub good : Each GoodEntry entries
  pub bytes : s ≡ field_of entries

-- ---- the same as a test, a byte at a time: which part of an entry the next byte is in

unfoldable pub next : Part → ℕ → Part
next Start x = pick (token x) Name Bad
next Name x = pick (token x) Name (pick (eqb x 58) Value Bad)
next Value x = pick (eqb x 0) Start Value
next Bad x = Bad

unfoldable pub after : Part → List ℕ → Part
after p [] = p
after p (x ∷ xs) = after (next p x) xs

abbrev pub is_start : Part → Bool
is_start Start = true
is_start Name = false
is_start Value = false
is_start Bad = false

-- whether a field is well formed
unfoldable pub textual : List ℕ → Bool
textual s = is_start (after Start s)

-- ---- where a byte is first, or the length where it is nowhere

unfoldable pub index : ℕ → List ℕ → ℕ
index z [] = 0
index z (x ∷ xs) = pick (eqb x z) 0 (index z xs + 1)

-- ---- the value of the first entry of a name: where it starts, counted from the field's start, and its length

unfoldable pub lookup : List ℕ → List Entry → ℕ → Option (ℕ × ℕ)
lookup name [] at = None
lookup name (e ∷ es) at =
    pick (same_name e.name name) (Some (at + length e.name + 1, length e.value))
    (lookup name es (at + length (entry_bytes e)))

-- an answer that is the lookup's, for the good entries that the field is the bytes of
pub record Answers (field name : List ℕ) (r : Option (ℕ × ℕ)) : Type 0 where
  pub said : (es : List Entry) → Each GoodEntry es → field ≡ field_of es → r ≡ lookup name es 0

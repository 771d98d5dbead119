-- Document 01, "Numbers given back": the number of each rule, and the rule of each number. Assumes nothing.
use Rattle.std.specs.Prelude.{ℕ, List, [], ◌∷◌, get_or, eqb, Result, Ok, Err}
use Rattle.numbers.specs.Choice.{pick}
use Rattle.format.specs.declared.Rule.{Rule}
use Rattle.format.specs.declared.Rule.TheVariants.{Done, FileTooLong, NoHeader, BadSize, PastParent, NoRow, WrongPlace, FieldsCut, BadVersion, BadMethod, BadLength, BadHeaders, BadData, SameContentId, NoMdri, RightsLength, NoRoom, NoRights, NoOdtt, BadRoom, OutputTooShort, NoContainer, NoTextualHeader}

abbrev pub number_of : Rule → ℕ
number_of Done = 0
number_of FileTooLong = 1
number_of NoHeader = 2
number_of BadSize = 3
number_of PastParent = 4
number_of NoRow = 5
number_of WrongPlace = 6
number_of FieldsCut = 7
number_of BadVersion = 8
number_of BadMethod = 9
number_of BadLength = 10
number_of BadHeaders = 11
number_of BadData = 12
number_of SameContentId = 13
number_of NoMdri = 14
number_of RightsLength = 15
number_of NoRoom = 16
number_of NoRights = 17
number_of NoOdtt = 18
number_of BadRoom = 19
number_of OutputTooShort = 20
number_of NoContainer = 21
number_of NoTextualHeader = 22

-- the rules in the order of their numbers
abbrev pub rules : List Rule
rules =
    Done ∷ FileTooLong ∷ NoHeader ∷ BadSize ∷ PastParent ∷ NoRow ∷ WrongPlace ∷ FieldsCut ∷ BadVersion ∷ BadMethod ∷ BadLength ∷ BadHeaders ∷ BadData
    ∷ SameContentId ∷ NoMdri ∷ RightsLength ∷ NoRoom ∷ NoRights ∷ NoOdtt ∷ BadRoom ∷ OutputTooShort ∷ NoContainer ∷ NoTextualHeader ∷ []

unfoldable pub rule_of : ℕ → Rule
rule_of n = get_or rules n Done

-- an answer where the number of the rule that is broken is none; else the rule
abbrev pub unless_broken : {A : Type 0} → ℕ → A → Result A Rule
unless_broken n x = pick (eqb n 0) (Ok x) (Err (rule_of n))

-- The table of kinds (document 01, Boxes): what follows a header, and which boxes hold a run. Assumes nothing.
use Rattle.std.specs.Prelude.{ℕ, ◌+◌, Bool, true, false, List, [], ◌∷◌, eqb, ltb}
use Rattle.numbers.specs.Choice.{pick}
use Rattle.numbers.specs.Big.{num}
use Rattle.format.specs.declared.Place.{Place}
use Rattle.format.specs.declared.Place.TheVariants.{Top, InOdrm, InOdhe, InOhdr, InMdri}
use Rattle.format.specs.declared.Kind.{Kind}
use Rattle.format.specs.declared.Kind.TheVariants.{Ftyp, Odrm, Odhe, Ohdr, Odda, Mdri, Odtt, Odrb, Udta, Other}

-- ---- the four letters of each name, as one number

abbrev pub FTYP : ℕ
FTYP = 0x66747970

abbrev pub ODRM : ℕ
ODRM = 0x6f64726d

abbrev pub ODHE : ℕ
ODHE = 0x6f646865

abbrev pub OHDR : ℕ
OHDR = 0x6f686472

abbrev pub ODDA : ℕ
ODDA = 0x6f646461

abbrev pub MDRI : ℕ
MDRI = 0x6d647269

abbrev pub ODTT : ℕ
ODTT = 0x6f647474

abbrev pub ODRB : ℕ
ODRB = 0x6f647262

abbrev pub UDTA : ℕ
UDTA = 0x75647461

abbrev pub FREE : ℕ
FREE = 0x66726565

abbrev pub SKIP : ℕ
SKIP = 0x736b6970

abbrev pub ODCF : ℕ
ODCF = 0x6f646366

-- "Others" are boxes of any type but these six
abbrev pub six : List ℕ
six = FTYP ∷ ODRM ∷ ODHE ∷ OHDR ∷ ODDA ∷ MDRI ∷ []

-- ---- the table

-- an odtt and an odrb count in mdri, a udta in odhe; elsewhere they are others
unfoldable pub other_in : Place → ℕ → Kind
other_in Top t = Other
other_in InOdrm t = Other
other_in InOdhe t = pick (eqb t UDTA) Udta Other
other_in InOhdr t = Other
other_in InMdri t = pick (eqb t ODTT) Odtt (pick (eqb t ODRB) Odrb Other)

unfoldable pub kind_of : Place → ℕ → Kind
kind_of c t =
    pick (eqb t FTYP) Ftyp
    (pick (eqb t ODRM) Odrm
    (pick (eqb t ODHE) Odhe
    (pick (eqb t OHDR) Ohdr
    (pick (eqb t ODDA) Odda
    (pick (eqb t MDRI) Mdri (other_in c t))))))

-- how many of the bytes b after the header are the box's fields: what the table names, up to the run or the data
unfoldable pub fields_length : Kind → List ℕ → ℕ
fields_length Ftyp b = 8
fields_length Odrm b = 4
fields_length Odhe b = 5 + num 1 b 4
fields_length Ohdr b = 20 + num 2 b 14 + num 2 b 16 + num 2 b 18
fields_length Odda b = 12
fields_length Mdri b = 0
fields_length Odtt b = 20
fields_length Odrb b = 4
fields_length Udta b = 0
fields_length Other b = 0

unfoldable pub holds_run : Kind → Bool
holds_run Ftyp = false
holds_run Odrm = true
holds_run Odhe = true
holds_run Ohdr = true
holds_run Odda = false
holds_run Mdri = true
holds_run Odtt = false
holds_run Odrb = false
holds_run Udta = false
holds_run Other = false

-- where the boxes of its run stand
unfoldable pub inside : Kind → Place
inside Ftyp = Top
inside Odrm = InOdrm
inside Odhe = InOdhe
inside Ohdr = InOhdr
inside Odda = Top
inside Mdri = InMdri
inside Odtt = Top
inside Odrb = Top
inside Udta = Top
inside Other = Top

-- ---- kinds told apart

unfoldable pub kind_number : Kind → ℕ
kind_number Ftyp = 0
kind_number Odrm = 1
kind_number Odhe = 2
kind_number Ohdr = 3
kind_number Odda = 4
kind_number Mdri = 5
kind_number Odtt = 6
kind_number Odrb = 7
kind_number Udta = 8
kind_number Other = 9

unfoldable pub same_kind : Kind → Kind → Bool
same_kind j k = eqb (kind_number j) (kind_number k)

-- one of the six
unfoldable pub is_six : Kind → Bool
is_six k = ltb (kind_number k) 6

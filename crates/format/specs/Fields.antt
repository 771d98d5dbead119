-- The fields of a box (document 01, Boxes; OMA DCF 2.1, 5.2 and 6.3). Here f is the bytes of its fields. Assumes nothing.
use Rattle.std.specs.Prelude.{ℕ, ◌+◌, List}
use Rattle.std.proofs.Math.Seq.{slice}
use Rattle.numbers.specs.Big.{num}
use Rattle.format.specs.declared.PlaintextLength.{PlaintextLength}
use Rattle.format.specs.declared.DataLength.{DataLength}

-- ---- a full box has one version byte and three flag bytes after its header

abbrev pub version : List ℕ → ℕ
version f = num 1 f 0

abbrev pub flags : List ℕ → ℕ
flags f = num 3 f 1

-- ---- ftyp: major brand, minor version, brands

abbrev pub major_brand : List ℕ → ℕ
major_brand f = num 4 f 0

-- ---- odhe: full box, 1-byte length, ContentType

abbrev pub type_length : List ℕ → ℕ
type_length f = num 1 f 4

abbrev pub content_type : List ℕ → List ℕ
content_type f = slice 5 (5 + type_length f) f

-- ---- ohdr, after the version and flags: EncryptionMethod 1 byte, PaddingScheme 1, PlaintextLength 8, then the lengths of ContentID,
-- RightsIssuerURL and TextualHeaders, 2 bytes each, then those three strings

abbrev pub method : List ℕ → ℕ
method f = num 1 f 4

abbrev pub padding : List ℕ → ℕ
padding f = num 1 f 5

abbrev pub plaintext : List ℕ → PlaintextLength
plaintext f = record { 0 = num 8 f 6 }

abbrev pub id_length : List ℕ → ℕ
id_length f = num 2 f 14

abbrev pub issuer_length : List ℕ → ℕ
issuer_length f = num 2 f 16

abbrev pub headers_length : List ℕ → ℕ
headers_length f = num 2 f 18

abbrev pub content_id : List ℕ → List ℕ
content_id f = slice 20 (20 + id_length f) f

abbrev pub issuer : List ℕ → List ℕ
issuer f = slice (20 + id_length f) (20 + id_length f + issuer_length f) f

abbrev pub textual_headers : List ℕ → List ℕ
textual_headers f = slice (20 + id_length f + issuer_length f) (20 + id_length f + issuer_length f + headers_length f) f

-- ---- odda: full box, 64-bit data length, data

abbrev pub data_length : List ℕ → DataLength
data_length f = record { 0 = num 8 f 4 }

-- What is reported is what the bytes hold: each box reported stands in the file. Assumes nothing.
use Rattle.std.specs.Prelude.{◌≡◌, ℕ, ◌+◌, ◌≤◌, List, length, take, drop}
use Rattle.std.proofs.Math.Seq.{slice}
use Rattle.format.specs.Kinds.{fields_length}
use Rattle.format.specs.Header.{header_length, size_of, type_of}
use Rattle.format.specs.Fields.{content_type, content_id, issuer, textual_headers, data_length}
use Rattle.format.specs.Boxes.{Box, kind, Container}
use Rattle.format.specs.Report.{summary_of, bytes_in}

-- the bytes after a box's header
abbrev pub body_in : List ℕ → Box → List ℕ
body_in s x = slice (x.at + x.skip) (x.at + x.size) s

-- at its offset stands a header of its length, size and type (left: the bytes from there to the end of the run that it stands in), and its
-- fields are the bytes after that header
pub record Stands (s : List ℕ) (x : Box) : Type 0 where
  pub left : ℕ
  pub headed : x.skip ≤ x.size
  pub within : (x.size ≤ left) × (x.at + left ≤ length s)
  pub skip : x.skip ≡ header_length (drop x.at s)
  pub size : x.size ≡ size_of x.place left (drop x.at s)
  pub type : x.type ≡ type_of (drop x.at s)
  pub fields : x.fields ≡ take (fields_length (kind x) (body_in s x)) (body_in s x)

-- what a header of the reading says stands in the file: each string's stretch holds that string, and the content is D bytes of odda
pub record HeaderStands (s : List ℕ) (c : Container) : Type 0 where
  pub content_type : bytes_in s (summary_of c).contenttype ≡ content_type c.odhe.fields
  pub content_id : bytes_in s (summary_of c).contentid ≡ content_id c.ohdr.fields
  pub issuer : bytes_in s (summary_of c).issuer ≡ issuer c.ohdr.fields
  pub textual_headers : bytes_in s (summary_of c).headers ≡ textual_headers c.ohdr.fields
  pub content : length (bytes_in s (summary_of c).content) ≡ (data_length c.odda.fields).0
  pub inside : (summary_of c).content.offset + (data_length c.odda.fields).0 ≤ c.odda.at + c.odda.size

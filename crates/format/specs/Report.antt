-- What is reported of the boxes read (document 01, Numbers given back and Worked files), and the reading in the sense of demand 3
-- (Editing inside mdri). Assumes nothing.
use Rattle.std.specs.Prelude.{ℕ, ◌+◌, ◌-◌, Bool, true, false, List, [], ◌∷◌, ◌++◌, map, length, drop, get_or, replicate, eqb}
use Rattle.std.proofs.Math.Seq.{slice}
use Rattle.numbers.specs.Choice.{pick, both, either}
use Rattle.format.specs.declared.Rule.TheVariants.{Done}
use Rattle.format.specs.declared.Place.{Place}
use Rattle.format.specs.declared.Place.TheVariants.{Top, InOdrm, InOdhe, InOhdr, InMdri}
use Rattle.format.specs.declared.Kind.TheVariants.{Odrm, Odhe, Ohdr, Odda, Mdri, Odtt, Odrb}
use Rattle.format.specs.declared.Row.{Row}
use Rattle.format.specs.declared.Full.{Full}
use Rattle.format.specs.declared.Stretch.{Stretch}
use Rattle.format.specs.declared.Summary.{Summary}
use Rattle.format.specs.declared.Reading.{Reading}
use Rattle.format.specs.Numbers.{rule_of}
use Rattle.format.specs.Kinds.{FREE, SKIP}
use Rattle.format.specs.Fields.{flags, type_length, method, padding, plaintext, id_length, issuer_length, headers_length, data_length, content_type, content_id, issuer, textual_headers}
use Rattle.format.specs.Boxes.{Box, no_box, only, Container}
use Rattle.format.specs.Judge.{Out, fault, done, last_of}

-- A row is a box's offset, size, depth (0 at the top) and type
abbrev pub row_of : Box → Row
row_of x = record { offset = x.at; size = x.size; depth = x.depth; boxtype = x.type }

abbrev pub rows : List Box → List Row
rows log = map row_of log

-- ---- summaries

-- a full box's row and flags
abbrev pub full_of : Box → Full
full_of x = record { row = row_of x; flags = flags x.fields }

-- n bytes of a box from byte k after its header on
abbrev pub stretch : Box → ℕ → ℕ → Stretch
stretch x k n = record { offset = x.at + x.skip + k; length = n }

-- A summary holds the rows and flags of odrm, odhe, ohdr and odda, then method, padding, P, D, and offset and length of ContentType, the
-- three strings and the data
abbrev pub summary_of : Container → Summary
summary_of c =
    let e : List ℕ = c.odhe.fields in
    let o : List ℕ = c.ohdr.fields in
    let d : List ℕ = c.odda.fields in
    record {
      odrm = full_of c.odrm;
      odhe = full_of c.odhe;
      ohdr = full_of c.ohdr;
      odda = full_of c.odda;
      method = method o;
      padding = padding o;
      plaintextlength = plaintext o;
      datalength = data_length d;
      contenttype = stretch c.odhe 5 (type_length e);
      contentid = stretch c.ohdr 20 (id_length o);
      issuer = stretch c.ohdr (20 + id_length o) (issuer_length o);
      headers = stretch c.ohdr (20 + id_length o + issuer_length o) (headers_length o);
      content = stretch c.odda 12 (data_length d).0;
    }

-- the first odrm with the first odhe, ohdr and odda, the second with the second, and so on
abbrev pub group : List Box → List Box → List Box → List Box → List Container
group [] es os ds = []
group (x ∷ xs) es os ds =
    record { odrm = x; odhe = get_or es 0 no_box; ohdr = get_or os 0 no_box; odda = get_or ds 0 no_box } ∷ group xs (drop 1 es) (drop 1 os) (drop 1 ds)

abbrev pub containers_in : List Box → List Container
containers_in log = group (only Odrm log) (only Odhe log) (only Ohdr log) (only Odda log)

abbrev pub no_row : Row
no_row = record { offset = 0; size = 0; depth = 0; boxtype = 0 }

abbrev pub no_full : Full
no_full = record { row = no_row; flags = 0 }

abbrev pub no_stretch : Stretch
no_stretch = record { offset = 0; length = 0 }

abbrev pub no_summary : Summary
no_summary = record {
  odrm = no_full;
  odhe = no_full;
  ohdr = no_full;
  odda = no_full;
  method = 0;
  padding = 0;
  plaintextlength = record { 0 = 0 };
  datalength = record { 0 = 0 };
  contenttype = no_stretch;
  contentid = no_stretch;
  issuer = no_stretch;
  headers = no_stretch;
  content = no_stretch;
}

-- the array of eight: a summary for each container, and 0 in the unused ones
abbrev pub eight : List Summary → List Summary
eight ss = ss ++ replicate (8 - length ss) no_summary

-- ---- counts and totals

-- short-form free space directly in mdri
abbrev pub in_mdri : Place → Bool
in_mdri Top = false
in_mdri InOdrm = false
in_mdri InOdhe = false
in_mdri InOhdr = false
in_mdri InMdri = true

abbrev pub is_free : Box → Bool
is_free x = both (in_mdri x.place) (both (either (eqb x.type FREE) (eqb x.type SKIP)) (eqb x.skip 8))

abbrev pub free_total : List Box → ℕ
free_total [] = 0
free_total (x ∷ xs) = pick (is_free x) x.size 0 + free_total xs

-- offset of mdri, 0 if none
abbrev pub mdri_at : List Box → ℕ
mdri_at log = (last_of no_box (only Mdri log)).at

-- offset of the TransactionID, after an odtt's version and flags, 0 if none
abbrev pub transaction_after : ℕ → List Box → ℕ
transaction_after n [] = n
transaction_after n (x ∷ xs) = transaction_after (x.at + x.skip + 4) xs

abbrev pub transaction_at : List Box → ℕ
transaction_at log = transaction_after 0 (only Odtt log)

-- ---- the answer: when refused, all but the refusal is 0

abbrev pub refused_by : ℕ → ℕ → Reading
refused_by k place = record {
  refusal = record { rule = rule_of k; place = place };
  boxes = 0;
  containers = 0;
  summaries = replicate 8 no_summary;
  mdri = 0;
  rights = 0;
  free = 0;
  transaction = 0;
}

abbrev pub accepted_as : List Box → Reading
accepted_as log = record {
  refusal = record { rule = Done; place = 0 };
  boxes = length log;
  containers = length (containers_in log);
  summaries = eight (map summary_of (containers_in log));
  mdri = mdri_at log;
  rights = length (only Odrb log);
  free = free_total log;
  transaction = transaction_at log;
}

unfoldable pub answer_of : Out → Reading
answer_of (fault k place) = refused_by k place
answer_of (done log) = accepted_as log

-- ---- the reading in the sense of demand 3: rows, headers with the bytes of their strings, rights objects in file order, TransactionID
-- and content; bytes inside free space are not part of it

pub record Header : Type 0 where
  pub summary : Summary
  pub content_type : List ℕ
  pub content_id : List ℕ
  pub issuer : List ℕ
  pub textual_headers : List ℕ
  pub content : List ℕ

-- the bytes of a file in a stretch
abbrev pub bytes_in : List ℕ → Stretch → List ℕ
bytes_in s p = slice p.offset (p.offset + p.length) s

abbrev pub header_of : List ℕ → Container → Header
header_of s c = record {
  summary = summary_of c;
  content_type = content_type c.odhe.fields;
  content_id = content_id c.ohdr.fields;
  issuer = issuer c.ohdr.fields;
  textual_headers = textual_headers c.ohdr.fields;
  content = bytes_in s (summary_of c).content;
}

-- the rights object of an odrb: after its version and flags, up to its end
abbrev pub rights_of : List ℕ → Box → List ℕ
rights_of s x = slice (x.at + x.skip + 4) (x.at + x.size) s

-- the 16 bytes of the TransactionID, or none
abbrev pub transaction_of : List Box → List ℕ
transaction_of [] = []
transaction_of (x ∷ xs) = drop 4 x.fields

pub record Lesson : Type 0 where
  pub rows : List Row
  pub headers : List Header
  pub rights : List (List ℕ)
  pub transaction : List ℕ

abbrev pub lesson_of : List ℕ → List Box → Lesson
lesson_of s log = record {
  rows = rows log;
  headers = map (header_of s) (containers_in log);
  rights = map (rights_of s) (only Odrb log);
  transaction = transaction_of (only Odtt log);
}

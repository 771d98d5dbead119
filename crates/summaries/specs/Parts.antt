-- What is read of a container on the way to its summary. Assumes nothing.
use Rattle.std.specs.Prelude.{◌≡◌, ℕ, ◌+◌, List}
use Rattle.numbers.specs.Big.{num}
use Rattle.format.specs.declared.Kind.{Kind}
use Rattle.format.specs.declared.Stretch.{Stretch}
use Rattle.format.specs.Fields.{type_length}
use Rattle.format.specs.Boxes.{Box, Container}
use Rattle.format.specs.Report.{full_of, stretch}
use Rattle.summaries.specs.Contained.{Opens}
use Rattle.summaries.specs.declared.Opened.{Opened}
use Rattle.summaries.specs.declared.Four.{Four}
use Rattle.summaries.specs.declared.CommonHeaders.{CommonHeaders}

abbrev pub opened_of : Box → Opened
opened_of x = record { full = full_of x; fields = x.at + x.skip; end = x.at + x.size }

-- what is read at an offset is any full box that stands there
abbrev pub Opening : List ℕ → ℕ → ℕ → Opened → Type 0
Opening s at depth r = (k : Kind) (x : Box) → Opens s k at depth x → r ≡ opened_of x

abbrev pub four_of : Container → Four
four_of c = record {
  odrm = full_of c.odrm;
  odhe = full_of c.odhe;
  ohdr = full_of c.ohdr;
  odda = full_of c.odda;
  contenttype = stretch c.odhe 5 (type_length c.odhe.fields);
  ohdrfields = c.ohdr.at + c.ohdr.skip;
  oddafields = c.odda.at + c.odda.skip;
}

-- of an ohdr whose fields start at an offset of s, what they say after its version and flags, and where they end
abbrev pub headers_in : List ℕ → ℕ → CommonHeaders
headers_in s at =
    let id : ℕ = num 2 s (at + 14) in
    let issuer : ℕ = num 2 s (at + 16) in
    record {
      method = num 1 s (at + 4);
      padding = num 1 s (at + 5);
      plaintextlength = record { 0 = num 8 s (at + 6) };
      contentid = record { offset = at + 20; length = id };
      issuer = record { offset = at + 20 + id; length = issuer };
      headers = record { offset = at + 20 + id + issuer; length = num 2 s (at + 18) };
    }

abbrev pub headers_end : List ℕ → ℕ → ℕ
headers_end s at = at + 20 + num 2 s (at + 14) + num 2 s (at + 16) + num 2 s (at + 18)

-- of an odda whose fields start at an offset of s: the data stands behind them, and is as long as they say
pub record ContentIn (s : List ℕ) (at : ℕ) (r : Stretch) : Type 0 where
  pub offset : r.offset ≡ at + 12
  pub length : r.length ≡ num 8 s (at + 4)

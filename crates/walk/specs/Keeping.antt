-- What the walk keeps of the boxes that it has read: how many, a tally, the offset of each odrm and the stretch of each ContentID; and a row
-- for each box in a lent slice. Assumes nothing.
use Rattle.std.specs.Prelude.{◌≡◌, ℕ, ◌+◌, ◌≤◌, Bool, List, map, length, take, set, eqb}
use Rattle.numbers.specs.Choice.{pick, both, either}
use Rattle.format.specs.declared.Place.{Place}
use Rattle.format.specs.declared.Kind.{Kind}
use Rattle.format.specs.declared.Kind.TheVariants.{Odrm, Ohdr, Mdri, Odtt, Odrb}
use Rattle.format.specs.declared.Row.{Row}
use Rattle.format.specs.declared.Stretch.{Stretch}
use Rattle.format.specs.Kinds.{FREE, SKIP, same_kind}
use Rattle.format.specs.Fields.{method, plaintext, id_length}
use Rattle.format.specs.Boxes.{Box, only}
use Rattle.format.specs.Judge.{ids, last_ohdr}
use Rattle.format.specs.Report.{rows, free_total, mdri_at, transaction_at, in_mdri, bytes_in}
use Rattle.boxes.specs.declared.Head.{Head}
use Rattle.walk.specs.declared.Kept.{Kept}
use Rattle.walk.specs.declared.Tally.{Tally}

-- ---- the tally

abbrev pub tally_of : List Box → Tally
tally_of log = record {
  containers = length (only Odrm log);
  headers = length (only Ohdr log);
  method = method (last_ohdr log);
  plaintext = plaintext (last_ohdr log);
  mdri = mdri_at log;
  rights = length (only Odrb log);
  free = free_total log;
  transaction = transaction_at log;
}

-- short-form free space directly in mdri
unfoldable pub free_at : Place → ℕ → ℕ → Bool
free_at c type skip = both (in_mdri c) (both (either (eqb type FREE) (eqb type SKIP)) (eqb skip 8))

-- one box more: its place, kind and offset, its header, and the bytes b after that
abbrev pub added : Tally → Place → Kind → ℕ → Head → List ℕ → Tally
added t c k at h b = record {
  containers = pick (same_kind k Odrm) (t.containers + 1) t.containers;
  headers = pick (same_kind k Ohdr) (t.headers + 1) t.headers;
  method = pick (same_kind k Ohdr) (method b) t.method;
  plaintext = pick (same_kind k Ohdr) (plaintext b) t.plaintext;
  mdri = pick (same_kind k Mdri) at t.mdri;
  rights = pick (same_kind k Odrb) (t.rights + 1) t.rights;
  free = t.free + pick (free_at c h.boxtype h.skip) h.size 0;
  transaction = pick (same_kind k Odtt) (at + h.skip + 4) t.transaction;
}

-- ---- starts and ContentIDs

abbrev pub starts_with : List ℕ → Tally → Kind → ℕ → List ℕ
starts_with starts t k at = pick (same_kind k Odrm) (set starts t.containers at) starts

-- the fields of the box start at an offset of the file
abbrev pub ids_with : List Stretch → Tally → Kind → ℕ → List ℕ → List Stretch
ids_with ids t k from b = pick (same_kind k Ohdr) (set ids t.headers (record { offset = from + 20; length = id_length b })) ids

-- the first n ContentIDs
abbrev pub ids_in : List ℕ → List Stretch → ℕ → List (List ℕ)
ids_in s ids n = map (bytes_in s) (take n ids)

-- ---- all of it

unfoldable pub with_box : Kept → Place → Kind → ℕ → Head → List ℕ → Kept
with_box x c k at h b = record {
  count = x.count + 1;
  tally = added x.tally c k at h b;
  starts = starts_with x.starts x.tally k at;
  ids = ids_with x.ids x.tally k (at + h.skip) b;
}

-- of the file s and the boxes of the log, with the rows as far as there is room for them
pub record Holds (s : List ℕ) (log : List Box) (x : Kept) (out : List Row) : Type 0 where
  pub number : x.count ≡ length log
  pub tally : x.tally ≡ tally_of log
  pub rows : x.count ≤ length out → take x.count out ≡ rows log
  pub starts : take x.tally.containers x.starts ≡ map (λ (y : Box). y.at) (only Odrm log)
  pub names : ids_in s x.ids x.tally.headers ≡ ids log

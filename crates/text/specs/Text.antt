-- The text of a listing, as bytes (document 01, Worked files). Assumes nothing.
use Rattle.std.specs.Prelude.{ℕ, min, List, [], ◌∷◌, ◌++◌, take, eqb}
use Rattle.numbers.specs.Choice.{pick}
use Rattle.format.specs.declared.Row.{Row}
use Rattle.format.specs.declared.Refusal.{Refusal}
use Rattle.format.specs.declared.Reading.{Reading}
use Rattle.format.specs.Numbers.{number_of}
use Rattle.format.specs.Boxes.{Box}
use Rattle.format.specs.Judge.{Out, fault, done, read_of}
use Rattle.format.specs.Report.{rows, answer_of}
use Rattle.text.specs.Number.{ascii, hex8, field, entry}

-- verdict, box count, container count, offset of mdri (0 if none), rights count, total size of short-form free space directly in mdri
unfoldable pub totals : Reading → List ℕ
totals r =
    entry (ascii "verdict=") 0
    ++ (entry (ascii "boxes=") r.boxes
    ++ (entry (ascii "containers=") r.containers
    ++ (entry (ascii "mutable=") r.mdri
    ++ (entry (ascii "rights=") r.rights
    ++ entry (ascii "free=") r.free))))

-- per box its offset, size, depth and type in hex
unfoldable pub row_line : Row → List ℕ
row_line x =
    field (ascii "row=") x.offset
    ++ (field (ascii ",") x.size
    ++ (field (ascii ",") x.depth
    ++ (ascii "," ++ (hex8 x.boxtype ++ ascii "\n"))))

unfoldable pub row_lines : List Row → List ℕ
row_lines [] = []
row_lines (x ∷ xs) = row_line x ++ row_lines xs

-- For a refused file it prints `verdict=` and `place=` lines only
unfoldable pub refused_text : Refusal → List ℕ
refused_text f = entry (ascii "verdict=") (number_of f.rule) ++ entry (ascii "place=") f.place

-- the whole text of a reading and its rows
unfoldable pub listing_of : Reading → List Row → List ℕ
listing_of r xs = pick (eqb (number_of r.refusal.rule) 0) (totals r ++ row_lines xs) (refused_text r.refusal)

-- the text of a file, read with 256 rows
abbrev pub boxes_of : Out → List Box
boxes_of (fault k place) = []
boxes_of (done log) = log

unfoldable pub file_text : List ℕ → List ℕ
file_text s = listing_of (answer_of (read_of 256 s)) (rows (boxes_of (read_of 256 s)))

-- for input over 65,536 bytes, the one line `unread`
unfoldable pub unread_text : List ℕ
unread_text = ascii "unread\n"

-- the rows that are shown: as many as were counted, and 256 at most
unfoldable pub shown : Reading → List Row → List Row
shown r rows = take (min r.boxes 256) rows

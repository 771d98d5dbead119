-- Further files, in the form of the worked table: one that is accepted and holds something of everything, and for each number that a
-- reading gives of a box (2 to 13) files that get it. Files are composed from the pieces below, and each number and place is worked out
-- from document 01. Assumes nothing.
use Rattle.std.specs.Prelude.{ℕ, ◌+◌, List, [], ◌∷◌, ◌++◌, length, replicate}
use Rattle.numbers.specs.Big.{be}
use Rattle.format.specs.declared.Rule.TheVariants.{Done, BadSize}
use Rattle.format.specs.declared.Row.{Row}
use Rattle.format.specs.declared.Full.{Full}
use Rattle.format.specs.declared.Summary.{Summary}
use Rattle.format.specs.declared.Reading.{Reading}
use Rattle.format.specs.Report.{Lesson}
use Rattle.format.specs.Worked.{file_b, Line, row, at, reading, answering, within, holding, refused, listed, answered, counted, held}

-- ---- pieces

abbrev ftyp : List ℕ
ftyp = 102 ∷ 116 ∷ 121 ∷ 112 ∷ []

abbrev odrm : List ℕ
odrm = 111 ∷ 100 ∷ 114 ∷ 109 ∷ []

abbrev odhe : List ℕ
odhe = 111 ∷ 100 ∷ 104 ∷ 101 ∷ []

abbrev ohdr : List ℕ
ohdr = 111 ∷ 104 ∷ 100 ∷ 114 ∷ []

abbrev odda : List ℕ
odda = 111 ∷ 100 ∷ 100 ∷ 97 ∷ []

abbrev mdri : List ℕ
mdri = 109 ∷ 100 ∷ 114 ∷ 105 ∷ []

abbrev odtt : List ℕ
odtt = 111 ∷ 100 ∷ 116 ∷ 116 ∷ []

abbrev odrb : List ℕ
odrb = 111 ∷ 100 ∷ 114 ∷ 98 ∷ []

abbrev udta : List ℕ
udta = 117 ∷ 100 ∷ 116 ∷ 97 ∷ []

abbrev free : List ℕ
free = 102 ∷ 114 ∷ 101 ∷ 101 ∷ []

abbrev skip : List ℕ
skip = 115 ∷ 107 ∷ 105 ∷ 112 ∷ []

abbrev odcf : List ℕ
odcf = 111 ∷ 100 ∷ 99 ∷ 102 ∷ []

-- a type of no kind
abbrev abcd : List ℕ
abcd = 97 ∷ 98 ∷ 99 ∷ 100 ∷ []

-- a box in short form, of 8 bytes and those after its header
abbrev short : List ℕ → List ℕ → List ℕ
short type body = be 4 (8 + length body) ++ (type ++ body)

-- a box in long form, of 16 bytes and those after its header
abbrev long : List ℕ → List ℕ → List ℕ
long type body = be 4 1 ++ (type ++ (be 8 (16 + length body) ++ body))

-- what a full box has after its header: version, flags and the rest
abbrev full : ℕ → ℕ → List ℕ → List ℕ
full version flags rest = version ∷ (be 3 flags ++ rest)

-- odhe, after the flags: ContentType's length, ContentType, the run
abbrev typed : List ℕ → List ℕ → List ℕ
typed type run = length type ∷ (type ++ run)

-- ohdr, after the flags: method, padding, P, the lengths of three strings, the strings
abbrev fields_of : ℕ → ℕ → ℕ → List ℕ → List ℕ → List ℕ → List ℕ
fields_of method padding p id url headers =
    method ∷ (padding ∷ (be 8 p ++ (be 2 (length id) ++ (be 2 (length url) ++ (be 2 (length headers) ++ (id ++ (url ++ headers)))))))

-- ---- file M: two containers and something of everything; 400 bytes

-- the 32 bytes of the first container's data
abbrev data_m : List ℕ
data_m =
    200 ∷ 201 ∷ 202 ∷ 203 ∷ 204 ∷ 205 ∷ 206 ∷ 207 ∷ 208 ∷ 209 ∷ 210 ∷ 211 ∷ 212 ∷ 213 ∷ 214 ∷ 215 ∷ 216 ∷ 217 ∷ 218 ∷ 219 ∷ 220 ∷ 221 ∷ 222
    ∷ 223 ∷ 224 ∷ 225 ∷ 226 ∷ 227 ∷ 228 ∷ 229 ∷ 230 ∷ 231 ∷ []

abbrev transaction_m : List ℕ
transaction_m = 21 ∷ 22 ∷ 23 ∷ 24 ∷ 25 ∷ 26 ∷ 27 ∷ 28 ∷ 29 ∷ 30 ∷ 31 ∷ 32 ∷ 33 ∷ 34 ∷ 35 ∷ 36 ∷ []

-- N:v and M: with an empty value, each ended by a zero byte
abbrev headers_m : List ℕ
headers_m = 78 ∷ 58 ∷ 118 ∷ 0 ∷ 77 ∷ 58 ∷ 0 ∷ []

-- at 16: CBC, P = 15, D = 32, all strings, odhe in long form; an odtt in the ohdr, of one byte, is an other
abbrev first_m : List ℕ
first_m =
    short odrm
    (full 0 0x010203
    (long odhe
    (full 0 0x040506
    (typed (97 ∷ 47 ∷ 98 ∷ [])
    (short ohdr (full 0 0x070809 (fields_of 1 1 15 (99 ∷ 58 ∷ 49 ∷ []) (117 ∷ 58 ∷ 49 ∷ []) headers_m ++ short odtt (9 ∷ [])))
    ++ short udta (7 ∷ 8 ∷ []))))
    ++ (long odda (full 0 0x0a0b0c (be 8 32 ++ (data_m ++ (1 ∷ 2 ∷ [])))) ++ (short abcd (5 ∷ []) ++ short free []))))

-- at 200: CTR, P = 5, D = 0, odrm in long form
abbrev second_m : List ℕ
second_m =
    long odrm
    (full 0 0
    (short odhe (full 0 0 (typed (116 ∷ []) (short ohdr (full 0 0 (fields_of 2 0 5 (99 ∷ 58 ∷ 50 ∷ []) [] [])))))
    ++ long odda (full 0 0 (be 8 0))))

-- at 293: the free box in long form is no room
abbrev mdri_m : List ℕ
mdri_m =
    short mdri
    (long free []
    ++ (short skip (1 ∷ 2 ∷ 3 ∷ [])
    ++ (short odtt (full 0 1 transaction_m)
    ++ (long odrb (full 0 2 (61 ∷ 62 ∷ 63 ∷ [])) ++ (short odrb (full 0 0 []) ++ short free (4 ∷ []))))))

-- ftyp without further brands; an odrb at the top, of one byte, is an other
abbrev file_m : List ℕ
file_m = short ftyp (odcf ++ be 4 2) ++ (first_m ++ (short odrb (1 ∷ []) ++ (second_m ++ mdri_m)))

abbrev flagged : ℕ → Row → Full
flagged n r = record { row = r; flags = n }

abbrev rows_m : List Row
rows_m =
    row 0 16 0 0x66747970
    ∷ row 16 175 0 0x6f64726d
    ∷ row 28 84 1 0x6f646865
    ∷ row 52 50 2 0x6f686472
    ∷ row 93 9 3 0x6f647474
    ∷ row 102 10 2 0x75647461
    ∷ row 112 62 1 0x6f646461
    ∷ row 174 9 1 0x61626364
    ∷ row 183 8 1 0x66726565
    ∷ row 191 9 0 0x6f647262
    ∷ row 200 93 0 0x6f64726d
    ∷ row 220 45 1 0x6f646865
    ∷ row 234 31 2 0x6f686472
    ∷ row 265 28 1 0x6f646461
    ∷ row 293 107 0 0x6d647269
    ∷ row 301 16 1 0x66726565
    ∷ row 317 11 1 0x736b6970
    ∷ row 328 28 1 0x6f647474
    ∷ row 356 23 1 0x6f647262
    ∷ row 379 12 1 0x6f647262
    ∷ row 391 9 1 0x66726565
    ∷ []

abbrev summary_m1 : Summary
summary_m1 = record {
  odrm = flagged 0x010203 (row 16 175 0 0x6f64726d);
  odhe = flagged 0x040506 (row 28 84 1 0x6f646865);
  ohdr = flagged 0x070809 (row 52 50 2 0x6f686472);
  odda = flagged 0x0a0b0c (row 112 62 1 0x6f646461);
  method = 1;
  padding = 1;
  plaintextlength = record { 0 = 15 };
  datalength = record { 0 = 32 };
  contenttype = at 49 3;
  contentid = at 80 3;
  issuer = at 83 3;
  headers = at 86 7;
  content = at 140 32;
}

abbrev summary_m2 : Summary
summary_m2 = record {
  odrm = flagged 0 (row 200 93 0 0x6f64726d);
  odhe = flagged 0 (row 220 45 1 0x6f646865);
  ohdr = flagged 0 (row 234 31 2 0x6f686472);
  odda = flagged 0 (row 265 28 1 0x6f646461);
  method = 2;
  padding = 0;
  plaintextlength = record { 0 = 5 };
  datalength = record { 0 = 0 };
  contenttype = at 233 1;
  contentid = at 262 3;
  issuer = at 265 0;
  headers = at 265 0;
  content = at 293 0;
}

-- an unused one: all 0
abbrev unused : Summary
unused = record {
  odrm = flagged 0 (row 0 0 0 0);
  odhe = flagged 0 (row 0 0 0 0);
  ohdr = flagged 0 (row 0 0 0 0);
  odda = flagged 0 (row 0 0 0 0);
  method = 0;
  padding = 0;
  plaintextlength = record { 0 = 0 };
  datalength = record { 0 = 0 };
  contenttype = at 0 0;
  contentid = at 0 0;
  issuer = at 0 0;
  headers = at 0 0;
  content = at 0 0;
}

abbrev answer_m : Reading
answer_m = record {
  refusal = record { rule = Done; place = 0 };
  boxes = 21;
  containers = 2;
  summaries = summary_m1 ∷ summary_m2 ∷ unused ∷ unused ∷ unused ∷ unused ∷ unused ∷ unused ∷ [];
  mdri = 293;
  rights = 2;
  free = 20;
  transaction = 340;
}

abbrev lesson_m : Lesson
lesson_m = record {
  rows = rows_m;
  headers =
      record {
        summary = summary_m1;
        content_type = 97 ∷ 47 ∷ 98 ∷ [];
        content_id = 99 ∷ 58 ∷ 49 ∷ [];
        issuer = 117 ∷ 58 ∷ 49 ∷ [];
        textual_headers = headers_m;
        content = data_m;
      }
      ∷ record {
        summary = summary_m2;
        content_type = 116 ∷ [];
        content_id = 99 ∷ 58 ∷ 50 ∷ [];
        issuer = [];
        textual_headers = [];
        content = [];
      }
      ∷ [];
  rights = (61 ∷ 62 ∷ 63 ∷ []) ∷ [] ∷ [];
  transaction = transaction_m;
}

-- File A with the size field of mdri set to 0: when refused, all but the number and the place is 0
abbrev answer_b : Reading
answer_b = record {
  refusal = record { rule = BadSize; place = 121 };
  boxes = 0;
  containers = 0;
  summaries = unused ∷ unused ∷ unused ∷ unused ∷ unused ∷ unused ∷ unused ∷ unused ∷ [];
  mdri = 0;
  rights = 0;
  free = 0;
  transaction = 0;
}

abbrev pub answers : List Line
answers =
    record { case = reading file_m; comes = listed answer_m rows_m }
    ∷ record { case = answering file_m; comes = answered answer_m }
    ∷ record { case = holding file_m; comes = held lesson_m }
    ∷ record { case = answering file_b; comes = answered answer_b }
    ∷ []

-- ---- the small file: ftyp at 0, odrm at 16, odhe at 28, ohdr at 42, odda at 71; it ends at 99

-- 16 bytes
abbrev start : List ℕ
start = short ftyp (odcf ++ be 4 2)

-- an odrm of version and flags 0 is 12 bytes and its run, an odhe of type t 14 bytes and its run
abbrev drm : List ℕ → List ℕ
drm run = short odrm (full 0 0 run)

abbrev head : List ℕ → List ℕ
head run = short odhe (full 0 0 (typed (116 ∷ []) run))

-- an ohdr of 28 bytes, its strings and its run: with the ID a and a run; with an ID and textual headers; with the ID a, a method, a padding
-- and P
abbrev plain : List ℕ → List ℕ
plain run = short ohdr (full 0 0 (fields_of 0 0 0 (97 ∷ []) [] [] ++ run))

abbrev strings : List ℕ → List ℕ → List ℕ
strings id headers = short ohdr (full 0 0 (fields_of 0 0 0 id [] headers))

abbrev scheme : ℕ → ℕ → ℕ → List ℕ
scheme method padding p = short ohdr (full 0 0 (fields_of method padding p (97 ∷ []) [] []))

-- an odda with a data length and what comes after it: 28 bytes and those
abbrev content : ℕ → List ℕ → List ℕ
content d rest = long odda (full 0 0 (be 8 d ++ rest))

-- a container of 83 bytes: odhe 12 bytes after its start, ohdr 26 and odda 55 bytes after it
abbrev named : ℕ → List ℕ
named id = drm (head (strings (id ∷ []) []) ++ content 0 [])

abbrev small : List ℕ
small = start ++ named 97

-- the small file with another run in its odrm; with another run in its odhe; with a method, a padding, P, D and what follows D
abbrev holds : List ℕ → List ℕ
holds run = start ++ drm run

abbrev heads : List ℕ → List ℕ
heads run = holds (head run ++ content 0 [])

abbrev lengths : ℕ → ℕ → ℕ → ℕ → List ℕ → List ℕ
lengths method padding p d rest = holds (head (scheme method padding p) ++ content d rest)

-- the small file and an mdri at 99, whose run starts at 107
abbrev edits : List ℕ → List ℕ
edits run = small ++ short mdri run

abbrev four : List ℕ
four = 1 ∷ 2 ∷ 3 ∷ 4 ∷ []

abbrev refuses : ℕ → ℕ → List ℕ → Line
refuses k place s = record { case = reading s; comes = refused k place }

abbrev takes : ℕ → List ℕ → Line
takes n s = record { case = within 256 s; comes = counted n }

-- ---- 2 to 5: headers and rows

abbrev pub headers : List Line
headers =
    -- the small file itself has five boxes
    takes 5 small
    -- and six with an mdri; odda alone must be in long form, and all of them may be
    ∷ takes 6
    (long ftyp (odcf ++ be 4 2)
    ++ (long odrm (full 0 0 (long odhe (full 0 0 (typed (116 ∷ []) (long ohdr (full 0 0 (fields_of 0 0 0 (97 ∷ []) [] []))))) ++ content 0 []))
    ++ long mdri []))
    -- 2: three stray bytes after mdri's last child; at the top; a size field of 1 with 12 bytes left, and with 15
    ∷ refuses 2 115 (edits (short free [] ++ (1 ∷ 2 ∷ 3 ∷ [])))
    ∷ refuses 2 99 (small ++ (0 ∷ 0 ∷ 0 ∷ []))
    ∷ refuses 2 107 (edits (be 4 1 ++ (free ++ be 4 0)))
    ∷ refuses 2 107 (edits (be 4 1 ++ (free ++ be 7 0)))
    -- 3: sizes 0, 2 and 7; a long size 15; long sizes 0 and 8
    ∷ refuses 3 107 (edits (be 4 0 ++ free))
    ∷ refuses 3 107 (edits (be 4 2 ++ free))
    ∷ refuses 3 107 (edits (be 4 7 ++ free))
    ∷ refuses 3 107 (edits (be 4 1 ++ (free ++ be 8 15)))
    ∷ refuses 3 107 (edits (be 4 1 ++ (free ++ be 8 0)))
    ∷ refuses 3 107 (edits (be 4 1 ++ (free ++ be 8 8)))
    -- 3: an odda in short form, in its place and in a wrong one
    ∷ refuses 3 71 (holds (head (plain []) ++ short odda (full 0 0 (be 8 0))))
    ∷ refuses 3 107 (edits (short odda (full 0 0 (be 8 0))))
    -- 4: a child that ends one byte after its parent, but in the file; a box that ends one byte after the file; long sizes of 2 ^ 64 - 1
    -- and 2 ^ 32 + 16
    ∷ refuses 4 107 (edits (be 4 9 ++ free) ++ short abcd [])
    ∷ refuses 4 99 (small ++ (be 4 9 ++ abcd))
    ∷ refuses 4 107 (edits (be 4 1 ++ (free ++ be 8 18446744073709551615)))
    ∷ refuses 4 107 (edits (be 4 1 ++ (free ++ be 8 4294967312)))
    -- 5: four rows for five boxes: none is left for the odda; five are enough; none at all
    ∷ record { case = within 4 small; comes = refused 5 71 }
    ∷ record { case = within 5 small; comes = counted 5 }
    ∷ record { case = within 0 small; comes = refused 5 0 }
    -- 5: eight odrm are taken, a ninth at the top is not (each has 83 bytes: 16 + 8 × 83 = 680)
    ∷ takes 33 (start ++ (named 1 ++ (named 2 ++ (named 3 ++ (named 4 ++ (named 5 ++ (named 6 ++ (named 7 ++ named 8))))))))
    ∷ refuses 5 680 (start ++ (named 1 ++ (named 2 ++ (named 3 ++ (named 4 ++ (named 5 ++ (named 6 ++ (named 7 ++ (named 8 ++ named 9)))))))))
    ∷ []

-- ---- 6: places

abbrev pub places : List Line
places =
    -- a missing box has its parent's offset: no odda in the odrm at 16, nothing in it, no ohdr in the odhe at 28; no odrm at the top
    refuses 6 16 (holds (head (plain [])))
    ∷ refuses 6 16 (holds [])
    ∷ refuses 6 28 (heads [])
    ∷ refuses 6 0 start
    ∷ refuses 6 0 (start ++ short mdri [])
    -- the same in a second container, at 99: its odrm, and its odhe at 111
    ∷ refuses 6 99 (small ++ drm (head (strings (98 ∷ []) [])))
    ∷ refuses 6 111 (small ++ drm (head [] ++ content 0 []))
    -- at the top: no ftyp first, a second ftyp, an odhe, an ohdr, an odda, an odrm after mdri, a second mdri
    ∷ refuses 6 0 (short free [] ++ small)
    ∷ refuses 6 0 (named 97)
    ∷ refuses 6 99 (small ++ start)
    ∷ refuses 6 99 (small ++ head (plain []))
    ∷ refuses 6 99 (small ++ plain [])
    ∷ refuses 6 99 (small ++ content 0 [])
    ∷ refuses 6 107 (edits [] ++ named 98)
    ∷ refuses 6 107 (edits [] ++ short mdri [])
    -- others may follow mdri, and stand before the first odrm
    ∷ takes 8 (start ++ (short abcd [] ++ (named 97 ++ (short mdri [] ++ short free []))))
    -- in odrm: an odda first, a second odhe, another box between them, a third of the six
    ∷ refuses 6 28 (holds (content 0 [] ++ head (plain [])))
    ∷ refuses 6 71 (holds (head (plain []) ++ (head (plain []) ++ content 0 [])))
    ∷ refuses 6 71 (holds (head (plain []) ++ (short free [] ++ content 0 [])))
    ∷ refuses 6 99 (holds (head (plain []) ++ (content 0 [] ++ content 0 [])))
    -- odtt and odrb outside mdri, and udta outside odhe, are others: their bytes are opaque, even where there are none
    ∷ takes 8 (holds (head (plain []) ++ (content 0 [] ++ (short odtt [] ++ (short odrb [] ++ short udta [])))))
    ∷ takes 8 (heads (plain (short odtt [] ++ (short odrb [] ++ short udta []))))
    ∷ takes 8 (small ++ (short odtt [] ++ (short odrb [] ++ short udta [])))
    -- in odhe: a udta first, a second box that is no udta, a third box
    ∷ refuses 6 42 (heads (short udta [] ++ plain []))
    ∷ refuses 6 71 (heads (plain [] ++ short free []))
    ∷ refuses 6 79 (heads (plain [] ++ (short udta [] ++ short udta [])))
    -- in ohdr, and in mdri: one of the six
    ∷ refuses 6 71 (heads (plain (short mdri [])))
    ∷ refuses 6 107 (edits (short mdri []))
    -- in mdri: a second odtt (each has 28 bytes)
    ∷ refuses 6 135 (edits (short odtt (full 0 0 (be 16 1)) ++ short odtt (full 0 0 (be 16 2))))
    ∷ []

-- ---- 7 to 13: fields

abbrev pub fields : List Line
fields =
    -- 7: ftyp with half a brand, and without its minor version
    refuses 7 0 (short ftyp (odcf ++ (be 4 2 ++ (111 ∷ 100 ∷ []))) ++ named 97)
    ∷ refuses 7 0 (short ftyp odcf ++ named 97)
    -- 7: odtt with 15 more bytes, and with 17; an odrb without its last flag byte
    ∷ refuses 7 107 (edits (short odtt (full 0 0 (be 15 0))))
    ∷ refuses 7 107 (edits (short odtt (full 0 0 (be 17 0))))
    ∷ refuses 7 107 (edits (short odrb (be 3 0)))
    -- 7: fixed fields of odrm, odhe, ohdr and odda that lack a byte
    ∷ refuses 7 16 (start ++ short odrm (be 3 0))
    ∷ refuses 7 28 (holds (short odhe (be 4 0) ++ content 0 []))
    ∷ refuses 7 42 (heads (short ohdr (be 19 0)))
    ∷ refuses 7 71 (holds (head (plain []) ++ long odda (be 11 0)))
    -- 7: strings past their box, with a box after it: a ContentType of 2 bytes where 1 is left; a URL and headers of 1 where none is
    ∷ refuses 7 28 (holds (short odhe (full 0 0 (2 ∷ 116 ∷ [])) ++ content 0 []))
    ∷ refuses 7 42 (heads (short ohdr (full 0 0 (be 10 0 ++ (be 2 1 ++ (be 2 1 ++ (be 2 0 ++ (97 ∷ [])))))) ++ short udta []))
    ∷ refuses 7 42 (heads (short ohdr (full 0 0 (be 10 0 ++ (be 2 1 ++ (be 2 0 ++ (be 2 1 ++ (97 ∷ [])))))) ++ short udta []))
    -- 8: the major brand; a version 1 of odrm, odhe, ohdr, odda, odtt and odrb
    ∷ refuses 8 0 (short ftyp (abcd ++ (be 4 2 ++ odcf)) ++ named 97)
    ∷ refuses 8 16 (start ++ short odrm (full 1 0 (head (plain []) ++ content 0 [])))
    ∷ refuses 8 28 (holds (short odhe (full 1 0 (typed (116 ∷ []) (plain []))) ++ content 0 []))
    ∷ refuses 8 42 (heads (short ohdr (full 1 0 (fields_of 0 0 0 (97 ∷ []) [] []))))
    ∷ refuses 8 71 (holds (head (plain []) ++ long odda (full 1 0 (be 8 0))))
    ∷ refuses 8 107 (edits (short odtt (full 1 0 (be 16 0))))
    ∷ refuses 8 107 (edits (short odrb (full 1 0 four)))
    -- 9: method 1 with padding 0, method 0 with 1, method 2 with 1, method 1 with 2, method 3
    ∷ refuses 9 42 (lengths 1 0 0 0 [])
    ∷ refuses 9 42 (lengths 0 1 0 0 [])
    ∷ refuses 9 42 (lengths 2 1 0 0 [])
    ∷ refuses 9 42 (lengths 1 2 0 0 [])
    ∷ refuses 9 42 (lengths 3 0 0 0 [])
    -- 10: a ContentType of no byte, at 28; a ContentID of none; of 257, where 256 are taken
    ∷ refuses 10 28 (holds (short odhe (full 0 0 (typed [] (plain []))) ++ content 0 []))
    ∷ refuses 10 42 (heads (strings [] []))
    ∷ refuses 10 42 (heads (strings (replicate 257 97) []))
    ∷ takes 5 (heads (strings (replicate 256 97) []))
    -- 10: a ContentType of 255 bytes is taken
    ∷ takes 5 (holds (short odhe (full 0 0 (typed (replicate 255 97) (plain []))) ++ content 0 []))
    -- 11: N:v without an end; :v with an empty name; N without a colon; a name with a space; a second zero byte
    ∷ refuses 11 42 (heads (strings (97 ∷ []) (78 ∷ 58 ∷ 118 ∷ [])))
    ∷ refuses 11 42 (heads (strings (97 ∷ []) (58 ∷ 118 ∷ 0 ∷ [])))
    ∷ refuses 11 42 (heads (strings (97 ∷ []) (78 ∷ 0 ∷ [])))
    ∷ refuses 11 42 (heads (strings (97 ∷ []) (78 ∷ 32 ∷ 58 ∷ 0 ∷ [])))
    ∷ refuses 11 42 (heads (strings (97 ∷ []) (78 ∷ 58 ∷ 118 ∷ 0 ∷ 0 ∷ [])))
    -- 12: D past odda's end, where method 0 and P = 0 take any; D = 4 bytes of the 4 are taken
    ∷ refuses 12 71 (lengths 0 0 0 5 four)
    ∷ takes 5 (lengths 0 0 0 4 four)
    -- 12: D = 2 ^ 32, of which the low four bytes are 0
    ∷ refuses 12 71 (lengths 0 0 0 4294967296 four)
    -- 12: D one more than P in method 0; P = 16 in method 1 with D = 32; P = 4 in method 2 with D = 4
    ∷ refuses 12 71 (lengths 0 0 3 4 four)
    ∷ refuses 12 71 (lengths 1 1 16 32 (be 32 0))
    ∷ refuses 12 71 (lengths 2 0 4 4 four)
    -- 12: P = 2 ^ 32 and 2 ^ 32 + 4, of which the low four bytes are 0 and 4, with D = 4 in method 0
    ∷ refuses 12 71 (lengths 0 0 4294967296 4 four)
    ∷ refuses 12 71 (lengths 0 0 4294967300 4 four)
    -- 12: P = 2 ^ 64 - 12, to which 16 is added without wrapping round to D = 4; D = 0 is taken with it
    ∷ refuses 12 71 (lengths 2 0 18446744073709551604 4 four)
    ∷ takes 5 (lengths 2 0 18446744073709551604 0 [])
    -- D = 0 is taken with P = 3 in method 0, and with P = 100 in method 1
    ∷ takes 5 (lengths 0 0 3 0 [])
    ∷ takes 5 (lengths 1 1 100 0 [])
    -- 12: the method and P are those of the same container: CTR with P = D = 4 after one that takes any D; its odda stands at 99 + 55
    ∷ refuses 12 154 (small ++ drm (head (short ohdr (full 0 0 (fields_of 2 0 4 (98 ∷ []) [] []))) ++ content 4 four))
    -- 13: the first container's ID again: its ohdr stands 26 bytes after the second container's start; the first's and the second's
    -- in a third container, at 182
    ∷ refuses 13 125 (small ++ named 97)
    ∷ refuses 13 208 (small ++ (named 98 ++ named 97))
    ∷ refuses 13 208 (small ++ (named 98 ++ named 98))
    -- 13: an ID that only starts as another is not equal to it
    ∷ takes 9 (small ++ drm (head (strings (97 ∷ 98 ∷ []) []) ++ content 0 []))
    ∷ []

-- ---- the order: at each box 2 to 13 in number order; a parent before its run; the first fault is the answer

abbrev pub order : List Line
order =
    -- 2 and 3: seven bytes that start with a size of 7
    refuses 2 107 (edits (be 4 7 ++ (1 ∷ 2 ∷ 3 ∷ [])))
    -- 3 and 4: an odda in short form that ends after its parent
    ∷ refuses 3 71 (holds (head (plain []) ++ (be 4 9 ++ odda)))
    -- 4 and 5: no row is left for the box after the small file, which ends after the file
    ∷ record { case = within 5 (small ++ (be 4 9 ++ abcd)); comes = refused 4 99 }
    -- 5 and 6: no row is left for a second ftyp; a ninth odrm after mdri (16 + 8 × 83 + 8 = 688)
    ∷ record { case = within 5 (small ++ start); comes = refused 5 99 }
    ∷ refuses 5 688
    (start
    ++ (named 1 ++ (named 2 ++ (named 3 ++ (named 4 ++ (named 5 ++ (named 6 ++ (named 7 ++ (named 8 ++ (short mdri [] ++ named 9))))))))))
    -- 6 and 7: a second odtt, with 15 bytes
    ∷ refuses 6 135 (edits (short odtt (full 0 0 (be 16 1)) ++ short odtt (full 0 0 (be 15 2))))
    -- 7 and 8: an odtt of version 1, with 15 bytes; half a brand after another major brand
    ∷ refuses 7 107 (edits (short odtt (full 1 0 (be 15 0))))
    ∷ refuses 7 0 (short ftyp (abcd ++ (be 4 2 ++ (111 ∷ 100 ∷ []))) ++ named 97)
    -- 8 and 9: an ohdr of version 1 and method 3
    ∷ refuses 8 42 (heads (short ohdr (full 1 0 (fields_of 3 0 0 (97 ∷ []) [] []))))
    -- 8 and 10: an odhe of version 1 without a ContentType
    ∷ refuses 8 28 (holds (short odhe (full 1 0 (typed [] (plain []))) ++ content 0 []))
    -- 8 and 12: an odda of version 1 whose D is past its end
    ∷ refuses 8 71 (holds (head (plain []) ++ long odda (full 1 0 (be 8 5))))
    -- 9 and 10: method 3, no ContentID
    ∷ refuses 9 42 (heads (short ohdr (full 0 0 (fields_of 3 0 0 [] [] []))))
    -- 10 and 11: no ContentID, headers with an empty name
    ∷ refuses 10 42 (heads (strings [] (58 ∷ 118 ∷ 0 ∷ [])))
    -- 11 and 13: headers with an empty name, the ID of the container before
    ∷ refuses 11 125 (small ++ drm (head (strings (97 ∷ []) (58 ∷ 118 ∷ 0 ∷ [])) ++ content 0 []))
    -- a parent's 8 before the 2 in its run; its child's 10 before the 6 of a missing box
    ∷ refuses 8 16 (start ++ short odrm (full 1 0 (1 ∷ 2 ∷ 3 ∷ [])))
    ∷ refuses 10 42 (holds (head (strings [] [])))
    -- the 12 of a box before the 2 of a later one; the 13 of an ohdr before the 12 of its container's odda
    ∷ refuses 12 71 (lengths 0 0 3 4 four ++ (1 ∷ 2 ∷ 3 ∷ []))
    ∷ refuses 13 125 (small ++ drm (head (strings (97 ∷ []) []) ++ content 5 four))
    -- a missing odda is found at the end of its odrm: before the fault of a later box, after that of an earlier one
    ∷ refuses 6 16 (holds (head (plain [])) ++ (1 ∷ 2 ∷ 3 ∷ []))
    ∷ refuses 6 79 (holds (head (plain [] ++ (short udta [] ++ short udta []))))
    -- a missing odrm is found at the end of the file: after a fault in the mdri at 16
    ∷ refuses 8 24 (start ++ short mdri (short odrb (full 1 0 [])))
    ∷ []

abbrev pub table : List Line
table = answers ++ (headers ++ (places ++ (fields ++ order)))

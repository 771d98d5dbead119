-- Reading (document 01, Numbers given back): 1, then the boxes in file order, a parent before its run; at each box 2 to 13 in number
-- order; the first fault is the answer. Assumes nothing.
use Rattle.std.specs.Prelude.{ℕ, ◌+◌, ◌*◌, ◌/◌, ◌%◌, Bool, true, false, not, List, [], ◌∷◌, ◌++◌, map, length, leb, ltb, eqb}
use Rattle.numbers.specs.Choice.{pick, both, either}
use Rattle.strings.specs.Same.{same}
use Rattle.strings.specs.Headers.{textual}
use Rattle.format.specs.declared.Place.{Place}
use Rattle.format.specs.declared.Place.TheVariants.{Top, InOdrm, InOdhe, InOhdr, InMdri}
use Rattle.format.specs.declared.Kind.{Kind}
use Rattle.format.specs.declared.Kind.TheVariants.{Ftyp, Odrm, Odhe, Ohdr, Odda, Mdri, Odtt, Odrb, Udta, Other}
use Rattle.format.specs.declared.Seen.{Seen}
use Rattle.format.specs.declared.Spot.{Spot}
use Rattle.format.specs.declared.PlaintextLength.{PlaintextLength}
use Rattle.format.specs.declared.DataLength.{DataLength}
use Rattle.format.specs.Kinds.{ODCF, fields_length, same_kind, is_six}
use Rattle.format.specs.Tree.{Run, end, bad, leaf, node, encode, parse}
use Rattle.format.specs.Fields.{version, major_brand, type_length, method, padding, plaintext, id_length, content_id, textual_headers, data_length}
use Rattle.format.specs.Boxes.{Box, no_box, top, kind, room, box_of, into, only}

-- ---- 5 and 6: what a run has had

abbrev pub nothing : Seen
nothing = record { boxes = 0; odrms = 0; mdri = false; odtt = false }

unfoldable pub note : Seen → Kind → Seen
note n k = record {
  boxes = n.boxes + 1;
  odrms = pick (same_kind k Odrm) (n.odrms + 1) n.odrms;
  mdri = either (same_kind k Mdri) n.mdri;
  odtt = either (same_kind k Odtt) n.odtt;
}

-- no row left; a ninth odrm at the top (no other run goes on after an odrm)
unfoldable pub no_row : ℕ → Seen → ℕ → Kind → Bool
no_row cap n rows k = either (leb cap rows) (both (same_kind k Odrm) (leb 8 n.odrms))

-- after the first box at the top
unfoldable pub late_at_top : Seen → Kind → Bool
late_at_top n Ftyp = true
late_at_top n Odrm = n.mdri
late_at_top n Odhe = true
late_at_top n Ohdr = true
late_at_top n Odda = true
late_at_top n Mdri = n.mdri
late_at_top n Odtt = false
late_at_top n Odrb = false
late_at_top n Udta = false
late_at_top n Other = false

-- box in a wrong place or repeated
unfoldable pub misplaced : Place → Seen → Kind → Bool
misplaced Top n k = pick (eqb n.boxes 0) (not (same_kind k Ftyp)) (late_at_top n k)
misplaced InOdrm n k = pick (eqb n.boxes 0) (not (same_kind k Odhe)) (pick (eqb n.boxes 1) (not (same_kind k Odda)) (is_six k))
misplaced InOdhe n k = pick (eqb n.boxes 0) (not (same_kind k Ohdr)) (pick (eqb n.boxes 1) (not (same_kind k Udta)) true)
misplaced InOhdr n k = is_six k
misplaced InMdri n k = either (is_six k) (both (same_kind k Odtt) n.odtt)

-- box missing, at the end of a run
unfoldable pub missing : Place → Seen → Bool
missing Top n = eqb n.odrms 0
missing InOdrm n = ltb n.boxes 2
missing InOdhe n = eqb n.boxes 0
missing InOhdr n = false
missing InMdri n = false

-- ---- 7 to 13: the fields f of a box of kind k with n bytes after its header

-- 7: fixed fields or strings run past the box; odtt not 16 bytes; ftyp brands not whole
unfoldable pub ragged : Kind → ℕ → Bool
ragged Ftyp n = not (eqb (n % 4) 0)
ragged Odrm n = false
ragged Odhe n = false
ragged Ohdr n = false
ragged Odda n = false
ragged Mdri n = false
ragged Odtt n = not (eqb n 20)
ragged Odrb n = false
ragged Udta n = false
ragged Other n = false

unfoldable pub cut : Kind → ℕ → List ℕ → Bool
cut k n f = either (ltb n (fields_length k f)) (ragged k n)

-- 8: version not 0; major brand not odcf
unfoldable pub newer : Kind → List ℕ → Bool
newer Ftyp f = not (eqb (major_brand f) ODCF)
newer Odrm f = not (eqb (version f) 0)
newer Odhe f = not (eqb (version f) 0)
newer Ohdr f = not (eqb (version f) 0)
newer Odda f = not (eqb (version f) 0)
newer Mdri f = false
newer Odtt f = not (eqb (version f) 0)
newer Odrb f = not (eqb (version f) 0)
newer Udta f = false
newer Other f = false

-- 9: method or padding
unfoldable pub takes : ℕ → ℕ → Bool
takes m p = either (both (eqb m 0) (eqb p 0)) (either (both (eqb m 1) (eqb p 1)) (both (eqb m 2) (eqb p 0)))

unfoldable pub wrong_method : Kind → List ℕ → Bool
wrong_method k f = both (same_kind k Ohdr) (not (takes (method f) (padding f)))

-- 10: ContentType or ContentID length
abbrev pub outside : ℕ → ℕ → Bool
outside most n = either (ltb n 1) (ltb most n)

unfoldable pub wrong_length : Kind → List ℕ → Bool
wrong_length k f = either (both (same_kind k Odhe) (outside 255 (type_length f))) (both (same_kind k Ohdr) (outside 256 (id_length f)))

-- 11: textual headers malformed
unfoldable pub malformed : Kind → List ℕ → Bool
malformed k f = both (same_kind k Ohdr) (not (textual (textual_headers f)))

-- 12: D longer than odda's rest, or not as above; m and p are its container's method and plaintext length
unfoldable pub agrees : ℕ → PlaintextLength → DataLength → Bool
agrees m p d =
    either (eqb d.0 0)
    (either (both (eqb m 0) (either (eqb d.0 p.0) (eqb p.0 0)))
    (either (both (eqb m 1) (eqb d.0 (16 + 16 * (p.0 / 16 + 1))))
    (both (eqb m 2) (eqb d.0 (16 + p.0)))))

unfoldable pub wrong_data : Kind → ℕ → ℕ → PlaintextLength → List ℕ → Bool
wrong_data k n m p f = both (same_kind k Odda) (either (ltb n (12 + (data_length f).0)) (not (agrees m p (data_length f))))

-- 13: ContentID equal to an earlier container's
abbrev pub among : List ℕ → List (List ℕ) → Bool
among x [] = false
among x (y ∷ ys) = either (same x y) (among x ys)

unfoldable pub again : Kind → List (List ℕ) → List ℕ → Bool
again k ids f = both (same_kind k Ohdr) (among (content_id f) ids)

-- ---- one box, after the boxes of the log

abbrev pub ids : List Box → List (List ℕ)
ids log = map (λ (x : Box). content_id x.fields) (only Ohdr log)

abbrev pub last_of : Box → List Box → Box
last_of d [] = d
last_of d (x ∷ xs) = last_of x xs

-- the fields of a container's ohdr, the last before its odda
abbrev pub last_ohdr : List Box → List ℕ
last_ohdr log = (last_of no_box (only Ohdr log)).fields

-- the first number from 5 on that a box breaks, or 0
unfoldable pub wrong : ℕ → Seen → List Box → Box → ℕ
wrong cap n log x =
    pick (no_row cap n (length log) (kind x)) 5
    (pick (misplaced x.place n (kind x)) 6
    (pick (cut (kind x) (room x) x.fields) 7
    (pick (newer (kind x) x.fields) 8
    (pick (wrong_method (kind x) x.fields) 9
    (pick (wrong_length (kind x) x.fields) 10
    (pick (malformed (kind x) x.fields) 11
    (pick (wrong_data (kind x) (room x) (method (last_ohdr log)) (plaintext (last_ohdr log)) x.fields) 12
    (pick (again (kind x) (ids log) x.fields) 13 0))))))))

-- the place of a fault in a box: the box's offset
abbrev pub place_of : ℕ → Box → ℕ
place_of k x = x.at

-- ---- the reading: the first fault, or the boxes in file order

pub data Out : Type 0 where
  fault : ℕ → ℕ → Out  -- the number, the place
  done : List Box → Out

abbrev pub unless : ℕ → ℕ → Out → Out
unless k place o = pick (eqb k 0) o (fault k place)

unfoldable pub and_then : Out → (List Box → Out) → Out
and_then (fault k p) f = fault k p
and_then (done log) f = f log

-- a run that starts at an offset, after the boxes of the log. A missing box has its parent's offset as its place, or 0 at the top.
abbrev pub judge : ℕ → Spot → Seen → ℕ → List Box → Run → Out
judge cap q n at log end = pick (missing q.place n) (fault 6 q.own) (done log)
judge cap q n at log (bad k s) = fault k at
judge cap q n at log (leaf h b r) =
    let x : Box = box_of q at h (length b) b in
    let k : ℕ = wrong cap n log x in
    unless k (place_of k x) (judge cap q (note n (kind x)) (at + (length h + length b)) (log ++ (x ∷ [])) r)
judge cap q n at log (node h f i r) =
    let m : ℕ = length f + length (encode i) in
    let x : Box = box_of q at h m f in
    let k : ℕ = wrong cap n log x in
    unless k (place_of k x)
    (and_then (judge cap (into q x) nothing (at + (length h + length f)) (log ++ (x ∷ [])) i)
    (λ l. judge cap q (note n (kind x)) (at + (length h + m)) l r))

-- 1: file too long
unfoldable pub read_of : ℕ → List ℕ → Out
read_of cap s = pick (ltb 16777216 (length s)) (fault 1 0) (judge cap top nothing 0 [] (parse (length s) Top s))

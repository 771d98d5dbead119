-- The boxes of a good tree stand in its bytes. Assumes nothing.
use mathlib.Core.Path.{◌≡◌, refl, sym, subst, ap, ◌∙◌}
use Prim.Native.Nat.{ℕ, ◌+◌, ◌≤◌}
use native.Mathlib.Omega.{arith}
use mathlib.Core.List.{List, [], ◌++◌, append_assoc, append-nil}
use lib.ListN.{length, take, drop, length-append}
use lib.Seq.{slice, take_at, drop_at}
use Rattle.strings.specs.Headers.{Each}
use Rattle.format.specs.declared.Place.{Place}
use Rattle.format.specs.declared.Spot.{Spot}
use Rattle.format.specs.Kinds.{fields_length, inside}
use Rattle.format.specs.Tree.{Run, end, bad, leaf, node, encode, kind_at, Headed, Good}
use Rattle.format.specs.Boxes.{Box, box_of, into, boxes}
use Rattle.format.specs.Standing.{Stands}
use Rattle.format.proofs.Headers.{at-least-eight, header-length, header-size, header-type, fields-append}
use Rattle.format.proofs.Slices.{slice-mid}
use Rattle.format.proofs.Tiling.{each_append, node-fields}

-- a box whose header is h and whose bytes after it are b stands behind pre and before post
one-stands : (c : Place) (q : Spot) (at n left : ℕ) (pre h b f post : List ℕ) → q.place ≡ c → length pre ≡ at → length b ≡ n → Headed c left h n
    → length h + n ≤ left → left ≤ length (h ++ (b ++ post)) → (box_of q at h n f).fields ≡ take (fields_length (kind_at q.place h) b) b
    → Stands (pre ++ (h ++ (b ++ post))) (box_of q at h n f)
one-stands c q at n left pre h b f post p l m g w v e =
    let s : List ℕ = pre ++ (h ++ (b ++ post)) in
    let d : drop at s ≡ h ++ (b ++ post) = drop_at pre (h ++ (b ++ post)) at l in
    let h8 : 8 ≤ length h = omega (arith, at-least-eight h, g.form) in
    let t : length s ≡ length pre + length (h ++ (b ++ post)) = length-append pre (h ++ (b ++ post)) in
    let sb : slice (at + length h) (at + (length h + n)) s ≡ b =
    ap (slice (at + length h) (at + (length h + n))) (sym (append_assoc pre h (b ++ post)))
    ∙ slice-mid (pre ++ h) b post (at + length h) (at + (length h + n)) (length-append pre h ∙ omega arith) (omega arith) in
    record {
      left = left;
      headed = omega arith;
      within = (omega arith, omega arith);
      skip = rw (d, header-length h (b ++ post) h8) g.form;
      size = rw (d, header-size q.place left h (b ++ post) g.form, p) (sym g.sized);
      type = rw (d, header-type h (b ++ post) h8);
      fields = rw sb e;
    }

pub stands : (c : Place) (q : Spot) (at : ℕ) (t : Run) (pre post : List ℕ) → q.place ≡ c → Good c t → length pre ≡ at
    → Each (Stands (pre ++ (encode t ++ post))) (boxes q at t)
stands c q at end pre post p g l = tt
stands c q at (bad k s) pre post p g l = tt
stands c q at (leaf h b r) pre post p g l =
    let s1 : pre ++ ((h ++ (b ++ encode r)) ++ post) ≡ pre ++ (h ++ (b ++ (encode r ++ post))) = simp append_assoc in
    let s2 : (pre ++ (h ++ b)) ++ (encode r ++ post) ≡ pre ++ (h ++ (b ++ (encode r ++ post))) = simp append_assoc in
    let at' : ℕ = at + (length h + length b) in
    let l2 : length (pre ++ (h ++ b)) ≡ at' = simp length-append (omega arith) in
    let a : length h + length b ≤ length (h ++ (b ++ encode r)) = simp length-append (omega arith) in
    let z : length (h ++ (b ++ encode r)) ≤ length (h ++ (b ++ (encode r ++ post))) = simp length-append (omega arith) in
    subst (λ (s : List ℕ). Each (Stands s) (boxes q at (leaf h b r))) (sym s1) (
      one-stands c q at (length b) (length (h ++ (b ++ encode r))) pre h b b (encode r ++ post) p l refl g.0 a z refl,
      rw s2 at (stands c q at' r (pre ++ (h ++ b)) post p g.2 l2),
    )
stands c q at (node h f k r) pre post p g l =
    let m : ℕ = length f + length (encode k) in
    let x : Box = box_of q at h m f in
    let b : List ℕ = f ++ encode k in
    let s : ℕ = at + (length h + length f) in
    let at' : ℕ = at + (length h + m) in
    let S : List ℕ = pre ++ (h ++ ((f ++ encode k) ++ (encode r ++ post))) in
    let s1 : pre ++ ((h ++ (f ++ (encode k ++ encode r))) ++ post) ≡ S = simp append_assoc in
    let s2 : (pre ++ (h ++ f)) ++ (encode k ++ (encode r ++ post)) ≡ S = simp append_assoc in
    let s3 : (pre ++ (h ++ (f ++ encode k))) ++ (encode r ++ post) ≡ S = simp append_assoc in
    let l2 : length (pre ++ (h ++ f)) ≡ s = simp length-append (omega arith) in
    let l3 : length (pre ++ (h ++ (f ++ encode k))) ≡ at' = simp length-append (omega arith) in
    let lb : length b ≡ m = length-append f (encode k) in
    let a : length h + m ≤ length (h ++ (f ++ (encode k ++ encode r))) = simp length-append (omega arith) in
    let z : length (h ++ (f ++ (encode k ++ encode r))) ≤ length (h ++ (b ++ (encode r ++ post))) = simp length-append (omega arith) in
    let fl : fields_length (kind_at q.place h) f ≡ length f = rw p g.1.1 in
    let fb : fields_length (kind_at q.place h) b ≡ length f = fields-append (kind_at q.place h) f (encode k) (omega arith) ∙ fl in
    let fe : x.fields ≡ take (fields_length (kind_at q.place h) b) b =
    node-fields q at m h f fl ∙ sym (rw fb (take_at f (encode k) (length f) refl)) in
    subst (λ (s : List ℕ). Each (Stands s) (boxes q at (node h f k r))) (sym s1) (
      one-stands c q at m (length (h ++ (f ++ (encode k ++ encode r)))) pre h b f (encode r ++ post) p l lb g.0 a z fe,
      each_append (Stands S) (boxes (into q x) s k) (boxes q at' r)
          (rw s2 at (stands (inside (kind_at c h)) (into q x) s k (pre ++ (h ++ f)) (encode r ++ post) (rw p) g.2 l2))
          (rw s3 at (stands c q at' r (pre ++ (h ++ (f ++ encode k))) post p g.3 l3)),
    )

-- a file that is a good tree's bytes
pub file-stands : (c : Place) (q : Spot) (t : Run) → q.place ≡ c → Good c t → Each (Stands (encode t)) (boxes q 0 t)
file-stands c q t p g = rw append-nil at (stands c q 0 t [] [] p g refl)

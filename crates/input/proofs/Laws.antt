-- What a read puts into the rest of a room stands behind what the room held. Assumes nothing.
use Rattle.std.proofs.Common.{◌≡◌, ℕ, ◌+◌, ◌≤◌, List, ◌++◌, length, take, subst, ap, ◌∙◌}
use Rattle.std.proofs.lemmas.List.{take-append-le, length-take-le}
use Rattle.std.proofs.Math.Seq.{take-append-add}
use borrow.Rule.Slice.PartMut.{put_mid, post_of}

pub read-behind : (a k n : ℕ) (xs ys : List ℕ) → a ≤ length xs → n ≤ length ys → take (a + n) (put_mid a k xs ys) ≡ take a xs ++ take n ys
read-behind a k n xs ys within fits =
    let whole = take-append-add (take a xs) (ys ++ post_of a k xs) n in
    subst (λ m. take (m + n) (put_mid a k xs ys) ≡ take a xs ++ take n ys) (length-take-le a xs within) (whole ∙ ap (λ l. take a xs ++ l) (take-append-le n ys _ fits))

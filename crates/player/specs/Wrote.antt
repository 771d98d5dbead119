-- What a put has done: the numbers xs stand from `at` on, and `next` is past them. Assumes nothing.
use Rattle.std.specs.Prelude.{◌≡◌, ℕ, ◌+◌, ◌*◌, List, length}
use Rattle.std.proofs.lemmas.List.Edits.{sets}
use Rattle.player.specs.Layout.{words}

pub record Wrote (o : List ℕ) (at : ℕ) (xs o' : List ℕ) (next : ℕ) : Type 0 where
  pub out : o' ≡ sets o at (words xs)
  pub past : next ≡ at + 8 * length xs

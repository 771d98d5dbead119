-- An array whose elements each have their default is that value over and over. Assumes nothing.
use Rattle.std.proofs.Common.{◌≡◌, ℕ, List, sym, ◌∙◌, arith, replicate}
use Rattle.std.specs.Array.{AllOfLen}
use Rattle.std.proofs.lemmas.List.{same_lists, length-replicate, get_or-replicate}

pub all-same : {A : Type 0} {P : A → Type 0} {v : A} {n : ℕ} (xs : List A) → ((x : A) → P x → x ≡ v) → AllOfLen P xs n → xs ≡ replicate n v
all-same {A} {P} {v} {n} xs f a =
    same_lists xs (replicate n v) (a.long ∙ sym (length-replicate n v))
    (λ k d l. f _ (a.at k d (omega (arith, l, a.long))) ∙ sym (get_or-replicate n k v d (omega (arith, l, a.long))))

-- What the walk keeps stays within its bounds with one box more. Assumes nothing.
use mathlib.Core.Path.{◌≡◌, refl, ◌∙◌}
use Prim.Native.Nat.{ℕ, ◌+◌, ◌≤◌, ◌<◌}
use native.Mathlib.Omega.{arith}
use mathlib.Core.Logic.{◌⊎◌, inl, inr}
use mathlib.Core.Bool.{Bool, true, false}
use mathlib.Core.List.{List}
use lib.ListN.{length, get_or, set, length-set}
use lib.Seq.{get_or-set_same, get_or-set_other}
use Rattle.std.proofs.lemmas.Bool.{cases_lt}
use Rattle.numbers.specs.Choice.{pick, pick-by}
use Rattle.format.specs.declared.Place.{Place}
use Rattle.format.specs.declared.Kind.{Kind}
use Rattle.format.specs.declared.Kind.TheVariants.{Odrm, Ohdr, Odrb}
use Rattle.format.specs.declared.Stretch.{Stretch}
use Rattle.format.specs.Kinds.{same_kind}
use Rattle.format.specs.Fields.{id_length}
use Rattle.format.specs.Report.{no_stretch}
use Rattle.boxes.specs.declared.Head.{Head}
use Rattle.walk.specs.declared.Kept.{Kept}
use Rattle.walk.specs.Keeping.{free_at, with_box}
use Rattle.walk.specs.Walking.{Named, Bound}

-- a stretch more behind the first h
named-more : (s : List ℕ) (l : List Stretch) (h : ℕ) (p : Stretch) → h < length l → p.offset + p.length ≤ length s → Named s l h
    → Named s (set l h p) (h + 1)
named-more s l h p m e f i j = go (cases_lt i h)
  where
    go : (i < h) ⊎ (h ≤ i) → (get_or (set l h p) i no_stretch).offset + (get_or (set l h p) i no_stretch).length ≤ length s
    go (inl k) = rw (get_or-set_other l h i p no_stretch (λ q. omega arith)) (f i k)
    go (inr k) = let q : i ≡ h = omega arith in rw (q, get_or-set_same l h p no_stretch m) e

named-add : (s : List ℕ) (l : List Stretch) (h : ℕ) (t : Bool) (p : Stretch) → (t ≡ true → (h < length l) × (p.offset + p.length ≤ length s))
    → Named s l h → Named s (pick t (set l h p) l) (pick t (h + 1) h)
named-add s l h true p g d = named-more s l h p (g refl).0 (g refl).1 d
named-add s l h false p g d = d

pub bound-add : (s : List ℕ) (x : Kept) (c : Place) (k : Kind) (at : ℕ) (h : Head) (b : List ℕ)
    → Bound s x → h.size ≤ 16777216 → (same_kind k Ohdr ≡ true → (x.tally.headers < 8) × (at + h.skip + 20 + id_length b ≤ length s))
    → Bound s (with_box x c k at h b)
unfolding with_box
bound-add s x c k at h b d l g = record {
  rights = pick-by (λ (n : ℕ). n ≤ x.count + 1) (same_kind k Odrb) _ _ (λ _. omega (arith, d.rights)) (λ _. omega (arith, d.rights));
  free = omega (arith, d.free, pick-by (λ (n : ℕ). n ≤ 16777216) (free_at c h.boxtype h.skip) h.size 0 (λ _. l) (λ _. omega arith));
  long = (
    pick-by (λ (l : List ℕ). length l ≡ 8) (same_kind k Odrm) _ _ (λ _. length-set x.starts _ _ ∙ d.long.0) (λ _. d.long.0),
    pick-by (λ (l : List Stretch). length l ≡ 8) (same_kind k Ohdr) _ _ (λ _. length-set x.ids _ _ ∙ d.long.1) (λ _. d.long.1),
  );
  named = named-add s x.ids x.tally.headers (same_kind k Ohdr) (record { offset = at + h.skip + 20; length = id_length b })
      (λ e. (omega (arith, (g e).0, d.long.1), (g e).1)) d.named;
}

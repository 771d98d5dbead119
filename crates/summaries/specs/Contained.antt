-- What is known of a container from the offset of its odrm: its four boxes stand in the bytes s, each where the one before it says.
-- Assumes nothing.
use Rattle.std.specs.Prelude.{◌≡◌, ℕ, ◌+◌, ◌≤◌, ◌<◌, List, length, get_or}
use Rattle.format.specs.declared.Kind.{Kind}
use Rattle.format.specs.declared.Kind.TheVariants.{Odrm, Odhe, Ohdr, Odda}
use Rattle.format.specs.Kinds.{ODDA, fields_length}
use Rattle.format.specs.Boxes.{Box, no_box, kind, start, Container}
use Rattle.format.specs.Allowed.{Fielded}
use Rattle.format.specs.Standing.{Stands}

-- a full box of this kind stands in s at this offset and depth, and its fields fit; an odda's header is long
pub record Opens (s : List ℕ) (k : Kind) (at depth : ℕ) (x : Box) : Type 0 where
  pub stands : Stands s x
  pub fielded : Fielded x
  pub of : kind x ≡ k
  pub full : 4 ≤ fields_length k x.fields
  pub here : x.at ≡ at
  pub deep : x.depth ≡ depth
  pub long : x.type ≡ ODDA → x.skip ≡ 16

abbrev pub FullAt : List ℕ → ℕ → ℕ → Type 0
FullAt s at depth = (k : Kind) × (x : Box) × Opens s k at depth x

-- an odrm's first box is its odhe, whose first box is the ohdr; its second box is the odda
pub record Contained (s : List ℕ) (at : ℕ) (c : Container) : Type 0 where
  pub odrm : Opens s Odrm at 0 c.odrm
  pub odhe : Opens s Odhe (start c.odrm) 1 c.odhe
  pub ohdr : Opens s Ohdr (start c.odhe) 2 c.ohdr
  pub odda : Opens s Odda (c.odhe.at + c.odhe.size) 1 c.odda

abbrev pub ContainerAt : List ℕ → ℕ → Type 0
ContainerAt s at = (c : Container) × Contained s at c

abbrev pub no_container : Container
no_container = record { odrm = no_box; odhe = no_box; ohdr = no_box; odda = no_box }

-- the first n of starts are the offsets of the odrm of n containers, which a summary each is made of
pub record Begun (s starts : List ℕ) (n : ℕ) : Type 0 where
  pub few : n ≤ 8
  pub told : n ≤ length starts
  pub each : (i : ℕ) → i < n → ContainerAt s (get_or starts i 0)

-- these containers are those n
pub record Listed (s starts : List ℕ) (n : ℕ) (cs : List Container) : Type 0 where
  pub count : length cs ≡ n
  pub each : (i : ℕ) → i < n → Contained s (get_or starts i 0) (get_or cs i no_container)

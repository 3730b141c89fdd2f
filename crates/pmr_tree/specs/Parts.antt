-- The ids of a leaf, parted among the four children of its block.
use Rattle.std.specs.Prelude.{◌≡◌, ◌↔◌, IsTrue, ℕ, Bool, cond, List, [], ◌∷◌, ◌++◌, filter}
use Rattle.sand_base.specs.declared.goal.Goal.TheVariants as figure
use Rattle.sand_base.specs.declared.shape.Shape.{Shape}
use Rattle.z_code.specs.Block.{child, square_of}
use Rattle.z_code.specs.declared.block.Block.{Block}
use Rattle.sand_model.specs.FigureGap.{IsMeeting}
use Rattle.pmr_tree.specs.Lists.{put_all, take_all}
use Rattle.sand_model.specs.Tree.{union}
use Rattle.pmr_tree.specs.Keys.{leaf_keys}
use Rattle.pmr_tree.specs.Leaves.{ListPasses, ids_of, HasLeafIds}
use Rattle.pmr_tree.specs.declared.leaf.Kept.{Kept}
use Rattle.pmr_tree.specs.declared.part.QuartersMet.{QuartersMet}
use Rattle.pmr_tree.specs.declared.part.Parts.{Parts}

-- the four answers are those of a test of the four children
pub record AreQuarters (holds : Block → Bool) (b : Block) (met : QuartersMet) : Type 0 where
  pub first : met.first ≡ holds (child b 0)
  pub second : met.second ≡ holds (child b 1)
  pub third : met.third ≡ holds (child b 2)
  pub fourth : met.fourth ≡ holds (child b 3)

-- the answer tells whether the shape meets the square of the block
abbrev pub TellsMeeting : Shape → Block → Bool → Type 0
TellsMeeting s b met = IsTrue met ↔ IsMeeting (figure.Shape s) (figure.Rect (square_of b))

-- the four answers tell which children's squares the shape meets
pub record MeetsQuarters (s : Shape) (b : Block) (met : QuartersMet) : Type 0 where
  pub first : TellsMeeting s (child b 0) met.first
  pub second : TellsMeeting s (child b 1) met.second
  pub third : TellsMeeting s (child b 2) met.third
  pub fourth : TellsMeeting s (child b 3) met.fourth

-- each child has got those of the ids whose shapes meet its square
pub record AreParts (m : Block → ℕ → Bool) (b : Block) (list : List Kept) (parts : Parts) : Type 0 where
  pub first : parts.first.items ≡ filter (λ k. m (child b 0) k.id) list
  pub second : parts.second.items ≡ filter (λ k. m (child b 1) k.id) list
  pub third : parts.third.items ≡ filter (λ k. m (child b 2) k.id) list
  pub fourth : parts.fourth.items ≡ filter (λ k. m (child b 3) k.id) list

-- the id is the last of those parts that it belongs to
pub record GainsId (met : QuartersMet) (k : Kept) (old new : Parts) : Type 0 where
  pub first : new.first.items ≡ old.first.items ++ cond met.first (k ∷ []) []
  pub second : new.second.items ≡ old.second.items ++ cond met.second (k ∷ []) []
  pub third : new.third.items ≡ old.third.items ++ cond met.third (k ∷ []) []
  pub fourth : new.fourth.items ≡ old.fourth.items ++ cond met.fourth (k ∷ []) []

-- each id of the four parts passes the test
pub record PartsPass (test : ℕ → ℕ → Bool) (parts : Parts) : Type 0 where
  pub first : ListPasses test parts.first.items
  pub second : ListPasses test parts.second.items
  pub third : ListPasses test parts.third.items
  pub fourth : ListPasses test parts.fourth.items

-- keys with those of four leaves more, the children of a block with the ids of their parts
abbrev pub with_parts : Block → Parts → List ℕ → List ℕ
with_parts b parts ks =
    put_all (leaf_keys (child b 3) (ids_of parts.fourth.items))
    (put_all (leaf_keys (child b 2) (ids_of parts.third.items))
    (put_all (leaf_keys (child b 1) (ids_of parts.second.items))
    (put_all (leaf_keys (child b 0) (ids_of parts.first.items)) ks)))

-- keys without those of four leaves, the children of a block with the ids of their parts
abbrev pub without_parts : Block → Parts → List ℕ → List ℕ
without_parts b parts ks =
    take_all (leaf_keys (child b 3) (ids_of parts.fourth.items))
    (take_all (leaf_keys (child b 2) (ids_of parts.third.items))
    (take_all (leaf_keys (child b 1) (ids_of parts.second.items))
    (take_all (leaf_keys (child b 0) (ids_of parts.first.items)) ks)))

-- the four children of a block are leaves with these ids
pub record AreLeaves (b : Block) (ks : List ℕ) (parts : Parts) : Type 0 where
  pub first : HasLeafIds (child b 0) ks (ids_of parts.first.items)
  pub second : HasLeafIds (child b 1) ks (ids_of parts.second.items)
  pub third : HasLeafIds (child b 2) ks (ids_of parts.third.items)
  pub fourth : HasLeafIds (child b 3) ks (ids_of parts.fourth.items)

-- the ids of the four parts together
abbrev pub ids_together : Parts → List ℕ
ids_together parts = union (ids_of parts.first.items) (union (ids_of parts.second.items) (union (ids_of parts.third.items) (union (ids_of parts.fourth.items) [])))

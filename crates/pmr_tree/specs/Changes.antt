-- What growing and shrinking do to the keys of a block.
use Rattle.std.specs.Prelude.{◌≡◌, ℕ, ◌<◌, Bool, false, cond, ◌||◌, List, Contains}
use Rattle.sand_base.specs.declared.TheConstants.{COORDINATE_BITS}
use Rattle.z_code.specs.Block.{IsBlock, child}
use Rattle.z_code.specs.declared.block.Block.{Block}
use Rattle.sand_model.specs.Tree.{Tree, Leaf, Inner, add, grown, split, merged, without}
use Rattle.pmr_tree.specs.Lists.{RiseStrictly}
use Rattle.pmr_tree.specs.Keys.{ReadsKeys, outside, IsId}

-- a shape meets a square exactly where it meets one of its four closed quarters
abbrev pub Quarters : (Block → ℕ → Bool) → Type 0
Quarters meets = (b : Block) (id : ℕ) → IsBlock b → b.level < COORDINATE_BITS
    → meets b id ≡ (meets (child b 0) id || (meets (child b 1) id || (meets (child b 2) id || meets (child b 3) id)))

-- the keys ascend, and those inside a block are the keys of a tree
pub record KeysStand (b : Block) (ks : List ℕ) : Type 0 where
  pub rises : RiseStrictly ks
  pub tree : Tree
  pub reads : ReadsKeys b ks tree

-- the tree of a block changed, and nothing else
pub record Becomes (b : Block) (change : Tree → Tree) (old new : List ℕ) : Type 0 where
  pub rises : RiseStrictly new
  pub elsewhere : outside b new ≡ outside b old
  pub here : (tree : Tree) → ReadsKeys b old tree → ReadsKeys b new (change tree)

-- a tree grown by an id, where only children that meet its shape are looked at
abbrev pub grown_where : (Block → ℕ → Bool) → ℕ → ℕ → Block → Tree → Tree
grown_where meets threshold id b (Leaf ids) = grown meets threshold id b (Leaf ids)
grown_where meets threshold id b (Inner p q r s) =
    cond (meets b id)
    (Inner (grown_where meets threshold id (child b 0) p) (grown_where meets threshold id (child b 1) q)
    (grown_where meets threshold id (child b 2) r) (grown_where meets threshold id (child b 3) s))
    (Inner p q r s)

-- a tree shrunk by an id, where only children that meet its shape are looked at
abbrev pub shrunk_where : (Block → ℕ → Bool) → ℕ → ℕ → Block → Tree → Tree
shrunk_where meets threshold id b (Leaf ids) = cond (meets b id) (Leaf (without id ids)) (Leaf ids)
shrunk_where meets threshold id b (Inner p q r s) =
    cond (meets b id)
    (merged threshold (shrunk_where meets threshold id (child b 0) p) (shrunk_where meets threshold id (child b 1) q)
    (shrunk_where meets threshold id (child b 2) r) (shrunk_where meets threshold id (child b 3) s))
    (Inner p q r s)

-- the id is in no leaf of the tree of a block whose square its shape does not meet
abbrev pub ListsWhere : (Block → ℕ → Bool) → ℕ → Block → Tree → Type 0
ListsWhere meets id b (Leaf ids) = meets b id ≡ false → Contains ids id → ⊥
ListsWhere meets id b (Inner p q r s) =
    ListsWhere meets id (child b 0) p
    × (ListsWhere meets id (child b 1) q × (ListsWhere meets id (child b 2) r × ListsWhere meets id (child b 3) s))

-- a leaf with an id more
abbrev pub entered : ℕ → Tree → Tree
entered id (Leaf ids) = Leaf (add id ids)
entered id (Inner p q r s) = Inner p q r s

-- a leaf in whose place come four, each with those of the ids whose shapes meet its square
abbrev pub split_leaf : (Block → ℕ → Bool) → Block → List ℕ → Tree → Tree
split_leaf meets b ids (Leaf listed) = split meets b ids
split_leaf meets b ids (Inner p q r s) = Inner p q r s

-- ids with one more among them
pub record IsOneMore (ids all : List ℕ) : Type 0 where
  pub id : ℕ
  pub is_id : IsId id
  pub is : all ≡ add id ids

-- a leaf with an id less
abbrev pub left : ℕ → Tree → Tree
left id (Leaf ids) = Leaf (without id ids)
left id (Inner p q r s) = Inner p q r s

-- an inner place whose children have shrunk, not merged yet
abbrev pub below_shrunk : (Block → ℕ → Bool) → ℕ → ℕ → Block → Tree → Tree
below_shrunk meets threshold id b (Leaf ids) = Leaf ids
below_shrunk meets threshold id b (Inner p q r s) =
    Inner (shrunk_where meets threshold id (child b 0) p) (shrunk_where meets threshold id (child b 1) q)
    (shrunk_where meets threshold id (child b 2) r) (shrunk_where meets threshold id (child b 3) s)

-- an inner place merged where its four leaves have too few ids
abbrev pub merging : ℕ → Tree → Tree
merging threshold (Leaf ids) = Leaf ids
merging threshold (Inner p q r s) = merged threshold p q r s

-- an inner place whose children have grown
abbrev pub below_grown : (Block → ℕ → Bool) → ℕ → ℕ → Block → Tree → Tree
below_grown meets threshold id b (Leaf ids) = Leaf ids
below_grown meets threshold id b (Inner p q r s) =
    Inner (grown_where meets threshold id (child b 0) p) (grown_where meets threshold id (child b 1) q)
    (grown_where meets threshold id (child b 2) r) (grown_where meets threshold id (child b 3) s)

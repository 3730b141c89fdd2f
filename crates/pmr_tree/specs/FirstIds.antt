-- What a change reads of a leaf: all of its ids, or at the finest level, where a leaf may have any number of them, the first alone.
use Rattle.std.specs.Prelude.{◌≡◌, ◌≢◌, ◌⊎◌, ℕ, ◌+◌, ◌<◌, ◌≤◌, List, [], length, take}
use Rattle.sand_base.specs.declared.TheConstants.{COORDINATE_BITS}
use Rattle.z_code.specs.Block.{child}
use Rattle.z_code.specs.declared.block.Block.{Block}
use Rattle.pmr_tree.specs.Keys.{own, ids_in}
use Rattle.pmr_tree.specs.Leaves.{own_pairs}
use Rattle.pmr_tree.specs.Listing.{Pair}

-- the list is all of the whole, or both have at least so many
abbrev pub IsUpTo : ℕ → List ℕ → List ℕ → Type 0
IsUpTo most whole list = (list ≡ whole) ⊎ ((most ≤ length whole) × (most ≤ length list))

-- the block has keys of its own, and these are their ids; of a block of the finest level they may be fewer, but at least so many
pub record HasFirstIds (b : Block) (most : ℕ) (ks ids : List ℕ) : Type 0 where
  pub some : own b ks ≢ []
  pub up_to : IsUpTo most (ids_in (own b ks)) ids
  pub whole : b.level < COORDINATE_BITS → ids ≡ ids_in (own b ks)

-- the pairs are the entries of the block itself; of a block of the finest level they may be the first ones alone, one more than so many
abbrev pub AreFirstPairs : Block → ℕ → List Pair → List Pair → Type 0
AreFirstPairs b most es pairs = (pairs ≡ own_pairs b es) ⊎ ((COORDINATE_BITS ≤ b.level) × (pairs ≡ take (most + 1) (own_pairs b es)))

-- the block is an inner place, or a leaf of at least so many ids
abbrev pub IsLarge : ℕ → Block → List ℕ → Type 0
IsLarge most b ks = (own b ks ≡ []) ⊎ (most ≤ length (ids_in (own b ks)))

-- one of the four children of a block is an inner place, or has at least so many ids
abbrev pub HasLargeChild : ℕ → Block → List ℕ → Type 0
HasLargeChild most b ks = IsLarge most (child b 0) ks ⊎ (IsLarge most (child b 1) ks ⊎ (IsLarge most (child b 2) ks ⊎ IsLarge most (child b 3) ks))

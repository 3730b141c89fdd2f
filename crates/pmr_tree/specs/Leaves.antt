-- The ids of a leaf with their values, as code reads and writes them; how a call ended.
use Rattle.std.specs.Prelude.{◌≡◌, ◌≢◌, ℕ, ◌+◌, ◌-◌, ◌*◌, ◌/◌, ◌%◌, ◌≤◌, ◌^◌, Bool, true, cond, ◌&&◌, List, [], length, map, filter, not, nat_eq, nat_lt, min, Option, None, Some, Result, Ok, Err}
use Rattle.sand_base.specs.declared.TheConstants.{COORDINATE_BITS}
use Rattle.z_code.specs.declared.block.Block.{Block}
use Rattle.pmr_tree.specs.Lists.{Each, is_from_to}
use Rattle.pmr_tree.specs.Keys.{mark_of, own, id_in, ids_in}
use Rattle.pmr_tree.specs.declared.leaf.Kept.{Kept}
use Rattle.pmr_tree.specs.Listing.{Pair, listed_in}
use Rattle.pmr_tree.specs.declared.listed.Node.{Node}
use Rattle.pmr_tree.specs.declared.listed.Node.TheVariants as node

-- the keys of entries
abbrev pub firsts : List Pair → List ℕ
firsts es = map (λ e. e.0) es

-- each entry of an id passes the test, which is of the id and the value
abbrev pub Passes : (ℕ → ℕ → Bool) → List Pair → Type 0
Passes test es = Each (λ e. 1 ≤ id_in e.0 → test (id_in e.0) e.1 ≡ true) es

-- the entries of the block itself
abbrev pub own_pairs : Block → List Pair → List Pair
own_pairs b es = filter (λ e. is_from_to (mark_of b) (mark_of b + 2 ^ 32) e.0) es

-- the ids among the entries of a leaf, with their values
abbrev pub kept_of : List Pair → List Kept
kept_of es = filter (λ k. not (nat_eq k.id 0)) (map (λ e. record { id = id_in e.0; value = e.1 }) es)

-- the ids alone
abbrev pub ids_of : List Kept → List ℕ
ids_of list = map (λ k. k.id) list

-- each id of the list passes the test
abbrev pub ListPasses : (ℕ → ℕ → Bool) → List Kept → Type 0
ListPasses test list = Each (λ k. test k.id k.value ≡ true) list

-- the test of an id alone
abbrev pub id_test : (ℕ → Bool) → ℕ → ℕ → Bool
id_test has id value = has id

-- the block has keys of its own, and these are their ids
pub record HasLeafIds (b : Block) (ks ids : List ℕ) : Type 0 where
  pub some : own b ks ≢ []
  pub ids_are : ids ≡ ids_in (own b ks)

-- some function tells which squares the shapes of all listed ids meet, and that of one id more
pub record Told (Tells : (Block → ℕ → Bool) → (ℕ → Bool) → Type 0) (es : List Pair) (id : ℕ) : Type 0 where
  pub meets : Block → ℕ → Bool
  pub has : ℕ → Bool
  pub told : Tells meets has
  pub listed : Passes (id_test has) es
  pub one : has id ≡ true

-- the refusal of a call, if it was refused
abbrev pub fault_of : {T E : Type 0} → Result T E → Option E
fault_of (Ok x) = None
fault_of (Err e) = Some e

-- the place of a block whose own entries these are
abbrev pub place_of_entries : Block → List Pair → Node
place_of_entries b es = cond (nat_eq (length es) 0 && nat_lt b.level COORDINATE_BITS) node.Inner (node.Leaf (listed_in es))

-- the ids alone among the entries of a leaf
abbrev pub ids_at : List Pair → List ℕ
ids_at es = filter (λ id. not (nat_eq id 0)) (map (λ e. id_in e.0) es)

-- the greatest key that a leaf with the code may have
abbrev pub last_key : ℕ → ℕ
last_key z = z * 2 ^ 40 + (2 ^ 40 - 1)

-- the level in the key of an entry; without one, and of a key that no block has, the finest
abbrev pub level_in : Option Pair → ℕ
level_in None = COORDINATE_BITS
level_in (Some e) = min (e.0 / 2 ^ 32 % 256) COORDINATE_BITS

-- Leaves read one after the other: what one gives at a place, and where the next pair stands.
use Rattle.std.specs.Prelude.{◌≡◌, ℕ, ◌+◌, ◌-◌, ◌≤◌, ◌<◌, ◌⊎◌, ◌^◌, List, [], ◌∷◌, ◌++◌, length, drop, true, Option, Some, MatchOption}
use Rattle.page_pool.specs.Pool.{PoolState, IsTold}
use Rattle.code_btree.specs.declared.chain.Given.{Given}
use Rattle.code_btree.specs.declared.map.Tree.{Tree}
use Rattle.code_btree.specs.declared.steps.Spot.{Spot}
use Rattle.code_btree.specs.Node.{Pair, leaf, node_of, entries_of, next_of, IsLeafOf, entry_key}
use Rattle.code_btree.specs.Items.{items_from}
use Rattle.code_btree.specs.Tree.{Store, items, links, node, pages_in}
use Rattle.code_btree.specs.Run.{chained, BeginsAt, StandsAt, least_left, pairs_to_come}

-- An entry of a leaf, where one stands at this place; and where the next pair stands, behind it or at the start of the next leaf.
pub record GivesEntry (es : List Pair) (next n at : ℕ) (g : Given) : Type 0 where
  pub pair : MatchOption g.pair (length es ≤ at) (λ e. (at < length es) × (drop at es ≡ e ∷ drop (at + 1) es))
  pub spot : ((g.leaf ≡ n) × (g.place ≡ at + 1) × (at + 1 < length es)) ⊎ ((g.leaf ≡ next) × (g.place ≡ 0) × (length es ≤ at + 1))

-- the page at this number gave this, or it is no leaf
pub record IsGivenIn (m : Store) (n at : ℕ) (g : Given) : Type 0 where
  pub page : List ℕ
  pub read : m n ≡ Some page
  pub step : node_of page ≡ leaf (entries_of (node_of page)) (next_of (node_of page)) → GivesEntry (entries_of (node_of page)) (next_of (node_of page)) n at g

-- where a key stands or would stand in a leaf, and what the leaf gives there
pub record RankGives (page : List ℕ) (n key : ℕ) (g : Given) : Type 0 where
  pub count : ℕ
  pub at : ℕ
  pub is : IsLeafOf page count
  pub place : at ≤ count
  pub before : 1 ≤ at → entry_key page (at - 1) < key
  pub behind : at < count → key ≤ entry_key page at
  pub gives : GivesEntry (entries_of (node_of page)) (next_of (node_of page)) n at g

-- the page at this number gave this for a key, or it is no leaf
pub record IsGivenFrom (m : Store) (n key : ℕ) (g : Given) : Type 0 where
  pub page : List ℕ
  pub read : m n ≡ Some page
  pub step : node_of page ≡ leaf (entries_of (node_of page)) (next_of (node_of page)) → RankGives page n key g

-- A leaf under page n gave this, and the pairs under it from the key on begin there.
pub record Seeks (m : Store) (level n key : ℕ) (g : Given) : Type 0 where
  pub before : List (ℕ × ℕ)
  pub behind : List (ℕ × ℕ)
  pub leaf : ℕ
  pub next : ℕ
  pub at : ℕ
  pub chain : links m level n ≡ before ++ ((leaf, next) ∷ behind)
  pub from : items_from key (items m level n) ≡ drop at (entries_of (node m leaf)) ++ chained m behind
  pub gives : GivesEntry (entries_of (node m leaf)) next leaf at g

-- the first of these pairs is this, and the others begin at this place
pub record FollowsPair (m : Store) (t : Tree) (es : List Pair) (e : Pair) (leaf place : ℕ) : Type 0 where
  pub rest : List Pair
  pub first : es ≡ e ∷ rest
  pub begins : BeginsAt m t leaf place rest

-- the first of these pairs was given, or there are none
abbrev pub IsFirstOf : Store → Tree → List Pair → Given → Type 0
IsFirstOf m t es g = MatchOption g.pair (es ≡ []) (λ e. FollowsPair m t es e g.leaf g.place)

-- A step from a spot gave a pair and the spot behind it, or found none. Over any disk keys rise.
pub record IsGiven (old : PoolState) (s : Spot) (g : Pair × Spot) : Type 0 where
  pub told : IsTold old → (pairs_to_come (pages_in old) s ≡ g.0 ∷ pairs_to_come (pages_in old) g.1) × StandsAt (pages_in old) g.1
  pub least : least_left s ≤ g.0.0
  pub small : g.0.0 < 2 ^ 128
  pub tree : g.1.tree ≡ s.tree
  pub begun : g.1.begun ≡ true
  pub from : g.1.from ≡ g.0.0

-- the same, or there is none where the disk tells
abbrev pub IsStep : PoolState → Spot → Option (Pair × Spot) → Type 0
IsStep old s r = MatchOption r (IsTold old → pairs_to_come (pages_in old) s ≡ []) (λ g. IsGiven old s g)

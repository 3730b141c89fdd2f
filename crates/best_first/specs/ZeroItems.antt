-- What a search within the distance 0 has still to take: nodes, and rough objects and rows by their ids.
use Rattle.std.specs.Prelude.{◌≡◌, ℕ, ◌<◌, ◌≤◌, ◌++◌, ◌+◌, ◌*◌, ◌/◌, ◌%◌, min, ⊤, Bool, cond, nat_eq, List, [], ◌∷◌, All, Contains, IsPermutation, filter, flat_map, map}
use Rattle.best_first.specs.RowsAtZero.{zero_gap, row_at_zero}
use Rattle.best_first.specs.declared.item.Item.{Item}
use Rattle.best_first.specs.declared.item.Item.TheVariants.{Node, Rough, Row}
use Rattle.best_first.specs.Item.{gap_of, nodes_of}

-- ---- sets of ids

-- A set of ids, none twice, and a bound that all are below.
pub record IdsBelow : Type 0 where
  pub ids : List ℕ
  pub below : ℕ

-- the bits of the words that the ids below a count need
abbrev pub bits_for : ℕ → ℕ
bits_for count = 64 * (count / 64 + min 1 (count % 64))

-- the id is in the list, and no lesser one is
abbrev pub IsLeastOf : ℕ → List ℕ → Type 0
IsLeastOf id ids = Contains ids id × All (λ other. id ≤ other) ids

-- The ids were put into a set: what was there already is left out, and is there afterwards.
pub record PutIn (added old new : List ℕ) : Type 0 where
  pub again : List ℕ
  pub split : IsPermutation (added ++ old) (again ++ new)
  pub there : All (Contains new) again

-- the least id left the set
abbrev pub TakesLeast : ℕ → List ℕ → List ℕ → Type 0
TakesLeast id old new = IsPermutation old (id ∷ new) × All (λ other. id < other) new

-- ---- what is queued

-- Nodes, the last to be opened first, and the ids of rough objects and of rows, all at the distance 0; ids below the bound have bits.
pub record ZeroItems (N : Type 0) : Type 0 where
  pub nodes : List N
  pub roughs : List ℕ
  pub rows : List ℕ
  pub below : ℕ

-- a node at the distance 0
abbrev pub node_at_zero : {N : Type 0} → N → Item N
node_at_zero node = Node zero_gap node

-- the rough object of this id at the distance 0
abbrev pub rough_at_zero : {N : Type 0} → ℕ → Item N
rough_at_zero id = Rough zero_gap id 0

-- what is queued, as items of a frontier
abbrev pub items_of : {N : Type 0} → ZeroItems N → List (Item N)
items_of q = map node_at_zero q.nodes ++ (map rough_at_zero q.roughs ++ map row_at_zero q.rows)

-- rows alone are queued
abbrev pub AreRows : {N : Type 0} → ZeroItems N → Type 0
AreRows q = (q.nodes ≡ []) × (q.roughs ≡ [])

-- ---- what an expansion finds

-- whether an item is at the distance 0
abbrev pub is_at_zero : {N : Type 0} → Item N → Bool
is_at_zero item = nat_eq (gap_of item).num 0

-- the item's left id, if it is a rough object
abbrev pub rough_id_in : {N : Type 0} → Item N → List ℕ
rough_id_in (Node gap node) = []
rough_id_in (Rough gap left right) = left ∷ []
rough_id_in (Row gap left right) = []

-- the item's left id, if it is a row
abbrev pub row_id_in : {N : Type 0} → Item N → List ℕ
row_id_in (Node gap node) = []
row_id_in (Rough gap left right) = []
row_id_in (Row gap left right) = left ∷ []

-- the item is a node, or its left id is below the bound
abbrev pub HasBit : {N : Type 0} → ℕ → Item N → Type 0
HasBit below (Node gap node) = ⊤
HasBit below (Rough gap left right) = left < below
HasBit below (Row gap left right) = left < below

-- the items at the distance 0
abbrev pub at_zero : {N : Type 0} → List (Item N) → List (Item N)
at_zero items = filter is_at_zero items

-- A node was opened: the nodes that were found at the distance 0 take its place, in any order, and the ids of the rough objects and rows found there are put in. The same ids have bits.
pub record OpensNode {N : Type 0} (rest : List N) (found : List (Item N)) (old new : ZeroItems N) : Type 0 where
  pub nodes : IsPermutation (nodes_of (at_zero found) ++ rest) new.nodes
  pub roughs : PutIn (flat_map rough_id_in (at_zero found)) old.roughs new.roughs
  pub rows : PutIn (flat_map row_id_in (at_zero found)) old.rows new.rows
  pub below : new.below ≡ old.below

-- the id, where its row is at the distance 0
abbrev pub row_if : Bool → ℕ → List ℕ
row_if is_near id = cond is_near (id ∷ []) []

-- A rough object was fetched: its id leaves, and is put in among the rows where its row is at the distance 0.
pub record Fetches {N : Type 0} (id : ℕ) (is_near : Bool) (old new : ZeroItems N) : Type 0 where
  pub nodes : new.nodes ≡ old.nodes
  pub roughs : TakesLeast id old.roughs new.roughs
  pub rows : PutIn (row_if is_near id) old.rows new.rows

-- A row was given: its id leaves.
pub record GivesId {N : Type 0} (id : ℕ) (old new : ZeroItems N) : Type 0 where
  pub nodes : new.nodes ≡ old.nodes
  pub roughs : new.roughs ≡ old.roughs
  pub rows : TakesLeast id old.rows new.rows

-- The meaning of a hierarchy: a finite tree of nodes under lower bounds of distances (filter step), the items of its
-- leaves, and the rows with their exact gaps (refinement step). After G. Hjaltason and H. Samet (1999).
use Rattle.std.specs.List.{AllZip}
use Rattle.std.specs.Prelude.{◌≡◌, ℕ, ◌++◌, List, ◌∷◌, Bool, Option, All, Contains, filter, flat_map, ⊤}
use Rattle.std.specs.declared.cmp.Ordering.{Ordering}
use Rattle.std.specs.declared.cmp.Ordering.TheVariants.{Equal}
use Rattle.exact_frac.specs.declared.frac.Frac.{Frac}
use Rattle.best_first.specs.declared.hit.Hit.{Hit}
use Rattle.best_first.specs.declared.item.Item.{Item}
use Rattle.best_first.specs.declared.item.Item.TheVariants.{Node, Rough, Row}
use Rattle.best_first.specs.Item.{gap_of, nodes_of, roughs_of, IsAlike, IsSameRow}
use Rattle.best_first.specs.Reach.{IsSameGap, IsAtMost}

-- What must hold of the pages so that the hierarchy can be read; the root; each node's gap; what an expansion of a node finds, its children
-- with their gaps or the items of the leaf; the node with all nodes below it; the rows; the ceiling; and what a visit of a node or a rough
-- object may cost in page gets. A value that is no node of the tree finds nothing and has itself alone below it.
pub record Meaning (N : Type 0) : Type 1 where
  pub IsReadable : Type 0
  pub root : N
  pub gap : N → Frac
  pub finds : N → List (Item N)
  pub under : N → List N
  pub rows : List Hit
  pub ceiling : Option ℕ
  pub price : Item N → ℕ

-- the node is one of the tree
abbrev pub IsNode : {N : Type 0} → Meaning N → N → Type 0
IsNode m node = Contains (m.under m.root) node

-- the item shows the row: it is the row, or the row's rough object under a gap that is at most the row's
abbrev pub Shows : {N : Type 0} → Hit → Item N → Type 0
Shows hit (Node gap node) = ⊥
Shows hit (Rough gap left right) = (left ≡ hit.left) × (right ≡ hit.right) × IsAtMost gap hit.gap
Shows hit (Row gap left right) = IsSameRow (record { gap = gap; left = left; right = right }) hit

-- a leaf at or below the node lists an item that shows the row
pub record IsListedUnder {N : Type 0} (m : Meaning N) (node : N) (hit : Hit) : Type 0 where
  pub leaf : N
  pub below : Contains (m.under node) leaf
  pub item : Item N
  pub listed : Contains (m.finds leaf) item
  pub shows : Shows hit item

-- one of the rows is this one
pub record HasRow {N : Type 0} (m : Meaning N) (hit : Hit) : Type 0 where
  pub row : Hit
  pub among : Contains m.rows row
  pub same : IsSameRow row hit

-- a node is listed under its own gap
abbrev pub HasGap : {N : Type 0} → Meaning N → Item N → Type 0
HasGap m (Node gap node) = IsSameGap gap (m.gap node)
HasGap m (Rough gap left right) = ⊤
HasGap m (Row gap left right) = ⊤

-- a listed row is one of the rows, with its gap
abbrev pub IsHonest : {N : Type 0} → Meaning N → Item N → Type 0
IsHonest m (Node gap node) = ⊤
IsHonest m (Rough gap left right) = ⊤
IsHonest m (Row gap left right) = HasRow m (record { gap = gap; left = left; right = right })

-- The laws of a hierarchy; gaps count by their values. It can be read; the tree is that of its expansions, and finite; a node has one gap;
-- no child and no item is nearer than its node; a listed row is honest; each row is listed, exactly or rough; a row has one gap.
pub record MeetsLaws {N : Type 0} (m : Meaning N) : Type 0 where
  pub readable : m.IsReadable
  pub unfolds : (node : N) → m.under node ≡ node ∷ flat_map m.under (nodes_of (m.finds node))
  pub gaps : (node : N) → All (HasGap m) (m.finds node)
  pub bound : (node : N) → All (λ item. IsAtMost (m.gap node) (gap_of item)) (m.finds node)
  pub honest : (node : N) → All (IsHonest m) (m.finds node)
  pub covers : (hit : Hit) → Contains m.rows hit → IsListedUnder m m.root hit
  pub once : (hit other : Hit) → Contains m.rows hit → Contains m.rows other → hit.left ≡ other.left → hit.right ≡ other.right → IsSameGap hit.gap other.gap

-- nodes that the order does not tell apart are one
abbrev pub IsExact : {N : Type 0} → (N → N → Ordering) → Type 0
IsExact {N} cmp = (a b : N) → cmp a b ≡ Equal → a ≡ b

-- the items were added at the end of the list, each as the meaning has it
pub record FindsAlike {N : Type 0} (finds old new : List (Item N)) : Type 0 where
  pub found : List (Item N)
  pub adds : new ≡ old ++ found
  pub alike : AllZip IsAlike found finds

-- some leaf of the tree lists the object of these ids as rough
pub record IsRoughListed {N : Type 0} (m : Meaning N) (left right : ℕ) : Type 0 where
  pub leaf : N
  pub node : IsNode m leaf
  pub gap : Frac
  pub listed : Contains (m.finds leaf) (Rough gap left right)

-- the nodes that a search of this reach takes in
abbrev pub near : {N : Type 0} → Meaning N → (Frac → Bool) → List N → List N
near m reach nodes = filter (λ node. reach (m.gap node)) nodes

-- the items that a search of this reach takes in
abbrev pub kept : {N : Type 0} → (Frac → Bool) → List (Item N) → List (Item N)
kept reach items = filter (λ item. reach (gap_of item)) items

-- the nodes of the tree within the reach
abbrev pub nodes_within : {N : Type 0} → Meaning N → (Frac → Bool) → List N
nodes_within m reach = near m reach (m.under m.root)

-- the rough objects that the leaves list within the reach, once for each leaf
abbrev pub listed_roughs_within : {N : Type 0} → Meaning N → (Frac → Bool) → List (Item N)
listed_roughs_within m reach = kept reach (flat_map (λ node. roughs_of (m.finds node)) (m.under m.root))

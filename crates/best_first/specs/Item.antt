-- What the frontier of a best-first search holds: nodes, rough objects and rows, each under a gap.
use Rattle.std.specs.Prelude.{◌≡◌, List, [], ◌∷◌, flat_map}
use Rattle.exact_frac.specs.declared.frac.Frac.{Frac}
use Rattle.best_first.specs.declared.hit.Hit.{Hit}
use Rattle.best_first.specs.declared.item.Item.{Item}
use Rattle.best_first.specs.declared.item.Item.TheVariants.{Node, Rough, Row}
use Rattle.best_first.specs.Reach.{IsSameGap}

-- the squared distance under which an item stands
abbrev pub gap_of : {N : Type 0} → Item N → Frac
gap_of (Node gap node) = gap
gap_of (Rough gap left right) = gap
gap_of (Row gap left right) = gap

-- a row of the answer, as the frontier holds it
abbrev pub row_item : {N : Type 0} → Hit → Item N
row_item hit = Row hit.gap hit.left hit.right

-- the item's node, if it is one
abbrev pub node_if_any : {N : Type 0} → Item N → List N
node_if_any (Node gap node) = node ∷ []
node_if_any (Rough gap left right) = []
node_if_any (Row gap left right) = []

-- the item itself, if it is a rough object
abbrev pub rough_of : {N : Type 0} → Item N → List (Item N)
rough_of (Node gap node) = []
rough_of (Rough gap left right) = Rough gap left right ∷ []
rough_of (Row gap left right) = []

-- the nodes among the items
abbrev pub nodes_of : {N : Type 0} → List (Item N) → List N
nodes_of items = flat_map node_if_any items

-- the rough objects among the items
abbrev pub roughs_of : {N : Type 0} → List (Item N) → List (Item N)
roughs_of items = flat_map rough_of items

-- the two items stand for one: both are the same node, or are rough objects or rows of the same ids, under gaps of one value
abbrev pub IsAlike : {N : Type 0} → Item N → Item N → Type 0
IsAlike (Node g a) (Node h b) = IsSameGap g h × (a ≡ b)
IsAlike (Node g a) (Rough h k s) = ⊥
IsAlike (Node g a) (Row h k s) = ⊥
IsAlike (Rough g l r) (Node h b) = ⊥
IsAlike (Rough g l r) (Rough h k s) = IsSameGap g h × (l ≡ k) × (r ≡ s)
IsAlike (Rough g l r) (Row h k s) = ⊥
IsAlike (Row g l r) (Node h b) = ⊥
IsAlike (Row g l r) (Rough h k s) = ⊥
IsAlike (Row g l r) (Row h k s) = IsSameGap g h × (l ≡ k) × (r ≡ s)

-- the two rows have the same ids and gaps of one value
abbrev pub IsSameRow : Hit → Hit → Type 0
IsSameRow a b = IsSameGap a.gap b.gap × (a.left ≡ b.left) × (a.right ≡ b.right)

-- Where a search stands: its frontier, the last row that it gave, and what it has taken from the frontier.
use Rattle.std.specs.Prelude.{◌≡◌, ℕ, List, [], ◌∷◌, ◌++◌, true, Option, None, Some, All, Contains, flat_map, IsPermutation, ⊤}
use Rattle.std.specs.declared.cmp.Ordering.{Ordering}
use Rattle.std.specs.declared.cmp.Ordering.TheVariants.{Less, Equal}
use Rattle.best_first.specs.declared.hit.Hit.{Hit}
use Rattle.best_first.specs.declared.item.Item.{Item}
use Rattle.best_first.specs.declared.item.Item.TheVariants.{Node, Rough, Row}
use Rattle.best_first.specs.Item.{gap_of, row_item, nodes_of, roughs_of, IsAlike}
use Rattle.best_first.specs.Order.{item_cmp}
use Rattle.best_first.specs.Reach.{IsAtMost, within}
use Rattle.best_first.specs.Hierarchy.{Meaning, MeetsLaws, IsListedUnder, Shows, HasGap, IsHonest, near, kept, nodes_within}
use Rattle.best_first.specs.Answer.{IsAnswer, IsLater}

-- the item leads to the row: it shows it, or a leaf at or below the node does
abbrev pub LeadsToRow : {N : Type 0} → Meaning N → Hit → Item N → Type 0
LeadsToRow m hit (Node gap node) = IsListedUnder m node hit
LeadsToRow m hit (Rough gap left right) = Shows {N = ℕ} hit (Rough gap left right)
LeadsToRow m hit (Row gap left right) = Shows {N = ℕ} hit (Row gap left right)

-- some queued item leads to the row
pub record IsPending {N : Type 0} (m : Meaning N) (held : List (Item N)) (hit : Hit) : Type 0 where
  pub item : Item N
  pub queued : Contains held item
  pub leads : LeadsToRow m hit item

-- the item comes strictly after this one in the frontier's order
abbrev pub IsAfter : {N : Type 0} → (N → N → Ordering) → Item N → Item N → Type 0
IsAfter cmp before item = item_cmp cmp before item ≡ Less

-- the item comes strictly after the last row given, if any was
abbrev pub IsPast : {N : Type 0} → (N → N → Ordering) → Option Hit → Item N → Type 0
IsPast cmp None item = ⊤
IsPast cmp (Some last) item = IsAfter cmp (row_item last) item

-- The rows to come are all pending: a queued row is one of the rows, no queued item is before the last row given, and each row of the answer after it is led to.
pub record Covers {N : Type 0} (cmp : N → N → Ordering) (m : Meaning N) (held : List (Item N)) (last : Option Hit) : Type 0 where
  pub sound : All (IsHonest m) held
  pub past : All (IsPast cmp last) held
  pub whole : (hit : Hit) → IsAnswer m hit → IsLater last hit → IsPending m held hit

-- the nodes within the ceiling at or below a queued node
abbrev pub pending : {N : Type 0} → Meaning N → List (Item N) → List N
pending m held = flat_map (λ node. near m (within m.ceiling) (m.under node)) (nodes_of held)

-- some item of the list is this one in the frontier's order
pub record HasAlike {N : Type 0} (cmp : N → N → Ordering) (items : List (Item N)) (item : Item N) : Type 0 where
  pub other : Item N
  pub listed : Contains items other
  pub alike : item_cmp cmp item other ≡ Equal

-- a node among those that were opened lists the item, by its kind, its ids and the value of its gap
pub record IsListed {N : Type 0} (m : Meaning N) (done : List (Item N)) (item : Item N) : Type 0 where
  pub leaf : N
  pub opened : Contains (nodes_of done) leaf
  pub other : Item N
  pub listed : Contains (m.finds leaf) other
  pub alike : IsAlike item other

-- no two items of the list are one in the frontier's order
abbrev pub IsOnce : {N : Type 0} → (N → N → Ordering) → List (Item N) → Type 0
IsOnce cmp [] = ⊤
IsOnce cmp (item ∷ items) = All (λ other. item_cmp cmp item other ≡ Equal → ⊥) items × IsOnce cmp items

-- What was taken from the frontier, nodes opened and rough objects fetched, in this order. The nodes within the ceiling are those opened
-- and those at or below a queued node, each once; nothing taken is farther than what is queued; what is queued comes strictly after each
-- rough object that was fetched; rough objects come from opened leaves, and each rough object of an opened leaf within the ceiling is
-- queued or was fetched; none was fetched twice; all is within the ceiling.
pub record Tracks {N : Type 0} (cmp : N → N → Ordering) (m : Meaning N) (held done : List (Item N)) : Type 0 where
  pub split : IsPermutation (nodes_within m (within m.ceiling)) (nodes_of done ++ pending m held)
  pub gaps : All (HasGap m) (done ++ held)
  pub nearer : All (λ taken. All (λ item. IsAtMost (gap_of taken) (gap_of item)) held) done
  pub after : All (λ fetched. All (IsAfter cmp fetched) held) (roughs_of done)
  pub listed : All (IsListed m done) (roughs_of done ++ roughs_of held)
  pub whole : All (λ node. All (HasAlike cmp (roughs_of done ++ roughs_of held)) (kept (within m.ceiling) (roughs_of (m.finds node)))) (nodes_of done)
  pub once : IsOnce cmp (roughs_of done)
  pub inside : All (λ item. within m.ceiling (gap_of item) ≡ true) (done ++ held)

-- The search stands over the meaning with this frontier, after this last row, when it has taken this.
pub record Stands {N : Type 0} (cmp : N → N → Ordering) (m : Meaning N) (held : List (Item N)) (last : Option Hit) (done : List (Item N)) : Type 0 where
  pub covers : Covers cmp m held last
  pub tracks : Tracks cmp m held done

-- the hierarchy meets its laws, and the search stands over it, whatever it has taken
abbrev pub StandsOver : {N : Type 0} → (N → N → Ordering) → Meaning N → List (Item N) → Option Hit → Type 0
StandsOver {N} cmp m held last = MeetsLaws m × ((done : List (Item N)) × Stands cmp m held last done)

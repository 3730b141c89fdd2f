-- Why a search ends: a number that falls with each step, over every disk.
use Rattle.std.specs.Prelude.{MatchResult, ℕ, ◌*◌, ◌^◌, ◌≤◌, ◌<◌, List, [], sum_by, Option, None, Some, Result, Ok, Err, ◌⊎◌, ◌≡◌, ◌++◌}
use Rattle.std.specs.declared.cmp.Ordering.{Ordering}
use Rattle.rank_queue.specs.Least.{IsFirst}
use Rattle.page_pool.specs.declared.fault.PageFault.{PageFault}
use Rattle.best_first.specs.declared.hit.Hit.{Hit}
use Rattle.best_first.specs.declared.item.Item.{Item}
use Rattle.best_first.specs.declared.item.Item.TheVariants.{Node, Rough, Row}
use Rattle.best_first.specs.Item.{row_item, nodes_of}
use Rattle.best_first.specs.Hierarchy.{FindsAlike}

-- how many steps an item may still cause: a node's weight counts more than the items that one expansion can find, which are fewer than 2^64 and cause at most two steps each
abbrev pub item_steps : {N : Type 0} → (N → ℕ) → Item N → ℕ
item_steps weight (Node gap node) = weight node * 2 ^ 65
item_steps weight (Rough gap left right) = 2
item_steps weight (Row gap left right) = 1

-- the pair of the weight of all queued nodes and of the steps of the other items, as one number
abbrev pub steps : {N : Type 0} → (N → ℕ) → List (Item N) → ℕ
steps weight held = sum_by (item_steps weight) held

-- A row lowers the number, and no answer raises it.
abbrev pub Falls : ℕ → ℕ → Result (Option Hit) PageFault → Type 0
Falls old new (Ok (Some hit)) = new < old
Falls old new (Ok None) = new ≤ old
Falls old new (Err fault) = new ≤ old

-- Nothing has to be read for the next answer: nothing is queued, or a row is queued that no item comes before.
abbrev pub IsSettled : {N : Type 0} → (Item N → Item N → Ordering) → List (Item N) → Type 0
IsSettled cmp held = (held ≡ []) ⊎ ((hit : Hit) × IsFirst cmp (row_item hit) held)

-- An accepted expansion adds what its node finds at the end of the list, where the pages tell it, and a refused one adds nothing.
abbrev pub Finds : {N T : Type 0} → List (Item N) → List (Item N) → List (Item N) → Result T PageFault → Type 0
Finds finds old new result = MatchResult result (λ _. FindsAlike finds old new) (λ _. new ≡ old)

-- What an expansion added: nodes that together weigh less than the node.
pub record AddsLess {N : Type 0} (weight : N → ℕ) (node : N) (old new : List (Item N)) : Type 0 where
  pub added : List (Item N)
  pub adds : new ≡ old ++ added
  pub less : sum_by weight (nodes_of added) < weight node

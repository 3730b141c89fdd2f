-- What is pending below the queued nodes, and how the ceiling and an expansion change it.
use Rattle.std.proofs.Common.{◌≡◌, Bool, true, false, List, [], ◌∷◌, ◌++◌, All, Contains, flat_map, IsPermutation, refl, sym, ap, ◌∙◌, append-nil}
use Rattle.std.proofs.lemmas.List.Elements.{All-head, All-tail}
use Rattle.std.proofs.lemmas.List.Concat.{flat_map-append}
use Rattle.std.proofs.lemmas.List.Sorted.{IsPermutation-sym, Contains-permutation}
use Rattle.exact_frac.specs.declared.frac.Frac.{Frac}
use Rattle.best_first.specs.declared.item.Item.{Item}
use Rattle.best_first.specs.declared.item.Item.TheVariants.{Node, Rough, Row}
use Rattle.best_first.specs.Item.{gap_of, node_if_any, rough_of, nodes_of, roughs_of}
use Rattle.best_first.specs.Reach.{IsSameGap, within, IsReach}
use Rattle.best_first.specs.Hierarchy.{Meaning, MeetsLaws, HasGap, IsNode, near, kept, nodes_within}
use Rattle.best_first.specs.Frontier.{pending}
use Rattle.best_first.proofs.Bags.{All-by, in_flat_map, in_filter, from_filter, filter_here, filter_skips, filter_none, filter-flat_map, IsPermutation-flat_map}
use Rattle.best_first.proofs.Gaps.{within_reach, beyond_reach, reach_same}
use Rattle.best_first.proofs.Trees.{node_among, under_here, under_far}

pub nodes-append : {N : Type 0} (xs ys : List (Item N)) → nodes_of (xs ++ ys) ≡ nodes_of xs ++ nodes_of ys
nodes-append xs ys = flat_map-append node_if_any xs ys

pub roughs-append : {N : Type 0} (xs ys : List (Item N)) → roughs_of (xs ++ ys) ≡ roughs_of xs ++ roughs_of ys
roughs-append xs ys = flat_map-append rough_of xs ys

pub pending-append : {N : Type 0} (m : Meaning N) (xs ys : List (Item N)) → pending m (xs ++ ys) ≡ pending m xs ++ pending m ys
pending-append {N} m xs ys =
    let below = λ (node : N). near m (within m.ceiling) (m.under node) in
    ap (flat_map below) (nodes-append xs ys) ∙ flat_map-append below (nodes_of xs) (nodes_of ys)

pub pending_moves : {N : Type 0} (m : Meaning N) (xs ys : List (Item N)) → IsPermutation xs ys → IsPermutation (pending m xs) (pending m ys)
pending_moves m xs ys h =
    IsPermutation-flat_map (λ node. near m (within m.ceiling) (m.under node)) (nodes_of xs) (nodes_of ys) (IsPermutation-flat_map node_if_any xs ys h)

module _ {N : Type 0} (m : Meaning N) (laws : MeetsLaws m) where
  -- nothing at or below a node beyond the reach is within it
  pub beyond : (reach : Frac → Bool) → IsReach reach → (a : N) → reach (m.gap a) ≡ false → near m reach (m.under a) ≡ []
  beyond reach is a out =
      filter_none (λ node. reach (m.gap node)) (m.under a)
      (All-by (λ node. reach (m.gap node) ≡ false) (m.under a) (λ c at. beyond_reach reach is (m.gap a) (m.gap c) (under_far m laws a c at) out))

  skipped : (item : Item N) → HasGap m item → within m.ceiling (gap_of item) ≡ false → flat_map (λ node. near m (within m.ceiling) (m.under node)) (node_if_any item) ≡ []
  skipped (Node gap node) is out =
      ap (λ l. l ++ []) (beyond (within m.ceiling) (within_reach m.ceiling) node (reach_same (within m.ceiling) (within_reach m.ceiling) gap (m.gap node) is false out))
  skipped (Rough gap l r) is out = refl
  skipped (Row gap l r) is out = refl

  pending_kept_by : (item : Item N) (items : List (Item N)) → HasGap m item → pending m (kept (within m.ceiling) items) ≡ pending m items → (b : Bool)
      → within m.ceiling (gap_of item) ≡ b → pending m (kept (within m.ceiling) (item ∷ items)) ≡ pending m (item ∷ items)
  pending_kept_by item items is rest true e =
      ap (pending m) (filter_here (λ i. within m.ceiling (gap_of i)) item items e)
      ∙ pending-append m (item ∷ []) (kept (within m.ceiling) items)
      ∙ ap (λ l. pending m (item ∷ []) ++ l) rest
      ∙ sym (pending-append m (item ∷ []) items)
  pending_kept_by item items is rest false e =
      ap (pending m) (filter_skips (λ i. within m.ceiling (gap_of i)) item items e)
      ∙ rest
      ∙ ap (λ l. l ++ pending m items) (sym (ap (flat_map (λ node. near m (within m.ceiling) (m.under node))) (append-nil (node_if_any item)) ∙ skipped item is e))
      ∙ sym (pending-append m (item ∷ []) items)

  -- what the ceiling leaves out leads to nothing
  pub pending_kept : (items : List (Item N)) → All (HasGap m) items → pending m (kept (within m.ceiling) items) ≡ pending m items
  pending_kept [] h = refl
  pending_kept (item ∷ items) h =
      pending_kept_by item items (All-head (HasGap m) item items h) (pending_kept items (All-tail (HasGap m) item items h)) (within m.ceiling (gap_of item)) refl

  -- a node within the ceiling is pending, with what is pending below its children
  pub pending_here : (a : N) (items : List (Item N)) → nodes_of items ≡ nodes_of (m.finds a) → All (HasGap m) items → within m.ceiling (m.gap a) ≡ true
      → near m (within m.ceiling) (m.under a) ≡ a ∷ pending m (kept (within m.ceiling) items)
  pending_here a items same gaps inside =
      ap (near m (within m.ceiling)) (laws.unfolds a)
      ∙ filter_here (λ node. within m.ceiling (m.gap node)) a (flat_map m.under (nodes_of (m.finds a))) inside
      ∙ ap (λ l. a ∷ l) (filter-flat_map (λ node. within m.ceiling (m.gap node)) m.under (nodes_of (m.finds a))
      ∙ ap (flat_map (λ node. near m (within m.ceiling) (m.under node))) (sym same) ∙ sym (pending_kept items gaps))

  -- a queued node within the ceiling is pending
  pub queued_pending : (held : List (Item N)) (gap : Frac) (node : N) → Contains held (Node gap node) → IsSameGap gap (m.gap node) → within m.ceiling gap ≡ true → Contains (pending m held) node
  queued_pending held gap node at is inside =
      in_flat_map (λ n. near m (within m.ceiling) (m.under n)) (nodes_of held) node node (node_among held gap node at)
      (in_filter (λ n. within m.ceiling (m.gap n)) (m.under node) node (under_here m laws node) (reach_same (within m.ceiling) (within_reach m.ceiling) gap (m.gap node) is true inside))

  -- what the split names is a node of the tree within the ceiling
  pub split_node : (opened rest : List N) → IsPermutation (nodes_within m (within m.ceiling)) (opened ++ rest) → (node : N) → Contains (opened ++ rest) node
      → IsNode m node × (within m.ceiling (m.gap node) ≡ true)
  split_node opened rest split node at =
      from_filter (λ n. within m.ceiling (m.gap n)) (m.under m.root) node
      (Contains-permutation (opened ++ rest) (nodes_within m (within m.ceiling)) node (IsPermutation-sym (nodes_within m (within m.ceiling)) (opened ++ rest) split) at)

-- Trees of nodes: what stands below a node, and how far it is.
use Rattle.std.proofs.Common.{◌≡◌, ℕ, zero, suc, ◌<◌, ◌≤◌, List, [], ◌∷◌, length, Contains, flat_map, ◌⊎◌, inl, inr, ⊎_elim, sym, ap, subst, arith, length-append}
use Rattle.std.proofs.lemmas.List.Elements.{All-contains}
use Rattle.exact_frac.specs.declared.frac.Frac.{Frac}
use Rattle.best_first.specs.declared.item.Item.{Item}
use Rattle.best_first.specs.declared.item.Item.TheVariants.{Node, Rough, Row}
use Rattle.best_first.specs.Item.{gap_of, node_if_any, rough_of, nodes_of, roughs_of}
use Rattle.best_first.specs.Reach.{IsAtMost}
use Rattle.best_first.specs.Hierarchy.{Meaning, MeetsLaws, HasGap}
use Rattle.best_first.proofs.Bags.{here, there, cons_cases, none, only, in_flat_map, from_flat_map}
use Rattle.best_first.proofs.Gaps.{at_most_itself, at_most_trans, equal_at_most}

-- ---- items and their nodes

-- the item that stands for a node
pub node_item : {N : Type 0} (items : List (Item N)) (node : N) → Contains (nodes_of items) node → (gap : Frac) × Contains items (Node gap node)
node_item {N} items node h =
    let (item, at, is) = from_flat_map node_if_any items node h in
    elim item as (λ i. Contains items i → Contains (node_if_any i) node → (gap : Frac)
    × Contains items (Node gap node)) [
      | Node gap other ↦ λ there same. (gap, subst (λ n. Contains items (Node gap n)) (only other node same) there)
      | Rough gap l r ↦ λ there same.
          absurd (none node same)
      | Row gap l r ↦ λ there same. absurd (none node same)
    ] at is

pub node_among : {N : Type 0} (items : List (Item N)) (gap : Frac) (node : N) → Contains items (Node gap node) → Contains (nodes_of items) node
node_among items gap node h = in_flat_map node_if_any items (Node gap node) node h (here node [])

-- an item among the rough ones is rough, and stands in the list
pub rough_item : {N : Type 0} (items : List (Item N)) (item : Item N) → Contains (roughs_of items) item
    → Contains items item × ((gap : Frac) × (left : ℕ) × (right : ℕ) × (item ≡ Rough gap left right))
rough_item {N} items item h =
    let (from, at, is) = from_flat_map rough_of items item h in
    elim from as (λ i. Contains items i → Contains (rough_of i) item → Contains items item
    × ((gap : Frac) × (left : ℕ) × (right : ℕ) × (item ≡ Rough gap left right))) [
      | Node gap other ↦ λ there same.
          absurd (none item same)
      | Rough gap l r ↦ λ there same. (
        subst (Contains items) (only (Rough gap l r) item same) there,
        (gap, l, r, sym (only (Rough gap l r) item same)),
      )
      | Row gap l r ↦ λ there same. absurd (none item same)
    ] at is

pub rough_among : {N : Type 0} (items : List (Item N)) (gap : Frac) (left right : ℕ) → Contains items (Rough gap left right) → Contains (roughs_of items) (Rough gap left right)
rough_among items gap left right h = in_flat_map rough_of items (Rough gap left right) (Rough gap left right) h (here (Rough gap left right) [])

-- ---- below a node

module _ {N : Type 0} (m : Meaning N) (laws : MeetsLaws m) where
  -- a node stands below itself
  pub under_here : (a : N) → Contains (m.under a) a
  under_here a = subst (λ l. Contains l a) (sym (laws.unfolds a)) (here a (flat_map m.under (nodes_of (m.finds a))))

  -- what stands below a child stands below the node
  pub under_down : (a b c : N) → Contains (nodes_of (m.finds a)) b → Contains (m.under b) c → Contains (m.under a) c
  under_down a b c child below = subst (λ l. Contains l c) (sym (laws.unfolds a)) (there a (flat_map m.under (nodes_of (m.finds a))) c (in_flat_map m.under (nodes_of (m.finds a)) b c child below))

  -- what stands below a node is the node or stands below a child
  pub under_cases : (a c : N) → Contains (m.under a) c → (a ≡ c) ⊎ ((b : N) × Contains (nodes_of (m.finds a)) b × Contains (m.under b) c)
  under_cases a c h =
      ⊎_elim (λ e. inl e) (λ t. inr (from_flat_map m.under (nodes_of (m.finds a)) c t))
      (cons_cases a (flat_map m.under (nodes_of (m.finds a))) c (subst (λ l. Contains l c) (laws.unfolds a) h))

  -- a child is no nearer than its node
  pub child_far : (a b : N) → Contains (nodes_of (m.finds a)) b → IsAtMost (m.gap a) (m.gap b)
  child_far a b child =
      let (gap, at) = node_item (m.finds a) b child in
      at_most_trans (m.gap a) gap (m.gap b)
      (All-contains (λ item. IsAtMost (m.gap a) (gap_of item)) (m.finds a) (Node gap b) (laws.bound a) at)
      (equal_at_most gap (m.gap b) (All-contains (HasGap m) (m.finds a) (Node gap b) (laws.gaps a) at))

  shorter_by : (xs : List N) (b : N) → Contains xs b → length (m.under b) ≤ length (flat_map m.under xs)
  shorter_by [] b h = absurd (none b h)
  shorter_by (x ∷ xs) b h =
      let whole = length-append (m.under x) (flat_map m.under xs) in
      ⊎_elim
      (λ e. let same : length (m.under x) ≡ length (m.under b) = ap (λ n. length (m.under n)) e in omega arith)
      (λ t. let rest = shorter_by xs b t in omega arith)
      (cons_cases x xs b h)

  -- fewer nodes stand below a child
  pub shorter : (a b : N) → Contains (nodes_of (m.finds a)) b → length (m.under b) < length (m.under a)
  shorter a b child =
      let whole : length (m.under a) ≡ suc (length (flat_map m.under (nodes_of (m.finds a)))) = ap length (laws.unfolds a) in
      let part = shorter_by (nodes_of (m.finds a)) b child in
      omega arith

  under_far_by : (bound : ℕ) (a c : N) → length (m.under a) ≤ bound → Contains (m.under a) c → IsAtMost (m.gap a) (m.gap c)
  under_far_by zero a c most h =
      let whole : length (m.under a) ≡ suc (length (flat_map m.under (nodes_of (m.finds a)))) = ap length (laws.unfolds a) in
      absurd (omega arith)
  under_far_by (suc bound) a c most h =
      ⊎_elim
      (λ e. subst (λ n. IsAtMost (m.gap a) (m.gap n)) e (at_most_itself (m.gap a)))
      (λ (b, child, below). at_most_trans (m.gap a) (m.gap b) (m.gap c) (child_far a b child) (let less = shorter a b child in under_far_by bound b c (omega arith) below))
      (under_cases a c h)

  -- no node below a node is nearer
  pub under_far : (a c : N) → Contains (m.under a) c → IsAtMost (m.gap a) (m.gap c)
  under_far a c h = under_far_by (length (m.under a)) a c (omega arith) h

  under_more_by : (bound : ℕ) (a b c : N) → length (m.under a) ≤ bound → Contains (m.under a) b → Contains (m.under b) c → Contains (m.under a) c
  under_more_by zero a b c most h g =
      let whole : length (m.under a) ≡ suc (length (flat_map m.under (nodes_of (m.finds a)))) = ap length (laws.unfolds a) in
      absurd (omega arith)
  under_more_by (suc bound) a b c most h g =
      ⊎_elim
      (λ e. subst (λ n. Contains (m.under n) c) (sym e) g)
      (λ (d, child, below). under_down a d c child (let less = shorter a d child in under_more_by bound d b c (omega arith) below g))
      (under_cases a b h)

  -- what stands below a node below a node stands below it
  pub under_more : (a b c : N) → Contains (m.under a) b → Contains (m.under b) c → Contains (m.under a) c
  under_more a b c h g = under_more_by (length (m.under a)) a b c (omega arith) h g

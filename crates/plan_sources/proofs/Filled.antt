-- What was taken within a reach, and all else that lies within it: so much more may still be counted there.
use Rattle.std.proofs.Common.{◌≡◌, ◌+◌, ◌≤◌, Bool, true, false, cond, not, List, [], ◌∷◌, ◌++◌, map, length, length-append, All, Contains, filter, flat_map, ⊎_elim, refl}
use Rattle.std.proofs.Common.{sym, ap, ap₂, ◌∙◌, subst, arith, append-nil, true≢false, Ordering, Less, Equal, Greater}
use Rattle.std.specs.Ordering.{is_eq}
use Rattle.std.specs.Cmp.{IsTotalOrder, tied_back}
use Rattle.std.proofs.lemmas.List.Elements.{All-contains, All-filter, filter-append, Contains-append_left}
use Rattle.std.proofs.lemmas.List.Sorted.{length_permutation}
use Rattle.exact_frac.specs.declared.frac.Frac.{Frac}
use Rattle.best_first.specs.declared.item.Item.{Item}
use Rattle.best_first.specs.declared.item.Item.TheVariants.{Node}
use Rattle.best_first.specs.Item.{gap_of, node_if_any, rough_of, nodes_of, roughs_of}
use Rattle.best_first.specs.Reach.{IsReach, within}
use Rattle.best_first.specs.Hierarchy.{Meaning, MeetsLaws, HasGap, nodes_within, listed_roughs_within}
use Rattle.best_first.specs.Order.{item_cmp, item_total}
use Rattle.best_first.specs.Frontier.{Tracks, HasAlike, IsListed, IsOnce, pending}
use Rattle.best_first.specs.Visits.{Reached}
use Rattle.best_first.proofs.Bags.{here, there, cons_cases, none, All-by, All-left, in_filter, from_filter, in_flat_map, from_flat_map, filter_all, filter_both}
use Rattle.best_first.proofs.Bags.{IsPermutation-same, IsPermutation-filter}
use Rattle.best_first.proofs.Gaps.{reach_same}
use Rattle.best_first.proofs.Alikes.{alike_cmp, alike_gaps}
use Rattle.best_first.proofs.Trees.{node_item, rough_item, rough_among}
use Rattle.best_first.proofs.Pending.{nodes-append, roughs-append, split_node}
use Rattle.best_first.proofs.Ranks.{alike_rough}
use Rattle.best_first.proofs.Tracked.{alike_here}
use Rattle.rank_cursor.proofs.Pigeons.{HaveOwn, no_more}

-- ---- each item once

module _ {N : Type 0} {cmp : N → N → Ordering} (o : IsTotalOrder cmp) where
  -- whether the item isn't this one in the frontier's order
  abbrev is_other : Item N → Item N → Bool
  is_other x y = not (is_eq (item_cmp cmp x y))

  -- the first of each that are one
  abbrev pub each_once : List (Item N) → List (Item N)
  each_once [] = []
  each_once (x ∷ xs) = x ∷ filter (is_other x) (each_once xs)

  -- they are of the list
  pub from_once : (xs : List (Item N)) (y : Item N) → Contains (each_once xs) y → Contains xs y
  from_once [] y h = h
  from_once (x ∷ xs) y h =
      ⊎_elim (λ e. subst (Contains (x ∷ xs)) e (here x xs)) (λ t. there x xs y (from_once xs y (from_filter (is_other x) (each_once xs) y t).0)) (cons_cases x (filter (is_other x) (each_once xs)) y h)

  -- the test and the fact
  equal_is : (c : Ordering) → is_eq c ≡ true → c ≡ Equal
  equal_is Less e = absurd (true≢false (sym e))
  equal_is Equal e = refl
  equal_is Greater e = absurd (true≢false (sym e))

  -- of two that are one, one is kept
  kept_step : (x : Item N) (xs : List (Item N)) (y : Item N) (h : HasAlike cmp (each_once xs) y) (b : Bool) → is_eq (item_cmp cmp x h.other) ≡ b
      → HasAlike cmp (each_once (x ∷ xs)) y
  kept_step x xs y h true e = record {
    other = x;
    listed = here x (filter (is_other x) (each_once xs));
    alike =
        (item_total o).congr y h.other x h.alike ∙ tied_back (item_total o) x h.other (equal_is (item_cmp cmp x h.other) e);
  }
  kept_step x xs y h false e = record {
    other = h.other;
    listed = there x (filter (is_other x) (each_once xs)) h.other (in_filter (is_other x) (each_once xs) h.other h.listed (ap not e));
    alike = h.alike;
  }

  -- each item of the list is one with some of them
  pub in_once : (xs : List (Item N)) (y : Item N) → Contains xs y → HasAlike cmp (each_once xs) y
  in_once [] y h = absurd (none y h)
  in_once (x ∷ xs) y h =
      ⊎_elim (λ e. alike_here cmp o (each_once (x ∷ xs)) y (subst (Contains (each_once (x ∷ xs))) e (here x (filter (is_other x) (each_once xs)))))
      (λ t. let rest = in_once xs y t in kept_step x xs y rest (is_eq (item_cmp cmp x rest.other)) refl) (cons_cases x xs y h)

  -- no two of them are one

  once_filter : (p : Item N → Bool) (xs : List (Item N)) → IsOnce cmp xs → IsOnce cmp (filter p xs)
  once_filter p [] h = tt
  once_filter p (x ∷ xs) h = step (once_filter p xs h.1) (p x)
    where
      step : IsOnce cmp (filter p xs) → (b : Bool) → IsOnce cmp (cond b (x ∷ filter p xs) (filter p xs))
      step rest true = (All-filter p (λ other. item_cmp cmp x other ≡ Equal → ⊥) xs h.0, rest)
      step rest false = rest

  pub is_once : (xs : List (Item N)) → IsOnce cmp (each_once xs)
  is_once [] = tt
  is_once (x ∷ xs) = (
    All-by (λ other. item_cmp cmp x other ≡ Equal → ⊥) (filter (is_other x) (each_once xs)) (λ other at e.
        absurd (true≢false (sym (from_filter (is_other x) (each_once xs) other at).1 ∙ ap (λ c. not (is_eq c)) e))),
    once_filter (is_other x) (each_once xs) (is_once xs),
  )

  -- no two of them have an alike in common
  pub once_own : (xs : List (Item N)) → IsOnce cmp xs → HaveOwn (λ (x y : Item N). item_cmp cmp x y ≡ Equal) xs
  once_own [] h = tt
  once_own (x ∷ xs) h = (
    λ other at y e f.
        absurd (All-contains (λ other. item_cmp cmp x other ≡ Equal → ⊥) xs other h.0 at ((item_total o).congr x y other e ∙ tied_back (item_total o) other y f)),
    once_own xs h.1,
  )

-- ---- rough objects alone

abbrev IsRough : {N : Type 0} → Item N → Type 0
IsRough {N} x = (node_if_any x ≡ []) × (rough_of x ≡ x ∷ [])

-- a list of rough objects is its own
rough_alone : {N : Type 0} (xs : List (Item N)) → All IsRough xs → (nodes_of xs ≡ []) × (roughs_of xs ≡ xs)
rough_alone [] h = (refl, refl)
rough_alone {N} (x ∷ xs) h =
    let first : IsRough x = All-contains IsRough (x ∷ xs) x h (here x xs) in
    let rest = rough_alone xs (All-by IsRough xs (λ y at. All-contains IsRough (x ∷ xs) y h (there x xs y at))) in (
      ap₂ (λ (a : List N) (b : List N). a ++ b) first.0 rest.0,
      ap₂ (λ (a : List (Item N)) (b : List (Item N)). a ++ b) first.1 rest.1,
    )

-- ---- the nodes under their gaps

nodes_back : {N : Type 0} (m : Meaning N) (nodes : List N) → (nodes_of (map (λ n. Node (m.gap n) n) nodes) ≡ nodes) × (roughs_of (map (λ n. Node (m.gap n) n) nodes) ≡ [])
nodes_back m [] = (refl, refl)
nodes_back m (n ∷ nodes) = let rest = nodes_back m nodes in (ap (λ l. n ∷ l) rest.0, rest.1)

-- All that lies within a reach was taken, and it is at least as much as what was taken here.
pub record IsFilled {N : Type 0} (cmp : N → N → Ordering) (m : Meaning N) (test : Frac → Bool) (done : List (Item N)) : Type 0 where
  pub full : List (Item N)
  pub reached : Reached cmp m test full
  pub nodes : length (nodes_of done) ≤ length (nodes_of full)
  pub roughs : length (roughs_of done) ≤ length (roughs_of full)

module _ {N : Type 0} {cmp : N → N → Ordering} (o : IsTotalOrder cmp) (m : Meaning N) (test : Frac → Bool) where
  -- what the leaves list as rough, each of it within the reach once, and all that lies within the reach

  abbrev all_roughs : List (Item N)
  all_roughs = flat_map (λ node. roughs_of (m.finds node)) (m.under m.root)

  abbrev some_roughs : List (Item N)
  some_roughs = each_once o (listed_roughs_within m test)

  abbrev filling : List (Item N)
  filling = map (λ n. Node (m.gap n) n) (nodes_within m test) ++ some_roughs

  -- they are rough
  roughs_are : All IsRough some_roughs
  roughs_are = All-by IsRough some_roughs (λ x at.
      let listed = (from_filter (λ item. test (gap_of item)) all_roughs x (from_once o (listed_roughs_within m test) x at)).0 in
      let (leaf, node, among) = from_flat_map (λ node. roughs_of (m.finds node)) (m.under m.root) x listed in
      let (found, (gap, l, r, e)) = rough_item (m.finds leaf) x among in
      subst IsRough (sym e) (refl, refl))

  -- its nodes and its rough objects

  filling_nodes : nodes_of filling ≡ nodes_within m test
  filling_nodes =
      let nodes = nodes_within m test in
      let items = map (λ n. Node (m.gap n) n) nodes in
      nodes-append items some_roughs ∙ ap₂ (λ (a : List N) (b : List N). a ++ b) (nodes_back m nodes).0 (rough_alone some_roughs roughs_are).0 ∙ append-nil nodes

  filling_roughs : roughs_of filling ≡ some_roughs
  filling_roughs =
      let nodes = nodes_within m test in
      let items = map (λ n. Node (m.gap n) n) nodes in
      roughs-append items some_roughs ∙ ap₂ (λ (a : List (Item N)) (b : List (Item N)). a ++ b) (nodes_back m nodes).1 (rough_alone some_roughs roughs_are).1

  -- all that lies within the reach
  pub filling_reached : Reached cmp m test filling
  filling_reached = record {
    nodes = IsPermutation-same (nodes_within m test) (nodes_of filling) (sym filling_nodes);
    roughs = subst (All (HasAlike cmp (listed_roughs_within m test))) (sym filling_roughs) (All-by (HasAlike cmp (listed_roughs_within m test)) some_roughs (λ x at.
        alike_here cmp o (listed_roughs_within m test) x (from_once o (listed_roughs_within m test) x at)));
    all_roughs = subst (λ l. All (HasAlike cmp l) (listed_roughs_within m test)) (sym filling_roughs)
        (All-by (HasAlike cmp some_roughs) (listed_roughs_within m test) (λ x at. in_once o (listed_roughs_within m test) x at));
    once = subst (IsOnce cmp) (sym filling_roughs) (is_once o (listed_roughs_within m test));
  }

  module _ (laws : MeetsLaws m) (is : IsReach test) (narrow : (gap : Frac) → test gap ≡ true → within m.ceiling gap ≡ true) (held done : List (Item N)) (h : Tracks cmp m held done)
      (took : All (λ item. test (gap_of item) ≡ true) done) where
    -- a node that was opened lies within the reach
    node_in : (node : N) → Contains (nodes_of done) node → test (m.gap node) ≡ true
    node_in node i =
        let (gap, at) = node_item done node i in
        reach_same test is gap (m.gap node) (All-contains (HasGap m) done (Node gap node) (All-left (HasGap m) done held h.gaps) at) true
        (All-contains (λ item. test (gap_of item) ≡ true) done (Node gap node) took at)

    -- so no more were opened than lie there
    fewer_nodes : length (nodes_of done) ≤ length (nodes_within m test)
    fewer_nodes =
        let p = λ (node : N). test (m.gap node) in
        let split = IsPermutation-filter p (nodes_within m (within m.ceiling)) (nodes_of done ++ pending m held) h.split in
        let inner : filter p (nodes_within m (within m.ceiling)) ≡ nodes_within m test = filter_both p (λ node. within m.ceiling (m.gap node)) (λ node e. narrow (m.gap node) e) (m.under m.root) in
        let outer : filter p (nodes_of done ++ pending m held) ≡ nodes_of done ++ filter p (pending m held) =
        filter-append p (nodes_of done) (pending m held) ∙ ap (λ l. l ++ filter p (pending m held)) (filter_all p (nodes_of done) (All-by (λ n. p n ≡ true) (nodes_of done) node_in)) in
        let long : length (nodes_of done ++ filter p (pending m held)) ≡ length (nodes_within m test) =
        ap length (sym outer) ∙ length_permutation (filter p (nodes_within m (within m.ceiling))) (filter p (nodes_of done ++ pending m held)) split ∙ ap length inner in
        let parts : length (nodes_of done ++ filter p (pending m held)) ≡ length (nodes_of done) + length (filter p (pending m held)) = length-append (nodes_of done) (filter p (pending m held)) in
        omega (arith, long, parts)

    -- each rough object that was taken has an alike there
    rough_in : (x : Item N) → Contains (roughs_of done) x → (y : Item N) × Contains some_roughs y × (item_cmp cmp x y ≡ Equal)
    rough_in x i =
        let (at, (gap, l, s, e)) = rough_item done x i in
        let from = All-contains (IsListed m done) (roughs_of done ++ roughs_of held) x h.listed (Contains-append_left (roughs_of done) (roughs_of held) x i) in
        let node = split_node m laws (nodes_of done) (pending m held) h.split from.leaf (Contains-append_left (nodes_of done) (pending m held) from.leaf from.opened) in
        let same : item_cmp cmp x from.other ≡ Equal = alike_cmp o x from.other from.alike in
        let rough = alike_rough cmp gap l s from.other (subst (λ y. item_cmp cmp y from.other ≡ Equal) e same) in
        let listed : Contains all_roughs from.other =
        in_flat_map (λ n. roughs_of (m.finds n)) (m.under m.root) from.leaf from.other node.0
        (subst (Contains (roughs_of (m.finds from.leaf))) (sym rough.1) (rough_among (m.finds from.leaf) rough.0 l s (subst (Contains (m.finds from.leaf)) rough.1 from.listed))) in
        let close = reach_same test is (gap_of x) (gap_of from.other) (alike_gaps x from.other from.alike) true (All-contains (λ item. test (gap_of item) ≡ true) done x took at) in
        let found = in_once o (listed_roughs_within m test) from.other (in_filter (λ item. test (gap_of item)) all_roughs from.other listed close) in
        (found.other, found.listed, ◌∙◌ {a = item_cmp cmp x found.other} {b = item_cmp cmp from.other found.other} ((item_total o).congr x from.other found.other same) found.alike)

    -- what was taken within the reach is no more than what lies there
    pub filled : IsFilled cmp m test done
    filled = record {
      full = filling;
      reached = filling_reached;
      nodes = subst (λ l. length (nodes_of done) ≤ length l) (sym filling_nodes) fewer_nodes;
      roughs = subst (λ l. length (roughs_of done) ≤ length l) (sym filling_roughs)
          (no_more (λ (x y : Item N). item_cmp cmp x y ≡ Equal) (roughs_of done) some_roughs (once_own o (roughs_of done) h.once) rough_in);
    }

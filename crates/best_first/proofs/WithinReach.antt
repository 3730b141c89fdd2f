-- What was taken is exactly what lies within a reach, where all that was taken lies within it and nothing that is queued does but rows.
use Rattle.std.proofs.Common.{◌≡◌, ℕ, Bool, true, false, List, [], ◌++◌, All, Contains, filter, flat_map, IsPermutation, ⊎_elim, refl, sym, ap, ◌∙◌, subst, append-nil, true≢false, Ordering, Equal}
use Rattle.std.specs.Ordering.{is_gt}
use Rattle.std.specs.Cmp.{IsTotalOrder}
use Rattle.std.proofs.lemmas.List.Elements.{All-contains, filter-append, Contains-append_left, Contains-append_cases}
use Rattle.std.proofs.lemmas.List.Sorted.{Contains-permutation}
use Rattle.exact_frac.specs.declared.frac.Frac.{Frac}
use Rattle.best_first.specs.declared.hit.Hit.{Hit}
use Rattle.best_first.specs.declared.item.Item.{Item}
use Rattle.best_first.specs.declared.item.Item.TheVariants.{Node, Rough}
use Rattle.best_first.specs.Item.{gap_of, row_item, nodes_of, roughs_of}
use Rattle.best_first.specs.Reach.{IsAtMost, IsBelow, IsReach, within, up_to}
use Rattle.best_first.specs.Hierarchy.{Meaning, MeetsLaws, HasGap, near, kept, nodes_within, listed_roughs_within}
use Rattle.best_first.specs.Order.{item_cmp}
use Rattle.best_first.specs.Frontier.{Tracks, HasAlike, IsListed, pending}
use Rattle.best_first.specs.Visits.{Reached}
use Rattle.best_first.proofs.Bags.{none, All-by, All-left, All-right, in_filter, from_filter, in_flat_map, from_flat_map, filter_all, filter_none, filter_both, IsPermutation-filter}
use Rattle.best_first.proofs.Gaps.{beyond_reach, equal_at_least, up_to_is, is_up_to, up_to_reach, within_reach, reach_same, not_below}
use Rattle.best_first.proofs.Alikes.{alike_cmp, alike_gaps}
use Rattle.best_first.proofs.Trees.{node_item, rough_item, rough_among, under_far}
use Rattle.best_first.proofs.Pending.{split_node}
use Rattle.best_first.proofs.Ranks.{alike_gap, alike_rough, upto_strict}

-- queued nodes and rough objects lie beyond the reach
pub record Beyond {N : Type 0} (reach : Frac → Bool) (held : List (Item N)) : Type 0 where
  pub nodes : (gap : Frac) (node : N) → Contains held (Node gap node) → reach gap ≡ false
  pub roughs : (gap : Frac) (left right : ℕ) → Contains held (Rough gap left right) → reach gap ≡ false

module _ {N : Type 0} {cmp : N → N → Ordering} (o : IsTotalOrder cmp) (m : Meaning N) (laws : MeetsLaws m) (reach : Frac → Bool) (is : IsReach reach)
    (narrow : (gap : Frac) → reach gap ≡ true → within m.ceiling gap ≡ true) (held done : List (Item N)) (h : Tracks cmp m held done)
    (took : All (λ item. reach (gap_of item) ≡ true) done) (out : Beyond reach held) where
  done_in : (node : N) → Contains (nodes_of done) node → reach (m.gap node) ≡ true
  done_in node i =
      let (gap, at) = node_item done node i in
      reach_same reach is gap (m.gap node) (All-contains (HasGap m) done (Node gap node) (All-left (HasGap m) done held h.gaps) at) true
      (All-contains (λ item. reach (gap_of item) ≡ true) done (Node gap node) took at)

  pending_out : (node : N) → Contains (pending m held) node → reach (m.gap node) ≡ false
  pending_out node i =
      let (top, among, below) = from_flat_map (λ n. near m (within m.ceiling) (m.under n)) (nodes_of held) node i in
      let (gap, at) = node_item held top among in
      let far = under_far m laws top node (from_filter (λ n. within m.ceiling (m.gap n)) (m.under top) node below).0 in
      beyond_reach reach is (m.gap top) (m.gap node) far
      (reach_same reach is gap (m.gap top) (All-contains (HasGap m) held (Node gap top) (All-right (HasGap m) done held h.gaps) at) false (out.nodes gap top at))

  nodes : IsPermutation (nodes_within m reach) (nodes_of done)
  nodes =
      let p = λ (node : N). reach (m.gap node) in
      subst (λ l. IsPermutation l (nodes_of done)) (filter_both p (λ node. within m.ceiling (m.gap node)) (λ node e. narrow (m.gap node) e) (m.under m.root))
      (subst (IsPermutation (filter p (nodes_within m (within m.ceiling))))
      (filter-append p (nodes_of done) (pending m held)
      ∙ ap (λ l. l ++ filter p (pending m held)) (filter_all p (nodes_of done) (All-by (λ n. p n ≡ true) (nodes_of done) done_in))
      ∙ ap (λ l. nodes_of done ++ l) (filter_none p (pending m held) (All-by (λ n. p n ≡ false) (pending m held) pending_out))
      ∙ append-nil (nodes_of done))
      (IsPermutation-filter p (nodes_within m (within m.ceiling)) (nodes_of done ++ pending m held) h.split))

  roughs : All (HasAlike cmp (listed_roughs_within m reach)) (roughs_of done)
  roughs = All-by (HasAlike cmp (listed_roughs_within m reach)) (roughs_of done) (λ r i.
      let (at, (gap, l, s, e)) = rough_item done r i in
      let from = All-contains (IsListed m done) (roughs_of done ++ roughs_of held) r h.listed (Contains-append_left (roughs_of done) (roughs_of held) r i) in
      let node = split_node m laws (nodes_of done) (pending m held) h.split from.leaf (Contains-append_left (nodes_of done) (pending m held) from.leaf from.opened) in
      let same : item_cmp cmp r from.other ≡ Equal = alike_cmp o r from.other from.alike in
      let rough = alike_rough cmp gap l s from.other (subst (λ y. item_cmp cmp y from.other ≡ Equal) e same) in
      record {
        other = from.other;
        listed = in_filter (λ item. reach (gap_of item)) (flat_map (λ n. roughs_of (m.finds n)) (m.under m.root)) from.other
            (in_flat_map (λ n. roughs_of (m.finds n)) (m.under m.root) from.leaf from.other node.0
            (subst (Contains (roughs_of (m.finds from.leaf))) (sym rough.1) (rough_among (m.finds from.leaf) rough.0 l s (subst (Contains (m.finds from.leaf)) rough.1 from.listed))))
            (reach_same reach is (gap_of r) (gap_of from.other) (alike_gaps r from.other from.alike) true (All-contains (λ item. reach (gap_of item) ≡ true) done r took at));
        alike = same;
      })

  all_roughs : All (HasAlike cmp (roughs_of done)) (listed_roughs_within m reach)
  all_roughs = All-by (HasAlike cmp (roughs_of done)) (listed_roughs_within m reach) (λ r i.
      let (listed, inside) = from_filter (λ item. reach (gap_of item)) (flat_map (λ n. roughs_of (m.finds n)) (m.under m.root)) r i in
      let (leaf, node, among) = from_flat_map (λ n. roughs_of (m.finds n)) (m.under m.root) r listed in
      let bound = All-contains (λ item. IsAtMost (m.gap leaf) (gap_of item)) (m.finds leaf) r (laws.bound leaf) (rough_item (m.finds leaf) r among).0 in
      let close : reach (m.gap leaf) ≡ true = is (m.gap leaf) (gap_of r) bound inside in
      let opened : Contains (nodes_of done) leaf = Contains-permutation (nodes_within m reach) (nodes_of done) leaf nodes (in_filter (λ n. reach (m.gap n)) (m.under m.root) leaf node close) in
      let found = All-contains (HasAlike cmp (roughs_of done ++ roughs_of held)) (kept (within m.ceiling) (roughs_of (m.finds leaf))) r
      (All-contains (λ n. All (HasAlike cmp (roughs_of done ++ roughs_of held)) (kept (within m.ceiling) (roughs_of (m.finds n)))) (nodes_of done) leaf h.whole opened)
      (in_filter (λ item. within m.ceiling (gap_of item)) (roughs_of (m.finds leaf)) r among (narrow (gap_of r) inside)) in
      ⊎_elim
      (λ d. record { other = found.other; listed = d; alike = found.alike })
      (λ q.
      let (at, (gap, l, s, e)) = rough_item held found.other q in
      let far : reach (gap_of found.other) ≡ false = subst (λ x. reach (gap_of x) ≡ false) (sym e) (out.roughs gap l s (subst (Contains held) e at)) in
      let close2 : reach (gap_of found.other) ≡ true = is (gap_of found.other) (gap_of r) (equal_at_least (gap_of r) (gap_of found.other) (alike_gap cmp r found.other found.alike)) inside in
      absurd (true≢false (sym close2 ∙ far)))
      (Contains-append_cases (roughs_of done) (roughs_of held) found.other found.listed))

  -- what was taken is exactly what lies within the reach
  pub reached : Reached cmp m reach done
  reached = record { nodes = nodes; roughs = roughs; all_roughs = all_roughs; once = h.once }

-- at a row that no queued item comes before, what was taken is what lies within its gap
pub reached_row : {N : Type 0} {cmp : N → N → Ordering} (o : IsTotalOrder cmp) (m : Meaning N) (laws : MeetsLaws m) (held done : List (Item N)) (hit : Hit)
    → Contains held (row_item hit) → All (λ item. is_gt (item_cmp cmp (row_item hit) item) ≡ false) held → Tracks cmp m held done → Reached cmp m (up_to hit.gap) done
reached_row {N} {cmp} o m laws held done hit at least h =
    let out = λ (item : Item N) (i : Contains held item) (below : IsBelow hit.gap (gap_of item)). (let go : (b : Bool) → up_to hit.gap (gap_of item) ≡ b
    → b ≡ false = elim [ true ↦ λ e. absurd (not_below hit.gap (gap_of item) below (up_to_is hit.gap (gap_of item) e)) | false ↦ λ e. refl ] in
    let says : up_to hit.gap (gap_of item) ≡ false = go (up_to hit.gap (gap_of item)) refl in says) in
    reached o m laws (up_to hit.gap) (up_to_reach hit.gap)
    (λ gap e. within_reach m.ceiling gap hit.gap (up_to_is hit.gap gap e)
    (All-contains (λ item. within m.ceiling (gap_of item) ≡ true) held (row_item hit) (All-right (λ item. within m.ceiling (gap_of item) ≡ true) done held h.inside) at))
    held done h
    (All-by (λ item. up_to hit.gap (gap_of item) ≡ true) done
    (λ k i. is_up_to hit.gap (gap_of k) (All-contains (λ item. IsAtMost (gap_of k) (gap_of item)) held (row_item hit)
    (All-contains (λ k. All (λ item. IsAtMost (gap_of k) (gap_of item)) held) done k h.nearer i) at)))
    (record {
      nodes = λ gap node i. out (Node gap node) i
          (upto_strict cmp (row_item hit) (Node gap node) refl (All-contains (λ item. is_gt (item_cmp cmp (row_item hit) item) ≡ false) held (Node gap node) least i));
      roughs = λ gap l r i. out (Rough gap l r) i
          (upto_strict cmp (row_item hit) (Rough gap l r) refl (All-contains (λ item. is_gt (item_cmp cmp (row_item hit) item) ≡ false) held (Rough gap l r) least i));
    })

-- where nothing is queued, what was taken is what lies within the ceiling
pub reached_end : {N : Type 0} {cmp : N → N → Ordering} (o : IsTotalOrder cmp) (m : Meaning N) (laws : MeetsLaws m) (held done : List (Item N)) → held ≡ []
    → Tracks cmp m held done → Reached cmp m (within m.ceiling) done
reached_end o m laws held done empty h =
    reached o m laws (within m.ceiling) (within_reach m.ceiling) (λ gap e. e) held done h
    (All-left (λ item. within m.ceiling (gap_of item) ≡ true) done held h.inside)
    (record {
      nodes = λ gap node i. absurd (none (Node gap node) (subst (λ l. Contains l (Node gap node)) empty i));
      roughs = λ gap l r i. absurd (none (Rough gap l r) (subst (λ queued. Contains queued (Rough gap l r)) empty i));
    })

-- The beginning of a search: the root is queued, where it is within the ceiling, and nothing was taken.
use Rattle.std.proofs.Common.{◌≡◌, ℕ, List, [], ◌∷◌, ◌++◌, true, All, IsPermutation, Option, None, ◌∙◌, subst, append-nil, Ordering}
use Rattle.std.specs.Cmp.{IsTotalOrder}
use Rattle.std.proofs.lemmas.List.Elements.{All-nil, All-filter, filter_passes}
use Rattle.std.proofs.lemmas.List.Sorted.{IsPermutation-sym, All-permutation, Contains-permutation}
use Rattle.exact_frac.specs.declared.frac.Frac.{Frac}
use Rattle.best_first.specs.declared.item.Item.{Item}
use Rattle.best_first.specs.declared.item.Item.TheVariants.{Node, Rough}
use Rattle.best_first.specs.Item.{gap_of, roughs_of}
use Rattle.best_first.specs.Reach.{IsSameGap, IsAtMost, within}
use Rattle.best_first.specs.Hierarchy.{Meaning, MeetsLaws, HasGap, kept, nodes_within}
use Rattle.best_first.specs.Frontier.{Stands, Tracks, IsAfter, IsListed, HasAlike, pending}
use Rattle.best_first.proofs.Bags.{only, All-by, All-one, from_filter}
use Rattle.best_first.proofs.Trees.{rough_item}
use Rattle.best_first.proofs.Pending.{pending_moves, pending_kept}
use Rattle.best_first.proofs.RowsToCome.{begun_covers}

module _ {N : Type 0} {cmp : N → N → Ordering} (o : IsTotalOrder cmp) (m : Meaning N) (laws : MeetsLaws m) where
  begun_tracks : (gap : Frac) (new : List (Item N)) → IsSameGap gap (m.gap m.root) → IsPermutation (kept (within m.ceiling) (Node gap m.root ∷ [])) new → Tracks cmp m new []
  begun_tracks gap new is put =
      let root : List (Item N) = Node gap m.root ∷ [] in
      let so = kept (within m.ceiling) root in
      let gaps : All (HasGap m) root = All-one (HasGap m) (Node gap m.root) is in
      record {
        split = subst (λ l. IsPermutation l (pending m new)) (pending_kept m laws root gaps ∙ append-nil (nodes_within m (within m.ceiling))) (pending_moves m so new put);
        gaps = All-permutation (HasGap m) so new put (All-filter (λ i. within m.ceiling (gap_of i)) (HasGap m) root gaps);
        nearer = All-nil (λ taken. All (λ item. IsAtMost (gap_of taken) (gap_of item)) new);
        after = All-nil (λ fetched. All (IsAfter cmp fetched) new);
        listed = All-by (IsListed m []) (roughs_of new) (λ r at.
            let (there, (g, l, s, e)) = rough_item new r at in
            let same : Node gap m.root ≡ r = only (Node gap m.root) r (from_filter (λ i. within m.ceiling (gap_of i)) root r (Contains-permutation new so r (IsPermutation-sym so new put) there)).0 in
            absurd (let f : Node gap m.root ≡ Rough g l s = same ∙ e in cc));
        whole = All-nil (λ node. All (HasAlike cmp (roughs_of new)) (kept (within m.ceiling) (roughs_of (m.finds node))));
        once = tt;
        inside = All-permutation (λ item. within m.ceiling (gap_of item) ≡ true) so new put (filter_passes (λ i. within m.ceiling (gap_of i)) root);
      }

  -- a search stands at its beginning
  pub begun_stands : (ceiling : Option ℕ) (gap : Frac) (node : N) (held new : List (Item N)) → ceiling ≡ m.ceiling → (node ≡ m.root) × IsSameGap gap (m.gap node)
      → held ≡ [] → IsPermutation (kept (within ceiling) (Node gap node ∷ []) ++ held) new → Stands cmp m new None []
  begun_stands ceiling gap node held new caps (is, same) empty put =
      let first : IsPermutation (kept (within m.ceiling) (Node gap m.root ∷ [])) new =
      subst (λ c. IsPermutation (kept (within c) (Node gap m.root ∷ [])) new) caps
      (subst (λ n. IsPermutation (kept (within ceiling) (Node gap n ∷ [])) new) is
      (subst (λ l. IsPermutation l new) (append-nil (kept (within ceiling) (Node gap node ∷ [])))
      (subst (λ l. IsPermutation (kept (within ceiling) (Node gap node ∷ []) ++ l) new) empty put))) in
      let level : IsSameGap gap (m.gap m.root) = subst (λ n. IsSameGap gap (m.gap n)) is same in
      record { covers = begun_covers o m laws gap new level first; tracks = begun_tracks gap new level first }

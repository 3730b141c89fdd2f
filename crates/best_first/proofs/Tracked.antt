-- What was taken keeps its account of the tree: at an expansion, at a fetch and at a row given.
use Rattle.std.proofs.Common.{◌≡◌, true, List, [], ◌∷◌, ◌++◌, All, Contains, IsPermutation, ◌⊎◌, inl, inr, ⊎_elim, refl, sym, ap, ◌∙◌, subst, append-nil, append_assoc, Ordering, Equal}
use Rattle.std.specs.Cmp.{IsTotalOrder, tied_itself, tied_back}
use Rattle.std.proofs.lemmas.List.Elements.{All-contains, All-head, All-tail, All-append, All-filter, All-nil, All-weaker, filter_passes, Contains-append_left}
use Rattle.std.proofs.lemmas.List.Elements.{Contains-append_right, Contains-append_cases}
use Rattle.std.proofs.lemmas.List.Sorted.{IsPermutation-sym, IsPermutation-trans, IsPermutation-append_right, All-permutation, Contains-permutation}
use Rattle.exact_frac.specs.declared.frac.Frac.{Frac}
use Rattle.best_first.specs.declared.item.Item.{Item}
use Rattle.best_first.specs.declared.item.Item.TheVariants.{Node, Rough}
use Rattle.best_first.specs.Item.{gap_of, nodes_of, roughs_of}
use Rattle.best_first.specs.Reach.{IsSameGap, IsAtMost, IsBelow, within}
use Rattle.best_first.specs.Hierarchy.{Meaning, MeetsLaws, HasGap, near, kept, nodes_within}
use Rattle.best_first.specs.Order.{item_cmp, item_total}
use Rattle.best_first.specs.Frontier.{Tracks, IsAfter, HasAlike, IsListed, IsOnce, pending}
use Rattle.best_first.proofs.Bags.{here, cons_cases, none, All-by, All-left, All-right, All-one, in_filter, from_filter, IsPermutation-same}
use Rattle.best_first.proofs.Gaps.{at_most_trans, below_trans, equal_at_most, same_back, within_reach, reach_same}
use Rattle.best_first.proofs.Alikes.{IsFoundAt, alike_from, alike_to, alike_gaps, alike_cmp}
use Rattle.best_first.proofs.Trees.{rough_item, rough_among}
use Rattle.best_first.proofs.Pending.{nodes-append, roughs-append, pending-append, pending_moves, pending_here}
use Rattle.best_first.proofs.Ranks.{after_strict, far_after, alike_rough}

-- ---- parts of the account under more that was taken and another frontier

pub alike_more : {N : Type 0} (cmp : N → N → Ordering) (xs ys : List (Item N)) (item : Item N) → ((other : Item N) → Contains xs other → HasAlike cmp ys other)
    → IsTotalOrder cmp → HasAlike cmp xs item → HasAlike cmp ys item
alike_more cmp xs ys item step o h =
    let more = step h.other h.listed in
    record { other = more.other; listed = more.listed; alike = (item_total o).congr item h.other more.other h.alike ∙ more.alike }

pub alike_here : {N : Type 0} (cmp : N → N → Ordering) (o : IsTotalOrder cmp) (xs : List (Item N)) (item : Item N) → Contains xs item → HasAlike cmp xs item
alike_here cmp o xs item h = record { other = item; listed = h; alike = tied_itself (item_total o) item }

pub listed_more : {N : Type 0} (m : Meaning N) (done more : List (Item N)) (item : Item N) → IsListed m done item → IsListed m (done ++ more) item
listed_more m done more item h = record {
  leaf = h.leaf;
  opened = subst (λ l. Contains l h.leaf) (sym (nodes-append done more)) (Contains-append_left (nodes_of done) (nodes_of more) h.leaf h.opened);
  other = h.other;
  listed = h.listed;
  alike = h.alike;
}

-- an item among the rough ones of a longer list, from the list
pub rough_moves : {N : Type 0} (xs ys : List (Item N)) (item : Item N) → (Contains xs item → Contains ys item) → Contains (roughs_of xs) item → Contains (roughs_of ys) item
rough_moves xs ys item step h =
    let (at, (gap, l, r, is)) = rough_item xs item h in
    subst (Contains (roughs_of ys)) (sym is) (rough_among ys gap l r (subst (Contains ys) is (step at)))

pub once_push : {N : Type 0} (cmp : N → N → Ordering) (items : List (Item N)) (item : Item N) → All (λ other. item_cmp cmp other item ≡ Equal → ⊥) items
    → IsOnce cmp items → IsOnce cmp (items ++ item ∷ [])
once_push cmp [] item apart h = (All-nil (λ other. item_cmp cmp item other ≡ Equal → ⊥), tt)
once_push cmp (first ∷ items) item apart (alone, rest) =
    let P = λ (other : Item _). item_cmp cmp first other ≡ Equal → ⊥ in
    let Q = λ (other : Item _). item_cmp cmp other item ≡ Equal → ⊥ in
    (All-append P items (item ∷ []) alone (All-one P item (All-head Q first items apart)), once_push cmp items item (All-tail Q first items apart) rest)

module _ {N : Type 0} {cmp : N → N → Ordering} (o : IsTotalOrder cmp) (m : Meaning N) (laws : MeetsLaws m) where
  -- ---- an expansion

  module _ (held rest new done : List (Item N)) (gap near_gap : Frac) (a : N) (items : List (Item N)) (says : IsFoundAt m a items) (asked : Contains held (Node gap a))
      (taken : IsPermutation held (Node near_gap a ∷ rest)) (put : IsPermutation (kept (within m.ceiling) items ++ rest) new)
      (far : All (λ item. IsAtMost gap (gap_of item)) rest) (h : Tracks cmp m held done) where
    -- the node as it was opened, and as it left the frontier
    front : Item N
    front = Node gap a

    left : Item N
    left = Node near_gap a

    found : List (Item N)
    found = kept (within m.ceiling) items

    queued : (item : Item N) → Contains (left ∷ rest) item → Contains held item
    unfolding left
    queued item at = Contains-permutation (left ∷ rest) held item (IsPermutation-sym held (left ∷ rest) taken) at

    was_queued : Contains held front
    unfolding front
    was_queued = asked

    rest_of : (P : Item N → Type 0) → All P held → All P rest
    rest_of P all = All-by P rest (λ item at. All-contains P held item all (queued item (Rattle.best_first.proofs.Bags.there left rest item at)))

    new_of : (P : Item N → Type 0) → All P found → All P rest → All P new
    unfolding found
    new_of P first second = All-permutation P (found ++ rest) new put (All-append P found rest first second)

    from_new : (item : Item N) → Contains new item → Contains found item ⊎ Contains rest item
    unfolding found
    from_new item at = Contains-append_cases found rest item (Contains-permutation new (found ++ rest) item (IsPermutation-sym (found ++ rest) new put) at)

    to_new : (item : Item N) → Contains found item ⊎ Contains rest item → Contains new item
    unfolding found
    to_new item at = Contains-permutation (found ++ rest) new item put (⊎_elim (Contains-append_left found rest item) (Contains-append_right found rest item) at)

    of_found : (item : Item N) → Contains found item → Contains items item × (within m.ceiling (gap_of item) ≡ true)
    unfolding found
    of_found item at = from_filter (λ i. within m.ceiling (gap_of i)) items item at

    is : IsSameGap gap (m.gap a)
    unfolding front
    is = All-contains (HasGap m) held front (All-right (HasGap m) done held h.gaps) was_queued

    inside : within m.ceiling gap ≡ true
    unfolding front
    inside = All-contains (λ i. within m.ceiling (gap_of i) ≡ true) held front (All-right (λ i. within m.ceiling (gap_of i) ≡ true) done held h.inside) was_queued

    found_far : (item : Item N) → Contains found item → IsAtMost gap (gap_of item)
    found_far item at = at_most_trans gap (m.gap a) (gap_of item) (equal_at_most gap (m.gap a) is) (All-contains (λ i. IsAtMost (m.gap a) (gap_of i)) items item says.bound (of_found item at).0)

    done_nodes : nodes_of (done ++ front ∷ []) ≡ nodes_of done ++ a ∷ []
    unfolding front
    done_nodes = nodes-append done (front ∷ [])

    done_roughs : roughs_of (done ++ front ∷ []) ≡ roughs_of done
    unfolding front
    done_roughs = roughs-append done (front ∷ []) ∙ append-nil (roughs_of done)

    regroup : nodes_of done ++ pending m (left ∷ rest) ≡ (nodes_of done ++ a ∷ []) ++ pending m (found ++ rest)
    unfolding left found
    regroup =
        ap (λ l. nodes_of done ++ (l ++ pending m rest)) (pending_here m laws a items says.nodes says.gaps (reach_same (within m.ceiling) (within_reach m.ceiling) gap (m.gap a) is true inside))
        ∙ sym (append_assoc (nodes_of done) (a ∷ []) (pending m found ++ pending m rest))
        ∙ ap (λ l. (nodes_of done ++ a ∷ []) ++ l) (sym (pending-append m found rest))

    opened_split : IsPermutation (nodes_within m (within m.ceiling)) (nodes_of (done ++ front ∷ []) ++ pending m new)
    unfolding front left found
    opened_split =
        IsPermutation-trans (nodes_within m (within m.ceiling)) (nodes_of done ++ pending m held) (nodes_of (done ++ front ∷ []) ++ pending m new) h.split
        (IsPermutation-trans (nodes_of done ++ pending m held) (nodes_of done ++ pending m (left ∷ rest)) (nodes_of (done ++ front ∷ []) ++ pending m new)
        (IsPermutation-append_right (nodes_of done) (pending m held) (pending m (left ∷ rest)) (pending_moves m held (left ∷ rest) taken))
        (subst (λ l. IsPermutation l (nodes_of (done ++ front ∷ []) ++ pending m new)) (sym regroup)
        (subst (λ l. IsPermutation ((nodes_of done ++ a ∷ []) ++ pending m (found ++ rest)) (l ++ pending m new)) (sym done_nodes)
        (IsPermutation-append_right (nodes_of done ++ a ∷ []) (pending m (found ++ rest)) (pending m new) (pending_moves m (found ++ rest) new put)))))

    opened_nearer : All (λ k. All (λ item. IsAtMost (gap_of k) (gap_of item)) new) (done ++ front ∷ [])
    unfolding front
    opened_nearer =
        let all = λ (g : Frac) (near : IsAtMost g gap) (more : All (λ item. IsAtMost g (gap_of item)) rest).
        new_of (λ item. IsAtMost g (gap_of item)) (All-by (λ item. IsAtMost g (gap_of item)) found (λ item at. at_most_trans g gap (gap_of item) near (found_far item at))) more in
        let P = λ (k : Item N). All (λ item. IsAtMost (gap_of k) (gap_of item)) new in
        All-append P done (front ∷ [])
        (All-by P done (λ k at. let near = All-contains (λ k. All (λ item. IsAtMost (gap_of k) (gap_of item)) held) done k h.nearer at in
        all (gap_of k) (All-contains (λ item. IsAtMost (gap_of k) (gap_of item)) held front near was_queued) (rest_of (λ item. IsAtMost (gap_of k) (gap_of item)) near)))
        (All-one P front (all gap (Rattle.best_first.proofs.Gaps.at_most_itself gap) far))

    opened_after : All (λ r. All (IsAfter cmp r) new) (roughs_of (done ++ front ∷ []))
    unfolding front
    opened_after =
        let P = λ (r : Item N). All (IsAfter cmp r) new in
        subst (All P) (sym done_roughs)
        (All-by P (roughs_of done) (λ r at.
        let old = All-contains (λ r. All (IsAfter cmp r) held) (roughs_of done) r h.after at in
        let (_, (g, l, s, e)) = rough_item done r at in
        let first : IsAfter cmp (Rough g l s) front = subst (λ x. IsAfter cmp x front) e (All-contains (IsAfter cmp r) held front old was_queued) in
        let below : IsBelow g gap = after_strict cmp (Rough g l s) front refl first in
        new_of (IsAfter cmp r)
        (All-by (IsAfter cmp r) found (λ item i. subst (λ x. IsAfter cmp x item) (sym e) (far_after cmp (Rough g l s) item (below_trans g gap (gap_of item) below (found_far item i)))))
        (rest_of (IsAfter cmp r) old)))

    opened_listed : All (IsListed m (done ++ front ∷ [])) (roughs_of (done ++ front ∷ []) ++ roughs_of new)
    unfolding front
    opened_listed =
        let P = IsListed m (done ++ front ∷ []) in
        let old = λ (r : Item N) (l : Contains (roughs_of done ++ roughs_of held) r).
        listed_more m done (front ∷ []) r (All-contains (IsListed m done) (roughs_of done ++ roughs_of held) r h.listed l) in
        All-append P (roughs_of (done ++ front ∷ [])) (roughs_of new)
        (subst (All P) (sym done_roughs) (All-by P (roughs_of done) (λ r at. old r (Contains-append_left (roughs_of done) (roughs_of held) r at))))
        (All-by P (roughs_of new) (λ r at.
        ⊎_elim
        (λ i. record {
          leaf = a;
          opened = subst (λ l. Contains l a) (sym done_nodes) (Contains-append_right (nodes_of done) (a ∷ []) a (here a []));
          other = (alike_from items (m.finds a) r says.alike (of_found r i).0).0;
          listed = (alike_from items (m.finds a) r says.alike (of_found r i).0).1;
          alike = (alike_from items (m.finds a) r says.alike (of_found r i).0).2;
        })
        (λ i. old r (Contains-append_right (roughs_of done) (roughs_of held) r (rough_moves new held r (λ _. queued r (Rattle.best_first.proofs.Bags.there left rest r i)) at)))
        (from_new r (rough_item new r at).0)))

    opened_whole : All (λ n. All (HasAlike cmp (roughs_of (done ++ front ∷ []) ++ roughs_of new)) (kept (within m.ceiling) (roughs_of (m.finds n)))) (nodes_of (done ++ front ∷ []))
    unfolding front left found
    opened_whole =
        let P = λ (n : N). All (HasAlike cmp (roughs_of (done ++ front ∷ []) ++ roughs_of new)) (kept (within m.ceiling) (roughs_of (m.finds n))) in
        let to = λ (r : Item N) (at : Contains (roughs_of done ++ roughs_of new) r).
        alike_here cmp o (roughs_of (done ++ front ∷ []) ++ roughs_of new) r (subst (λ l. Contains (l ++ roughs_of new) r) (sym done_roughs) at) in
        subst (All P) (sym done_nodes)
        (All-append P (nodes_of done) (a ∷ [])
        (All-weaker (λ n. All (HasAlike cmp (roughs_of done ++ roughs_of held)) (kept (within m.ceiling) (roughs_of (m.finds n)))) P
        (λ n all. All-weaker (HasAlike cmp (roughs_of done ++ roughs_of held)) (HasAlike cmp (roughs_of (done ++ front ∷ []) ++ roughs_of new))
        (λ r alike. alike_more cmp (roughs_of done ++ roughs_of held) (roughs_of (done ++ front ∷ []) ++ roughs_of new) r
        (λ other at. to other (⊎_elim (Contains-append_left (roughs_of done) (roughs_of new) other)
        (λ q. Contains-append_right (roughs_of done) (roughs_of new) other (moved other q))
        (Contains-append_cases (roughs_of done) (roughs_of held) other at))) o alike) (kept (within m.ceiling) (roughs_of (m.finds n))) all)
        (nodes_of done) h.whole)
        (All-one P a (All-by (HasAlike cmp (roughs_of (done ++ front ∷ []) ++ roughs_of new)) (kept (within m.ceiling) (roughs_of (m.finds a))) (λ r at.
        let (among, near) = from_filter (λ i. within m.ceiling (gap_of i)) (roughs_of (m.finds a)) r at in
        let (there, (g, l, s, e)) = rough_item (m.finds a) r among in
        let (x, listed, alike) = alike_to items (m.finds a) r says.alike there in
        let inside2 : within m.ceiling (gap_of x) ≡ true =
        reach_same (within m.ceiling) (within_reach m.ceiling) (gap_of r) (gap_of x) (same_back (gap_of x) (gap_of r) (alike_gaps x r alike)) true near in
        let same : item_cmp cmp r x ≡ Equal = tied_back (item_total o) x r (alike_cmp o x r alike) in
        let rough = alike_rough cmp g l s x (subst (λ y. item_cmp cmp y x ≡ Equal) e same) in
        record {
          other = x;
          listed = subst (λ l. Contains (l ++ roughs_of new) x) (sym done_roughs)
              (Contains-append_right (roughs_of done) (roughs_of new) x
              (subst (Contains (roughs_of new)) (sym rough.1)
              (rough_among new rough.0 l s (subst (Contains new) rough.1 (to_new x (inl (in_filter (λ i. within m.ceiling (gap_of i)) items x listed inside2)))))));
          alike = same;
        }))))
      where
        moved : (r : Item N) → Contains (roughs_of held) r → Contains (roughs_of new) r
        moved r at =
            let (there, (g, l, s, e)) = rough_item held r at in
            rough_moves held new r (λ _. ⊎_elim (λ same. absurd (let e2 : left ≡ Rough g l s = same ∙ e in cc)) (λ t. to_new r (inr t))
            (cons_cases left rest r (Contains-permutation held (left ∷ rest) r taken there))) at

    opened_inside : All (λ item. within m.ceiling (gap_of item) ≡ true) ((done ++ front ∷ []) ++ new)
    unfolding front found
    opened_inside =
        let P = λ (item : Item N). within m.ceiling (gap_of item) ≡ true in
        All-append P (done ++ front ∷ []) new (All-append P done (front ∷ []) (All-left P done held h.inside) (All-one P front inside))
        (new_of P (filter_passes (λ i. within m.ceiling (gap_of i)) items) (rest_of P (All-right P done held h.inside)))

    opened_gaps : All (HasGap m) ((done ++ front ∷ []) ++ new)
    unfolding front found
    opened_gaps =
        All-append (HasGap m) (done ++ front ∷ []) new (All-append (HasGap m) done (front ∷ []) (All-left (HasGap m) done held h.gaps) (All-one (HasGap m) front is))
        (new_of (HasGap m) (All-filter (λ i. within m.ceiling (gap_of i)) (HasGap m) items says.gaps) (rest_of (HasGap m) (All-right (HasGap m) done held h.gaps)))

    pub opened_tracks : Tracks cmp m new (done ++ Node gap a ∷ [])
    unfolding front found
    opened_tracks = record {
      split = opened_split;
      gaps = opened_gaps;
      nearer = opened_nearer;
      after = opened_after;
      listed = opened_listed;
      whole = opened_whole;
      once = subst (IsOnce cmp) (sym done_roughs) h.once;
      inside = opened_inside;
    }

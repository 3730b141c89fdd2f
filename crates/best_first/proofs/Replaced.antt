-- What was taken keeps its account of the tree where items that are one with the front, which is no node, leave the frontier, and rows come.
use Rattle.std.proofs.Common.{◌≡◌, ℕ, Bool, true, false, List, [], ◌∷◌, ◌++◌, All, Contains, flat_map, IsPermutation, ◌⊎◌, inl, inr, ⊎_elim, refl, sym, ap, ◌∙◌, subst}
use Rattle.std.proofs.Common.{append-nil, append_assoc, Ordering, Less, Equal, Greater}
use Rattle.std.specs.Cmp.{IsTotalOrder, tied_back}
use Rattle.std.proofs.lemmas.List.Elements.{All-contains, All-head, All-tail, All-append, All-weaker, Contains-append_left, Contains-append_right, Contains-append_cases}
use Rattle.std.proofs.lemmas.List.Sorted.{IsPermutation-sym, IsPermutation-trans, IsPermutation-append_right, All-permutation, Contains-permutation}
use Rattle.exact_frac.specs.declared.frac.Frac.{Frac}
use Rattle.best_first.specs.declared.item.Item.{Item}
use Rattle.best_first.specs.declared.item.Item.TheVariants.{Node, Rough, Row}
use Rattle.best_first.specs.Item.{gap_of, node_if_any, rough_of, nodes_of, roughs_of}
use Rattle.best_first.specs.Reach.{IsAtMost, within}
use Rattle.best_first.specs.Hierarchy.{Meaning, MeetsLaws, HasGap, kept, nodes_within}
use Rattle.best_first.specs.Order.{item_cmp, item_total}
use Rattle.best_first.specs.Frontier.{Tracks, IsAfter, HasAlike, IsListed, IsOnce, pending}
use Rattle.best_first.proofs.Bags.{here, none, only, All-by, All-left, All-right}
use Rattle.best_first.proofs.Gaps.{at_most_trans}
use Rattle.best_first.proofs.Trees.{rough_item, rough_among}
use Rattle.best_first.proofs.Pending.{nodes-append, roughs-append, pending-append, pending_moves}
use Rattle.best_first.proofs.Ranks.{after_far, alike_rough, alike_row, not_itself}
use Rattle.best_first.proofs.Tracked.{alike_more, alike_here, listed_more, rough_moves, once_push}

pub nodes_none : {N : Type 0} (items : List (Item N)) → All (λ item. node_if_any item ≡ []) items → nodes_of items ≡ []
nodes_none [] h = refl
nodes_none (item ∷ items) h =
    ap (λ l. l ++ nodes_of items) (All-head (λ i. node_if_any i ≡ []) item items h) ∙ nodes_none items (All-tail (λ i. node_if_any i ≡ []) item items h)

roughs_none : {N : Type 0} (items : List (Item N)) → All (λ item. rough_of item ≡ []) items → roughs_of items ≡ []
roughs_none [] h = refl
roughs_none (item ∷ items) h =
    ap (λ l. l ++ roughs_of items) (All-head (λ i. rough_of i ≡ []) item items h) ∙ roughs_none items (All-tail (λ i. rough_of i ≡ []) item items h)

rough_no_node : {N : Type 0} (item : Item N) → nodes_of (rough_of item) ≡ []
rough_no_node (Node gap node) = refl
rough_no_node (Rough gap l r) = refl
rough_no_node (Row gap l r) = refl

rough_itself : {N : Type 0} (item : Item N) → roughs_of (rough_of item) ≡ rough_of item
rough_itself (Node gap node) = refl
rough_itself (Rough gap l r) = refl
rough_itself (Row gap l r) = refl

of_rough : {N : Type 0} (item other : Item N) → Contains (rough_of item) other → other ≡ item
of_rough (Node gap node) other h = absurd (none other h)
of_rough (Rough gap l r) other h = sym (only (Rough gap l r) other h)
of_rough (Row gap l r) other h = absurd (none other h)

alike_no_node : {N : Type 0} (cmp : N → N → Ordering) (front item : Item N) → node_if_any front ≡ [] → item_cmp cmp front item ≡ Equal → node_if_any item ≡ []
alike_no_node cmp (Node gap node) item e h = absurd (cc)
alike_no_node cmp (Rough gap l r) item e h = let (far, is) = alike_rough cmp gap l r item h in ap node_if_any is
alike_no_node cmp (Row gap l r) item e h = let (far, is) = alike_row cmp gap l r item h in ap node_if_any is

-- what is one with a rough object is that object
alike_among : {N : Type 0} (cmp : N → N → Ordering) (front : Item N) (gap : Frac) (l r : ℕ) → node_if_any front ≡ [] → item_cmp cmp front (Rough gap l r) ≡ Equal → Contains (rough_of front) front
alike_among cmp (Node g node) gap l r e h = absurd (cc)
alike_among cmp (Rough g k s) gap l r e h = here (Rough g k s) []
alike_among cmp (Row g k s) gap l r e h = let (far, is) = alike_row cmp g k s (Rough gap l r) h in absurd (cc)

once_of : {N : Type 0} (cmp : N → N → Ordering) (items : List (Item N)) (front : Item N) → All (λ other. item_cmp cmp other front ≡ Equal → ⊥) items → IsOnce cmp items
    → IsOnce cmp (items ++ rough_of front)
once_of cmp items (Node gap node) apart h = subst (IsOnce cmp) (sym (append-nil items)) h
once_of cmp items (Rough gap l r) apart h = once_push cmp items (Rough gap l r) apart h
once_of cmp items (Row gap l r) apart h = subst (IsOnce cmp) (sym (append-nil items)) h

-- a row, within the ceiling
pub record IsRowWithin {N : Type 0} (ceiling : Rattle.std.proofs.Common.Option ℕ) (item : Item N) : Type 0 where
  pub no_node : node_if_any item ≡ []
  pub no_rough : rough_of item ≡ []
  pub inside : within ceiling (gap_of item) ≡ true

no_node_gap : {N : Type 0} (m : Meaning N) (item : Item N) → node_if_any item ≡ [] → HasGap m item
no_node_gap m (Node gap node) e = absurd (cc)
no_node_gap m (Rough gap l r) e = tt
no_node_gap m (Row gap l r) e = tt

module _ {N : Type 0} {cmp : N → N → Ordering} (o : IsTotalOrder cmp) (m : Meaning N) (held gone rest added new done : List (Item N)) (front : Item N)
    (no_node : node_if_any front ≡ []) (at : Contains held front) (alike : All (λ item. item_cmp cmp front item ≡ Equal) gone) (taken : IsPermutation held (gone ++ rest))
    (put : IsPermutation (added ++ rest) new) (later : All (IsAfter cmp front) (added ++ rest)) (rows : All (IsRowWithin m.ceiling) added) (h : Tracks cmp m held done) where
  new_of : (P : Item N → Type 0) → All P (added ++ rest) → All P new
  new_of P all = All-permutation P (added ++ rest) new put all

  from_new : (item : Item N) → Contains new item → Contains added item ⊎ Contains rest item
  from_new item i = Contains-append_cases added rest item (Contains-permutation new (added ++ rest) item (IsPermutation-sym (added ++ rest) new put) i)

  was_queued : (item : Item N) → Contains rest item → Contains held item
  was_queued item i = Contains-permutation (gone ++ rest) held item (IsPermutation-sym held (gone ++ rest) taken) (Contains-append_right gone rest item i)

  rest_of : (P : Item N → Type 0) → All P held → All P rest
  rest_of P all = All-by P rest (λ item i. All-contains P held item all (was_queued item i))

  now : List (Item N)
  now = done ++ rough_of front

  done_nodes : nodes_of now ≡ nodes_of done
  unfolding now
  done_nodes = nodes-append done (rough_of front) ∙ ap (λ l. nodes_of done ++ l) (rough_no_node front) ∙ append-nil (nodes_of done)

  done_roughs : roughs_of now ≡ roughs_of done ++ rough_of front
  unfolding now
  done_roughs = roughs-append done (rough_of front) ∙ ap (λ l. roughs_of done ++ l) (rough_itself front)

  below : List N → List N
  below nodes = flat_map (λ node. Rattle.best_first.specs.Hierarchy.near m (within m.ceiling) (m.under node)) nodes

  gone_pending : pending m (gone ++ rest) ≡ pending m rest
  unfolding below
  gone_pending = pending-append m gone rest
      ∙ ap (λ l. below l ++ pending m rest) (nodes_none gone (All-weaker (λ i. item_cmp cmp front i ≡ Equal) (λ i. node_if_any i ≡ []) (λ i e. alike_no_node cmp front i no_node e) gone alike))

  added_pending : pending m (added ++ rest) ≡ pending m rest
  unfolding below
  added_pending = pending-append m added rest ∙ ap (λ l. below l ++ pending m rest) (nodes_none added (All-weaker (IsRowWithin m.ceiling) (λ i. node_if_any i ≡ []) (λ i row. row.no_node) added rows))

  split : IsPermutation (nodes_within m (within m.ceiling)) (nodes_of now ++ pending m new)
  split =
      IsPermutation-trans (nodes_within m (within m.ceiling)) (nodes_of done ++ pending m held) (nodes_of now ++ pending m new) h.split
      (subst (λ l. IsPermutation (nodes_of done ++ pending m held) (l ++ pending m new)) (sym done_nodes)
      (IsPermutation-append_right (nodes_of done) (pending m held) (pending m new)
      (IsPermutation-trans (pending m held) (pending m rest) (pending m new)
      (subst (IsPermutation (pending m held)) gone_pending (pending_moves m held (gone ++ rest) taken))
      (subst (λ l. IsPermutation l (pending m new)) added_pending (pending_moves m (added ++ rest) new put)))))

  far : All (λ item. IsAtMost (gap_of front) (gap_of item)) new
  far = new_of (λ item. IsAtMost (gap_of front) (gap_of item))
      (All-weaker (IsAfter cmp front) (λ item. IsAtMost (gap_of front) (gap_of item)) (λ item a. after_far cmp front item a) (added ++ rest) later)

  of_front : (P : Item N → Type 0) → P front → All P (rough_of front)
  of_front P p = All-by P (rough_of front) (λ item i. subst P (sym (of_rough front item i)) p)

  nearer : All (λ k. All (λ item. IsAtMost (gap_of k) (gap_of item)) new) now
  unfolding now
  nearer =
      let P = λ (k : Item N). All (λ item. IsAtMost (gap_of k) (gap_of item)) new in
      All-append P done (rough_of front)
      (All-by P done (λ k i. All-weaker (λ item. IsAtMost (gap_of front) (gap_of item)) (λ item. IsAtMost (gap_of k) (gap_of item))
      (λ item a. at_most_trans (gap_of k) (gap_of front) (gap_of item)
      (All-contains (λ item. IsAtMost (gap_of k) (gap_of item)) held front (All-contains (λ k. All (λ item. IsAtMost (gap_of k) (gap_of item)) held) done k h.nearer i) at) a) new far))
      (of_front P far)

  after : All (λ r. All (IsAfter cmp r) new) (roughs_of now)
  after =
      let P = λ (r : Item N). All (IsAfter cmp r) new in
      let all = new_of (IsAfter cmp front) later in
      subst (All P) (sym done_roughs)
      (All-append P (roughs_of done) (rough_of front)
      (All-by P (roughs_of done) (λ r i. All-weaker (IsAfter cmp front) (IsAfter cmp r)
      (λ item a. (item_total o).trans r front item (All-contains (IsAfter cmp r) held front (All-contains (λ r. All (IsAfter cmp r) held) (roughs_of done) r h.after i) at) a) new all))
      (of_front P all))

  rough_front : (item : Item N) → Contains (rough_of front) item → Contains (roughs_of held) item
  rough_front item i =
      let go : (x : Item N) → x ≡ front → Contains (rough_of x) item → Contains (roughs_of held) item =
      elim [
        | Node g node ↦ λ e c. absurd (none item c)
        | Rough g l r ↦ λ e c.
            subst (Contains (roughs_of held)) (only (Rough g l r) item c) (rough_among held g l r (subst (Contains held) (sym e) at))
        | Row g l r ↦ λ e c. absurd (none item c)
      ] in
      go front refl i

  no_rough_added : (item : Item N) (gap : Frac) (l r : ℕ) → item ≡ Rough gap l r → Contains added item → ⊥
  no_rough_added item gap l r e i =
      let row = All-contains (IsRowWithin m.ceiling) added item rows i in
      let f : Rough gap l r ∷ [] ≡ [] = ap rough_of (sym e) ∙ row.no_rough in cc

  listed : All (IsListed m now) (roughs_of now ++ roughs_of new)
  unfolding now
  listed =
      let P = IsListed m (done ++ rough_of front) in
      let old = λ (r : Item N) (l : Contains (roughs_of done ++ roughs_of held) r).
      listed_more m done (rough_of front) r (All-contains (IsListed m done) (roughs_of done ++ roughs_of held) r h.listed l) in
      All-append P (roughs_of (done ++ rough_of front)) (roughs_of new)
      (subst (All P) (sym done_roughs) (All-append P (roughs_of done) (rough_of front)
      (All-by P (roughs_of done) (λ r i. old r (Contains-append_left (roughs_of done) (roughs_of held) r i)))
      (All-by P (rough_of front) (λ r i. old r (Contains-append_right (roughs_of done) (roughs_of held) r (rough_front r i))))))
      (All-by P (roughs_of new) (λ r i.
      let (there_is, (gap, l, s, e)) = rough_item new r i in
      ⊎_elim
      (λ a. absurd (no_rough_added r gap l s e a))
      (λ a. old r (Contains-append_right (roughs_of done) (roughs_of held) r (rough_moves new held r (λ _. was_queued r a) i)))
      (from_new r there_is)))

  whole : All (λ n. All (HasAlike cmp (roughs_of now ++ roughs_of new)) (kept (within m.ceiling) (roughs_of (m.finds n)))) (nodes_of now)
  whole =
      let P = λ (n : N). All (HasAlike cmp (roughs_of now ++ roughs_of new)) (kept (within m.ceiling) (roughs_of (m.finds n))) in
      subst (All P) (sym done_nodes)
      (All-weaker (λ n. All (HasAlike cmp (roughs_of done ++ roughs_of held)) (kept (within m.ceiling) (roughs_of (m.finds n)))) P
      (λ n all. All-weaker (HasAlike cmp (roughs_of done ++ roughs_of held)) (HasAlike cmp (roughs_of now ++ roughs_of new))
      (λ r a. alike_more cmp (roughs_of done ++ roughs_of held) (roughs_of now ++ roughs_of new) r (λ other i. moved other i) o a) (kept (within m.ceiling) (roughs_of (m.finds n))) all)
      (nodes_of done) h.whole)
    where
      left : (r : Item N) → Contains (roughs_of done ++ rough_of front) r → Contains (roughs_of now ++ roughs_of new) r
      left r i = Contains-append_left (roughs_of now) (roughs_of new) r (subst (λ l. Contains l r) (sym done_roughs) i)

      moved : (r : Item N) → Contains (roughs_of done ++ roughs_of held) r → HasAlike cmp (roughs_of now ++ roughs_of new) r
      moved r i =
          ⊎_elim
          (λ d. alike_here cmp o (roughs_of now ++ roughs_of new) r (left r (Contains-append_left (roughs_of done) (rough_of front) r d)))
          (λ q.
          let (queued, (gap, l, s, e)) = rough_item held r q in
          ⊎_elim
          (λ g.
          let same = All-contains (λ item. item_cmp cmp front item ≡ Equal) gone r alike g in
          record {
            other = front;
            listed = left front
                (Contains-append_right (roughs_of done) (rough_of front) front (alike_among cmp front gap l s no_node (subst (λ x. item_cmp cmp front x ≡ Equal) e same)));
            alike = tied_back (item_total o) front r same;
          })
          (λ t. alike_here cmp o (roughs_of now ++ roughs_of new) r
          (Contains-append_right (roughs_of now) (roughs_of new) r (rough_moves held new r (λ _. Contains-permutation (added ++ rest) new r put (Contains-append_right added rest r t)) q)))
          (Contains-append_cases gone rest r (Contains-permutation held (gone ++ rest) r taken queued)))
          (Contains-append_cases (roughs_of done) (roughs_of held) r i)

  once : IsOnce cmp (roughs_of now)
  once = subst (IsOnce cmp) (sym done_roughs)
      (once_of cmp (roughs_of done) front (All-by (λ other. item_cmp cmp other front ≡ Equal → ⊥) (roughs_of done)
      (λ r i e. not_itself o r front e (All-contains (IsAfter cmp r) held front (All-contains (λ r. All (IsAfter cmp r) held) (roughs_of done) r h.after i) at))) h.once)

  spread : (P : Item N → Type 0) → All P (done ++ held) → All P added → All P (now ++ new)
  unfolding now
  spread P all more =
      All-append P (done ++ rough_of front) new
      (All-append P done (rough_of front) (All-left P done held all) (of_front P (All-contains P held front (All-right P done held all) at)))
      (new_of P (All-append P added rest more (rest_of P (All-right P done held all))))

  pub replaced : Tracks cmp m new (done ++ rough_of front)
  unfolding now
  replaced = record {
    split = split;
    gaps = spread (HasGap m) h.gaps (All-weaker (IsRowWithin m.ceiling) (HasGap m) (λ item row. no_node_gap m item row.no_node) added rows);
    nearer = nearer;
    after = after;
    listed = listed;
    whole = whole;
    once = once;
    inside = spread (λ item. within m.ceiling (gap_of item) ≡ true) h.inside (All-weaker (IsRowWithin m.ceiling) (λ item. within m.ceiling (gap_of item) ≡ true) (λ item row. row.inside) added rows);
  }

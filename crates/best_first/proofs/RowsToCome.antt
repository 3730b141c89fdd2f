-- The rows to come stay pending at each step: an expansion, a fetch, a row given.
use Rattle.std.proofs.Common.{◌≡◌, true, false, List, [], ◌∷◌, ◌++◌, All, Contains, IsPermutation, ⊎_elim, Option, None, Some, refl, sym, ap, ◌∙◌, subst, Ordering, Less, Equal}
use Rattle.std.specs.Ordering.{is_gt}
use Rattle.std.specs.Cmp.{IsTotalOrder, upto, tied_back, alike_right}
use Rattle.std.proofs.lemmas.List.Elements.{All-contains, All-head, All-tail, All-append, All-filter, Contains-append_left, Contains-append_right, Contains-append_cases}
use Rattle.std.proofs.lemmas.List.Sorted.{All-permutation, Contains-permutation}
use Rattle.exact_frac.specs.declared.frac.Frac.{Frac}
use Rattle.best_first.specs.declared.hit.Hit.{Hit}
use Rattle.best_first.specs.declared.item.Item.{Item}
use Rattle.best_first.specs.declared.item.Item.TheVariants.{Node, Rough, Row}
use Rattle.best_first.specs.Item.{gap_of, row_item}
use Rattle.best_first.specs.Reach.{IsSameGap, IsAtMost, within}
use Rattle.best_first.specs.Hierarchy.{Meaning, MeetsLaws, HasGap, HasRow, IsHonest, IsListedUnder, Shows, kept}
use Rattle.best_first.specs.Answer.{hit_cmp, IsAnswer, IsLater, IsNext, IsExhausted}
use Rattle.best_first.specs.Order.{item_cmp, item_total}
use Rattle.best_first.specs.Frontier.{Covers, IsAfter, IsPast, IsPending, LeadsToRow}
use Rattle.best_first.specs.Inside.{AddsFetched}
use Rattle.best_first.proofs.Bags.{here, cons_cases, none, All-by, in_filter, from_filter}
use Rattle.best_first.proofs.Gaps.{at_most_trans, below_trans, equal_at_most, same_back, same_trans, within_reach, reach_same}
use Rattle.best_first.proofs.Alikes.{IsFoundAt, alike_to, alike_shows, alike_cmp, rows_tied}
use Rattle.best_first.proofs.Trees.{node_item, under_cases, under_far}
use Rattle.best_first.proofs.Ranks.{after_strict, far_after, tie_after, alike_rough, alike_row, alike_gap}

pub shows_far : {N : Type 0} (hit : Hit) (item : Item N) → Shows hit item → IsAtMost (gap_of item) hit.gap
shows_far hit (Node gap node) h = absurd h
shows_far hit (Rough gap l r) h = h.2
shows_far hit (Row gap l r) h = equal_at_most gap hit.gap h.0

pub shows_leads : {N : Type 0} (m : Meaning N) (hit : Hit) (item : Item N) → Shows hit item → LeadsToRow m hit item
shows_leads m hit (Node gap node) h = absurd h
shows_leads m hit (Rough gap l r) h = h
shows_leads m hit (Row gap l r) h = h

module _ {N : Type 0} {cmp : N → N → Ordering} (o : IsTotalOrder cmp) (m : Meaning N) (laws : MeetsLaws m) where
  -- what leads to a row is no farther than the row
  pub leads_far : (hit : Hit) (item : Item N) → HasGap m item → LeadsToRow m hit item → IsAtMost (gap_of item) hit.gap
  leads_far hit (Node gap node) is h =
      at_most_trans gap (gap_of h.item) hit.gap
      (at_most_trans gap (m.gap h.leaf) (gap_of h.item)
      (at_most_trans gap (m.gap node) (m.gap h.leaf) (equal_at_most gap (m.gap node) is) (under_far m laws node h.leaf h.below))
      (All-contains (λ item. IsAtMost (m.gap h.leaf) (gap_of item)) (m.finds h.leaf) h.item (laws.bound h.leaf) h.listed))
      (shows_far hit h.item h.shows)
  leads_far hit (Rough gap l r) is h = shows_far {N = N} hit (Rough gap l r) h
  leads_far hit (Row gap l r) is h = shows_far {N = N} hit (Row gap l r) h

  -- what leads to a row doesn't come after the row
  pub leads_first : (hit : Hit) (item : Item N) → HasGap m item → LeadsToRow m hit item → is_gt (item_cmp cmp item (row_item hit)) ≡ false
  leads_first hit (Node gap node) is h = ap is_gt (tie_after cmp (Node gap node) (row_item hit) (leads_far hit (Node gap node) is h) refl)
  leads_first hit (Rough gap l r) is h = ap is_gt (tie_after cmp (Rough gap l r) (row_item hit) (leads_far hit (Rough gap l r) is h) refl)
  leads_first hit (Row gap l r) is h = ap is_gt (alike_cmp o (Row gap l r) (row_item hit) h)

  -- what leads to a row of the answer is within the ceiling
  pub leads_within : (hit : Hit) (item : Item N) → HasGap m item → LeadsToRow m hit item → IsAnswer m hit → within m.ceiling (gap_of item) ≡ true
  leads_within hit item is h answer = within_reach m.ceiling (gap_of item) hit.gap (leads_far hit item is h) answer.1

  past_far : (last : Option Hit) (before item : Item N) → ((h : Hit) → IsAfter cmp (row_item h) before → IsAfter cmp (row_item h) item) → IsPast cmp last before → IsPast cmp last item
  past_far None before item step h = tt
  past_far (Some last) before item step h = step last h

  -- ---- an expansion

  pub opened_leads : (a : N) (items : List (Item N)) → IsFoundAt m a items → (hit : Hit) → IsAnswer m hit → IsListedUnder m a hit → IsPending m (kept (within m.ceiling) items) hit
  opened_leads a items found hit answer h =
      ⊎_elim
      (λ e.
      let listed : Contains (m.finds a) h.item = subst (λ n. Contains (m.finds n) h.item) (sym e) h.listed in
      let (x, among, alike) = alike_to items (m.finds a) h.item found.alike listed in
      let shows = alike_shows hit x h.item alike h.shows in
      let inside : within m.ceiling (gap_of x) ≡ true = within_reach m.ceiling (gap_of x) hit.gap (shows_far hit x shows) answer.1 in
      record { item = x; queued = in_filter (λ i. within m.ceiling (gap_of i)) items x among inside; leads = shows_leads m hit x shows })
      (λ (c, child, below).
      let (g, at) = node_item items c (subst (λ l. Contains l c) (sym found.nodes) child) in
      let leads : IsListedUnder m c hit = record { leaf = h.leaf; below = below; item = h.item; listed = h.listed; shows = h.shows } in
      let inside = leads_within hit (Node g c) (All-contains (HasGap m) items (Node g c) found.gaps at) leads answer in
      record { item = Node g c; queued = in_filter (λ i. within m.ceiling (gap_of i)) items (Node g c) at inside; leads = leads })
      (under_cases m laws a h.leaf h.below)

  pub opened_covers : (held rest new : List (Item N)) (last : Option Hit) (gap : Frac) (a : N) (items : List (Item N)) → IsFoundAt m a items → IsSameGap gap (m.gap a)
      → IsPermutation held (Node gap a ∷ rest) → IsPermutation (kept (within m.ceiling) items ++ rest) new → Covers cmp m held last → Covers cmp m new last
  opened_covers held rest new last gap a items says is taken put h =
      let found = kept (within m.ceiling) items in
      let sound = All-permutation (IsHonest m) held (Node gap a ∷ rest) taken h.sound in
      let past = All-permutation (IsPast cmp last) held (Node gap a ∷ rest) taken h.past in
      let before : IsPast cmp last (Node gap a) = All-head (IsPast cmp last) (Node gap a) rest past in
      record {
        sound = All-permutation (IsHonest m) (found ++ rest) new put
            (All-append (IsHonest m) found rest (All-filter (λ i. within m.ceiling (gap_of i)) (IsHonest m) items says.honest) (All-tail (IsHonest m) (Node gap a) rest sound));
        past = All-permutation (IsPast cmp last) (found ++ rest) new put
            (All-append (IsPast cmp last) found rest
            (All-by (IsPast cmp last) found (λ item at.
            past_far last (Node gap a) item (λ k p.
            far_after cmp (row_item k) item (below_trans k.gap gap (gap_of item) (after_strict cmp (row_item k) (Node gap a) refl p)
            (at_most_trans gap (m.gap a) (gap_of item) (equal_at_most gap (m.gap a) is)
            (All-contains (λ i. IsAtMost (m.gap a) (gap_of i)) items item says.bound
            (from_filter (λ i. within m.ceiling (gap_of i)) items item at).0)))) before)) (All-tail (IsPast cmp last) (Node gap a) rest past));
        whole = λ hit answer later.
            let p = h.whole hit answer later in
            ⊎_elim
            (λ e. let q = opened_leads a items says hit answer (subst (LeadsToRow m hit) (sym e) p.leads) in
            record { item = q.item; queued = Contains-permutation (found ++ rest) new q.item put (Contains-append_left found rest q.item q.queued); leads = q.leads })
            (λ t. record { item = p.item; queued = Contains-permutation (found ++ rest) new p.item put (Contains-append_right found rest p.item t); leads = p.leads })
            (cons_cases (Node gap a) rest p.item (Contains-permutation held (Node gap a ∷ rest) p.item taken p.queued));
      }

  -- ---- a fetch

  pub fetched_covers : (held gone rest added new : List (Item N)) (last : Option Hit) (gap : Frac) (hit : Hit) → HasRow m hit
      → Contains held (Rough gap hit.left hit.right) → All (λ item. item_cmp cmp (Rough gap hit.left hit.right) item ≡ Equal) gone → AddsFetched m.ceiling gap hit added
      → IsPermutation held (gone ++ rest) → IsPermutation (added ++ rest) new → Covers cmp m held last → Covers cmp m new last
  fetched_covers held gone rest added new last gap hit listed at alike adds taken put h =
      let front : Item N = Rough gap hit.left hit.right in
      let right = λ (P : Item N → Type 0) (all : All P held).
      All-by P rest (λ item i. All-contains P (gone ++ rest) item (All-permutation P held (gone ++ rest) taken all) (Contains-append_right gone rest item i)) in
      record {
        sound = All-permutation (IsHonest m) (added ++ rest) new put
            (All-append (IsHonest m) added rest (All-by (IsHonest m) added
            (λ item i. subst (IsHonest m) (sym (All-contains (λ x. (x ≡ row_item hit) × IsAtMost gap hit.gap × (within m.ceiling hit.gap ≡ true)) added item adds.only i).0) listed)) (right
            (IsHonest m) h.sound));
        past = All-permutation (IsPast cmp last) (added ++ rest) new put
            (All-append (IsPast cmp last) added rest
            (All-by (IsPast cmp last) added (λ item i. let says = All-contains (λ x. (x ≡ row_item hit) × IsAtMost gap hit.gap × (within m.ceiling hit.gap ≡ true)) added item adds.only i in
            subst (IsPast cmp last) (sym says.0) (past_far last front (row_item hit)
            (λ k p. far_after cmp (row_item k) (row_item hit) (below_trans k.gap gap hit.gap (after_strict cmp (row_item k) front refl p) says.1))
            (All-contains (IsPast cmp last) held front h.past at)))) (right (IsPast cmp last) h.past));
        whole = λ other answer later.
            let p = h.whole other answer later in
            ⊎_elim
            (λ g.
            let same = All-contains (λ item. item_cmp cmp front item ≡ Equal) gone p.item alike g in
            let (far, is) = alike_rough cmp gap hit.left hit.right p.item same in
            let shows : Shows {N = N} other (Rough far hit.left hit.right) = subst (LeadsToRow m other) is p.leads in
            let one : IsSameGap other.gap hit.gap =
            same_trans other.gap listed.row.gap hit.gap (laws.once other listed.row answer.0 listed.among (sym shows.0 ∙ sym listed.same.1) (sym shows.1 ∙ sym listed.same.2)) listed.same.0 in
            let level : IsAtMost gap far = equal_at_most gap far (alike_gap cmp front (Rough far hit.left hit.right) (subst (λ x. item_cmp cmp front x ≡ Equal) is same)) in
            let near : IsAtMost gap hit.gap = at_most_trans gap other.gap hit.gap (at_most_trans gap far other.gap level shows.2) (equal_at_most other.gap hit.gap one) in
            let inside : within m.ceiling hit.gap ≡ true = reach_same (within m.ceiling) (within_reach m.ceiling) other.gap hit.gap one true answer.1 in
            record {
              item = row_item hit;
              queued = Contains-permutation (added ++ rest) new (row_item hit) put (Contains-append_left added rest (row_item hit) (adds.whole near inside));
              leads = (same_back other.gap hit.gap one, shows.0, shows.1);
            })
            (λ t. record { item = p.item; queued = Contains-permutation (added ++ rest) new p.item put (Contains-append_right added rest p.item t); leads = p.leads })
            (Contains-append_cases gone rest p.item (Contains-permutation held (gone ++ rest) p.item taken p.queued));
      }

  -- ---- a row given

  still_later : (last : Option Hit) (hit other : Hit) → IsPast cmp last (row_item hit) → hit_cmp hit other ≡ Less → IsLater last other
  still_later None hit other p q = tt
  still_later (Some k) hit other p q = (item_total o).trans (row_item k) (row_item hit) (row_item other) p q

  pub given_covers : (held gone rest : List (Item N)) (last : Option Hit) (hit : Hit) → Contains held (row_item hit)
      → All (λ item. item_cmp cmp (row_item hit) item ≡ Equal) gone → All (IsAfter cmp (row_item hit)) rest → IsPermutation held (gone ++ rest) → Covers cmp m held last → Covers cmp m rest (Some hit)
  given_covers held gone rest last hit at alike after taken h = record {
    sound = All-by (IsHonest m) rest (λ item i. All-contains (IsHonest m) (gone ++ rest) item (All-permutation (IsHonest m) held (gone ++ rest) taken h.sound)
        (Contains-append_right gone rest item i));
    past = after;
    whole = λ other answer later.
        let p = h.whole other answer (still_later last hit other (All-contains (IsPast cmp last) held (row_item hit) h.past at) later) in
        ⊎_elim
        (λ g.
        let same = All-contains (λ item. item_cmp cmp (row_item hit) item ≡ Equal) gone p.item alike g in
        let (far, is) = alike_row cmp hit.gap hit.left hit.right p.item same in
        let shows : Shows {N = N} other (Row far hit.left hit.right) = subst (LeadsToRow m other) is p.leads in
        let level : item_cmp cmp (row_item hit) (Row far hit.left hit.right) ≡ Equal = subst (λ x. item_cmp cmp (row_item hit) x ≡ Equal) is same in
        let tied : hit_cmp hit other ≡ Equal = (item_total o).congr (row_item hit) (Row far hit.left hit.right) (row_item other) level
        ∙ alike_cmp o (Row far hit.left hit.right) (row_item other) shows in
        absurd (let e : Equal ≡ Less = sym tied ∙ later in cc))
        (λ t. record { item = p.item; queued = t; leads = p.leads })
        (Contains-append_cases gone rest p.item (Contains-permutation held (gone ++ rest) p.item taken p.queued));
  }

  -- the row at the front is the next row of the answer
  pub is_next : (held : List (Item N)) (last : Option Hit) (hit : Hit) → Contains held (row_item hit) → All (λ item. is_gt (item_cmp cmp (row_item hit) item) ≡ false) held
      → All (HasGap m) held → within m.ceiling hit.gap ≡ true → Covers cmp m held last → IsNext m last hit
  is_next held last hit at least gaps inside h =
      let past : IsPast cmp last (row_item hit) = All-contains (IsPast cmp last) held (row_item hit) h.past at in
      let has : HasRow m hit = All-contains (IsHonest m) held (row_item hit) h.sound at in
      let back : hit_cmp has.row hit ≡ Equal = rows_tied has.row hit has.same in
      let tied : hit_cmp hit has.row ≡ Equal = tied_back (item_total o) (row_item has.row) (row_item hit) back in
      record {
        row = has.row;
        same = has.same;
        answer = (has.among, reach_same (within m.ceiling) (within_reach m.ceiling) hit.gap has.row.gap (same_back has.row.gap hit.gap has.same.0) true inside);
        later = elim last as (λ l. IsPast cmp l (row_item hit) → IsLater l has.row) [
          | None ↦ λ p. tt
          | Some k ↦ λ p.
              sym (alike_right (item_total o) (row_item hit) (row_item has.row) (row_item k) tied) ∙ p
        ] past;
        first = λ other answer later.
            let p = h.whole other answer later in
            let first : is_gt (hit_cmp hit other) ≡ false =
            upto (item_total o) (row_item hit) p.item (row_item other) (All-contains (λ item. is_gt (item_cmp cmp (row_item hit) item) ≡ false) held p.item least p.queued)
            (leads_first other p.item (All-contains (HasGap m) held p.item gaps p.queued) p.leads) in
            ap is_gt ((item_total o).congr (row_item has.row) (row_item hit) (row_item other) back) ∙ first;
      }

  -- where nothing is queued, all rows are given
  pub is_exhausted : (held : List (Item N)) (last : Option Hit) → held ≡ [] → Covers cmp m held last → IsExhausted m last
  is_exhausted held last empty h hit answer later =
      let p = h.whole hit answer later in none p.item (subst (λ l. Contains l p.item) empty p.queued)

  -- ---- the beginning

  pub begun_covers : (gap : Frac) (new : List (Item N)) → IsSameGap gap (m.gap m.root) → IsPermutation (kept (within m.ceiling) (Node gap m.root ∷ [])) new → Covers cmp m new None
  begun_covers gap new is put =
      let root : List (Item N) = Node gap m.root ∷ [] in
      record {
        sound = All-permutation (IsHonest m) (kept (within m.ceiling) root) new put
            (All-filter (λ i. within m.ceiling (gap_of i)) (IsHonest m) root (Rattle.best_first.proofs.Bags.All-one (IsHonest m) (Node gap m.root) tt));
        past = λ k d below. tt;
        whole = λ hit answer later.
            let leads = laws.covers hit answer.0 in
            record {
              item = Node gap m.root;
              queued = Contains-permutation (kept (within m.ceiling) root) new (Node gap m.root) put
                  (in_filter (λ i. within m.ceiling (gap_of i)) root (Node gap m.root) (here (Node gap m.root) []) (leads_within hit (Node gap m.root) is leads answer));
              leads = leads;
            };
      }

  -- what is no farther than all that is queued is no farther than the row that comes next
  pub within_row : (held : List (Item N)) (last : Option Hit) (hit : Hit) (gap : Frac) → IsNext m last hit → All (HasGap m) held
      → All (λ item. IsAtMost gap (gap_of item)) held → Covers cmp m held last → IsAtMost gap hit.gap
  within_row held last hit gap next gaps near h =
      let p = h.whole next.row next.answer next.later in
      at_most_trans gap next.row.gap hit.gap
      (at_most_trans gap (gap_of p.item) next.row.gap (All-contains (λ item. IsAtMost gap (gap_of item)) held p.item near p.queued)
      (leads_far next.row p.item (All-contains (HasGap m) held p.item gaps p.queued) p.leads))
      (equal_at_most next.row.gap hit.gap next.same.0)

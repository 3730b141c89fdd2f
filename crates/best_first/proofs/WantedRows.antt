-- A search that stands for the wanted left ids stands at each step: an expansion, a fetch, a row that leaves or is given.
use Rattle.std.proofs.Common.{◌≡◌, ℕ, Bool, true, false, List, [], ◌∷◌, ◌++◌, All, Contains, filter, IsPermutation, ⊎_elim, refl, sym, ap, ◌∙◌, subst}
use Rattle.std.proofs.Common.{Ordering, Equal, true≢false}
use Rattle.std.specs.Ordering.{is_gt}
use Rattle.std.specs.List.{AllZip}
use Rattle.std.specs.Cmp.{IsTotalOrder, upto}
use Rattle.std.proofs.lemmas.List.Elements.{All-contains, All-tail, All-append, All-weaker, Contains-append_left, Contains-append_right, Contains-append_cases}
use Rattle.std.proofs.lemmas.List.Sorted.{All-permutation, Contains-permutation, IsPermutation-refl, IsPermutation-sym, IsPermutation-trans, IsPermutation-append_right}
use Rattle.exact_frac.specs.declared.frac.Frac.{Frac}
use Rattle.best_first.specs.declared.hit.Hit.{Hit}
use Rattle.best_first.specs.declared.item.Item.{Item}
use Rattle.best_first.specs.declared.item.Item.TheVariants.{Node, Rough, Row}
use Rattle.best_first.specs.Item.{gap_of, node_if_any, row_item, nodes_of, roughs_of, IsAlike}
use Rattle.best_first.specs.Reach.{IsSameGap, IsAtMost, within}
use Rattle.best_first.specs.Hierarchy.{Meaning, MeetsLaws, HasGap, HasRow, IsHonest, Shows, kept, near, nodes_within}
use Rattle.best_first.specs.Answer.{hit_cmp}
use Rattle.best_first.specs.Order.{item_cmp, item_total}
use Rattle.best_first.specs.Frontier.{Tracks, IsListed, HasAlike, IsAfter, LeadsToRow, pending}
use Rattle.best_first.specs.Wanted.{is_wanted, wanted_of, StandsFor, IsFirstWanted, HasNoneWanted, AddsFor}
use Rattle.best_first.proofs.Bags.{cons_cases, none, All-by, All-left, All-right, in_filter, from_filter, IsPermutation-flat_map, IsPermutation-same}
use Rattle.best_first.proofs.Gaps.{at_most_trans, equal_at_most, same_back, same_trans, within_reach, reach_same}
use Rattle.best_first.proofs.Alikes.{is_found, rows_tied}
use Rattle.best_first.proofs.Trees.{rough_item}
use Rattle.best_first.proofs.Pending.{nodes-append, roughs-append}
use Rattle.best_first.proofs.Ranks.{alike_rough, alike_gap, tie_after}
use Rattle.best_first.proofs.RowsToCome.{leads_far, leads_first, opened_leads}
use Rattle.best_first.proofs.Tracked.{alike_more, alike_here, rough_moves, opened_tracks}
use Rattle.best_first.proofs.Replaced.{IsRowWithin, nodes_none, replaced}
use Rattle.best_first.proofs.WantedItems.{filled, filters_commute, nodes_wanted, roughs_wanted, leads_wanted}

-- what was taken keeps its account where rows alone leave the frontier
pub tracks_less : {N : Type 0} {cmp : N → N → Ordering} (o : IsTotalOrder cmp) (m : Meaning N) (held rest done : List (Item N)) → IsPermutation (nodes_of held) (nodes_of rest)
    → ((item : Item N) → Contains rest item → Contains held item) → ((r : Item N) → Contains (roughs_of held) r → Contains (roughs_of rest) r) → Tracks cmp m held done → Tracks cmp m rest done
tracks_less {N} {cmp} o m held rest done nodes few roughs h =
    let fewer = λ (P : Item N → Type 0) (all : All P held). (let each : All P rest = All-by P rest (λ item at. All-contains P held item all (few item at)) in each) in
    let both = λ (P : Item N → Type 0) (all : All P (done ++ held)). (let each : All P (done ++ rest) =
    All-append P done rest (All-left P done held all) (fewer P (All-right P done held all)) in each) in
    let below = λ (node : N). near m (within m.ceiling) (m.under node) in
    record {
      split = IsPermutation-trans (nodes_within m (within m.ceiling)) (nodes_of done ++ pending m held) (nodes_of done ++ pending m rest) h.split
          (IsPermutation-append_right (nodes_of done) (pending m held) (pending m rest) (IsPermutation-flat_map below (nodes_of held) (nodes_of rest) nodes));
      gaps = both (HasGap m) h.gaps;
      nearer = All-weaker (λ taken. All (λ item. IsAtMost (gap_of taken) (gap_of item)) held) (λ taken. All (λ item. IsAtMost (gap_of taken) (gap_of item)) rest)
          (λ taken all. fewer (λ item. IsAtMost (gap_of taken) (gap_of item)) all) done h.nearer;
      after = All-weaker (λ fetched. All (IsAfter cmp fetched) held) (λ fetched. All (IsAfter cmp fetched) rest) (λ fetched all. fewer (IsAfter cmp fetched) all) (roughs_of done) h.after;
      listed = All-append (IsListed m done) (roughs_of done) (roughs_of rest) (All-left (IsListed m done) (roughs_of done) (roughs_of held) h.listed)
          (All-by (IsListed m done) (roughs_of rest) (λ r at. All-contains (IsListed m done) (roughs_of held) r (All-right (IsListed m done) (roughs_of done) (roughs_of held) h.listed)
          (rough_moves rest held r (few r) at)));
      whole = All-weaker (λ node. All (HasAlike cmp (roughs_of done ++ roughs_of held)) (kept (within m.ceiling) (roughs_of (m.finds node))))
          (λ node. All (HasAlike cmp (roughs_of done ++ roughs_of rest)) (kept (within m.ceiling) (roughs_of (m.finds node))))
          (λ node all. All-weaker (HasAlike cmp (roughs_of done ++ roughs_of held)) (HasAlike cmp (roughs_of done ++ roughs_of rest))
          (λ r a. alike_more cmp (roughs_of done ++ roughs_of held) (roughs_of done ++ roughs_of rest) r (λ other at. alike_here cmp o (roughs_of done ++ roughs_of rest) other
          (⊎_elim (λ d. Contains-append_left (roughs_of done) (roughs_of rest) other d) (λ q. Contains-append_right (roughs_of done) (roughs_of rest) other (roughs other q))
          (Contains-append_cases (roughs_of done) (roughs_of held) other at))) o a) (kept (within m.ceiling) (roughs_of (m.finds node))) all) (nodes_of done) h.whole;
      once = h.once;
      inside = both (λ item. within m.ceiling (gap_of item) ≡ true) h.inside;
    }

-- a search that stands for some left ids stands for fewer
pub stands_fewer : {N : Type 0} {cmp : N → N → Ordering} (m : Meaning N) (wants less : ℕ → Bool) (held done : List (Item N)) → ((id : ℕ) → less id ≡ true → wants id ≡ true)
    → StandsFor cmp m wants held done → StandsFor cmp m less held done
stands_fewer m wants less held done narrow h = record { sound = h.sound; whole = λ hit answer e. h.whole hit answer (narrow hit.left e); tracks = h.tracks }

module _ {N : Type 0} {cmp : N → N → Ordering} (o : IsTotalOrder cmp) (m : Meaning N) (laws : MeetsLaws m) (wants : ℕ → Bool) where
  -- ---- an expansion

  -- a node is opened, and of what it finds the items of use are queued
  pub opened_for : (held rest new done : List (Item N)) (gap near_gap : Frac) (a : N) (items : List (Item N)) → AllZip IsAlike items (wanted_of wants (m.finds a))
      → Contains held (Node gap a) → IsSameGap near_gap (m.gap a) → IsPermutation held (Node near_gap a ∷ rest) → IsPermutation (kept (within m.ceiling) items ++ rest) new
      → All (λ item. IsAtMost gap (gap_of item)) rest → StandsFor cmp m wants held done → StandsFor cmp m wants new (done ++ Node gap a ∷ [])
  opened_for held rest new done gap near_gap a items alike asked is taken put far h =
      let fill = filled wants items (m.finds a) alike in
      let full = fill.full in
      let says = is_found m laws a full fill.alike in
      let q = λ (item : Item N). within m.ceiling (gap_of item) in
      let all = kept (within m.ceiling) full ++ rest in
      let found = kept (within m.ceiling) items in
      let kept_is : filter (is_wanted wants) (filter q full) ≡ found = filters_commute (is_wanted wants) q full ∙ ap (filter q) fill.kept in
      let among : (item : Item N) → Contains found item → Contains (kept (within m.ceiling) full) item = λ item at.
      (from_filter (is_wanted wants) (filter q full) item (subst (λ l. Contains l item) (sym kept_is) at)).0 in
      let came : (item : Item N) → Contains new item → Contains (found ++ rest) item = λ item at. Contains-permutation new (found ++ rest) item (IsPermutation-sym (found ++ rest) new put) at in
      let sound = All-permutation (IsHonest m) held (Node near_gap a ∷ rest) taken h.sound in
      let nodes : nodes_of all ≡ nodes_of (found ++ rest) = nodes-append (kept (within m.ceiling) full) rest
      ∙ ap (λ l. l ++ nodes_of rest) (sym (nodes_wanted wants (filter q full)) ∙ ap nodes_of kept_is) ∙ sym (nodes-append found rest) in
      let roughs : roughs_of all ≡ roughs_of (found ++ rest) = roughs-append (kept (within m.ceiling) full) rest
      ∙ ap (λ l. l ++ roughs_of rest) (sym (roughs_wanted wants (filter q full)) ∙ ap roughs_of kept_is) ∙ sym (roughs-append found rest) in
      record {
        sound = All-permutation (IsHonest m) (found ++ rest) new put
            (All-append (IsHonest m) found rest
            (All-by (IsHonest m) found (λ item at. All-contains (IsHonest m) full item says.honest (from_filter q full item (among item at)).0))
            (All-tail (IsHonest m) (Node near_gap a) rest sound));
        whole = λ hit answer e.
            let p = h.whole hit answer e in
            ⊎_elim
            (λ same.
            let l = opened_leads o m laws a full says hit answer (subst (LeadsToRow m hit) (sym same) p.leads) in
            let queued : Contains found l.item = subst (λ ys. Contains ys l.item) kept_is
            (in_filter (is_wanted wants) (filter q full) l.item l.queued (leads_wanted m wants hit l.item l.leads e)) in
            record { item = l.item; queued = Contains-permutation (found ++ rest) new l.item put (Contains-append_left found rest l.item queued); leads = l.leads })
            (λ t. record { item = p.item; queued = Contains-permutation (found ++ rest) new p.item put (Contains-append_right found rest p.item t); leads = p.leads })
            (cons_cases (Node near_gap a) rest p.item (Contains-permutation held (Node near_gap a ∷ rest) p.item taken p.queued));
        tracks = tracks_less o m all new (done ++ Node gap a ∷ [])
            (IsPermutation-trans (nodes_of all) (nodes_of (found ++ rest)) (nodes_of new) (IsPermutation-same (nodes_of all) (nodes_of (found ++ rest)) nodes)
            (IsPermutation-flat_map node_if_any (found ++ rest) new put))
            (λ item at. ⊎_elim (λ f. Contains-append_left (kept (within m.ceiling) full) rest item (among item f)) (λ t. Contains-append_right (kept (within m.ceiling) full) rest item t)
            (Contains-append_cases found rest item (came item at)))
            (λ r at. rough_moves (found ++ rest) new r (λ t. Contains-permutation (found ++ rest) new r put t) (subst (λ l. Contains l r) roughs at))
            (opened_tracks o m laws held rest all done gap near_gap a full says asked taken (IsPermutation-refl all) far h.tracks);
      }

  -- ---- a fetch

  -- a rough object is fetched, and its row is queued where it is wanted
  pub fetched_for : (held gone rest new done : List (Item N)) (gap : Frac) (hit : Hit) → HasRow m hit → Contains held (Rough gap hit.left hit.right)
      → All (λ item. item_cmp cmp (Rough gap hit.left hit.right) item ≡ Equal) gone → IsPermutation held (gone ++ rest) → All (IsAfter cmp (Rough gap hit.left hit.right)) rest
      → AddsFor wants m.ceiling gap hit rest new → StandsFor cmp m wants held done → StandsFor cmp m wants new (done ++ Rough gap hit.left hit.right ∷ [])
  fetched_for held gone rest new done gap hit listed at alike taken after adds h =
      let front : Item N = Rough gap hit.left hit.right in
      let added = adds.added in
      let put = adds.put in
      let says = λ (item : Item N) (i : Contains added item). (let s : (item ≡ row_item hit) × IsAtMost gap hit.gap × (within m.ceiling hit.gap ≡ true) =
      All-contains (λ x. (x ≡ row_item hit) × IsAtMost gap hit.gap × (within m.ceiling hit.gap ≡ true)) added item adds.only i in s) in
      record {
        sound = All-permutation (IsHonest m) (added ++ rest) new put
            (All-append (IsHonest m) added rest (All-by (IsHonest m) added (λ item i. subst (IsHonest m) (sym (says item i).0) listed))
            (All-by (IsHonest m) rest (λ item i. All-contains (IsHonest m) (gone ++ rest) item (All-permutation (IsHonest m) held (gone ++ rest) taken h.sound)
            (Contains-append_right gone rest item i))));
        whole = λ other answer e.
            let p = h.whole other answer e in
            ⊎_elim
            (λ g.
            let same = All-contains (λ item. item_cmp cmp front item ≡ Equal) gone p.item alike g in
            let (far, is) = alike_rough cmp gap hit.left hit.right p.item same in
            let shows : Shows {N = N} other (Rough far hit.left hit.right) = subst (LeadsToRow m other) is p.leads in
            let one : IsSameGap other.gap hit.gap =
            same_trans other.gap listed.row.gap hit.gap (laws.once other listed.row answer.0 listed.among (sym shows.0 ∙ sym listed.same.1) (sym shows.1 ∙ sym listed.same.2)) listed.same.0 in
            let level : IsAtMost gap far = equal_at_most gap far (alike_gap cmp front (Rough far hit.left hit.right) (subst (λ x. item_cmp cmp front x ≡ Equal) is same)) in
            let near : IsAtMost gap hit.gap = at_most_trans gap other.gap hit.gap (at_most_trans gap far other.gap level shows.2) (equal_at_most other.gap hit.gap one) in
            let inside : within m.ceiling hit.gap ≡ true = reach_same (within m.ceiling) (within_reach m.ceiling) other.gap hit.gap one true answer.1 in
            record {
              item = row_item hit;
              queued = Contains-permutation (added ++ rest) new (row_item hit) put (Contains-append_left added rest (row_item hit) (adds.whole (ap wants shows.0 ∙ e) near inside));
              leads = (same_back other.gap hit.gap one, shows.0, shows.1);
            })
            (λ t. record { item = p.item; queued = Contains-permutation (added ++ rest) new p.item put (Contains-append_right added rest p.item t); leads = p.leads })
            (Contains-append_cases gone rest p.item (Contains-permutation held (gone ++ rest) p.item taken p.queued));
        tracks = replaced o m held gone rest added new done front refl at alike taken put
            (All-append (IsAfter cmp front) added rest
            (All-by (IsAfter cmp front) added (λ item i. subst (IsAfter cmp front) (sym (says item i).0) (tie_after cmp front (row_item hit) (says item i).1 refl))) after)
            (All-by (IsRowWithin m.ceiling) added (λ item i. subst (IsRowWithin m.ceiling) (sym (says item i).0) (record { no_node = refl; no_rough = refl; inside = (says item i).2 })))
            h.tracks;
      }

  -- ---- rows that leave

  -- where a row of this left id leaves the frontier, nothing is lost but rows of it
  pub left_for : (held gone rest done : List (Item N)) (less : ℕ → Bool) → IsPermutation held (gone ++ rest) → ((item : Item N) → Contains gone item → (gap : Frac)
      × (left : ℕ) × (right : ℕ) × ((item ≡ Row gap left right) × (less left ≡ false))) → ((id : ℕ) → less id ≡ true → wants id ≡ true)
      → StandsFor cmp m wants held done → StandsFor cmp m less rest done
  left_for held gone rest done less taken rows narrow h =
      let was : (item : Item N) → Contains rest item → Contains held item = λ item at.
      Contains-permutation (gone ++ rest) held item (IsPermutation-sym held (gone ++ rest) taken) (Contains-append_right gone rest item at) in
      let no_node : nodes_of (gone ++ rest) ≡ nodes_of rest = nodes-append gone rest ∙ ap (λ l. l ++ nodes_of rest)
      (nodes_none gone (All-by (λ item. node_if_any item ≡ []) gone (λ item at. let (g, l, r, (e, f)) = rows item at in ap node_if_any e))) in
      record {
        sound = All-by (IsHonest m) rest (λ item at. All-contains (IsHonest m) held item h.sound (was item at));
        whole = λ hit answer e.
            let p = h.whole hit answer (narrow hit.left e) in
            ⊎_elim
            (λ g.
            let (far, l, r, (is, out)) = rows p.item g in
            let shows : Shows {N = N} hit (Row far l r) = subst (LeadsToRow m hit) is p.leads in
            absurd (true≢false (sym e ∙ ap less (sym shows.1) ∙ out)))
            (λ t. record { item = p.item; queued = t; leads = p.leads })
            (Contains-append_cases gone rest p.item (Contains-permutation held (gone ++ rest) p.item taken p.queued));
        tracks = tracks_less o m held rest done
            (IsPermutation-trans (nodes_of held) (nodes_of (gone ++ rest)) (nodes_of rest) (IsPermutation-flat_map node_if_any held (gone ++ rest) taken)
            (IsPermutation-same (nodes_of (gone ++ rest)) (nodes_of rest) no_node))
            was
            (λ r at.
            let (queued, (gap, l, s, is)) = rough_item held r at in
            rough_moves held rest r (λ _. ⊎_elim
            (λ g. let (far, k, z, (e, f)) = rows r g in absurd (let clash : Rough gap l s ≡ Row far k z = sym is ∙ e in let no_row : ⊥ = cc in no_row))
            (λ t. t)
            (Contains-append_cases gone rest r (Contains-permutation held (gone ++ rest) r taken queued))) at)
            h.tracks;
      }

  -- ---- the answer

  -- the wanted row at the front is the first one of the answer
  pub is_first_wanted : (held done : List (Item N)) (hit : Hit) → Contains held (row_item hit) → All (λ item. is_gt (item_cmp cmp (row_item hit) item) ≡ false) held
      → wants hit.left ≡ true → StandsFor cmp m wants held done → IsFirstWanted m wants hit
  is_first_wanted held done hit at least wanted h =
      let has : HasRow m hit = All-contains (IsHonest m) held (row_item hit) h.sound at in
      let inside = All-contains (λ item. within m.ceiling (gap_of item) ≡ true) held (row_item hit) (All-right (λ item. within m.ceiling (gap_of item) ≡ true) done held h.tracks.inside) at in
      let back : hit_cmp has.row hit ≡ Equal = rows_tied has.row hit has.same in
      let gaps = All-right (HasGap m) done held h.tracks.gaps in
      record {
        row = has.row;
        same = has.same;
        answer = (has.among, reach_same (within m.ceiling) (within_reach m.ceiling) hit.gap has.row.gap (same_back has.row.gap hit.gap has.same.0) true inside);
        wanted = ap wants has.same.1 ∙ wanted;
        first = λ other answer e.
            let p = h.whole other answer e in
            let first : is_gt (hit_cmp hit other) ≡ false =
            upto (item_total o) (row_item hit) p.item (row_item other) (All-contains (λ item. is_gt (item_cmp cmp (row_item hit) item) ≡ false) held p.item least p.queued)
            (leads_first o m laws other p.item (All-contains (HasGap m) held p.item gaps p.queued) p.leads) in
            ap is_gt ((item_total o).congr (row_item has.row) (row_item hit) (row_item other) back) ∙ first;
      }

  -- where nothing is queued, no wanted row is left
  pub is_none_wanted : (held done : List (Item N)) → held ≡ [] → StandsFor cmp m wants held done → HasNoneWanted m wants
  is_none_wanted held done empty h hit answer =
      let go : (b : Bool) → wants hit.left ≡ b → b ≡ false =
      elim [ true ↦ λ e. (let p = h.whole hit answer e in absurd (none p.item (subst (λ l. Contains l p.item) empty p.queued))) | false ↦ λ e. refl ] in
      go (wants hit.left) refl

  -- what is no farther than all that is queued is no farther than the first wanted row
  pub within_wanted : (held done : List (Item N)) (hit : Hit) (gap : Frac) → IsFirstWanted m wants hit → All (λ item. IsAtMost gap (gap_of item)) held
      → StandsFor cmp m wants held done → IsAtMost gap hit.gap
  within_wanted held done hit gap first near h =
      let p = h.whole first.row first.answer first.wanted in
      at_most_trans gap first.row.gap hit.gap
      (at_most_trans gap (gap_of p.item) first.row.gap (All-contains (λ item. IsAtMost gap (gap_of item)) held p.item near p.queued)
      (leads_far o m laws first.row p.item (All-contains (HasGap m) held p.item (All-right (HasGap m) done held h.tracks.gaps) p.queued) p.leads))
      (equal_at_most first.row.gap hit.gap first.same.0)

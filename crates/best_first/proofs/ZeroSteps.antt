-- The steps of a search within the distance 0: a node is opened, a rough object is fetched, or a step is refused.
use Rattle.std.proofs.Common.{◌≡◌, ℕ, ◌+◌, ◌<◌, ◌^◌, min, length, Bool, true, false, true≢false, cond, List, [], ◌∷◌, ◌++◌, map, sum_by, All, Contains, IsPermutation}
use Rattle.std.proofs.Common.{Option, None, Some, IfSome, ⊎_elim, refl, sym, ap, ◌∙◌, subst, append-nil, arith, Ordering, Less, Equal}
use Rattle.std.specs.Prelude.{nat_eq}
use Rattle.std.specs.Ordering.{ordering_then}
use Rattle.std.specs.List.{AllZip}
use Rattle.std.specs.Cmp.{IsTotalOrder, nat_cmp_is, tied_itself}
use Rattle.std.proofs.lemmas.Bool.{eqb-true}
use Rattle.std.proofs.lemmas.List.{length-map}
use Rattle.std.proofs.lemmas.List.Elements.{All-append, All-map, All-nil, All-weaker, Contains-append_left, Contains-append_right}
use Rattle.std.proofs.lemmas.List.Sorted.{IsPermutation-refl, IsPermutation-sym, IsPermutation-map, IsPermutation-append_left, IsPermutation-middle, Contains-permutation}
use Rattle.exact_frac.specs.declared.frac.Frac.{Frac}
use Rattle.sand_base.specs.Faults.{last_count}
use Rattle.sand_base.specs.declared.visit.Visit.{Visit}
use Rattle.page_pool.specs.Disk.{PageMap}
use Rattle.page_pool.specs.Desk.{DeskState}
use Rattle.best_first.specs.declared.counts.Counts.{Counts}
use Rattle.best_first.specs.declared.hit.Hit.{Hit}
use Rattle.best_first.specs.declared.item.Item.{Item}
use Rattle.best_first.specs.declared.item.Item.TheVariants.{Node, Rough}
use Rattle.best_first.specs.Item.{gap_of, nodes_of, row_item, IsAlike}
use Rattle.best_first.specs.Reach.{IsSameGap, IsAtMost, within}
use Rattle.best_first.specs.Hierarchy.{Meaning, MeetsLaws, FindsAlike, HasRow, IsNode, IsRoughListed, kept}
use Rattle.best_first.specs.Order.{item_cmp, item_total}
use Rattle.best_first.specs.Frontier.{Stands, StandsOver, IsAfter}
use Rattle.best_first.specs.Visits.{state, Noted, Attempts, RoseBy, IsCounted, IsVisit, Goes, Fails}
use Rattle.best_first.specs.Steps.{steps, AddsLess}
use Rattle.best_first.specs.Inside.{TakesEqual, AddsFetched, AddsRow}
use Rattle.best_first.specs.RowsAtZero.{zero_gap, row_at_zero}
use Rattle.best_first.proofs.Bags.{here, All-by, All-one, IsPermutation-same}
use Rattle.best_first.proofs.Gaps.{same_back, same_trans}
use Rattle.best_first.proofs.Falling.{open_falls, fetch_falls}
use Rattle.best_first.proofs.Moves.{queued_node, opened, fetched}
use Rattle.best_first.proofs.Lifts.{over_one, node_asks, rough_asks, noted_attempt}
use Rattle.best_first.specs.ZeroItems.{ZeroItems, TakesLeast, IsLeastOf, OpensNode, Fetches, items_of, node_at_zero, rough_at_zero, at_zero, row_if}
use Rattle.best_first.specs.WithinZero.{StandsWithin}
use Rattle.best_first.proofs.Thinned.{Thins, thinned_goes, thinned_steps}
use Rattle.best_first.proofs.Leveled.{zero_same, zero_first, within_zero, level, leveled, leveled_nodes, kept_level, all_alike, with_all, levels_put, node_taken, thins_put, in_map}

-- ---- what an expansion does to the queue

-- the node's place, and what was found at the distance 0, with all doubles
abbrev pub opened_all : {N : Type 0} → List (Item N) → List N → ZeroItems N → ZeroItems N
opened_all found rest was = with_all (at_zero found) (record was { nodes = rest })

-- what is found at the distance 0 takes the node's place
opened_put : {N : Type 0} (found : List (Item N)) (rest : List N) (was : ZeroItems N)
    → IsPermutation (kept (within (Some 0)) (map leveled found) ++ items_of (record was { nodes = rest })) (items_of (opened_all found rest was))
opened_put found rest was =
    subst (λ l. IsPermutation (l ++ items_of (record was { nodes = rest })) (items_of (opened_all found rest was))) (sym (kept_level found)) (levels_put (at_zero found) (record was { nodes = rest }))

-- and the doubles are left out
opened_thins : {N : Type 0} (found : List (Item N)) (rest : List N) (was now : ZeroItems N) → OpensNode rest found was now → Thins (items_of (opened_all found rest was)) (items_of now)
opened_thins found rest was now opens =
    thins_put (nodes_of (at_zero found) ++ rest) _ was.roughs _ was.rows now opens.nodes opens.roughs opens.rows

-- an expansion lowers the number of steps
pub open_falls_zero : {N : Type 0} (weight : N → ℕ) (was now : ZeroItems N) (rest : List N) (found : List (Item N)) (node : N) → was.nodes ≡ rest ++ node ∷ []
    → OpensNode rest found was now → AddsLess weight node [] found → length found < 2 ^ 64 → steps weight (items_of now) < steps weight (items_of was)
open_falls_zero weight was now rest found node last opens adds short =
    let less : sum_by weight (nodes_of found) < weight node = subst (λ l. sum_by weight (nodes_of l) < weight node) (sym adds.adds) adds.less in
    let more : AddsLess weight node [] (map leveled found) = record { added = map leveled found; adds = refl; less = subst (λ l. sum_by weight l < weight node) (sym (leveled_nodes found)) less } in
    let long = length-map found leveled in
    let fell = open_falls weight (items_of was) (items_of (record was { nodes = rest })) (map leveled found) (items_of (opened_all found rest was))
    (node_at_zero node) zero_gap node (Some 0) refl (node_taken was rest node last) (opened_put found rest was) more (omega arith) in
    let thinner = thinned_steps (items_of (opened_all found rest was)) (items_of now) (opened_thins found rest was now opens) weight in
    omega arith

-- ---- what a fetch does to the queue

-- the row that a fetch adds: its gap is 0/1 where it is at the distance 0
abbrev pub fetched_row : Bool → Frac → ℕ → Hit
fetched_row near exact id = record { gap = cond near zero_gap exact; left = id; right = 0 }

-- what is queued without the rough object
abbrev pub fetched_rest : {N : Type 0} → ZeroItems N → ZeroItems N → ZeroItems N
fetched_rest was now = record { nodes = []; roughs = now.roughs; rows = was.rows; below = was.below }

-- and with its row, where that is at the distance 0
abbrev pub fetched_all : {N : Type 0} → ℕ → Bool → ZeroItems N → ZeroItems N → ZeroItems N
fetched_all id near was now = record { nodes = []; roughs = now.roughs; rows = row_if near id ++ was.rows; below = was.below }

-- rough objects at the distance 0 come in the order of their ids
rough_later : {N : Type 0} (cmp : N → N → Ordering) (id other : ℕ) → id < other → IsAfter cmp (rough_at_zero id) (rough_at_zero other)
rough_later cmp id other h = ap (λ r. ordering_then r Equal) (sym (nat_cmp_is id other Less h))

-- the rough object leaves, and all that stays comes after it
rough_taken : {N : Type 0} {cmp : N → N → Ordering} → IsTotalOrder cmp → (was now : ZeroItems N) (id : ℕ) → was.nodes ≡ [] → TakesLeast id was.roughs now.roughs
    → TakesEqual (item_cmp cmp) (rough_at_zero id) (items_of was) (items_of (fetched_rest was now))
rough_taken {N} {cmp} o was now id empty takes =
    let front : Item N = rough_at_zero id in
    let old : List (Item N) = map rough_at_zero was.roughs in
    let left : List (Item N) = map rough_at_zero now.roughs in
    let rows : List (Item N) = map row_at_zero was.rows in
    record {
      first = front;
      more = [];
      split = subst (λ l. IsPermutation (map node_at_zero l ++ (old ++ rows)) (front ∷ (left ++ rows))) (sym empty)
          (IsPermutation-append_left rows old (front ∷ left) (IsPermutation-map rough_at_zero was.roughs (id ∷ now.roughs) takes.0));
      equal = All-one (λ item. item_cmp cmp front item ≡ Equal) front (tied_itself (item_total o) front);
      after = All-append (IsAfter cmp front) left rows
          (All-map (IsAfter cmp front) rough_at_zero now.roughs
          (All-weaker (λ other. id < other) (λ other. IsAfter cmp front (rough_at_zero other)) (λ other h. rough_later cmp id other h) now.roughs takes.1))
          (All-map (IsAfter cmp front) row_at_zero was.rows (All-by (λ other. IsAfter cmp front (row_at_zero other)) was.rows (λ other at. refl)));
    }

-- its row is queued where it is at the distance 0
row_put : {N : Type 0} (was now : ZeroItems N) (id : ℕ) (near : Bool) (exact : Frac) → near ≡ nat_eq exact.num 0
    → AddsRow (Some 0) zero_gap (fetched_row near exact id) (items_of (fetched_rest was now)) (items_of (fetched_all id near was now))
row_put {N} was now id true exact is =
    let row : Item N = row_at_zero id in
    let left : List (Item N) = map rough_at_zero now.roughs in
    let rows : List (Item N) = map row_at_zero was.rows in
    record {
      added = row ∷ [];
      adds = record {
        only = All-one (λ item. (item ≡ row) × IsAtMost zero_gap zero_gap × (within (Some 0) zero_gap ≡ true)) row (refl, zero_first zero_gap, refl);
        whole = λ near inside. here row [];
      };
      put = IsPermutation-sym (left ++ row ∷ rows) (row ∷ (left ++ rows)) (IsPermutation-middle left row rows);
      few = omega arith;
    }
row_put {N} was now id false exact is = record {
  added = [];
  adds = record {
    only = All-nil (λ (item : Item N). (item ≡ row_item (fetched_row false exact id)) × IsAtMost zero_gap exact × (within (Some 0) exact ≡ true));
    whole = λ near inside. absurd (true≢false (sym inside ∙ within_zero exact ∙ sym is));
  };
  put = IsPermutation-refl (items_of (fetched_rest was now));
  few = omega arith;
}

-- unless it is there already
fetched_thins : {N : Type 0} (was now : ZeroItems N) (id : ℕ) (near : Bool) → was.nodes ≡ [] → Fetches id near was now → Thins (items_of (fetched_all id near was now)) (items_of now)
fetched_thins was now id near empty fetches =
    thins_put [] [] now.roughs (row_if near id) was.rows now (IsPermutation-same [] now.nodes (sym (fetches.nodes ∙ empty)))
    (record { again = []; split = IsPermutation-refl now.roughs; there = All-nil (Contains now.roughs) }) fetches.rows

-- a fetch lowers the number of steps
pub fetch_falls_zero : {N : Type 0} {cmp : N → N → Ordering} → IsTotalOrder cmp → (weight : N → ℕ) (was now : ZeroItems N) (id : ℕ) (near : Bool) (exact : Frac)
    → near ≡ nat_eq exact.num 0 → was.nodes ≡ [] → Fetches id near was now → steps weight (items_of now) < steps weight (items_of was)
fetch_falls_zero {N} {cmp} o weight was now id near exact is empty fetches =
    let fell = fetch_falls cmp weight (items_of was) (items_of (fetched_rest was now)) (items_of (fetched_all id near was now)) (Some 0) zero_gap id 0
    (fetched_row near exact id) (rough_taken o was now id empty fetches.roughs) (row_put was now id near exact is) in
    let thinner = thinned_steps (items_of (fetched_all id near was now)) (items_of now) (fetched_thins was now id near empty fetches) weight in
    omega arith

-- ---- a queued id is a queued item

-- the node that is opened next is queued
pub node_queued : {N : Type 0} (q : ZeroItems N) (rest : List N) (node : N) → q.nodes ≡ rest ++ node ∷ [] → Contains (items_of q) (node_at_zero node)
node_queued q rest node e =
    let front = node_at_zero node in
    let left = items_of (record q { nodes = rest }) in
    Contains-permutation (front ∷ left) (items_of q) front (IsPermutation-sym (items_of q) (front ∷ left) (node_taken q rest node e)) (here front left)

-- whatever fraction the gap is written as, of the parts 0 and 1
pub node_queued_at : {N : Type 0} (q : ZeroItems N) (rest : List N) (gap : Frac) (node : N) → gap ≡ zero_gap → q.nodes ≡ rest ++ node ∷ [] → Contains (items_of q) (Node gap node)
node_queued_at q rest gap node is e = subst (λ g. Contains (items_of q) (Node g node)) (sym is) (node_queued q rest node e)

-- a rough object's id is queued with it
pub rough_queued : {N : Type 0} (q : ZeroItems N) (id : ℕ) → IsLeastOf id q.roughs → Contains (items_of q) (rough_at_zero id)
rough_queued {N} q id least =
    let nodes : List (Item N) = map node_at_zero q.nodes in
    let roughs : List (Item N) = map rough_at_zero q.roughs in
    let rows : List (Item N) = map row_at_zero q.rows in
    Contains-append_right nodes (roughs ++ rows) (rough_at_zero id) (Contains-append_left roughs rows (rough_at_zero id) (in_map rough_at_zero q.roughs id least.0))

-- the row that a fetch adds is one of the rows
near_row : {N : Type 0} (m : Meaning N) (near : Bool) (exact : Frac) (id : ℕ) → near ≡ nat_eq exact.num 0 → HasRow m (record { gap = exact; left = id; right = 0 })
    → HasRow m (fetched_row near exact id)
near_row m true exact id is h = record {
  row = h.row;
  among = h.among;
  same = (same_trans h.row.gap exact zero_gap h.same.0 (same_back zero_gap exact (zero_same exact (eqb-true exact.num 0 (sym is)))), h.same.1, h.same.2);
}
near_row m false exact id is h = h

module _ {N : Type 0} {cmp : N → N → Ordering} (o : IsTotalOrder cmp) (m : Meaning N) (note : Item N → Visit) where
  -- ---- the steps over one map of pages

  -- a node is opened
  opened_zero : (was now : ZeroItems N) (last : Option Hit) (old_counts counts : Counts) (old_desk desk : DeskState) (rest : List N) (found : List (Item N)) (node : N)
      → was.nodes ≡ rest ++ node ∷ [] → OpensNode rest found was now → counts.visited ≡ min (old_counts.visited + 1) last_count → counts.fetched ≡ old_counts.fetched
      → StandsWithin cmp m (items_of was) last → FindsAlike (m.finds node) [] found → Noted note m.price (node_at_zero node ∷ []) old_desk desk → RoseBy 1 old_desk desk
      → Goes cmp m note (state (items_of was) last old_counts old_desk) (state (items_of now) last counts desk)
  opened_zero was now last old_counts counts old_desk desk rest found node ends opens visited fetches (zero, (laws, (done, h))) finds noted rose =
      let old = state (items_of was) last old_counts old_desk in
      let all = items_of (opened_all found rest was) in
      let left = items_of (record was { nodes = rest }) in
      let at = node_queued was rest node ends in
      let alike : AllZip IsAlike found (m.finds node) = subst (λ l. AllZip IsAlike l (m.finds node)) (sym finds.adds) finds.alike in
      thinned_goes cmp m note old (state (items_of now) last counts desk) all
      (opened o m laws note old (state all last counts desk) left (map leveled found) zero_gap zero_gap node (all_alike found (m.finds node) (zero.single node) alike) at
      (node_taken was rest node ends)
      (subst (λ c. IsPermutation (kept (within c) (map leveled found) ++ left) all) (sym zero.ceiling) (opened_put found rest was))
      (All-by (λ item. IsAtMost zero_gap (gap_of item)) left (λ item i. zero_first (gap_of item)))
      (queued_node o m laws note (items_of was) done last zero_gap node h at).1 refl noted rose visited fetches)
      (opened_thins found rest was now opens)

  -- a rough object is fetched
  fetched_zero : (was now : ZeroItems N) (last : Option Hit) (old_counts counts : Counts) (old_desk desk : DeskState) (id : ℕ) (near : Bool) (exact : Frac)
      → near ≡ nat_eq exact.num 0 → was.nodes ≡ [] → IsLeastOf id was.roughs → Fetches id near was now → counts.visited ≡ old_counts.visited → counts.fetched ≡ min (old_counts.fetched + 1) last_count
      → StandsWithin cmp m (items_of was) last → HasRow m (record { gap = exact; left = id; right = 0 }) → Noted note m.price (rough_at_zero id ∷ []) old_desk desk
      → Goes cmp m note (state (items_of was) last old_counts old_desk) (state (items_of now) last counts desk)
  fetched_zero was now last old_counts counts old_desk desk id near exact is empty least fetches visited grown (zero, (laws, (done, h))) row noted =
      let old = state (items_of was) last old_counts old_desk in
      let all = items_of (fetched_all id near was now) in
      let left = items_of (fetched_rest was now) in
      let hit = fetched_row near exact id in
      let taken = rough_taken o was now id empty fetches.roughs in
      let adds = row_put was now id near exact is in
      thinned_goes cmp m note old (state (items_of now) last counts desk) all
      (fetched o m laws note old (state all last counts desk) (taken.first ∷ taken.more) left adds.added zero_gap hit (near_row m near exact id is row) (rough_queued was id least) taken.equal
      (subst (λ c. AddsFetched c zero_gap hit adds.added) (sym zero.ceiling) adds.adds) taken.split adds.put taken.after refl noted (let up = noted.up in omega arith) visited grown)
      (fetched_thins was now id near empty fetches)

  -- a visit of a queued item at the distance 0 was noted or nothing was, and the frontier stays
  attempted_zero : (held new_held : List (Item N)) (last : Option Hit) (counts : Counts) (old_desk desk : DeskState) (front : Item N) → IsVisit front
      → gap_of front ≡ zero_gap → Contains held front → new_held ≡ held → Attempts note m.price front old_desk desk
      → Fails cmp m note (state held last counts old_desk) (state new_held last counts desk)
  attempted_zero held new_held last counts old_desk desk front visit level at same tries done h =
      let one = λ (P : Item N → Type 0) (p : P front). (let all : All P tries.tried =
      ⊎_elim (λ e. subst (All P) (sym e) (All-nil P)) (λ e. subst (All P) (sym e) (All-one P front p)) tries.few in all) in
      record {
        attempt = tries.tried;
        makes = record {
          taken = [];
          noted = tries.noted;
          rose = let up = tries.noted.up in omega arith;
          stands = subst (λ l. Stands cmp m l last (done ++ [])) (sym same) (subst (Stands cmp m held last) (sym (append-nil done)) h);
          visits = one IsVisit visit;
          tried = one (Contains new_held) (subst (λ l. Contains l front) (sym same) at);
          nearer = one (λ item. All (λ other. IsAtMost (gap_of item) (gap_of other)) new_held)
              (All-by (λ other. IsAtMost (gap_of front) (gap_of other)) new_held (λ other i. subst (λ g. IsAtMost g (gap_of other)) (sym level) (zero_first (gap_of other))));
          counted = λ c. subst (λ d. IsCounted d counts) (sym (append-nil done)) c;
        };
        few = ⊎_elim (λ e. let n : length tries.tried ≡ 0 = ap length e in omega arith) (λ e. let n : length tries.tried ≡ 1 = ap length e in omega arith) tries.few;
      }

module _ {N : Type 0} {cmp : N → N → Ordering} (o : IsTotalOrder cmp) (meaning : PageMap → Meaning N) (note : Item N → Visit) where
  -- ---- the steps over a desk's pages, where its disk tells them

  -- the search stands over the pages
  standing : (pages : Option PageMap) (held : List (Item N)) (last : Option Hit) → IfSome pages (λ p. StandsWithin cmp (meaning p) held last) → IfSome pages (λ p. StandsOver cmp (meaning p) held last)
  standing pages held last h = over_one pages (λ p. StandsWithin cmp (meaning p) held last) (λ p. StandsOver cmp (meaning p) held last) (λ p s. s.1) h

  -- what an expansion of the node that is opened next asks
  pub node_asks_zero : (pages : Option PageMap) (q : ZeroItems N) (last : Option Hit) (rest : List N) (gap : Frac) (node : N) → gap ≡ zero_gap
      → q.nodes ≡ rest ++ node ∷ [] → IfSome pages (λ p. StandsWithin cmp (meaning p) (items_of q) last)
      → IfSome pages (λ p. MeetsLaws (meaning p) × IsNode (meaning p) node × IsSameGap gap ((meaning p).gap node))
  node_asks_zero pages q last rest gap node is ends stands =
      node_asks o meaning note pages (items_of q) last gap node (node_queued_at q rest gap node is ends) (standing pages (items_of q) last stands)

  -- what a fetch of the rough object that is fetched next asks
  pub rough_asks_zero : (pages : Option PageMap) (q : ZeroItems N) (last : Option Hit) (id : ℕ) → IsLeastOf id q.roughs
      → IfSome pages (λ p. StandsWithin cmp (meaning p) (items_of q) last) → IfSome pages (λ p. MeetsLaws (meaning p) × IsRoughListed (meaning p) id 0)
  rough_asks_zero pages q last id least stands = rough_asks o meaning note pages (items_of q) last zero_gap id 0 (rough_queued q id least) (standing pages (items_of q) last stands)

  -- a node was opened
  pub opens_zero : (pages : Option PageMap) (was now : ZeroItems N) (last : Option Hit) (old_counts counts : Counts) (old_desk desk : DeskState) (rest : List N)
      (found : List (Item N)) (gap : Frac) (node : N) → gap ≡ zero_gap → was.nodes ≡ rest ++ node ∷ [] → OpensNode rest found was now
      → counts.visited ≡ min (old_counts.visited + 1) last_count → counts.fetched ≡ old_counts.fetched
      → IfSome pages (λ p. StandsWithin cmp (meaning p) (items_of was) last) → IfSome pages (λ p. FindsAlike ((meaning p).finds node) [] found)
      → IfSome pages (λ p. Noted note (meaning p).price (Node gap node ∷ []) old_desk desk) → IfSome pages (λ p. RoseBy 1 old_desk desk)
      → IfSome pages (λ p. Goes cmp (meaning p) note (state (items_of was) last old_counts old_desk) (state (items_of now) last counts desk))
  opens_zero None was now last old_counts counts old_desk desk rest found gap node is ends opens visited fetches stands finds noted rose = tt
  opens_zero (Some p) was now last old_counts counts old_desk desk rest found gap node is ends opens visited fetches stands finds noted rose =
      opened_zero o (meaning p) note was now last old_counts counts old_desk desk rest found node ends opens visited fetches stands finds
      (subst (λ g. Noted note (meaning p).price (Node g node ∷ []) old_desk desk) is noted) rose

  -- a rough object was fetched
  pub fetches_zero : (pages : Option PageMap) (was now : ZeroItems N) (last : Option Hit) (old_counts counts : Counts) (old_desk desk : DeskState) (id : ℕ) (near : Bool) (exact : Frac)
      → near ≡ nat_eq exact.num 0 → was.nodes ≡ [] → IsLeastOf id was.roughs → Fetches id near was now → counts.visited ≡ old_counts.visited → counts.fetched ≡ min (old_counts.fetched + 1) last_count
      → IfSome pages (λ p. StandsWithin cmp (meaning p) (items_of was) last) → IfSome pages (λ p. HasRow (meaning p) (record { gap = exact; left = id; right = 0 }))
      → IfSome pages (λ p. (gap : Frac) → Noted note (meaning p).price (Rough gap id 0 ∷ []) old_desk desk)
      → IfSome pages (λ p. Goes cmp (meaning p) note (state (items_of was) last old_counts old_desk) (state (items_of now) last counts desk))
  fetches_zero None was now last old_counts counts old_desk desk id near exact is empty least fetches visited grown stands row noted = tt
  fetches_zero (Some p) was now last old_counts counts old_desk desk id near exact is empty least fetches visited grown stands row noted =
      fetched_zero o (meaning p) note was now last old_counts counts old_desk desk id near exact is empty least fetches visited grown stands row (noted zero_gap)

  -- a step was refused, and the frontier stays
  pub refused_zero : (pages : Option PageMap) (held new_held : List (Item N)) (last : Option Hit) (counts : Counts) (old_desk desk : DeskState) (front : Item N)
      → IsVisit front → gap_of front ≡ zero_gap → Contains held front → new_held ≡ held → IfSome pages (λ p. Attempts note (meaning p).price front old_desk desk)
      → IfSome pages (λ p. Fails cmp (meaning p) note (state held last counts old_desk) (state new_held last counts desk))
  refused_zero pages held new_held last counts old_desk desk front visit level at same tries =
      over_one pages (λ p. Attempts note (meaning p).price front old_desk desk) (λ p. Fails cmp (meaning p) note (state held last counts old_desk) (state new_held last counts desk))
      (λ p t. attempted_zero o (meaning p) note held new_held last counts old_desk desk front visit level at same t) tries

  -- a step was refused after its visit was noted
  pub refused_later_zero : (pages : Option PageMap) (held new_held : List (Item N)) (last : Option Hit) (counts : Counts) (old_desk desk : DeskState) (front : Item N)
      → IsVisit front → gap_of front ≡ zero_gap → Contains held front → new_held ≡ held → IfSome pages (λ p. Noted note (meaning p).price (front ∷ []) old_desk desk)
      → IfSome pages (λ p. Fails cmp (meaning p) note (state held last counts old_desk) (state new_held last counts desk))
  refused_later_zero pages held new_held last counts old_desk desk front visit level at same noted =
      refused_zero pages held new_held last counts old_desk desk front visit level at same
      (over_one pages (λ p. Noted note (meaning p).price (front ∷ []) old_desk desk) (λ p. Attempts note (meaning p).price front old_desk desk)
      (λ p n. noted_attempt note (meaning p).price front old_desk desk n) noted)

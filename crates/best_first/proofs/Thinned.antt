-- A frontier from which doubles were left out: rough objects and rows that are queued still. A search stands over it as before.
use Rattle.std.proofs.Common.{◌≡◌, ℕ, ◌≤◌, true, List, [], ◌++◌, flat_map, All, Contains, IsPermutation, Option, ⊎_elim, ap, ◌∙◌, subst, arith, sum_by, Ordering}
use Rattle.std.proofs.lemmas.List.Elements.{All-contains, All-append, All-nil, All-weaker, Contains-append_left, Contains-append_right, Contains-append_cases}
use Rattle.std.proofs.lemmas.List.Sorted.{IsPermutation-sym, IsPermutation-trans, IsPermutation-append_right, All-permutation, Contains-permutation, sum_by-IsPermutation}
use Rattle.std.proofs.lemmas.List.Sums.{sum_by-append}
use Rattle.sand_base.specs.declared.visit.Visit.{Visit}
use Rattle.best_first.specs.declared.hit.Hit.{Hit}
use Rattle.best_first.specs.declared.item.Item.{Item}
use Rattle.best_first.specs.Item.{gap_of, nodes_of, roughs_of}
use Rattle.best_first.specs.Reach.{IsAtMost, within}
use Rattle.best_first.specs.Hierarchy.{Meaning, HasGap, IsHonest, near, kept, nodes_within}
use Rattle.best_first.specs.Frontier.{Covers, Tracks, Stands, IsAfter, IsPast, IsListed, HasAlike, pending}
use Rattle.best_first.specs.Steps.{item_steps, steps}
use Rattle.best_first.specs.Visits.{SearchState, Goes}
use Rattle.best_first.proofs.Bags.{All-by, All-left, All-right}
use Rattle.best_first.proofs.Pending.{pending-append, pending_moves}
use Rattle.best_first.proofs.Tracked.{rough_moves}

-- What is queued now is what was queued, but for doubles: no node is one, and each is queued still.
pub record Thins {N : Type 0} (held new : List (Item N)) : Type 0 where
  pub again : List (Item N)
  pub split : IsPermutation held (again ++ new)
  pub there : All (Contains new) again
  pub no_nodes : nodes_of again ≡ []

module _ {N : Type 0} (held new : List (Item N)) (t : Thins held new) where
  -- what is queued now was queued
  was_queued : (item : Item N) → Contains new item → Contains held item
  was_queued item at = Contains-permutation (t.again ++ new) held item (IsPermutation-sym held (t.again ++ new) t.split) (Contains-append_right t.again new item at)

  -- what was queued is queued still
  still_queued : (item : Item N) → Contains held item → Contains new item
  still_queued item at =
      ⊎_elim (λ a. All-contains (Contains new) t.again item t.there a) (λ a. a)
      (Contains-append_cases t.again new item (Contains-permutation held (t.again ++ new) item t.split at))

  -- what holds of all that was queued holds of all that is
  fewer : (P : Item N → Type 0) → All P held → All P new
  fewer P all = All-right P t.again new (All-permutation P held (t.again ++ new) t.split all)

  -- and with what was taken
  fewer_after : (P : Item N → Type 0) (done : List (Item N)) → All P (done ++ held) → All P (done ++ new)
  fewer_after P done all = All-append P done new (All-left P done held all) (fewer P (All-right P done held all))

  -- the same nodes are pending
  pending_still : (m : Meaning N) → IsPermutation (pending m held) (pending m new)
  pending_still m =
      subst (IsPermutation (pending m held))
      (pending-append m t.again new ∙ ap (λ l. flat_map (λ node. near m (within m.ceiling) (m.under node)) l ++ pending m new) t.no_nodes)
      (pending_moves m held (t.again ++ new) t.split)

  -- the rows to come stay pending
  thinned_covers : (cmp : N → N → Ordering) (m : Meaning N) (last : Option Hit) → Covers cmp m held last → Covers cmp m new last
  thinned_covers cmp m last h = record {
    sound = fewer (IsHonest m) h.sound;
    past = fewer (IsPast cmp last) h.past;
    whole = λ hit answer later. let p = h.whole hit answer later in record { item = p.item; queued = still_queued p.item p.queued; leads = p.leads };
  }

  -- what was taken keeps its account of the tree
  thinned_tracks : (cmp : N → N → Ordering) (m : Meaning N) (done : List (Item N)) → Tracks cmp m held done → Tracks cmp m new done
  thinned_tracks cmp m done h =
      let old = roughs_of done ++ roughs_of held in
      let now = roughs_of done ++ roughs_of new in
      let back = λ (r : Item N) (at : Contains (roughs_of new) r). rough_moves new held r (was_queued r) at in
      let forth = λ (r : Item N) (at : Contains old r). ⊎_elim (Contains-append_left (roughs_of done) (roughs_of new) r)
      (λ q. Contains-append_right (roughs_of done) (roughs_of new) r (rough_moves held new r (still_queued r) q)) (Contains-append_cases (roughs_of done) (roughs_of held) r at) in
      record {
        split = IsPermutation-trans (nodes_within m (within m.ceiling)) (nodes_of done ++ pending m held) (nodes_of done ++ pending m new) h.split
            (IsPermutation-append_right (nodes_of done) (pending m held) (pending m new) (pending_still m));
        gaps = fewer_after (HasGap m) done h.gaps;
        nearer = All-weaker (λ k. All (λ item. IsAtMost (gap_of k) (gap_of item)) held) (λ k. All (λ item. IsAtMost (gap_of k) (gap_of item)) new)
            (λ k all. fewer (λ item. IsAtMost (gap_of k) (gap_of item)) all) done h.nearer;
        after = All-weaker (λ r. All (IsAfter cmp r) held) (λ r. All (IsAfter cmp r) new) (λ r all. fewer (IsAfter cmp r) all) (roughs_of done) h.after;
        listed = All-append (IsListed m done) (roughs_of done) (roughs_of new) (All-left (IsListed m done) (roughs_of done) (roughs_of held) h.listed)
            (All-by (IsListed m done) (roughs_of new) (λ r at. All-contains (IsListed m done) (roughs_of held) r (All-right (IsListed m done) (roughs_of done) (roughs_of held) h.listed) (back r at)));
        whole = All-weaker (λ node. All (HasAlike cmp old) (kept (within m.ceiling) (roughs_of (m.finds node)))) (λ node. All (HasAlike cmp now) (kept (within m.ceiling) (roughs_of (m.finds node))))
            (λ node all. All-weaker (HasAlike cmp old) (HasAlike cmp now) (λ r a. record { other = a.other; listed = forth a.other a.listed; alike = a.alike })
            (kept (within m.ceiling) (roughs_of (m.finds node))) all)
            (nodes_of done) h.whole;
        once = h.once;
        inside = fewer_after (λ item. within m.ceiling (gap_of item) ≡ true) done h.inside;
      }

  -- a search stands over a thinned frontier
  pub thinned_stands : (cmp : N → N → Ordering) (m : Meaning N) (last : Option Hit) (done : List (Item N)) → Stands cmp m held last done → Stands cmp m new last done
  thinned_stands cmp m last done h = record { covers = thinned_covers cmp m last h.covers; tracks = thinned_tracks cmp m done h.tracks }

  -- and has no more steps before it
  pub thinned_steps : (weight : N → ℕ) → steps weight new ≤ steps weight held
  thinned_steps weight =
      let f = item_steps weight in
      let before : sum_by f (t.again ++ new) ≡ sum_by f held = sum_by-IsPermutation f held (t.again ++ new) t.split in
      let split = sum_by-append f t.again new in
      omega arith

-- a search that went on to a frontier goes on to the thinned one
pub thinned_goes : {N : Type 0} (cmp : N → N → Ordering) (m : Meaning N) (note : Item N → Visit) (old new : SearchState N) (held : List (Item N))
    → Goes cmp m note old (record new { held = held }) → Thins held new.held → Goes cmp m note old new
thinned_goes {N} cmp m note old new held goes t done h =
    let makes = goes done h in
    record {
      taken = makes.taken;
      noted = makes.noted;
      rose = makes.rose;
      stands = thinned_stands held new.held t cmp m new.last (done ++ makes.taken) makes.stands;
      visits = makes.visits;
      tried = All-nil (Contains new.held);
      nearer = All-nil (λ item. All (λ other. IsAtMost (gap_of item) (gap_of other)) new.held);
      counted = makes.counted;
    }

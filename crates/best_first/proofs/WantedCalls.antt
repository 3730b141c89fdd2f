-- A search for the wanted left ids over a desk: what holds over each map of pages holds over the desk's, where its disk tells them.
use Rattle.std.proofs.Common.{◌≡◌, ℕ, ◌+◌, ◌≤◌, ◌<◌, min, Bool, true, false, List, [], ◌∷◌, ◌++◌, All, Contains, IsPermutation, sum_by, Option, None, Some, IfSome, Result, Ok, Err}
use Rattle.std.proofs.Common.{⊎_elim, sym, ap, ◌∙◌, subst, Ordering, Equal, arith}
use Rattle.std.specs.Ordering.{is_gt}
use Rattle.std.specs.List.{AllZip}
use Rattle.std.specs.Cmp.{IsTotalOrder}
use Rattle.std.proofs.lemmas.List.Elements.{All-contains, All-head, All-weaker}
use Rattle.std.proofs.lemmas.List.Sorted.{IsPermutation-sym, Contains-permutation, sum_by-IsPermutation}
use Rattle.std.proofs.lemmas.List.Sums.{sum_by-cons, sum_by-append, sum_by-le}
use Rattle.exact_frac.specs.declared.frac.Frac.{Frac}
use Rattle.sand_base.specs.Faults.{last_count}
use Rattle.sand_base.specs.declared.visit.Visit.{Visit}
use Rattle.page_pool.specs.Disk.{PageMap}
use Rattle.page_pool.specs.declared.fault.PageFault.{PageFault}
use Rattle.rank_queue.specs.Least.{IsFirst, IsLeastItem}
use Rattle.best_first.specs.declared.hit.Hit.{Hit}
use Rattle.best_first.specs.declared.item.Item.{Item}
use Rattle.best_first.specs.declared.item.Item.TheVariants.{Node, Rough, Row}
use Rattle.best_first.specs.Item.{gap_of, row_item, IsAlike}
use Rattle.best_first.specs.Reach.{IsSameGap, IsAtMost, within}
use Rattle.best_first.specs.Hierarchy.{Meaning, MeetsLaws, FindsAlike, HasGap, HasRow, IsNode, IsRoughListed, kept}
use Rattle.best_first.specs.Order.{item_cmp, item_total}
use Rattle.best_first.specs.Visits.{SearchState, Noted, Attempts, RoseBy, IsVisit}
use Rattle.best_first.specs.Steps.{item_steps, steps}
use Rattle.best_first.specs.Inside.{TakesEqual, GivesRow}
use Rattle.best_first.specs.Wanted.{wanted_of, StandsOverFor, IsSettledFor, AddsFor, GoesFor, FailsFor, GivesWanted, IsWantedRow, MakesWantedVisits, wants_after}
use Rattle.best_first.proofs.Bags.{here, none, All-right}
use Rattle.best_first.proofs.Ranks.{upto_far, alike_rough, alike_row}
use Rattle.best_first.proofs.Queues.{both_first, popped_first, least_rest}
use Rattle.best_first.proofs.Moves.{tracked_node, tracked_rough}
use Rattle.best_first.proofs.Passing.{all_over}
use Rattle.best_first.proofs.Lifts.{over_one, over_two, noted_attempt}
use Rattle.best_first.proofs.Answering.{Gives}
use Rattle.best_first.proofs.WantedRows.{is_first_wanted, is_none_wanted}
use Rattle.best_first.proofs.WantedMoves.{stays_for, goes_both_for, goes_fails_for, opened_goes, fetched_goes, left_goes, attempted_fails, row_given_for, none_given_for, fault_given_for}

-- the row that is given from a settled frontier has a wanted left id
pub row_is_wanted : {N : Type 0} {cmp : N → N → Ordering} → IsTotalOrder cmp → (wants : ℕ → Bool) (held new : List (Item N)) (hit : Hit) → IsSettledFor (item_cmp cmp) wants held
    → GivesRow (item_cmp cmp) hit held new → wants hit.left ≡ true
row_is_wanted {N} {cmp} o wants held new hit settled gives =
    ⊎_elim
    (λ empty. absurd (none (row_item hit) (subst (λ l. Contains l (row_item hit)) empty gives.front.queued)))
    (λ (row, (first, is)).
    let one = both_first (item_total o) (row_item hit) (row_item row)
    (All-contains (λ y. is_gt (item_cmp cmp (row_item hit) y) ≡ false) held (row_item row) gives.front.least first.queued)
    (All-contains (λ y. is_gt (item_cmp cmp (row_item row) y) ≡ false) held (row_item hit) first.least gives.front.queued) in
    let (far, same) = alike_row cmp hit.gap hit.left hit.right (row_item row) one in
    let left : row.left ≡ hit.left = cc in
    subst (λ id. wants id ≡ true) left is)
    settled

-- and so has any row that is given from it
pub answer_is_wanted : {N : Type 0} {cmp : N → N → Ordering} → IsTotalOrder cmp → (wants : ℕ → Bool) (mid new : SearchState N) (row : Option Hit) → IsSettledFor (item_cmp cmp) wants mid.held
    → Gives cmp mid new row → IsWantedRow wants (Ok row)
answer_is_wanted o wants mid new None settled gives = tt
answer_is_wanted o wants mid new (Some hit) settled gives = row_is_wanted o wants mid.held new.held hit settled gives.queue

-- a fetch lowers the number of steps
pub fetch_falls_for : {N : Type 0} (cmp : N → N → Ordering) (wants : ℕ → Bool) (weight : N → ℕ) (old mid new : List (Item N)) (ceiling : Option ℕ) (gap : Frac) (left right : ℕ)
    (hit : Hit) → TakesEqual (item_cmp cmp) (Rough gap left right) old mid → AddsFor wants ceiling gap hit mid new → steps weight new < steps weight old
fetch_falls_for cmp wants weight old mid new ceiling gap left right hit taken adds =
    let f = item_steps weight in
    let gone = taken.first ∷ taken.more in
    let before : sum_by f (gone ++ mid) ≡ sum_by f old = sum_by-IsPermutation f old (gone ++ mid) taken.split in
    let split = sum_by-append f gone mid in
    let heads = sum_by-cons f taken.first taken.more in
    let (far, is) = alike_rough cmp gap left right taken.first (All-head (λ item. item_cmp cmp (Rough gap left right) item ≡ Equal) taken.first taken.more taken.equal) in
    let front : f taken.first ≡ 2 = ap f is in
    let after : sum_by f new ≡ sum_by f (adds.added ++ mid) = sum_by-IsPermutation f (adds.added ++ mid) new adds.put in
    let joined = sum_by-append f adds.added mid in
    let each : All (λ item. f item ≤ 1) adds.added =
    All-weaker (λ item. (item ≡ row_item hit) × IsAtMost gap hit.gap × (within ceiling hit.gap ≡ true)) (λ item. f item ≤ 1)
    (λ item says. let e = ap f says.0 in omega arith) adds.added adds.only in
    let most = sum_by-le f 1 adds.added each in
    let few = adds.few in
    omega arith

-- and so does a row that leaves
pub leave_falls : {N : Type 0} (weight : N → ℕ) (old new : List (Item N)) (x : Item N) (gap : Frac) (left right : ℕ) → x ≡ Row gap left right → IsPermutation old (x ∷ new)
    → steps weight new < steps weight old
leave_falls weight old new x gap left right is taken =
    let f = item_steps weight in
    let before : sum_by f (x ∷ new) ≡ sum_by f old = sum_by-IsPermutation f old (x ∷ new) taken in
    let heads = sum_by-cons f x new in
    let front : f x ≡ 1 = ap f is in
    omega arith

-- the item that is popped where a row is first is that row, under some gap
pub popped_row : {N : Type 0} {cmp : N → N → Ordering} → IsTotalOrder cmp → (gap : Frac) (left right : ℕ) (x : Item N) (old new : List (Item N))
    → IsFirst (item_cmp cmp) (Row gap left right) old → IsPermutation old (x ∷ new) → IsLeastItem (item_cmp cmp) x new → (far : Frac) × (x ≡ Row far left right)
popped_row {N} {cmp} o gap left right x old new first taken least =
    alike_row cmp gap left right x (popped_first (item_total o) (Row gap left right) x old new first taken least)

module _ {N : Type 0} {cmp : N → N → Ordering} (o : IsTotalOrder cmp) (meaning : PageMap → Meaning N) (note : Item N → Visit) (wants : ℕ → Bool) where
  -- the search stands for the wanted left ids, over these pages
  abbrev Standing : List (Item N) → PageMap → Type 0
  Standing held p = StandsOverFor cmp (meaning p) wants held

  -- ---- the steps

  -- what an expansion of a queued node asks
  pub node_asks_for : (pages : Option PageMap) (held : List (Item N)) (gap : Frac) (node : N) → Contains held (Node gap node) → IfSome pages (Standing held)
      → IfSome pages (λ p. MeetsLaws (meaning p) × IsNode (meaning p) node × IsSameGap gap ((meaning p).gap node))
  node_asks_for pages held gap node at stands =
      over_one pages (Standing held) (λ p. MeetsLaws (meaning p) × IsNode (meaning p) node × IsSameGap gap ((meaning p).gap node))
      (λ p (laws, (done, h)). let q = tracked_node o (meaning p) laws note held done gap node h.tracks at in (laws, q.0, q.1)) stands

  -- what a fetch of a queued rough object asks
  pub rough_asks_for : (pages : Option PageMap) (held : List (Item N)) (gap : Frac) (left right : ℕ) → Contains held (Rough gap left right) → IfSome pages (Standing held)
      → IfSome pages (λ p. MeetsLaws (meaning p) × IsRoughListed (meaning p) left right)
  rough_asks_for pages held gap left right at stands =
      over_one pages (Standing held) (λ p. MeetsLaws (meaning p) × IsRoughListed (meaning p) left right)
      (λ p (laws, (done, h)). (laws, tracked_rough o (meaning p) laws note held done gap left right h.tracks at)) stands

  -- a step was refused, and the frontier stays
  pub refused_for : (pages : Option PageMap) (old new : SearchState N) (front : Item N) → IsVisit front → IsFirst (item_cmp cmp) front old.held → new.held ≡ old.held
      → new.counts ≡ old.counts → IfSome pages (Standing old.held)
      → IfSome pages (λ p. Attempts note (meaning p).price front old.desk new.desk) → IfSome pages (λ p. FailsFor cmp (meaning p) note wants old new)
  refused_for pages old new front visit first held counts stands tries =
      over_two pages (Standing old.held) (λ p. Attempts note (meaning p).price front old.desk new.desk) (λ p. FailsFor cmp (meaning p) note wants old new)
      (λ p (laws, _) t. attempted_fails o (meaning p) laws note wants old new front visit first.queued first.least held counts t) stands tries

  -- a step was refused after its visit was noted
  pub refused_later_for : (pages : Option PageMap) (old new : SearchState N) (front : Item N) → IsVisit front → IsFirst (item_cmp cmp) front old.held → new.held ≡ old.held
      → new.counts ≡ old.counts → IfSome pages (Standing old.held)
      → IfSome pages (λ p. Noted note (meaning p).price (front ∷ []) old.desk new.desk) → IfSome pages (λ p. FailsFor cmp (meaning p) note wants old new)
  refused_later_for pages old new front visit first held counts stands noted =
      refused_for pages old new front visit first held counts stands
      (over_one pages (λ p. Noted note (meaning p).price (front ∷ []) old.desk new.desk) (λ p. Attempts note (meaning p).price front old.desk new.desk)
      (λ p n. noted_attempt note (meaning p).price front old.desk new.desk n) noted)

  -- a node was opened
  pub opens_for : (pages : Option PageMap) (old new : SearchState N) (x : Item N) (rest found : List (Item N)) (ceiling : Option ℕ) (gap far : Frac) (node : N)
      → IsFirst (item_cmp cmp) (Node gap node) old.held → x ≡ Node far node → IsPermutation old.held (x ∷ rest) → IsLeastItem (item_cmp cmp) x rest
      → IsPermutation (kept (within ceiling) found ++ rest) new.held → ((p : PageMap) → ceiling ≡ (meaning p).ceiling)
      → new.counts.visited ≡ min (old.counts.visited + 1) last_count → new.counts.fetched ≡ old.counts.fetched
      → IfSome pages (Standing old.held) → IfSome pages (λ p. FindsAlike (wanted_of wants ((meaning p).finds node)) [] found)
      → IfSome pages (λ p. Noted note (meaning p).price (Node gap node ∷ []) old.desk new.desk) → IfSome pages (λ p. RoseBy 1 old.desk new.desk)
      → IfSome pages (λ p. GoesFor cmp (meaning p) note wants old new)
  opens_for None old new x rest found ceiling gap far node first is taken least put caps visited fetches stands finds noted rose = tt
  opens_for (Some p) old new x rest found ceiling gap far node first is taken least put caps visited fetches (laws, (done, h)) finds noted rose =
      let m = meaning p in
      let at : Contains old.held (Node far node) = subst (Contains old.held) is (Contains-permutation (x ∷ rest) old.held x (IsPermutation-sym old.held (x ∷ rest) taken) (here x rest)) in
      let gaps = All-right (HasGap m) done old.held h.tracks.gaps in
      let alike : AllZip IsAlike found (wanted_of wants (m.finds node)) = subst (λ l. AllZip IsAlike l (wanted_of wants (m.finds node))) (sym finds.adds) finds.alike in
      opened_goes o m laws note wants old new rest found gap far node alike first.queued
      (subst (λ y. IsPermutation old.held (y ∷ rest)) is taken)
      (subst (λ c. IsPermutation (kept (within c) found ++ rest) new.held) (caps p) put)
      (All-weaker (λ item. is_gt (item_cmp cmp (Node gap node) item) ≡ false) (λ item. IsAtMost gap (gap_of item)) (λ item e. upto_far cmp (Node gap node) item e) rest
      (least_rest (item_total o) (Node gap node) x old.held rest first.least taken))
      (All-contains (HasGap m) old.held (Node far node) gaps at) noted rose visited fetches

  -- a rough object was fetched
  pub fetches_for : (pages : Option PageMap) (old new : SearchState N) (mid : List (Item N)) (ceiling : Option ℕ) (gap : Frac) (hit : Hit)
      → IsFirst (item_cmp cmp) (Rough gap hit.left hit.right) old.held → TakesEqual (item_cmp cmp) (Rough gap hit.left hit.right) old.held mid
      → AddsFor wants ceiling gap hit mid new.held → ((p : PageMap) → ceiling ≡ (meaning p).ceiling) → new.counts.visited ≡ old.counts.visited
      → new.counts.fetched ≡ min (old.counts.fetched + 1) last_count → IfSome pages (Standing old.held) → IfSome pages (λ p. HasRow (meaning p) hit)
      → IfSome pages (λ p. (g : Frac) → Noted note (meaning p).price (Rough g hit.left hit.right ∷ []) old.desk new.desk) → IfSome pages (λ p. GoesFor cmp (meaning p) note wants old new)
  fetches_for None old new mid ceiling gap hit first taken adds caps visited counts stands listed noted = tt
  fetches_for (Some p) old new mid ceiling gap hit first taken adds caps visited counts (laws, (done, h)) listed noted =
      fetched_goes o (meaning p) laws note wants old new (taken.first ∷ taken.more) mid gap hit listed first.queued taken.equal taken.split taken.after
      (subst (λ c. AddsFor wants c gap hit mid new.held) (caps p) adds) (noted gap) (let up = (noted gap).up in omega arith) visited counts

  -- a row whose left id isn't wanted has left
  pub leaves_for : (pages : Option PageMap) (old new : SearchState N) (x : Item N) (gap : Frac) (left right : ℕ) → wants left ≡ false → x ≡ Row gap left right
      → IsPermutation old.held (x ∷ new.held) → new.desk ≡ old.desk → new.counts ≡ old.counts → IfSome pages (Standing old.held)
      → IfSome pages (λ p. GoesFor cmp (meaning p) note wants old new)
  leaves_for None old new x gap left right out is taken desk counts stands = tt
  leaves_for (Some p) old new x gap left right out is taken desk counts (laws, _) =
      left_goes o (meaning p) laws note wants old new gap left right out (subst (λ y. IsPermutation old.held (y ∷ new.held)) is taken) desk counts

  -- ---- one after another

  -- no step at all
  pub stays_over_for : (pages : Option PageMap) (s : SearchState N) → IfSome pages (λ p. GoesFor cmp (meaning p) note wants s s)
  stays_over_for pages s = all_over pages (λ p. GoesFor cmp (meaning p) note wants s s) (λ p. stays_for (meaning p) note wants s)

  -- a search stands where it went
  pub stands_over_for : (pages : Option PageMap) (old new : SearchState N) → IfSome pages (Standing old.held) → IfSome pages (λ p. GoesFor cmp (meaning p) note wants old new)
      → IfSome pages (Standing new.held)
  stands_over_for None old new s h = tt
  stands_over_for (Some p) old new (laws, (done, s)) h = let makes = h done s in (laws, (done ++ makes.taken, makes.stands))

  -- some steps, and then more
  pub goes_over_for : (pages : Option PageMap) (old mid new : SearchState N) → IfSome pages (λ p. GoesFor cmp (meaning p) note wants old mid)
      → IfSome pages (λ p. GoesFor cmp (meaning p) note wants mid new) → IfSome pages (λ p. GoesFor cmp (meaning p) note wants old new)
  goes_over_for None old mid new a b = tt
  goes_over_for (Some p) old mid new a b = goes_both_for (meaning p) note wants old mid new a b

  -- some steps, and then one that was refused
  pub fails_over_for : (pages : Option PageMap) (old mid new : SearchState N) → IfSome pages (λ p. GoesFor cmp (meaning p) note wants old mid)
      → IfSome pages (λ p. FailsFor cmp (meaning p) note wants mid new) → IfSome pages (λ p. FailsFor cmp (meaning p) note wants old new)
  fails_over_for None old mid new a b = tt
  fails_over_for (Some p) old mid new a b = goes_fails_for (meaning p) note wants old mid new a b

  -- ---- the answer of a call

  -- the row that is given is the first wanted one
  pub answer_row_for : (pages : Option PageMap) (old mid new : SearchState N) (row : Option Hit) → IsSettledFor (item_cmp cmp) wants mid.held → IfSome pages (Standing old.held)
      → IfSome pages (λ p. GoesFor cmp (meaning p) note wants old mid) → Gives cmp mid new row → IfSome pages (λ p. GivesWanted (meaning p) wants (Ok row))
  answer_row_for None old mid new row settled stands goes gives = tt
  answer_row_for (Some p) old mid new None settled (laws, (done, h)) goes gives =
      let makes = goes done h in
      is_none_wanted o (meaning p) laws wants mid.held (done ++ makes.taken) gives.queue.0 makes.stands
  answer_row_for (Some p) old mid new (Some hit) settled (laws, (done, h)) goes gives =
      let makes = goes done h in
      is_first_wanted o (meaning p) laws wants mid.held (done ++ makes.taken) hit gives.queue.front.queued gives.queue.front.least
      (row_is_wanted o wants mid.held new.held hit settled gives.queue) makes.stands

  -- the visits of an answered call
  pub answer_visits_for : (pages : Option PageMap) (old mid new : SearchState N) (row : Option Hit) → IfSome pages (Standing old.held)
      → IfSome pages (λ p. GoesFor cmp (meaning p) note wants old mid) → mid.last ≡ old.last → Gives cmp mid new row → IfSome pages (λ p. MakesWantedVisits cmp (meaning p) note wants old new (Ok row))
  answer_visits_for None old mid new row stands goes last gives = tt
  answer_visits_for (Some p) old mid new None (laws, _) goes last gives =
      let same : new ≡ mid = same_state mid new gives.queue.0 gives.queue.1 gives.last gives.counts gives.desk in
      none_given_for o (meaning p) laws note wants old new (subst (GoesFor cmp (meaning p) note wants old) (sym same) goes) gives.queue.1
    where
      same_state : (a b : SearchState N) → a.held ≡ [] → b.held ≡ [] → b.last ≡ a.last → b.counts ≡ a.counts → b.desk ≡ a.desk → b ≡ a
      same_state a b p q l c d = λ i. record { held = (q ∙ sym p) i; last = l i; counts = c i; desk = d i }
  answer_visits_for (Some p) old mid new (Some hit) (laws, _) goes last gives =
      let t = gives.queue.taken in
      row_given_for o (meaning p) laws note wants old mid new (t.first ∷ t.more) hit goes gives.queue.front.queued gives.queue.front.least t.equal t.split gives.counts gives.desk

  -- the visits of a refused call
  pub refusal_visits_for : (pages : Option PageMap) (old new : SearchState N) (fault : PageFault) → IfSome pages (Standing old.held)
      → IfSome pages (λ p. FailsFor cmp (meaning p) note wants old new) → IfSome pages (λ p. MakesWantedVisits cmp (meaning p) note wants old new (Err fault))
  refusal_visits_for None old new fault stands fails = tt
  refusal_visits_for (Some p) old new fault (laws, _) fails = fault_given_for o (meaning p) laws note wants old new fault fails

  -- a search stands after a call
  pub stands_after_for : (pages : Option PageMap) (old new : SearchState N) (result : Result (Option Hit) PageFault) → IfSome pages (Standing old.held)
      → IfSome pages (λ p. MakesWantedVisits cmp (meaning p) note wants old new result) → IfSome pages (λ p. StandsOverFor cmp (meaning p) (wants_after wants result) new.held)
  stands_after_for None old new result stands visits = tt
  stands_after_for (Some p) old new result (laws, (done, h)) visits = let call = visits done h in (laws, (done ++ call.makes.taken, call.makes.stands))

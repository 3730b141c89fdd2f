-- The answers of a call: the row at the front once the frontier is settled, the end, or a refusal.
use Rattle.std.proofs.Common.{true, ◌≡◌, ℕ, ◌≤◌, List, [], ◌∷◌, ◌++◌, Option, None, Some, IfSome, MatchOption, Result, Ok, Err, sym, ap, ◌∙◌, subst, arith, Ordering}
use Rattle.std.specs.Cmp.{IsTotalOrder}
use Rattle.sand_base.specs.declared.visit.Visit.{Visit}
use Rattle.page_pool.specs.Disk.{PageMap}
use Rattle.page_pool.specs.declared.fault.PageFault.{PageFault}
use Rattle.std.proofs.lemmas.List.Elements.{All-contains}
use Rattle.best_first.specs.declared.hit.Hit.{Hit}
use Rattle.best_first.specs.declared.item.Item.{Item}
use Rattle.best_first.specs.Item.{gap_of, row_item}
use Rattle.best_first.specs.Reach.{within}
use Rattle.best_first.specs.Hierarchy.{Meaning, MeetsLaws, HasGap}
use Rattle.best_first.specs.Order.{item_cmp}
use Rattle.best_first.specs.Frontier.{Stands, StandsOver}
use Rattle.best_first.specs.Visits.{SearchState, Goes, Fails, GivesNext, last_after, MakesVisits}
use Rattle.best_first.specs.Steps.{steps, Falls}
use Rattle.best_first.specs.Inside.{GivesRow}
use Rattle.best_first.proofs.Bags.{All-right}
use Rattle.best_first.proofs.RowsToCome.{is_next, is_exhausted}
use Rattle.best_first.proofs.Moves.{gives_row, gives_none, gives_fault}
use Rattle.best_first.proofs.Falling.{give_falls}

-- What the end of a call does to a settled frontier: it gives the row at the front, or nothing is queued.
pub record Gives {N : Type 0} (cmp : N → N → Ordering) (mid new : SearchState N) (row : Option Hit) : Type 0 where
  pub counts : new.counts ≡ mid.counts
  pub last : MatchOption row (new.last ≡ mid.last) (λ hit. new.last ≡ Some hit)
  pub queue : MatchOption row ((mid.held ≡ []) × (new.held ≡ [])) (λ hit. GivesRow (item_cmp cmp) hit mid.held new.held)
  pub desk : new.desk ≡ mid.desk

-- the number of steps after the answer
pub answer_falls : {N : Type 0} (cmp : N → N → Ordering) (weight : N → ℕ) (old : ℕ) (mid new : SearchState N) (row : Option Hit) → steps weight mid.held ≤ old
    → Gives cmp mid new row → Falls old (steps weight new.held) (Ok row)
answer_falls cmp weight old mid new None h gives = let same = ap (steps weight) (gives.queue.1 ∙ sym gives.queue.0) in omega arith
answer_falls cmp weight old mid new (Some hit) h gives = let less = give_falls cmp weight mid.held new.held hit gives.queue.taken in omega arith

-- the last row given after the answer
pub answer_last : {N : Type 0} (cmp : N → N → Ordering) (old : Option Hit) (mid new : SearchState N) (row : Option Hit) → mid.last ≡ old → Gives cmp mid new row → new.last ≡ last_after old (Ok row)
answer_last cmp old mid new None e gives = gives.last ∙ e
answer_last cmp old mid new (Some hit) e gives = gives.last

module _ {N : Type 0} {cmp : N → N → Ordering} (o : IsTotalOrder cmp) (m : Meaning N) (laws : MeetsLaws m) (note : Item N → Visit) where
  one_row : (done : List (Item N)) (last : Option Hit) (mid new : SearchState N) (row : Option Hit) → mid.last ≡ last → Stands cmp m mid.held mid.last done
      → Gives cmp mid new row → GivesNext m last (Ok row)
  one_row done last mid new None e h gives = is_exhausted o m laws mid.held last gives.queue.0 (subst (λ l. Rattle.best_first.specs.Frontier.Covers cmp m mid.held l) e h.covers)
  one_row done last mid new (Some hit) e h gives =
      is_next o m laws mid.held last hit gives.queue.front.queued gives.queue.front.least (All-right (HasGap m) done mid.held h.tracks.gaps)
      (All-contains (λ item. within m.ceiling (gap_of item) ≡ true) mid.held (row_item hit)
      (All-right (λ item. within m.ceiling (gap_of item) ≡ true) done mid.held h.tracks.inside) gives.queue.front.queued)
      (subst (λ l. Rattle.best_first.specs.Frontier.Covers cmp m mid.held l) e h.covers)

  all_visits : (old mid new : SearchState N) (row : Option Hit) → mid.last ≡ old.last → Goes cmp m note old mid → Gives cmp mid new row → MakesVisits cmp m note old new (Ok row)
  all_visits old mid new None e goes gives =
      let same : new ≡ mid = same_state mid new gives.queue.0 gives.queue.1 gives.last gives.counts gives.desk in
      gives_none o m laws note old new (subst (Goes cmp m note old) (sym same) goes) gives.queue.1
    where
      same_state : (a b : SearchState N) → a.held ≡ [] → b.held ≡ [] → b.last ≡ a.last → b.counts ≡ a.counts → b.desk ≡ a.desk → b ≡ a
      same_state a b p q l c d = λ i. record { held = (q ∙ sym p) i; last = l i; counts = c i; desk = d i }
  all_visits old mid new (Some hit) e goes gives =
      let t = gives.queue.taken in
      gives_row o m laws note old mid new (t.first ∷ t.more) hit goes gives.queue.front.queued gives.queue.front.least t.equal t.after t.split gives.last gives.counts gives.desk

module _ {N : Type 0} {cmp : N → N → Ordering} (o : IsTotalOrder cmp) (meaning : PageMap → Meaning N) (note : Item N → Visit) where
  -- the row that is given is the next one
  pub answer_row : (pages : Option PageMap) (old mid new : SearchState N) (row : Option Hit) → mid.last ≡ old.last
      → IfSome pages (λ p. StandsOver cmp (meaning p) old.held old.last) → IfSome pages (λ p. Goes cmp (meaning p) note old mid) → Gives cmp mid new row
      → IfSome pages (λ p. GivesNext (meaning p) old.last (Ok row))
  answer_row None old mid new row e stands goes gives = tt
  answer_row (Some p) old mid new row e (laws, (done, h)) goes gives =
      let makes = goes done h in
      one_row o (meaning p) laws note (done ++ makes.taken) old.last mid new row e makes.stands gives

  -- the visits of an answered call
  pub answer_visits : (pages : Option PageMap) (old mid new : SearchState N) (row : Option Hit) → mid.last ≡ old.last
      → IfSome pages (λ p. StandsOver cmp (meaning p) old.held old.last) → IfSome pages (λ p. Goes cmp (meaning p) note old mid) → Gives cmp mid new row
      → IfSome pages (λ p. MakesVisits cmp (meaning p) note old new (Ok row))
  answer_visits None old mid new row e stands goes gives = tt
  answer_visits (Some p) old mid new row e (laws, _) goes gives = all_visits o (meaning p) laws note old mid new row e goes gives

  -- the visits of a refused call
  pub refusal_visits : (pages : Option PageMap) (old new : SearchState N) (fault : PageFault) → new.last ≡ old.last
      → IfSome pages (λ p. StandsOver cmp (meaning p) old.held old.last) → IfSome pages (λ p. Fails cmp (meaning p) note old new)
      → IfSome pages (λ p. MakesVisits cmp (meaning p) note old new (Err fault))
  refusal_visits None old new fault e stands fails = tt
  refusal_visits (Some p) old new fault e (laws, _) fails = gives_fault o (meaning p) laws note old new fault fails e

  -- a search stands after a call
  pub stands_after : (pages : Option PageMap) (old new : SearchState N) (result : Result (Option Hit) PageFault)
      → IfSome pages (λ p. StandsOver cmp (meaning p) old.held old.last) → IfSome pages (λ p. MakesVisits cmp (meaning p) note old new result)
      → IfSome pages (λ p. StandsOver cmp (meaning p) new.held new.last)
  stands_after None old new result stands visits = tt
  stands_after (Some p) old new result (laws, (done, h)) visits = let call = visits done h in (laws, (done ++ call.makes.taken, call.makes.stands))

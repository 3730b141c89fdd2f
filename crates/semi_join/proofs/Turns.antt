-- A call of the semi-join, by that of its search, over the pages that the disk tells.
use Rattle.std.proofs.Common.{◌≡◌, ℕ, ◌<◌, List, ◌++◌, Option, None, Some, IfSome, Result, Ok, Err, refl, subst, Ordering}
use Rattle.sand_base.specs.declared.visit.Visit.{Visit}
use Rattle.page_pool.specs.Disk.{PageMap}
use Rattle.page_pool.specs.Desk.{DeskState}
use Rattle.page_pool.specs.Reads.{IsRead}
use Rattle.page_pool.specs.declared.fault.PageFault.{PageFault}
use Rattle.best_first.specs.declared.hit.Hit.{Hit}
use Rattle.best_first.specs.declared.item.Item.{Item}
use Rattle.best_first.specs.Hierarchy.{Meaning}
use Rattle.best_first.specs.Frontier.{Stands, StandsOver}
use Rattle.best_first.specs.Visits.{told_pages, SearchState, GivesNext, MakesVisits}
use Rattle.best_first.specs.Wanted.{StandsOverFor, GivesWanted, WantedBounds, IsWantedRow, MakesWantedVisits, wants_after}
use Rattle.best_first.proofs.Passing.{told_read}
use Rattle.best_first.proofs.WantedRows.{stands_fewer}
use Rattle.semi_join.specs.LeftRows.{LeftRows, GivesLeft, gives, is_waiting}
use Rattle.semi_join.specs.FirstPairs.{AreWaiting, HasLefts, SemiStands, GivesFirstPair}
use Rattle.semi_join.specs.Visits.{PairBounds, MakesPairVisits}
use Rattle.semi_join.proofs.Waiting.{not_given, one_less, is_first_pair, is_wanted_first, all_given, none_waits, given_now, begun}

-- What one call of the search did.
pub record Calls {N : Type 0} (cmp : N → N → Ordering) (m : Meaning N) (note : Item N → Visit) (mid new : SearchState N) (result : Result (Option Hit) PageFault) : Type 0 where
  pub row : GivesNext m mid.last result
  pub stands : StandsOver cmp m new.held new.last
  pub visits : MakesVisits cmp m note mid new result

-- what holds over the pages of the desk as it is now, of the hierarchy as it is now, holds over those of the beginning
pub carried : {H : Type 0} (old_desk new_desk : DeskState) (old_hierarchy new_hierarchy : H) (C : H → PageMap → Type 0) → IsRead old_desk.pool new_desk.pool
    → new_hierarchy ≡ old_hierarchy → IfSome (told_pages new_desk) (C new_hierarchy) → IfSome (told_pages old_desk) (C old_hierarchy)
carried old_desk new_desk old_hierarchy new_hierarchy C read same h =
    subst (λ t. IfSome t (C old_hierarchy)) (told_read old_desk new_desk read) (subst (λ x. IfSome (told_pages new_desk) (C x)) same h)

-- three facts over the same pages
pub all_three : (pages : Option PageMap) (A B C D : PageMap → Type 0) → ((p : PageMap) → A p → B p → C p → D p) → IfSome pages A → IfSome pages B → IfSome pages C → IfSome pages D
all_three None A B C D f a b c = tt
all_three (Some p) A B C D f a b c = f p a b c

-- what a call of the search promises, over the pages and the hierarchy of the beginning
pub calls : {N H : Type 0} (cmp : N → N → Ordering) (meaning : H → PageMap → Meaning N) (note : H → Item N → Visit) (old_desk mid_desk : DeskState)
    (old_hierarchy mid_hierarchy : H) (mid new : SearchState N) (result : Result (Option Hit) PageFault) → IsRead old_desk.pool mid_desk.pool → mid_hierarchy ≡ old_hierarchy
    → IfSome (told_pages mid_desk) (λ p. GivesNext (meaning mid_hierarchy p) mid.last result)
    → IfSome (told_pages mid_desk) (λ p. StandsOver cmp (meaning mid_hierarchy p) new.held new.last)
    → IfSome (told_pages mid_desk) (λ p. MakesVisits cmp (meaning mid_hierarchy p) (note mid_hierarchy) mid new result)
    → IfSome (told_pages old_desk) (λ p. Calls cmp (meaning old_hierarchy p) (note old_hierarchy) mid new result)
calls cmp meaning note old_desk mid_desk old_hierarchy mid_hierarchy mid new result read same row stands visits =
    carried old_desk mid_desk old_hierarchy mid_hierarchy (λ h p. Calls cmp (meaning h p) (note h) mid new result) read same
    (all_three (told_pages mid_desk) (λ p. GivesNext (meaning mid_hierarchy p) mid.last result) (λ p. StandsOver cmp (meaning mid_hierarchy p) new.held new.last)
    (λ p. MakesVisits cmp (meaning mid_hierarchy p) (note mid_hierarchy) mid new result) (λ p. Calls cmp (meaning mid_hierarchy p) (note mid_hierarchy) mid new result)
    (λ p r s v. record { row = r; stands = s; visits = v }) row stands visits)

-- a row with a left id that is wanted has one that was not given
pub gives_left : (lefts : LeftRows) (hit : Hit) → IsWantedRow (is_waiting lefts) (Ok (Some hit)) → GivesLeft lefts (gives hit.left lefts) (Ok (Some hit))
gives_left lefts hit wanted = (not_given lefts hit.left wanted, refl)

-- a search that has given nothing stands for all left rows that wait
pub starts : {N : Type 0} {cmp : N → N → Ordering} (m : Meaning N) (lefts : LeftRows) (held : List (Item N)) (last : Option Hit) (count greatest : ℕ) → last ≡ None
    → StandsOver cmp m held last → HasLefts m count greatest → greatest < lefts.below → lefts.waiting ≡ count → SemiStands cmp m held lefts
starts {N} {cmp} m lefts held last count greatest none (laws, (done, h)) has below waits =
    let at_first : Stands cmp m held None done = subst (λ l. Stands cmp m held l done) none h in
    ((laws, (done, record { sound = at_first.covers.sound; whole = λ hit answer e. at_first.covers.whole hit answer tt; tracks = at_first.tracks })), begun m count greatest lefts has below waits)

module _ {N : Type 0} (cmp : N → N → Ordering) (meaning : PageMap → Meaning N) (note : Item N → Visit) (lefts : LeftRows) (old : SearchState N) where
  -- what the search stands for
  pub asks : (pages : Option PageMap) → IfSome pages (λ p. SemiStands cmp (meaning p) old.held lefts) → IfSome pages (λ p. StandsOverFor cmp (meaning p) (is_waiting lefts) old.held)
  asks None h = tt
  asks (Some p) h = h.0

  -- the answer is the next first pair, or none is left
  pub pair_given : (pages : Option PageMap) (result : Result (Option Hit) PageFault) → IfSome pages (λ p. SemiStands cmp (meaning p) old.held lefts)
      → IfSome pages (λ p. GivesWanted (meaning p) (is_waiting lefts) result) → IfSome pages (λ p. GivesFirstPair (meaning p) lefts.given result)
  pair_given None result h row = tt
  pair_given (Some p) (Ok (Some hit)) h row = is_first_pair (meaning p) lefts h.1 hit row
  pair_given (Some p) (Ok None) h row = all_given (meaning p) lefts h.1 row
  pair_given (Some p) (Err fault) h row = tt

  -- after a row the search stands for one left row less
  pub pair_stands : (pages : Option PageMap) (new : SearchState N) (hit : Hit) → IfSome pages (λ p. SemiStands cmp (meaning p) old.held lefts)
      → IfSome pages (λ p. GivesWanted (meaning p) (is_waiting lefts) (Ok (Some hit)))
      → IfSome pages (λ p. StandsOverFor cmp (meaning p) (wants_after (is_waiting lefts) (Ok (Some hit))) new.held) → IfSome pages (λ p. SemiStands cmp (meaning p) new.held (gives hit.left lefts))
  pair_stands None new hit h row stands = tt
  pair_stands (Some p) new hit h row (laws, (done, s)) = (
    (laws, (done, stands_fewer (meaning p) (wants_after (is_waiting lefts) (Ok (Some hit))) (is_waiting (gives hit.left lefts)) new.held done (λ id e. one_less lefts hit.left id e) s)),
    given_now (meaning p) lefts h.1 hit row,
  )

  -- after the end or a refusal for as many as before
  pub still_stands : (pages : Option PageMap) (new : SearchState N) → IfSome pages (λ p. SemiStands cmp (meaning p) old.held lefts)
      → IfSome pages (λ p. StandsOverFor cmp (meaning p) (is_waiting lefts) new.held) → IfSome pages (λ p. SemiStands cmp (meaning p) new.held lefts)
  still_stands None new h stands = tt
  still_stands (Some p) new h stands = (stands, h.1)

  -- how far the visits go, in terms of the pairs
  bounds : (m : Meaning N) → AreWaiting m lefts → (result : Result (Option Hit) PageFault) (attempt all : List (Item N)) → WantedBounds cmp m (is_waiting lefts) result attempt all
      → PairBounds cmp m lefts.given result attempt all
  bounds m wait (Ok (Some hit)) attempt all b = b
  bounds m wait (Ok None) attempt all b = b
  bounds m wait (Err fault) attempt all b = record { few = b.few; near = λ hit pair. b.near hit (is_wanted_first m lefts wait hit pair); inside = b.inside }

  -- the visits of the call
  pub pair_visits : (pages : Option PageMap) (new : SearchState N) (result : Result (Option Hit) PageFault) → IfSome pages (λ p. SemiStands cmp (meaning p) old.held lefts)
      → IfSome pages (λ p. MakesWantedVisits cmp (meaning p) note (is_waiting lefts) old new result) → IfSome pages (λ p. MakesPairVisits cmp (meaning p) note lefts old new result)
  pair_visits None new result h visits = tt
  pair_visits (Some p) new result h visits =
      λ done s. let call = visits done s in record { attempt = call.attempt; makes = call.makes; bounds = bounds (meaning p) h.1 result call.attempt (done ++ call.makes.taken) call.bounds }

  -- where no left row waits, none is left
  pub ended : (pages : Option PageMap) → lefts.waiting ≡ 0 → IfSome pages (λ p. SemiStands cmp (meaning p) old.held lefts)
      → IfSome pages (λ p. GivesFirstPair (meaning p) lefts.given (Ok None))
  ended None none h = tt
  ended (Some p) none h = none_waits (meaning p) lefts h.1 none

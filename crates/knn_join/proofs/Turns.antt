-- The turns of the loop over the rows of a search, over the pages that the disk tells.
use Rattle.std.proofs.Common.{◌≡◌, ℕ, ◌*◌, ◌≤◌, ◌<◌, min, List, [], length, Option, None, Some, IfSome, Result, Ok, Err, ◌⊎◌, refl, sym, ap, ◌∙◌, subst, Ordering}
use Rattle.sand_base.specs.declared.visit.Visit.{Visit}
use Rattle.sand_model.specs.Sources.{Found}
use Rattle.page_pool.specs.Disk.{PageMap}
use Rattle.page_pool.specs.declared.fault.PageFault.{PageFault}
use Rattle.best_first.specs.declared.hit.Hit.{Hit}
use Rattle.best_first.specs.declared.item.Item.{Item}
use Rattle.best_first.specs.Hierarchy.{Meaning}
use Rattle.best_first.specs.Frontier.{StandsOver}
use Rattle.best_first.specs.Visits.{SearchState, Goes}
use Rattle.best_first.proofs.Journeys.{stays, goes_both}
use Rattle.best_first.proofs.ForLayers.{goes_from_ok}
use Rattle.semi_join.specs.Listed.{ListsAnswer, TakesFirst}
use Rattle.semi_join.proofs.Turns.{Calls}
use Rattle.sand_model.specs.Sources.{nearest_after}
use Rattle.knn_join.specs.PartnerCounts.{PartnerCounts, given_to, gives_to}
use Rattle.knn_join.specs.Listed.{partners_left, LeavesRest}
use Rattle.knn_join.specs.Standing.{HasSides, AreCountedUpTo, KnnStands}
use Rattle.knn_join.specs.Visits.{MakesPartnerVisits}
use Rattle.knn_join.proofs.Laters.{next_later, none_later}
use Rattle.knn_join.proofs.Counting.{was_full, passed_over, passes_left, takes_left, given_now, none_waits, begun}
use Rattle.knn_join.proofs.Bounds.{row_visits, end_visits, fault_visits}

-- Since the beginning of the call only rows have come whose left rows were given the most partners, so that the same partners are left.
pub record Passes {N : Type 0} (cmp : N → N → Ordering) (m : Meaning N) (note : Item N → Visit) (counts : PartnerCounts) (old now : SearchState N) : Type 0 where
  pub stands : StandsOver cmp m now.held now.last
  pub upto : (answer : List Found) → ListsAnswer m answer → AreCountedUpTo answer now.last counts
  pub same : (answer : List Found) → ListsAnswer m answer → partners_left old.last counts answer ≡ partners_left now.last counts answer
  pub goes : Goes cmp m note old now

module _ {N : Type 0} (cmp : N → N → Ordering) (meaning : PageMap → Meaning N) (note : Item N → Visit) (counts : PartnerCounts) (old : SearchState N) where
  -- at the beginning nothing was passed over
  pub begins : (pages : Option PageMap) → IfSome pages (λ p. KnnStands cmp (meaning p) old.held old.last counts) → IfSome pages (λ p. Passes cmp (meaning p) note counts old old)
  begins None h = tt
  begins (Some p) h = record { stands = h.0; upto = h.1; same = λ answer lists. refl; goes = stays (meaning p) note old }

  -- a row whose left row was refused a partner is passed over
  pub passes : (pages : Option PageMap) (mid new : SearchState N) (hit : Hit) → new.last ≡ Some hit → (length counts.given ≤ hit.left) ⊎ (counts.most ≤ given_to counts hit.left)
      → IfSome pages (λ p. Passes cmp (meaning p) note counts old mid) → IfSome pages (λ p. Calls cmp (meaning p) note mid new (Ok (Some hit)))
      → IfSome pages (λ p. Passes cmp (meaning p) note counts old new)
  passes None mid new hit last why h call = tt
  passes (Some p) mid new hit last why h call = record {
    stands = call.stands;
    upto = λ answer lists.
        let f = next_later (meaning p) answer lists mid.last hit call.row in
        subst (λ l. AreCountedUpTo answer l counts) (sym last) (passed_over answer mid.last hit f.found f.is f.among f.same.1 counts (h.upto answer lists));
    same = λ answer lists.
        let f = next_later (meaning p) answer lists mid.last hit call.row in
        let upto = h.upto answer lists in
        h.same answer lists ∙ passes_left answer mid.last hit f.found f.is f.among f.same.1 counts upto (was_full answer mid.last hit f.found f.is f.among f.same.1 counts upto why)
        ∙ ap (λ l. partners_left l counts answer) (sym last);
    goes = goes_both (meaning p) note old mid new h.goes (goes_from_ok cmp (meaning p) note mid new (Some hit) call.visits);
  }

  -- a row whose left row had fewer than the most partners is the next partner
  pub partner_left : (pages : Option PageMap) (mid new : SearchState N) (hit : Hit) → new.last ≡ Some hit → given_to counts hit.left < counts.most → hit.left < length counts.given
      → IfSome pages (λ p. Passes cmp (meaning p) note counts old mid) → IfSome pages (λ p. Calls cmp (meaning p) note mid new (Ok (Some hit)))
      → LeavesRest meaning pages old.last counts new.last (gives_to hit.left counts) (Ok (Some hit))
  partner_left None mid new hit last open_ inside h call = tt
  partner_left (Some p) mid new hit last open_ inside h call = λ answer lists.
      let f = next_later (meaning p) answer lists mid.last hit call.row in
      subst (λ l. TakesFirst (partners_left old.last counts answer) (partners_left l (gives_to hit.left counts) answer) (Ok (Some hit))) (sym last)
      (f.found, h.same answer lists ∙ takes_left answer mid.last hit f.found f.is f.among f.same.1 counts (h.upto answer lists) open_ inside, f.same)

  pub partner_stands : (pages : Option PageMap) (mid new : SearchState N) (hit : Hit) → new.last ≡ Some hit → given_to counts hit.left < counts.most → hit.left < length counts.given
      → IfSome pages (λ p. Passes cmp (meaning p) note counts old mid) → IfSome pages (λ p. Calls cmp (meaning p) note mid new (Ok (Some hit)))
      → IfSome pages (λ p. KnnStands cmp (meaning p) new.held new.last (gives_to hit.left counts))
  partner_stands None mid new hit last open_ inside h call = tt
  partner_stands (Some p) mid new hit last open_ inside h call = (
    call.stands,
    λ answer lists.
        let f = next_later (meaning p) answer lists mid.last hit call.row in
        subst (λ l. AreCountedUpTo answer l (gives_to hit.left counts)) (sym last) (given_now answer mid.last hit f.found f.is f.among f.same.1 counts (h.upto answer lists) open_ inside),
  )

  pub partner_visits : (pages : Option PageMap) (mid new : SearchState N) (hit : Hit) → IfSome pages (λ p. Passes cmp (meaning p) note counts old mid)
      → IfSome pages (λ p. Calls cmp (meaning p) note mid new (Ok (Some hit))) → IfSome pages (λ p. MakesPartnerVisits cmp (meaning p) note counts old new (Ok (Some hit)))
  partner_visits None mid new hit h call = tt
  partner_visits (Some p) mid new hit h call = row_visits (meaning p) note counts old mid new hit h.goes call.visits

  -- the end of the search
  pub end_left : (pages : Option PageMap) (mid new : SearchState N) → new.last ≡ mid.last → IfSome pages (λ p. Passes cmp (meaning p) note counts old mid)
      → IfSome pages (λ p. Calls cmp (meaning p) note mid new (Ok None))
      → LeavesRest meaning pages old.last counts new.last counts (Ok None)
  end_left None mid new last h call = tt
  end_left (Some p) mid new last h call = λ answer lists.
      let none : partners_left mid.last counts answer ≡ [] = ap (nearest_after counts.most (given_to counts)) (none_later (meaning p) answer lists mid.last call.row) in
      (h.same answer lists ∙ none, ap (λ l. partners_left l counts answer) last ∙ none)

  pub end_noted : (pages : Option PageMap) (mid new : SearchState N) → IfSome pages (λ p. Passes cmp (meaning p) note counts old mid)
      → IfSome pages (λ p. Calls cmp (meaning p) note mid new (Ok None)) → IfSome pages (λ p. MakesPartnerVisits cmp (meaning p) note counts old new (Ok None))
  end_noted None mid new h call = tt
  end_noted (Some p) mid new h call = end_visits (meaning p) note counts old mid new h.goes call.visits

  -- a refusal
  pub fault_left : (pages : Option PageMap) (mid new : SearchState N) (fault : PageFault) → new.last ≡ mid.last
      → IfSome pages (λ p. Passes cmp (meaning p) note counts old mid) → LeavesRest meaning pages old.last counts new.last counts (Err fault)
  fault_left None mid new fault last h = tt
  fault_left (Some p) mid new fault last h = λ answer lists. ap (λ l. partners_left l counts answer) last ∙ sym (h.same answer lists)

  pub fault_noted : (pages : Option PageMap) (mid new : SearchState N) (fault : PageFault) → IfSome pages (λ p. Passes cmp (meaning p) note counts old mid)
      → IfSome pages (λ p. Calls cmp (meaning p) note mid new (Err fault)) → IfSome pages (λ p. MakesPartnerVisits cmp (meaning p) note counts old new (Err fault))
  fault_noted None mid new fault h call = tt
  fault_noted (Some p) mid new fault h call = fault_visits (meaning p) note counts old mid new fault h.same h.goes call.visits

  -- the search stands after the end or a refusal, and no partner was given
  pub still_stands : (pages : Option PageMap) (mid new : SearchState N) (result : Result (Option Hit) PageFault) → new.last ≡ mid.last
      → IfSome pages (λ p. Passes cmp (meaning p) note counts old mid) → IfSome pages (λ p. Calls cmp (meaning p) note mid new result)
      → IfSome pages (λ p. KnnStands cmp (meaning p) new.held new.last counts)
  still_stands None mid new result last h call = tt
  still_stands (Some p) mid new result last h call = (call.stands, λ answer lists. subst (λ l. AreCountedUpTo answer l counts) (sym last) (h.upto answer lists))

  -- where no row is to come, none is left
  pub ended : (pages : Option PageMap) → counts.waiting ≡ 0 → IfSome pages (λ p. KnnStands cmp (meaning p) old.held old.last counts)
      → LeavesRest meaning pages old.last counts old.last counts (Ok None)
  ended None none h = tt
  ended (Some p) none h = λ answer lists. let empty = none_waits answer old.last counts (h.1 answer lists) none in (empty, empty)

-- at the beginning the join stands over each meaning that has its two sides
pub stands_begun : {N : Type 0} (cmp : N → N → Ordering) (m : Meaning N) (held : List (Item N)) (last : Option Hit) (counts : PartnerCounts) (most lefts rights greatest : ℕ)
    → last ≡ None → counts.most ≡ most → ((id : ℕ) → given_to counts id ≡ 0) → greatest < length counts.given
    → counts.waiting ≡ lefts * min most rights → StandsOver cmp m held last → HasSides m lefts rights greatest → KnnStands cmp m held last counts
stands_begun cmp m held last counts most lefts rights greatest none is zeros places waits stands sides = (
  stands,
  λ answer lists. subst (λ l. AreCountedUpTo answer l counts) (sym none)
      (begun m lefts rights greatest counts stands.0 sides zeros places (waits ∙ ap (λ n. lefts * min n rights) (sym is)) answer lists),
)

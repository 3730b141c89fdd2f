-- The visits of calls of a search one after another, as those of one call of the join.
use Rattle.std.proofs.Common.{◌≡◌, true, ◌&&◌, List, [], ◌++◌, length, All, Option, None, Some, Result, Ok, Err, ⊎_elim, refl, sym, ap, ◌∙◌, subst, append-nil, append_assoc, length-append, Ordering}
use Rattle.std.proofs.lemmas.Bool.{and_from, and_parts}
use Rattle.std.proofs.lemmas.List.Elements.{All-append, All-weaker}
use Rattle.sand_base.specs.declared.visit.Visit.{Visit}
use Rattle.sand_model.specs.Sources.{Found}
use Rattle.page_pool.specs.declared.fault.PageFault.{PageFault}
use Rattle.best_first.specs.declared.hit.Hit.{Hit}
use Rattle.best_first.specs.declared.item.Item.{Item}
use Rattle.best_first.specs.Item.{gap_of, nodes_of}
use Rattle.best_first.specs.Reach.{IsAtMost, within}
use Rattle.best_first.specs.Hierarchy.{Meaning}
use Rattle.best_first.specs.Frontier.{Stands}
use Rattle.best_first.specs.Answer.{IsAnswer, IsLater, IsNext}
use Rattle.best_first.specs.Visits.{SearchState, Noted, RoseBy, IsCounted, IsVisit, Makes, Goes, VisitsBefore, MakesVisits}
use Rattle.best_first.proofs.Bags.{All-left, from_filter}
use Rattle.best_first.proofs.Gaps.{at_most_trans, equal_at_most, same_back, same_itself}
use Rattle.best_first.proofs.Journeys.{noted_both, rose_both}
use Rattle.best_first.proofs.Pending.{nodes-append}
use Rattle.semi_join.specs.Listed.{hit_of, ListsAnswer}
use Rattle.semi_join.proofs.Rows.{first_near, least_of}
use Rattle.knn_join.specs.PartnerCounts.{PartnerCounts, given_to}
use Rattle.knn_join.specs.Listed.{comes_after, later_than, partners_left}
use Rattle.knn_join.specs.Visits.{PartnerBounds, VisitsBeforePartner, PartnerVisits, MakesPartnerVisits}
use Rattle.knn_join.proofs.Laters.{is_later, tests_later, later_row}
use Rattle.knn_join.proofs.Nearests.{first_nearest}

-- ---- the row that the search would give next, where a partner is to come

-- a row of a search as an element of a list
found_of : Hit → Found
found_of hit = record { gap = hit.gap; left = hit.left; right = hit.right }

-- The search has a next row, no farther than this one.
record HasNextBefore {N : Type 0} (m : Meaning N) (last : Option Hit) (row : Hit) : Type 0 where
  hit : Hit
  next : IsNext m last hit
  near : IsAtMost hit.gap row.gap

next_before : {N : Type 0} (m : Meaning N) (last : Option Hit) (row : Hit) → IsAnswer m row → IsLater last row → HasNextBefore m last row
unfolding found_of
next_before m last row answer later =
    let test = λ (hit : Hit). within m.ceiling hit.gap && comes_after last (found_of hit) in
    let passes : (hit : Hit) → IsAnswer m hit → IsLater last hit → test hit ≡ true =
    λ hit a l. and_from (within m.ceiling hit.gap) (comes_after last (found_of hit)) a.1 (tests_later last (found_of hit) l) in
    ⊎_elim
    (λ empty. absurd (empty row answer.0 (passes row answer later)))
    (λ l.
    let parts = and_parts (within m.ceiling l.row.gap) (comes_after last (found_of l.row)) l.passes in
    record {
      hit = l.row;
      next = record {
        row = l.row;
        same = (same_itself l.row.gap, refl, refl);
        answer = (l.among, parts.0);
        later = is_later last (found_of l.row) parts.1;
        first = λ other a o. l.first other a.0 (passes other a o);
      };
      near = first_near l.row row (l.first row answer.0 (passes row answer later));
    })
    (least_of test m.rows)

-- what lies before the search's next row lies before the next partner
before_partner : {N : Type 0} (m : Meaning N) (first last : Option Hit) (counts : PartnerCounts) (attempt all : List (Item N))
    → ((answer : List Found) → ListsAnswer m answer → partners_left first counts answer ≡ partners_left last counts answer) → VisitsBefore m last attempt all
    → VisitsBeforePartner m first counts attempt all
before_partner m first last counts attempt all same h = record {
  few = h.few;
  near = λ answer lists found more is.
      let at = first_nearest counts.most (given_to counts) (later_than last answer) found more (sym (same answer lists) ∙ is) in
      let parts = from_filter (comes_after last) answer found at in
      let o = lists.only found parts.0 in
      let later = later_row last (hit_of found) o.row (same_back o.row.gap found.gap o.same.0, sym o.same.1, sym o.same.2) (is_later last found parts.1) in
      let n = next_before m last o.row o.answer later in
      All-weaker (λ item. IsAtMost (gap_of item) n.hit.gap) (λ item. IsAtMost (gap_of item) found.gap)
      (λ item near. at_most_trans (gap_of item) n.hit.gap found.gap near (at_most_trans n.hit.gap o.row.gap found.gap n.near (equal_at_most o.row.gap found.gap o.same.0)))
      (all ++ attempt) (h.near n.hit n.next);
  inside = h.inside;
}

-- ---- calls one after another

module _ {N : Type 0} {cmp : N → N → Ordering} (m : Meaning N) (note : Item N → Visit) where
  -- what a second call makes after a first one
  both : (done : List (Item N)) (old mid new : SearchState N) (first : Makes cmp m note done old mid []) (attempt : List (Item N))
      → Makes cmp m note (done ++ first.taken) mid new attempt → Makes cmp m note done old new attempt
  both done old mid new first attempt second =
      let regroup = append_assoc done first.taken second.taken in
      record {
        taken = first.taken ++ second.taken;
        noted = subst (λ l. Noted note m.price l old.desk new.desk) (ap (λ l. l ++ (second.taken ++ attempt)) (append-nil first.taken)
            ∙ sym (append_assoc first.taken second.taken attempt)) (noted_both note m.price (first.taken ++ []) (second.taken ++ attempt) old.desk mid.desk new.desk first.noted second.noted);
        rose = subst (λ n. RoseBy n old.desk new.desk) (sym (ap length (nodes-append first.taken second.taken) ∙ length-append (nodes_of first.taken) (nodes_of second.taken)))
            (rose_both (length (nodes_of first.taken)) (length (nodes_of second.taken)) old.desk mid.desk new.desk first.rose second.rose);
        stands = subst (Stands cmp m new.held new.last) regroup second.stands;
        visits = subst (All IsVisit) (sym (append_assoc first.taken second.taken attempt))
            (All-append IsVisit first.taken (second.taken ++ attempt) (All-left IsVisit first.taken [] first.visits) second.visits);
        tried = second.tried;
        nearer = second.nearer;
        counted = λ c. subst (λ d. IsCounted d new.counts) regroup (second.counted (first.counted c));
      }

  -- the calls before, all accepted, and a last one whose bounds are those of the join
  joined : (counts : PartnerCounts) (done : List (Item N)) (old mid new : SearchState N) (result : Result (Option Hit) PageFault)
      (first : Makes cmp m note done old mid []) (attempt : List (Item N)) (second : Makes cmp m note (done ++ first.taken) mid new attempt)
      → PartnerBounds cmp m old.last counts result attempt ((done ++ first.taken) ++ second.taken) → PartnerVisits cmp m note counts done old new result
  unfolding both
  joined counts done old mid new result first attempt second bounds = record {
    attempt = attempt;
    makes = both done old mid new first attempt second;
    bounds = subst (PartnerBounds cmp m old.last counts result attempt) (append_assoc done first.taken second.taken) bounds;
  }

  -- after a row
  pub row_visits : (counts : PartnerCounts) (old mid new : SearchState N) (hit : Hit) → Goes cmp m note old mid → MakesVisits cmp m note mid new (Ok (Some hit))
      → MakesPartnerVisits cmp m note counts old new (Ok (Some hit))
  row_visits counts old mid new hit goes visits done h =
      let first = goes done h in
      let call = visits (done ++ first.taken) first.stands in
      joined counts done old mid new (Ok (Some hit)) first call.attempt call.makes call.bounds

  -- after the end
  pub end_visits : (counts : PartnerCounts) (old mid new : SearchState N) → Goes cmp m note old mid → MakesVisits cmp m note mid new (Ok None) → MakesPartnerVisits cmp m note counts old new (Ok None)
  end_visits counts old mid new goes visits done h =
      let first = goes done h in
      let call = visits (done ++ first.taken) first.stands in
      joined counts done old mid new (Ok None) first call.attempt call.makes call.bounds

  -- after a refusal
  pub fault_visits : (counts : PartnerCounts) (old mid new : SearchState N) (fault : PageFault)
      → ((answer : List Found) → ListsAnswer m answer → partners_left old.last counts answer ≡ partners_left mid.last counts answer)
      → Goes cmp m note old mid → MakesVisits cmp m note mid new (Err fault) → MakesPartnerVisits cmp m note counts old new (Err fault)
  fault_visits counts old mid new fault same goes visits done h =
      let first = goes done h in
      let call = visits (done ++ first.taken) first.stands in
      joined counts done old mid new (Err fault) first call.attempt call.makes (before_partner m old.last mid.last counts call.attempt ((done ++ first.taken) ++ call.makes.taken) same call.bounds)

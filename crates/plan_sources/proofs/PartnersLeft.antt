-- How far the visits of a call of a join of k partners go: up to the gap of the partner that comes next, or up to the ceiling where none is left.
use Rattle.std.proofs.Common.{◌≡◌, ℕ, suc, true, List, [], ◌∷◌, ◌++◌, All, Contains, drop, Option, None, Some, Result, Ok, Err, refl, sym, ap, ◌∙◌, subst, append-nil, Ordering}
use Rattle.std.proofs.lemmas.List.Elements.{All-contains}
use Rattle.page_pool.specs.declared.fault.PageFault.{PageFault}
use Rattle.sand_model.specs.Database.{element}
use Rattle.sand_model.specs.Reach.{Reach}
use Rattle.sand_model.specs.Sources.{Found, nearest_of}
use Rattle.best_first.specs.declared.hit.Hit.{Hit}
use Rattle.best_first.specs.declared.item.Item.{Item}
use Rattle.best_first.specs.Frontier.{Stands}
use Rattle.best_first.specs.Hierarchy.{Meaning}
use Rattle.best_first.specs.Item.{gap_of, IsSameRow}
use Rattle.best_first.specs.Reach.{IsAtMost, within, up_to}
use Rattle.best_first.proofs.Bags.{All-by, All-left, from_filter}
use Rattle.best_first.proofs.Gaps.{within_reach, is_up_to, same_back, same_itself, reach_same}
use Rattle.semi_join.specs.Listed.{ListsAnswer, TakesFirst, hit_of}
use Rattle.knn_join.specs.Listed.{comes_after, later_than, partners_left}
use Rattle.knn_join.specs.PartnerCounts.{PartnerCounts, given_to}
use Rattle.knn_join.specs.Visits.{PartnerBounds}
use Rattle.knn_join.proofs.Nearests.{first_nearest}
use Rattle.plan_sources.proofs.HowFar.{reach_from, HowFar, CallReach, few_none, row_goes, ceiling_goes}
use Rattle.plan_sources.proofs.FirstsLeft.{dropped_at, dropped_all}

-- what is left of a list stands in it
left_in : (answer : List Found) (last : Option Hit) (counts : PartnerCounts) (found : Found) (more : List Found) → partners_left last counts answer ≡ found ∷ more → Contains answer found
left_in answer last counts found more e =
    (from_filter (comes_after last) answer found (first_nearest counts.most (given_to counts) (later_than last answer) found more e)).0

-- the end
abbrev ended : Result (Option Hit) PageFault
ended = Ok None

module _ {N : Type 0} (m : Meaning N) (answer : List Found) (lists : ListsAnswer m answer) (last : Option Hit) (counts : PartnerCounts) (n : ℕ)
    (rows : partners_left last counts answer ≡ drop n (nearest_of counts.most answer)) where
  abbrev partners : List Found
  partners = nearest_of counts.most answer

  -- the reach of a call
  abbrev to_next : Reach
  to_next = reach_from m.ceiling (element partners n)

  -- a row of the list lies within the ceiling
  inside_ceiling : (found : Found) → Contains answer found → within m.ceiling found.gap ≡ true
  inside_ceiling found at =
      let o = lists.only found at in
      reach_same (within m.ceiling) (within_reach m.ceiling) o.row.gap found.gap o.same.0 true o.answer.1

  all_up_to : (found : Found) (items : List (Item N)) → All (λ item. IsAtMost (gap_of item) found.gap) items → All (λ item. up_to found.gap (gap_of item) ≡ true) items
  all_up_to found items h =
      All-by (λ item. up_to found.gap (gap_of item) ≡ true) items (λ item at. is_up_to found.gap (gap_of item) (All-contains (λ item. IsAtMost (gap_of item) found.gap) items item h at))

  -- a partner that is given stands at the next place, and the others are left
  pub given_next : (after : Option Hit) (new : PartnerCounts) (hit : Hit) → TakesFirst (partners_left last counts answer) (partners_left after new answer) (Ok (Some hit))
      → (found : Found) × (element partners n ≡ Some found) × (partners_left after new answer ≡ drop (suc n) partners) × IsSameRow hit (hit_of found) × Contains answer found
  given_next after new hit (found, split, same) =
      let at = dropped_at partners n found (partners_left after new answer) (sym rows ∙ split) in
      (found, at.0, sym at.1, same, left_in answer last counts found (partners_left after new answer) split)

  pub none_next : partners_left last counts answer ≡ [] → element partners n ≡ None
  none_next empty = dropped_all partners n (sym rows ∙ empty)

  -- what lies no farther than the next partner, where there is one, and within the ceiling lies within the reach
  before_next : (items : List (Item N)) → ((found : Found) (more : List Found) → partners_left last counts answer ≡ found ∷ more → All (λ item. IsAtMost (gap_of item) found.gap) items)
      → All (λ item. within m.ceiling (gap_of item) ≡ true) items → HowFar m to_next items
  before_next items near inside =
      let go : (l : List Found) → partners_left last counts answer ≡ l → HowFar m to_next items = elim [
        | [] ↦ λ e. subst (λ o. HowFar m (reach_from m.ceiling o) items) (sym (none_next e)) (record { test = within m.ceiling; goes = ceiling_goes m; near = inside })
        | found ∷ more ↦ λ e.
            let at = dropped_at partners n found more (sym rows ∙ e) in
            let among = left_in answer last counts found more e in
            subst (λ o. HowFar m (reach_from m.ceiling o) items) (sym at.0)
            (record { test = up_to found.gap; goes = row_goes m found (hit_of found) (same_itself found.gap) (inside_ceiling found among); near = all_up_to found items (near found more e) })
      ] in
      go (partners_left last counts answer) refl

  -- after a call
  pub far_after : {cmp : N → N → Ordering} (after : Option Hit) (new : PartnerCounts) (result : Result (Option Hit) PageFault) (held : List (Item N)) (attempt all : List (Item N))
      → TakesFirst (partners_left last counts answer) (partners_left after new answer) result
      → Stands cmp m held after all → PartnerBounds cmp m last counts result attempt all → CallReach cmp m to_next result attempt all
  far_after {cmp} after new (Ok (Some hit)) held attempt all takes h bounds =
      let (found, here, more, same, among) = given_next after new hit takes in
      let inside = reach_same (within m.ceiling) (within_reach m.ceiling) found.gap hit.gap (same_back hit.gap found.gap same.0) true (inside_ceiling found among) in
      let same_items : all ≡ all ++ attempt = sym (append-nil all) ∙ ap (λ l. all ++ l) (sym bounds.settled) in
      subst (λ o. CallReach cmp m (reach_from m.ceiling o) (Ok (Some hit)) attempt all) (sym here)
      (record {
        far = record {
          test = up_to hit.gap;
          goes = row_goes m found hit (same_back hit.gap found.gap same.0) inside;
          near = subst (λ l. All (λ item. up_to hit.gap (gap_of item) ≡ true) l) same_items
              (All-by (λ item. up_to hit.gap (gap_of item) ≡ true) all (λ item at. is_up_to hit.gap (gap_of item) (All-contains (λ item. IsAtMost (gap_of item) hit.gap) all item bounds.near at)));
        };
        few = few_none attempt bounds.settled;
        exact = (bounds.settled, bounds.reached);
      })
  far_after {cmp} after new (Ok None) held attempt all takes h bounds =
      let same_items : all ≡ all ++ attempt = sym (append-nil all) ∙ ap (λ l. all ++ l) (sym bounds.settled) in
      subst (λ o. CallReach cmp m (reach_from m.ceiling o) ended attempt all) (sym (none_next takes.0))
      (record {
        far = record {
          test = within m.ceiling;
          goes = ceiling_goes m;
          near = subst (λ l. All (λ item. within m.ceiling (gap_of item) ≡ true) l) same_items (All-left (λ item. within m.ceiling (gap_of item) ≡ true) all held h.tracks.inside);
        };
        few = few_none attempt bounds.settled;
        exact = (bounds.settled, bounds.reached);
      })
  far_after after new (Err fault) held attempt all takes h bounds =
      record { far = before_next (all ++ attempt) (bounds.near answer lists) bounds.inside; few = bounds.few; exact = tt }

-- How far the visits of a call go: up to the gap of the row that comes next, or up to the ceiling where none is left.
use Rattle.std.proofs.Common.{◌≡◌, ℕ, ◌≤◌, Bool, true, List, [], ◌++◌, length, All, ⊎_elim, Option, None, Some, Result, Ok, Err, OnOk, sym, ap, ◌∙◌, subst, arith, append-nil, Ordering}
use Rattle.std.specs.Cmp.{IsTotalOrder, nat_cmp_total, on_total, then_total}
use Rattle.std.proofs.lemmas.List.Elements.{All-contains}
use Rattle.exact_frac.specs.Frac.{value_cmp_total}
use Rattle.exact_frac.specs.declared.frac.Frac.{Frac}
use Rattle.page_pool.specs.declared.fault.PageFault.{PageFault}
use Rattle.sand_model.specs.Database.{element}
use Rattle.sand_model.specs.Reach.{Reach, UpTo, Ceiling}
use Rattle.sand_model.specs.Sources.{Found}
use Rattle.best_first.specs.declared.hit.Hit.{Hit}
use Rattle.best_first.specs.declared.item.Item.{Item}
use Rattle.best_first.specs.Answer.{hit_cmp, IsNext, IsExhausted}
use Rattle.best_first.specs.Frontier.{Stands}
use Rattle.best_first.specs.Hierarchy.{Meaning}
use Rattle.best_first.specs.Item.{gap_of}
use Rattle.best_first.specs.Reach.{IsSameGap, IsAtMost, IsReach, within, up_to}
use Rattle.best_first.specs.Visits.{Reached, Bounds, GivesNext}
use Rattle.best_first.proofs.Bags.{All-by, All-left}
use Rattle.best_first.proofs.Gaps.{within_reach, up_to_is, is_up_to, up_to_reach, same_back, reach_same}
use Rattle.rank_cursor.specs.Answers.{IsTestOf, AreGiven, GivesList}
use Rattle.rank_cursor.proofs.CountedItems.{row_is_reach, ceiling_is_reach}
use Rattle.plan_sources.proofs.NextRow.{next_or_none}
use Rattle.plan_sources.proofs.Shorter.{element_past}

-- the reach of a row of a list, and the ceiling where there is none
abbrev pub reach_from : Option ℕ → Option Found → Reach
reach_from ceiling (Some found) = UpTo found.gap
reach_from ceiling None = Ceiling ceiling

-- The test of gaps takes in what the reach does, and with a gap all that is nearer, and nothing beyond the ceiling.
pub record GoesTo {N : Type 0} (m : Meaning N) (to : Reach) (test : Frac → Bool) : Type 0 where
  pub tells : IsTestOf to test
  pub is : IsReach test
  pub narrow : (gap : Frac) → test gap ≡ true → within m.ceiling gap ≡ true

-- The items lie within the reach.
pub record HowFar {N : Type 0} (m : Meaning N) (to : Reach) (items : List (Item N)) : Type 0 where
  pub test : Frac → Bool
  pub goes : GoesTo m to test
  pub near : All (λ item. test (gap_of item) ≡ true) items

-- All that was taken and attempted lies within the reach, at most one item was attempted, and after an answer none was and what was taken is just what lies there.
pub record CallReach {N T : Type 0} (cmp : N → N → Ordering) (m : Meaning N) (to : Reach) (result : Result T PageFault) (attempt all : List (Item N)) : Type 0 where
  pub far : HowFar m to (all ++ attempt)
  pub few : length attempt ≤ 1
  pub exact : OnOk result ((attempt ≡ []) × Reached cmp m far.test all)

-- none is at most one
pub few_none : {X : Type 0} (xs : List X) → xs ≡ [] → length xs ≤ 1
few_none xs none = subst (λ l. length l ≤ 1) (sym none) (omega arith)

-- the order of rows is total
pub hits_total : IsTotalOrder hit_cmp
hits_total = then_total (on_total (λ (hit : Hit). hit.gap) value_cmp_total)
    (on_total (λ (hit : Hit). (hit.left, hit.right)) (then_total (on_total (λ (ids : ℕ × ℕ). ids.0) nat_cmp_total) (on_total (λ (ids : ℕ × ℕ). ids.1) nat_cmp_total)))

module _ {N : Type 0} (m : Meaning N) where
  -- up to a row of the list
  pub row_goes : (found : Found) (hit : Hit) → IsSameGap found.gap hit.gap → within m.ceiling hit.gap ≡ true → GoesTo m (UpTo found.gap) (up_to hit.gap)
  row_goes found hit same inside = record {
    tells = row_is_reach hit.gap found.gap (same_back found.gap hit.gap same);
    is = up_to_reach hit.gap;
    narrow = λ gap e. within_reach m.ceiling gap hit.gap (up_to_is hit.gap gap e) inside;
  }

  -- up to the ceiling
  pub ceiling_goes : GoesTo m (Ceiling m.ceiling) (within m.ceiling)
  ceiling_goes = record { tells = ceiling_is_reach m.ceiling; is = within_reach m.ceiling; narrow = λ gap e. e }

  -- the next row lies within the ceiling
  pub next_inside : (last : Option Hit) (hit : Hit) → IsNext m last hit → within m.ceiling hit.gap ≡ true
  next_inside last hit next = reach_same (within m.ceiling) (within_reach m.ceiling) next.row.gap hit.gap next.same.0 true next.answer.1

  -- items no farther than a row
  all_up_to : (hit : Hit) (items : List (Item N)) → All (λ item. IsAtMost (gap_of item) hit.gap) items → All (λ item. up_to hit.gap (gap_of item) ≡ true) items
  all_up_to hit items h = All-by (λ item. up_to hit.gap (gap_of item) ≡ true) items (λ item at. is_up_to hit.gap (gap_of item) (All-contains (λ item. IsAtMost (gap_of item) hit.gap) items item h at))

  module _ (rows : List Found) (gives : GivesList m rows) (n : ℕ) (last : Option Hit) (given : AreGiven rows n last) where
    -- the reach of a call
    abbrev to_next : Reach
    to_next = reach_from m.ceiling (element rows n)

    -- what is no farther than the next row, where there is one, lies within the reach
    up_to_row : (hit : Hit) → IsNext m last hit → (items : List (Item N)) → All (λ item. IsAtMost (gap_of item) hit.gap) items → HowFar m to_next items
    up_to_row hit next items near =
        let (found, here, same) = gives.next n last hit given next in
        subst (λ o. HowFar m (reach_from m.ceiling o) items) (sym here)
        (record { test = up_to hit.gap; goes = row_goes found hit same.0 (next_inside last hit next); near = all_up_to hit items near })

    -- where none is left the list has no more
    ended : IsExhausted m last → element rows n ≡ None
    ended over = ap (element rows) (gives.over n last given over) ∙ element_past rows

    -- and what lies within the ceiling, where there is none
    up_to_ceiling : IsExhausted m last → (items : List (Item N)) → All (λ item. within m.ceiling (gap_of item) ≡ true) items → HowFar m to_next items
    up_to_ceiling over items near =
        subst (λ o. HowFar m (reach_from m.ceiling o) items) (sym (ended over)) (record { test = within m.ceiling; goes = ceiling_goes; near = near })

    -- what is no farther than the next row, if there is one, and within the ceiling lies within the reach
    pub before_next : (items : List (Item N)) → ((hit : Hit) → IsNext m last hit → All (λ item. IsAtMost (gap_of item) hit.gap) items) → All (λ item. within m.ceiling (gap_of item) ≡ true) items
        → HowFar m to_next items
    before_next items near inside =
        ⊎_elim (λ (hit, next). up_to_row hit next items (near hit next)) (λ over. up_to_ceiling over items inside) (next_or_none hits_total m last)

    -- what a search has taken after a call
    pub far_after : {cmp : N → N → Ordering} (result : Result (Option Hit) PageFault) (held : List (Item N)) (after : Option Hit) (attempt all : List (Item N)) → GivesNext m last result
        → Stands cmp m held after all → Bounds cmp m last result attempt all → CallReach cmp m to_next result attempt all
    far_after {cmp} (Ok (Some hit)) held after attempt all next h bounds =
        let (found, here, same) = gives.next n last hit given next in
        let same_items : all ≡ all ++ attempt = sym (append-nil all) ∙ ap (λ l. all ++ l) (sym bounds.settled) in
        subst (λ o. CallReach cmp m (reach_from m.ceiling o) (Ok (Some hit)) attempt all) (sym here)
        (record {
          far = record {
            test = up_to hit.gap;
            goes = row_goes found hit same.0 (next_inside last hit next);
            near = subst (λ l. All (λ item. up_to hit.gap (gap_of item) ≡ true) l) same_items (all_up_to hit all bounds.near);
          };
          few = few_none attempt bounds.settled;
          exact = (bounds.settled, bounds.reached);
        })
    far_after {cmp} (Ok None) held after attempt all over h bounds =
        let same_items : all ≡ all ++ attempt = sym (append-nil all) ∙ ap (λ l. all ++ l) (sym bounds.settled) in
        subst (λ o. CallReach {T = Option Hit} cmp m (reach_from m.ceiling o) (Ok None) attempt all) (sym (ended over))
        (record {
          far = record {
            test = within m.ceiling;
            goes = ceiling_goes;
            near = subst (λ l. All (λ item. within m.ceiling (gap_of item) ≡ true) l) same_items (All-left (λ item. within m.ceiling (gap_of item) ≡ true) all held h.tracks.inside);
          };
          few = few_none attempt bounds.settled;
          exact = (bounds.settled, bounds.reached);
        })
    far_after (Err fault) held after attempt all next h bounds = record { far = before_next (all ++ attempt) bounds.near bounds.inside; few = bounds.few; exact = tt }

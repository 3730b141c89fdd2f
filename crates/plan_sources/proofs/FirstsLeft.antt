-- How far the visits of a call of a semi-join go: up to the gap of the first pair that comes next, or up to the ceiling where none is left.
use Rattle.std.proofs.Common.{◌≡◌, ℕ, zero, suc, Bool, true, false, not, List, [], ◌∷◌, ◌++◌, All, Contains, filter, drop, ◌⊎◌, inl, inr, ⊎_elim, Option, None, Some}
use Rattle.std.proofs.Common.{Result, Ok, Err, refl, sym, ap, ◌∙◌, subst, append-nil, Ordering}
use Rattle.std.specs.FinSet as set
use Rattle.std.proofs.lemmas.Bool.{not-true}
use Rattle.std.proofs.lemmas.List.Elements.{All-contains}
use Rattle.page_pool.specs.Disk.{PageMap}
use Rattle.page_pool.specs.declared.fault.PageFault.{PageFault}
use Rattle.sand_model.specs.Database.{element}
use Rattle.sand_model.specs.Reach.{Reach}
use Rattle.sand_model.specs.Sources.{Found, first_of_each}
use Rattle.best_first.specs.declared.hit.Hit.{Hit}
use Rattle.best_first.specs.declared.item.Item.{Item}
use Rattle.best_first.specs.Answer.{IsAnswer}
use Rattle.best_first.specs.Wanted.{StandsFor}
use Rattle.best_first.specs.Hierarchy.{Meaning}
use Rattle.best_first.specs.Item.{gap_of}
use Rattle.best_first.specs.Reach.{IsAtMost, within, up_to}
use Rattle.best_first.proofs.Bags.{All-by, All-left, none, in_filter, from_filter}
use Rattle.best_first.proofs.Gaps.{within_reach, is_up_to, same_back, same_itself, reach_same}
use Rattle.semi_join.specs.FirstPairs.{IsFirstPair, AreAllGiven, GivesFirstPair}
use Rattle.semi_join.specs.LeftRows.{IdSet, LeftRows, gives}
use Rattle.semi_join.specs.Listed.{ListsAnswer, pairs_left, TakesFirst}
use Rattle.semi_join.specs.Visits.{PairBounds}
use Rattle.semi_join.proofs.Lists.{takes_first_over}
use Rattle.plan_sources.proofs.HowFar.{reach_from, HowFar, CallReach, few_none, hits_total, row_goes, ceiling_goes}
use Rattle.plan_sources.proofs.NextRow.{least_of}

-- ---- what is left of a list

pub dropped_at : {A : Type 0} (xs : List A) (n : ℕ) (x : A) (rest : List A) → drop n xs ≡ x ∷ rest → (element xs n ≡ Some x) × (drop (suc n) xs ≡ rest)
dropped_at [] zero x rest e = absurd (let clash : ⊥ = cc in clash)
dropped_at [] (suc n) x rest e = absurd (let clash : ⊥ = cc in clash)
dropped_at (y ∷ ys) zero x rest e = (ap first_of e, ap rest_of e)
  where
    first_of : {A : Type 0} → List A → Option A
    first_of [] = None
    first_of (z ∷ zs) = Some z

    rest_of : {A : Type 0} → List A → List A
    rest_of [] = []
    rest_of (z ∷ zs) = zs
dropped_at (y ∷ ys) (suc n) x rest e = dropped_at ys n x rest e

pub dropped_all : {A : Type 0} (xs : List A) (n : ℕ) → drop n xs ≡ [] → element xs n ≡ None
dropped_all [] n e = refl
dropped_all (y ∷ ys) zero e = absurd (let clash : ⊥ = cc in clash)
dropped_all (y ∷ ys) (suc n) e = dropped_all ys n e

-- ---- the first pair that comes next

module _ {N : Type 0} (m : Meaning N) (given : IdSet) where
  abbrev near_rows : List Hit
  near_rows = filter (λ hit. within m.ceiling hit.gap) m.rows

  abbrev is_fresh : Hit → Bool
  is_fresh hit = not (set.contains given hit.left)

  abbrev fresh_rows : List Hit
  fresh_rows = filter is_fresh near_rows

  comes : (hit : Hit) → IsAnswer m hit → set.contains given hit.left ≡ false → Contains fresh_rows hit
  comes hit answer fresh = in_filter is_fresh near_rows hit (in_filter (λ hit. within m.ceiling hit.gap) m.rows hit answer.0 answer.1) (ap not fresh)

  pub first_or_none : ((hit : Hit) × IsFirstPair m given hit) ⊎ AreAllGiven m given
  first_or_none =
      ⊎_elim
      (λ empty. inr (λ hit answer.
      let go : (b : Bool) → set.contains given hit.left ≡ b → b ≡ true =
      elim [ true ↦ λ e. refl | false ↦ λ e. absurd (none hit (subst (λ l. Contains l hit) empty (comes hit answer e))) ] in
      go (set.contains given hit.left) refl))
      (λ h.
      let (near, fresh) = from_filter is_fresh near_rows h.least h.among in
      let (among, inside) = from_filter (λ hit. within m.ceiling hit.gap) m.rows h.least near in
      inl (
        h.least,
        record {
          row = h.least;
          same = (same_itself h.least.gap, refl, refl);
          answer = (among, inside);
          fresh = not-true (set.contains given h.least.left) fresh;
          first = λ other answer fresh. h.first other (comes other answer fresh);
        },
      ))
      (least_of hits_total fresh_rows)

-- the next first pair lies within the ceiling
pub pair_inside : {N : Type 0} (m : Meaning N) (given : IdSet) (hit : Hit) → IsFirstPair m given hit → within m.ceiling hit.gap ≡ true
pair_inside m given hit pair = reach_same (within m.ceiling) (within_reach m.ceiling) pair.row.gap hit.gap pair.same.0 true pair.answer.1

-- the end
abbrev ended : Result (Option Hit) PageFault
ended = Ok None

-- ---- how far

module _ {N : Type 0} (m : Meaning N) (answer : List Found) (lists : ListsAnswer m answer) (lefts : LeftRows) (n : ℕ) (rows : pairs_left lefts.given answer ≡ drop n (first_of_each answer)) where
  abbrev firsts : List Found
  firsts = first_of_each answer

  -- the reach of a call
  abbrev to_next : Reach
  to_next = reach_from m.ceiling (element firsts n)

  all_up_to : (hit : Hit) (items : List (Item N)) → All (λ item. IsAtMost (gap_of item) hit.gap) items → All (λ item. up_to hit.gap (gap_of item) ≡ true) items
  all_up_to hit items h = All-by (λ item. up_to hit.gap (gap_of item) ≡ true) items (λ item at. is_up_to hit.gap (gap_of item) (All-contains (λ item. IsAtMost (gap_of item) hit.gap) items item h at))

  -- a pair that is given stands at the next place, and the others are left
  pub given_next : (new : IdSet) (hit : Hit) → TakesFirst (pairs_left lefts.given answer) (pairs_left new answer) (Ok (Some hit))
      → (found : Found) × (element firsts n ≡ Some found) × (pairs_left new answer ≡ drop (suc n) firsts) × Rattle.best_first.specs.Item.IsSameRow hit (Rattle.semi_join.specs.Listed.hit_of found)
  given_next new hit (found, split, same) =
      let at = dropped_at firsts n found (pairs_left new answer) (sym rows ∙ split) in (found, at.0, sym at.1, same)

  pub none_next : pairs_left lefts.given answer ≡ [] → element firsts n ≡ None
  none_next empty = dropped_all firsts n (sym rows ∙ empty)

  -- what the lists say of the next first pair, over any pages
  taken_of : PageMap → (hit : Hit) → IsFirstPair m lefts.given hit → TakesFirst (pairs_left lefts.given answer) (pairs_left (gives hit.left lefts).given answer) (Ok (Some hit))
  taken_of pages hit pair =
      takes_first_over (λ (p : PageMap). m) (Some pages) lefts (gives hit.left lefts) (Ok (Some hit)) pair (subst (λ id. set.contains lefts.given id ≡ false) pair.same.1 pair.fresh, refl) answer lists

  none_of : PageMap → AreAllGiven m lefts.given → pairs_left lefts.given answer ≡ []
  none_of pages all = (takes_first_over (λ (p : PageMap). m) (Some pages) lefts lefts (Ok None) all refl answer lists).0

  pub all_given : PageMap → AreAllGiven m lefts.given → element firsts n ≡ None
  all_given pages all = none_next (none_of pages all)

  pub before_next : PageMap → (items : List (Item N)) → ((hit : Hit) → IsFirstPair m lefts.given hit → All (λ item. IsAtMost (gap_of item) hit.gap) items)
      → All (λ item. within m.ceiling (gap_of item) ≡ true) items → HowFar m to_next items
  before_next pages items near inside =
      ⊎_elim
      (λ (hit, pair).
      let (found, here, more, same) = given_next (gives hit.left lefts).given hit (taken_of pages hit pair) in
      subst (λ o. HowFar m (reach_from m.ceiling o) items) (sym here)
      (record { test = up_to hit.gap; goes = row_goes m found hit (same_back hit.gap found.gap same.0) (pair_inside m lefts.given hit pair); near = all_up_to hit items (near hit pair) }))
      (λ all.
      subst (λ o. HowFar m (reach_from m.ceiling o) items) (sym (all_given pages all)) (record { test = within m.ceiling; goes = ceiling_goes m; near = inside }))
      (first_or_none m lefts.given)

  -- after a call
  pub far_after : PageMap → {cmp : N → N → Ordering} (result : Result (Option Hit) PageFault) (wants : ℕ → Bool) (held attempt all : List (Item N))
      → GivesFirstPair m lefts.given result
      → StandsFor cmp m wants held all → PairBounds cmp m lefts.given result attempt all → CallReach cmp m to_next result attempt all
  far_after pages {cmp} (Ok (Some hit)) wants held attempt all pair h bounds =
      let (found, here, more, same) = given_next (gives hit.left lefts).given hit (taken_of pages hit pair) in
      let same_items : all ≡ all ++ attempt = sym (append-nil all) ∙ ap (λ l. all ++ l) (sym bounds.settled) in
      subst (λ o. CallReach cmp m (reach_from m.ceiling o) (Ok (Some hit)) attempt all) (sym here)
      (record {
        far = record {
          test = up_to hit.gap;
          goes = row_goes m found hit (same_back hit.gap found.gap same.0) (pair_inside m lefts.given hit pair);
          near = subst (λ l. All (λ item. up_to hit.gap (gap_of item) ≡ true) l) same_items (all_up_to hit all bounds.near);
        };
        few = few_none attempt bounds.settled;
        exact = (bounds.settled, bounds.reached);
      })
  far_after pages {cmp} (Ok None) wants held attempt all over h bounds =
      let same_items : all ≡ all ++ attempt = sym (append-nil all) ∙ ap (λ l. all ++ l) (sym bounds.settled) in
      subst (λ o. CallReach cmp m (reach_from m.ceiling o) ended attempt all) (sym (all_given pages over))
      (record {
        far = record {
          test = within m.ceiling;
          goes = ceiling_goes m;
          near = subst (λ l. All (λ item. within m.ceiling (gap_of item) ≡ true) l) same_items (All-left (λ item. within m.ceiling (gap_of item) ≡ true) all held h.tracks.inside);
        };
        few = few_none attempt bounds.settled;
        exact = (bounds.settled, bounds.reached);
      })
  far_after pages (Err fault) wants held attempt all next h bounds = record { far = before_next pages (all ++ attempt) bounds.near bounds.inside; few = bounds.few; exact = tt }

-- Where a search isn't asked nothing is taken: a call that is refused before.
use Rattle.std.proofs.Common.{◌≡◌, true, List, [], ◌++◌, All, Err, sym, append-nil, subst, arith, Ordering}
use Rattle.std.specs.Cmp.{IsTotalOrder}
use Rattle.std.proofs.lemmas.List.Elements.{All-contains}
use Rattle.sand_base.specs.declared.visit.Visit.{Visit}
use Rattle.page_pool.specs.declared.fault.PageFault.{PageFault}
use Rattle.best_first.specs.Frontier.{Stands}
use Rattle.best_first.specs.Hierarchy.{Meaning, MeetsLaws, HasGap}
use Rattle.best_first.specs.Item.{gap_of}
use Rattle.best_first.specs.Reach.{IsAtMost, within}
use Rattle.best_first.specs.Visits.{SearchState, VisitsBefore, MakesVisits}
use Rattle.best_first.specs.declared.item.Item.{Item}
use Rattle.best_first.proofs.Bags.{All-by, All-left, All-right}
use Rattle.best_first.proofs.Journeys.{stays}
use Rattle.best_first.proofs.RowsToCome.{within_row}
use Rattle.best_first.proofs.WantedMoves.{stays_for}
use Rattle.best_first.proofs.WantedRows.{within_wanted}
use Rattle.semi_join.specs.FirstPairs.{AreWaiting}
use Rattle.semi_join.specs.LeftRows.{LeftRows, is_waiting}
use Rattle.semi_join.specs.Visits.{MakesPairVisits}
use Rattle.semi_join.proofs.Waiting.{is_wanted_first}

module _ {N : Type 0} {cmp : N → N → Ordering} (o : IsTotalOrder cmp) (m : Meaning N) (laws : MeetsLaws m) (note : Item N → Visit) (old : SearchState N) (fault : PageFault) where
  before : (done : List (Item N)) → Stands cmp m old.held old.last done → VisitsBefore m old.last [] done
  before done h = record {
    few = omega arith;
    near = λ hit next. subst (All (λ item. IsAtMost (gap_of item) hit.gap)) (sym (append-nil done)) (All-by (λ item. IsAtMost (gap_of item) hit.gap) done (λ item at.
        within_row o m laws old.held old.last hit (gap_of item) next (All-right (HasGap m) done old.held h.tracks.gaps)
        (All-contains (λ taken. All (λ item. IsAtMost (gap_of taken) (gap_of item)) old.held) done item h.tracks.nearer at) h.covers));
    inside = subst (All (λ item. within m.ceiling (gap_of item) ≡ true)) (sym (append-nil done)) (All-left (λ item. within m.ceiling (gap_of item) ≡ true) done old.held h.tracks.inside);
  }

  -- the visits of a call that isn't made
  pub no_visits : MakesVisits cmp m note old old (Err fault)
  no_visits done h =
      let none = stays {cmp = cmp} m note old done h in record {
        attempt = [];
        makes = none;
        bounds = before (done ++ none.taken) none.stands;
      }

-- and of one of a semi-join
pub no_pair_visits : {N : Type 0} {cmp : N → N → Ordering} (o : IsTotalOrder cmp) (m : Meaning N) → MeetsLaws m → (note : Item N → Visit) (lefts : LeftRows) → AreWaiting m lefts
    → (old : SearchState N) (fault : PageFault) → MakesPairVisits cmp m note lefts old old (Err fault)
no_pair_visits {N} {cmp} o m laws note lefts wait old fault done h =
    let none = stays_for {cmp = cmp} m note (is_waiting lefts) old done h in
    let all = done ++ none.taken in
    let inside = All-left (λ item. within m.ceiling (gap_of item) ≡ true) all old.held none.stands.tracks.inside in
    record {
      attempt = [];
      makes = none;
      bounds = record {
        few = omega arith;
        near = λ hit pair. subst (All (λ item. IsAtMost (gap_of item) hit.gap)) (sym (append-nil all)) (All-by (λ item. IsAtMost (gap_of item) hit.gap) all (λ item at.
            within_wanted o m laws (is_waiting lefts) old.held all hit (gap_of item) (is_wanted_first m lefts wait hit pair)
            (All-contains (λ taken. All (λ item. IsAtMost (gap_of taken) (gap_of item)) old.held) all item none.stands.tracks.nearer at) none.stands));
        inside = subst (All (λ item. within m.ceiling (gap_of item) ≡ true)) (sym (append-nil all)) inside;
      };
    }

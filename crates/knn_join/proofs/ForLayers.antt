-- For those who stand on a join with k partners: answered calls add up.
use Rattle.std.proofs.Common.{Option, None, Some, Ok, subst, Ordering}
use Rattle.sand_base.specs.declared.visit.Visit.{Visit}
use Rattle.best_first.specs.declared.hit.Hit.{Hit}
use Rattle.best_first.specs.declared.item.Item.{Item}
use Rattle.best_first.specs.Hierarchy.{Meaning}
use Rattle.best_first.specs.Visits.{SearchState, Makes, Goes}
use Rattle.knn_join.specs.PartnerCounts.{PartnerCounts}
use Rattle.knn_join.specs.Visits.{MakesPartnerVisits}

-- an answered call goes on with nothing attempted in vain, so that `goes_both` of `best_first` joins it to the calls before it
pub goes_from_partner : {N : Type 0} (cmp : N → N → Ordering) (m : Meaning N) (note : Item N → Visit) (counts : PartnerCounts) (old new : SearchState N) (row : Option Hit)
    → MakesPartnerVisits cmp m note counts old new (Ok row) → Goes cmp m note old new
goes_from_partner cmp m note counts old new None visits done h = let call = visits done h in subst (Makes cmp m note done old new) call.bounds.settled call.makes
goes_from_partner cmp m note counts old new (Some hit) visits done h = let call = visits done h in subst (Makes cmp m note done old new) call.bounds.settled call.makes

-- For those who stand on a search: answered calls add up, and the counts are those of the tree.
use Rattle.std.proofs.Common.{◌≡◌, min, length, List, Option, None, Some, Ok, ap, ◌∙◌, subst, Ordering}
use Rattle.std.proofs.lemmas.List.Sorted.{length_permutation}
use Rattle.exact_frac.specs.declared.frac.Frac.{Frac}
use Rattle.std.proofs.Common.{Bool}
use Rattle.sand_base.specs.Faults.{last_count}
use Rattle.sand_base.specs.declared.visit.Visit.{Visit}
use Rattle.best_first.specs.declared.hit.Hit.{Hit}
use Rattle.best_first.specs.declared.counts.Counts.{Counts}
use Rattle.best_first.specs.declared.item.Item.{Item}
use Rattle.best_first.specs.Item.{nodes_of}
use Rattle.best_first.specs.Hierarchy.{Meaning, nodes_within}
use Rattle.best_first.specs.Visits.{SearchState, Reached, IsCounted, Makes, MakesVisits, Goes}

-- an answered call goes on with nothing attempted in vain, so that `goes_both` joins it to the calls before it
pub goes_from_ok : {N : Type 0} (cmp : N → N → Ordering) (m : Meaning N) (note : Item N → Visit) (old new : SearchState N) (row : Option Hit)
    → MakesVisits cmp m note old new (Ok row) → Goes cmp m note old new
goes_from_ok cmp m note old new None visits done h = let call = visits done h in subst (Makes cmp m note done old new) call.bounds.settled call.makes
goes_from_ok cmp m note old new (Some hit) visits done h = let call = visits done h in subst (Makes cmp m note done old new) call.bounds.settled call.makes

-- the nodes that were opened are as many as those within the reach
pub visited_count : {N : Type 0} (cmp : N → N → Ordering) (m : Meaning N) (reach : Frac → Bool) (done : List (Item N)) → Reached cmp m reach done
    → length (nodes_of done) ≡ length (nodes_within m reach)
visited_count cmp m reach done h = length_permutation (nodes_within m reach) (nodes_of done) h.nodes

-- what `visited` gives is their number, up to the counter's greatest value
pub visited_is : {N : Type 0} (cmp : N → N → Ordering) (m : Meaning N) (reach : Frac → Bool) (done : List (Item N)) (counts : Counts) → Reached cmp m reach done
    → IsCounted done counts → counts.visited ≡ min (length (nodes_within m reach)) last_count
visited_is cmp m reach done counts h counted = counted.0 ∙ ap (λ n. min n last_count) (visited_count cmp m reach done h)

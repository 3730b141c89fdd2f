-- Calls one after another: their logs, their page gets and their counts add up.
use Rattle.std.proofs.Common.{◌≡◌, ℕ, ◌+◌, min, List, [], ◌∷◌, ◌++◌, length, map, All, Contains, sym, ap, ◌∙◌, subst, append-nil, append_assoc, length-append, arith, Ordering}
use Rattle.std.proofs.lemmas.List.{map-append}
use Rattle.std.proofs.lemmas.List.Elements.{All-append, All-nil}
use Rattle.std.proofs.lemmas.List.Sums.{sum_by-append}
use Rattle.sand_base.specs.Faults.{last_count}
use Rattle.sand_base.specs.declared.visit.Visit.{Visit}
use Rattle.page_pool.specs.Desk.{DeskState}
use Rattle.best_first.specs.declared.counts.Counts.{Counts}
use Rattle.best_first.specs.declared.item.Item.{Item}
use Rattle.best_first.specs.declared.item.Item.TheVariants.{Node, Rough}
use Rattle.exact_frac.specs.declared.frac.Frac.{Frac}
use Rattle.best_first.specs.Item.{gap_of, nodes_of, roughs_of}
use Rattle.best_first.specs.Reach.{IsAtMost}
use Rattle.best_first.specs.Hierarchy.{Meaning}
use Rattle.best_first.specs.Frontier.{Stands}
use Rattle.best_first.specs.Visits.{SearchState, Noted, RoseBy, IsCounted, IsVisit, Makes, Goes, Fails}
use Rattle.best_first.proofs.Bags.{All-left}
use Rattle.best_first.proofs.Pending.{nodes-append, roughs-append}

pub noted_none : {N : Type 0} (note : Item N → Visit) (price : Item N → ℕ) (desk : DeskState) → Noted note price [] desk desk
noted_none note price desk = record { log = sym (append-nil desk.visits); up = omega arith; most = omega arith }

pub noted_both : {N : Type 0} (note : Item N → Visit) (price : Item N → ℕ) (xs ys : List (Item N)) (old mid new : DeskState) → Noted note price xs old mid
    → Noted note price ys mid new → Noted note price (xs ++ ys) old new
noted_both note price xs ys old mid new p q = record {
  log = q.log ∙ ap (λ l. l ++ map note ys) p.log ∙ append_assoc old.visits (map note xs) (map note ys) ∙ ap (λ l. old.visits ++ l) (sym (map-append note xs ys));
  up = let first = p.up in let second = q.up in omega arith;
  most = let first = p.most in let second = q.most in let sum = sum_by-append price xs ys in omega arith;
}

pub rose_both : (k n : ℕ) (old mid new : DeskState) → RoseBy k old mid → RoseBy n mid new → RoseBy (k + n) old new
rose_both k n old mid new p q = omega arith

pub rose_none : (desk : DeskState) → RoseBy 0 desk desk
rose_none desk = omega arith

-- the lengths of what was taken, after more
lengths : {N : Type 0} (done more : List (Item N)) → (length (nodes_of (done ++ more)) ≡ length (nodes_of done) + length (nodes_of more))
    × (length (roughs_of (done ++ more)) ≡ length (roughs_of done) + length (roughs_of more))
lengths done more =
    (ap length (nodes-append done more) ∙ length-append (nodes_of done) (nodes_of more), ap length (roughs-append done more) ∙ length-append (roughs_of done) (roughs_of more))

-- the counts after one more node
pub counted_node : {N : Type 0} (done : List (Item N)) (gap : Frac) (node : N) (old new : Counts) → new.visited ≡ min (old.visited + 1) last_count
    → new.fetched ≡ old.fetched → IsCounted done old → IsCounted (done ++ Node gap node ∷ []) new
counted_node done gap node old new v f (visited, fetched) = let (nodes, roughs) = lengths done (Node gap node ∷ []) in (omega arith, omega arith)

-- the counts after one more rough object
pub counted_rough : {N : Type 0} (done : List (Item N)) (gap : Frac) (left right : ℕ) (old new : Counts) → new.visited ≡ old.visited
    → new.fetched ≡ min (old.fetched + 1) last_count → IsCounted done old → IsCounted (done ++ Rough gap left right ∷ []) new
counted_rough done gap left right old new v f (visited, fetched) = let (nodes, roughs) = lengths done (Rough gap left right ∷ []) in (omega arith, omega arith)

module _ {N : Type 0} {cmp : N → N → Ordering} (m : Meaning N) (note : Item N → Visit) where
  -- a call that takes nothing and leaves the search as it is
  pub stays : (state : SearchState N) → Goes cmp m note state state
  stays state done h = record {
    taken = [];
    noted = noted_none note m.price state.desk;
    rose = rose_none state.desk;
    stands = subst (Stands cmp m state.held state.last) (sym (append-nil done)) h;
    visits = All-nil IsVisit;
    tried = All-nil (Contains state.held);
    nearer = All-nil (λ item. All (λ other. IsAtMost (gap_of item) (gap_of other)) state.held);
    counted = λ c. subst (λ d. IsCounted d state.counts) (sym (append-nil done)) c;
  }

  -- what a second call makes, after a first one with nothing attempted in vain
  pub makes_both : (done : List (Item N)) (old mid new : SearchState N) (first : Makes cmp m note done old mid []) (attempt : List (Item N))
      → Makes cmp m note (done ++ first.taken) mid new attempt → Makes cmp m note done old new attempt
  makes_both done old mid new first attempt second =
      let regroup = append_assoc done first.taken second.taken in
      record {
        taken = first.taken ++ second.taken;
        noted = subst (λ l. Noted note m.price l old.desk new.desk) (ap (λ l. l ++ (second.taken ++ attempt)) (append-nil first.taken)
            ∙ sym (append_assoc first.taken second.taken attempt)) (noted_both note m.price (first.taken ++ []) (second.taken ++ attempt) old.desk mid.desk new.desk first.noted second.noted);
        rose = subst (λ n. RoseBy n old.desk new.desk) (sym (ap length (nodes-append first.taken second.taken) ∙ length-append (nodes_of first.taken) (nodes_of second.taken)))
            (rose_both (length (nodes_of first.taken)) (length (nodes_of second.taken)) old.desk mid.desk new.desk first.rose second.rose);
        stands = subst (Stands cmp m new.held new.last) regroup second.stands;
        visits = subst (All IsVisit) (sym (append_assoc first.taken second.taken attempt))
            (All-append IsVisit first.taken (second.taken ++ attempt) (All-left IsVisit first.taken [] first.visits) second.visits);
        tried = second.tried;
        nearer = second.nearer;
        counted = λ c. subst (λ d. IsCounted d new.counts) regroup (second.counted (first.counted c));
      }

  pub goes_both : (old mid new : SearchState N) → Goes cmp m note old mid → Goes cmp m note mid new → Goes cmp m note old new
  goes_both old mid new p q done h = let first = p done h in makes_both done old mid new first [] (q (done ++ first.taken) first.stands)

  pub goes_fails : (old mid new : SearchState N) → Goes cmp m note old mid → Fails cmp m note mid new → Fails cmp m note old new
  goes_fails old mid new p q done h =
      let first = p done h in
      let second = q (done ++ first.taken) first.stands in
      record { attempt = second.attempt; makes = makes_both done old mid new first second.attempt second.makes; few = second.few }

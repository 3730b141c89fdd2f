-- Counts of visits add up: those of lists that stand one behind the other, and none.
use Rattle.std.proofs.Common.{◌≡◌, List, [], ◌∷◌, ◌++◌, sym, ap, ◌∙◌, arith}
use Rattle.sand_base.specs.declared.visit.Visit.{Visit}
use Rattle.sand_model.specs.Reach.{Counts, no_counts}
use Rattle.plan_iterator.specs.Visited.{◌plus◌, count_of, visit_counts}
use Rattle.plan_iterator.proofs.CountedVisits.{counts_one}

-- nothing added
pub plus_none : (c : Counts) → c plus no_counts ≡ c
plus_none c = counts_one (c plus no_counts) c (omega arith) (omega arith) (omega arith)

pub none_plus : (c : Counts) → no_counts plus c ≡ c
none_plus c = counts_one (no_counts plus c) c (omega arith) (omega arith) (omega arith)

-- one sum after another
pub plus_assoc : (a b c : Counts) → (a plus b) plus c ≡ a plus (b plus c)
plus_assoc a b c = counts_one ((a plus b) plus c) (a plus (b plus c)) (omega arith) (omega arith) (omega arith)

-- the counts of two lists
pub counts_append : (xs ys : List Visit) → visit_counts (xs ++ ys) ≡ visit_counts xs plus visit_counts ys
counts_append [] ys = sym (none_plus (visit_counts ys))
counts_append (x ∷ xs) ys =
    ap (λ (c : Counts). count_of x plus c) (counts_append xs ys) ∙ sym (plus_assoc (count_of x) (visit_counts xs) (visit_counts ys))

-- visits behind others
pub counts_behind : (before mid now : Counts) (xs ys : List Visit) → mid ≡ before plus visit_counts xs → now ≡ mid plus visit_counts ys
    → now ≡ before plus visit_counts (xs ++ ys)
counts_behind before mid now xs ys first second =
    second ∙ ap (λ (c : Counts). c plus visit_counts ys) first ∙ plus_assoc before (visit_counts xs) (visit_counts ys)
    ∙ ap (λ (c : Counts). before plus c) (sym (counts_append xs ys))

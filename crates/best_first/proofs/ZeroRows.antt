-- Where rows alone are queued: the row of the least id is given, and all that is left comes strictly after it.
use Rattle.std.proofs.Common.{◌≡◌, ℕ, ◌<◌, List, [], ◌∷◌, ◌++◌, map, All, IsPermutation, refl, sym, ap, ◌∙◌, subst, Ordering, Less, Equal}
use Rattle.std.specs.Cmp.{nat_cmp_is}
use Rattle.std.specs.Ordering.{is_gt}
use Rattle.std.proofs.lemmas.List.Elements.{All-map, All-weaker, All-cons}
use Rattle.std.proofs.lemmas.List.Sorted.{IsPermutation-map, IsPermutation-sym, All-permutation, Contains-permutation}
use Rattle.rank_queue.specs.Least.{AtMost}
use Rattle.exact_frac.specs.declared.frac.Frac.{Frac}
use Rattle.best_first.specs.declared.hit.Hit.{Hit}
use Rattle.best_first.specs.declared.item.Item.{Item}
use Rattle.best_first.specs.Order.{item_cmp}
use Rattle.best_first.specs.Inside.{GivesRow}
use Rattle.best_first.specs.RowsAtZero.{zero_gap, row_at_zero, rows_in_order}
use Rattle.best_first.proofs.Bags.{here, All-one}
use Rattle.best_first.proofs.FracParts.{frac_one}
use Rattle.best_first.specs.ZeroItems.{ZeroItems, node_at_zero, rough_at_zero, items_of, AreRows, GivesId}

-- ---- rows alone

-- where rows alone are queued, they are all the items
pub items_rows : {N : Type 0} (q : ZeroItems N) → AreRows q → items_of q ≡ map row_at_zero q.rows
items_rows q (nodes, roughs) =
    ap (λ l. map node_at_zero l ++ (map rough_at_zero q.roughs ++ map row_at_zero q.rows)) nodes
    ∙ ap (λ l. map rough_at_zero l ++ map row_at_zero q.rows) roughs

-- ---- the row of the least id

row_after : {N : Type 0} (cmp : N → N → Ordering) (m n : ℕ) → m < n → item_cmp cmp (row_at_zero m) (row_at_zero n) ≡ Less
row_after cmp m n h = rows_in_order cmp m n ∙ sym (nat_cmp_is m n Less h)

row_itself : {N : Type 0} (cmp : N → N → Ordering) (n : ℕ) → item_cmp cmp (row_at_zero n) (row_at_zero n) ≡ Equal
row_itself cmp n = rows_in_order cmp n n ∙ sym (nat_cmp_is n n Equal refl)

rows_after : {N : Type 0} (cmp : N → N → Ordering) (id : ℕ) (ids : List ℕ) → All (λ other. id < other) ids → All (λ item. item_cmp cmp (row_at_zero id) item ≡ Less) (map row_at_zero ids)
rows_after {N} cmp id ids h =
    All-map (λ (item : Item N). item_cmp cmp (row_at_zero id) item ≡ Less) row_at_zero ids
    (All-weaker (λ other. id < other) (λ other. item_cmp cmp (row_at_zero {N = N} id) (row_at_zero other) ≡ Less) (row_after cmp id) ids h)

-- the row of this id at the distance 0, as it is given
abbrev pub zero_hit : ℕ → Hit
zero_hit id = record { gap = zero_gap; left = id; right = 0 }

given_zero : {N : Type 0} (cmp : N → N → Ordering) (id : ℕ) (old new : ZeroItems N) → AreRows old → GivesId id old new → GivesRow (item_cmp cmp) (zero_hit id) (items_of old) (items_of new)
given_zero {N} cmp id old new (nodes, roughs) gives =
    let row : Item N = row_at_zero id in
    let before = items_rows old (nodes, roughs) in
    let after = items_rows new (gives.nodes ∙ nodes, gives.roughs ∙ roughs) in
    let taken : IsPermutation (map row_at_zero old.rows) (row ∷ map row_at_zero new.rows) = IsPermutation-map row_at_zero old.rows (id ∷ new.rows) gives.rows.0 in
    let split : IsPermutation (items_of old) (row ∷ items_of new) =
    subst (λ l. IsPermutation l (row ∷ items_of new)) (sym before)
    (subst (λ l. IsPermutation (map row_at_zero old.rows) (row ∷ l)) (sym after) taken) in
    let later : All (λ item. item_cmp cmp row item ≡ Less) (items_of new) =
    subst (All (λ item. item_cmp cmp row item ≡ Less)) (sym after) (rows_after cmp id new.rows gives.rows.1) in
    let back : IsPermutation (row ∷ items_of new) (items_of old) = IsPermutation-sym (items_of old) (row ∷ items_of new) split in
    record {
      front = record {
        queued = Contains-permutation (row ∷ items_of new) (items_of old) row back (here row (items_of new));
        least =
            All-permutation (AtMost (item_cmp cmp) row) (row ∷ items_of new) (items_of old) back
            (All-cons (AtMost (item_cmp cmp) row) row (items_of new) (ap is_gt (row_itself cmp id))
            (All-weaker (λ item. item_cmp cmp row item ≡ Less) (AtMost (item_cmp cmp) row) (λ item e. ap is_gt e) (items_of new) later));
      };
      taken = record { first = row; more = []; split = split; equal = All-one (λ item. item_cmp cmp row item ≡ Equal) row (row_itself cmp id); after = later };
    }

-- the row of the least id is given, under a gap of the parts 0 and 1
pub given_row : {N : Type 0} (cmp : N → N → Ordering) (id : ℕ) (gap : Frac) (old new : ZeroItems N) → gap.num ≡ 0 → gap.den ≡ 1 → AreRows old → GivesId id old new
    → GivesRow (item_cmp cmp) (record { gap = gap; left = id; right = 0 }) (items_of old) (items_of new)
given_row cmp id gap old new num den rows gives =
    subst (λ g. GivesRow (item_cmp cmp) (record { gap = g; left = id; right = 0 }) (items_of old) (items_of new)) (sym (frac_one gap zero_gap num den))
    (given_zero cmp id old new rows gives)

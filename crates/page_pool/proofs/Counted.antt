-- The pages in a table are as many as their numbers.
use Rattle.std.proofs.Common.{◌≡◌, ℕ, suc, ◌+◌, ◌-◌, List, [], ◌∷◌, false, cond, sym, ap, ◌∙◌, Option, Some, None, count_by, arith}
use Rattle.std.specs.Ordering.{nat_cmp}
use Rattle.std.specs.Cmp.{nat_cmp_total}
use Rattle.std.specs.FinMap as map
use Rattle.std.specs.FinSet as set
use Rattle.std.proofs.lemmas.List.Sums.{sum_by-cons}
use Rattle.page_pool.specs.Inside.{written, dirty_of, entries_from, items_in, is_page}
use Rattle.page_pool.proofs.Places.{below}
use Rattle.page_pool.proofs.Overlay.{same_set, contains-written, contains-dirty}

-- one for a page, and nothing else
abbrev one : Option (Option (List ℕ)) → ℕ
one place = cond (is_page place) 1 0

-- a number below those of the table is none of them
absent : (n : ℕ) (places : List (Option (Option (List ℕ)))) → set.contains (written (entries_from (suc n) places)) n ≡ false
absent n places = contains-written (entries_from (suc n) places) n ∙ ap is_page (below (suc n) n places (omega arith))

as_many : (n : ℕ) (places : List (Option (Option (List ℕ)))) → set.len (written (entries_from n places)) ≡ count_by is_page places
as_many n [] = set.len-empty nat_cmp
as_many n (None ∷ places) =
    let rest = as_many (suc n) places in let more : count_by is_page (None ∷ places) ≡ 0 + count_by is_page places = sum_by-cons one None places in omega arith
as_many n (Some None ∷ places) =
    let rest = as_many (suc n) places in
    let others = written (entries_from (suc n) places) in
    let size : set.len (set.remove others n) ≡ set.len others = set.len-remove nat_cmp_total others n ∙ ap (λ b. cond b (set.len others - 1) (set.len others)) (absent n places) in
    let more : count_by is_page (Some None ∷ places) ≡ 0 + count_by is_page places = sum_by-cons one (Some None) places in omega arith
as_many n (Some (Some page) ∷ places) =
    let rest = as_many (suc n) places in
    let others = written (entries_from (suc n) places) in
    let size : set.len (set.insert others n) ≡ set.len others + 1 = set.len-insert nat_cmp_total others n ∙ ap (λ b. cond b (set.len others) (set.len others + 1)) (absent n places) in
    let more : count_by is_page (Some (Some page) ∷ places) ≡ 1 + count_by is_page places = sum_by-cons one (Some (Some page)) places in omega arith

pub counted : (places : List (Option (Option (List ℕ)))) → count_by is_page places ≡ set.len (dirty_of (items_in places))
unfolding items_in
counted places =
    let as_list : dirty_of (items_in places) ≡ written (entries_from 0 places) = same_set _ _ (λ q.
    contains-dirty (items_in places) q ∙ ap is_page (map.get-from_entries nat_cmp_total (entries_from 0 places) q) ∙ sym (contains-written (entries_from 0 places) q)) in
    sym (ap set.len as_list ∙ as_many 0 places)

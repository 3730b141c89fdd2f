-- What is noted of a map: some of its items.
use Rattle.std.proofs.Common.{◌≡◌, ℕ, false, sym, ap, ◌∙◌, Some, is_some, ◌⊎◌, inl, inr}
use mathlib.Core.Bool.{true≢false}
use Rattle.std.specs.Ordering.{nat_cmp}
use Rattle.std.specs.FinMap as map
use Rattle.page_pool.proofs.Maps.{get-insert_same, get-insert_other, get-remove_same, get-remove_other, found-remove}

-- it is of the map still when one more item comes in, noted or not
pub noted_more : {X : Type 0} (noted more m : map.FinMap nat_cmp X) (k : ℕ) (item : X) → map.contains_key m k ≡ false → ((q : ℕ) (v : X) → map.get noted q ≡ Some v → map.get m q ≡ Some v)
    → ((q : ℕ) (v : X) → map.get more q ≡ Some v → ((q ≡ k) × (v ≡ item)) ⊎ (map.get noted q ≡ Some v)) → (q : ℕ) (v : X) → map.get more q ≡ Some v → map.get (map.insert m k item) q ≡ Some v
noted_more noted more m k item free part added q v there = by_one (added q v there)
  where
    by_one : ((q ≡ k) × (v ≡ item)) ⊎ (map.get noted q ≡ Some v) → map.get (map.insert m k item) q ≡ Some v
    by_one (inl (here, is)) = ap (map.get (map.insert m k item)) here ∙ get-insert_same m k item ∙ ap (λ x. Some x) (sym is)
    by_one (inr before) = get-insert_other m k item q (λ here. true≢false (sym (ap is_some (sym (ap (map.get m) here) ∙ part q v before)) ∙ free)) ∙ part q v before

-- and when an item is taken out of both
pub noted_less : {X : Type 0} (noted m : map.FinMap nat_cmp X) (k : ℕ) → ((q : ℕ) (v : X) → map.get noted q ≡ Some v → map.get m q ≡ Some v)
    → (q : ℕ) (v : X) → map.get (map.remove noted k) q ≡ Some v → map.get (map.remove m k) q ≡ Some v
noted_less noted m k part q v there =
    get-remove_other m k q (λ here. true≢false (sym (ap is_some there) ∙ ap is_some (ap (map.get (map.remove noted k)) here ∙ get-remove_same noted k))) ∙ part q v (found-remove noted k q v there)

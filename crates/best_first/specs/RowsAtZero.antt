-- Rows at gap 0 of a hierarchy with single objects: each is known by its left id alone.
use Rattle.std.specs.Prelude.{◌≡◌, ℕ, refl}
use Rattle.std.specs.Ordering.{nat_cmp, ordering_then}
use Rattle.std.specs.declared.cmp.Ordering.{Ordering}
use Rattle.std.specs.declared.cmp.Ordering.TheVariants.{Less, Equal, Greater}
use Rattle.std.proofs.lemmas.Bool.{leb-true}
use Rattle.exact_frac.specs.declared.TheConstants.{MAX_NUM, MAX_DEN}
use Rattle.exact_frac.specs.declared.frac.Frac.{Frac}
use Rattle.best_first.specs.declared.item.Item.{Item}
use Rattle.best_first.specs.declared.item.Item.TheVariants.{Row}
use Rattle.best_first.specs.Order.{item_cmp}

-- the fraction 0/1
abbrev pub zero_gap : Frac
zero_gap = record {
  num = 0;
  den = 1;
  small = leb-true 0 MAX_NUM refl;
  positive = leb-true 1 1 refl;
  fits = leb-true 1 MAX_DEN refl;
}

-- the row of this left id at gap 0, with no right id
abbrev pub row_at_zero : {N : Type 0} → ℕ → Item N
row_at_zero id = Row zero_gap id 0

-- an answer stays where what follows is tied
last_tied : (r : Ordering) → ordering_then r Equal ≡ r
last_tied Less = refl
last_tied Equal = refl
last_tied Greater = refl

-- these rows stand in the order of their ids
pub rows_in_order : {N : Type 0} (cmp : N → N → Ordering) (m n : ℕ) → item_cmp cmp (row_at_zero m) (row_at_zero n) ≡ nat_cmp m n
rows_in_order cmp m n = last_tied (nat_cmp m n)

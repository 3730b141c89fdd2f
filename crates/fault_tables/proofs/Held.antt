-- Which stamps are held after one is taken, and after one is let go.
use Rattle.std.proofs.Common.{◌≡◌, ℕ, true, false, refl, sym, ap, ◌∙◌, is_some, Bool, cond}
use Rattle.std.specs.FinMap as map
use Rattle.std.specs.Ordering.{nat_cmp, eq_by_cmp}
use Rattle.std.proofs.lemmas.Bool.{false≢true}
use Rattle.page_pool.specs.Pool.{PoolState, shown_of}
use Rattle.page_pool.specs.Stamps.{KeepsMap, LetsMapGo}
use Rattle.page_pool.proofs.Maps.{get-insert, get-insert_same, get-remove_other, some_or}
use Rattle.fault_tables.specs.Holding.{HoldsOtherStamps, TakesStamp}

-- a choice of which one side is true is true
either : (b c : Bool) → c ≡ true → cond b true c ≡ true
either true c h = refl
either false c h = h

-- a map that is kept is held under its stamp, beside those that were held
pub taken : (a b : PoolState) (stamp : ℕ) → KeepsMap a b stamp → TakesStamp a b stamp
taken a b stamp h = record {
  held = ap (λ s. map.contains_key s.stamps stamp) h.after ∙ ap is_some (get-insert_same a.stamps stamp (shown_of a));
  still = λ id was. ap (λ s. map.contains_key s.stamps id) h.after ∙ ap is_some (get-insert a.stamps stamp (shown_of a) id)
      ∙ some_or (eq_by_cmp nat_cmp id stamp) (shown_of a) (map.get a.stamps id) ∙ either (eq_by_cmp nat_cmp id stamp) (map.contains_key a.stamps id) was;
  fresh = λ id was is. false≢true (sym (ap is_some h.fresh) ∙ ap (map.contains_key a.stamps) (sym is) ∙ was);
}

-- a stamp that is let go leaves the others held
pub others : (a b : PoolState) (stamp : ℕ) → LetsMapGo a b stamp → HoldsOtherStamps a b stamp
others a b stamp h id apart was = ap (λ s. map.contains_key s.stamps id) h.after ∙ ap is_some (get-remove_other a.stamps stamp id apart) ∙ was

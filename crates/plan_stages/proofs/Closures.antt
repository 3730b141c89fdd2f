-- A stable sort by a closure that gives the key of an element is unique.
use Rattle.std.proofs.Common.{◌≡◌, List, Ordering, Bor}
use denote.Param.Members.{Mut}
use Rattle.std.specs.Cmp.{IsTotalOrder}
use Rattle.std.specs.Fn.{Called, ComputesKey}
use Rattle.std.specs.List.Sorted.{IsSortedByKey, IsStableByKey}
use Rattle.std.proofs.lemmas.Fn.{always_returns_same}
use Rattle.std.proofs.lemmas.List.MinMax.{ranks_by}
use Rattle.sand_model.specs.Sources.{sorted}
use Rattle.plan_stages.proofs.StableSort.{stable_sort}

pub sort_by_closure : {F X K : Type 0} {g : Mut F (Bor X × Unit {0}) K} {f : F} (cmp : K → K → Ordering) (key : X → K) (xs ys : List X) → IsTotalOrder cmp
    → ((k : X → K) → ComputesKey g k f → IsSortedByKey k cmp ys) → ((k : X → K) → ComputesKey g k f → IsStableByKey k cmp xs ys)
    → ((a : Bor X × Unit {0}) (r : K) (f' : F) → Called g f a r f' → (r ≡ key a.0.now) × (f' ≡ f)) → ys ≡ sorted (λ x y. cmp (key x) (key y)) xs
sort_by_closure {g = g} {f = f} cmp key xs ys total up stable gives =
    let computes = always_returns_same g (λ a r. r ≡ key a.0.now) f gives in
    stable_sort (λ x y. cmp (key x) (key y)) (ranks_by total key) xs ys (up key computes) (stable key computes)

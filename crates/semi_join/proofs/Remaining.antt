-- The ids that wait: one leaves, and the others stay.
use Rattle.std.proofs.Common.{◌≡◌, suc, List, [], ◌∷◌, length, Contains, ◌⊎◌, inl, inr, ⊎_elim, refl, sym, ap, subst, ◌∙◌}
use Rattle.best_first.proofs.Bags.{here, there, cons_cases, none}

-- One element left the list, where it stood once at least.
pub record Drops {X : Type 0} (x : X) (xs : List X) : Type 0 where
  pub rest : List X
  pub count : length xs ≡ suc (length rest)
  pub few : (y : X) → Contains rest y → Contains xs y
  pub cases : (y : X) → Contains xs y → (y ≡ x) ⊎ Contains rest y

pub dropped : {X : Type 0} (x : X) (xs : List X) → Contains xs x → Drops x xs
dropped x [] h = absurd (none x h)
dropped x (y ∷ ys) h =
    ⊎_elim
    (λ e. record {
      rest = ys;
      count = refl;
      few = λ z at. there y ys z at;
      cases = λ z at. ⊎_elim (λ is. inl (sym is ∙ e)) inr (cons_cases y ys z at);
    })
    (λ t.
    let d = dropped x ys t in
    record {
      rest = y ∷ d.rest;
      count = ap suc d.count;
      few = λ z at. ⊎_elim (λ is. subst (Contains (y ∷ ys)) is (here y ys)) (λ i. there y ys z (d.few z i)) (cons_cases y d.rest z at);
      cases = λ z at. ⊎_elim (λ is. inr (subst (Contains (y ∷ d.rest)) is (here y d.rest))) (λ i. ⊎_elim inl (λ c. inr (there y d.rest z c)) (d.cases z i)) (cons_cases y ys z at);
    })
    (cons_cases y ys x h)

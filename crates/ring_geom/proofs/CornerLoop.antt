-- The loop of `holds_any`: what is left of a list decides whether some term has a property.
use Rattle.std.proofs.Common.{◌⊎◌, inl, inr, ℕ, suc, ◌+◌, ◌<◌, ◌≤◌, List, length, get_or, drop, drop-cons, subst}
use Rattle.std.specs.Prelude.{◌↔◌}
use Rattle.std.proofs.lemmas.List.{drop_all}
use Rattle.std.proofs.Math.Numerals.{add-one}
use Rattle.sand_model.specs.Rings.{SomeOf}

module _ {A : Type 0} (P : A → Type 0) where
  -- the term at hand has the property
  pub found : (xs : List A) (i : ℕ) (d : A) → SomeOf P xs ↔ SomeOf P (drop i xs) → i < length xs → P (get_or xs i d) → SomeOf P xs
  found xs i d h l p = h.1 (rw (drop-cons xs i d) (inl p))

  -- it hasn't, and the others decide
  pub passed : (xs : List A) (i : ℕ) (d : A) → SomeOf P xs ↔ SomeOf P (drop i xs) → i < length xs → ¬ P (get_or xs i d)
      → SomeOf P xs ↔ SomeOf P (drop (i + 1) xs)
  passed xs i d h l fails =
      let k : SomeOf P xs ↔ (P (get_or xs i d) ⊎ SomeOf P (drop (suc i) xs)) = subst (λ (ys : List A). SomeOf P xs ↔ SomeOf P ys) (drop-cons xs i d l) h in
      rw (add-one i) (
        λ s. elim (k.0 s) [ inl p ↦ absurd (fails p) | inr more ↦ more ],
        λ more. k.1 (inr more),
      )

  -- none is left
  pub finished : (xs : List A) (i : ℕ) → SomeOf P xs ↔ SomeOf P (drop i xs) → length xs ≤ i → ¬ SomeOf P xs
  finished xs i h l s = subst (λ (ys : List A). SomeOf P ys) (drop_all i xs l) (h.0 s)

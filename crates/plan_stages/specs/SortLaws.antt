-- Laws of sorts, with their proofs.
use Rattle.std.proofs.Common.{◌≡◌, ◌⊎◌, inl, inr, ℕ, ◌<◌, ◌≤◌, Bool, true, false, List, [], ◌∷◌, ◌++◌, length, map, Option, Some, None, refl, sym, ap, subst, arith, ◌∙◌}
use Rattle.std.proofs.lemmas.List.{append-nil, length-append}
use Rattle.sand_base.specs.declared.shape.Shape.{Shape}
use Rattle.sand_model.specs.Database.{Database}
use Rattle.sand_model.specs.Operators.{PlanRow}
use Rattle.statements.specs.Plan as plan
use Rattle.statements.specs.Plan.{Plan}
use Rattle.statements.specs.declared.column.Place.{Place}
use Rattle.plan_iterator.specs.declared.answer.Answer.{Answer}
use Rattle.plan_stages.specs.declared.keyed.Keyed.{Keyed}
use Rattle.plan_iterator.specs.Outermost.{is_source, made, beneath, BeginsRows}
use Rattle.plan_iterator.proofs.Levels.{begins_length}
use Rattle.plan_stages.specs.Sorting.{Sorts, sort_waits, sort_steps}

-- a sort is no source

-- a sort by a column is no source
pub by_outermost : (below : Plan) (place : Place) {p : Plan} → p ≡ plan.SortBy below place → is_source p ≡ false
by_outermost below place is = ap is_source is

-- a sort by nearness is no source
pub near_outermost : (below : Plan) (place : Place) (goal : Shape) {p : Plan} → p ≡ plan.SortNear below place goal → is_source p ≡ false
near_outermost below place goal is = ap is_source is

-- a list that begins one which begins it is that one
begins_both : (xs ys : List PlanRow) → BeginsRows xs ys → BeginsRows ys xs → ys ≡ xs
begins_both xs ys b c = ends b.rest b.split (begins_length ys xs c)
  where
    none_left : (rest : List PlanRow) → length (xs ++ rest) ≤ length xs → rest ≡ []
    none_left [] h = refl
    none_left (r ∷ rest) h = absurd (omega (arith, h, length-append xs (r ∷ rest)))

    ends : (rest : List PlanRow) → ys ≡ xs ++ rest → length ys ≤ length xs → ys ≡ xs
    ends rest is h =
        is ∙ (ap (λ more. xs ++ more) (none_left rest (subst (λ zs. length zs ≤ length xs) is h)) ∙ append-nil xs)

module _ {K : Type 0} (closed : Bool) (HasKey : Keyed K → Type 0) (row : Keyed K → PlanRow) (d : Database) (p : Plan) (held : Option Answer) (kept : List (Keyed K)) (taken given : List PlanRow) where
  -- what was given begins all that is made of all rows

  pub front_of : (all : List PlanRow) → Sorts closed HasKey row d p held kept taken given → BeginsRows taken all → BeginsRows all (beneath d p) → BeginsRows given (made d p all)
  front_of all = by_end closed
    where
      by_end : (b : Bool) → Sorts b HasKey row d p held kept taken given → BeginsRows taken all → BeginsRows all (beneath d p) → BeginsRows given (made d p all)
      by_end false s begins whole = subst (λ front. BeginsRows front (made d p all)) (sym s.unbegun) (record { rest = made d p all; split = refl })
      by_end true s begins whole =
          let is : all ≡ taken = begins_both taken all begins (subst (λ rows. BeginsRows all rows) (sym s.whole) whole) in
          record { rest = map row kept; split = ap (made d p) is ∙ s.split }

  -- before the end nothing was given
  pub late_of : Sorts closed HasKey row d p held kept taken given → (given ≡ []) ⊎ (closed ≡ true)
  late_of = by_end closed
    where
      by_end : (b : Bool) → Sorts b HasKey row d p held kept taken given → (given ≡ []) ⊎ (b ≡ true)
      by_end false s = inl s.unbegun
      by_end true s = inr refl

-- after the end it has work
pub closed_waits_of : (held : Option Answer) (closed : Bool) → closed ≡ true → sort_waits held closed ≡ true
closed_waits_of (Some a) closed e = refl
closed_waits_of None closed e = e

-- three steps for each row
pub rises_of : {K : Type 0} (held : Option Answer) (kept : List (Keyed K)) (closed : Bool) (m n : ℕ) → m < n → sort_steps held kept closed m < sort_steps held kept closed n
rises_of held kept closed m n h = omega arith

-- What the next row of a plan needs of its source.
use Rattle.std.proofs.Common.{◌≡◌, ◌⊎◌, inl, inr, ℕ, ◌+◌, ◌<◌, ◌≤◌, Bool, true, false, cond, nat_lt, true≢false, length, take, refl}
use Rattle.std.proofs.Common.{sym, ap, ◌∙◌, subst, arith, le_trans}
use Rattle.sand_model.specs.Answer.{source}
use Rattle.sand_model.specs.Database.{Database}
use Rattle.sand_model.specs.Measure.{Measure}
use Rattle.sand_model.specs.Operators.{over}
use Rattle.statements.specs.Plan.{Plan}
use Rattle.sand_model.specs.Taken.{Taken, is_full, is_lazy, spent, beneath_sort, has_taken}
use Rattle.plan_iterator.specs.Needed.{IsNeeded, WasAsked}
use Rattle.plan_iterator.specs.SourceSteps.{nothing_taken}
use Rattle.plan_iterator.proofs.SortedPlans.{lazy_given, sort_given, ended_taken, source_beneath}
use Rattle.plan_iterator.proofs.TakenRows.{taken_is, spent_full, spent_all}

-- the source need not be asked any more: a `first n` beneath the innermost sort is full, or it came to its end
abbrev pub IsSpent : Measure → Database → Plan → Taken → Type 0
IsSpent gap d p t = (is_full gap d (beneath_sort p) (take t.rows (source gap d p)) ≡ true) ⊎ (t.is_ended ≡ true)

module _ (gap : Measure) (d : Database) (p : Plan) where
  -- at first
  pub needed_none : (given : ℕ) → IsNeeded gap d p given nothing_taken
  needed_none given = record {
    within = omega arith;
    ended = λ h. absurd (true≢false (sym h));
    asks = λ k h. absurd (never k h);
    few = λ lazy k h. absurd (never k h);
  }
    where
      never : (k : ℕ) → WasAsked nothing_taken k → ⊥
      never k h = elim h [ inl below ↦ omega arith | inr last ↦ true≢false (sym last.0) ]

  -- after more rows were given
  pub needed_given : (given more : ℕ) (t : Taken) → given ≤ more → IsNeeded gap d p given t → IsNeeded gap d p more t
  needed_given given more t h needed = record {
    within = needed.within;
    ended = needed.ended;
    asks = needed.asks;
    few = λ lazy k asked. le_trans (needed.few lazy k asked) h;
  }

  -- the plan beneath the innermost sort has spent what was taken, where the source need not be asked any more
  pub spent_is : (given : ℕ) (t : Taken) → IsNeeded gap d p given t → IsSpent gap d p t → spent gap d (beneath_sort p) ≡ t
  spent_is given t needed spent_it =
      let same : source gap d p ≡ source gap d (beneath_sort p) = sym (source_beneath gap d p) in
      let asks : (k : ℕ) → WasAsked t k → is_full gap d (beneath_sort p) (take k (source gap d (beneath_sort p))) ≡ false =
      λ k h. subst (λ rows. is_full gap d (beneath_sort p) (take k rows) ≡ false) same (needed.asks k h) in
      elim spent_it [
        | inl full ↦
            open_end full (t.is_ended) refl
            (spent_full gap d (beneath_sort p) t.rows (subst (λ rows. t.rows ≤ length rows) same needed.within) (λ k h. asks k (inl h))
            (subst (λ rows. is_full gap d (beneath_sort p) (take t.rows rows) ≡ true) same full))
        | inr end ↦
            let last : t.rows ≡ length (source gap d (beneath_sort p)) = needed.ended end ∙ ap length same in
            spent_all gap d (beneath_sort p) (λ k h. asks k (inl (subst (λ n. k < n) (sym last) h)))
            (ap (λ n. is_full gap d (beneath_sort p) (take n (source gap d (beneath_sort p)))) (sym last) ∙ asks t.rows (inr (end, refl)))
            ∙ taken_one last end
      ]
    where
      open_end : is_full gap d (beneath_sort p) (take t.rows (source gap d p)) ≡ true → (b : Bool) → t.is_ended ≡ b
          → spent gap d (beneath_sort p) ≡ record { rows = t.rows; is_ended = false } → spent gap d (beneath_sort p) ≡ t
      open_end full true e is = absurd (true≢false (sym full ∙ needed.asks t.rows (inr (e, refl))))
      open_end full false e is = is ∙ ap (λ b. record { rows = t.rows; is_ended = b }) (sym e)

      taken_one : {n : ℕ} → t.rows ≡ n → t.is_ended ≡ true → ◌≡◌ {A = Taken} (record { rows = n; is_ended = true }) t
      taken_one m e = λ i. record { rows = sym m i; is_ended = sym e i }

  -- a row was given: what was taken is what the model says
  pub row_taken : (given : ℕ) (t : Taken) → IsNeeded gap d p given t → is_lazy p ≡ true → given + 1 ≤ length (over gap d p (take t.rows (source gap d p)))
      → has_taken gap d p (given + 1) false ≡ t
  row_taken given t needed lazy enough =
      lazy_given gap d p lazy (given + 1)
      ∙ ap (λ n. record { rows = n; is_ended = false }) (taken_is gap d p t.rows given needed.within enough (λ k h. needed.few lazy k (inl h)))
      ∙ not_ended t.is_ended refl
    where
      not_ended : (b : Bool) → t.is_ended ≡ b → ◌≡◌ {A = Taken} (record { rows = t.rows; is_ended = false }) t
      not_ended true e = let few = needed.few lazy t.rows (inr (e, refl)) in absurd (omega (arith, few, enough))
      not_ended false e = ap (λ b. record { rows = t.rows; is_ended = b }) (sym e)

  -- a plan with a sort has given a row
  pub sort_taken : (given : ℕ) (t : Taken) → IsNeeded gap d p given t → is_lazy p ≡ false → IsSpent gap d p t → (rows : ℕ) → has_taken gap d p (rows + 1) false ≡ t
  sort_taken given t needed sorts spent_it rows = sort_given gap d p sorts rows ∙ spent_is given t needed spent_it

  -- the end was given
  pub end_taken : (given : ℕ) (t : Taken) → IsNeeded gap d p given t → IsSpent gap d p t → (rows : ℕ) → has_taken gap d p rows true ≡ t
  end_taken given t needed spent_it rows = ended_taken gap d p rows ∙ spent_is given t needed spent_it

-- what the source gives next, of so many rows
abbrev pub next_of : ℕ → ℕ → Taken
next_of n long = cond (nat_lt n long) (record { rows = n + 1; is_ended = false }) (record { rows = n; is_ended = true })

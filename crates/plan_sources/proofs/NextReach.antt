-- The reach of a source when one more row was taken, or its end: that row's gap, or the ceiling.
use Rattle.std.proofs.Common.{◌≡◌, ℕ, zero, suc, ◌+◌, ◌<◌, ◌≤◌, true, false, cond, not, ◌&&◌, List, [], ◌∷◌, map, length, take, Option, None, Some, sym, ap, ◌∙◌, subst}
use Rattle.std.proofs.Math.Numerals.{add-one}
use Rattle.std.proofs.lemmas.Bool.{lt-ltb, le-ltb}
use Rattle.std.proofs.lemmas.List.{length-map}
use Rattle.sand_model.specs.Answer.{source}
use Rattle.sand_model.specs.Database.{Database, element}
use Rattle.sand_model.specs.Operators.{PlanRow}
use Rattle.statements.specs.Plan.{Plan}
use Rattle.sand_model.specs.Reach.{UpTo, Ceiling, reach, reach_of_last, is_saturated, innermost, ceiling_of}
use Rattle.sand_model.specs.Sources.{Found}
use Rattle.sand_model.specs.Taken.{Taken}
use Rattle.rank_cursor.proofs.Elements.{some_is}
use Rattle.rank_cursor.proofs.SortedRows.{at_below}
use Rattle.plan_iterator.specs.Rows.{plan_measure}
use Rattle.plan_iterator.specs.SourceSteps.{next_taken}
use Rattle.plan_sources.proofs.HowFar.{reach_from}
use Rattle.plan_sources.proofs.Shorter.{past_all}

-- a row of a plan that was found by its gap, with these of its ids
abbrev pub found_row : (Found → List ℕ) → Found → PlanRow
found_row ids found = record { gap = Some found.gap; ids = ids found; values = [] }

-- the last of some rows of a list gives the reach
pub last_reach : (ids : Found → List ℕ) (rows : List Found) (n : ℕ) (found : Found) → element rows n ≡ Some found → reach_of_last (take (suc n) (map (found_row ids) rows)) ≡ UpTo found.gap
last_reach ids [] n found e = absurd (let clash : ⊥ = cc in clash)
last_reach ids (x ∷ xs) zero found e = ap (λ (f : Found). UpTo f.gap) (some_is x found e)
last_reach ids (x ∷ []) (suc n) found e = absurd (let clash : ⊥ = cc in clash)
last_reach ids (x ∷ y ∷ ys) (suc n) found e = last_reach ids (y ∷ ys) n found e

module _ (d : Database) (p : Plan) (t : Taken) (ids : Found → List ℕ) (rows : List Found) (is : source plan_measure d p ≡ map (found_row ids) rows) where
  -- the source is as long as the list
  long : length (source plan_measure d p) ≡ length rows
  long = ap length is ∙ length-map rows (found_row ids)

  -- where the list has a row more, it is taken
  pub more_taken : (found : Found) → element rows t.rows ≡ Some found → next_taken d p t ≡ record { rows = t.rows + 1; is_ended = false }
  more_taken found e =
      let below : t.rows < length (source plan_measure d p) = subst (λ n. t.rows < n) (sym long) (at_below rows t.rows found e) in
      ap (λ b. cond b (record { rows = t.rows + 1; is_ended = false }) (record { rows = t.rows; is_ended = true })) (lt-ltb t.rows (length (source plan_measure d p)) below)

  -- and else the end is
  pub none_taken : element rows t.rows ≡ None → next_taken d p t ≡ record { rows = t.rows; is_ended = true }
  none_taken e =
      let past : length (source plan_measure d p) ≤ t.rows = subst (λ n. n ≤ t.rows) (sym long) (past_all rows t.rows e) in
      ap (λ b. cond b (record { rows = t.rows + 1; is_ended = false }) (record { rows = t.rows; is_ended = true })) (le-ltb t.rows (length (source plan_measure d p)) past)

  -- the reach of what is taken then
  pub next_reach : is_saturated d (innermost p) (source plan_measure d p) ≡ false → (o : Option Found) → element rows t.rows ≡ o
      → reach plan_measure d p (next_taken d p t) ≡ reach_from (ceiling_of (innermost p)) o
  next_reach open_ (Some found) e =
      ap (reach plan_measure d p) (more_taken found e)
      ∙ ap (λ l. reach_of_last (take (t.rows + 1) l)) is
      ∙ ap (λ n. reach_of_last (take n (map (found_row ids) rows))) (add-one t.rows)
      ∙ last_reach ids rows t.rows found e
  next_reach open_ None e =
      ap (reach plan_measure d p) (none_taken e)
      ∙ ap (λ k. cond (true && not k) (Ceiling (ceiling_of (innermost p))) (reach_of_last (take t.rows (source plan_measure d p)))) open_

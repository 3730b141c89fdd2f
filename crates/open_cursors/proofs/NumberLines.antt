-- The line of the numbers of a cursor.
use Rattle.std.proofs.Common.{◌≡◌, ◌≤◌, ℕ, Bool, true, false, min, List, [], ◌∷◌, Option, Some, None, refl, sym, ◌∙◌, ap, ap₂, subst, arith, true≢false}
use Rattle.std.specs.Prelude.{Result, Err, IfOk, OnErr, is_some}
use Rattle.output_text.specs.Writing.{Writes, WritesPrefix}
use Rattle.page_pool.specs.Pool.{PoolState}
use Rattle.plan_iterator.specs.Standing.{AreStats, counts_among}
use Rattle.plan_iterator.specs.declared.stats.Stats.{Stats}
use Rattle.sand_base.specs.Faults.{last_count}
use Rattle.sand_base.specs.declared.refusal.Refusal.TheVariants as why
use Rattle.sand_base.specs.declared.source.Failed.{Failed}
use Rattle.sand_model.specs.Cursor.{Cursor, OutputLine, Refused, Stats as StatsLine}
use Rattle.sand_model.specs.OutputText.{IsText}
use Rattle.sand_model.specs.Reach.{Counts}
use Rattle.statements.specs.Statement.{Stats as StatsOf}
use Rattle.sand_model.specs.StatementChecks.{Setting, early, is_there}
use Rattle.sand_store.specs.Catalog.{CatalogView}
use Rattle.statement_exec.proofs.CausedLines.{caused_inside, caused_plain}
use Rattle.statement_exec.proofs.Outcomes.{outcome_done, outcome_early}
use Rattle.sand_base.specs.Shelf.{Files}
use Rattle.statement_exec.specs.LeafLines.{state_beside}
use Rattle.statement_exec.specs.Moment.{beside, rises_between}
use Rattle.statement_exec.specs.Performing.{IsDecided}
use Rattle.open_cursors.proofs.DecidedCursors.{early_decides, passing_decides}
use Rattle.open_cursors.proofs.OpenNames.{not_there}
use Rattle.open_cursors.specs.OpenCursors.{NumbersOf, named}
use Rattle.open_cursors.specs.Outcomes.{PerformsBeside}
use Rattle.open_cursors.specs.Carried.{AreCounted, line_of_numbers}
use Rattle.statement_exec.specs.Printing.{WritesOf}
use Rattle.open_cursors.proofs.Given.{named_most}
use Rattle.statement_exec.proofs.Written.{answer_written, one_written}

-- the numbers are those of the cursor of the model
line_is : (c : Cursor) (numbers : Stats) → AreStats c numbers → c.given ≤ last_count → line_of_numbers numbers ≡ StatsLine c.counts c.given
line_is c numbers are few =
    let rows : numbers.rows ≡ min c.given last_count = are.rows in
    let same : numbers.rows ≡ c.given = omega (arith, rows, few) in
    ap₂ (λ (k : Counts) (n : ℕ). StatsLine k n) are.counts same

-- the line of some numbers, where no check refuses
numbers_decide : (catalog : CatalogView) (cs : List Cursor) (pool : PoolState) (name : List ℕ) (files : Option Files) (shelf : ℕ)
    → ((setting : Setting) → early setting (state_beside catalog pool.pages cs) (StatsOf name) ≡ None)
    → (line : OutputLine) (seen : Counts) (given : ℕ) → line ≡ StatsLine seen given → IsDecided (StatsOf name) (beside cs catalog pool files shelf) (beside cs catalog pool files shelf) (line ∷ [])
numbers_decide catalog cs pool name files shelf passes line seen given is =
    passing_decides catalog cs cs pool pool files files shelf shelf (StatsOf name) refl (line ∷ []) passes (λ setting. (seen, given, ap (λ (l : OutputLine). l ∷ []) is)) refl

module _ (catalog : CatalogView) (cs : List Cursor) (pool : PoolState) (name : List ℕ) where
  -- the numbers of the cursor of the name, or none has it
  pub stats_performs : (c : Cursor) → named cs name ≡ Some c → PerformsBeside (StatsOf name) catalog pool pool cs cs (StatsLine c.counts c.given ∷ [])
  stats_performs c is = λ files shelf. (
    (
      caused_plain (beside cs catalog pool files shelf) (beside cs catalog pool files shelf) (StatsLine c.counts c.given ∷ []) refl,
      numbers_decide catalog cs pool name files shelf (λ setting. rw is refl) (StatsLine c.counts c.given) c.counts c.given refl,
    ),
    λ told disk few setting gap s.
        let passes : early setting (state_beside catalog pool.pages cs) (StatsOf name) ≡ None = rw is refl in
        outcome_done setting (rises_between (beside cs catalog pool files shelf) (beside cs catalog pool files shelf)) (state_beside catalog pool.pages cs)
        (StatsOf name) (StatsLine c.counts c.given ∷ [])
        (state_beside catalog pool.pages cs) passes refl (c, is, (refl, refl)),
  )

  pub stats_unknown : named cs name ≡ None → PerformsBeside (StatsOf name) catalog pool pool cs cs (Refused why.UnknownCursor ∷ [])
  stats_unknown is = λ files shelf. (
    (
      caused_inside (beside cs catalog pool files shelf) (beside cs catalog pool files shelf) why.UnknownCursor tt,
      early_decides catalog cs cs pool pool files files shelf shelf (StatsOf name) refl why.UnknownCursor (λ setting. rw is refl),
    ),
    λ told disk few setting gap s.
        let fails : early setting (state_beside catalog pool.pages cs) (StatsOf name) ≡ Some why.UnknownCursor = rw is refl in
        outcome_early setting (rises_between (beside cs catalog pool files shelf) (beside cs catalog pool files shelf)) (state_beside catalog pool.pages cs) (StatsOf name)
        (Refused why.UnknownCursor ∷ []) (state_beside catalog pool.pages cs)
        why.UnknownCursor fails tt (refl, refl),
  )

  module _ (a b : List ℕ → Type 0) where
    pub numbers_written : AreCounted cs → (numbers : Stats) → NumbersOf (named cs name) (Some numbers) → (r : Result Bool Failed)
        → IfOk r (λ refused. (refused ≡ false) × Writes (IsText (line_of_numbers numbers ∷ [])) a b) → OnErr r (WritesPrefix (IsText (line_of_numbers numbers ∷ [])) a b)
        → WritesOf (PerformsBeside (StatsOf name) catalog pool pool cs cs) a b r
    numbers_written counted numbers h r line part = go (named cs name) refl h where
      inside : Option Stats → Stats
      inside None = numbers
      inside (Some n) = n

      go : (o : Option Cursor) → named cs name ≡ o → NumbersOf o (Some numbers) → WritesOf (PerformsBeside (StatsOf name) catalog pool pool cs cs) a b r
      go None is n = absurd (true≢false (ap (λ (o : Option Stats). is_some o) n))
      go (Some c) is n =
          let are : AreStats c numbers = subst (λ (x : Stats). AreStats c x) (sym (ap inside n.1)) n.2 in
          let said : PerformsBeside (StatsOf name) catalog pool pool cs cs (line_of_numbers numbers ∷ []) =
          subst (λ (x : OutputLine). PerformsBeside (StatsOf name) catalog pool pool cs cs (x ∷ [])) (sym (line_is c numbers are (named_most last_count cs name c counted is))) (stats_performs c is) in
          one_written (PerformsBeside (StatsOf name) catalog pool pool cs cs) a b (line_of_numbers numbers) false refl said r line part

    pub no_numbers_written : NumbersOf (named cs name) None → (r : Result Bool Failed)
        → IfOk r (λ refused. (refused ≡ true) × Writes (IsText (Refused why.UnknownCursor ∷ [])) a b) → OnErr r (WritesPrefix (IsText (Refused why.UnknownCursor ∷ [])) a b)
        → WritesOf (PerformsBeside (StatsOf name) catalog pool pool cs cs) a b r
    no_numbers_written h r line part = go (named cs name) refl h where
      go : (o : Option Cursor) → named cs name ≡ o → NumbersOf o None → WritesOf (PerformsBeside (StatsOf name) catalog pool pool cs cs) a b r
      go None is n = answer_written (PerformsBeside (StatsOf name) catalog pool pool cs cs) a b (Err why.UnknownCursor) (stats_unknown is) r line part
      go (Some c) is n = absurd (true≢false (sym (ap (λ (o : Option Stats). is_some o) n.1)))

    -- over a disk that doesn't tell its pages any numbers will do, by the names of the open cursors
    pub numbers_by_name : pool.disk.told ≡ false → is_there (named cs name) ≡ true → (numbers : Stats) → (r : Result Bool Failed)
        → IfOk r (λ refused. (refused ≡ false) × Writes (IsText (line_of_numbers numbers ∷ [])) a b) → OnErr r (WritesPrefix (IsText (line_of_numbers numbers ∷ [])) a b)
        → WritesOf (PerformsBeside (StatsOf name) catalog pool pool cs cs) a b r
    numbers_by_name untold there numbers r line part =
        one_written (PerformsBeside (StatsOf name) catalog pool pool cs cs) a b (line_of_numbers numbers) false refl said r line part where
          said : PerformsBeside (StatsOf name) catalog pool pool cs cs (line_of_numbers numbers ∷ [])
          said = λ files shelf. (
            (
              caused_plain (beside cs catalog pool files shelf) (beside cs catalog pool files shelf) (line_of_numbers numbers ∷ []) refl,
              numbers_decide catalog cs pool name files shelf (λ setting. rw there refl) (line_of_numbers numbers) (counts_among numbers) numbers.rows refl,
            ),
            λ told. absurd (true≢false (sym told ∙ untold)),
          )

    pub no_numbers_by_name : is_there (named cs name) ≡ false → (r : Result Bool Failed)
        → IfOk r (λ refused. (refused ≡ true) × Writes (IsText (Refused why.UnknownCursor ∷ [])) a b) → OnErr r (WritesPrefix (IsText (Refused why.UnknownCursor ∷ [])) a b)
        → WritesOf (PerformsBeside (StatsOf name) catalog pool pool cs cs) a b r
    no_numbers_by_name none r line part =
        answer_written (PerformsBeside (StatsOf name) catalog pool pool cs cs) a b (Err why.UnknownCursor) (stats_unknown (not_there (named cs name) none)) r line part

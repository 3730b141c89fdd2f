-- A statement that is refused for want of memory, before anything is touched.
use Rattle.std.proofs.Common.{[], ◌∷◌, refl, sym}
use Rattle.sand_base.specs.declared.refusal.Refusal.TheVariants as why
use Rattle.sand_model.specs.Cursor.{Refused}
use Rattle.statements.specs.Statement.{Statement}
use Rattle.statement_exec.specs.Deciding.{DecidesEarly}
use Rattle.statement_exec.specs.Moment.{Moment, rises_between}
use Rattle.statement_exec.specs.Outline.{outline_of, bare}
use Rattle.statement_exec.specs.Performing.{Performs}
use Rattle.statement_exec.proofs.CausedLines.{caused_refusal}
use Rattle.statement_exec.proofs.Decided.{found_own, after_refusal, by_memory}
use Rattle.statement_exec.proofs.Outcomes.{outcome_outside, outcome_over}

-- any statement may be refused so, and leaves all as it was
pub refused_memory : (statement : Statement) (m : Moment) → Performs statement m m (Refused why.Memory ∷ [])
refused_memory statement m = (
  (
    caused_refusal m m why.Memory tt,
    λ setting s. (
      found_own m.files setting statement (λ own. DecidesEarly own (bare (outline_of m.state)) statement (Refused why.Memory ∷ [])) s.files (by_memory setting m.state statement),
      sym (after_refusal (outline_of m.state) statement why.Memory),
    ),
  ),
  λ told disk few setting s.
      outcome_over m.files setting (rises_between m m) m.state statement (Refused why.Memory ∷ []) m.state s.files
      (outcome_outside setting (rises_between m m) m.state statement (Refused why.Memory ∷ []) m.state why.Memory tt (refl, refl)),
)

-- The lines of a cursor's steps have their causes.
use Rattle.std.proofs.Common.{◌≡◌, ℕ, zero, suc, List, [], ◌∷◌, Option, Some, None, refl, sym, ap, subst, inl, inr, true≢false}
use Rattle.std.specs.Prelude.{is_some}
use Rattle.page_pool.specs.declared.fault.PageFault.{PageFault}
use Rattle.page_pool.specs.declared.fault.PageFault.TheVariants as page
use Rattle.sand_base.specs.declared.refusal.Refusal.{Refusal}
use Rattle.sand_base.specs.declared.refusal.Refusal.TheVariants as why
use Rattle.sand_model.specs.Cursor.{Cursor, OutputLine, Row, End, Refused, Steps}
use Rattle.sand_model.specs.Measure.{Measure}
use Rattle.sand_store.specs.Calls.{refusal_of}
use Rattle.statement_exec.specs.Causes.{AreCaused, BlamesNoFile}
use Rattle.statement_exec.specs.Moment.{Moment}
use Rattle.statement_exec.proofs.CausedLines.{HasItsCause, EndHasCause, caused_none, caused_plain, caused_refusal, caused_behind}
use Rattle.open_cursors.specs.Steps.{IsOfPages}

-- a refusal of memory or of a page blames no data file
pub pages_no_file : (end : Option Refusal) → IsOfPages end → BlamesNoFile end
pages_no_file None h = tt
pages_no_file (Some why.Memory) h = tt
pages_no_file (Some why.Device) h = tt
pages_no_file (Some (why.Damaged n kept read)) h = tt
pages_no_file (Some why.File) h = absurd h
pages_no_file (Some _) h = tt

pub page_no_file : (fault : PageFault) → BlamesNoFile (Some (refusal_of fault))
page_no_file page.Memory = tt
page_no_file page.Device = tt
page_no_file (page.Damaged n kept read) = tt

module _ (old new : Moment) where
  lines_are : (lines these : List OutputLine) → lines ≡ these → AreCaused old new these → AreCaused old new lines
  lines_are lines these e h = subst (AreCaused old new) (sym e) h

  -- the refusal among them is one that has its cause
  pub steps_caused : (gap : Measure) (may : Refusal → Type 0) → ((w : Refusal) → may w → HasItsCause old new w) → (count : ℕ) (c : Cursor) (lines : List OutputLine) (after : Cursor)
      → Steps gap may count c lines after → AreCaused old new lines
  steps_caused gap may cause zero c lines after h = lines_are lines [] h.0 (caused_none old new)
  steps_caused gap may cause (suc count) c lines after (inl (row, mid, more, stepped, is, rest)) =
      lines_are lines (Row row ∷ more) is (caused_behind old new (Row row ∷ []) more refl (steps_caused gap may cause count mid more after rest))
  steps_caused gap may cause (suc count) c lines after (inr (inl (stepped, is))) = lines_are lines (End ∷ []) is (caused_plain old new (End ∷ []) refl)
  steps_caused gap may cause (suc count) c lines after (inr (inr (w, allowed, stepped, is))) = lines_are lines (Refused w ∷ []) is (caused_refusal old new w (cause w allowed))

  -- the refusal is this one, where there is one
  pub cause_of_end : (end : Option Refusal) → EndHasCause old new end → (w : Refusal) → end ≡ Some w → HasItsCause old new w
  cause_of_end None h w e = absurd (true≢false (sym (ap (λ (o : Option Refusal). is_some o) e)))
  cause_of_end (Some v) h w e = subst (HasItsCause old new) (ap inside e) h where
    inside : Option Refusal → Refusal
    inside None = v
    inside (Some r) = r

-- Where nothing outside fails, what is licensed is want of memory alone, so each line of a run has its defined outcome or that.
use Rattle.std.proofs.Common.{◌≡◌, ◌≢◌, ◌⊎◌, ℕ, zero, suc, ◌<◌, true, List, [], ◌∷◌, Option, Some, None, refl, subst, inl, inr, arith}
use Rattle.sand_base.specs.declared.refusal.Refusal.{Refusal}
use Rattle.sand_base.specs.declared.refusal.Refusal.TheVariants as why
use Rattle.sand_model.specs.Checks.{first_refusal}
use Rattle.sand_model.specs.Cursor.{State, Cursor, OutputLine, Steps}
use Rattle.sand_model.specs.Measure.{Measure}
use Rattle.sand_model.specs.Outcome.{Rises, Outcome, IsLicensed, IsRefusalCaused, IsRefusedBy, IsCarriedOut, PrintsFirst, leaf_lines, far_lines}
use Rattle.sand_model.specs.Run.{LineOutcome, Run}
use Rattle.statements.specs.Statement.{Statement, Create, Insert, Delete, Load, Index as IndexOn, Rtree, OpenCursor, Next, CloseCursor, Show, Stats, Far, Blocks}
use Rattle.sand_model.specs.ScriptLine.{ScriptLine, Blank, TooLong, BadToken, OutOfRange, Says}
use Rattle.sand_model.specs.StatementChecks.{Setting, early, late}
use Rattle.run_laws.specs.Undisturbed.{IsOfMemory, HasEffect, HasDefinedOutcome, LineIsDefined, RunsUndisturbed}

module _ (may might : Refusal → Type 0) (weaker : (refusal : Refusal) → may refusal → might refusal) where
  -- steps under a licence are steps under a wider one
  steps_under : (gap : Measure) (count : ℕ) (old new : Cursor) (lines : List OutputLine) → Steps gap may count old lines new → Steps gap might count old lines new
  steps_under gap zero old new lines h = h
  steps_under gap (suc count) old new lines (inl (row, mid, more, stepped, is, rest)) =
      inl (row, mid, more, stepped, is, steps_under gap count mid new more rest)
  steps_under gap (suc count) old new lines (inr (inl h)) = inr (inl h)
  steps_under gap (suc count) old new lines (inr (inr (refusal, m, stepped, is))) = inr (inr (refusal, weaker refusal m, stepped, is))

  -- and so are leaves that are printed
  leaves_under : (all lines : List OutputLine) → PrintsFirst may all lines → PrintsFirst might all lines
  leaves_under all lines (inl h) = inl h
  leaves_under all lines (inr (printed, rest, refusal, m, split, is)) = inr (printed, rest, refusal, weaker refusal m, split, is)

-- the fault of a count that doesn't rise
no_fault : {A : Type 0} (n : ℕ) → n ≡ 0 → 0 < n → A
no_fault n e h = absurd (omega arith)

module _ (setting : Setting) (rises : Rises) (tells : setting.tells ≡ true) (disk : rises.disk ≡ 0) (shelf : rises.shelf ≡ 0) where
  -- of what is licensed memory is left
  memory_alone : (state : State) (statement : Statement) (refusal : Refusal) → IsLicensed setting rises state statement refusal → IsOfMemory refusal
  memory_alone state statement why.Memory h = refl
  memory_alone state statement why.Device h = no_fault rises.disk disk h.1
  memory_alone state statement (why.Damaged page kept read) h = absurd cc (tells, h.1)
  memory_alone state statement why.File h = no_fault rises.shelf shelf h.1
  memory_alone state statement _ h = absurd h

  -- no check refuses because a file isn't there
  not_of_file : (refusal : Refusal) → IsRefusalCaused rises refusal → refusal ≢ why.File
  not_of_file why.File h e = no_fault rises.shelf shelf h
  not_of_file _ h e = absurd cc

  module _ (old new : State) (lines : List OutputLine) where
    effect : (statement : Statement) → IsCarriedOut setting rises old statement lines new → HasEffect setting old statement lines new
    effect (Next name count) (cursor, found, rest) =
        (cursor, found, (rest.0, steps_under (IsLicensed setting rises old (Next name count)) IsOfMemory (memory_alone old (Next name count)) setting.gap count cursor rest.0 lines rest.1, rest.2))
    effect (Show count p) (after, h, is) =
        (after, steps_under (IsLicensed setting rises old (Show count p)) IsOfMemory (memory_alone old (Show count p)) setting.gap count _ after lines h, is)
    effect (Far count column goal) h = (
      leaves_under (IsLicensed setting rises old (Far count column goal)) IsOfMemory (memory_alone old (Far count column goal))
          (far_lines setting.gap old.database count column goal) lines h.0,
      h.1,
    )
    effect (Blocks column) (relation, found, h) =
        (relation, found, (leaves_under (IsLicensed setting rises old (Blocks column)) IsOfMemory (memory_alone old (Blocks column)) (leaf_lines relation column.column) lines h.0, h.1))
    effect (Create name columns) h = h
    effect (Insert name row) h = h
    effect (Delete name id) h = h
    effect (Load name file header) h = h
    effect (IndexOn column threshold) h = h
    effect (Rtree column) h = h
    effect (OpenCursor name p) h = h
    effect (CloseCursor name) h = h
    effect (Stats name) h = h

    defined : (statement : Statement) → Outcome setting rises old statement lines new → HasDefinedOutcome setting old statement lines new ⊎ IsRefusedBy why.Memory old lines new
    defined statement (inl (refusal, licensed, refused)) =
        inr (subst (λ r. IsRefusedBy r old lines new) (memory_alone old statement refusal licensed) refused)
    defined statement (inr by_checks) = inl (go (first_refusal (early setting old statement ∷ late setting old statement ∷ [])) refl) where
      go : (o : Option Refusal) → first_refusal (early setting old statement ∷ late setting old statement ∷ []) ≡ o → HasDefinedOutcome setting old statement lines new
      go None e = let carried : IsCarriedOut setting rises old statement lines new = rw e at by_checks in rw e (effect statement carried)
      go (Some refusal) e =
          let refused : IsRefusalCaused rises refusal × IsRefusedBy refusal old lines new = rw e at by_checks in
          rw e (not_of_file refusal refused.0, refused.1)

    line_defined : (line : ScriptLine) → LineOutcome setting rises old line lines new ⊎ IsRefusedBy why.Memory old lines new
        → LineIsDefined setting old line lines new ⊎ IsRefusedBy why.Memory old lines new
    line_defined line (inr h) = inr h
    line_defined Blank (inl h) = inl h
    line_defined TooLong (inl h) = inl h
    line_defined (BadToken column) (inl h) = inl h
    line_defined OutOfRange (inl h) = inl h
    line_defined (Says statement) (inl h) = defined statement h

-- line by line
pub run_complete : (setting : Setting) (old new : State) (script : List ScriptLine) (rises : Rises) (printed : List OutputLine)
    → setting.tells ≡ true → rises.disk ≡ 0 → rises.shelf ≡ 0 → Run setting old script rises printed new → RunsUndisturbed setting old script printed new
run_complete setting old new [] rises printed tells disk shelf h = h
run_complete setting old new (line ∷ script) rises printed tells disk shelf h =
    let own_disk : h.own.disk ≡ 0 = omega (arith, h.fit.disk, disk) in
    let own_shelf : h.own.shelf ≡ 0 = omega (arith, h.fit.shelf, shelf) in
    let others_disk : h.others.disk ≡ 0 = omega (arith, h.fit.disk, disk) in
    let others_shelf : h.others.shelf ≡ 0 = omega (arith, h.fit.shelf, shelf) in (
      h.first,
      h.more,
      h.mid,
      line_defined setting h.own tells own_disk own_shelf old h.mid h.first line h.outcome,
      run_complete setting h.mid new script h.others h.more tells others_disk others_shelf h.goes,
      h.printed_is,
    )

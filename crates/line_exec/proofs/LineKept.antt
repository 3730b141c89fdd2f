-- What a line keeps, from what its statement does and what was appended.
use Rattle.std.proofs.Common.{◌≡◌, ℕ, Bool, true, false, List, [], ◌∷◌, Option, Some, None, refl, sym, ap, subst, arith, true≢false, ◌∙◌}
use Rattle.std.specs.Prelude.{IsTrue, Result, Ok, Err, IfOk, is_err, is_some}
use Rattle.sand_base.specs.Shelf.{Files}
use Rattle.sand_base.specs.declared.refusal.Refusal.{Refusal}
use Rattle.sand_journal.specs.Tape.{TapeView}
use Rattle.sand_journal.specs.declared.journal.Journal.{Journal}
use Rattle.sand_store.specs.Calls.{IsUnchanged}
use Rattle.sand_store.specs.Catalog.{StoreState}
use Rattle.sand_store.specs.Contents.{database}
use Rattle.statement_exec.specs.Moment.{moment_of, state_with}
use Rattle.statement_exec.specs.declared.reply.Reply.{Reply}
use Rattle.line_exec.proofs.Appended.{appends_none, unless_any}
use Rattle.line_exec.proofs.Led.{lead_none, lead_one}
use Rattle.line_exec.proofs.LineChanges.{made}
use Rattle.line_exec.specs.KeptChanges.{Appends, AppendsIfAny, KeepsIfAny, IsToKeep, UnlessJournal, bodies_kept, no_changes}
use Rattle.statements.specs.Statement.{Statement}
use Rattle.line_exec.specs.declared.fault.LineFault.{LineFault}

-- whether a line was refused, beside what was written of it
pub refused_by : (A : Type 0) (answer : Result Reply Refusal) (r : Result Bool LineFault) → IfOk r (λ refused. (refused ≡ is_err answer) × A) → IfOk r (λ refused. refused ≡ is_err answer)
refused_by A answer (Ok refused) h = h.0
refused_by A answer (Err why) h = tt

-- a line that isn't refused isn't
not_refused : (answer : Result Reply Refusal) (r : Result Bool LineFault) → is_err answer ≡ false → IfOk r (λ refused. refused ≡ is_err answer) → r ≡ Ok true → ⊥
not_refused answer (Ok refused) accepted told is =
    let refuses : refused ≡ true = ap value is in true≢false (sym refuses ∙ told ∙ accepted) where
      value : Result Bool LineFault → Bool
      value (Ok b) = b
      value (Err w) = false
not_refused answer (Err why) accepted told is = let clash : ⊥ = cc in absurd clash

module _ {T : Type 0} (seen : T → TapeView) (old new : StoreState) (files : Option Files) (shelf : ℕ) where
  -- a line that left the store as it was
  pub keeps_none : ((tape : T) (image : List ℕ) → IsTrue (seen tape).told → (seen tape).since (seen tape).clock image → (seen tape).leaves image)
      → (journal : Option (Journal T)) (r : Result Bool LineFault) → IsUnchanged old new
      → KeepsIfAny seen journal journal (no_changes journal) (moment_of old files shelf) (state_with [] (database new)) r
  keeps_none now_is_all None r same = refl
  keeps_none now_is_all (Some journal) r same = record {
    one = omega arith;
    refused = λ is. refl;
    keeps = record { all = tt; lead = lead_none old new files shelf same; appends = appends_none seen now_is_all journal (UnlessJournal r) (unless_any r) };
  }

  -- a statement that changes relations, and what was appended behind its answer
  pub keeps_change : (s : Statement) (journal journal' : Option (Journal T)) (answer : Result Reply Refusal) (body : Option (List ℕ)) (r : Result Bool LineFault)
      → (keep : IsToKeep (is_some journal) s answer body old new) → AppendsIfAny seen journal journal' (bodies_kept answer body) (UnlessJournal r) → IfOk r (λ refused. refused ≡ is_err answer)
      → KeepsIfAny seen journal journal' (made journal s answer body old new keep) (moment_of old files shelf) (state_with [] (database new)) r
  keeps_change s None journal' answer body r to_keep appends told = refl
  keeps_change s (Some journal) None answer body r to_keep appends told = absurd appends
  keeps_change s (Some journal) (Some journal') (Err why) body r to_keep appends told = record {
    one = omega arith;
    refused = λ is. refl;
    keeps = record { all = tt; lead = lead_none old new files shelf to_keep; appends = appends };
  }
  keeps_change s (Some journal) (Some journal') (Ok given) None r to_keep appends told = absurd to_keep
  keeps_change s (Some journal) (Some journal') (Ok given) (Some body) r to_keep appends told = record {
    one = omega arith;
    refused = λ is. absurd (not_refused (Ok given) r refl told is);
    keeps = record {
      all = (to_keep.is, tt);
      lead = lead_one old new files shelf to_keep.change to_keep.led;
      appends = subst (λ (b : List ℕ). Appends seen journal journal' (b ∷ []) (UnlessJournal r)) to_keep.has appends;
    };
  }

-- The records that a call appends to a journal.
use Rattle.std.proofs.Common.{◌≡◌, ℕ, Bool, true, false, List, [], ◌∷◌, ◌++◌, Option, Some, None, refl, sym, ap, subst, append-nil}
use Rattle.std.specs.Prelude.{IsTrue, Result, Ok, Err, is_err}
use Rattle.sand_base.specs.declared.refusal.Refusal.{Refusal}
use Rattle.sand_journal.proofs.Moments.{started}
use Rattle.sand_journal.specs.Images.{HasBodies, LiesBetween}
use Rattle.sand_journal.specs.Journal.{IsAtEnd}
use Rattle.sand_journal.specs.Tape.{TapeView}
use Rattle.sand_journal.specs.declared.journal.Journal.{Journal}
use Rattle.statement_exec.specs.declared.reply.Reply.{Reply}
use Rattle.line_exec.specs.KeptChanges.{Appends, AppendsIfAny, UnlessJournal, bodies_kept}
use Rattle.line_exec.specs.declared.fault.LineFault.{LineFault}
use Rattle.line_exec.specs.declared.fault.LineFault.TheVariants as fault

-- what holds holds unless the journal failed
pub unless_any : (r : Result Bool LineFault) (P : Type 0) → P → UnlessJournal r P
unless_any (Ok refused) P h = h
unless_any (Err fault.Sink) P h = h
unless_any (Err fault.Journal) P h = tt

-- an image of these bodies lies between them and them
lies_same : (bodies : List (List ℕ)) (image : List ℕ) → HasBodies bodies image → LiesBetween bodies (bodies ++ []) image
lies_same bodies image has = record { bodies = bodies; has = has; more = []; all_first = sym (append-nil bodies); rest = []; in_last = refl }

-- a refused change has no body to append, and one of which no record was made has none
pub refused_none : (answer : Result Reply Refusal) (body : Option (List ℕ)) → is_err answer ≡ true → bodies_kept answer body ≡ []
refused_none (Ok given) body is = let clash : ⊥ = cc in absurd clash
refused_none (Err why) body is = refl

pub made_none : (answer : Result Reply Refusal) (body : Option (List ℕ)) → body ≡ None → bodies_kept answer body ≡ []
made_none (Ok given) None is = refl
made_none (Ok given) (Some body) is = let clash : ⊥ = cc in absurd clash
made_none (Err why) body is = refl

-- the body of an accepted change is appended
pub accepted_one : (answer : Result Reply Refusal) (body : Option (List ℕ)) (one : List ℕ) → is_err answer ≡ false → body ≡ Some one → bodies_kept answer body ≡ one ∷ []
accepted_one (Ok given) body one is made = ap (bodies_kept (Ok given)) made
accepted_one (Err why) body one is made = let clash : ⊥ = cc in absurd clash

module _ {T : Type 0} (seen : T → TapeView) where
  -- what was appended was, whatever tells that it was
  pub appends_as : (old new : Option (Journal T)) (more : List (List ℕ)) (Done Now : Type 0 → Type 0) → ((P : Type 0) → Done P → Now P)
      → AppendsIfAny seen old new more Done → AppendsIfAny seen old new more Now
  appends_as None new more Done Now then h = tt
  appends_as (Some old) None more Done Now then h = h
  appends_as (Some old) (Some new) more Done Now then h = record { told = h.told; at_end = then _ h.at_end; any_moment = h.any_moment }

  module _ (now_is_all : (tape : T) (image : List ℕ) → IsTrue (seen tape).told → (seen tape).since (seen tape).clock image → (seen tape).leaves image) where
    -- nothing is appended
    pub appends_none : (journal : Journal T) (Done : Type 0 → Type 0) → ((P : Type 0) → P → Done P) → Appends seen journal journal [] Done
    appends_none journal Done done = record {
      told = refl;
      at_end = done ((bodies : List (List ℕ)) → IsAtEnd seen journal bodies → IsAtEnd seen journal (bodies ++ []))
          (λ bodies at. subst (λ (bs : List (List ℕ)). IsAtEnd seen journal bs) (sym (append-nil bodies)) at);
      any_moment = λ bodies at told.
          started (seen journal.tape) (LiesBetween bodies (bodies ++ [])) (λ image. now_is_all journal.tape image told)
          (λ image left. lies_same bodies image (subst (HasBodies bodies) (sym (at.rest.stands.durable told image left)) (at.rest.ended told)));
    }

    pub appends_nothing : (journal : Option (Journal T)) (more : List (List ℕ)) (Done : Type 0 → Type 0) → more ≡ [] → ((P : Type 0) → P → Done P) → AppendsIfAny seen journal journal more Done
    appends_nothing None more Done none done = tt
    appends_nothing (Some journal) more Done none done = subst (λ (bs : List (List ℕ)). Appends seen journal journal bs Done) (sym none) (appends_none journal Done done)

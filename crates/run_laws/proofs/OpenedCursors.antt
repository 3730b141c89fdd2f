-- A cursor that was opened is the one of its name.
use Rattle.std.proofs.Common.{◌≡◌, ℕ, Bool, true, false, List, [], ◌∷◌, ◌++◌, Option, Some, None, refl, ap, ◌∙◌, inl, inr}
use Rattle.sand_base.specs.declared.refusal.Refusal.{Refusal}
use Rattle.sand_base.specs.declared.refusal.Refusal.TheVariants as why
use Rattle.sand_model.specs.Checks.{first_refusal}
use Rattle.sand_model.specs.Cursor.{State, Cursor, Accepted, Refused, new_cursor}
use Rattle.sand_model.specs.Database.{same_name}
use Rattle.sand_model.specs.Outcome.{Rises, Outcome, IsRefusalCaused, IsRefusedBy, IsCarriedOut}
use Rattle.statements.specs.Plan.{Plan}
use Rattle.statements.specs.Statement.{OpenCursor}
use Rattle.sand_model.specs.StatementChecks.{Setting, early, late, cursor_named, is_there, refused_where}
use Rattle.run_laws.proofs.CursorsByName.{named, same_itself}

-- the last of cursors of which no other has its name
last_named : (cs : List Cursor) (name : List ℕ) (new : Cursor) → new.name ≡ name → named cs name ≡ None → named (cs ++ new ∷ []) name ≡ Some new
last_named [] name new n e = let same : same_name new.name name ≡ true = same_itself new.name name n in rw same refl
last_named (x ∷ cs) name new n e = go (same_name x.name name) refl (last_named cs name new n) where
  go : (b : Bool) → same_name x.name name ≡ b → (named cs name ≡ None → named (cs ++ new ∷ []) name ≡ Some new) → named ((x ∷ cs) ++ new ∷ []) name ≡ Some new
  go true is behind = let first : Some x ≡ None = rw is at e in absurd cc
  go false is behind = let rest : named cs name ≡ None = rw is at e in rw is (behind rest)

-- a line that is accepted isn't one of a refusal
not_both : (refusal : Refusal) → Accepted ∷ [] ≡ Refused refusal ∷ [] → ⊥
not_both refusal e = absurd cc

-- where none of the checks refuses, no cursor has the name
first_passes : (check : Option Refusal) (checks : List (Option Refusal)) → first_refusal (check ∷ checks) ≡ None → check ≡ None
first_passes None checks e = refl
first_passes (Some refusal) checks e = absurd cc

not_there : (o : Option Cursor) → refused_where (is_there o) why.CursorNameTaken ≡ None → o ≡ None
not_there None e = refl
not_there (Some c) e = absurd cc

pub opened : (setting : Setting) (rises : Rises) (old new : State) (name : List ℕ) (p : Plan) → Outcome setting rises old (OpenCursor name p) (Accepted ∷ []) new
    → (new.database ≡ old.database) × (cursor_named new name ≡ Some (new_cursor name p old.database))
opened setting rises old new name p (inl (refusal, licensed, by)) = absurd (not_both refusal by.0)
opened setting rises old new name p (inr by_checks) = go (first_refusal (early setting old (OpenCursor name p) ∷ late setting old (OpenCursor name p) ∷ [])) refl where
  go : (o : Option Refusal) → first_refusal (early setting old (OpenCursor name p) ∷ late setting old (OpenCursor name p) ∷ []) ≡ o
      → (new.database ≡ old.database) × (cursor_named new name ≡ Some (new_cursor name p old.database))
  go (Some refusal) e = let refused : IsRefusalCaused rises refusal × IsRefusedBy refusal old (Accepted ∷ []) new = rw e at by_checks in absurd (not_both refusal refused.1.0)
  go None e =
      let h : IsCarriedOut setting rises old (OpenCursor name p) (Accepted ∷ []) new = rw e at by_checks in
      let passes : early setting old (OpenCursor name p) ≡ None = first_passes _ _ e in
      let none : named old.cursors name ≡ None = not_there (named old.cursors name) (first_passes _ _ passes) in (
        ap (λ state. state.database) h.1,
        ap (λ state. named state.cursors name) h.1 ∙ last_named old.cursors name (new_cursor name p old.database) refl none,
      )

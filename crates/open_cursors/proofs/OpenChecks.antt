-- The checks of a cursor that is to be opened.
use Rattle.std.proofs.Common.{◌≡◌, ℕ, ◌≤◌, ◌<◌, true, false, nat_le, List, [], ◌∷◌, length, Option, Some, None, refl, ◌∙◌, inl, inr, arith}
use Rattle.std.proofs.lemmas.Bool.Decides.{leb_tells}
use Rattle.sand_base.specs.declared.refusal.Refusal.{Refusal}
use Rattle.sand_base.specs.declared.refusal.Refusal.TheVariants as why
use Rattle.sand_model.specs.Checks.{first_refusal, check_operators}
use Rattle.sand_model.specs.Cursor.{Cursor}
use Rattle.sand_model.specs.Database.{Database, same_name}
use Rattle.statements.specs.Plan.{Plan}
use Rattle.statements.specs.Statement.{OpenCursor as Opens}
use Rattle.sand_model.specs.StatementChecks.{Setting, early, is_there, check_depth, most_cursors}
use Rattle.open_cursors.specs.OpenCursors.{AreNamed, named}
use Rattle.open_cursors.specs.declared.open_cursor.OpenCursor.{OpenCursor}
use Rattle.open_cursors.proofs.NamedCursors.{FirstAt, NonePasses}
use Rattle.open_cursors.proofs.OpenNames.{named_many, named_open, open_at, open_none}

at_least : (a b : ℕ) → a ≤ b → nat_le a b ≡ true
at_least a b h = elim (leb_tells a b) [ inl x ↦ x.0 | inr x ↦ absurd (omega (arith, x.1, h)) ]

below : (a b : ℕ) → b < a → nat_le a b ≡ false
below a b h = elim (leb_tells a b) [ inl x ↦ absurd (omega (arith, x.1, h)) | inr x ↦ x.0 ]

one_check : (check : Option Refusal) → first_refusal (check ∷ []) ≡ check
one_check None = refl
one_check (Some w) = refl

module _ {S T : Type 0} (d : Database) (xs : List (OpenCursor S T)) (cs : List Cursor) (name : List ℕ) (p : Plan) (setting : Setting) (all : AreNamed xs cs) where
  pub open_taken : (at : ℕ) → FirstAt (λ x. same_name x.name name) xs at → early setting (record { database = d; cursors = cs }) (Opens name p) ≡ Some why.CursorNameTaken
  open_taken at f = let t : is_there (named cs name) ≡ true = named_open xs cs name all ∙ open_at name xs at f in rw t refl

  module _ (n : NonePasses (λ x. same_name x.name name) xs) where
    free : is_there (named cs name) ≡ false
    free = named_open xs cs name all ∙ open_none name xs n

    pub open_unchecked : (w : Refusal) → check_operators d p ≡ Some w → early setting (record { database = d; cursors = cs }) (Opens name p) ≡ Some w
    open_unchecked w k = rw (free, k) refl

    pub open_many : check_operators d p ≡ None → 16 ≤ length xs → early setting (record { database = d; cursors = cs }) (Opens name p) ≡ Some why.TooManyCursors
    open_many k m =
        let many : nat_le most_cursors (length cs) ≡ true = at_least 16 (length cs) (omega (arith, m, named_many xs cs all)) in
        rw (free, k, many) refl

    pub open_deep : check_operators d p ≡ None → length xs < 16 → early setting (record { database = d; cursors = cs }) (Opens name p) ≡ check_depth p
    open_deep k m =
        let few : nat_le most_cursors (length cs) ≡ false = below 16 (length cs) (omega (arith, m, named_many xs cs all)) in
        rw (free, k, few) (one_check (check_depth p))

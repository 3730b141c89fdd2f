-- What follows where no check of a plan, or of an opening, fails.
use Rattle.std.proofs.Common.{◌≡◌, ℕ, true, List, [], ◌∷◌, Option, Some, None, refl}
use Rattle.std.specs.Prelude.{nat_le, length}
use Rattle.page_pool.specs.Disk.{PageMap}
use Rattle.plan_iterator.specs.Rows.{plan_measure}
use Rattle.sand_base.specs.declared.refusal.Refusal.{Refusal}
use Rattle.sand_base.specs.declared.refusal.Refusal.TheVariants as why
use Rattle.sand_model.specs.Checks.{check, check_operators, first_refusal}
use Rattle.sand_model.specs.Cursor.{Cursor}
use Rattle.sand_model.specs.Database.{Database}
use Rattle.statements.specs.Plan.{Plan}
use Rattle.sand_model.specs.StatementChecks.{Setting, AreRows, refused_where, is_there, check_depth, most_cursors}
use Rattle.sand_store.specs.Catalog.{CatalogView}
use Rattle.sand_store.specs.Contents.{database_in}
use Rattle.open_cursors.specs.OpenCursors.{named}
use Rattle.open_cursors.specs.PlanCursors.{ChecksGive}

-- where no check fails, neither the first nor one behind it does
first_passes : (o : Option Refusal) (os : List (Option Refusal)) → first_refusal (o ∷ os) ≡ None → (o ≡ None) × (first_refusal os ≡ None)
first_passes None os h = (refl, h)
first_passes (Some w) os h = absurd cc

-- where no check of a plan fails, none of its operators' does
pub operators_pass : (d : Database) (p : Plan) → check d p ≡ None → check_operators d p ≡ None
operators_pass d p h = (first_passes (check_operators d p) (check_depth p ∷ []) h).0

-- some setting: what a check of an opening gives is one in all
setting_of : CatalogView → Setting
setting_of catalog = record {
  gap = plan_measure;
  limits = catalog.limits;
  files = λ name. None;
  rows_of = λ bytes schema header. AreRows [];
  tells = true;
}

-- no cursor is there
not_there : {A : Type 0} (o : Option A) (w : Refusal) → refused_where (is_there o) w ≡ None → o ≡ None
not_there None w h = refl
not_there (Some x) w h = absurd cc

module _ (catalog : CatalogView) (pages : PageMap) (cs : List Cursor) (name : List ℕ) (p : Plan) (passes : ChecksGive catalog pages cs name p None) where
  parts : (refused_where (is_there (named cs name)) why.CursorNameTaken ≡ None)
      × (first_refusal (check_operators (database_in pages catalog.relations) p ∷ refused_where (nat_le most_cursors (length cs)) why.TooManyCursors ∷ check_depth p ∷ []) ≡ None)
  parts = first_passes (refused_where (is_there (named cs name)) why.CursorNameTaken)
      (check_operators (database_in pages catalog.relations) p ∷ refused_where (nat_le most_cursors (length cs)) why.TooManyCursors ∷ check_depth p ∷ []) (passes (setting_of catalog))

  -- where no check of an opening fails, no cursor has the name
  pub name_free : named cs name ≡ None
  name_free = not_there (named cs name) why.CursorNameTaken parts.0

  -- nor does one of the plan
  pub plan_passes : check (database_in pages catalog.relations) p ≡ None
  plan_passes =
      let operators = first_passes (check_operators (database_in pages catalog.relations) p) (refused_where (nat_le most_cursors (length cs)) why.TooManyCursors ∷ check_depth p ∷ []) parts.1 in
      let depth = first_passes (refused_where (nat_le most_cursors (length cs)) why.TooManyCursors) (check_depth p ∷ []) operators.1 in
      rw operators.0 depth.1

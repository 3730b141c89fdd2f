-- What is decided of the lines of a statement beside open cursors, by their names.
use Rattle.std.proofs.Common.{◌≡◌, ℕ, zero, suc, Bool, true, false, not, cond, List, [], ◌∷◌, ◌++◌, map, Option, Some, None, refl, sym, ◌∙◌, ap, ap₂, subst, inl, inr}
use Rattle.std.specs.Prelude.{filter}
use Rattle.std.proofs.lemmas.List.{map-append}
use Rattle.page_pool.specs.Pool.{PoolState}
use Rattle.sand_base.specs.Shelf.{Files}
use Rattle.sand_base.specs.declared.refusal.Refusal.{Refusal}
use Rattle.sand_base.specs.declared.refusal.Refusal.TheVariants as why
use Rattle.sand_model.specs.Cursor.{Cursor, OutputLine, Accepted, Refused, new_cursor}
use Rattle.sand_model.specs.Database.{same_name}
use Rattle.sand_model.specs.Outcome.{closed, uses_pages}
use Rattle.statements.specs.Plan.{Plan}
use Rattle.statements.specs.Statement.{Statement, CloseCursor, OpenCursor as Opens}
use Rattle.sand_model.specs.StatementChecks.{Setting, early}
use Rattle.sand_store.specs.Catalog.{CatalogView}
use Rattle.sand_store.specs.Contents.{database_in}
use Rattle.sand_store.specs.Sketches.{Sketch}
use Rattle.statement_exec.proofs.Decided.{found_own, after_refusal, by_early, by_memory, by_passing}
use Rattle.statement_exec.proofs.DecidedCalls.{sketched_in}
use Rattle.statement_exec.specs.Deciding.{ComesBehind, DecidesEarly, PrintsPassed}
use Rattle.statement_exec.specs.LeafLines.{state_beside}
use Rattle.statement_exec.specs.Moment.{beside}
use Rattle.statement_exec.specs.Outline.{outline_of, bare, outline_after}
use Rattle.statement_exec.specs.Performing.{IsDecided}
use Rattle.open_cursors.specs.Steps.{IsOfPages}

-- ---- lines

-- a refusal of memory or of a page comes behind the early checks of a statement that may touch pages
pub pages_come : (statement : Statement) → uses_pages statement ≡ true → (w : Refusal) → IsOfPages (Some w) → ComesBehind statement w
pages_come statement uses why.Memory h = tt
pages_come statement uses why.Device h = uses
pages_come statement uses (why.Damaged page kept read) h = uses
pages_come statement uses _ h = absurd h

-- ---- names

-- the names of cursors of which those of a name are closed
pub names_closed : (name : List ℕ) (cs : List Cursor) → map (λ (c : Cursor). c.name) (closed name cs) ≡ filter (λ (other : List ℕ). not (same_name other name)) (map (λ (c : Cursor). c.name) cs)
names_closed name [] = refl
names_closed name (c ∷ cs) =
    let go : (b : Bool) → map (λ (k : Cursor). k.name) (cond b (c ∷ closed name cs) (closed name cs))
    ≡ cond b (c.name ∷ filter (λ (other : List ℕ). not (same_name other name)) (map (λ (k : Cursor). k.name) cs))
    (filter (λ (other : List ℕ). not (same_name other name)) (map (λ (k : Cursor). k.name) cs)) = elim [
      | true ↦ ap (λ (ns : List (List ℕ)). c.name ∷ ns) (names_closed name cs)
      | false ↦ names_closed name cs
    ] in
    go (not (same_name c.name name))

-- ---- statements

module _ (catalog : CatalogView) (cs cs' : List Cursor) (old new : PoolState) (files files' : Option Files) (shelf shelf' : ℕ) where
  -- the outline of cursors with other names
  outline_named : (names : List (List ℕ)) → map (λ (c : Cursor). c.name) cs' ≡ names
      → outline_of (state_beside catalog new.pages cs') ≡ record (outline_of (state_beside catalog old.pages cs)) { cursors = names }
  outline_named names h =
      ap₂ (λ (rs : List Sketch) (ns : List (List ℕ)). record { relations = rs; cursors = ns }) (sketched_in new.pages catalog.relations ∙ sym (sketched_in old.pages catalog.relations)) h

  module _ (statement : Statement) (same : map (λ (c : Cursor). c.name) cs' ≡ map (λ (c : Cursor). c.name) cs) where
    refused_by : (w : Refusal) → ((setting : Setting) → DecidesEarly setting (bare (outline_of (state_beside catalog old.pages cs))) statement (Refused w ∷ []))
        → IsDecided statement (beside cs catalog old files shelf) (beside cs' catalog new files' shelf') (Refused w ∷ [])
    refused_by w h = λ setting s. (
      found_own files setting statement (λ own. DecidesEarly own (bare (outline_of (state_beside catalog old.pages cs))) statement (Refused w ∷ [])) s.files (h setting),
      outline_named (map (λ (c : Cursor). c.name) cs) same ∙ sym (after_refusal (outline_of (state_beside catalog old.pages cs)) statement w),
    )

    -- an early check refuses
    pub early_decides : (w : Refusal) → ((setting : Setting) → early setting (state_beside catalog old.pages cs) statement ≡ Some w)
        → IsDecided statement (beside cs catalog old files shelf) (beside cs' catalog new files' shelf') (Refused w ∷ [])
    early_decides w fails = refused_by w (λ setting. by_early setting (state_beside catalog old.pages cs) statement w (fails setting))

    -- memory is refused
    pub memory_decides : IsDecided statement (beside cs catalog old files shelf) (beside cs' catalog new files' shelf') (Refused why.Memory ∷ [])
    memory_decides = refused_by why.Memory (λ setting. by_memory setting (state_beside catalog old.pages cs) statement)

    -- no early check refuses, and the lines are those that are to be printed, which leave the outline
    pub passing_decides : (lines : List OutputLine) → ((setting : Setting) → early setting (state_beside catalog old.pages cs) statement ≡ None)
        → ((setting : Setting) → PrintsPassed setting (bare (outline_of (state_beside catalog old.pages cs))) statement lines)
        → outline_after (outline_of (state_beside catalog old.pages cs)) statement lines ≡ outline_of (state_beside catalog old.pages cs)
        → IsDecided statement (beside cs catalog old files shelf) (beside cs' catalog new files' shelf') lines
    passing_decides lines passes prints leaves = λ setting s. (
      found_own files setting statement (λ own. DecidesEarly own (bare (outline_of (state_beside catalog old.pages cs))) statement lines) s.files
          (by_passing setting (state_beside catalog old.pages cs) statement lines (passes setting) (prints setting)),
      outline_named (map (λ (c : Cursor). c.name) cs) same ∙ sym leaves,
    )

-- a cursor was closed
pub close_decides : (catalog : CatalogView) (cs : List Cursor) (pool : PoolState) (name : List ℕ) (files : Option Files) (shelf : ℕ)
    → ((setting : Setting) → early setting (state_beside catalog pool.pages cs) (CloseCursor name) ≡ None)
    → IsDecided (CloseCursor name) (beside cs catalog pool files shelf) (beside (closed name cs) catalog pool files shelf) (Accepted ∷ [])
close_decides catalog cs pool name files shelf passes = λ setting s. (
  by_passing setting (state_beside catalog pool.pages cs) (CloseCursor name) (Accepted ∷ []) (passes setting) refl,
  outline_named catalog cs (closed name cs) pool pool files files shelf shelf (filter (λ (other : List ℕ). not (same_name other name)) (map (λ (c : Cursor). c.name) cs)) (names_closed name cs),
)

-- a cursor was opened
pub open_decides : (catalog : CatalogView) (cs : List Cursor) (pool : PoolState) (name : List ℕ) (p : Plan) (files : Option Files) (shelf : ℕ)
    → ((setting : Setting) → early setting (state_beside catalog pool.pages cs) (Opens name p) ≡ None)
    → IsDecided (Opens name p) (beside cs catalog pool files shelf) (beside (cs ++ new_cursor name p (database_in pool.pages catalog.relations) ∷ []) catalog pool files shelf) (Accepted ∷ [])
open_decides catalog cs pool name p files shelf passes = λ setting s. (
  by_passing setting (state_beside catalog pool.pages cs) (Opens name p) (Accepted ∷ []) (passes setting) refl,
  outline_named catalog cs (cs ++ new_cursor name p (database_in pool.pages catalog.relations) ∷ []) pool pool files files shelf shelf (map (λ (c : Cursor). c.name) cs ++ name ∷ [])
      (map-append (λ (c : Cursor). c.name) cs (new_cursor name p (database_in pool.pages catalog.relations) ∷ [])),
)

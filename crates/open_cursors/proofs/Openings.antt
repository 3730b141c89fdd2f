-- What is written of an opening, and what becomes of the open cursors.
use Rattle.std.proofs.Common.{◌≡◌, ◌⊎◌, ℕ, Bool, true, false, List, [], ◌∷◌, ◌++◌, Option, Some, None, refl, sym, ◌∙◌, subst, inl, inr}
use Rattle.std.specs.Prelude.{Result, Ok, Err, IfOk, IsErr, IsErrAnd, OnErr}
use Rattle.best_first.proofs.Passing.{read_itself}
use Rattle.output_text.specs.Writing.{Writes, WritesPrefix}
use Rattle.page_pool.specs.Disk.{PageMap}
use Rattle.page_pool.specs.Pool.{PoolState, StampMap}
use Rattle.sand_base.specs.declared.refusal.Refusal.{Refusal}
use Rattle.sand_base.specs.declared.refusal.Refusal.TheVariants as why
use Rattle.sand_base.specs.declared.source.Failed.{Failed}
use Rattle.sand_model.specs.Checks.{check}
use Rattle.sand_model.specs.Cursor.{Cursor, Accepted, Refused, new_cursor}
use Rattle.sand_model.specs.OutputText.{IsText}
use Rattle.statements.specs.Plan.{Plan}
use Rattle.statements.specs.Statement.{OpenCursor as Opens}
use Rattle.sand_store.specs.Catalog.{CatalogView}
use Rattle.sand_store.specs.Contents.{database_in}
use Rattle.statement_exec.specs.declared.reply.Reply.TheVariants as reply
use Rattle.open_cursors.proofs.CursorOutcomes.{open_performs}
use Rattle.open_cursors.proofs.OwnNames.{own_opened}
use Rattle.open_cursors.specs.OpenCursors.{AreNamed, HaveOwnNames, StandAll}
use Rattle.open_cursors.specs.Outcomes.{PerformsBeside}
use Rattle.open_cursors.specs.declared.open_cursor.OpenCursor.{OpenCursor}
use Rattle.open_cursors.proofs.Given.{most_more}
use Rattle.open_cursors.proofs.PlanOutcomes.{memory_refused, open_refused}
use Rattle.statement_exec.proofs.Written.{answer_written}
use Rattle.open_cursors.specs.Carried.{CarriesBeside}
use Rattle.open_cursors.proofs.Checked.{name_free, plan_passes}
use Rattle.open_cursors.proofs.OneMore.{most_opened}
use Rattle.open_cursors.specs.PlanCursors.{PlanAt, ChecksGive, OpensOf}
use Rattle.plan_ops.specs.declared.source.Source.{Source}
use Rattle.plan_ops.specs.declared.stage.Stage.{Stage}

-- what the checks of an opening give, beside the cursors of a list that is shown as a slice
pub checks_given : (catalog k : CatalogView) (shown xs : List (OpenCursor Source Stage)) (name : List ℕ) (p : Plan) (result end : Option Refusal) → k ≡ catalog → shown ≡ xs → result ≡ end
    → ((stamps : StampMap) (pages : PageMap) (cs : List Cursor) → StandAll PlanAt stamps shown cs → ChecksGive k pages cs name p result)
    → (stamps : StampMap) (pages : PageMap) (cs : List Cursor) → StandAll PlanAt stamps xs cs → ChecksGive catalog pages cs name p end
checks_given catalog k shown xs name p result end here same is checks stamps pages cs all = subst (λ (m : CatalogView). ChecksGive m pages cs name p end) here
    (λ setting. checks stamps pages cs (subst (λ (ys : List (OpenCursor Source Stage)). StandAll PlanAt stamps ys cs) (sym same) all) setting ∙ is)

-- the same beside cursors of the names
pub checks_named : (catalog k : CatalogView) (shown xs : List (OpenCursor Source Stage)) (name : List ℕ) (p : Plan) (result end : Option Refusal) → k ≡ catalog → shown ≡ xs → result ≡ end
    → ((pages : PageMap) (cs : List Cursor) → AreNamed shown cs → ChecksGive k pages cs name p result)
    → (pages : PageMap) (cs : List Cursor) → AreNamed xs cs → ChecksGive catalog pages cs name p end
checks_named catalog k shown xs name p result end here same is checks pages cs all = subst (λ (m : CatalogView). ChecksGive m pages cs name p end) here
    (λ setting. checks pages cs (subst (λ (ys : List (OpenCursor Source Stage)). AreNamed ys cs) (sym same) all) setting ∙ is)

-- a refusal of the checks is handed on, and the cursors are as they were
pub handed_on : (catalog : CatalogView) (pages : PageMap) (cs : List Cursor) (name : List ℕ) (p : Plan) (e : Refusal) (r : Result (Unit {0}) Refusal) (At : List Cursor → Type 0)
    → IsErr r × IsErrAnd r (λ f. f ≡ e)
    → (e ≡ why.Memory) ⊎ ChecksGive catalog pages cs name p (Some e) → At cs → OpensOf catalog pages cs name p r At
handed_on catalog pages cs name p e (Ok x) At h checks at = absurd h.1
handed_on catalog pages cs name p e (Err f) At h checks at = (subst (λ (w : Refusal). (w ≡ why.Memory) ⊎ ChecksGive catalog pages cs name p (Some w)) (sym h.1) checks, at)

-- the plan is refused, though no check of the opening fails: it is memory
pub only_memory : (catalog : CatalogView) (pages : PageMap) (cs : List Cursor) (name : List ℕ) (p : Plan) (w : Refusal) → ChecksGive catalog pages cs name p None
    → ((w ≡ why.Memory) ⊎ ((pages : PageMap) → check (database_in pages catalog.relations) p ≡ Some w)) → (w ≡ why.Memory) ⊎ ChecksGive catalog pages cs name p (Some w)
only_memory catalog pages cs name p w passes (inl memory) = inl memory
only_memory catalog pages cs name p w passes (inr fails) = let some = fails pages in let none = plan_passes catalog pages cs name p passes in absurd cc

module _ (catalog : CatalogView) (pages : PageMap) (cs : List Cursor) (own : HaveOwnNames cs) (pool : PoolState) (same : pool.pages ≡ pages) (name : List ℕ) (p : Plan)
    (a b : List ℕ → Type 0) (At : List Cursor → Type 0) (r : Result Bool Failed) where
  -- a cursor was opened
  opened : (m : PageMap) → pool.pages ≡ m → OpensOf catalog m cs name p (Ok tt) At
      → IfOk r (λ refused. (refused ≡ false) × Writes (IsText (Accepted ∷ [])) a b) → OnErr r (WritesPrefix (IsText (Accepted ∷ [])) a b)
      → CarriesBeside (Opens name p) catalog pool pool cs a b r At
  opened m is h line part =
      let here : OpensOf catalog pool.pages cs name p (Ok tt) At = subst (λ (k : PageMap). OpensOf catalog k cs name p (Ok tt) At) (sym is) h in
      let new : Cursor = new_cursor name p (database_in pool.pages catalog.relations) in
      record {
        after = cs ++ new ∷ [];
        own = own_opened cs name new (name_free catalog pool.pages cs name p here.0) refl own;
        at = here.1;
        given = λ bound few. most_opened bound 0 cs new refl few;
        writes = answer_written (PerformsBeside (Opens name p) catalog pool pool cs (cs ++ new ∷ [])) a b (Ok reply.Accepted) (open_performs catalog cs pool name p here.0) r line part;
      }

  pub opened_carried : OpensOf catalog pages cs name p (Ok tt) At
      → IfOk r (λ refused. (refused ≡ false) × Writes (IsText (Accepted ∷ [])) a b) → OnErr r (WritesPrefix (IsText (Accepted ∷ [])) a b)
      → CarriesBeside (Opens name p) catalog pool pool cs a b r At
  opened_carried = opened pages same

  -- the opening was refused
  refuses : (w : Refusal) (m : PageMap) → pool.pages ≡ m → (w ≡ why.Memory) ⊎ ChecksGive catalog m cs name p (Some w) → PerformsBeside (Opens name p) catalog pool pool cs cs (Refused w ∷ [])
  refuses w m is (inl memory) =
      subst (λ (x : Refusal). PerformsBeside (Opens name p) catalog pool pool cs cs (Refused x ∷ [])) (sym memory) (memory_refused catalog cs pool pool (read_itself pool) (Opens name p))
  refuses w m is (inr fails) =
      open_refused catalog cs pool pool (read_itself pool) name p w (subst (λ (k : PageMap). ChecksGive catalog k cs name p (Some w)) (sym is) fails)

  pub unopened_carried : (w : Refusal) → OpensOf catalog pages cs name p (Err w) At
      → IfOk r (λ refused. (refused ≡ true) × Writes (IsText (Refused w ∷ [])) a b) → OnErr r (WritesPrefix (IsText (Refused w ∷ [])) a b)
      → CarriesBeside (Opens name p) catalog pool pool cs a b r At
  unopened_carried w h line part = record {
    after = cs;
    own = own;
    at = h.1;
    given = λ bound few. most_more bound 0 cs few;
    writes = answer_written (PerformsBeside (Opens name p) catalog pool pool cs cs) a b (Err w) (refuses w pages same h.0) r line part;
  }

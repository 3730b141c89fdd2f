-- What the rows farthest from a point are of the model's outcome, beside open cursors.
use Rattle.std.proofs.Common.{◌≡◌, ◌⊎◌, ◌<◌, ℕ, Bool, true, List, [], ◌∷◌, ◌++◌, map, Option, Some, None, refl, sym, ◌∙◌, ap, ap₂, subst, inl, inr, true≢false}
use Rattle.std.specs.Prelude.{Result, Ok, Err, IfOk, OnErr}
use Rattle.std.proofs.lemmas.List.{append-nil}
use Rattle.best_first.proofs.Passing.{read_itself}
use Rattle.output_text.specs.Writing.{Writes, WritesPrefix}
use Rattle.page_pool.specs.Disk.{PageMap}
use Rattle.page_pool.specs.Pool.{PoolState, IsTold}
use Rattle.page_pool.specs.Reads.{IsRead}
use Rattle.sand_base.specs.Faults.{last_count}
use Rattle.sand_base.specs.Shape.{is_spatial}
use Rattle.sand_base.specs.Shelf.{Files}
use Rattle.sand_base.specs.declared.point.Point.{Point}
use Rattle.sand_base.specs.declared.refusal.Refusal.{Refusal}
use Rattle.sand_base.specs.declared.refusal.Refusal.TheVariants as why
use Rattle.sand_base.specs.declared.shape.Shape.{Shape}
use Rattle.sand_base.specs.declared.shape.Shape.TheVariants as shape
use Rattle.sand_base.specs.declared.source.Failed.{Failed}
use Rattle.sand_model.specs.Answer.{single_row}
use Rattle.sand_model.specs.Checks.{check_column, first_refusal}
use Rattle.sand_model.specs.Cursor.{Cursor, OutputLine, Refused}
use Rattle.sand_model.specs.Measure.{Measure}
use Rattle.sand_model.specs.Outcome.{IsLicensed, PrintsFirst, far_lines, first_lines}
use Rattle.sand_model.specs.OutputText.{IsText}
use Rattle.sand_model.specs.Sources.{column_shapes, far_rows}
use Rattle.sand_model.specs.StatementChecks.{Setting, early, check_depth}
use Rattle.statements.specs.Plan as plan
use Rattle.statements.specs.Plan.{Plan}
use Rattle.statements.specs.Statement.{Far}
use Rattle.statements.specs.declared.column.Column.{Column}
use Rattle.sand_store.specs.Catalog.{CatalogView, IsCatalog}
use Rattle.sand_store.specs.Contents.{database_in}
use Rattle.far_cursor.specs.FarCursor.{BeginsFar, LacksColumn, shapes_in}
use Rattle.far_cursor.specs.declared.far_tree.FarTree.{FarTree}
use Rattle.sand_store.specs.declared.column.FileShapes.{FileShapes}
use Rattle.z_code.specs.declared.block.Block.{Block}
use Rattle.best_first.specs.declared.hit.Hit.{Hit}
use Rattle.best_first.specs.declared.item.Item.{Item}
use Rattle.plan_sources.specs.Rankings.{by_code}
use Rattle.plan_iterator.specs.Rows.{plan_measure}
use Rattle.statement_exec.proofs.CausedLines.{caused_behind, caused_inside, caused_plain, caused_refusal, caused_up_to, check_blames_none}
use Rattle.statement_exec.proofs.Outcomes.{outcome_done, outcome_early}
use Rattle.statement_exec.proofs.PlanChecks.{show_refuses}
use Rattle.statement_exec.proofs.Refusals.{caused, rose}
use Rattle.statement_exec.proofs.SomeSetting.{some_setting}
use Rattle.statement_exec.proofs.Texts.{breaks_with}
use Rattle.statement_exec.proofs.Written.{answer_written, ending_written, some_written}
use Rattle.statement_exec.proofs.CountedRows.{rows_so}
use Rattle.statement_exec.specs.Causes.{AreCausedIn}
use Rattle.statement_exec.specs.Deciding.{ComesBehind, PrintsRowsUpTo}
use Rattle.statement_exec.specs.Ending.{IsCausedByPages, PagesHaveCause, WritesUpTo, is_refusal, refused_line}
use Rattle.statement_exec.specs.LeafLines.{IsOfCheck, state_beside}
use Rattle.statement_exec.specs.Moment.{beside, rises_between}
use Rattle.statement_exec.specs.Printing.{PrintsSome, WritesOf}
use Rattle.open_cursors.proofs.CausedSteps.{pages_no_file}
use Rattle.open_cursors.proofs.DecidedCursors.{early_decides, pages_come, passing_decides}
use Rattle.open_cursors.proofs.PlanOutcomes.{memory_refused}
use Rattle.open_cursors.specs.FarthestLines.{AreUpTo, AreWholeOrRefused, BreaksFound, WritesFound, far_found, first_found}
use Rattle.open_cursors.specs.Outcomes.{PerformsBeside}
use Rattle.open_cursors.specs.Steps.{IsOfPages}

module _ (catalog : CatalogView) (count : ℕ) (column : Column) (goal : Point) (cs : List Cursor) where
  -- a refusal of the column's checks speaks of nothing outside
  of_check : (setting : Setting) (pages : PageMap) (w : Refusal) → check_column (database_in pages catalog.relations) column is_spatial ≡ Some w → IsOfCheck w
  of_check setting pages w fails =
      let ranking : Plan = plan.Rank column (shape.Point goal) None in
      show_refuses setting (state_beside catalog pages cs) count ranking w (ap (λ (o : Option Refusal). first_refusal (o ∷ check_depth ranking ∷ [])) fails)

  module _ (old new : PoolState) (read : IsRead old new) where
    -- some setting of the catalog over these pages
    abbrev any_setting : Setting
    any_setting = some_setting (record { catalog = catalog; pool = old })

    abbrev May : Option Files → ℕ → Setting → Refusal → Type 0
    May files shelf setting = IsLicensed setting (rises_between (beside cs catalog old files shelf) (beside cs catalog new files shelf)) (state_beside catalog old.pages cs) (Far count column goal)

    -- a check refuses
    far_refused : (w : Refusal) → check_column (database_in old.pages catalog.relations) column is_spatial ≡ Some w → PerformsBeside (Far count column goal) catalog old new cs cs (Refused w ∷ [])
    far_refused w fails = λ files shelf. (
      (
        caused_inside (beside cs catalog old files shelf) (beside cs catalog new files shelf) w (check_blames_none w (of_check any_setting old.pages w fails)),
        early_decides catalog cs cs old new files files shelf shelf (Far count column goal) refl w (λ setting. fails),
      ),
      λ told disk few setting gap s.
          outcome_early setting (rises_between (beside cs catalog old files shelf) (beside cs catalog new files shelf)) (state_beside catalog old.pages cs)
          (Far count column goal) (Refused w ∷ []) (state_beside catalog new.pages cs)
          w fails (caused (rises_between (beside cs catalog old files shelf) (beside cs catalog new files shelf)) w (of_check setting old.pages w fails))
          (refl, ap (λ m. state_beside catalog m cs) read.pages),
    )

    module _ (passes : check_column (database_in old.pages catalog.relations) column is_spatial ≡ None) where
      -- the lines of the model
      abbrev the_lines : List OutputLine
      the_lines = far_lines plan_measure (database_in old.pages catalog.relations) count column goal

      -- lines that are those of the model over pages that are told
      performs : (lines : List OutputLine) → AreCausedIn old new lines → PrintsRowsUpTo (ComesBehind (Far count column goal)) count lines
          → ((files : Option Files) (shelf : ℕ) → IsTold old → new.disk.faults < last_count → (setting : Setting) → PrintsFirst (May files shelf setting) the_lines lines)
          → PerformsBeside (Far count column goal) catalog old new cs cs lines
      performs lines cause decided prints = λ files shelf. (
        (
          cause files shelf cs cs catalog,
          passing_decides catalog cs cs old new files files shelf shelf (Far count column goal) refl lines (λ setting. passes) (λ setting. decided) refl,
        ),
        λ told disk few setting gap s.
            let measured : PrintsFirst (May files shelf setting) (far_lines setting.gap (database_in old.pages catalog.relations) count column goal) lines =
            subst (λ (g : Measure). PrintsFirst (May files shelf setting) (far_lines g (database_in old.pages catalog.relations) count column goal) lines) (sym gap)
            (prints files shelf told disk setting) in
            outcome_done setting (rises_between (beside cs catalog old files shelf) (beside cs catalog new files shelf)) (state_beside catalog old.pages cs)
            (Far count column goal) lines (state_beside catalog new.pages cs)
            passes refl (measured, ap (λ m. state_beside catalog m cs) read.pages),
      )

      -- a fault of a page is licensed
      licensed : (files : Option Files) (shelf : ℕ) (setting : Setting) (w : Refusal) → IsOfPages (Some w) → IsCausedByPages old new w → IsTold old
          → new.disk.faults < last_count → May files shelf setting w
      licensed files shelf setting why.Memory o c t l = tt
      licensed files shelf setting why.Device o c t l = ((refl, passes), rose old.disk.faults new.disk.faults (ap (λ (n : ℕ × ℕ). n.0) c.counted) l)
      licensed files shelf setting (why.Damaged n kept read') o c t l = absurd (true≢false (sym (read.told ∙ t) ∙ c.damaged.damage.untold))
      licensed files shelf setting _ o c t l = absurd o

      -- all lines, or the first of them and a refusal
      prints_to : (lines : List OutputLine) (end : Option Refusal) → IsOfPages end → PagesHaveCause {E = Failed} old new (Ok end) → (IsTold old → AreUpTo the_lines end lines)
          → (files : Option Files) (shelf : ℕ) → IsTold old → new.disk.faults < last_count → (setting : Setting) → PrintsFirst (May files shelf setting) the_lines (lines ++ refused_line end)
      prints_to lines None o cause first files shelf t l setting = inl (append-nil lines ∙ first t)
      prints_to lines (Some w) o cause first files shelf t l setting = inr (lines, (first t).0, w, licensed files shelf setting w o cause t l, (first t).1, refl)

      up_to : (a b : List ℕ → Type 0) (end : Option Refusal) → IsOfPages end → PagesHaveCause {E = Failed} old new (Ok end) → WritesFound (IsTold old) count the_lines end a b
          → WritesUpTo (PerformsBeside (Far count column goal) catalog old new cs cs) end a b
      up_to a b end o cause k = record {
        lines = k.lines;
        written = k.written;
        accepted = k.plain;
        holds = performs (k.lines ++ refused_line end) (caused_up_to Failed old new k.lines end k.plain read.told cause (pages_no_file end o))
            (rows_so (λ w. end ≡ Some w) (ComesBehind (Far count column goal)) (λ w e. pages_come (Far count column goal) refl w (subst IsOfPages e o)) count (k.lines ++ refused_line end) k.counted)
            (prints_to k.lines end o cause k.first);
      }

      -- the lines with that of their refusal
      pub found_written : (a b c : List ℕ → Type 0) (end : Option Refusal) → IsOfPages end → PagesHaveCause {E = Failed} old new (Ok end)
          → WritesFound (IsTold old) count the_lines end a b → (r : Result Bool Failed)
          → IfOk r (λ refused. (refused ≡ is_refusal end) × Writes (IsText (refused_line end)) b c) → OnErr r (WritesPrefix (IsText (refused_line end)) b c)
          → WritesOf (PerformsBeside (Far count column goal) catalog old new cs cs) a c r
      found_written a b c end o cause k = ending_written (PerformsBeside (Far count column goal) catalog old new cs cs) a b c end (up_to a b end o cause k)

      -- a prefix of the first lines, before a refusal of memory
      pub found_broken : (a b : List ℕ → Type 0) → BreaksFound (IsTold old) count the_lines a b → WritesPrefix (PrintsSome (PerformsBeside (Far count column goal) catalog old new cs cs)) a b
      found_broken a b k = go k.counted where
        go : AreWholeOrRefused (IsTold old) count the_lines k.lines → WritesPrefix (PrintsSome (PerformsBeside (Far count column goal) catalog old new cs cs)) a b
        go (inl (is, whole)) =
            some_written (PerformsBeside (Far count column goal) catalog old new cs cs) a b k.lines
            (performs k.lines (λ files shelf cs cs' catalog. caused_plain (beside cs catalog old files shelf) (beside cs' catalog new files shelf) k.lines k.plain)
            (rows_so (λ w. ⊥) (ComesBehind (Far count column goal)) (λ w none. absurd none) count k.lines whole)
            (λ files shelf t l setting. inl (is t))) k.broken
        go (inr memory) =
            breaks_with (PerformsBeside (Far count column goal) catalog old new cs cs) a b k.lines why.Memory
            (performs (k.lines ++ Refused why.Memory ∷ [])
            (λ files shelf cs cs' catalog. caused_behind (beside cs catalog old files shelf) (beside cs' catalog new files shelf) k.lines (Refused why.Memory ∷ []) k.plain
            (caused_refusal (beside cs catalog old files shelf) (beside cs' catalog new files shelf) why.Memory tt))
            (rows_so (λ w. w ≡ why.Memory) (ComesBehind (Far count column goal)) (λ w e. subst (ComesBehind (Far count column goal)) (sym e) tt) count (k.lines ++ Refused why.Memory ∷ []) memory)
            (λ files shelf t l setting. inr (k.lines, (k.first t).0, why.Memory, tt, (k.first t).1, refl)))
            k.broken

  -- a check fails, or memory does
  pub not_started : (pool : PoolState) (a b : List ℕ → Type 0) (w : Refusal) (named : Column) → named ≡ column → IsCatalog catalog
      → (w ≡ why.Memory) ⊎ (IsCatalog catalog → (pages : PageMap) → LacksColumn catalog named w pages) → (r : Result Bool Failed)
      → IfOk r (λ refused. (refused ≡ true) × Writes (IsText (Refused w ∷ [])) a b) → OnErr r (WritesPrefix (IsText (Refused w ∷ [])) a b)
      → WritesOf (PerformsBeside (Far count column goal) catalog pool pool cs cs) a b r
  not_started pool a b w named same described h r line part = answer_written (PerformsBeside (Far count column goal) catalog pool pool cs cs) a b (Err w) (refuses h) r line part where
    refuses : (w ≡ why.Memory) ⊎ (IsCatalog catalog → (pages : PageMap) → LacksColumn catalog named w pages) → PerformsBeside (Far count column goal) catalog pool pool cs cs (Refused w ∷ [])
    refuses (inl memory) =
        subst (λ (x : Refusal). PerformsBeside (Far count column goal) catalog pool pool cs cs (Refused x ∷ [])) (sym memory)
        (memory_refused catalog cs pool pool (read_itself pool) (Far count column goal))
    refuses (inr fails) = far_refused pool pool (read_itself pool) w (subst (λ (x : Column). LacksColumn catalog x w pool.pages) same (fails described pool.pages))

-- the lines of a search from this point over the column's shapes are those of the model
pub found_are : (catalog : CatalogView) (pages : PageMap) (count : ℕ) (column : Column) (goal : Point) (tree : FarTree FileShapes)
    → column_shapes (database_in pages catalog.relations) column ≡ shapes_in tree.shapes pages → tree.goal ≡ goal
    → first_found count (far_found tree pages) ≡ far_lines plan_measure (database_in pages catalog.relations) count column goal
found_are catalog pages count column goal tree shapes from =
    ap₂ (λ (p : Point) (list : List (ℕ × Shape)). first_lines count (map single_row (far_rows plan_measure p list))) from (sym shapes)

-- the column that a search was begun over
module _ (catalog : CatalogView) (count : ℕ) (named column : Column) (same : named ≡ column) (goal : Point) (cs : List Cursor) (old new : PoolState) (read : IsRead old new)
    (tree : FarTree FileShapes) (held : List (Item Block)) (last : Option Hit) (begun : BeginsFar by_code catalog named goal tree held last old.pages) where
  here : BeginsFar by_code catalog column goal tree held last old.pages
  here = subst (λ (x : Column). BeginsFar by_code catalog x goal tree held last old.pages) same begun

  are : first_found count (far_found tree old.pages) ≡ far_lines plan_measure (database_in old.pages catalog.relations) count column goal
  are = found_are catalog old.pages count column goal tree here.rows here.from

  -- what it printed, up to its end or to a refusal
  pub begun_written : (a b c : List ℕ → Type 0) (end : Option Refusal) → IsOfPages end → PagesHaveCause {E = Failed} old new (Ok end)
      → WritesFound (IsTold old) count (first_found count (far_found tree old.pages)) end a b
      → (r : Result Bool Failed) → IfOk r (λ refused. (refused ≡ is_refusal end) × Writes (IsText (refused_line end)) b c) → OnErr r (WritesPrefix (IsText (refused_line end)) b c)
      → WritesOf (PerformsBeside (Far count column goal) catalog old new cs cs) a c r
  begun_written a b c end o cause k =
      found_written catalog count column goal cs old new read here.passes a b c end o cause (subst (λ (all : List OutputLine). WritesFound (IsTold old) count all end a b) are k)

  -- a prefix of it
  pub begun_broken : (a b : List ℕ → Type 0) → BreaksFound (IsTold old) count (first_found count (far_found tree old.pages)) a b
      → WritesPrefix (PrintsSome (PerformsBeside (Far count column goal) catalog old new cs cs)) a b
  begun_broken a b k = found_broken catalog count column goal cs old new read here.passes a b (subst (λ (all : List OutputLine). BreaksFound (IsTold old) count all a b) are k)

-- What the rows of a load do that enter their relation.
use Rattle.std.specs.Prelude.{ℕ, List, [], ◌∷◌, Option, Result}
use Rattle.sand_base.specs.Shelf.{Files}
use Rattle.sand_base.specs.declared.refusal.Refusal.{Refusal}
use Rattle.sand_base.specs.declared.value.Value.{Value}
use Rattle.sand_model.specs.Cursor.{Cursor}
use Rattle.statements.specs.Statement.{Load}
use Rattle.sand_store.specs.Catalog.{StoreState}
use Rattle.statement_exec.specs.Loading.{LoadOf, InSettings, Yields}
use Rattle.statement_exec.specs.Moment.{while_open}
use Rattle.statement_exec.specs.Performing.{Performs, line_of_answer}
use Rattle.statement_exec.specs.declared.reply.Reply.{Reply}

-- where these are the rows that a load reads, it was carried out and answered so, whatever cursors are open
abbrev pub EntersRows : LoadOf → StoreState → StoreState → List (List Value) → Result Reply Refusal → Type 0
EntersRows load old new rows answer =
    (files : Option Files) (shelf : ℕ) (cs : List Cursor) → InSettings old.catalog files (λ setting state. Yields setting state load rows)
    → Performs (Load load.relation load.file load.header) (while_open old files shelf cs) (while_open new files shelf cs) (line_of_answer answer ∷ [])

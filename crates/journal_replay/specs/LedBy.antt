-- A store that changes led from one state to another.
use Rattle.std.specs.Prelude.{◌≡◌, List, [], ◌∷◌, ◌++◌, length}
use Rattle.page_pool.specs.Pool.{IsTold}
use Rattle.sand_journal.specs.ChangeBody.{ChangeValue, Line, Rows}
use Rattle.sand_store.specs.Calls.{Carries, Within}
use Rattle.sand_store.specs.Catalog.{StoreState}
use Rattle.sand_store.specs.Contents.{database}
use Rattle.sand_store.specs.Sketches.{Sketch, sketches, new_sketch, with_ids, with_indexed, with_treed, sketched_at}
use Rattle.statements.specs.Statement.{Create, Index, Rtree}
use Rattle.journal_replay.specs.ChangedDatabase.{changed_by, world_after, TakesChange, TakesAll}

-- the sketches of relations after a change
abbrev pub sketched_by : ChangeValue → List Sketch → List Sketch
sketched_by (Line (Create relation columns)) old = old ++ new_sketch relation columns ∷ []
sketched_by (Line (Index column threshold)) old = sketched_at column.relation (with_indexed column.column) old
sketched_by (Line (Rtree column)) old = sketched_at column.relation (with_treed column.column) old
sketched_by (Line _) old = old
sketched_by (Rows relation encodings) old = sketched_at relation (with_ids (length encodings)) old

-- the sketches of relations after changes, one after the other
abbrev pub sketches_after : List ChangeValue → List Sketch → List Sketch
sketches_after [] old = old
sketches_after (change ∷ changes) old = sketches_after changes (sketched_by change old)

-- A change led a store from one state to another: its sketches changed so, and where the disk tells, its database took the change.
pub record LedByOne (change : ChangeValue) (old new : StoreState) : Type 0 where
  pub carries : Carries old new
  pub sketched : sketches new ≡ sketched_by change (sketches old)
  pub takes : IsTold old.pool → Within old (λ setting. TakesChange setting change (database old))
  pub becomes : IsTold old.pool → Within old (λ setting. database new ≡ changed_by setting change (database old))

-- Changes led a store from one state to another: its sketches changed so, and where the disk tells, its database took them all.
pub record LedBy (changes : List ChangeValue) (old new : StoreState) : Type 0 where
  pub carries : Carries old new
  pub sketched : sketches new ≡ sketches_after changes (sketches old)
  pub takes : IsTold old.pool → Within old (λ setting. TakesAll setting changes (database old))
  pub becomes : IsTold old.pool → Within old (λ setting. database new ≡ world_after setting changes (database old))

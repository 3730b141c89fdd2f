-- A call of a source: it gives the next row of its list, and its visits lie within the reach of what it then has taken.
use Rattle.std.specs.Prelude.{◌≡◌, ℕ, ◌+◌, ◌-◌, ◌≤◌, ◌<◌, min, true, false, cond, nat_lt, List, [], ◌++◌, length, All, Option, None, Some, Result, Ok, Err, OnOk, ⊤}
use Rattle.sand_base.specs.Faults.{last_count}
use Rattle.sand_base.specs.declared.visit.Visit.{Visit}
use Rattle.page_pool.specs.Desk.{DeskState}
use Rattle.page_pool.specs.Disk.{PageMap}
use Rattle.page_pool.specs.declared.fault.PageFault.{PageFault}
use Rattle.sand_model.specs.Answer.{source}
use Rattle.sand_model.specs.Cursor.{AreBetween}
use Rattle.sand_model.specs.Database.{Database, element}
use Rattle.statements.specs.Plan.{Plan}
use Rattle.sand_model.specs.Reach.{Counts, reach, counts_at, innermost}
use Rattle.sand_model.specs.Taken.{Taken}
use Rattle.plan_iterator.specs.Rows.{plan_measure, row_of}
use Rattle.plan_iterator.specs.Visited.{◌plus◌, visit_counts, LiesWithin}
use Rattle.plan_iterator.specs.declared.answer.Answer.{Answer}

-- nothing was taken
abbrev pub nothing_taken : Taken
nothing_taken = record { rows = 0; is_ended = false }

-- what is taken after one more call: the next row, or the end where no row is left
abbrev pub next_taken : Database → Plan → Taken → Taken
next_taken d p t =
    cond (nat_lt t.rows (length (source plan_measure d p))) (record { rows = t.rows + 1; is_ended = false })
    (record { rows = t.rows; is_ended = true })

-- what is taken after a call: a refused one takes nothing
abbrev pub taken_after : Database → Plan → Taken → Result (Option Answer) PageFault → Taken
taken_after d p t (Ok given) = next_taken d p t
taken_after d p t (Err fault) = t

-- a row that is given is the next one of the source, and at the end none is left
abbrev pub GivesSourceRow : Database → Plan → Taken → Result (Option Answer) PageFault → Type 0
GivesSourceRow d p t (Ok (Some a)) = element (source plan_measure d p) t.rows ≡ Some (row_of a)
GivesSourceRow d p t (Ok None) = element (source plan_measure d p) t.rows ≡ None
GivesSourceRow d p t (Err fault) = ⊤

-- the counts of the source when so much was taken
abbrev pub counts_taken : Database → Plan → Taken → Counts
counts_taken d p t = counts_at plan_measure d (innermost p) (reach plan_measure d p t)

-- all nodes, blocks and pairs of blocks
abbrev pub node_count : Counts → ℕ
node_count c = c.blocks + c.pairs

-- The visits of a call: they were noted behind those before, those completed and after them, only in a refused call, at most one that was
-- attempted in vain; each lies within the reach of what would be taken next, over these pages. The counts rise by just the completed ones,
-- to at most those of that reach, and are these after a row and at the end. At least one page get was made for each node that was counted.
pub record MakesVisits (pages : PageMap) (d : Database) (p : Plan) (t : Taken) (before now : Counts) (old new : DeskState) (result : Result (Option Answer) PageFault) : Type 0 where
  pub completed : List Visit
  pub attempted : List Visit
  pub log : new.visits ≡ old.visits ++ (completed ++ attempted)
  pub few : length attempted ≤ 1
  pub settled : OnOk result (attempted ≡ [])
  pub counted : now ≡ before plus visit_counts completed
  pub near : All (LiesWithin plan_measure pages d p (reach plan_measure d p (next_taken d p t))) (completed ++ attempted)
  pub between : AreBetween before (counts_taken d p (next_taken d p t)) now
  pub exact : OnOk result (now ≡ counts_taken d p (next_taken d p t))
  pub rose : min (old.pool.gets + (node_count now - node_count before)) last_count ≤ new.pool.gets

-- A call of a source of which so much was taken.
pub record SourceStep (pages : PageMap) (d : Database) (p : Plan) (t : Taken) (before now : Counts) (old new : DeskState) (result : Result (Option Answer) PageFault)
    (At : Taken → Type 0) : Type 0 where
  pub row : GivesSourceRow d p t result
  pub at : At (taken_after d p t result)
  pub visits : MakesVisits pages d p t before now old new result

-- a row lowers the number, and no answer raises it
abbrev pub FallsAtRow : ℕ → ℕ → Result (Option Answer) PageFault → Type 0
FallsAtRow old new (Ok (Some a)) = new < old
FallsAtRow old new (Ok None) = new ≤ old
FallsAtRow old new (Err fault) = new ≤ old

-- A run of a workload whose text was only counted, before its summary is written.
use Rattle.std.specs.Prelude.{ℕ, Bool, true, false, ⊤, List, None, Some}
use Rattle.page_pool.specs.Disk.{DiskView}
use Rattle.work_gen.specs.Taken.{HasTallied}
use Rattle.work_gen.specs.declared.tally_sink.TallySink.{TallySink}
use Rattle.sand_base.specs.declared.limits.Limits.{Limits}
use Rattle.sand_model.specs.Cursor.{State}
use Rattle.statement_exec.specs.Moment.{Moment}
use Rattle.statement_exec.specs.Printing.{Prints}
use Rattle.work_gen.specs.Workload.{workload}
use Rattle.work_gen.specs.EmptyFiles.{empty_files}
use Rattle.session.specs.Outside.{Outside, outside_of}
use Rattle.session.specs.Ends.{RunsOver, Ends, first_moment, last_moment}
use Rattle.session.specs.declared.status.Status.{Status}
use Rattle.session.specs.declared.status.Status.TheVariants as status

-- what is outside of a run over empty data files, but for its source and its sink
abbrev pub without_streams : DiskView → Outside
without_streams disk = outside_of None 0 (Some empty_files) 0 disk (λ text. ⊤) 0

-- a run over the lines of the workload led from one moment to another, and the sink has taken its text
pub record HasRun (n : ℕ) (some_refused : Bool) (first last : Moment) (tally : TallySink) : Type 0 where
  pub text : List ℕ
  pub printed : Prints (RunsOver first last (workload n)) some_refused text
  pub taken : HasTallied tally text

-- how the run ended, by its status
abbrev pub Tallies : ℕ → Status → Limits → Outside → Outside → TallySink → Type 0
Tallies n status.Done limits old new tally = (last : State) × HasRun n false (first_moment limits old new) (last_moment limits old new last) tally
Tallies n status.SomeRefused limits old new tally = (last : State) × HasRun n true (first_moment limits old new) (last_moment limits old new last) tally
Tallies n status.NoMemory limits old new tally = Ends status.NoMemory limits old new
Tallies n status.DiskNotStarted limits old new tally = Ends status.DiskNotStarted limits old new
Tallies n _ limits old new tally = ⊥

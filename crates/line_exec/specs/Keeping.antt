-- What a line does to the journal that keeps its change, where there is one, and why it ends a run.
use Rattle.std.specs.Prelude.{◌≡◌, ⊤, ℕ, ◌+◌, ◌-◌, ◌^◌, ◌≤◌, Bool, true, false, List, Option, Some, None, is_some, Result, Ok, Err, OnOk}
use Rattle.page_pool.specs.Causes.{failures_of}
use Rattle.page_pool.specs.Pool.{PoolState}
use Rattle.sand_base.specs.Faults.{next_count}
use Rattle.sand_base.specs.Streams.{Stays}
use Rattle.sand_base.specs.declared.source.Failed.{Failed}
use Rattle.sand_journal.specs.Journal.{IsReady}
use Rattle.sand_journal.specs.Tape.{TapeView}
use Rattle.sand_journal.specs.declared.journal.Journal.{Journal}
use Rattle.statement_exec.specs.Moment.{Moment}
use Rattle.line_exec.specs.declared.fault.LineFault.{LineFault}
use Rattle.line_exec.specs.declared.fault.LineFault.TheVariants as fault

-- the most bytes by which a line lengthens a journal
abbrev pub most_kept : ℕ
most_kept = 2 ^ 32 + 5

-- a journal that ends here or before has room for one more line
abbrev pub last_end : ℕ
last_end = 2 ^ 63 - 2 ^ 33

-- The journal, where there is one, takes records, and it ends at this byte or before.
abbrev pub TakesUpTo : {T : Type 0} → (T → TapeView) → ℕ → Option (Journal T) → Type 0
TakesUpTo seen bound None = ⊤
TakesUpTo seen bound (Some journal) = IsReady seen journal × (journal.end ≤ bound)

-- Behind a line there is a journal where there was one, and unless the line ended the run it takes records on.
pub record KeepsOn {T : Type 0} (seen : T → TapeView) (old new : Option (Journal T)) (result : Result Bool LineFault) : Type 0 where
  pub there : is_some new ≡ is_some old
  pub takes : (bound : ℕ) → TakesUpTo seen bound old → OnOk result (TakesUpTo seen (bound + most_kept) new)

-- the count of the journal's tape, 0 where there is no journal
abbrev pub tape_count : {T : Type 0} → (T → TapeView) → Option (Journal T) → ℕ
tape_count seen None = 0
tape_count seen (Some journal) = (seen journal.tape).faults

-- the sink's count behind a line
abbrev pub sink_behind : ℕ → Result Bool LineFault → ℕ
sink_behind n (Err fault.Sink) = next_count n
sink_behind n _ = n

-- the tape's count behind a line
abbrev pub tape_behind : ℕ → Result Bool LineFault → ℕ
tape_behind n (Err fault.Journal) = next_count n
tape_behind n _ = n

-- Why a line ended the run, if it did: the sink's count or the tape's rose by one, and else neither.
pub record HasLineCause (sink sink' tape tape' : ℕ) (result : Result Bool LineFault) : Type 0 where
  pub of_sink : sink' ≡ sink_behind sink result
  pub of_tape : tape' ≡ tape_behind tape result

-- what the sink did, whatever ended the line: where the journal failed, it took a prefix that is empty
abbrev pub sink_result : Result Bool LineFault → Result Bool Failed
sink_result (Ok refused) = Ok refused
sink_result (Err why) = Err (record {})

-- Neither a count of the pool's failures nor the shelf's rose.
pub record IsCountedAlike (old new : PoolState) (opens opens' : ℕ) : Type 0 where
  pub failures : failures_of new ≡ failures_of old
  pub shelf : opens' ≡ opens

-- a line that was accepted found no failed disk and no damaged page
abbrev pub AcceptsUnfailed : PoolState → PoolState → Result Bool LineFault → Type 0
AcceptsUnfailed old new (Ok false) = failures_of new ≡ failures_of old
AcceptsUnfailed old new (Ok true) = ⊤
AcceptsUnfailed old new (Err why) = ⊤

-- Where the journal failed, the sink took nothing of the line, and no count but the tape's rose.
abbrev pub IsUntold : (List ℕ → Type 0) → (List ℕ → Type 0) → Moment → Moment → LineFault → Type 0
IsUntold before now old new fault.Sink = ⊤
IsUntold before now old new fault.Journal = Stays before now × (new.disk ≡ old.disk) × (new.shelf ≡ old.shelf)

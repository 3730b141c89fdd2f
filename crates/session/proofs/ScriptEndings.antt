-- How a run on a store ends, told by what is outside.
use Rattle.std.proofs.Common.{◌≡◌, ℕ, Bool, false, List, [], Option, refl, sym, ap, ◌∙◌, subst}
use Rattle.std.specs.Prelude.{⊤}
use Rattle.page_pool.specs.Disk.{DiskView}
use Rattle.page_pool.specs.Pool.{new_pool}
use Rattle.sand_base.specs.Shelf.{Files}
use Rattle.sand_base.specs.declared.limits.Limits.{Limits}
use Rattle.sand_journal.specs.ChangeBody.{ChangeValue}
use Rattle.sand_model.specs.Cursor.{State}
use Rattle.sand_model.specs.Run.{no_state}
use Rattle.sand_store.specs.Catalog.{StoreState, new_catalog}
use Rattle.sand_store.specs.Contents.{database}
use Rattle.script_lines.specs.Reading.{ReadsLines}
use Rattle.script_lines.specs.declared.script_lines.ScriptLines.{ScriptLines}
use Rattle.statement_exec.specs.Moment.{Moment, moment_of, state_with}
use Rattle.session.specs.Outside.{Outside, outside_of}
use Rattle.session.specs.Ends.{HasBegun, EndsBetween, Ends, EndsFrom, EndsTo, IsTaken, RunsOver, first_moment, last_moment, standard_limits}
use Rattle.session.specs.KeptLines.{IsInHand, RunsKept}
use Rattle.session.specs.KeptRun.{EndsKeeping}
use Rattle.session.specs.RunStates.{run_state, CarriesAll, FromBetweenLines, EndsAt}
use Rattle.session.specs.declared.status.Status.{Status}
use Rattle.session.specs.declared.status.Status.TheVariants as status
use Rattle.session.proofs.Endings.{between_of}
use Rattle.session.proofs.EndsWeaker.{between_less}
use Rattle.session.proofs.LinesCarried.{NoneYet, begun_between}
use Rattle.session.proofs.LinesSaid.{runs_kept}

-- the moment of a store before the first line
first_is : (store : StoreState) (old new : Outside) → store.pool.disk.told ≡ new.disk.told → store.pool.disk.faults ≡ old.disk.faults
    → moment_of store old.shelf.files old.shelf.faults ≡ record (first_moment store.catalog.limits old new) { state = state_with [] (database store) }
first_is store old new told counted =
    ap (λ (t : Bool). record (moment_of store old.shelf.files old.shelf.faults) { told = t }) told
    ∙ ap (λ (n : ℕ). record (moment_of store old.shelf.files old.shelf.faults) { told = new.disk.told; disk = n }) counted

-- the moment of a store whose disk is handed back
last_is : (store : StoreState) (limits : Limits) (old new : Outside) (state : State) → store.catalog.limits ≡ limits → new.shelf.files ≡ old.shelf.files → new.disk ≡ store.pool.disk
    → record (moment_of store new.shelf.files new.shelf.faults) { state = state } ≡ last_moment limits old new state
last_is store limits old new state same files disk =
    ap (λ l. record (moment_of store new.shelf.files new.shelf.faults) { state = state; limits = l }) same
    ∙ ap (λ f. record (moment_of store new.shelf.files new.shelf.faults) { state = state; limits = limits; files = f }) files
    ∙ ap (λ (d : DiskView). record (last_moment limits old new state) { told = d.told; disk = d.faults }) (sym disk)

-- A run of the whole script on a store, whose disk is handed back.
module _ (why : Status) (reader : ScriptLines) (begun ended : StoreState) (old new : Outside) (none : (left : Option (List ℕ)) → ReadsLines reader left [] [])
    (counted : begun.pool.disk.faults ≡ old.disk.faults) (disk : new.disk ≡ ended.pool.disk)
    (last : State) (none_yet kept untold : Option (List ChangeValue)) (yet : NoneYet none_yet)
    (from : FromBetweenLines (run_state reader old.source.left (moment_of begun old.shelf.files old.shelf.faults) false none_yet)
    (EndsAt why (record (moment_of ended new.shelf.files new.shelf.faults) { state = last }) kept untold new.source.left old.sink.took new.sink.took)) where
  abbrev first : Moment
  first = moment_of begun old.shelf.files old.shelf.faults

  end : EndsAt why (record (moment_of ended new.shelf.files new.shelf.faults) { state = last }) kept untold new.source.left old.sink.took new.sink.took first old.source.left []
  end = from first old.source.left [] (begun_between reader first old.source.left none_yet yet none)

  -- whether the disk tells stays as it is
  pub Told-script : new.disk.told ≡ begun.pool.disk.told
  Told-script = ap (λ (d : DiskView). d.told) disk ∙ end.1.told

  -- its promise
  pub Ends-script : EndsKeeping (state_with [] (database begun)) last kept untold why begun.catalog.limits old new
  Ends-script =
      let at : Moment = record (moment_of ended new.shelf.files new.shelf.faults) { state = last } in
      let between : EndsBetween why (RunsKept kept first at) (IsInHand untold at) old.source new.source old.sink new.sink =
      between_less (CarriesAll kept first at) (RunsKept kept first at) (runs_kept kept first at) why (IsInHand untold at) (IsInHand untold at) (λ line hand. hand)
      old.source new.source old.sink new.sink (between_of why (CarriesAll kept first at) (IsInHand untold at) old.source new.source old.sink new.sink end.0) in
      let begin : Moment = record (first_moment begun.catalog.limits old new) { state = state_with [] (database begun) } in
      subst (λ (m : Moment). EndsBetween why (RunsKept kept begin m) (IsInHand untold m) old.source new.source old.sink new.sink)
      (last_is ended begun.catalog.limits old new last end.1.limits end.1.files disk)
      (subst (λ (m : Moment). EndsBetween why (RunsKept kept m at) (IsInHand untold at) old.source new.source old.sink new.sink) (first_is begun old new (sym Told-script) counted) between)

-- the promise of a run whose changes are named is that of the run
pub Ends-plain : (start last : State) (kept untold : Option (List ChangeValue)) (why : Status) (limits : Limits) (old new : Outside) → EndsKeeping start last kept untold why limits old new
    → EndsTo start last why limits old new
Ends-plain start last kept untold why limits old new ends =
    let begin : Moment = record (first_moment limits old new) { state = start } in
    let end : Moment = last_moment limits old new last in
    between_less (RunsKept kept begin end) (RunsOver begin end) (λ lines printed runs. runs.0) why (IsInHand untold end) (λ line. ⊤) (λ line hand. tt)
    old.source new.source old.sink new.sink ends

-- the promise of a run that began to read over no relations, and that no journal ended
pub Ends-empty : (why : Status) (limits : Limits) (old new : Outside) → (why ≡ status.JournalFault → ⊥) → EndsFrom no_state why limits old new → Ends why limits old new
Ends-empty status.Done limits old new kept ends = ends
Ends-empty status.SomeRefused limits old new kept ends = ends
Ends-empty status.ReadFault limits old new kept ends = ends
Ends-empty status.WriteFault limits old new kept ends = ends
Ends-empty status.ScriptTooLong limits old new kept ends = ends
Ends-empty status.Usage limits old new kept ends = absurd ends.1
Ends-empty status.NoMemory limits old new kept ends = absurd ends.1
Ends-empty status.DiskNotStarted limits old new kept ends = absurd ends.1
Ends-empty status.JournalFault limits old new kept ends = absurd (kept refl)
Ends-empty status.JournalBad limits old new kept ends = absurd ends.1
Ends-empty status.ReplayFault limits old new kept ends = absurd ends.1
Ends-empty status.ReplayDamaged limits old new kept ends = absurd ends.1

-- the words of a run that began to read were taken
pub Taken-begun : (why : Status) (limits : Limits) (old new : Outside) → HasBegun why → Ends why limits old new → IsTaken why
Taken-begun status.Done limits old new begun ends = tt
Taken-begun status.SomeRefused limits old new begun ends = tt
Taken-begun status.ReadFault limits old new begun ends = tt
Taken-begun status.WriteFault limits old new begun ends = tt
Taken-begun status.ScriptTooLong limits old new begun ends = tt
Taken-begun status.Usage limits old new begun ends = absurd begun
Taken-begun status.NoMemory limits old new begun ends = tt
Taken-begun status.DiskNotStarted limits old new begun ends = tt
Taken-begun status.JournalFault limits old new begun ends = absurd ends
Taken-begun status.JournalBad limits old new begun ends = absurd begun
Taken-begun status.ReplayFault limits old new begun ends = absurd begun
Taken-begun status.ReplayDamaged limits old new begun ends = absurd begun

-- a store of no relations has the empty state
pub Empty-store : (store : StoreState) (limits : Limits) (frames : ℕ) → store ≡ record { catalog = new_catalog limits; pool = new_pool store.pool.disk frames }
    → state_with [] (database store) ≡ no_state
Empty-store store limits frames empty = ap (λ (s : StoreState). state_with [] (database s)) empty

-- limits of these numbers are those of a plain run
pub limits_are : (limits : Limits) → limits.ids ≡ 1000000 → limits.listings ≡ 16000000 → limits ≡ standard_limits
limits_are limits ids listings =
    ap (λ n. record { ids = n; listings = limits.listings }) ids ∙ ap (λ n. record { ids = 1000000; listings = n }) listings

-- the promise of a run whose store was started over a disk, told by what that disk was
module _ (limits : Limits) (left : Option (List ℕ)) (reads : ℕ) (files : Option Files) (opens : ℕ) (before disk : DiskView) (took : List ℕ → Type 0) (writes : ℕ)
    (new : Outside) (counted : disk.faults ≡ before.faults) where
  -- a run that began at this count of the disk
  abbrev begun_at : Status → ℕ → Type 0
  begun_at why n = (last : State) × EndsBetween why (RunsOver (record (first_moment limits (outside_of left reads files opens before took writes) new) { disk = n })
      (last_moment limits (outside_of left reads files opens before took writes) new last)) (λ line. ⊤) (record { left = left; faults = reads }) new.source (record { took = took; faults = writes }) new.sink

  started_by : (why : Status) → HasBegun why → Ends why limits (outside_of left reads files opens disk took writes) new → Ends why limits (outside_of left reads files opens before took writes) new
  started_by status.Done begun ends = subst (begun_at status.Done) counted ends
  started_by status.SomeRefused begun ends = subst (begun_at status.SomeRefused) counted ends
  started_by status.ReadFault begun ends = subst (begun_at status.ReadFault) counted ends
  started_by status.WriteFault begun ends = subst (begun_at status.WriteFault) counted ends
  started_by status.ScriptTooLong begun ends = subst (begun_at status.ScriptTooLong) counted ends
  started_by status.Usage begun ends = absurd begun
  started_by status.NoMemory begun ends = absurd begun
  started_by status.DiskNotStarted begun ends = absurd begun
  started_by status.JournalFault begun ends = absurd ends
  started_by status.JournalBad begun ends = absurd begun
  started_by status.ReplayFault begun ends = absurd begun
  started_by status.ReplayDamaged begun ends = absurd begun

  pub Ends-started : (why : Status) (asked : Limits) → limits ≡ asked → HasBegun why → Ends why limits (outside_of left reads files opens disk took writes) new
      → Ends why asked (outside_of left reads files opens before took writes) new
  Ends-started why asked same begun ends = subst (λ l. Ends why l (outside_of left reads files opens before took writes) new) same (started_by why begun ends)

  -- a run from a state that began at this count of the disk
  pub To-counted : (start last : State) (kept untold : Option (List ChangeValue)) (why : Status) → EndsKeeping start last kept untold why limits (outside_of left reads files opens disk took writes) new
      → EndsKeeping start last kept untold why limits (outside_of left reads files opens before took writes) new
  To-counted start last kept untold why ends =
      subst (λ (n : ℕ). EndsBetween why (RunsKept kept (record (first_moment limits (outside_of left reads files opens before took writes) new) { state = start; disk = n })
      (last_moment limits (outside_of left reads files opens before took writes) new last))
      (IsInHand untold (last_moment limits (outside_of left reads files opens before took writes) new last)) (record { left = left; faults = reads }) new.source
      (record { took = took; faults = writes }) new.sink) counted ends

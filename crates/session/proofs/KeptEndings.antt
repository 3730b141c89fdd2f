-- How a run that keeps its changes in a journal ends.
use Rattle.std.proofs.Common.{◌≡◌, ℕ, true≢false, List, Option, Some, Err, refl, sym, ap, ◌∙◌, inl, inr}
use Rattle.std.specs.Prelude.{⊤}
use Rattle.journal_replay.specs.Replayed.{HasReplayCause}
use Rattle.journal_replay.specs.declared.fault.ReplayFault.{ReplayFault}
use Rattle.journal_replay.specs.declared.fault.ReplayFault.TheVariants as replayed
use Rattle.page_pool.specs.Causes.{IsDamage}
use Rattle.page_pool.specs.Disk.{DiskView}
use Rattle.page_pool.specs.Pool.{PoolState}
use Rattle.sand_base.specs.Faults.{next_count}
use Rattle.sand_base.specs.Shelf.{Files}
use Rattle.sand_base.specs.declared.limits.Limits.{Limits}
use Rattle.sand_journal.specs.ChangeBody.{ChangeValue}
use Rattle.sand_journal.specs.Tape.{TapeView}
use Rattle.session.specs.Outside.{Outside, outside_of}
use Rattle.session.specs.Ends.{HasBegun, IsNotStarted}
use Rattle.session.specs.KeptRun.{EndsBehind, EndsKept, IsUnbegun, OfChanges, status_of_replay}
use Rattle.session.specs.declared.status.Status.{Status}
use Rattle.session.specs.declared.status.Status.TheVariants as status
use Rattle.session.proofs.ScriptEndings.{To-counted}
use Rattle.session.proofs.KeptTapes.{IfBad}

-- ---- by the status

-- a run that began to read ends behind its changes
pub Kept-begun : (why : Status) (limits : Limits) (old new : Outside) (Starts : List ChangeValue → Type 0) (Keeps : OfChanges) (Bad Unread : Type 0) → HasBegun why
    → EndsBehind why limits old new Starts Keeps → EndsKept why limits old new Starts Keeps Bad Unread
Kept-begun status.Done limits old new Starts Keeps Bad Unread begun ends = ends
Kept-begun status.SomeRefused limits old new Starts Keeps Bad Unread begun ends = ends
Kept-begun status.ReadFault limits old new Starts Keeps Bad Unread begun ends = ends
Kept-begun status.WriteFault limits old new Starts Keeps Bad Unread begun ends = ends
Kept-begun status.ScriptTooLong limits old new Starts Keeps Bad Unread begun ends = ends
Kept-begun status.Usage limits old new Starts Keeps Bad Unread begun ends = absurd begun
Kept-begun status.NoMemory limits old new Starts Keeps Bad Unread begun ends = absurd begun
Kept-begun status.DiskNotStarted limits old new Starts Keeps Bad Unread begun ends = absurd begun
Kept-begun status.JournalFault limits old new Starts Keeps Bad Unread begun ends = inr ends
Kept-begun status.JournalBad limits old new Starts Keeps Bad Unread begun ends = absurd begun
Kept-begun status.ReplayFault limits old new Starts Keeps Bad Unread begun ends = absurd begun
Kept-begun status.ReplayDamaged limits old new Starts Keeps Bad Unread begun ends = absurd begun

-- ---- before the first line

module _ (limits : Limits) (left : Option (List ℕ)) (reads : ℕ) (files : Option Files) (opens : ℕ) (before disk : DiskView) (took : List ℕ → Type 0) (writes : ℕ)
    (Starts : List ChangeValue → Type 0) (Keeps : OfChanges) (Bad Unread : Type 0) (unread : Unread) where
  -- what is outside before the run, and behind it
  abbrev kept_before : Outside
  kept_before = outside_of left reads files opens before took writes

  abbrev kept_behind : Outside
  kept_behind = outside_of left reads files opens disk took writes

  -- nothing was read or written
  pub Unbegun : disk.faults ≡ before.faults → IsUnbegun kept_before kept_behind
  Unbegun same = (record { source = refl; files = refl; shelf = refl; sink = λ text h. h }, same)

  -- the store wasn't started
  pub Kept-unstarted : (why : Status) → IsNotStarted why before.faults disk.faults → EndsKept why limits kept_before kept_behind Starts Keeps Bad Unread
  Kept-unstarted status.NoMemory not = (Unbegun not, unread)
  Kept-unstarted status.DiskNotStarted not = (record { source = refl; files = refl; shelf = refl; sink = λ text h. h }, not, unread)
  Kept-unstarted status.Done not = absurd not
  Kept-unstarted status.SomeRefused not = absurd not
  Kept-unstarted status.ReadFault not = absurd not
  Kept-unstarted status.WriteFault not = absurd not
  Kept-unstarted status.ScriptTooLong not = absurd not
  Kept-unstarted status.Usage not = absurd not
  Kept-unstarted status.JournalFault not = absurd not
  Kept-unstarted status.JournalBad not = absurd not
  Kept-unstarted status.ReplayFault not = absurd not
  Kept-unstarted status.ReplayDamaged not = absurd not

  -- the replay stopped
  pub Kept-stopped : (why : ReplayFault) (tape tape' : TapeView) (old new : PoolState) → old.disk.faults ≡ before.faults → disk ≡ new.disk
      → HasReplayCause {T = ⊤} tape tape' old new (Err why) → IfBad why Bad
      → EndsKept (status_of_replay why) limits kept_before kept_behind Starts Keeps Bad Unread
  Kept-stopped replayed.Memory tape tape' old new began same cause bad = (Unbegun (ap (λ (d : DiskView). d.faults) same ∙ ap (λ (n : ℕ × ℕ). n.0) cause.1 ∙ began), unread)
  Kept-stopped replayed.Tape tape tape' old new began same cause bad = inl (Unbegun (ap (λ (d : DiskView). d.faults) same ∙ ap (λ (n : ℕ × ℕ). n.0) cause.1 ∙ began), unread)
  Kept-stopped replayed.Bad tape tape' old new began same cause bad = (Unbegun (ap (λ (d : DiskView). d.faults) same ∙ ap (λ (n : ℕ × ℕ). n.0) cause.1 ∙ began), bad, unread)
  Kept-stopped replayed.Device tape tape' old new began same cause bad =
      (record { source = refl; files = refl; shelf = refl; sink = λ text h. h }, ap (λ (d : DiskView). d.faults) same ∙ ap (λ (n : ℕ × ℕ). n.0) cause.1 ∙ ap next_count began, unread)
  Kept-stopped replayed.Damaged tape tape' old new began same cause bad =
      let damage : IsDamage new cause.2.0 cause.2.1 cause.2.2 = cause.2.3 in
      (Unbegun (ap (λ (d : DiskView). d.faults) same ∙ ap (λ (n : ℕ × ℕ). n.0) cause.1 ∙ began), λ told. true≢false (sym told ∙ ap (λ (d : DiskView). d.told) same ∙ damage.untold), unread)

-- what holds of the changes holds where less is asked of them
pub Kept-weaker : (why : Status) (limits : Limits) (old new : Outside) (P Q : List ChangeValue → Type 0) (K L : OfChanges) (B C U V : Type 0)
    → ((changes : List ChangeValue) → P changes → Q changes) → ((changes shown untold : List ChangeValue) → K changes shown untold → L changes shown untold) → (B → C) → (U → V)
    → EndsKept why limits old new P K B U → EndsKept why limits old new Q L C V
Kept-weaker why limits old new P Q K L B C U V weaker keeps bad unread = by why where
  behind : (s : Status) → EndsBehind s limits old new P K → EndsBehind s limits old new Q L
  behind s e = record {
    changes = e.changes;
    starts = weaker e.changes e.starts;
    state = e.state;
    world = e.world;
    shown = e.shown;
    untold = e.untold;
    last = e.last;
    ends = e.ends;
    reached = e.reached;
    keeps = keeps e.changes e.shown e.untold e.keeps;
  }

  by : (s : Status) → EndsKept s limits old new P K B U → EndsKept s limits old new Q L C V
  by status.Done e = behind status.Done e
  by status.SomeRefused e = behind status.SomeRefused e
  by status.ReadFault e = behind status.ReadFault e
  by status.WriteFault e = behind status.WriteFault e
  by status.ScriptTooLong e = behind status.ScriptTooLong e
  by status.Usage e = (e.0, unread e.1)
  by status.NoMemory e = (e.0, unread e.1)
  by status.DiskNotStarted e = (e.0, e.1, unread e.2)
  by status.JournalFault (inl e) = inl (e.0, unread e.1)
  by status.JournalFault (inr e) = inr (behind status.JournalFault e)
  by status.JournalBad e = (e.0, bad e.1, unread e.2)
  by status.ReplayFault e = (e.0, e.1, unread e.2)
  by status.ReplayDamaged e = (e.0, e.1, unread e.2)

-- a run behind changes is one whose disk was started with this count
module _ (limits : Limits) (left : Option (List ℕ)) (reads : ℕ) (files : Option Files) (opens : ℕ) (before disk : DiskView) (took : List ℕ → Type 0) (writes : ℕ)
    (new : Outside) (Starts : List ChangeValue → Type 0) (Keeps : OfChanges) (Bad Unread : Type 0) (counted : disk.faults ≡ before.faults) where
  behind_counted : (why : Status) → EndsBehind why limits (outside_of left reads files opens disk took writes) new Starts Keeps
      → EndsBehind why limits (outside_of left reads files opens before took writes) new Starts Keeps
  behind_counted why e = record {
    changes = e.changes;
    starts = e.starts;
    state = e.state;
    world = e.world;
    shown = e.shown;
    untold = e.untold;
    last = e.last;
    ends = To-counted limits left reads files opens before disk took writes new counted e.state e.last (Some e.shown) (Some e.untold) why e.ends;
    reached = e.reached;
    keeps = e.keeps;
  }

  pub Kept-counted : (why : Status) → EndsKept why limits (outside_of left reads files opens disk took writes) new Starts Keeps Bad Unread
      → EndsKept why limits (outside_of left reads files opens before took writes) new Starts Keeps Bad Unread
  Kept-counted status.Done e = behind_counted status.Done e
  Kept-counted status.SomeRefused e = behind_counted status.SomeRefused e
  Kept-counted status.ReadFault e = behind_counted status.ReadFault e
  Kept-counted status.WriteFault e = behind_counted status.WriteFault e
  Kept-counted status.ScriptTooLong e = behind_counted status.ScriptTooLong e
  Kept-counted status.Usage e = ((record { source = e.0.0.source; files = e.0.0.files; shelf = e.0.0.shelf; sink = e.0.0.sink }, e.0.1 ∙ counted), e.1)
  Kept-counted status.NoMemory e = ((record { source = e.0.0.source; files = e.0.0.files; shelf = e.0.0.shelf; sink = e.0.0.sink }, e.0.1 ∙ counted), e.1)
  Kept-counted status.DiskNotStarted e = (record { source = e.0.source; files = e.0.files; shelf = e.0.shelf; sink = e.0.sink }, e.1 ∙ ap next_count counted, e.2)
  Kept-counted status.JournalFault (inl e) = inl ((record { source = e.0.0.source; files = e.0.0.files; shelf = e.0.0.shelf; sink = e.0.0.sink }, e.0.1 ∙ counted), e.1)
  Kept-counted status.JournalFault (inr e) = inr (behind_counted status.JournalFault e)
  Kept-counted status.JournalBad e = ((record { source = e.0.0.source; files = e.0.0.files; shelf = e.0.0.shelf; sink = e.0.0.sink }, e.0.1 ∙ counted), e.1, e.2)
  Kept-counted status.ReplayFault e = (record { source = e.0.source; files = e.0.files; shelf = e.0.shelf; sink = e.0.sink }, e.1 ∙ ap next_count counted, e.2)
  Kept-counted status.ReplayDamaged e = ((record { source = e.0.0.source; files = e.0.0.files; shelf = e.0.0.shelf; sink = e.0.0.sink }, e.0.1 ∙ counted), e.1, e.2)

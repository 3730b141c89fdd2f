-- What the status of a run that keeps its changes says of words, streams and tape.
use Rattle.std.proofs.Common.{◌≡◌, ℕ, List, [], Option, None, Some, Err, refl, sym, subst, ◌∙◌}
use Rattle.std.specs.Prelude.{⊤}
use Rattle.journal_replay.specs.Replayed.{HasReplayCause}
use Rattle.journal_replay.specs.declared.fault.ReplayFault.{ReplayFault}
use Rattle.journal_replay.specs.declared.fault.ReplayFault.TheVariants as replayed
use Rattle.page_pool.specs.Pool.{PoolState}
use Rattle.clap.specs.Words.{Text, fault_of}
use Rattle.run_words.specs.Command.{kept_app}
use Rattle.sand_journal.specs.Tape.{TapeView}
use Rattle.session.specs.Ends.{HasBegun, IsCaused, IsNotStarted, IsTaken, tape_after}
use Rattle.run_words.specs.Asked.{AsksKept}
use Rattle.run_words.specs.Journal.{journal_beside}
use Rattle.run_words.specs.declared.asked.KeptWords.{KeptWords}
use Rattle.sand_base.specs.declared.limits.Limits.{Limits}
use Rattle.session.specs.Outside.{Outside}
use Rattle.session.specs.Workload.{EndsAsked}
use Rattle.session.specs.KeptRun.{IsUnbegun, journal_of, AreJudgedKept, IsTakenKept, status_of_replay}
use Rattle.session.specs.declared.status.Status.{Status}
use Rattle.session.specs.declared.status.Status.TheVariants as status

-- a run that began took the words
pub Taken-kept : (why : Status) → HasBegun why → IsTakenKept why
Taken-kept status.Done begun = tt
Taken-kept status.SomeRefused begun = tt
Taken-kept status.ReadFault begun = tt
Taken-kept status.WriteFault begun = tt
Taken-kept status.ScriptTooLong begun = tt
Taken-kept status.Usage begun = absurd begun
Taken-kept status.NoMemory begun = tt
Taken-kept status.DiskNotStarted begun = tt
Taken-kept status.JournalFault begun = tt
Taken-kept status.JournalBad begun = tt
Taken-kept status.ReplayFault begun = tt
Taken-kept status.ReplayDamaged begun = tt

-- a run without a journal takes the words, and leaves the count of a tape
pub Plain-taken : (why : Status) (n : ℕ) → IsTaken why → IsTakenKept why × (n ≡ tape_after why n)
Plain-taken status.Done n taken = (tt, refl)
Plain-taken status.SomeRefused n taken = (tt, refl)
Plain-taken status.ReadFault n taken = (tt, refl)
Plain-taken status.WriteFault n taken = (tt, refl)
Plain-taken status.ScriptTooLong n taken = (tt, refl)
Plain-taken status.Usage n taken = absurd taken
Plain-taken status.NoMemory n taken = (tt, refl)
Plain-taken status.DiskNotStarted n taken = (tt, refl)
Plain-taken status.JournalFault n taken = absurd taken
Plain-taken status.JournalBad n taken = absurd taken
Plain-taken status.ReplayFault n taken = absurd taken
Plain-taken status.ReplayDamaged n taken = absurd taken

-- the words were taken, as the status says
pub Judged-kept : (why : Status) (words : List Text) → IsTakenKept why → fault_of kept_app words ≡ [] → AreJudgedKept why words
Judged-kept status.Done words taken own = own
Judged-kept status.SomeRefused words taken own = own
Judged-kept status.ReadFault words taken own = own
Judged-kept status.WriteFault words taken own = own
Judged-kept status.ScriptTooLong words taken own = own
Judged-kept status.Usage words taken own = absurd taken
Judged-kept status.NoMemory words taken own = tt
Judged-kept status.DiskNotStarted words taken own = own
Judged-kept status.JournalFault words taken own = own
Judged-kept status.JournalBad words taken own = own
Judged-kept status.ReplayFault words taken own = own
Judged-kept status.ReplayDamaged words taken own = own

-- a store that wasn't started blames no stream and no tape
pub Unstarted : (why : Status) (a b s k t : ℕ) → IsNotStarted why a b → IsTakenKept why × IsCaused why s s k k × (t ≡ tape_after why t)
Unstarted status.NoMemory a b s k t not = (tt, record { of_source = refl; of_sink = refl }, refl)
Unstarted status.DiskNotStarted a b s k t not = (tt, record { of_source = refl; of_sink = refl }, refl)
Unstarted status.Done a b s k t not = absurd not
Unstarted status.SomeRefused a b s k t not = absurd not
Unstarted status.ReadFault a b s k t not = absurd not
Unstarted status.WriteFault a b s k t not = absurd not
Unstarted status.ScriptTooLong a b s k t not = absurd not
Unstarted status.Usage a b s k t not = absurd not
Unstarted status.JournalFault a b s k t not = absurd not
Unstarted status.JournalBad a b s k t not = absurd not
Unstarted status.ReplayFault a b s k t not = absurd not
Unstarted status.ReplayDamaged a b s k t not = absurd not

-- a replay that stopped blames no stream, and its tape alone where that failed
stopped : (why : ReplayFault) (tape tape' : TapeView) (old new : PoolState) (s k : ℕ) → HasReplayCause {T = ⊤} tape tape' old new (Err why)
    → IsTakenKept (status_of_replay why) × IsCaused (status_of_replay why) s s k k × (tape'.faults ≡ tape_after (status_of_replay why) tape.faults)
stopped replayed.Memory tape tape' old new s k cause = (tt, record { of_source = refl; of_sink = refl }, cause.0)
stopped replayed.Tape tape tape' old new s k cause = (tt, record { of_source = refl; of_sink = refl }, cause.0)
stopped replayed.Bad tape tape' old new s k cause = (tt, record { of_source = refl; of_sink = refl }, cause.0)
stopped replayed.Device tape tape' old new s k cause = (tt, record { of_source = refl; of_sink = refl }, cause.0)
stopped replayed.Damaged tape tape' old new s k cause = (tt, record { of_source = refl; of_sink = refl }, cause.0)

pub Stopped : (why : ReplayFault) (result : Status) (tape tape' : TapeView) (old new : PoolState) (s k : ℕ) → result ≡ status_of_replay why → HasReplayCause {T = ⊤} tape tape' old new (Err why)
    → IsTakenKept result × IsCaused result s s k k × (tape'.faults ≡ tape_after result tape.faults)
Stopped why result tape tape' old new s k is cause =
    subst (λ (r : Status). IsTakenKept r × IsCaused r s s k k × (tape'.faults ≡ tape_after r tape.faults)) (sym is) (stopped why tape tape' old new s k cause)

-- ---- the words

-- there is no journal, or there is one
pub no_name : {A : Type 0} (o : Option A) (a : A) → Some a ≡ o → o ≡ None → ⊥
no_name {A} o a some none = let no : Some a ≡ None = some ∙ none in cc

-- the journal that the words ask for is that of the script
pub journal_is : (words : List Text) (asked : KeptWords) → AsksKept words asked → journal_beside asked.words.workload asked.journal ≡ journal_of words
journal_is words asked asks = λ i. journal_beside (asks.beside.workload i) (asks.journal i)

-- nothing was begun, whatever is asked for
module _ (limits : Limits) (old new : Outside) (unbegun : IsUnbegun old new) where
  pub Asked-usage : (workload : Option ℕ) → EndsAsked workload status.Usage limits old new
  Asked-usage None = unbegun
  Asked-usage (Some n) = unbegun

  pub Asked-memory : (workload : Option ℕ) → EndsAsked workload status.NoMemory limits old new
  Asked-memory None = unbegun
  Asked-memory (Some n) = unbegun

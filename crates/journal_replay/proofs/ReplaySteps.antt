-- A replay, record by record.
use Rattle.std.proofs.Common.{◌≡◌, inl, inr, ℕ, ◌<◌, List, [], ◌∷◌, ◌++◌, length, map, refl, sym, ap, subst, ◌∙◌, arith, append_assoc, length-append}
use Rattle.std.proofs.lemmas.List.{append-nil, map-append}
use Rattle.std.specs.Prelude.{IsTrue}
use Rattle.std.specs.List.{AllByRecursion}
use Rattle.sand_journal.specs.ChangeBody.{ChangeValue, IsChange, body_of}
use Rattle.sand_journal.specs.Images.{framed, records}
use Rattle.sand_journal.specs.Journal.{HasPassed, IsAtEnd, IsOnlyRead, IsReading, IsWhy, IsBadBehind}
use Rattle.sand_journal.specs.Tape.{TapeView}
use Rattle.sand_journal.specs.declared.fault.JournalFault.{JournalFault}
use Rattle.sand_journal.specs.declared.fault.JournalFault.TheVariants as of_journal
use Rattle.sand_journal.specs.declared.journal.Journal.{Journal}
use Rattle.sand_store.specs.Catalog.{StoreState}
use Rattle.journal_replay.specs.LedBy.{LedBy, LedByOne}
use Rattle.journal_replay.specs.Replayed.{IsReplayed, IsBadForCause, IsDeclined, fault_of_journal}
use Rattle.journal_replay.specs.declared.fault.ReplayFault.{ReplayFault}
use Rattle.journal_replay.specs.declared.fault.ReplayFault.TheVariants as fault
use Rattle.journal_replay.proofs.Leading.{led_none, led_push}

-- So far the changes of some records were read and carried out.
pub record IsReplaying {T : Type 0} (seen : T → TapeView) (journal journal' : Journal T) (store store' : StoreState) : Type 0 where
  pub changes : List ChangeValue
  pub all : AllByRecursion IsChange changes
  pub led : LedBy changes store store'
  pub passed : (bodies : List (List ℕ)) → HasPassed seen journal bodies → HasPassed seen journal' (bodies ++ map body_of changes)

-- a tape that wasn't touched was only read
pub only_itself : (tape : TapeView) → IsOnlyRead tape tape
only_itself tape = record { told = refl; started = refl; later = omega arith; bytes = refl; fewer = λ image h. h; earlier = λ told t image le h. h }

-- what holds of each of some, and of one more
all_push : {A : Type 0} (P : A → Type 0) (xs : List A) (x : A) → AllByRecursion P xs → P x → AllByRecursion P (xs ++ x ∷ [])
all_push P [] x all one = (one, tt)
all_push P (y ∷ ys) x all one = (all.0, all_push P ys x all.1 one)

-- the bodies of one change more
bodies_push : (bodies : List (List ℕ)) (changes : List ChangeValue) (change : ChangeValue) → (bodies ++ map body_of changes) ++ body_of change ∷ [] ≡ bodies ++ map body_of (changes ++ change ∷ [])
bodies_push bodies changes change =
    append_assoc bodies (map body_of changes) (body_of change ∷ []) ∙ ap (λ (l : List (List ℕ)). bodies ++ l) (sym (map-append body_of changes (change ∷ [])))

module _ {T : Type 0} (seen : T → TapeView) where
  -- before the first record
  pub replay_begins : (journal : Journal T) (store : StoreState) → IsReplaying seen journal journal store store
  replay_begins journal store = record {
    changes = [];
    all = tt;
    led = led_none store;
    passed = λ bodies h. subst (HasPassed seen journal) (sym (append-nil bodies)) h;
  }

  module _ (first old new : Journal T) (start store : StoreState) (so_far : IsReplaying seen first old start store) where
    -- one record more is passed
    pub passed_more : (change : ChangeValue) → ((bodies : List (List ℕ)) → HasPassed seen old bodies → HasPassed seen new (bodies ++ body_of change ∷ []))
        → (bodies : List (List ℕ)) → HasPassed seen first bodies → HasPassed seen new (bodies ++ map body_of (so_far.changes ++ change ∷ []))
    passed_more change gives bodies h = subst (HasPassed seen new) (bodies_push bodies so_far.changes change) (gives (bodies ++ map body_of so_far.changes) (so_far.passed bodies h))

    -- and its change is carried out
    pub replay_goes_on : (store' : StoreState) (change : ChangeValue) → IsChange change → ((bodies : List (List ℕ)) → HasPassed seen old bodies → HasPassed seen new (bodies ++ body_of change ∷ []))
        → LedByOne change store store' → IsReplaying seen first new start store'
    replay_goes_on store' change is gives led = record {
      changes = so_far.changes ++ change ∷ [];
      all = all_push IsChange so_far.changes change so_far.all is;
      led = led_push so_far.changes change start store store' so_far.led led;
      passed = passed_more change gives;
    }

    -- the last record is passed
    pub replay_ends : ((bodies : List (List ℕ)) → HasPassed seen old bodies → IsAtEnd seen new bodies) → IsReplayed seen first new start store
    replay_ends gives = record {
      changes = so_far.changes;
      all = so_far.all;
      led = so_far.led;
      ended = λ bodies h. gives (bodies ++ map body_of so_far.changes) (so_far.passed bodies h);
    }

    -- the next change is one that the store doesn't take
    pub stopped_by_change : (change : ChangeValue) (f : ReplayFault) → IsChange change → ((bodies : List (List ℕ)) → HasPassed seen old bodies → HasPassed seen new (bodies ++ body_of change ∷ []))
        → IsDeclined store change f → IsBadForCause seen first new start f
    stopped_by_change change fault.Memory is gives h = tt
    stopped_by_change change fault.Tape is gives h = tt
    stopped_by_change change fault.Bad is gives h = record {
      changes = so_far.changes;
      all = so_far.all;
      reached = store;
      led = so_far.led;
      next = inr (record { change = change; is = is; passed = passed_more change gives; declines = h });
    }
    stopped_by_change change fault.Device is gives h = tt
    stopped_by_change change fault.Damaged is gives h = tt

    -- the next record is bad
    pub stopped_by_record : (f : JournalFault) → IsOnlyRead (seen first.tape) (seen old.tape)
        → ((bodies : List (List ℕ)) → HasPassed seen old bodies → IsTrue (seen old.tape).told → IsWhy f (seen old.tape).bytes bodies)
        → IsBadForCause seen first new start (fault_of_journal f)
    stopped_by_record of_journal.Memory read why = tt
    stopped_by_record of_journal.Failed read why = tt
    stopped_by_record (of_journal.Bad number) read why = record {
      changes = so_far.changes;
      all = so_far.all;
      reached = store;
      led = so_far.led;
      next = inl (λ bodies h told. subst (λ (bytes : List ℕ). IsBadBehind bytes (bodies ++ map body_of so_far.changes)) read.bytes
          (why (bodies ++ map body_of so_far.changes) (so_far.passed bodies h) (read.told ∙ told)).1);
    }

-- the records of one body more are longer
longer : (bodies : List (List ℕ)) (body : List ℕ) → length (records bodies) < length (records (bodies ++ body ∷ []))
longer [] body = omega (arith, length-append (framed body) [])
longer (b ∷ bs) body =
    let rest = longer bs body in
    omega (arith, rest, length-append (framed b) (records bs), length-append (framed b) (records (bs ++ body ∷ [])))

-- a journal that passed a record stands further on
pub further : {T : Type 0} (seen : T → TapeView) (old new : Journal T) (body : List ℕ) → IsReading seen old
    → ((bodies : List (List ℕ)) → HasPassed seen old bodies → HasPassed seen new (bodies ++ body ∷ [])) → old.end < new.end
further seen old new body reading gives =
    let after = gives reading.0 reading.1 in omega (arith, longer reading.0 body, reading.1.stands.place, after.stands.place)

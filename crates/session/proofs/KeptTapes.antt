-- With which world a run begins behind a journal, and which record is bad.
use Rattle.std.proofs.Common.{◌≡◌, ◌≢◌, ◌⊎◌, ℕ, ◌^◌, ◌≤◌, Bool, List, [], ◌∷◌, ◌++◌, map, Result, refl, sym, ap, ◌∙◌, subst, inl, inr, ⊎_elim, arith}
use Rattle.std.specs.Prelude.{IsTrue, ⊤}
use Rattle.journal_replay.specs.ChangedDatabase.{TakesAll, world_after}
use Rattle.journal_replay.specs.LedBy.{LedBy, sketches_after}
use Rattle.journal_replay.specs.Replayed.{EndsBadly, EndsDeclined, IsBadForCause, IsReplayed}
use Rattle.journal_replay.specs.declared.fault.ReplayFault.{ReplayFault}
use Rattle.journal_replay.specs.declared.fault.ReplayFault.TheVariants as replayed
use Rattle.page_pool.specs.Pool.{new_pool}
use Rattle.sand_base.specs.declared.limits.Limits.{Limits}
use Rattle.sand_journal.specs.ChangeBody.{ChangeValue, body_of}
use Rattle.sand_journal.specs.Changes.{HasChanges}
use Rattle.sand_journal.specs.Images.{HasBodies, records}
use Rattle.sand_journal.specs.Journal.{HasOpened, HasPassed, IsBadBehind, IsOnlyRead, WasOpened}
use Rattle.sand_journal.specs.Tape.{BeginsWith, StartsTape, TapeView}
use Rattle.sand_journal.specs.declared.journal.Journal.{Journal}
use Rattle.sand_model.specs.Database.{Database}
use Rattle.sand_store.specs.Catalog.{StoreState, new_catalog}
use Rattle.sand_store.specs.Contents.{database}
use Rattle.sand_store.specs.Sketches.{Sketch, sketches}
use Rattle.statement_exec.proofs.DecidedCalls.{sketched_in}
use Rattle.statement_exec.specs.Moment.{state_with}
use Rattle.session.specs.KeptRun.{HasAll, HasBadRecord, IsDeclinedNext, IsWorldOf, StartsWith}
use Rattle.session.specs.KeptTape.{BecomesJournal, LosesNothing, read_opened}

-- this holds where a replay met a bad record
abbrev pub IfBad : ReplayFault → Type 0 → Type 0
IfBad replayed.Bad P = P
IfBad _ P = ⊤

-- ---- the world of the journal's changes

-- the state of a store that these changes led on from no relations
pub World-of : (store world : StoreState) (frames : ℕ) (changes : List ChangeValue) (told : Bool)
    → store ≡ record { catalog = new_catalog store.catalog.limits; pool = new_pool store.pool.disk frames }
    → LedBy changes store world → told ≡ store.pool.disk.told → IsWorldOf store.catalog.limits told changes (state_with [] (database world))
World-of store world frames changes told empty led same = record {
  none_open = refl;
  takes = λ is setting s own. subst (λ (d : Database). TakesAll setting changes d) (ap (λ (s : StoreState). database s) empty) (led.takes (sym same ∙ is) setting s own);
  has = record {
    world = λ is setting s own. led.becomes (sym same ∙ is) setting s own ∙ ap (λ (d : Database). world_after setting changes d) (ap (λ (s : StoreState). database s) empty);
    outlined = sketched_in world.pool.pages world.catalog.relations ∙ led.sketched ∙ ap (λ (d : List Sketch). sketches_after changes d) (ap (λ (s : StoreState). sketches s) empty);
  };
}

-- the changes of all records of an opened tape
pub Replayed-all : {T : Type 0} (seen : T → TapeView) (journal journal' : Journal T) (store store' : StoreState) (r : IsReplayed seen journal journal' store store')
    → HasPassed seen journal [] → journal'.end ≤ 2 ^ 62 → IsOnlyRead (seen journal.tape) (seen journal'.tape)
    → HasAll (seen journal.tape).told (seen journal.tape).bytes r.changes
Replayed-all {T} seen journal journal' store store' r passed near read = record {
  near = λ told. subst (λ (n : ℕ). n ≤ 2 ^ 62) (r.ended [] passed).rest.stands.place near;
  all = r.all;
  read = λ told. record { all = r.all; bodies = subst (λ (bytes : List ℕ). HasBodies (map body_of r.changes) bytes) read.bytes ((r.ended [] passed).rest.ended (read.told ∙ told)) };
}

-- a tape that was started, and then opened as a journal
pub Opened-tape : {U E : Type 0} (tape started opened : TapeView) (result : Result U E)
    → ((t : ℕ) (image : List ℕ) → IsTrue tape.told → t ≤ tape.clock → tape.leaves image → tape.since t image)
    → StartsTape tape started result → HasOpened started opened → BecomesJournal tape opened
Opened-tape {U} {E} tape started opened result now_counts starts has = record {
  told = told;
  image = λ is. by is tape.bytes refl;
  durable = λ is. has.durable (starts.passes.told ∙ is);
  later = λ is some.
      let read = has.opened.read (starts.passes.told ∙ is) (λ empty. some (sym starts.kept.bytes ∙ empty)) in
      let first = starts.passes.later in
      let then = read.later in
      omega (arith, first, then);
  earlier = λ is some t image le since.
      let read = has.opened.read (starts.passes.told ∙ is) (λ empty. some (sym starts.kept.bytes ∙ empty)) in
      let was : started.since t image = read.earlier (starts.passes.told ∙ is) t image (omega (arith, le, starts.passes.later)) since in
      ⊎_elim (λ before. before) (λ now. now_counts t image is le (starts.kept.fewer image now)) ((starts.passes.time is).nothing_else t image le was);
} where
  told : opened.told ≡ tape.told
  told = has.opened.told ∙ starts.passes.told

  by : IsTrue tape.told → (bytes : List ℕ) → tape.bytes ≡ bytes → opened.bytes ≡ read_opened bytes
  by is [] none = has.empty (starts.passes.told ∙ is) (starts.kept.bytes ∙ none)
  by is (byte ∷ bytes) some =
      (has.opened.read (starts.passes.told ∙ is) (λ empty. let no : byte ∷ bytes ≡ [] = sym (starts.kept.bytes ∙ some) ∙ empty in cc)).bytes ∙ starts.kept.bytes ∙ some

-- the changes that an opened tape has are those that it began with
pub Starts-opened : (tape opened : TapeView) (changes : List ChangeValue) → BecomesJournal tape opened → HasAll opened.told opened.bytes changes → StartsWith tape changes
Starts-opened tape opened changes opens has = record {
  all = has.all;
  near = λ told. has.near (opens.told ∙ told);
  read = λ told. subst (λ (bytes : List ℕ). HasChanges changes bytes) (opens.image told) (has.read (opens.told ∙ told));
}

-- what stands behind the records of an opened tape stands there in the image that it began with
pub Bad-opened : (limits : Limits) (disk : Bool) (tape opened : TapeView) → BecomesJournal tape opened → HasBadRecord limits disk opened.told opened.bytes
    → HasBadRecord limits disk tape.told (read_opened tape.bytes)
Bad-opened limits disk tape opened opens bad = record {
  changes = bad.changes;
  all = bad.all;
  begun = bad.begun;
  empty = bad.empty;
  known = bad.known;
  reached = bad.reached;
  led = bad.led;
  next = go bad.next;
} where
  go : (IsTrue opened.told → IsBadBehind opened.bytes (map body_of bad.changes)) ⊎ IsDeclinedNext opened.told opened.bytes bad.changes bad.reached
      → (IsTrue tape.told → IsBadBehind (read_opened tape.bytes) (map body_of bad.changes)) ⊎ IsDeclinedNext tape.told (read_opened tape.bytes) bad.changes bad.reached
  go (inl h) = inl (λ told. subst (λ (bytes : List ℕ). IsBadBehind bytes (map body_of bad.changes)) (opens.image told) (h (opens.told ∙ told)))
  go (inr h) = inr (record {
    change = h.change;
    is = h.is;
    read = λ told. subst (λ (bytes : List ℕ). BeginsWith (records (map body_of (bad.changes ++ h.change ∷ []))) bytes) (opens.image told) (h.read (opens.told ∙ told));
    declines = h.declines;
  })

-- why a replay of a store of no relations met a bad record
pub Bad-stopped : {T : Type 0} (seen : T → TapeView) (journal journal' : Journal T) (store : StoreState) (why : ReplayFault) (disk : Bool)
    → store ≡ record { catalog = new_catalog store.catalog.limits; pool = new_pool store.pool.disk store.pool.frames } → store.pool.disk.told ≡ disk
    → HasPassed seen journal [] → IsOnlyRead (seen journal.tape) (seen journal'.tape)
    → IsBadForCause seen journal journal' store why → IfBad why (HasBadRecord store.catalog.limits disk (seen journal.tape).told (seen journal.tape).bytes)
Bad-stopped {T} seen journal journal' store replayed.Memory disk empty known passed read bad = tt
Bad-stopped {T} seen journal journal' store replayed.Tape disk empty known passed read bad = tt
Bad-stopped {T} seen journal journal' store replayed.Device disk empty known passed read bad = tt
Bad-stopped {T} seen journal journal' store replayed.Damaged disk empty known passed read bad = tt
Bad-stopped {T} seen journal journal' store replayed.Bad disk empty known passed read bad = record {
  changes = bad.changes;
  all = bad.all;
  begun = store;
  empty = empty;
  known = known;
  reached = bad.reached;
  led = bad.led;
  next = go bad.next;
} where
  go : EndsBadly seen journal bad.changes ⊎ EndsDeclined seen journal journal' bad.changes bad.reached
      → (IsTrue (seen journal.tape).told → IsBadBehind (seen journal.tape).bytes (map body_of bad.changes)) ⊎ IsDeclinedNext (seen journal.tape).told (seen journal.tape).bytes bad.changes bad.reached
  go (inl h) = inl (λ told. h [] passed told)
  go (inr h) = inr (record {
    change = h.change;
    is = h.is;
    read = λ told.
        let gate = (h.passed [] passed).stands.gate (read.told ∙ told) in
        (gate.0, sym read.bytes ∙ gate.2);
    declines = h.declines;
  })

-- ---- of a tape nothing was lost

-- nothing was done
pub Loses-none : (tape : TapeView) → LosesNothing tape tape
Loses-none tape = record { told = refl; bytes = λ told some. refl; fewer = λ told some image left. left; earlier = λ told some t image le since. since }

-- an image of bytes that aren't empty is those
image_same : (bytes : List ℕ) → bytes ≢ [] → read_opened bytes ≡ bytes
image_same [] some = absurd (some refl)
image_same (byte ∷ bytes) some = refl

-- it was opened and read
pub Loses-read : (tape opened after : TapeView) → (IsTrue tape.told → tape.leaves tape.bytes) → BecomesJournal tape opened → IsOnlyRead opened after → LosesNothing tape after
Loses-read tape opened after law opens read = record {
  told = read.told ∙ opens.told;
  bytes = λ told some. read.bytes ∙ opens.image told ∙ image_same tape.bytes some;
  fewer = λ told some image left.
      subst tape.leaves (sym (opens.durable told image (read.fewer image left) ∙ opens.image told ∙ image_same tape.bytes some)) (law told);
  earlier = λ told some t image le since.
      opens.earlier told some t image le (read.earlier (opens.told ∙ told) t image (let later = opens.later told some in omega (arith, le, later)) since);
}

-- it was started, or that failed
pub Loses-started : {U E : Type 0} (tape started : TapeView) (result : Result U E)
    → ((t : ℕ) (image : List ℕ) → IsTrue tape.told → t ≤ tape.clock → tape.leaves image → tape.since t image) → StartsTape tape started result → LosesNothing tape started
Loses-started {U} {E} tape started result now_counts starts = record {
  told = starts.passes.told;
  bytes = λ told some. starts.kept.bytes;
  fewer = λ told some image left. starts.kept.fewer image left;
  earlier = λ told some t image le since.
      ⊎_elim (λ before. before) (λ now. now_counts t image told le (starts.kept.fewer image now)) ((starts.passes.time told).nothing_else t image le since);
}

-- it was started, and to open it failed
pub Loses-unopened : {U E : Type 0} (tape started given : TapeView) (result : Result U E)
    → ((t : ℕ) (image : List ℕ) → IsTrue tape.told → t ≤ tape.clock → tape.leaves image → tape.since t image) → StartsTape tape started result → WasOpened started given
    → LosesNothing tape given
Loses-unopened {U} {E} tape started given result now_counts starts was = record {
  told = was.told ∙ begun.told;
  bytes = λ told some. (read told some).bytes ∙ begun.bytes told some;
  fewer = λ told some image left. begun.fewer told some image ((read told some).fewer image left);
  earlier = λ told some t image le since.
      begun.earlier told some t image le ((read told some).earlier (begun.told ∙ told) t image (let later = starts.passes.later in omega (arith, le, later)) since);
} where
  begun : LosesNothing tape started
  begun = Loses-started tape started result now_counts starts

  read : IsTrue tape.told → tape.bytes ≢ [] → IsOnlyRead started given
  read told some = was.read (begun.told ∙ told) (λ empty. some (sym starts.kept.bytes ∙ empty))

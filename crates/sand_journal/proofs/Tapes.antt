-- What the calls of a tape in memory do to how it is seen.
use Rattle.std.proofs.Common.{◌≡◌, ◌⊎◌, inl, inr, ℕ, zero, suc, ◌+◌, ◌<◌, ◌≤◌, Bool, List, [], ◌∷◌, ◌++◌, length, get_or, take, drop, Some, None, Ok, Err, refl, sym, ap}
use Rattle.std.proofs.Common.{subst, ◌∙◌, arith, take-append-drop}
use Rattle.std.proofs.lemmas.Bool.{cases_lt}
use Rattle.std.proofs.lemmas.List.{append-nil, length_push, map_more, take-append-le, take_all}
use Rattle.sand_base.specs.Calls.{CallsState}
use Rattle.sand_base.specs.Faults.{HasCause}
use Rattle.sand_journal.specs.Tape.{TimePasses, KeepsBytes, StartsTape, ReadsTape, WritesTape, SyncsTape, Torn}
use Rattle.sand_journal.specs.MemTape.{TapeEvent, TapeWrite, TapeContents, MemTapeState, after_event, after_events, contents_of, written_over, read_of, IsTornOver, IsLeft, IsLeftSince, mem_tape_view}
use Rattle.sand_journal.specs.declared.tape_call.TapeCall.{TapeCall}
use Rattle.sand_journal.specs.MemTapeEvents.{event_of, events_of}
use Rattle.sand_journal.specs.MemTapeLaws.{written_is_torn}

-- the contents after one event more
after-push : (held : TapeContents) (events : List TapeEvent) (event : TapeEvent) → after_events held (events ++ event ∷ []) ≡ after_event (after_events held events) event
after-push held [] event = refl
after-push held (e ∷ events) event = after-push (after_event held e) events event

pub contents-push : (first : List ℕ) (events : List TapeEvent) (event : TapeEvent) → contents_of first (events ++ event ∷ []) ≡ after_event (contents_of first events) event
contents-push first events event = after-push (record { base = first; writes = [] }) events event

-- bytes that stay as they are may be torn
same_is_torn : (at n : ℕ) (bytes : List ℕ) → Torn at n bytes bytes
same_is_torn at n bytes = record { before = (drop at bytes, sym (take-append-drop at bytes)); behind = ([], sym (append-nil (drop (at + n) bytes))); no_shorter = omega arith }

-- the base with the last of its writes left out is torn
pub fewer_is_torn : (base : List ℕ) (writes : List TapeWrite) (n : ℕ) → IsTornOver base writes (written_over base (drop n writes))
fewer_is_torn base writes zero = written_is_torn base writes
fewer_is_torn base [] (suc n) = refl
fewer_is_torn base (write ∷ writes) (suc n) = (written_over base (drop n writes), fewer_is_torn base writes n, same_is_torn write.0 (length write.1) (written_over base (drop n writes)))

-- one call more is one event more
pub events_more : (made : List TapeCall) (i : ℕ) (call : TapeCall) → i < length made → call ≡ get_or made i call → events_of (take (i + 1) made) ≡ events_of (take i made) ++ event_of call ∷ []
events_more made i call within is = map_more event_of made i call within ∙ ap (λ (one : TapeCall). events_of (take i made) ++ event_of one ∷ []) (sym is)

-- a tape with these parts
abbrev pub tape_of : List ℕ → List TapeEvent → Bool → CallsState → MemTapeState
tape_of first events started calls = record { first = first; events = events; started = started; calls = calls }

module _ (first : List ℕ) (events : List TapeEvent) (was started : Bool) (before calls : CallsState) where
  -- where no event comes, no time passes
  pub stays : TimePasses (mem_tape_view (tape_of first events was before)) (mem_tape_view (tape_of first events started calls))
  stays = record { told = refl; later = omega arith; time = λ _. record { nothing_else = λ t image le since. inl since; keeps = λ t image le since. since } }

  pub keeps : KeepsBytes (mem_tape_view (tape_of first events was before)) (mem_tape_view (tape_of first events started calls))
  keeps = record { bytes = refl; fewer = λ image left. left }

  module _ (event : TapeEvent) where
    -- a moment before the event has the contents that it had
    earlier : (moment : ℕ) → moment ≤ length events → take moment (events ++ event ∷ []) ≡ take moment events
    earlier moment le = take-append-le moment events (event ∷ []) le

    -- an image since a moment is one from before the event, or one of now
    since_before : (t : ℕ) (image : List ℕ) → t ≤ length events → IsLeftSince first (events ++ event ∷ []) t image
        → IsLeftSince first events t image ⊎ IsLeft (contents_of first (events ++ event ∷ [])) image
    since_before t image le since = elim (cases_lt (length events) since.0) [
      | inl last ↦ inr (subst (λ (l : List TapeEvent). IsLeft (contents_of first l) image) (take_all since.0 (events ++ event ∷ []) (omega (arith, last, length_push events event))) since.3)
      | inr inside ↦ inl (since.0, since.1, inside, subst (λ (l : List TapeEvent). IsLeft (contents_of first l) image) (earlier since.0 inside) since.3)
    ]

    -- one event more
    pub grows : TimePasses (mem_tape_view (tape_of first events was before)) (mem_tape_view (tape_of first (events ++ event ∷ []) started calls))
    grows = record {
      told = refl;
      later = omega (arith, length_push events event);
      time = λ _. record {
        nothing_else = since_before;
        keeps = λ t image le since. (
          since.0,
          since.1,
          omega (arith, since.2, length_push events event),
          subst (λ (l : List TapeEvent). IsLeft (contents_of first l) image) (sym (earlier since.0 since.2)) since.3,
        );
      };
    }

  -- a call that did nothing
  pub not_started : {T E : Type 0} (why : E) → HasCause {T = T} before.faults calls.faults (Err why)
      → StartsTape {T = T} (mem_tape_view (tape_of first events was before)) (mem_tape_view (tape_of first events started calls)) (Err why)
  not_started why cause = record { passes = stays; kept = keeps; started = tt; cause = cause }

  pub not_read : {E : Type 0} (at : ℕ) (piece : List ℕ) (why : E) → started ≡ was → HasCause {T = ℕ} before.faults calls.faults (Err why)
      → ReadsTape (mem_tape_view (tape_of first events was before)) (mem_tape_view (tape_of first events started calls)) at piece (Err why)
  not_read at piece why same cause = record { passes = stays; kept = keeps; started = same; bound = tt; count = tt; given = tt; cause = cause }

  pub not_written : {T E : Type 0} (at : ℕ) (bytes : List ℕ) (why : E) → started ≡ was → HasCause {T = T} before.faults calls.faults (Err why)
      → WritesTape {T = T} (mem_tape_view (tape_of first events was before)) (mem_tape_view (tape_of first events started calls)) at bytes (Err why)
  not_written at bytes why same cause = record {
    passes = stays;
    started = same;
    written = tt;
    failed = λ _. same_is_torn at (length bytes) (read_of (contents_of first events));
    torn = λ _ image left. (image, left, same_is_torn at (length bytes) image);
    cause = cause;
  }

  pub not_synced : {T E : Type 0} (why : E) → started ≡ was → HasCause {T = T} before.faults calls.faults (Err why)
      → SyncsTape {T = T} (mem_tape_view (tape_of first events was before)) (mem_tape_view (tape_of first events started calls)) (Err why)
  not_synced why same cause = record { passes = stays; kept = keeps; started = same; durable = tt; cause = cause }

  -- a write that was carried out
  pub written : {T E : Type 0} (at : ℕ) (bytes : List ℕ) (done : T) → started ≡ was → HasCause {T = T} {E = E} before.faults calls.faults (Ok done)
      → WritesTape {T = T} {E = E} (mem_tape_view (tape_of first events was before)) (mem_tape_view (tape_of first (events ++ Some (at, bytes) ∷ []) started calls)) at bytes (Ok done)
  written at bytes done same cause = record {
    passes = grows (Some (at, bytes));
    started = same;
    written = λ _. ap read_of (contents-push first events (Some (at, bytes)));
    failed = tt;
    torn = λ _ image left. subst (λ (held : TapeContents). IsLeft held image) (contents-push first events (Some (at, bytes))) left;
    cause = cause;
  }

  -- a sync that was accepted
  pub synced : {T E : Type 0} (done : T) → started ≡ was → HasCause {T = T} {E = E} before.faults calls.faults (Ok done)
      → SyncsTape {T = T} {E = E} (mem_tape_view (tape_of first events was before)) (mem_tape_view (tape_of first (events ++ None ∷ []) started calls)) (Ok done)
  synced done same cause =
      let held : TapeContents = contents_of first events in
      let one : (image : List ℕ) → IsLeft (contents_of first (events ++ None ∷ [])) image → image ≡ read_of held =
      λ image left. subst (λ (now : TapeContents). IsLeft now image) (contents-push first events None) left in
      record {
        passes = grows None;
        kept = record {
          bytes = ap read_of (contents-push first events None);
          fewer = λ image left. subst (λ (l : List ℕ). IsLeft held l) (sym (one image left)) (written_is_torn held.base held.writes);
        };
        started = same;
        durable = λ _. one;
        cause = cause;
      }

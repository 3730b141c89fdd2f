-- A tape in memory: what it held at first, and its writes and syncs since.
use Rattle.std.specs.Prelude.{◌≡◌, ℕ, ◌+◌, ◌-◌, ◌≤◌, Bool, true, List, [], ◌∷◌, ◌++◌, length, take, drop, Option, Some, None}
use Rattle.sand_base.specs.Calls.{CallsState}
use Rattle.sand_journal.specs.Tape.{TapeView, Torn}

-- a write's place and bytes
abbrev pub TapeWrite : Type 0
TapeWrite = ℕ × List ℕ

-- a write, or a sync
abbrev pub TapeEvent : Type 0
TapeEvent = Option TapeWrite

-- The bytes at the last sync, and the writes since, the last one first.
pub record TapeContents : Type 0 where
  pub base : List ℕ
  pub writes : List TapeWrite

-- the bytes with others over them from a place on
abbrev pub put_over : TapeWrite → List ℕ → List ℕ
put_over write bytes = take write.0 bytes ++ write.1 ++ drop (write.0 + length write.1) bytes

-- the base with these writes carried out
abbrev pub written_over : List ℕ → List TapeWrite → List ℕ
written_over base [] = base
written_over base (write ∷ writes) = put_over write (written_over base writes)

-- the base with each of these writes carried out or torn
abbrev pub IsTornOver : List ℕ → List TapeWrite → List ℕ → Type 0
IsTornOver base [] image = image ≡ base
IsTornOver base (write ∷ writes) image = (from : List ℕ) × IsTornOver base writes from × Torn write.0 (length write.1) from image

-- what a read gives
abbrev pub read_of : TapeContents → List ℕ
read_of held = written_over held.base held.writes

-- an image that a crash may leave
abbrev pub IsLeft : TapeContents → List ℕ → Type 0
IsLeft held image = IsTornOver held.base held.writes image

-- the contents after one event more: a sync makes what a read gives durable
abbrev pub after_event : TapeContents → TapeEvent → TapeContents
after_event held None = record { base = read_of held; writes = [] }
after_event held (Some write) = record held { writes = write ∷ held.writes }

-- the contents after these events
abbrev pub after_events : TapeContents → List TapeEvent → TapeContents
after_events held [] = held
after_events held (event ∷ events) = after_events (after_event held event) events

-- the contents of a tape that held these bytes at first, after these events
abbrev pub contents_of : List ℕ → List TapeEvent → TapeContents
contents_of first events = after_events (record { base = first; writes = [] }) events

-- the base with the first n of the later writes carried out and the others not
abbrev pub image_of : TapeContents → ℕ → List ℕ
image_of held n = written_over held.base (drop (length held.writes - n) held.writes)

-- The bytes at first, the events since, whether the tape was started, and the calls so far.
pub record MemTapeState : Type 0 where
  pub first : List ℕ
  pub events : List TapeEvent
  pub started : Bool
  pub calls : CallsState

-- the contents of a tape in memory
abbrev pub held_by : MemTapeState → TapeContents
held_by s = contents_of s.first s.events

-- an image that a crash after so many events or more might have left
abbrev pub IsLeftSince : List ℕ → List TapeEvent → ℕ → List ℕ → Type 0
IsLeftSince first events t image = (moment : ℕ) × (t ≤ moment) × (moment ≤ length events) × IsLeft (contents_of first (take moment events)) image

-- how a tape in memory is seen: it tells everything, and its moments are its events
abbrev pub mem_tape_view : MemTapeState → TapeView
mem_tape_view s = record {
  told = true;
  started = s.started;
  bytes = read_of (held_by s);
  leaves = IsLeft (held_by s);
  clock = length s.events;
  since = IsLeftSince s.first s.events;
  faults = s.calls.faults;
}

-- The calls that a tape in memory keeps, as events, and what it holds beside them.
use Rattle.std.specs.Prelude.{◌≡◌, ℕ, List, map, Option, Some, None, Vec}
use Rattle.std.specs.declared.alloc.Global.{Global}
use Rattle.sand_journal.specs.declared.tape_call.TapeCall.{TapeCall}
use Rattle.sand_journal.specs.declared.tape_call.TapeCall.TheVariants as call
use Rattle.sand_journal.specs.MemTape.{TapeEvent, read_of, contents_of}

-- a call as an event
abbrev pub event_of : TapeCall → TapeEvent
event_of (call.Write at bytes) = Some (at, bytes.items)
event_of call.Sync = None

-- the calls as events
abbrev pub events_of : List TapeCall → List TapeEvent
events_of calls = map event_of calls

-- the latest bytes, or those at first where no write has changed them
abbrev pub latest_or : List ℕ → Option (Vec ℕ Global) → List ℕ
latest_or first None = first
latest_or first (Some bytes) = bytes.items

-- the latest bytes are those after the calls
abbrev pub IsCurrent : List ℕ → Option (Vec ℕ Global) → List TapeCall → Type 0
IsCurrent first latest made = latest_or first latest ≡ read_of (contents_of first (events_of made))

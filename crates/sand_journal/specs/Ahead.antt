-- What stands at a gate, as it is read.
use Rattle.std.specs.Prelude.{◌≡◌, ℕ, ◌+◌, ◌^◌, ◌<◌, ◌≤◌, List, ◌∷◌, length, ⊤}
use Rattle.std.specs.Int.{w32, to_be_bytes}
use Rattle.sand_journal.specs.declared.ahead.Ahead.{Ahead}
use Rattle.sand_journal.specs.declared.ahead.Ahead.TheVariants as ahead
use Rattle.sand_journal.specs.declared.ahead.Head.{Head}
use Rattle.sand_journal.specs.declared.ahead.Head.TheVariants as head
use Rattle.sand_journal.specs.declared.fault.JournalFault.{JournalFault}
use Rattle.sand_journal.specs.declared.fault.JournalFault.TheVariants.{Memory, Failed, Bad}
use Rattle.sand_journal.specs.Tape.{TapeView}
use Rattle.sand_journal.specs.Images.{IsShort, HasBodies, HasNext}
use Rattle.sand_journal.specs.Journal.{IsCutBehind}

-- The first five bytes from a gate on, or fewer at the file's end, show a gate that isn't open, a head that is cut short, or a length.
abbrev pub IsHead : List ℕ → Head → Type 0
IsHead bytes head.Shut = (behind : List ℕ) → bytes ≡ 1 ∷ behind → ⊥
IsHead bytes head.Cut = (behind : List ℕ) × (bytes ≡ 1 ∷ behind) × (length behind < 4)
IsHead bytes (head.Open size) = (size < 2 ^ 32) × (bytes ≡ 1 ∷ to_be_bytes w32 size)

-- What stands behind the records of these bodies: a gate that isn't open, an open record that is none, or one with this body.
abbrev pub IsAhead : TapeView → List (List ℕ) → Ahead → Type 0
IsAhead tape bodies ahead.End = HasBodies bodies tape.bytes
IsAhead tape bodies ahead.Bad = IsCutBehind tape.bytes bodies
IsAhead tape bodies (ahead.Body body) = HasNext tape.bytes bodies body.items

-- a body that was found is short, and the gate behind it isn't above the last
abbrev pub IsNearAhead : ℕ → Ahead → Type 0
IsNearAhead end ahead.End = ⊤
IsNearAhead end ahead.Bad = ⊤
IsNearAhead end (ahead.Body body) = IsShort body.items × (end + 5 + length body.items ≤ 2 ^ 62)

-- the fault is of memory or of the tape
abbrev pub IsMemoryOrTape : JournalFault → Type 0
IsMemoryOrTape Memory = ⊤
IsMemoryOrTape Failed = ⊤
IsMemoryOrTape (Bad _) = ⊥

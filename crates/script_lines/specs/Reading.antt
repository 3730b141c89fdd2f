-- What a reader of lines has read and given, and what its next answer says of that.
use Rattle.std.specs.Prelude.{◌≡◌, ⊤, ℕ, ◌+◌, ◌-◌, ◌<◌, ◌≤◌, Bool, true, false, cond, List, [], ◌∷◌, ◌++◌, length, take, Option, Some, Result, Ok, Err, MatchBool}
use Rattle.std.specs.Io.KnownBytes.{Consumes, IsAtEnd}
use Rattle.sand_base.specs.declared.source.Failed.{Failed}
use Rattle.script_lines.specs.Lines.{clipped, lines, ended_lines, is_no_line, is_short_line}
use Rattle.script_lines.specs.Parts.{IsReaderAt}
use Rattle.script_lines.specs.declared.TheConstants.{LONGEST_SCRIPT}
use Rattle.script_lines.specs.declared.script_lines.Found.{Found}
use Rattle.script_lines.specs.declared.script_lines.Found.TheVariants as found
use Rattle.script_lines.specs.declared.script_lines.ScriptLines.{ScriptLines}

-- the line in hand: none once it was given
abbrev pub hand_of : ScriptLines → Option (List ℕ)
hand_of reader = cond reader.is_given (Some []) reader.line

-- the end of the script was met and all its lines were given, or the reader is between two bytes of it
abbrev pub ReaderStands : Bool → ScriptLines → Option (List ℕ) → List ℕ → List (List ℕ) → Type 0
ReaderStands true reader left bytes given = IsAtEnd left × (length bytes ≤ LONGEST_SCRIPT) × (lines bytes ≡ given)
ReaderStands false reader left bytes given = IsReaderAt reader.chunk (hand_of reader) bytes given

-- these bytes were read of the script, and these lines of it were given
abbrev pub ReadsLines : ScriptLines → Option (List ℕ) → List ℕ → List (List ℕ) → Type 0
ReadsLines reader left bytes given = ReaderStands reader.is_ended reader left bytes given

-- one more line was given, which the reader has in hand; it is the next of the lines of the script
pub record GivesLine (reader : ScriptLines) (left : Option (List ℕ)) (bytes : List ℕ) (given : List (List ℕ)) : Type 0 where
  pub line : List ℕ
  pub hand : reader.line ≡ clipped line
  pub others : List (List ℕ)
  pub first : lines bytes ≡ (given ++ line ∷ []) ++ others
  pub most : length bytes ≤ LONGEST_SCRIPT + 1
  pub reads : ReadsLines reader left bytes (given ++ line ∷ [])

-- What an answer says of all bytes read and of the lines given before. At the end these are all lines of the script;
-- after a failed read, and with one byte too many (which isn't among them), those that a line feed ends.
abbrev pub FindsLines : Result Found Failed → ScriptLines → Option (List ℕ) → List ℕ → List (List ℕ) → Type 0
FindsLines (Ok found.Line) reader left bytes given = GivesLine reader left bytes given
FindsLines (Ok found.TooLong) reader left bytes given = GivesLine reader left bytes given
FindsLines (Ok found.End) reader left bytes given =
    IsAtEnd left × (length bytes ≤ LONGEST_SCRIPT) × (lines bytes ≡ given) × ReadsLines reader left bytes given
FindsLines (Ok found.ScriptTooLong) reader left bytes given =
    (length bytes ≡ LONGEST_SCRIPT + 1) × (ended_lines (take LONGEST_SCRIPT bytes) ≡ given) × ReadsLines reader left bytes given
FindsLines (Err e) reader left bytes given =
    (length bytes ≤ LONGEST_SCRIPT) × (ended_lines bytes ≡ given) × ReadsLines reader left bytes given

-- Whatever was read and given before, a call read on, and its answer says this of all.
abbrev pub Pulls : Result Found Failed → ScriptLines → ScriptLines → Option (List ℕ) → Option (List ℕ) → Type 0
Pulls answer old new before left =
    (bytes : List ℕ) (given : List (List ℕ)) → ReadsLines old before bytes given
    → (read : List ℕ) × Consumes before left read × FindsLines answer new left (bytes ++ read) given

-- how much may still come: the bytes ahead and those not yet read, and the end
abbrev pub to_come : ScriptLines → ℕ
to_come reader = (LONGEST_SCRIPT + 1 - reader.chunk.count) + length reader.chunk.ahead + cond reader.is_ended 0 1

-- each line found leaves less to come
abbrev pub LeavesLess : Result Found Failed → ScriptLines → ScriptLines → Type 0
LeavesLess (Ok found.Line) old new = to_come new < to_come old
LeavesLess (Ok found.TooLong) old new = to_come new < to_come old
LeavesLess _ old new = ⊤

-- a line in hand is given as one that is short or too long
abbrev pub found_line : Option (List ℕ) → Found
found_line line = cond (is_short_line line) found.Line found.TooLong

-- at the end of the script the line in hand is the last, where it isn't empty
abbrev pub EndsLines : ScriptLines → ScriptLines → Found → Type 0
EndsLines old new answer = MatchBool (is_no_line old.line)
    ((answer ≡ found.End) × (new ≡ record old { is_ended = true }))
    ((answer ≡ found_line old.line) × (new ≡ record old { is_given = true; is_ended = true }))

-- a line that was found is short, or is told as too long
abbrev pub HasFound : Result Found Failed → Option (List ℕ) → Type 0
HasFound (Ok found.Line) line = is_short_line line ≡ true
HasFound (Ok found.TooLong) line = is_short_line line ≡ false
HasFound _ line = ⊤

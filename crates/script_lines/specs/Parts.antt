-- What the parts of a reader of lines do: the piece of the script in hand, and the line in hand.
use Rattle.std.specs.Prelude.{◌≡◌, ℕ, ◌+◌, ◌-◌, ◌<◌, ◌≤◌, nat_lt, Bool, true, false, List, [], ◌∷◌, ◌++◌, length, take, Option, None, Some, Result, Ok, Err}
use Rattle.std.specs.Io.KnownBytes.{Consumes, IsAtEnd}
use Rattle.sand_base.specs.declared.source.Failed.{Failed}
use Rattle.script_lines.specs.Lines.{cut, clipped, HasNoFeed}
use Rattle.script_lines.specs.declared.TheConstants.{LONGEST_SCRIPT}
use Rattle.script_lines.specs.declared.script_lines.Stop.{Stop}
use Rattle.script_lines.specs.declared.script_lines.Stop.TheVariants as stop

-- the bytes ahead, which were read and are in no line yet, and how many were read in all
pub record ChunkState : Type 0 where
  pub ahead : List ℕ
  pub count : ℕ

-- the first byte ahead is taken, if there is one
abbrev pub TakesByte : ChunkState → ChunkState → Option ℕ → Type 0
TakesByte old new None = (old.ahead ≡ []) × (new ≡ old)
TakesByte old new (Some byte) = (old.ahead ≡ byte ∷ new.ahead) × (new.count ≡ old.count)

-- A read brought some bytes or met the end; ahead are those of them that a script may have.
pub record Refills (some : Bool) (old new : ChunkState) (before left : Option (List ℕ)) : Type 0 where
  pub read : List ℕ
  pub consumed : Consumes before left read
  pub ahead : new.ahead ≡ take (LONGEST_SCRIPT - old.count) read
  pub count : new.count ≡ old.count + length read
  pub most : new.count ≤ LONGEST_SCRIPT + 1
  pub some_is : some ≡ nat_lt 0 (length read)
  pub ended : some ≡ false → IsAtEnd left

-- these lines, then those of a cut text
abbrev pub behind : List (List ℕ) → List (List ℕ) × List ℕ → List (List ℕ) × List ℕ
behind given w = (given ++ w.0, w.1)

-- Whatever bytes follow, the text is cut into the lines given, then into those of the line in hand and the bytes ahead of it.
pub record IsCutSoFar (hand : Option (List ℕ)) (ahead bytes : List ℕ) (given : List (List ℕ)) : Type 0 where
  pub begun : List ℕ
  pub no_feed : HasNoFeed begun
  pub hand_is : hand ≡ clipped begun
  pub leads : (more : List ℕ) → cut (bytes ++ more) ≡ behind given (cut ((begun ++ ahead) ++ more))

-- the reader is between two bytes of the script, of which these were read
pub record IsReaderAt (chunk : ChunkState) (hand : Option (List ℕ)) (bytes : List ℕ) (given : List (List ℕ)) : Type 0 where
  pub count : length bytes ≡ chunk.count
  pub most : length bytes ≤ LONGEST_SCRIPT + 1
  pub is_cut : IsCutSoFar hand chunk.ahead (take LONGEST_SCRIPT bytes) given

-- the bytes ahead join the line in hand, up to a line feed or up to their end
abbrev pub FillsLine : Bool → Option (List ℕ) → Option (List ℕ) → List ℕ → List ℕ → Type 0
FillsLine true hand hand' ahead ahead' = (length ahead' < length ahead)
    × ((bytes : List ℕ) (given : List (List ℕ)) → IsCutSoFar hand ahead bytes given
    → (line : List ℕ) × (hand' ≡ clipped line) × IsCutSoFar (Some []) ahead' bytes (given ++ line ∷ []))
FillsLine false hand hand' ahead ahead' =
    (ahead' ≡ []) × ((bytes : List ℕ) (given : List (List ℕ)) → IsCutSoFar hand ahead bytes given → IsCutSoFar hand' ahead' bytes given)

-- where the reader stands once it stopped
abbrev pub ReaderStopsAt : Result Stop Failed → ChunkState → Option (List ℕ) → Option (List ℕ) → List ℕ → List (List ℕ) → Type 0
ReaderStopsAt (Ok stop.LineFeed) chunk hand left bytes given =
    (line : List ℕ) × (hand ≡ clipped line) × IsReaderAt chunk (Some []) bytes (given ++ line ∷ [])
ReaderStopsAt (Ok stop.End) chunk hand left bytes given =
    IsAtEnd left × (length bytes ≤ LONGEST_SCRIPT) × (chunk.ahead ≡ []) × IsReaderAt chunk hand bytes given
ReaderStopsAt (Ok stop.ScriptTooLong) chunk hand left bytes given =
    (length bytes ≡ LONGEST_SCRIPT + 1) × (chunk.ahead ≡ []) × IsReaderAt chunk hand bytes given
ReaderStopsAt (Err e) chunk hand left bytes given = (length bytes ≤ LONGEST_SCRIPT) × (chunk.ahead ≡ []) × IsReaderAt chunk hand bytes given

-- wherever the reader stood, it read on
abbrev pub ReadsOn : ChunkState → ChunkState → Option (List ℕ) → Option (List ℕ) → Option (List ℕ) → Option (List ℕ) → Type 0
ReadsOn old new hand hand' before left = (bytes : List ℕ) (given : List (List ℕ)) → IsReaderAt old hand bytes given
    → (read : List ℕ) × Consumes before left read × IsReaderAt new hand' (bytes ++ read) given

-- wherever the reader stood, it read on up to a stop
abbrev pub SeeksStop : Result Stop Failed → ChunkState → ChunkState → Option (List ℕ) → Option (List ℕ) → Option (List ℕ) → Option (List ℕ) → Type 0
SeeksStop answer old new hand hand' before left = (bytes : List ℕ) (given : List (List ℕ)) → IsReaderAt old hand bytes given
    → (read : List ℕ) × Consumes before left read × ReaderStopsAt answer new hand' left (bytes ++ read) given

-- how many bytes are ahead or not yet read
abbrev pub bytes_to_come : ChunkState → ℕ
bytes_to_come chunk = (LONGEST_SCRIPT + 1 - chunk.count) + length chunk.ahead

-- fewer where a line feed was met, and never more
abbrev pub BytesFall : Result Stop Failed → ChunkState → ChunkState → Type 0
BytesFall (Ok stop.LineFeed) old new = bytes_to_come new < bytes_to_come old
BytesFall _ old new = bytes_to_come new ≤ bytes_to_come old

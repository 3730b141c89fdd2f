-- The lines of the program's output as the code has them, and the lines of the model that they are.
use Rattle.std.specs.Prelude.{⊤}
use Rattle.sand_model.specs.Cursor.{OutputLine, Accepted, Id, Loaded, Row, End, Stats, LeafOf, Refused}
use Rattle.z_code.specs.Block.{IsBlock}
use Rattle.output_text.specs.declared.line.LineRef.{LineRef}
use Rattle.output_text.specs.declared.line.LineRef.TheVariants as line

-- the line of the model that a line is
abbrev pub line_of : LineRef → OutputLine
line_of line.Accepted = Accepted
line_of (line.Id id) = Id id
line_of (line.Loaded rows) = Loaded rows
line_of (line.Row gap ids values) = Row (record { gap = gap; ids = ids.now; values = values.now })
line_of line.End = End
line_of (line.Stats blocks pairs geometries rows) =
    Stats (record { blocks = blocks; pairs = pairs; geometries = geometries }) rows
line_of (line.Leaf block ids) = LeafOf block ids.now
line_of (line.Refused refusal) = Refused refusal

-- the block of a leaf is a block
abbrev pub IsPrintable : LineRef → Type 0
IsPrintable (line.Leaf block ids) = IsBlock block
IsPrintable _ = ⊤

-- The lines that a script prints are plain, as they are decided over any disk.
use Rattle.std.proofs.Common.{◌≡◌, ◌⊎◌, ℕ, List, [], ◌∷◌, ◌++◌, Option, Some, None, refl, sym, subst, inl, inr}
use Rattle.std.specs.Prelude.{All}
use Rattle.std.specs.List.{count_by}
use Rattle.std.proofs.lemmas.List.Elements.{All-head, All-tail}
use Rattle.sand_base.specs.Shelf.{Files}
use Rattle.sand_base.specs.declared.refusal.Refusal.{Refusal}
use Rattle.sand_base.specs.declared.refusal.Refusal.TheVariants as why
use Rattle.sand_model.specs.Cursor.{State, OutputLine, Accepted, Id, Loaded, Row, End, Stats as StatsOf, LeafOf, Refused}
use Rattle.sand_model.specs.OutputText.{IsText, is_refused}
use Rattle.sand_model.specs.PlainLines.{IsRowLine, IsLeafLine, IsPlainLine}
use Rattle.sand_model.specs.ScriptLine.{ScriptLine, Blank, TooLong, BadToken, OutOfRange, Says}
use Rattle.sand_model.specs.StatementChecks.{Setting, early}
use Rattle.statements.specs.Statement.{Statement, Create, Insert, Delete, Load, Index as IndexOn, Rtree, OpenCursor, Next, CloseCursor, Show, Stats, Far, Blocks}
use Rattle.script_lines.specs.Lines.{ended_lines}
use Rattle.statement_exec.specs.Deciding.{ComesBefore, ComesBehind, EndsRows, PrintsRowsUpTo, PrintsFirstUpTo, RefusesBy, PrintsPassed, DecidesEarly, InFound, line_of_rows}
use Rattle.statement_exec.specs.Moment.{Moment}
use Rattle.statement_exec.specs.Outline.{Outline, bare, outline_of}
use Rattle.line_meaning.specs.Said.{PrintsOrMemory, AnswersSaid, AnswerInOrder, AreAnswered}
use Rattle.run_laws.specs.SeenRefusals.{says_refused}
use Rattle.run_laws.proofs.SeenLines.{ArePlain, lines_seen}
use Rattle.run_laws.proofs.Settings.{moment_setting}

-- ---- lines

plain_as : (lines printed : List OutputLine) → lines ≡ printed → ArePlain printed → ArePlain lines
plain_as lines printed e h = subst ArePlain (sym e) h

plain_both : (xs ys : List OutputLine) → ArePlain xs → ArePlain ys → ArePlain (xs ++ ys)
plain_both [] ys h k = k
plain_both (x ∷ xs) ys h k = (h.0, plain_both xs ys h.1 k)

one_line : (line : OutputLine) → IsPlainLine line → (lines : List OutputLine) → lines ≡ line ∷ [] → ArePlain lines
one_line line h lines e = plain_as lines (line ∷ []) e (h, tt)

rows_plain : (lines : List OutputLine) → All IsRowLine lines → ArePlain lines
rows_plain [] h = tt
rows_plain (Row row ∷ lines) h = (All-head IsRowLine (Row row) lines h, rows_plain lines (All-tail IsRowLine (Row row) lines h))
rows_plain (x ∷ lines) h = absurd (All-head IsRowLine x lines h)

leaves_plain : (lines : List OutputLine) → All IsLeafLine lines → ArePlain lines
leaves_plain [] h = tt
leaves_plain (LeafOf b ids ∷ lines) h = (tt, leaves_plain lines (All-tail IsLeafLine (LeafOf b ids) lines h))
leaves_plain (x ∷ lines) h = absurd (All-head IsLeafLine x lines h)

last_plain : (may : Refusal → Type 0) (last : OutputLine) → EndsRows may last → IsPlainLine last
last_plain may End h = tt
last_plain may (Refused w) h = tt
last_plain may _ h = absurd h

rows_up_to : (may : Refusal → Type 0) (count : ℕ) (lines : List OutputLine) → PrintsRowsUpTo may count lines → ArePlain lines
rows_up_to may count lines (inl all) = rows_plain lines all.0
rows_up_to may count lines (inr f) =
    plain_as lines (f.front ++ f.last ∷ []) f.split (plain_both f.front (f.last ∷ []) (rows_plain f.front f.of_rows.0) (last_plain may f.last f.ends, tt))

leaves_up_to : (may : Refusal → Type 0) (lines : List OutputLine) → PrintsFirstUpTo may lines → ArePlain lines
leaves_up_to may lines (inl all) = leaves_plain lines all
leaves_up_to may lines (inr (leaves, w, of_leaves, comes, is)) =
    plain_as lines (leaves ++ Refused w ∷ []) is (plain_both leaves (Refused w ∷ []) (leaves_plain leaves of_leaves) (tt, tt))

-- the line of a load
of_rows_plain : (o : Option Refusal) (n : ℕ) (lines : List OutputLine) → lines ≡ line_of_rows o n ∷ [] → ArePlain lines
of_rows_plain None n lines h = one_line (Loaded n) tt lines h
of_rows_plain (Some w) n lines h = one_line (Refused w) tt lines h

-- ---- statements

module _ (setting : Setting) (state : State) where
  passed_plain : (statement : Statement) (lines : List OutputLine) → PrintsPassed setting state statement lines → ArePlain lines
  passed_plain (Create name columns) lines h = one_line Accepted tt lines h
  passed_plain (Insert name row) lines (relation, found, h) = one_line (Id relation.next) tt lines h
  passed_plain (Delete name id) lines h = one_line Accepted tt lines h
  passed_plain (Load name file header) lines (relation, found, h) = of_rows_plain _ _ lines h
  passed_plain (IndexOn column threshold) lines h = one_line Accepted tt lines h
  passed_plain (Rtree column) lines h = one_line Accepted tt lines h
  passed_plain (OpenCursor name p) lines h = one_line Accepted tt lines h
  passed_plain (CloseCursor name) lines h = one_line Accepted tt lines h
  passed_plain (Stats name) lines (seen, given, h) = one_line (StatsOf seen given) tt lines h
  passed_plain (Next name count) lines h = rows_up_to (ComesBehind (Next name count)) count lines h
  passed_plain (Show count p) lines h = rows_up_to (ComesBehind (Show count p)) count lines h
  passed_plain (Far count column goal) lines h = rows_up_to (ComesBehind (Far count column goal)) count lines h
  passed_plain (Blocks column) lines h = leaves_up_to (ComesBehind (Blocks column)) lines h

  refused_plain : (may : Refusal → Type 0) (lines : List OutputLine) → RefusesBy may lines → ArePlain lines
  refused_plain may lines (w, comes, is) = one_line (Refused w) tt lines is

  early_plain : (statement : Statement) (lines : List OutputLine) → DecidesEarly setting state statement lines → ArePlain lines
  early_plain statement lines h = go (early setting state statement) refl where
    go : (o : Option Refusal) → early setting state statement ≡ o → ArePlain lines
    go (Some w) e = fails (rw e at h) where
      fails : (lines ≡ Refused w ∷ []) ⊎ RefusesBy (ComesBefore state statement) lines → ArePlain lines
      fails (inl is) = one_line (Refused w) tt lines is
      fails (inr other) = refused_plain (ComesBefore state statement) lines other
    go None e = passes (rw e at h) where
      passes : RefusesBy (ComesBehind statement) lines ⊎ PrintsPassed setting state statement lines → ArePlain lines
      passes (inl other) = refused_plain (ComesBehind statement) lines other
      passes (inr is) = passed_plain statement lines is

found_plain : (files : Option Files) (setting : Setting) (state : State) (statement : Statement) (lines : List OutputLine)
    → InFound files setting statement (λ own. DecidesEarly own state statement lines) → ArePlain lines
found_plain files setting state (Load name file header) lines (found, told, h) = early_plain (record setting { files = found }) state (Load name file header) lines h
found_plain files setting state (Create name columns) lines h = early_plain setting state (Create name columns) lines h
found_plain files setting state (Insert name row) lines h = early_plain setting state (Insert name row) lines h
found_plain files setting state (Delete name id) lines h = early_plain setting state (Delete name id) lines h
found_plain files setting state (IndexOn column threshold) lines h = early_plain setting state (IndexOn column threshold) lines h
found_plain files setting state (Rtree column) lines h = early_plain setting state (Rtree column) lines h
found_plain files setting state (OpenCursor name p) lines h = early_plain setting state (OpenCursor name p) lines h
found_plain files setting state (CloseCursor name) lines h = early_plain setting state (CloseCursor name) lines h
found_plain files setting state (Stats name) lines h = early_plain setting state (Stats name) lines h
found_plain files setting state (Next name count) lines h = early_plain setting state (Next name count) lines h
found_plain files setting state (Show count p) lines h = early_plain setting state (Show count p) lines h
found_plain files setting state (Far count column goal) lines h = early_plain setting state (Far count column goal) lines h
found_plain files setting state (Blocks column) lines h = early_plain setting state (Blocks column) lines h

-- ---- lines of a script

memory_plain : (lines printed : List OutputLine) → ArePlain lines → PrintsOrMemory lines printed → ArePlain printed
memory_plain lines printed h (inl is) = plain_as printed lines is h
memory_plain lines printed h (inr is) = one_line (Refused why.Memory) tt printed is

said_plain : (files : Option Files) (setting : Setting) (old : Outline) (told : ScriptLine) (printed : List OutputLine) (new : Outline)
    → AnswersSaid files setting old told printed new → ArePlain printed
said_plain files setting old Blank printed new h = memory_plain [] printed tt h.0
said_plain files setting old TooLong printed new h = one_line (Refused why.LineTooLong) tt printed h.0
said_plain files setting old (BadToken column) printed new h = memory_plain (Refused (why.Syntax column) ∷ []) printed (tt, tt) h.0
said_plain files setting old OutOfRange printed new h = memory_plain (Refused why.Range ∷ []) printed (tt, tt) h.0
said_plain files setting old (Says statement) printed new h = found_plain files setting (bare old) statement printed h.0

order_plain : (files : Option Files) (setting : Setting) (old : Outline) (script : List ScriptLine) (printed : List OutputLine) (new : Outline)
    → AnswerInOrder files setting old script printed new → ArePlain printed
order_plain files setting old [] printed new h = plain_as printed [] h.0 tt
order_plain files setting old (told ∷ script) printed new (own, others, mid, said, rest, is) =
    plain_as printed (own ++ others) is (plain_both own others (said_plain files setting old told own mid said) (order_plain files setting mid script others new rest))

-- they are seen in the text
pub answered_seen : (script : List ScriptLine) (old new : Moment) (printed : List OutputLine) → AreAnswered script old new printed
    → (text : List ℕ) → IsText printed text → count_by says_refused (ended_lines text) ≡ count_by is_refused printed
answered_seen script old new printed answered =
    let s = moment_setting old in
    lines_seen printed (order_plain old.files s.0 (outline_of old.state) script printed (outline_of new.state) (answered s.0 s.2))

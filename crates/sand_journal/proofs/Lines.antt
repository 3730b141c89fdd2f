-- What reading a line tells of the change whose body its text may end.
use Rattle.std.proofs.Common.{◌≡◌, ◌≢◌, ◌↔◌, ◌⊎◌, inl, inr, ℕ, ◌<◌, Bool, true, false, List, ◌∷◌, length, get_or, Option, Some, None, Result, Ok, Err, refl, sym, ap, subst, ◌∙◌, arith}
use Rattle.std.specs.Prelude.{IfOk}
use Rattle.std.proofs.lemmas.Bool.{false≢true}
use Rattle.sand_base.specs.declared.memory.NoMemory.{NoMemory}
use Rattle.script_text.specs.declared.TheConstants.{LONGEST_LINE}
use Rattle.script_text.specs.declared.parse.LineFault.{LineFault}
use Rattle.script_text.specs.declared.parse.LineFault.TheVariants.{Memory}
use Rattle.statements.specs.declared.statement.Statement as spoken
use Rattle.script_text.specs.Line.{Reads}
use Rattle.script_text.specs.Printing.{printed}
use Rattle.statements.specs.Statement.{Statement, statement_value}
use Rattle.sand_journal.specs.declared.change.Change.{Change}
use Rattle.sand_journal.specs.declared.change.Change.TheVariants as change
use Rattle.sand_journal.specs.ChangeBody.{ChangeValue, Line, Rows, IsKept, IsChange, IsChangeOf, body_of, line_value, change_value}
use Rattle.sand_journal.proofs.Bodies.{ReadsOnly, same_tail, line_body_is, rows_body_is}
use Rattle.sand_journal.proofs.PrintedLengths.{printed_short}

-- a body that begins with 1 is that of the statement of which its text is the printed form
line_text : (text : List ℕ) (s : Statement) → 1 ∷ text ≡ body_of (Line s) → text ≡ printed s
line_text text s same = same_tail 1 1 text (printed s) (same ∙ line_body_is s)

-- and isn't that of rows
not_rows : (text relation : List ℕ) (rows : List (List ℕ)) → 1 ∷ text ≡ body_of (Rows relation rows) → ⊥
not_rows text relation rows same =
    let heads = ap (λ (l : List ℕ). get_or l 0 0) (same ∙ rows_body_is relation rows) in omega (arith, heads)

-- a text of which no kept statement in range has the printed form ends no change's body
no_change : (text : List ℕ) → ((s : Statement) → IsChange (Line s) → text ≡ printed s → ⊥) → (c : ChangeValue) → IsChange c → 1 ∷ text ≡ body_of c → ⊥
no_change text none (Line s) change same = none s change (line_text text s same)
no_change text none (Rows relation rows) change same = not_rows text relation rows same

no_line : (text : List ℕ) → ((s : Statement) → IsChange (Line s) → text ≡ printed s → ⊥) → IsChangeOf (1 ∷ text) None
unfolding IsChangeOf
no_line text none = no_change text none

-- none is longer than a line
pub long_none : (text : List ℕ) → LONGEST_LINE < length text → IsChangeOf (1 ∷ text) None
long_none text long = no_line text (λ s change is. omega (arith, long, ap length is, printed_short s change.0 change.1))

-- where the text is read and memory was there, the answer is the statement of which it is the printed form
only_answer : ReadsOnly → (text : List ℕ) (answer : Result (Option Statement) LineFault) → answer ≢ Err Memory → Reads text answer → (s : Statement) → IsChange (Line s)
    → text ≡ printed s → answer ≡ Ok (Some s)
only_answer only text answer memory reads s change is = only s answer change.1 (subst (λ (l : List ℕ). Reads l answer) is reads) memory

-- a line that is passed over has none
pub blank_none : ReadsOnly → (text : List ℕ) → Reads text (Ok None) → IsChangeOf (1 ∷ text) None
blank_none only text reads = no_line text (λ s change is. let wrong = only_answer only text (Ok None) (λ h. cc h) reads s change is in cc wrong)

-- the fault of an answer, or another
abbrev fault_of : LineFault → Result (Option Statement) LineFault → LineFault
fault_of other (Ok _) = other
fault_of other (Err fault) = fault

-- nor has one at fault
pub fault_none : ReadsOnly → (text : List ℕ) (fault : LineFault) → fault ≢ Memory → Reads text (Err fault) → IsChangeOf (1 ∷ text) None
fault_none only text fault memory reads = no_line text (λ s change is. let wrong = only_answer only text (Err fault) (λ h. memory (ap (fault_of fault) h)) reads s change is in cc wrong)

-- the statement of an answer, or another
answered : Statement → Result (Option Statement) LineFault → Statement
answered other (Ok (Some s)) = s
answered other (Ok None) = other
answered other (Err _) = other

-- nor one whose statement isn't kept, or is printed otherwise
pub other_none : ReadsOnly → (text : List ℕ) (s : spoken.Statement) → Reads text (Ok (Some (statement_value s)))
    → ((IsKept (line_value s) × (text ≡ printed (line_value s))) → ⊥) → IsChangeOf (1 ∷ text) None
unfolding line_value answered
other_none only text s reads other = no_line text (λ t change is.
    let one : statement_value s ≡ t = ap (answered t) (only_answer only text (Ok (Some (statement_value s))) (λ h. cc h) reads t change is) in
    other (subst IsKept (sym one) change.0, subst (λ (v : Statement). text ≡ printed v) (sym one) is))

-- a statement that is kept and printed so is the change
pub line_found : (text : List ℕ) (s : spoken.Statement) → Reads text (Ok (Some (statement_value s))) → IsKept (line_value s) × (text ≡ printed (line_value s))
    → IsChangeOf (1 ∷ text) (Some (change.Line s))
unfolding IsChangeOf change_value line_value
line_found text s reads line = ((line.0, reads.in_range), ap (λ (l : List ℕ). 1 ∷ l) line.1 ∙ sym (line_body_is (statement_value s)))

-- so what is given where the statement is such a line is the change of the text, and where not there is none
pub line_answer : ReadsOnly → (text : List ℕ) (s : spoken.Statement) → Reads text (Ok (Some (statement_value s)))
    → (wanted : Result Bool NoMemory) → IfOk wanted (λ b. (b ≡ true) ↔ (IsKept (line_value s) × (text ≡ printed (line_value s))))
    → (result : Result (Option Change) NoMemory) → IfOk result (λ found. ((wanted ≡ Ok true) × (found ≡ Some (change.Line s))) ⊎ ((wanted ≡ Ok false) × (found ≡ None)))
    → IfOk result (IsChangeOf (1 ∷ text))
line_answer only text s reads wanted holds (Err why) said = tt
line_answer only text s reads wanted holds (Ok found) (inl is_line) =
    let both = subst (λ (w : Result Bool NoMemory). IfOk w (λ b. (b ≡ true) ↔ (IsKept (line_value s) × (text ≡ printed (line_value s))))) is_line.0 holds in
    subst (IsChangeOf (1 ∷ text)) (sym is_line.1) (line_found text s reads (both.0 refl))
line_answer only text s reads wanted holds (Ok found) (inr is_none) =
    let both = subst (λ (w : Result Bool NoMemory). IfOk w (λ b. (b ≡ true) ↔ (IsKept (line_value s) × (text ≡ printed (line_value s))))) is_none.0 holds in
    subst (IsChangeOf (1 ∷ text)) (sym is_none.1) (other_none only text s reads (λ line. false≢true (both.1 line)))

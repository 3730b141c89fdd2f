-- The bodies of changes: how they are made up, and that each is that of one change.
use Rattle.std.proofs.Common.{◌≡◌, ◌≢◌, ℕ, ◌^◌, ◌<◌, List, ◌∷◌, ◌++◌, length, get_or, take, drop, Option, Some, None, Result, Ok, Err, refl, sym, ap, subst, ◌∙◌, arith, length-append}
use Rattle.std.proofs.lemmas.List.{take_at, drop_at}
use Rattle.std.specs.Int.{w32, to_be_bytes}
use Rattle.std.specs.List.{AllByRecursion, flat_map}
use Rattle.script_text.specs.declared.parse.LineFault.{LineFault}
use Rattle.script_text.specs.declared.parse.LineFault.TheVariants.{Memory}
use Rattle.script_text.specs.InRange.{IsInRange}
use Rattle.script_text.specs.Line.{Reads}
use Rattle.script_text.specs.Printing.{printed}
use Rattle.statements.specs.Statement.{Statement}
use Rattle.sand_journal.specs.ChangeBody.{ChangeValue, Line, Rows, IsChange, IsEncodingShort, framed_row, counted_rows, body_of}
use Rattle.sand_journal.proofs.PrintedLengths.{printed_short}
use Rattle.sand_journal.proofs.RowFrames.{one_count, one_rows, rows_length}

-- what a list of bytes begins with
same_head : (x y : ℕ) (xs ys : List ℕ) → x ∷ xs ≡ y ∷ ys → x ≡ y
same_head x y xs ys same = ap (λ (l : List ℕ). get_or l 0 0) same

pub same_tail : (x y : ℕ) (xs ys : List ℕ) → x ∷ xs ≡ y ∷ ys → xs ≡ ys
same_tail x y xs ys same = ap (λ (l : List ℕ). drop 1 l) same

-- the bodies, by cases
pub line_body_is : (statement : Statement) → body_of (Line statement) ≡ 1 ∷ printed statement
unfolding body_of
line_body_is statement = refl

pub rows_body_is : (relation : List ℕ) (rows : List (List ℕ)) → body_of (Rows relation rows) ≡ 2 ∷ (length relation ∷ (relation ++ counted_rows rows))
unfolding body_of
rows_body_is relation rows = refl

pub counted_is : (rows : List (List ℕ)) → counted_rows rows ≡ to_be_bytes w32 (length rows) ++ flat_map framed_row rows
unfolding counted_rows
counted_is rows = refl

-- the rows of a change are fewer than 2 ^ 32
pub rows_fit : (relation : List ℕ) (rows : List (List ℕ)) → IsChange (Rows relation rows) → length rows < 2 ^ 32
rows_fit relation rows change =
    omega (
      arith,
      change.2,
      ap length (rows_body_is relation rows),
      length-append relation (counted_rows rows),
      ap length (counted_is rows),
      length-append (to_be_bytes w32 (length rows)) (flat_map framed_row rows),
      rows_length rows,
    )

-- the body of a change is short
pub body_short : (change : ChangeValue) → IsChange change → length (body_of change) < 2 ^ 32
body_short (Line statement) change = omega (arith, ap length (line_body_is statement), printed_short statement change.0 change.1)
body_short (Rows relation rows) change = change.2

-- a name at the front, behind its length, is one name
pub one_name : (relation other rest more : List ℕ) → length relation ∷ (relation ++ rest) ≡ length other ∷ (other ++ more) → (relation ≡ other) × (rest ≡ more)
one_name relation other rest more same =
    let sizes = same_head (length relation) (length other) (relation ++ rest) (other ++ more) same in
    let parts = same_tail (length relation) (length other) (relation ++ rest) (other ++ more) same in (
      sym (take_at relation rest (length relation) refl) ∙ ap (λ (l : List ℕ). take (length relation) l) parts ∙ take_at other more (length relation) (sym sizes),
      sym (drop_at relation rest (length relation) refl) ∙ ap (λ (l : List ℕ). drop (length relation) l) parts ∙ drop_at other more (length relation) (sym sizes),
    )

-- counted rows are of one list
pub one_counted : (rows others : List (List ℕ)) → AllByRecursion IsEncodingShort rows → AllByRecursion IsEncodingShort others → length rows < 2 ^ 32
    → length others < 2 ^ 32 → counted_rows rows ≡ counted_rows others → rows ≡ others
one_counted rows others short short_others fits fits_others same =
    let counts = one_count (length rows) (length others) (flat_map framed_row rows) (flat_map framed_row others) fits fits_others (sym (counted_is rows) ∙ same ∙ counted_is others) in
    one_rows rows others short short_others counts.1

-- the statement of an answer, or another where it has none
statement_in : Statement → Result (Option Statement) LineFault → Statement
statement_in other (Ok None) = other
statement_in other (Ok (Some statement)) = statement
statement_in other (Err _) = other

-- what the language's laws say of the printed form: it is read as its statement, and as nothing else
abbrev pub ReadsBack : Type 0
ReadsBack = (statement : Statement) → IsInRange statement → Reads (printed statement) (Ok (Some statement))

abbrev pub ReadsOnly : Type 0
ReadsOnly = (statement : Statement) (answer : Result (Option Statement) LineFault) → IsInRange statement → Reads (printed statement) answer → answer ≢ Err Memory → answer ≡ Ok (Some statement)

-- two statements in range with one printed form are one
one_statement : ReadsBack → ReadsOnly → (a b : Statement) → IsInRange a → IsInRange b → printed a ≡ printed b → a ≡ b
unfolding statement_in
one_statement reads only a b range_a range_b same =
    ap (statement_in a) (only b (Ok (Some a)) range_b (subst (λ (l : List ℕ). Reads l (Ok (Some a))) same (reads a range_a)) (λ wrong. cc wrong))

-- a body is that of one change
pub one_change : ReadsBack → ReadsOnly → (a b : ChangeValue) → IsChange a → IsChange b → body_of a ≡ body_of b → a ≡ b
one_change reads only (Line s) (Line t) a b same =
    ap Line (one_statement reads only s t a.1 b.1 (same_tail 1 1 (printed s) (printed t) (sym (line_body_is s) ∙ same ∙ line_body_is t)))
one_change reads only (Line s) (Rows relation rows) a b same =
    absurd (omega (arith, same_head 1 2 (printed s) (length relation ∷ (relation ++ counted_rows rows)) (sym (line_body_is s) ∙ same ∙ rows_body_is relation rows)))
one_change reads only (Rows relation rows) (Line s) a b same =
    absurd (omega (arith, same_head 2 1 (length relation ∷ (relation ++ counted_rows rows)) (printed s) (sym (rows_body_is relation rows) ∙ same ∙ line_body_is s)))
one_change reads only (Rows relation rows) (Rows other others) a b same =
    let parts = same_tail 2 2 (length relation ∷ (relation ++ counted_rows rows)) (length other ∷ (other ++ counted_rows others))
    (sym (rows_body_is relation rows) ∙ same ∙ rows_body_is other others) in
    let names = one_name relation other (counted_rows rows) (counted_rows others) parts in
    let lists = one_counted rows others a.1 b.1 (rows_fit relation rows a) (rows_fit other others b) names.1 in
    ap (λ (name : List ℕ). Rows name rows) names.0 ∙ ap (λ (l : List (List ℕ)). Rows other l) lists

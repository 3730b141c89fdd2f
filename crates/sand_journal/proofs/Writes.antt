-- The body of a change, as it is put together.
use Rattle.std.proofs.Common.{◌≡◌, ℕ, ◌<◌, List, [], ◌∷◌, ◌++◌, length, get_or, Vec, sym, ap, subst, ◌∙◌, arith, append_assoc}
use Rattle.std.proofs.Math.ListN.{get_or-map}
use Rattle.std.proofs.lemmas.List.{length-map}
use Rattle.std.specs.declared.alloc.Global.{Global}
use Rattle.std.specs.Int.{w16, w32, to_be_bytes}
use Rattle.std.specs.List.{AllByRecursion, flat_map}
use Rattle.statements.specs.declared.statement.Statement.{Statement}
use Rattle.script_text.specs.Printing.{printed}
use Rattle.statements.specs.Statement.{statement_value}
use Rattle.sand_journal.specs.ChangeBody.{Line, Rows, IsEncodingShort, body_of, framed_row, line_value}
use Rattle.sand_journal.specs.RowsBody.{bytes_of_each}
use Rattle.sand_journal.proofs.Bodies.{line_body_is, rows_body_is, counted_is}
use Rattle.sand_journal.proofs.RowBodies.{row_short}

-- the printed form behind its byte is the body of the statement
pub line_made : (s : Statement) (text body : List ℕ) → text ≡ printed (statement_value s) → body ≡ 1 ∷ text → body ≡ body_of (Line (line_value s))
unfolding line_value
line_made s text body form is = is ∙ ap (λ (l : List ℕ). 1 ∷ l) form ∙ sym (line_body_is (statement_value s))

-- a row behind its size is in its frame
pub row_added : (old row : List ℕ) → (old ++ to_be_bytes w16 (length row)) ++ row ≡ old ++ framed_row row
unfolding framed_row
row_added old row = append_assoc old (to_be_bytes w16 (length row)) row

pub row_made : (old mid new size row : List ℕ) → new ≡ mid ++ row → mid ≡ old ++ size → size ≡ to_be_bytes w16 (length row) → new ≡ old ++ framed_row row
row_made old mid new size row more begun is =
    more ∙ ap (λ (l : List ℕ). l ++ row) (begun ∙ ap (λ (l : List ℕ). old ++ l) is) ∙ row_added old row

-- each of rows that are short is
pub vec_short : (rows : List (Vec ℕ Global)) (i : ℕ) (row : Vec ℕ Global) → AllByRecursion IsEncodingShort (bytes_of_each rows) → i < length rows → row ≡ get_or rows i row → IsEncodingShort row.items
vec_short rows i row all within is =
    subst IsEncodingShort (get_or-map (λ (one : Vec ℕ Global). one.items) rows i row ∙ ap (λ (one : Vec ℕ Global). one.items) (sym is))
    (row_short (bytes_of_each rows) i row.items all (omega (arith, within, length-map rows (λ (one : Vec ℕ Global). one.items))))

-- the name, the count and the rows behind the byte are the body of rows
pub rows_joined : (relation : List ℕ) (rows : List (List ℕ)) (first named counted body name count : List ℕ) → first ≡ 2 ∷ (length relation ∷ []) → named ≡ first ++ name → name ≡ relation
    → counted ≡ named ++ count → count ≡ to_be_bytes w32 (length rows) → body ≡ counted ++ flat_map framed_row rows → body ≡ body_of (Rows relation rows)
rows_joined relation rows first named counted body name count begun more_name same_name more_count same_count more_rows =
    let front : named ≡ 2 ∷ (length relation ∷ relation) = more_name ∙ ap (λ (l : List ℕ). l ++ name) begun ∙ ap (λ (l : List ℕ). 2 ∷ (length relation ∷ l)) same_name in
    let middle : counted ≡ 2 ∷ (length relation ∷ (relation ++ to_be_bytes w32 (length rows))) = more_count ∙ ap (λ (l : List ℕ). l ++ count) front
    ∙ ap (λ (l : List ℕ). 2 ∷ (length relation ∷ (relation ++ l))) same_count in
    more_rows ∙ ap (λ (l : List ℕ). l ++ flat_map framed_row rows) middle
    ∙ ap (λ (l : List ℕ). 2 ∷ (length relation ∷ l)) (append_assoc relation (to_be_bytes w32 (length rows)) (flat_map framed_row rows))
    ∙ ap (λ (l : List ℕ). 2 ∷ (length relation ∷ (relation ++ l))) (sym (counted_is rows)) ∙ sym (rows_body_is relation rows)

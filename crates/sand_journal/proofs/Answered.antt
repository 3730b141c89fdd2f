-- What a journal answers next, by what stands at its gate.
use Rattle.std.proofs.Common.{◌≡◌, ℕ, List, ◌∷◌, ◌++◌, length, get_or, drop, Option, Some, None, Result, sym, ap, subst, ◌∙◌, arith}
use Rattle.std.specs.Prelude.{IfOk}
use Rattle.std.proofs.lemmas.List.{append_cancel_left}
use Rattle.sand_journal.specs.Images.{framed, records, HasNext}
use Rattle.sand_base.specs.declared.memory.NoMemory.{NoMemory}
use Rattle.sand_journal.specs.declared.change.Change.{Change}
use Rattle.sand_journal.specs.declared.change.Change.TheVariants as change
use Rattle.sand_journal.specs.ChangeBody.{ChangeValue, Line, Rows, IsChange, IsChangeOf, body_of, counted_rows, change_value}
use Rattle.sand_journal.specs.RowsBody.{IsRowsBody}
use Rattle.sand_journal.proofs.Bodies.{line_body_is, rows_body_is}
use Rattle.script_text.specs.Printing.{printed}
use Rattle.sand_journal.specs.Journal.{IsCutBehind, IsBadBehind}
use Rattle.sand_journal.proofs.OneList.{one_framed}

-- one record stands next
one_next : (bytes : List ℕ) (bodies : List (List ℕ)) (a b : List ℕ) → HasNext bytes bodies a → HasNext bytes bodies b → a ≡ b
one_next bytes bodies a b first second =
    let same = append_cancel_left (records bodies) (1 ∷ (framed a ++ first.tail)) (1 ∷ (framed b ++ second.tail)) (sym first.is ∙ second.is) in
    (one_framed a b first.tail second.tail first.short second.short (ap (λ (l : List ℕ). drop 1 l) same)).0

-- an open gate with no record is that of no change
pub cut_bad : (bytes : List ℕ) (bodies : List (List ℕ)) → IsCutBehind bytes bodies → IsBadBehind bytes bodies
cut_bad bytes bodies cut = record { is_open = cut.is_open; none = λ change form next. cut.none (body_of change) next }

-- nor is one whose body is that of none
pub form_bad : (bytes : List ℕ) (bodies : List (List ℕ)) (body : List ℕ) → HasNext bytes bodies body → IsChangeOf body None → IsBadBehind bytes bodies
unfolding IsChangeOf
form_bad bytes bodies body next none = record {
  is_open = (framed body ++ next.tail, next.is);
  none = λ change form other. none change form (one_next bytes bodies body (body_of change) next other);
}

-- what a body that was read as a change tells
pub change_found : (body : List ℕ) (one : Change) → IsChangeOf body (Some one) → IsChange (change_value one) × (body ≡ body_of (change_value one))
unfolding IsChangeOf
change_found body one found = found

-- rows that were read are a change
pub rows_found : (bytes relation : List ℕ) (rows : List (List ℕ)) → IsRowsBody bytes (Some (relation, rows)) → IsChangeOf (2 ∷ bytes) (Some (change.Rows relation rows))
unfolding IsRowsBody IsChangeOf change_value
rows_found bytes relation rows found = found

-- where there are none, the body is that of no change
no_rows_change : (bytes : List ℕ) → ((relation : List ℕ) (rows : List (List ℕ)) → IsChange (Rows relation rows) → 2 ∷ bytes ≡ body_of (Rows relation rows) → ⊥)
    → (c : ChangeValue) → IsChange c → 2 ∷ bytes ≡ body_of c → ⊥
no_rows_change bytes none (Line s) form same = let heads = same ∙ line_body_is s in omega (arith, ap (λ (l : List ℕ). get_or l 0 0) heads)
no_rows_change bytes none (Rows relation rows) form same = none relation rows form same

pub rows_none : (bytes : List ℕ) → IsRowsBody bytes None → IsChangeOf (2 ∷ bytes) None
unfolding IsRowsBody IsChangeOf
rows_none bytes none = no_rows_change bytes none

-- nor is one that begins with neither byte
no_kind_change : (body : List ℕ) → ((text : List ℕ) → body ≡ 1 ∷ text → ⊥) → ((rest : List ℕ) → body ≡ 2 ∷ rest → ⊥) → (c : ChangeValue) → IsChange c → body ≡ body_of c → ⊥
no_kind_change body line rows (Line s) form same = line (printed s) (same ∙ line_body_is s)
no_kind_change body line rows (Rows relation list) form same = rows (length relation ∷ (relation ++ counted_rows list)) (same ∙ rows_body_is relation list)

pub kind_none : (body : List ℕ) → ((text : List ℕ) → body ≡ 1 ∷ text → ⊥) → ((rest : List ℕ) → body ≡ 2 ∷ rest → ⊥) → IsChangeOf body None
unfolding IsChangeOf
kind_none body line rows = no_kind_change body line rows

-- the answer for the bytes behind the first one is that for the body
pub answer_behind : (body bytes : List ℕ) (result : Result (Option Change) NoMemory) → body ≡ bytes → IfOk result (IsChangeOf bytes) → IfOk result (IsChangeOf body)
answer_behind body bytes result is answer = subst (λ (l : List ℕ). IfOk result (IsChangeOf l)) (sym is) answer

-- Every line has a reading: its bytes are cut into tokens to the end or to a first fault, and the tokens write a statement,
-- in range or not, or have a first bad one.
use Rattle.std.proofs.Common.{◌≡◌, ◌≢◌, ℕ, ◌+◌, ◌-◌, ◌≤◌, Bool, true, false, eqb, List, [], ◌∷◌, ◌++◌, length, Option, Some, None, Result, Ok, Err, refl, ap, subst, ◌∙◌}
use Rattle.std.proofs.Common.{inl, inr, arith, length-append}
use Rattle.std.proofs.lemmas.Bool.{cond_both}
use Rattle.script_text.specs.declared.parse.LineFault.{LineFault}
use Rattle.script_text.specs.declared.parse.LineFault.TheVariants.{Memory, Syntax, Range}
use Rattle.script_text.specs.Grammar.{IsOf, room_at, whole}
use Rattle.script_text.specs.Lexical.{Placed, IsCut, IsLexed, IsFault, IsColumn, skip_blanks}
use Rattle.script_text.specs.Lexing.{pieces, unread, fault_room}
use Rattle.script_text.specs.Line.{is_passed_over, Reads}
use Rattle.script_text.specs.Reading.{TokenState, at}
use Rattle.script_text.specs.Rules.{statement_form}
use Rattle.statements.specs.Statement.{Statement}
use Rattle.script_text.proofs.CutLaws.{IsEnd, cut-are, pieces-cut, unread-end, skip-within}
use Rattle.script_text.proofs.Ranged.{statement-in_range}
use Rattle.script_text.proofs.Whole.{whole-of, whole-first_bad}

-- an answer of the line other than want of memory
abbrev pub HasReading : List ℕ → Type 0
HasReading line = (answer : Result (Option Statement) LineFault) × (answer ≢ Err Memory) × Reads line answer

-- what follows a token is no longer than the bytes that it stands in
after-within : (bytes text after : List ℕ) → skip_blanks bytes ≡ text ++ after → length after ≤ length bytes
after-within bytes text after e =
    let whole : length (skip_blanks bytes) ≡ length text + length after = ap length e ∙ length-append text after in
    omega (arith, skip-within bytes, whole)

-- from a token on there are no more bytes than the line has
room-within : (bytes : List ℕ) (good bad : List Placed) (rest : List ℕ) → IsCut bytes (good ++ bad) rest → room_at bad ≤ length bytes
room-within bytes [] [] rest h = omega arith
room-within bytes [] (t ∷ bad) rest h = omega (arith, skip-within bytes, h.2)
room-within bytes (g ∷ good) bad rest h = omega (arith, room-within h.0 good bad rest h.3, after-within bytes _ h.0 h.1.split)

-- and no more are left than it has
rest-within : (bytes : List ℕ) (tokens : List Placed) (rest : List ℕ) → IsCut bytes tokens rest → length rest ≤ length bytes
rest-within bytes [] rest h = omega (arith, skip-within bytes, ap length h)
rest-within bytes (t ∷ tokens) rest h = omega (arith, rest-within h.0 tokens rest h.3, after-within bytes _ h.0 h.1.split)

-- a fault lies within the bytes at which no token begins
fault-within : (bytes : List ℕ) → fault_room bytes ≤ length bytes
fault-within [] = omega arith
fault-within (b ∷ bytes) = cond_both (eqb b 34) _ _ (λ room. room ≤ length (b ∷ bytes)) (λ e. omega arith) (λ e. omega arith)

-- each place within a line has a column
column-of : (line : List ℕ) (room : ℕ) → room ≤ length line → (column : ℕ) × IsColumn line room column
column-of line room h = (length line + 1 - room, omega (arith, h))

-- a line that counts, and has a first byte at which no token begins
fault-reading : (line rest : List ℕ) → is_passed_over line ≡ false → IsCut line (pieces line) rest → IsFault rest → HasReading line
fault-reading line rest counts cut fault =
    let column = column-of line (fault_room rest) (omega (arith, fault-within rest, rest-within line (pieces line) rest cut)) in
    (Err (Syntax column.0), (λ e. absurd cc), (counts, inl (record { tokens = pieces line; rest = rest; cut = cut; fault = fault; place = column.1 })))

-- a line that counts, and falls into tokens to its end
module _ (line : List ℕ) (counts : is_passed_over line ≡ false) (lexed : IsLexed line (pieces line)) where
  -- its tokens write a statement, in range or not
  statement-reading : (x : Statement) (flag : Bool) → IsOf statement_form x flag (pieces line) → HasReading line
  statement-reading x true is =
      let in_range = statement-in_range x (pieces line) (cut-are line (pieces line) [] lexed) is in
      (Ok (Some x), (λ e. absurd cc), record { tokens = pieces line; lexed = lexed; written = is; in_range = in_range })
  statement-reading x false is = (Err Range, (λ e. absurd cc), record { tokens = pieces line; lexed = lexed; statement = x; out = is })

  -- or have a first bad one
  bad-reading : (bad : List Placed) → whole statement_form (at (pieces line) true) ≡ Err bad → HasReading line
  bad-reading bad e =
      let first = whole-first_bad statement_form refl (pieces line) bad e in
      let column = column-of line (room_at bad) (room-within line first.good bad [] (subst (λ ps. IsCut line ps []) first.split lexed)) in
      (Err (Syntax column.0), (λ e. absurd cc), (counts, inr (record { tokens = pieces line; lexed = lexed; bad = bad; first = first; place = column.1 })))

  -- one of the two
  lexed-reading : HasReading line
  lexed-reading =
      let go : (r : Result (Statement × TokenState) (List Placed)) → whole statement_form (at (pieces line) true) ≡ r → HasReading line =
      elim [
        | Ok y ↦ λ e. statement-reading y.0 y.1.in_range (whole-of statement_form refl (pieces line) y e).1
        | Err bad ↦ bad-reading bad
      ] in
      go (whole statement_form (at (pieces line) true)) refl

-- a line that counts, by what is left of it after its tokens
counted-reading : (line rest : List ℕ) → is_passed_over line ≡ false → IsCut line (pieces line) rest → IsEnd rest → HasReading line
counted-reading line [] counts cut end = lexed-reading line counts cut
counted-reading line (b ∷ rest) counts cut end = fault-reading line (b ∷ rest) counts cut end

-- every line has a reading
pub reading_of : (line : List ℕ) → HasReading line
reading_of line =
    let go : (passed : Bool) → is_passed_over line ≡ passed → HasReading line =
    elim [
      | true ↦ λ e. (Ok None, (λ e. absurd cc), e)
      | false ↦ λ e. counted-reading line (unread line) e (pieces-cut line) (unread-end line)
    ] in
    go (is_passed_over line) refl

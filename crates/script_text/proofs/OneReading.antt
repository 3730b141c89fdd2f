-- A line has one reading.
use Rattle.std.proofs.Common.{◌≡◌, ◌≢◌, ℕ, ◌+◌, ◌-◌, Bool, true, false, cond, List, [], ◌∷◌, ◌++◌, length, Option, Some, None, Result, Ok, Err, refl, sym, ap, subst, ◌∙◌}
use Rattle.std.proofs.Common.{inl, inr, arith, append_assoc}
use Rattle.std.proofs.lemmas.Bool.{cond-true, cond-false}
use Rattle.std.proofs.lemmas.List.{append-nil}
use Rattle.script_text.specs.declared.parse.LineFault.{LineFault}
use Rattle.script_text.specs.declared.parse.LineFault.TheVariants.{Memory, Syntax, Range}
use Rattle.script_text.specs.Grammar.{IsOf, IsOfForm, IsFront, IsFirstBad, GoesWrong, room_at, whole}
use Rattle.script_text.specs.Lexical.{Placed, ArePieces, IsCut, IsLexed, IsFault, IsColumn}
use Rattle.script_text.specs.Lexing.{unread, fault_room}
use Rattle.script_text.specs.Line.{is_passed_over, IsReadAs, IsOutOfRange, Reads}
use Rattle.script_text.specs.Reading.{TokenState, start, at}
use Rattle.script_text.specs.Rules.{statement_form}
use Rattle.statements.specs.Statement.{Statement}
use Rattle.script_text.proofs.CutLaws.{IsEnd, cut-are, cut-pieces, cut-unread}
use Rattle.script_text.proofs.FormFronts.{are-append}
use Rattle.script_text.proofs.LineLemmas.{token-counts, statement-decided}
use Rattle.script_text.proofs.Whole.{of-whole, whole-of, whole-first_bad}

-- nothing is read of no tokens
none-read : (y : Statement × TokenState) → whole statement_form (at [] true) ≡ Ok y → ⊥
unfolding whole
none-read y e = absurd cc

-- tokens of the language in two parts
are-parts : (u v : List Placed) → ArePieces (u ++ v) → ArePieces u × ArePieces v
are-parts [] v h = (tt, h)
are-parts (p ∷ u) v h = let rest = are-parts u v h.1 in ((h.0, rest.0), rest.1)

-- two ways to put tokens in two parts: the same, or one has the other's first part and more in its own
data Splits (good bad others rest : List Placed) : Type 0 where
  same : bad ≡ rest → Splits good bad others rest
  longer : (t : Placed) (more after : List Placed) → others ≡ good ++ t ∷ more → bad ≡ t ∷ after → Splits good bad others rest
  shorter : (t : Placed) (more after : List Placed) → good ≡ others ++ t ∷ more → rest ≡ t ∷ after → Splits good bad others rest

-- any two ways are so
split-cases : (good bad others rest : List Placed) → good ++ bad ≡ others ++ rest → Splits good bad others rest
split-cases [] bad [] rest e = same e
split-cases [] bad (t ∷ others) rest e = longer t others (others ++ rest) refl e
split-cases (t ∷ good) bad [] rest e = shorter t good (good ++ bad) refl (sym e)
split-cases (t ∷ good) bad (u ∷ others) rest e =
    let first : t ≡ u = cc in
    let later : good ++ bad ≡ others ++ rest = cc in
    elim (split-cases good bad others rest later) [
      | same k ↦ same k
      | longer v more after k l ↦ longer v more after (cc) l
      | shorter v more after k l ↦ shorter v more after (cc) l
    ]

-- with a front of a line of the grammar its own fronts are fronts
front-front : (good : List Placed) (t : Placed) (more : List Placed) → ArePieces (good ++ t ∷ more) → IsFront statement_form (good ++ t ∷ more) → IsFront statement_form (good ++ t ∷ [])
front-front good t more are front = record {
  more = more ++ front.more;
  pieces = are-append more front.more (are-parts good (t ∷ more) are).1.1 front.pieces;
  whole = subst (IsOfForm statement_form) (append_assoc good (t ∷ more) front.more ∙ sym (append_assoc good (t ∷ []) (more ++ front.more))) front.whole;
}

-- the first bad token is one
first_bad-same : (tokens bad rest : List Placed) → ArePieces tokens → IsFirstBad statement_form tokens bad → IsFirstBad statement_form tokens rest → bad ≡ rest
first_bad-same tokens bad rest are one two =
    let front_of = λ (good bad : List Placed) (split : tokens ≡ good ++ bad). (are-parts good bad (subst ArePieces split are)).0 in
    elim (split-cases one.good bad two.good rest (sym one.split ∙ two.split)) [
      | same k ↦ k
      | longer t more after k l ↦ absurd (subst (GoesWrong statement_form one.good) l one.wrong
          (front-front one.good t more (subst ArePieces k (front_of two.good rest two.split)) (subst (IsFront statement_form) k two.front)))
      | shorter t more after k l ↦ absurd (subst (GoesWrong statement_form two.good) l two.wrong
          (front-front two.good t more (subst ArePieces k (front_of one.good bad one.split)) (subst (IsFront statement_form) k one.front)))
    ]

-- a line of the grammar is a front of itself
grammar-front : (tokens : List Placed) → IsOfForm statement_form tokens → IsFront statement_form tokens
grammar-front tokens g = record { more = []; pieces = tt; whole = subst (IsOfForm statement_form) (sym (append-nil tokens)) g }

-- a line of the grammar has no bad token
grammar-no_bad : (tokens bad good : List Placed) → ArePieces tokens → IsOfForm statement_form tokens → tokens ≡ good ++ bad → ¬ GoesWrong statement_form good bad
grammar-no_bad tokens [] good are g split wrong = wrong (subst (IsOfForm statement_form) (split ∙ append-nil good) g)
grammar-no_bad tokens (t ∷ bad) good are g split wrong = wrong (front-front good t bad (subst ArePieces split are) (subst (IsFront statement_form) split (grammar-front tokens g)))

-- a statement has a token at least
statement-some : (x : Statement) (flag : Bool) → ¬ IsOf statement_form x flag []
statement-some x flag h = none-read (x, at [] flag) (of-whole statement_form statement-decided x flag [] h)

-- what a line of the grammar is, is no comment
lexed-counts : (line : List ℕ) (tokens : List Placed) (rest : List ℕ) → IsCut line tokens rest → IsOfForm statement_form tokens → is_passed_over line ≡ false
lexed-counts line [] rest cut g = absurd (statement-some g.value g.flag g.is)
lexed-counts line (t ∷ tokens) rest cut g = token-counts line t.piece cut.0 cut.1

-- what a reading of the tokens answers
abbrev outcome : List ℕ → Result (Statement × TokenState) (List Placed) → Result (Option Statement) LineFault
outcome line (Ok y) = cond y.1.in_range (Ok (Some y.0)) (Err Range)
outcome line (Err bad) = Err (Syntax (length line + 1 - room_at bad))

-- what is answered where this is left of the line
abbrev found : List ℕ → List ℕ → Result (Option Statement) LineFault
found line [] = outcome line (whole statement_form (start line))
found line (b ∷ bytes) = Err (Syntax (length line + 1 - fault_room (b ∷ bytes)))

-- what a line answers
abbrev answer : List ℕ → Result (Option Statement) LineFault
answer line = cond (is_passed_over line) (Ok None) (found line (unread line))

-- a line that counts answers what was found
answer-found : (line : List ℕ) → is_passed_over line ≡ false → answer line ≡ found line (unread line)
answer-found line counts = cond-false (is_passed_over line) (Ok None) (found line (unread line)) counts

-- a line that is lexed answers what its tokens say
answer-lexed : (line : List ℕ) (tokens : List Placed) → is_passed_over line ≡ false → IsLexed line tokens → answer line ≡ outcome line (whole statement_form (at tokens true))
answer-lexed line tokens counts lexed =
    answer-found line counts ∙ ap (found line) (sym (cut-unread line tokens [] lexed tt))
    ∙ ap (λ ps. outcome line (whole statement_form (at ps true))) (sym (cut-pieces line tokens [] lexed tt))

-- a column is told by its room
column-is : (line : List ℕ) (room column : ℕ) → IsColumn line room column → column ≡ length line + 1 - room
column-is line room column h = omega (arith, h)

-- a line that is read as a statement answers it
answer-read : (line : List ℕ) (x : Statement) → IsReadAs line x → Ok (Some x) ≡ answer line
answer-read line x h =
    let read = of-whole statement_form statement-decided x true h.tokens h.written in
    let grammar : IsOfForm statement_form h.tokens = record { value = x; flag = true; is = h.written } in
    sym (answer-lexed line h.tokens (lexed-counts line h.tokens [] h.lexed grammar) h.lexed ∙ ap (outcome line) read)

-- a line with a bad byte answers its column
answer-byte : (line rest : List ℕ) (column : ℕ) → rest ≡ unread line → IsFault rest → IsColumn line (fault_room rest) column → is_passed_over line ≡ false → Err (Syntax column) ≡ answer line
answer-byte line [] column e fault place counts = absurd (omega (arith, fault.some))
answer-byte line (b ∷ rest) column e fault place counts =
    ap (λ n. Err (Syntax n)) (column-is line (fault_room (b ∷ rest)) column place) ∙ sym (answer-found line counts ∙ ap (found line) (sym e))

-- bytes at which a fault is are an end
fault-end : (rest : List ℕ) → IsFault rest → IsEnd rest
fault-end [] h = tt
fault-end (b ∷ rest) h = h

-- what is read whole is of the grammar
whole-form : (ts : List Placed) (y : Statement × TokenState) → whole statement_form (at ts true) ≡ Ok y → IsOfForm statement_form ts
whole-form ts y e = record { value = y.0; flag = y.1.in_range; is = (whole-of statement_form statement-decided ts y e).1 }

-- the tokens of a line with a bad one answer its column
outcome-bad : (line : List ℕ) (tokens bad : List Placed) (column : ℕ) → ArePieces tokens → IsFirstBad statement_form tokens bad → IsColumn line (room_at bad) column
    → Err (Syntax column) ≡ outcome line (whole statement_form (at tokens true))
outcome-bad line tokens bad column are first place =
    let go : (r : Result (Statement × TokenState) (List Placed)) → whole statement_form (at tokens true) ≡ r → Err (Syntax column) ≡ outcome line r =
    elim [
      | Ok y ↦ λ e. absurd (grammar-no_bad tokens bad first.good are (whole-form tokens y e) first.split first.wrong)
      | Err left ↦ λ e.
          ap (λ n. Err (Syntax n)) (column-is line (room_at bad) column place)
          ∙ ap (λ bad. Err (Syntax (length line + 1 - room_at bad))) (first_bad-same tokens bad left are first (whole-first_bad statement_form statement-decided tokens left e))
    ] in
    go (whole statement_form (at tokens true)) refl

-- the tokens of a line that is out of range answer so
outcome-out : (line : List ℕ) (out : IsOutOfRange line) → Err Range ≡ outcome line (whole statement_form (at out.tokens true))
outcome-out line out = sym (ap (outcome line) (of-whole statement_form statement-decided out.statement false out.tokens out.out))

-- whatever a line answers, but want of memory, is its answer
answer-is : (line : List ℕ) (a : Result (Option Statement) LineFault) → Reads line a → a ≢ Err Memory → a ≡ answer line
answer-is line (Ok None) h k = sym (cond-true (is_passed_over line) (Ok None) (found line (unread line)) h)
answer-is line (Ok (Some x)) h k = answer-read line x h
answer-is line (Err Memory) h k = absurd (k refl)
answer-is line (Err Range) h k =
    outcome-out line h ∙ sym (answer-lexed line h.tokens (lexed-counts line h.tokens [] h.lexed (record { value = h.statement; flag = false; is = h.out })) h.lexed)
answer-is line (Err (Syntax column)) h k =
    elim h.1 [
      | inl bad ↦ answer-byte line bad.rest column (cut-unread line bad.tokens bad.rest bad.cut (fault-end bad.rest bad.fault)) bad.fault bad.place h.0
      | inr bad ↦ outcome-bad line bad.tokens bad.bad column (cut-are line bad.tokens [] bad.lexed) bad.first bad.place ∙ sym (answer-lexed line bad.tokens h.0 bad.lexed)
    ]

-- a line has one reading
pub one-reading : (line : List ℕ) (a b : Result (Option Statement) LineFault) → Reads line a → Reads line b → a ≢ Err Memory → b ≢ Err Memory → a ≡ b
one-reading line a b ra rb ka kb = answer-is line a ra ka ∙ sym (answer-is line b rb kb)

-- What a line says, by what the lexer and the reader made of it.
use Rattle.std.proofs.Common.{◌≡◌, ℕ, ◌+◌, ◌≤◌, Bool, true, false, cond, eqb, List, [], ◌∷◌, ◌++◌, length, drop, Some, None, Ok, Err, refl, sym, ap, subst, ◌∙◌, inl, inr, arith, length-append}
use Rattle.std.specs.Prelude.{◌⊎◌}
use Rattle.std.proofs.Math.Numerals.{one-add}
use Rattle.std.proofs.lemmas.Bool.{eqb-true}
use Rattle.std.specs.List.{prefix_len, slice_get}
use Rattle.script_text.specs.declared.parse.LineFault.{LineFault}
use Rattle.script_text.specs.declared.parse.LineFault.TheVariants.{Syntax}
use Rattle.script_text.specs.Grammar.{IsOf, room_at, whole}
use Rattle.script_text.specs.Lexical.{Placed, IsCut, IsLexed, IsFault, IsColumn, is_blank, skip_blanks}
use Rattle.script_text.specs.Lexing.{first_cut, pieces, unread, fault_room}
use Rattle.script_text.specs.Line.{is_passed_over, IsReadAs, HasBadByte, HasBadToken, IsOutOfRange, Reads}
use Rattle.script_text.specs.Reading.{TokenState, start}
use Rattle.script_text.specs.Rules.{statement_form}
use Rattle.statements.specs.Statement.{Statement}
use Rattle.script_text.specs.Token.{Piece, IsToken}
use Rattle.script_text.proofs.CutLaws.{IsEnd, cut-are, pieces-cut, unread-end, skip-within}
use Rattle.script_text.proofs.Predictive.{is_decided}
use Rattle.script_text.proofs.Ranged.{statement-in_range}
use Rattle.script_text.proofs.CutTokens.{first_cut-fault}
use Rattle.script_text.proofs.Whole.{whole-of, whole-first_bad}

-- one token in hand decides a statement
pub statement-decided : is_decided statement_form ≡ true
statement-decided = refl

-- there is no byte, or the first one is `#`
abbrev is_comment : List ℕ → Bool
is_comment [] = true
is_comment (b ∷ bytes) = eqb b 35

-- a line is passed over by what stands after its blanks
passed-skip : (line : List ℕ) → is_passed_over line ≡ is_comment (skip_blanks line)
passed-skip [] = refl
passed-skip (b ∷ bytes) =
    let go : (t : Bool) → is_blank b ≡ t → cond t (is_passed_over bytes) (eqb b 35) ≡ is_comment (drop (cond t (1 + prefix_len is_blank bytes) 0) (b ∷ bytes)) =
    elim [ true ↦ λ e. rw one-add (passed-skip bytes) | false ↦ λ e. refl ] in
    go (is_blank b) refl

-- a line is passed over where no byte stands after its blanks
pub passed-none : (line bare : List ℕ) → bare ≡ skip_blanks line → None ≡ slice_get bare 0 → true ≡ is_passed_over line
passed-none line [] skips e = ap is_comment skips ∙ sym (passed-skip line)
passed-none line (b ∷ bytes) skips e = cc

-- where one does, it decides
pub passed-some : (line bare : List ℕ) (first : ℕ) → bare ≡ skip_blanks line → Some first ≡ slice_get bare 0 → eqb first 35 ≡ is_passed_over line
passed-some line [] first skips e = cc
passed-some line (b ∷ bytes) first skips e =
    let same : first ≡ b = cc in
    ap (λ n. eqb n 35) same ∙ ap is_comment skips ∙ sym (passed-skip line)

-- a token is no comment
token-no_comment : (bytes : List ℕ) (p : Piece) (after : List ℕ) → IsToken bytes p after → is_comment bytes ≡ false
token-no_comment [] p after token = absurd (first_cut-fault [] refl p after token)
token-no_comment (b ∷ bytes) p after token =
    let go : (t : Bool) → eqb b 35 ≡ t → t ≡ false =
    elim [
      | false ↦ λ e. refl
      | true ↦ λ e. absurd (first_cut-fault (b ∷ bytes) (ap (λ b. first_cut (b ∷ bytes)) (eqb-true b 35 e)) p after token)
    ] in
    go (eqb b 35) refl

-- a line in which a token stands first counts
pub token-counts : (line : List ℕ) (p : Piece) (after : List ℕ) → IsToken (skip_blanks line) p after → is_passed_over line ≡ false
token-counts line p after token = passed-skip line ∙ token-no_comment (skip_blanks line) p after token

-- what follows a token is no longer than the bytes that it stands in
after-within : (bytes text after : List ℕ) → skip_blanks bytes ≡ text ++ after → length after ≤ length bytes
after-within bytes text after e =
    let whole : length (skip_blanks bytes) ≡ length text + length after = ap length e ∙ length-append text after in
    omega (arith, skip-within bytes, whole)

-- from a token on there are no more bytes than the line has
pub room-within : (bytes : List ℕ) (good bad : List Placed) (rest : List ℕ) → IsCut bytes (good ++ bad) rest → room_at bad ≤ length bytes
room-within bytes [] [] rest h = omega arith
room-within bytes [] (t ∷ bad) rest h = omega (arith, skip-within bytes, h.2)
room-within bytes (g ∷ good) bad rest h = omega (arith, room-within h.0 good bad rest h.3, after-within bytes _ h.0 h.1.split)

-- and no more are left than it has
rest-within : (bytes : List ℕ) (tokens : List Placed) (rest : List ℕ) → IsCut bytes tokens rest → length rest ≤ length bytes
rest-within bytes [] rest h = omega (arith, skip-within bytes, ap length h)
rest-within bytes (t ∷ tokens) rest h = omega (arith, rest-within h.0 tokens rest h.3, after-within bytes _ h.0 h.1.split)

-- what is left of a line is no longer than the line
pub unread-within : (line left : List ℕ) → left ≡ unread line → length left ≤ length line
unread-within line left e = rw e (rest-within line (pieces line) (unread line) (pieces-cut line))

-- a fault at a column is told by its column
pub fault-at : (line : List ℕ) (room : ℕ) (fault : LineFault) → (column : ℕ) × (fault ≡ Syntax column) × IsColumn line room column → is_passed_over line ≡ false
    → ((column : ℕ) → IsColumn line room column → HasBadByte line column ⊎ HasBadToken line column) → Reads line (Err fault)
fault-at line room fault at_column counts found =
    let reads : Reads line (Err (Syntax at_column.0)) = (counts, found at_column.0 at_column.2) in
    subst (λ fault. Reads line (Err fault)) (sym at_column.1) reads

-- bytes that are left of a line begin with a fault
fault-some : (bytes : List ℕ) → IsEnd bytes → (length bytes ≡ 0 → ⊥) → IsFault bytes
fault-some [] end some = absurd (some refl)
fault-some (b ∷ bytes) end some = end

-- what is left of a line begins with its first bad byte
pub bad-byte : (line left : List ℕ) → left ≡ unread line → (length left ≡ 0 → ⊥) → (column : ℕ) → IsColumn line (fault_room left) column → HasBadByte line column ⊎ HasBadToken line column
bad-byte line left e some column place = inl (record {
  tokens = pieces line;
  rest = left;
  cut = subst (IsCut line (pieces line)) (sym e) (pieces-cut line);
  fault = fault-some left (subst IsEnd (sym e) (unread-end line)) some;
  place = place;
})

-- the reader stands before a line of which nothing is left
module _ (line : List ℕ) (first : TokenState) (begins : first ≡ start line) (lexed : unread line ≡ []) where
  -- its pieces are its tokens
  is-lexed : IsLexed line (pieces line)
  is-lexed = subst (IsCut line (pieces line)) lexed (pieces-cut line)

  -- what was read is written
  is-of : (x : Statement) (s : TokenState) (flag : Bool) → whole statement_form first ≡ Ok (x, s) → s.in_range ≡ flag → IsOf statement_form x flag (pieces line)
  is-of x s flag e h =
      subst (λ b. IsOf statement_form x b (pieces line)) h
      (whole-of statement_form statement-decided (pieces line) (x, s) (ap (whole statement_form) (sym begins) ∙ e)).1

  -- where all is in range the line is read as the statement
  pub is-read : (x : Statement) (s : TokenState) → whole statement_form first ≡ Ok (x, s) → s.in_range ≡ true → IsReadAs line x
  is-read x s e h = record {
    tokens = pieces line;
    lexed = is-lexed;
    written = is-of x s true e h;
    in_range = statement-in_range x (pieces line) (cut-are line (pieces line) [] is-lexed) (is-of x s true e h);
  }

  -- where something isn't the line is out of range
  pub is-out : (x : Statement) (s : TokenState) → whole statement_form first ≡ Ok (x, s) → s.in_range ≡ false → IsOutOfRange line
  is-out x s e h = record { tokens = pieces line; lexed = is-lexed; statement = x; out = is-of x s false e h }

  -- where the reader is stuck it is within the line
  pub stuck-within : (bad : List Placed) → whole statement_form first ≡ Err bad → room_at bad ≤ length line
  stuck-within bad e =
      let stuck = whole-first_bad statement_form statement-decided (pieces line) bad (ap (whole statement_form) (sym begins) ∙ e) in
      room-within line stuck.good bad [] (subst (λ ps. IsCut line ps []) stuck.split is-lexed)

  -- and at the first bad token
  pub bad-token : (bad : List Placed) (room : ℕ) → whole statement_form first ≡ Err bad → room ≡ room_at bad → (column : ℕ) → IsColumn line room column
      → HasBadByte line column ⊎ HasBadToken line column
  bad-token bad room e same column place = inr (record {
    tokens = pieces line;
    lexed = is-lexed;
    bad = bad;
    first = whole-first_bad statement_form statement-decided (pieces line) bad (ap (whole statement_form) (sym begins) ∙ e);
    place = subst (λ room. IsColumn line room column) same place;
  })

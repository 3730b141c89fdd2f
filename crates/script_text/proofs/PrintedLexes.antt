-- Printed words fall into the words that were printed.
use Rattle.std.proofs.Common.{◌≡◌, ℕ, Bool, true, false, not, ◌||◌, cond, eqb, List, [], ◌∷◌, ◌++◌, length, Some, refl, ap, ◌∙◌, arith, append_assoc}
use Rattle.std.specs.Prelude.{codes}
use Rattle.std.proofs.lemmas.Bool.{and_parts, cond-false, false≢true}
use Rattle.std.proofs.lemmas.Bool.Decides.{nat_tests}
use Rattle.std.specs.Char.{is_ascii_digit}
use Rattle.std.specs.List.{prefix_len}
use Rattle.script_text.specs.declared.token.Symbol.{Symbol}
use Rattle.script_text.specs.declared.token.Symbol.TheVariants.{Open, Close, Comma, Dot, Minus, Equal, NotEqual, Less, AtMost, Greater, AtLeast}
use Rattle.script_text.specs.Lexical.{is_blank}
use Rattle.script_text.specs.Lexing.{first_cut, begins_equal, put, lex}
use Rattle.script_text.specs.Name.{continues_name}
use Rattle.script_text.specs.Printing.{hugs_after, hugs_before, printed_after, printed_words}
use Rattle.script_text.specs.Text.{begins_quote}
use Rattle.script_text.specs.Token.{Piece, name, number, text, mark, spelling, IsPiece}
use Rattle.script_text.proofs.LexLemmas.{lex-cut}
use Rattle.script_text.proofs.SpelledLemmas.{lex-name, lex-number, lex-text}
use Rattle.script_text.proofs.WritesTokens.{ArePieceWords, begins_open, is_calm, pieces_of}

-- no word is made longer by this byte
abbrev ends_word : ℕ → Bool
ends_word b = not (continues_name b || (eqb b 34 || eqb b 61))

-- nor by the first of these bytes
abbrev is_quiet : List ℕ → Bool
is_quiet [] = true
is_quiet (b ∷ bytes) = ends_word b

-- so no name, number, text or symbol goes on
quiet-name : (bytes : List ℕ) → is_quiet bytes ≡ true → prefix_len continues_name bytes ≡ 0
quiet-name [] h = refl
quiet-name (b ∷ bytes) h = cond-false (continues_name b) _ _ (grind (arith, nat_tests))

quiet-number : (bytes : List ℕ) → is_quiet bytes ≡ true → prefix_len is_ascii_digit bytes ≡ 0
quiet-number [] h = refl
quiet-number (b ∷ bytes) h = cond-false (is_ascii_digit b) _ _ (grind (arith, nat_tests))

quiet-text : (bytes : List ℕ) → is_quiet bytes ≡ true → begins_quote bytes ≡ false
quiet-text [] h = refl
quiet-text (b ∷ bytes) h = grind (arith, nat_tests)

quiet-equal : (bytes : List ℕ) → is_quiet bytes ≡ true → begins_equal bytes ≡ false
quiet-equal [] h = refl
quiet-equal (b ∷ bytes) h = grind (arith, nat_tests)

-- what is printed after a word that has no space before some others is quiet
gap-quiet : (w : Piece) (more : List ℕ) → is_quiet (cond (hugs_before w) [] (codes " ") ++ (spelling w ++ more)) ≡ true
gap-quiet (name b) more = refl
gap-quiet (number b) more = refl
gap-quiet (text b) more = refl
gap-quiet (mark Open) more = refl
gap-quiet (mark Close) more = refl
gap-quiet (mark Comma) more = refl
gap-quiet (mark Dot) more = refl
gap-quiet (mark Minus) more = refl
gap-quiet (mark Equal) more = refl
gap-quiet (mark NotEqual) more = refl
gap-quiet (mark Less) more = refl
gap-quiet (mark AtMost) more = refl
gap-quiet (mark Greater) more = refl
gap-quiet (mark AtLeast) more = refl

after-quiet : (w : Piece) (ws : List Piece) → hugs_after w ≡ false → is_quiet (printed_after w ws) ≡ true
after-quiet w [] h = refl
after-quiet w (v ∷ ws) h = ap (λ t. is_quiet (cond (t || hugs_before v) [] (codes " ") ++ (spelling v ++ printed_after v ws))) h ∙ gap-quiet v (printed_after v ws)

-- a bracket is quiet
open-quiet : (ws : List Piece) → begins_open ws ≡ true → is_quiet (printed_after (mark Minus) ws) ≡ true
open-quiet [] h = refl
open-quiet (mark Open ∷ ws) h = refl
open-quiet (mark Close ∷ ws) h = absurd (false≢true h)
open-quiet (mark Comma ∷ ws) h = absurd (false≢true h)
open-quiet (mark Dot ∷ ws) h = absurd (false≢true h)
open-quiet (mark Minus ∷ ws) h = absurd (false≢true h)
open-quiet (mark Equal ∷ ws) h = absurd (false≢true h)
open-quiet (mark NotEqual ∷ ws) h = absurd (false≢true h)
open-quiet (mark Less ∷ ws) h = absurd (false≢true h)
open-quiet (mark AtMost ∷ ws) h = absurd (false≢true h)
open-quiet (mark Greater ∷ ws) h = absurd (false≢true h)
open-quiet (mark AtLeast ∷ ws) h = absurd (false≢true h)
open-quiet (name b ∷ ws) h = absurd (false≢true h)
open-quiet (number b ∷ ws) h = absurd (false≢true h)
open-quiet (text b ∷ ws) h = absurd (false≢true h)

-- a symbol of one byte is the next piece, and of two
lex-short : (s : Symbol) (b : ℕ) (more : List ℕ) → is_blank b ≡ false → first_cut (b ∷ more) ≡ Some (record { piece = mark s; len = 1 })
    → lex (b ∷ more) ≡ put (record { piece = mark s; room = length (b ∷ more) }) (lex more)
lex-short s b more bare h = lex-cut b more (record { piece = mark s; len = 1 }) bare h (omega arith)

lex-long : (s : Symbol) (b : ℕ) (more : List ℕ) → is_blank b ≡ false → first_cut (b ∷ 61 ∷ more) ≡ Some (record { piece = mark s; len = 2 })
    → lex (b ∷ 61 ∷ more) ≡ put (record { piece = mark s; room = length (b ∷ 61 ∷ more) }) (lex more)
lex-long s b more bare h = lex-cut b (61 ∷ more) (record { piece = mark s; len = 2 }) bare h (omega arith)

-- a minus before no digit, and `<` and `>` before no `=`, are by themselves
cut-minus : (more : List ℕ) → prefix_len is_ascii_digit more ≡ 0 → first_cut (45 ∷ more) ≡ Some (record { piece = mark Minus; len = 1 })
cut-minus more h = rw h refl

cut-less : (more : List ℕ) → begins_equal more ≡ false → first_cut (60 ∷ more) ≡ Some (record { piece = mark Less; len = 1 })
cut-less more h = rw h refl

cut-greater : (more : List ℕ) → begins_equal more ≡ false → first_cut (62 ∷ more) ≡ Some (record { piece = mark Greater; len = 1 })
cut-greater more h = rw h refl

-- a text that is spelled is the next piece
lex-quoted : (bytes more : List ℕ) → IsPiece (text bytes) → begins_quote more ≡ false
    → lex ((34 ∷ bytes ++ 34 ∷ []) ++ more) ≡ put (record { piece = text bytes; room = length (34 ∷ (bytes ++ 34 ∷ more)) }) (lex more)
lex-quoted bytes more is ends = ap (λ bs. lex (34 ∷ bs)) (append_assoc bytes (34 ∷ []) more) ∙ lex-text bytes more is ends

-- the bytes fall into the words, and nothing is left
record LexesTo (bytes : List ℕ) (ws : List Piece) : Type 0 where
  words : pieces_of (lex bytes).pieces ≡ ws
  rest : (lex bytes).rest ≡ []

-- one word more in front
one-more : (w : Piece) (bytes more : List ℕ) (room : ℕ) (ws : List Piece) → lex bytes ≡ put (record { piece = w; room = room }) (lex more) → LexesTo more ws → LexesTo bytes (w ∷ ws)
one-more w bytes more room ws e h = record {
  words = ap (λ l. pieces_of l.pieces) e ∙ ap (λ vs. w ∷ vs) h.words;
  rest = ap (λ l. l.rest) e ∙ h.rest;
}

-- a word that is printed, and what is printed after it
step : (w : Piece) (ws : List Piece) → IsPiece w → is_calm (w ∷ ws) ≡ true → LexesTo (printed_after w ws) ws → LexesTo (spelling w ++ printed_after w ws) (w ∷ ws)
step (name b) ws is calm h = one-more _ _ _ _ ws (lex-name b (printed_after (name b) ws) is (quiet-name (printed_after (name b) ws) (after-quiet (name b) ws refl))) h
step (number b) ws is calm h = one-more _ _ _ _ ws (lex-number b (printed_after (number b) ws) is (quiet-number (printed_after (number b) ws) (after-quiet (number b) ws refl))) h
step (text b) ws is calm h = one-more _ _ _ _ ws (lex-quoted b (printed_after (text b) ws) is (quiet-text (printed_after (text b) ws) (after-quiet (text b) ws refl))) h
step (mark Open) ws is calm h = one-more _ _ _ _ ws (lex-short Open 40 (printed_after (mark Open) ws) refl refl) h
step (mark Close) ws is calm h = one-more _ _ _ _ ws (lex-short Close 41 (printed_after (mark Close) ws) refl refl) h
step (mark Comma) ws is calm h = one-more _ _ _ _ ws (lex-short Comma 44 (printed_after (mark Comma) ws) refl refl) h
step (mark Dot) ws is calm h = one-more _ _ _ _ ws (lex-short Dot 46 (printed_after (mark Dot) ws) refl refl) h
step (mark Minus) ws is calm h =
    let quiet = open-quiet ws (and_parts (begins_open ws) (is_calm ws) calm).0 in
    one-more _ _ _ _ ws (lex-short Minus 45 (printed_after (mark Minus) ws) refl (cut-minus (printed_after (mark Minus) ws) (quiet-number (printed_after (mark Minus) ws) quiet))) h
step (mark Equal) ws is calm h = one-more _ _ _ _ ws (lex-short Equal 61 (printed_after (mark Equal) ws) refl refl) h
step (mark NotEqual) ws is calm h = one-more _ _ _ _ ws (lex-long NotEqual 33 (printed_after (mark NotEqual) ws) refl refl) h
step (mark Less) ws is calm h =
    one-more _ _ _ _ ws (lex-short Less 60 (printed_after (mark Less) ws) refl
    (cut-less (printed_after (mark Less) ws) (quiet-equal (printed_after (mark Less) ws) (after-quiet (mark Less) ws refl)))) h
step (mark AtMost) ws is calm h = one-more _ _ _ _ ws (lex-long AtMost 60 (printed_after (mark AtMost) ws) refl refl) h
step (mark Greater) ws is calm h =
    one-more _ _ _ _ ws (lex-short Greater 62 (printed_after (mark Greater) ws) refl
    (cut-greater (printed_after (mark Greater) ws) (quiet-equal (printed_after (mark Greater) ws) (after-quiet (mark Greater) ws refl)))) h
step (mark AtLeast) ws is calm h = one-more _ _ _ _ ws (lex-long AtLeast 62 (printed_after (mark AtLeast) ws) refl refl) h

-- a space in front is passed over
gap-lexes : (close : Bool) (bytes : List ℕ) (ws : List Piece) → LexesTo bytes ws → LexesTo (cond close [] (codes " ") ++ bytes) ws
unfolding lex
gap-lexes true bytes ws h = h
gap-lexes false bytes ws h = record { words = h.words; rest = h.rest }

-- calm words are calm after the first
calm-after : (w : Piece) (ws : List Piece) → is_calm (w ∷ ws) ≡ true → is_calm ws ≡ true
calm-after (mark Minus) ws h = (and_parts (begins_open ws) (is_calm ws) h).1
calm-after (name b) ws h = h
calm-after (number b) ws h = h
calm-after (text b) ws h = h
calm-after (mark Open) ws h = h
calm-after (mark Close) ws h = h
calm-after (mark Comma) ws h = h
calm-after (mark Dot) ws h = h
calm-after (mark Equal) ws h = h
calm-after (mark NotEqual) ws h = h
calm-after (mark Less) ws h = h
calm-after (mark AtMost) ws h = h
calm-after (mark Greater) ws h = h
calm-after (mark AtLeast) ws h = h

-- what is printed after a word falls into the words after it
after-lexes : (before : Piece) (ws : List Piece) → ArePieceWords ws → is_calm ws ≡ true → LexesTo (printed_after before ws) ws
unfolding lex
after-lexes before [] are calm = record { words = refl; rest = refl }
after-lexes before (w ∷ ws) are calm =
    gap-lexes (hugs_after before || hugs_before w) (spelling w ++ printed_after w ws) (w ∷ ws)
    (step w ws are.0 calm (after-lexes w ws are.1 (calm-after w ws calm)))

-- printed words fall into themselves
pub printed-lexes : (ws : List Piece) → ArePieceWords ws → is_calm ws ≡ true → (pieces_of (lex (printed_words ws)).pieces ≡ ws) × ((lex (printed_words ws)).rest ≡ [])
unfolding lex
printed-lexes [] are calm = (refl, refl)
printed-lexes (w ∷ ws) are calm =
    let h = step w ws are.0 calm (after-lexes w ws are.1 (calm-after w ws calm)) in
    (h.words, h.rest)

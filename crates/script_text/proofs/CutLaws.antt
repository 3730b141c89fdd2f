-- The pieces that the lexer finds are the tokens of a line, and what it leaves begins with the first fault.
use Rattle.std.proofs.Common.{◌≡◌, ℕ, zero, suc, ◌<◌, ◌≤◌, List, [], ◌∷◌, length, drop, Option, Some, None, refl, sym, ap, subst, ◌∙◌, arith, length-drop}
use Rattle.std.specs.Prelude.{⊤}
use Rattle.std.specs.List.{prefix_len}
use Rattle.script_text.specs.Lexical.{Placed, ArePieces, IsCut, IsFault, is_blank, skip_blanks}
use Rattle.script_text.specs.Lexing.{Cut, Lexed, first_cut, put, lex, pieces, unread}
use Rattle.script_text.proofs.LexLemmas.{lex-none, lex-some, shorter-cut}
use Rattle.script_text.proofs.CutTokens.{first_cut-fault}
use Rattle.script_text.proofs.TokenLemmas.{first_cut-token, token-first_cut, fault-first_cut}

-- nothing is left, or it begins with a fault
abbrev pub IsEnd : List ℕ → Type 0
IsEnd [] = ⊤
IsEnd (b ∷ bytes) = IsFault (b ∷ bytes)

-- bytes at whose front nothing is cut are such an end
end-none : (bytes : List ℕ) → first_cut bytes ≡ None → IsEnd bytes
end-none [] e = tt
end-none (b ∷ bytes) e = record { some = omega arith; none = first_cut-fault (b ∷ bytes) e }

-- nothing is cut at such an end
none-end : (bytes : List ℕ) → IsEnd bytes → first_cut bytes ≡ None
none-end [] h = refl
none-end (b ∷ bytes) h = fault-first_cut (b ∷ bytes) h.none

-- the bytes are cut into the pieces, and left with such an end
record IsCutTo (bytes : List ℕ) (lexed : Lexed) : Type 0 where
  cut : IsCut bytes lexed.pieces lexed.rest
  end : IsEnd lexed.rest

-- the lexer cuts bytes so, if it does so with fewer
module _ (bytes : List ℕ) (fewer : (after : List ℕ) → length after < length bytes → IsCutTo after (lex after)) where
  -- by what is cut first
  lex-step : (o : Option Cut) → first_cut (skip_blanks bytes) ≡ o → IsCutTo bytes (lex bytes)
  lex-step None e =
      subst (IsCutTo bytes) (sym (lex-none bytes (skip_blanks bytes) refl e)) (record { cut = refl; end = end-none (skip_blanks bytes) e })
  lex-step (Some c) e =
      let token = first_cut-token (skip_blanks bytes) c e in
      let rest = fewer (drop c.len (skip_blanks bytes)) (shorter-cut bytes (skip_blanks bytes) c.len refl token.some token.within) in
      subst (IsCutTo bytes) (sym (lex-some bytes (skip_blanks bytes) c refl e token.some))
      (record { cut = (drop c.len (skip_blanks bytes), token.token, refl, rest.cut); end = rest.end })

-- so it does for bytes of any number
lex-cuts_below : (n : ℕ) (bytes : List ℕ) → length bytes < n → IsCutTo bytes (lex bytes)
lex-cuts_below zero bytes h = absurd (omega arith)
lex-cuts_below (suc n) bytes h = lex-step bytes (λ after less. lex-cuts_below n after (omega (arith, less))) (first_cut (skip_blanks bytes)) refl

-- the lexer cuts the bytes into tokens
lex-cuts : (bytes : List ℕ) → IsCutTo bytes (lex bytes)
lex-cuts bytes = lex-cuts_below (suc (length bytes)) bytes (omega arith)

-- the pieces are the tokens of the bytes
pub pieces-cut : (bytes : List ℕ) → IsCut bytes (pieces bytes) (unread bytes)
pieces-cut bytes = (lex-cuts bytes).cut

-- and nothing is left, or it begins with the first fault
pub unread-end : (bytes : List ℕ) → IsEnd (unread bytes)
unread-end bytes = (lex-cuts bytes).end

-- the bytes are cut in one way
cut-lex : (bytes : List ℕ) (tokens : List Placed) (rest : List ℕ) → IsCut bytes tokens rest → IsEnd rest → lex bytes ≡ record { pieces = tokens; rest = rest }
cut-lex bytes [] rest h end = lex-none bytes rest (sym h) (none-end rest end)
cut-lex bytes (t ∷ tokens) rest h end =
    let first = token-first_cut (skip_blanks bytes) t.piece h.0 h.1 in
    lex-some bytes (skip_blanks bytes) first.cut refl first.first first.some
    ∙ (λ i. put (record { piece = first.piece i; room = sym h.2 i }) (lex (first.rest i)))
    ∙ ap (put t) (cut-lex h.0 tokens rest h.3 end)

-- tokens of the bytes are the pieces
pub cut-pieces : (bytes : List ℕ) (tokens : List Placed) (rest : List ℕ) → IsCut bytes tokens rest → IsEnd rest → tokens ≡ pieces bytes
cut-pieces bytes tokens rest h end = sym (ap (λ l. l.pieces) (cut-lex bytes tokens rest h end))

-- and what they leave is what the lexer leaves
pub cut-unread : (bytes : List ℕ) (tokens : List Placed) (rest : List ℕ) → IsCut bytes tokens rest → IsEnd rest → rest ≡ unread bytes
cut-unread bytes tokens rest h end = sym (ap (λ l. l.rest) (cut-lex bytes tokens rest h end))

-- tokens are pieces of the language
pub cut-are : (bytes : List ℕ) (tokens : List Placed) (rest : List ℕ) → IsCut bytes tokens rest → ArePieces tokens
cut-are bytes [] rest h = tt
cut-are bytes (t ∷ tokens) rest h = (h.1.shape, cut-are h.0 tokens rest h.3)

-- no more bytes are left after blanks
pub skip-within : (bytes : List ℕ) → length (skip_blanks bytes) ≤ length bytes
skip-within bytes = omega (arith, length-drop (prefix_len is_blank bytes) bytes)

-- The piece of a cut is one of the language.
use Rattle.std.proofs.Common.{◌≡◌, ℕ, ◌+◌, true, leb, eqb, drop, List, [], ◌∷◌, Option, Some, None, subst, arith, length-take}
use Rattle.std.proofs.lemmas.Bool.{cond_both, leb-true}
use Rattle.std.specs.List.{prefix_len}
use Rattle.script_text.specs.declared.TheConstants.{LONGEST_NAME}
use Rattle.script_text.specs.declared.token.Symbol.{Symbol}
use Rattle.script_text.specs.Lexing.{Cut, first_cut, symbol_cut, longest_symbol, begins_equal, short_symbol, long_symbol, name_cut, text_cut}
use Rattle.script_text.specs.Name.{starts_name, continues_name}
use Rattle.script_text.specs.Text.{begins_quote, text_run}
use Rattle.script_text.specs.Token.{IsPiece}
use Rattle.script_text.proofs.TextRuns.{inside-run}
use Rattle.script_text.proofs.RunLemmas.{is_name-cut, is_number-cut}

-- what is cut, if anything, is a piece of the language
abbrev pub IsFine : Option Cut → Type 0
IsFine None = Unit {0}
IsFine (Some c) = IsPiece c.piece

-- a symbol is a piece of the language
symbol_cut-fine : (n : ℕ) (o : Option Symbol) → IsFine (symbol_cut n o)
symbol_cut-fine n None = tt
symbol_cut-fine n (Some s) = tt

-- the longer symbol and the short one alike
longest_symbol-fine : (o : Option Symbol) (b : ℕ) (bytes : List ℕ) → IsFine (longest_symbol o b bytes)
longest_symbol-fine None b bytes = symbol_cut-fine 1 (short_symbol b)
longest_symbol-fine (Some s) b bytes = cond_both (begins_equal bytes) _ _ IsFine (λ e. tt) (λ e. symbol_cut-fine 1 (short_symbol b))

-- a name that is cut is of its shape, and not too long
name_cut-fine : (b : ℕ) (bytes : List ℕ) → starts_name b ≡ true → IsFine (name_cut (1 + prefix_len continues_name bytes) (b ∷ bytes))
name_cut-fine b bytes h =
    let n = 1 + prefix_len continues_name bytes in
    cond_both (leb n LONGEST_NAME) _ _ IsFine
    (λ e. record { spelled = is_name-cut b bytes h; short = omega (arith, leb-true n LONGEST_NAME e, length-take n (b ∷ bytes)) })
    (λ e. tt)

-- a text that is cut is characters alone
text_cut-fine : (bytes : List ℕ) → IsFine (text_cut (text_run bytes) bytes)
text_cut-fine bytes = cond_both (begins_quote (drop (text_run bytes) bytes)) _ _ IsFine (λ e. inside-run bytes) (λ e. tt)

-- every cut is a piece of the language
pub first_cut-fine : (bytes : List ℕ) → IsFine (first_cut bytes)
first_cut-fine [] = tt
first_cut-fine (b ∷ bytes) =
    cond_both (starts_name b) _ _ IsFine (name_cut-fine b bytes)
    (λ e. cond_both _ _ _ IsFine (is_number-cut b bytes) (λ e. cond_both (eqb b 34) _ _ IsFine (λ q. text_cut-fine bytes) (λ q. longest_symbol-fine (long_symbol b) b bytes)))

-- so the piece of any cut is one of the language
pub IsPiece-first_cut : (bytes : List ℕ) (c : Cut) → first_cut bytes ≡ Some c → IsPiece c.piece
IsPiece-first_cut bytes c h = subst IsFine h (first_cut-fine bytes)

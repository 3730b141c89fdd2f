-- What the lexer cuts is the longest token that stands there, and where it cuts nothing none does.
use Rattle.std.proofs.Common.{◌≡◌, ℕ, ◌+◌, ◌≤◌, eqb, leb, List, [], ◌∷◌, ◌++◌, length, take, drop, Option, Some, None, refl, sym, ap, subst}
use Rattle.std.proofs.Common.{◌∙◌, suc, arith, length-take}
use Rattle.std.specs.Prelude.{⊤}
use Rattle.std.proofs.lemmas.Bool.{cond_both}
use Rattle.std.proofs.lemmas.List.{take-append-drop, take_at, drop_at}
use Rattle.std.specs.Char.{is_ascii_digit}
use Rattle.std.specs.List.{prefix_len}
use Rattle.script_text.specs.declared.TheConstants.{LONGEST_NAME}
use Rattle.script_text.specs.declared.token.Symbol.{Symbol}
use Rattle.script_text.specs.Lexing.{Cut, first_cut, text_cut, symbol_cut, longest_symbol, begins_equal, short_symbol, long_symbol, begins_number}
use Rattle.script_text.specs.Name.{starts_name, continues_name}
use Rattle.script_text.specs.Token.{Piece, spelling, EndsBefore, IsToken}
use Rattle.script_text.proofs.CutLemmas.{IsPiece-first_cut}
use Rattle.script_text.proofs.TextRuns.{text-cut}
use Rattle.script_text.specs.Text.{begins_quote, text_run}
use Rattle.script_text.proofs.CutTokens.{shaped-piece, spelled-same, spelled-some, IsTextAt, first_cut-front, first_cut-longest, first_cut-fault}

-- a text that is cut is followed by no quote
abbrev IsClosed : List ℕ → Option Cut → Type 0
IsClosed bytes None = ⊤
IsClosed bytes (Some c) = EndsBefore c.piece (drop c.len bytes)

-- so it is with symbols
symbol-closed : (n : ℕ) (o : Option Symbol) (bytes : List ℕ) → IsClosed bytes (symbol_cut n o)
symbol-closed n None bytes = tt
symbol-closed n (Some s) bytes = tt

longest-closed : (o : Option Symbol) (b : ℕ) (bytes : List ℕ) → IsClosed (b ∷ bytes) (longest_symbol o b bytes)
longest-closed None b bytes = symbol-closed 1 (short_symbol b) (b ∷ bytes)
longest-closed (Some s) b bytes = cond_both (begins_equal bytes) _ _ (IsClosed (b ∷ bytes)) (λ h. tt) (λ h. symbol-closed 1 (short_symbol b) (b ∷ bytes))

-- with texts
text-closed : (b : ℕ) (bytes : List ℕ) → IsClosed (b ∷ bytes) (text_cut (text_run bytes) bytes)
text-closed b bytes =
    cond_both (begins_quote (drop (text_run bytes) bytes)) _ _ (IsClosed (b ∷ bytes))
    (λ q.
    let cut = text-cut bytes q in
    let more : text_run bytes + 2 ≡ suc (text_run bytes + 1) = omega arith in
    rw more (ap begins_quote cut.rest ∙ cut.single))
    (λ q. tt)

-- and with all cuts
cuts-closed : (bytes : List ℕ) → IsClosed bytes (first_cut bytes)
cuts-closed [] = tt
cuts-closed (b ∷ bytes) =
    cond_both (starts_name b) _ _ (IsClosed (b ∷ bytes))
    (λ h. cond_both (leb (1 + prefix_len continues_name bytes) LONGEST_NAME) _ _ (IsClosed (b ∷ bytes)) (λ s. tt) (λ s. tt))
    (λ h. cond_both (begins_number b (prefix_len is_ascii_digit bytes)) _ _ (IsClosed (b ∷ bytes)) (λ d. tt)
    (λ d. cond_both (eqb b 34) _ _ (IsClosed (b ∷ bytes)) (λ q. text-closed b bytes) (λ q. longest-closed (long_symbol b) b bytes)))

first_cut-closed : (bytes : List ℕ) (c : Cut) → first_cut bytes ≡ Some c → EndsBefore c.piece (drop c.len bytes)
first_cut-closed bytes c e = subst (IsClosed bytes) e (cuts-closed bytes)

-- a cut is the token that stands at the front
pub record IsCutToken (bytes : List ℕ) (c : Cut) : Type 0 where
  pub token : IsToken bytes c.piece (drop c.len bytes)
  pub len : c.len ≡ length (spelling c.piece)
  pub some : 1 ≤ c.len
  pub within : c.len ≤ length bytes

-- what is cut is the token that stands there
pub first_cut-token : (bytes : List ℕ) (c : Cut) → first_cut bytes ≡ Some c → IsCutToken bytes c
first_cut-token bytes c e =
    let text = subst (IsTextAt bytes) e (first_cut-front bytes) in
    let shape = IsPiece-first_cut bytes c e in
    let len : c.len ≡ length (spelling c.piece) = sym (ap length text.0 ∙ omega (arith, length-take c.len bytes, text.1)) in
    let some = spelled-some c.piece (shaped-piece c.piece shape) in
    record {
      token = record {
        shape = shape;
        split = sym (ap (λ xs. xs ++ drop c.len bytes) text.0 ∙ take-append-drop c.len bytes);
        closed = first_cut-closed bytes c e;
        longest = λ p left h split. subst (λ n. length (spelling p) ≤ n) len (first_cut-longest bytes c e p left h split);
      };
      len = len;
      some = omega (arith, len, some);
      within = text.1;
    }

-- the cut of a token that stands at the front
pub record HasCut (bytes : List ℕ) (p : Piece) (after : List ℕ) : Type 0 where
  pub cut : Cut
  pub first : first_cut bytes ≡ Some cut
  pub piece : cut.piece ≡ p
  pub rest : drop cut.len bytes ≡ after
  pub some : 1 ≤ cut.len

-- fronts of one length are the same
same-front : (xs ys u v : List ℕ) → xs ++ u ≡ ys ++ v → length xs ≡ length ys → (xs ≡ ys) × (u ≡ v)
same-front xs ys u v e n = (
  sym (take_at xs u (length ys) n) ∙ ap (take (length ys)) e ∙ take_at ys v (length ys) refl,
  sym (drop_at xs u (length ys) n) ∙ ap (drop (length ys)) e ∙ drop_at ys v (length ys) refl,
)

-- a token that stands at the front is what is cut
pub token-first_cut : (bytes : List ℕ) (p : Piece) (after : List ℕ) → IsToken bytes p after → HasCut bytes p after
token-first_cut bytes p after token =
    let go : (o : Option Cut) → first_cut bytes ≡ o → HasCut bytes p after =
    elim [
      | None ↦ λ e. absurd (first_cut-fault bytes e p after token)
      | Some c ↦ λ e.
          let other = first_cut-token bytes c e in
          let most = other.token.longest p after (shaped-piece p token.shape) token.split in
          let least = token.longest c.piece (drop c.len bytes) (shaped-piece c.piece other.token.shape) other.token.split in
          let n : length (spelling c.piece) ≡ length (spelling p) = omega (arith, most, least) in
          let two = same-front (spelling c.piece) (spelling p) (drop c.len bytes) after (sym other.token.split ∙ token.split) n in
          record {
            cut = c;
            first = e;
            piece = spelled-same c.piece p other.token.shape token.shape two.0;
            rest = two.1;
            some = other.some;
          }
    ] in
    go (first_cut bytes) refl

-- where no token stands nothing is cut
pub fault-first_cut : (bytes : List ℕ) → ((p : Piece) (after : List ℕ) → ¬ IsToken bytes p after) → first_cut bytes ≡ None
fault-first_cut bytes none =
    let go : (o : Option Cut) → first_cut bytes ≡ o → o ≡ None =
    elim [ None ↦ λ e. refl | Some c ↦ λ e. absurd (none c.piece (drop c.len bytes) (first_cut-token bytes c e).token) ] in
    go (first_cut bytes) refl

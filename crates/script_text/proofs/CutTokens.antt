-- What the lexer cuts first, and that nothing longer stands there.
use Rattle.std.proofs.Common.{◌≡◌, ℕ, ◌+◌, ◌<◌, ◌≤◌, Bool, true, false, cond, eqb, leb, List, [], ◌∷◌, ◌++◌, length, take, drop, Option, Some, None, refl, sym, ap, subst}
use Rattle.std.proofs.Common.{◌∙◌, suc, append_assoc, length-append, arith, length-take}
use Rattle.std.specs.Prelude.{⊤}
use Rattle.std.proofs.lemmas.Bool.{and_parts, cond-true, cond-false, cond_both, eqb-true, leb-false, false≢true}
use Rattle.std.proofs.lemmas.Bool.Decides.{nat_tests}
use Rattle.std.proofs.lemmas.List.{append-nil, take-append-drop, take_at, length-take-le}
use Rattle.std.proofs.lemmas.List.Folds.{length-prefix_len}
use Rattle.std.specs.Char.{is_ascii_digit}
use Rattle.std.specs.List.{prefix_len, list_all}
use Rattle.script_text.specs.declared.TheConstants.{LONGEST_NAME}
use Rattle.script_text.specs.declared.token.Symbol.{Symbol}
use Rattle.script_text.specs.declared.token.Symbol.TheVariants.{Open, Close, Comma, Dot, Minus, Equal, NotEqual, Less, AtMost, Greater, AtLeast}
use Rattle.script_text.specs.Lexing.{Cut, first_cut, name_cut, number_cut, text_cut, symbol_cut, longest_symbol, begins_equal, short_symbol, long_symbol, begins_number}
use Rattle.script_text.specs.Name.{starts_name, continues_name, is_name}
use Rattle.script_text.specs.Token.{Piece, name, number, mark, symbol_text, spelling, is_number, IsPiece, HasPieceShape, IsToken}
use Rattle.script_text.proofs.RunLemmas.{is_name-cut}
use Rattle.script_text.proofs.SpelledLemmas.{first_cut-name, first_cut-number, first_cut-text, number-split}
use Rattle.script_text.proofs.SymbolLemmas.{symbol-cut, same-piece}
use Rattle.script_text.proofs.TextRuns.{text-cut, text-least}
use Rattle.script_text.specs.Token as piece
use Rattle.script_text.specs.Text.{begins_quote, text_run}

-- a piece of the language is of its shape
pub shaped-piece : (p : Piece) → IsPiece p → HasPieceShape p
shaped-piece (name bytes) h = h.spelled
shaped-piece (number bytes) h = h
shaped-piece (piece.text bytes) h = h
shaped-piece (mark s) h = tt

-- the text of a piece is cut as that piece
spelled-cut : (p : Piece) → IsPiece p → (n : ℕ) × (first_cut (spelling p) ≡ Some (record { piece = p; len = n }))
spelled-cut (name []) h = absurd (false≢true h.spelled)
spelled-cut (name (b ∷ bytes)) h = (1 + length bytes, ap (λ xs. first_cut (b ∷ xs)) (sym (append-nil bytes)) ∙ first_cut-name b bytes [] h refl)
spelled-cut (number []) h = absurd (false≢true h)
spelled-cut (number (b ∷ bytes)) h = (1 + length bytes, ap (λ xs. first_cut (b ∷ xs)) (sym (append-nil bytes)) ∙ first_cut-number b bytes [] h refl)
spelled-cut (piece.text bytes) h = (length bytes + 2, first_cut-text bytes [] h refl)
spelled-cut (mark s) h = symbol-cut s

-- pieces of one text are the same
pub spelled-same : (p q : Piece) → IsPiece p → IsPiece q → spelling p ≡ spelling q → p ≡ q
spelled-same p q hp hq e =
    let one = spelled-cut p hp in
    let two = spelled-cut q hq in
    same-piece (first_cut (spelling p)) p q one.0 two.0 one.1 (ap first_cut e ∙ two.1)

-- a symbol has a byte at least
symbol-some : (s : Symbol) → 1 ≤ length (symbol_text s)
symbol-some Open = omega arith
symbol-some Close = omega arith
symbol-some Comma = omega arith
symbol-some Dot = omega arith
symbol-some Minus = omega arith
symbol-some Equal = omega arith
symbol-some NotEqual = omega arith
symbol-some Less = omega arith
symbol-some AtMost = omega arith
symbol-some Greater = omega arith
symbol-some AtLeast = omega arith

-- so has every piece
pub spelled-some : (p : Piece) → HasPieceShape p → 1 ≤ length (spelling p)
spelled-some (name []) h = absurd (false≢true h)
spelled-some (name (b ∷ bytes)) h = omega arith
spelled-some (number []) h = absurd (false≢true h)
spelled-some (number (b ∷ bytes)) h = omega arith
spelled-some (piece.text bytes) h = omega arith
spelled-some (mark s) h = symbol-some s

-- a run is no longer than the bytes
run-within : (p : ℕ → Bool) (bytes : List ℕ) → prefix_len p bytes ≤ length bytes
run-within p bytes = omega (arith, length-prefix_len p bytes, length-take (prefix_len p bytes) bytes)

-- a run at the front is no longer than the longest
run-front : (p : ℕ → Bool) (xs more : List ℕ) → list_all p xs ≡ true → length xs ≤ prefix_len p (xs ++ more)
run-front p [] more h = omega arith
run-front p (x ∷ xs) more h =
    let two = and_parts (p x) (list_all p xs) h in
    let rest = run-front p xs more two.1 in
    rw (cond-true (p x) (1 + prefix_len p (xs ++ more)) 0 two.0) (omega arith)

-- what a cut has: the bytes at the front are its text
abbrev pub IsTextAt : List ℕ → Option Cut → Type 0
IsTextAt bytes None = ⊤
IsTextAt bytes (Some c) = (spelling c.piece ≡ take c.len bytes) × (c.len ≤ length bytes)

-- of symbols that begin with a byte, one that is found has it in front
found-symbol : (b k : ℕ) (tail : List ℕ) (x s : Symbol) (others : Option Symbol) → symbol_text x ≡ k ∷ tail → (others ≡ Some s → symbol_text s ≡ b ∷ tail)
    → cond (eqb b k) (Some x) others ≡ Some s → symbol_text s ≡ b ∷ tail
found-symbol b k tail x s others text rest e =
    let go : (t : Bool) → eqb b k ≡ t → cond t (Some x) others ≡ Some s → symbol_text s ≡ b ∷ tail =
    elim [
      | true ↦ λ h e. let same : s ≡ x = cc in ap symbol_text same ∙ text ∙ ap (λ b. b ∷ tail) (sym (eqb-true b k h))
      | false ↦ λ h e. rest e
    ] in
    go _ refl e

-- the text of a symbol of one byte
short-text : (b : ℕ) (s : Symbol) → short_symbol b ≡ Some s → symbol_text s ≡ b ∷ []
short-text b s =
    found-symbol b 40 [] Open s _ refl (found-symbol b 41 [] Close s _ refl (found-symbol b 44 [] Comma s _ refl (found-symbol b 46 [] Dot s _ refl
    (found-symbol b 45 [] Minus s _ refl (found-symbol b 61 [] Equal s _ refl (found-symbol b 60 [] Less s _ refl (found-symbol b 62 [] Greater s _ refl
    (λ e. absurd cc))))))))

-- the text of a longer one
long-text : (b : ℕ) (s : Symbol) → long_symbol b ≡ Some s → symbol_text s ≡ b ∷ 61 ∷ []
long-text b s = found-symbol b 33 (61 ∷ []) NotEqual s _ refl (found-symbol b 60 (61 ∷ []) AtMost s _ refl (found-symbol b 62 (61 ∷ []) AtLeast s _ refl (λ e. absurd cc)))

-- a list and one more, and others
append-one : (xs ys : List ℕ) → xs ++ 34 ∷ ys ≡ (xs ++ 34 ∷ []) ++ ys
append-one xs ys = sym (append_assoc xs (34 ∷ []) ys)

-- a symbol of one byte at the front
short-at : (b : ℕ) (bytes : List ℕ) (o : Option Symbol) → short_symbol b ≡ o → IsTextAt (b ∷ bytes) (symbol_cut 1 o)
short-at b bytes None e = tt
short-at b bytes (Some s) e = (short-text b s e, omega arith)

-- a longer one
long-at : (b : ℕ) (bytes : List ℕ) (s : Symbol) → long_symbol b ≡ Some s → begins_equal bytes ≡ true → IsTextAt (b ∷ bytes) (Some (record { piece = mark s; len = 2 }))
long-at b [] s e h = absurd (false≢true h)
long-at b (c ∷ bytes) s e h = (long-text b s e ∙ ap (λ c. b ∷ c ∷ []) (sym (eqb-true c 61 h)), omega arith)

-- any symbol at the front
symbol-text : (b : ℕ) (bytes : List ℕ) (o : Option Symbol) → long_symbol b ≡ o → IsTextAt (b ∷ bytes) (longest_symbol o b bytes)
symbol-text b bytes None e = short-at b bytes (short_symbol b) refl
symbol-text b bytes (Some s) e = cond_both (begins_equal bytes) _ _ (IsTextAt (b ∷ bytes)) (λ h. long-at b bytes s e h) (λ h. short-at b bytes (short_symbol b) refl)

-- a text's quotes and what they hold stand at the front
text-at : (b : ℕ) (bytes : List ℕ) → b ≡ 34 → IsTextAt (b ∷ bytes) (text_cut (text_run bytes) bytes)
text-at b bytes e =
    let n = text_run bytes in
    cond_both (begins_quote (drop n bytes)) _ _ (IsTextAt (b ∷ bytes))
    (λ q.
    let cut = text-cut bytes q in
    let more : n + 2 ≡ suc (n + 1) = omega arith in
    let len : length (take n bytes) ≡ n = length-take-le n bytes (omega (arith, cut.within)) in
    let front : take (n + 1) bytes ≡ take n bytes ++ 34 ∷ [] =
    ap (take (n + 1)) (cut.whole ∙ append-one (take n bytes) cut.left) ∙ take_at (take n bytes ++ 34 ∷ []) cut.left (n + 1) (omega (arith, length-append (take n bytes) (34 ∷ []), len)) in
    (rw more (λ i. sym e i ∷ sym front i), omega (arith, cut.within)))
    (λ q. tt)

-- a cut's text stands at the front
pub first_cut-front : (bytes : List ℕ) → IsTextAt bytes (first_cut bytes)
first_cut-front [] = tt
first_cut-front (b ∷ bytes) =
    let names = run-within continues_name bytes in
    let digits = run-within is_ascii_digit bytes in
    cond_both (starts_name b) _ _ (IsTextAt (b ∷ bytes))
    (λ h. cond_both (leb (1 + prefix_len continues_name bytes) LONGEST_NAME) _ _ (IsTextAt (b ∷ bytes)) (λ s. (refl, omega arith)) (λ s. tt))
    (λ h. cond_both (begins_number b (prefix_len is_ascii_digit bytes)) _ _ (IsTextAt (b ∷ bytes)) (λ d. (refl, omega arith))
    (λ d. cond_both (eqb b 34) _ _ (IsTextAt (b ∷ bytes)) (λ q. text-at b bytes (eqb-true b 34 q)) (λ q. symbol-text b bytes (long_symbol b) refl)))

-- the symbol that is cut is no shorter than one that stands there
abbrev Reaches : ℕ → Option Cut → Type 0
Reaches n None = ⊥
Reaches n (Some c) = n ≤ c.len

-- `<` and `>` may be the front of a longer symbol
either-reaches : (bytes : List ℕ) (c d : Cut) → 1 ≤ c.len → 1 ≤ d.len → Reaches 1 (cond (begins_equal bytes) (Some c) (Some d))
either-reaches bytes c d hc hd = cond_both (begins_equal bytes) (Some c) (Some d) (Reaches 1) (λ e. hc) (λ e. hd)

-- the symbol that is cut where this one stands
symbol-front : (s : Symbol) (left : List ℕ) → Reaches (length (symbol_text s)) (first_cut (symbol_text s ++ left))
symbol-front Open left = omega arith
symbol-front Close left = omega arith
symbol-front Comma left = omega arith
symbol-front Dot left = omega arith
symbol-front Minus left = cond_both (begins_number 45 (prefix_len is_ascii_digit left)) _ _ (Reaches 1) (λ e. omega arith) (λ e. omega arith)
symbol-front Equal left = omega arith
symbol-front NotEqual left = omega arith
symbol-front Less left = either-reaches left _ _ (omega arith) (omega arith)
symbol-front AtMost left = omega arith
symbol-front Greater left = either-reaches left _ _ (omega arith) (omega arith)
symbol-front AtLeast left = omega arith

-- more digits after a byte that begins a number with some
begins-more : (b m n : ℕ) → begins_number b m ≡ true → m ≤ n → begins_number b n ≡ true
begins-more b m n h le = grind (arith, nat_tests)

-- the number that is cut where this one stands
number-front : (text left : List ℕ) → is_number text ≡ true → Reaches (length text) (first_cut (text ++ left))
number-front [] left h = absurd (false≢true h)
number-front (b ∷ bytes) left h =
    let split = number-split b bytes h in
    let run = run-front is_ascii_digit bytes left split.digits in
    let same : first_cut (b ∷ (bytes ++ left)) ≡ number_cut (1 + prefix_len is_ascii_digit (bytes ++ left)) (b ∷ (bytes ++ left)) =
    cond-false (starts_name b) _ _ split.no_name ∙ cond-true (begins_number b (prefix_len is_ascii_digit (bytes ++ left))) _ _ (begins-more b (length bytes) _ split.begins run) in
    let reach : Reaches (length (b ∷ bytes)) (number_cut (1 + prefix_len is_ascii_digit (bytes ++ left)) (b ∷ (bytes ++ left))) = omega (arith, run) in
    subst (Reaches (length (b ∷ bytes))) (sym same) reach

-- the text that is cut where this one stands
text-reaches : (n : ℕ) (bytes rest : List ℕ) (c : Cut) → n ≤ text_run rest → text_cut (text_run rest) rest ≡ Some c → n + 2 ≤ c.len
text-reaches n bytes rest c le e =
    let d : Cut = record { piece = piece.text (take (text_run rest) rest); len = text_run rest + 2 } in
    let go : (t : Bool) → cond t (Some d) None ≡ Some c → n + 2 ≤ c.len =
    elim [
      | true ↦ λ e. let same : d ≡ c = cc in let len : text_run rest + 2 ≡ c.len = ap (λ c. c.len) same in omega (arith, le, len)
      | false ↦ λ e. absurd cc
    ] in
    go (begins_quote (drop (text_run rest) rest)) e

-- bytes of a text, its quote and others
regroup-text : (bytes left : List ℕ) → (34 ∷ bytes ++ 34 ∷ []) ++ left ≡ 34 ∷ (bytes ++ 34 ∷ left)
regroup-text bytes left = ap (λ xs. 34 ∷ xs) (append_assoc bytes (34 ∷ []) left)

-- the run of bytes where a name stands, which is cut where it isn't too long
record IsNameRun (text left : List ℕ) : Type 0 where
  run : ℕ
  cut : first_cut (text ++ left) ≡ name_cut run (text ++ left)
  reaches : length text ≤ run
  within : run ≤ length (text ++ left)
  name : is_name (take run (text ++ left)) ≡ true

-- the run where this name stands
name-front : (text left : List ℕ) → is_name text ≡ true → IsNameRun text left
name-front [] left h = absurd (false≢true h)
name-front (b ∷ bytes) left h =
    let two = and_parts (starts_name b) (list_all continues_name bytes) h in
    let within = run-within continues_name (bytes ++ left) in
    let reaches = run-front continues_name bytes left two.1 in
    record {
      run = 1 + prefix_len continues_name (bytes ++ left);
      cut = cond-true (starts_name b) _ _ two.0;
      reaches = omega (arith, reaches);
      within = omega (arith, within);
      name = is_name-cut b (bytes ++ left) two.0;
    }

-- a name that is cut has the length of the run
name_cut-some : (n : ℕ) (bytes : List ℕ) (c : Cut) → name_cut n bytes ≡ Some c → c.len ≡ n
name_cut-some n bytes c e =
    let go : (t : Bool) → cond t (Some (record { piece = name (take n bytes); len = n })) None ≡ Some c → c.len ≡ n =
    elim [
      | true ↦ λ e.
          let d : Cut = record { piece = name (take n bytes); len = n } in
          let same : c ≡ d = cc in ap (λ c. c.len) same
      | false ↦ λ e. absurd cc
    ] in
    go (leb n LONGEST_NAME) e

-- a name that isn't cut is too long
name_cut-none : (n : ℕ) (bytes : List ℕ) → name_cut n bytes ≡ None → LONGEST_NAME < n
name_cut-none n bytes e =
    let d : Cut = record { piece = name (take n bytes); len = n } in
    let go : (t : Bool) → leb n LONGEST_NAME ≡ t → cond t (Some d) None ≡ None → LONGEST_NAME < n =
    elim [ true ↦ λ h e. absurd cc | false ↦ λ h e. leb-false n LONGEST_NAME h ] in
    go (leb n LONGEST_NAME) refl e

-- no piece at the front is longer than the one that is cut
pub first_cut-longest : (bytes : List ℕ) (c : Cut) → first_cut bytes ≡ Some c → (p : Piece) (left : List ℕ) → HasPieceShape p → bytes ≡ spelling p ++ left → length (spelling p) ≤ c.len
first_cut-longest bytes c e (mark s) left h split = subst (Reaches (length (symbol_text s))) (ap first_cut (sym split) ∙ e) (symbol-front s left)
first_cut-longest bytes c e (number text) left h split = subst (Reaches (length text)) (ap first_cut (sym split) ∙ e) (number-front text left h)
first_cut-longest bytes c e (piece.text inside) left h split =
    let least = text-least inside (34 ∷ left) h in
    let cut : text_cut (text_run (inside ++ 34 ∷ left)) (inside ++ 34 ∷ left) ≡ Some c = ap first_cut (sym (split ∙ regroup-text inside left)) ∙ e in
    let reach = text-reaches (length inside) inside (inside ++ 34 ∷ left) c (omega (arith, least)) cut in
    omega (arith, reach, length-append inside (34 ∷ []))
first_cut-longest bytes c e (name text) left h split =
    let front = name-front text left h in
    let len : c.len ≡ front.run = name_cut-some front.run (text ++ left) c (sym front.cut ∙ ap first_cut (sym split) ∙ e) in
    omega (arith, front.reaches, len)

-- nothing is not something
none-some : (o : Option Cut) (c : Cut) → o ≡ None → o ≡ Some c → ⊥
none-some o c e f = let g : None ≡ Some c = sym e ∙ f in absurd cc

-- where nothing is cut no token stands
pub first_cut-fault : (bytes : List ℕ) → first_cut bytes ≡ None → (p : Piece) (after : List ℕ) → ¬ IsToken bytes p after
first_cut-fault bytes e (mark s) after token = subst (Reaches (length (symbol_text s))) (ap first_cut (sym token.split) ∙ e) (symbol-front s after)
first_cut-fault bytes e (number text) after token = subst (Reaches (length text)) (ap first_cut (sym token.split) ∙ e) (number-front text after token.shape)
first_cut-fault bytes e (piece.text inside) after token =
    absurd (none-some (first_cut bytes) (record { piece = piece.text inside; len = length inside + 2 }) e
    (ap first_cut (token.split ∙ regroup-text inside after) ∙ first_cut-text inside after token.shape token.closed))
first_cut-fault bytes e (name text) after token =
    let front = name-front text after token.shape.spelled in
    let long = name_cut-none front.run (text ++ after) (sym front.cut ∙ ap first_cut (sym token.split) ∙ e) in
    let most = token.longest (name (take front.run (text ++ after))) (drop front.run (text ++ after)) front.name (token.split ∙ sym (take-append-drop front.run (text ++ after))) in
    absurd (omega (arith, long, most, front.within, token.shape.short, length-take front.run (text ++ after)))

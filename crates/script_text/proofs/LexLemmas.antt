-- How the pieces of a line, and what is left after them, follow from its front.
use Rattle.std.proofs.Common.{◌≡◌, ℕ, zero, suc, ◌+◌, ◌-◌, ◌<◌, ◌≤◌, Bool, true, false, cond, List, [], ◌∷◌, length, drop, Option, Some, None, refl, sym, ap, ◌∙◌, arith, length-drop}
use Rattle.std.proofs.Math.Numerals.{one-add}
use Rattle.std.proofs.lemmas.Bool.{cond-false}
use Rattle.std.specs.List.{prefix_len}
use Rattle.script_text.specs.Lexical.{is_blank, skip_blanks}
use Rattle.script_text.specs.Lexing.{Cut, first_cut, put, placed_piece, lex_after, lex, IsNextPiece, IsLast}
use Rattle.script_text.proofs.CutLemmas.{IsPiece-first_cut}

-- bytes that are passed by are dropped
lex_after-drop : (n : ℕ) (bytes : List ℕ) → lex_after n bytes ≡ lex_after 0 (drop n bytes)
lex_after-drop zero bytes = refl
lex_after-drop (suc n) [] = refl
lex_after-drop (suc n) (b ∷ bytes) = lex_after-drop n bytes

-- blanks part pieces and are nothing else
lex-skip_blanks : (bytes : List ℕ) → lex bytes ≡ lex (skip_blanks bytes)
unfolding lex
lex-skip_blanks [] = refl
lex-skip_blanks (b ∷ bytes) =
    let go : (t : Bool) → is_blank b ≡ t → lex_after 0 (b ∷ bytes) ≡ lex_after 0 (drop (cond t (1 + prefix_len is_blank bytes) 0) (b ∷ bytes)) =
    elim [ true ↦ λ e. rw (e, one-add) (lex-skip_blanks bytes) | false ↦ λ e. refl ] in
    go (is_blank b) refl

-- no blank stands first after the blanks
not_blank-first : (bytes : List ℕ) (b : ℕ) (more : List ℕ) → skip_blanks bytes ≡ b ∷ more → is_blank b ≡ false
not_blank-first [] b more e = cc
not_blank-first (a ∷ bytes) b more e =
    let go : (t : Bool) → is_blank a ≡ t → drop (cond t (1 + prefix_len is_blank bytes) 0) (a ∷ bytes) ≡ b ∷ more → is_blank b ≡ false =
    elim [
      | true ↦ λ h e. not_blank-first bytes b more (rw one-add at e)
      | false ↦ λ h e. let same : a ≡ b = cc in ap is_blank (sym same) ∙ h
    ] in
    go (is_blank a) refl e

-- the pieces of bytes that begin with no blank
lex-cons : (b : ℕ) (bytes : List ℕ) (o : Option Cut) → is_blank b ≡ false → first_cut (b ∷ bytes) ≡ o
    → lex (b ∷ bytes) ≡ placed_piece o (b ∷ bytes) (λ n. lex_after n bytes)
unfolding lex
lex-cons b bytes o h e = cond-false (is_blank b) _ _ h ∙ ap (λ o. placed_piece o (b ∷ bytes) (λ n. lex_after n bytes)) e

-- nothing is left of no bytes
lex-nil : lex [] ≡ record { pieces = []; rest = [] }
unfolding lex
lex-nil = refl

-- where the first of the bytes after the blanks begins no piece, there are none, and these bytes are left
pub lex-none : (bytes bare : List ℕ) → skip_blanks bytes ≡ bare → first_cut bare ≡ None → lex bytes ≡ record { pieces = []; rest = bare }
lex-none bytes [] skips h = lex-skip_blanks bytes ∙ ap lex skips ∙ lex-nil
lex-none bytes (b ∷ more) skips h =
    lex-skip_blanks bytes ∙ ap lex skips ∙ lex-cons b more None (not_blank-first bytes b more skips) h

-- one fewer than the bytes of a cut are dropped from those after its first
drop-cut : (n : ℕ) (b : ℕ) (bytes : List ℕ) → 1 ≤ n → lex_after (n - 1) bytes ≡ lex_after 0 (drop n (b ∷ bytes))
drop-cut zero b bytes h = absurd (omega arith)
drop-cut (suc n) b bytes h = let e : suc n - 1 ≡ n = omega arith in rw e (lex_after-drop n bytes)

-- the piece that is cut from bytes that begin with no blank, and the pieces after it
pub lex-cut : (b : ℕ) (bytes : List ℕ) (c : Cut) → is_blank b ≡ false → first_cut (b ∷ bytes) ≡ Some c → 1 ≤ c.len
    → lex (b ∷ bytes) ≡ put (record { piece = c.piece; room = length (b ∷ bytes) }) (lex (drop c.len (b ∷ bytes)))
unfolding lex
lex-cut b bytes c h first some =
    lex-cons b bytes (Some c) h first ∙ ap (put (record { piece = c.piece; room = length (b ∷ bytes) })) (drop-cut c.len b bytes some)

-- the piece of the first cut, and the pieces after it
pub lex-some : (bytes bare : List ℕ) (c : Cut) → skip_blanks bytes ≡ bare → first_cut bare ≡ Some c → 1 ≤ c.len
    → lex bytes ≡ put (record { piece = c.piece; room = length (skip_blanks bytes) }) (lex (drop c.len bare))
lex-some bytes [] c skips h some = cc
lex-some bytes (b ∷ more) c skips h some =
    rw skips (lex-skip_blanks bytes ∙ ap lex skips ∙ lex-cut b more c (not_blank-first bytes b more skips) h some)

-- fewer bytes are left after a cut
pub shorter-cut : (bytes bare : List ℕ) (n : ℕ) → skip_blanks bytes ≡ bare → 1 ≤ n → n ≤ length bare → length (drop n bare) < length bytes
shorter-cut bytes bare n skips some within =
    let fewer : length bare ≡ length bytes - prefix_len is_blank bytes = ap length (sym skips) ∙ length-drop (prefix_len is_blank bytes) bytes in
    omega (arith, length-drop n bare)

-- the piece that is cut stands next
pub IsNext-first_cut : (bytes bare after : List ℕ) (c : Cut) → bare ≡ skip_blanks bytes → Some c ≡ first_cut bare → 1 ≤ c.len → c.len ≤ length bare
    → after ≡ drop c.len bare → IsNextPiece bytes c.piece after
IsNext-first_cut bytes bare after c skips h some within e =
    let whole = lex-some bytes bare c (sym skips) (sym h) some in
    record {
      place = rw e (ap (λ l. l.pieces) whole);
      rest = rw e (ap (λ l. l.rest) whole);
      shape = IsPiece-first_cut bare c (sym h);
      shorter = rw e (shorter-cut bytes bare c.len (sym skips) some within);
    }

-- nothing is cut, so no piece is left
pub IsLast-first_cut : (bytes bare : List ℕ) → bare ≡ skip_blanks bytes → None ≡ first_cut bare → IsLast bytes
IsLast-first_cut bytes bare skips h =
    let whole = lex-none bytes bare (sym skips) (sym h) in
    record { place = ap (λ l. l.pieces) whole; rest = ap (λ l. l.rest) whole ∙ skips }

-- How tokens are written one after another.
use Rattle.std.proofs.Common.{◌≡◌, ℕ, zero, suc, ◌+◌, ◌-◌, ◌<◌, ◌||◌, cond, List, [], ◌∷◌, ◌++◌, length, get_or, take, drop, refl, sym, ap, ◌∙◌, append_assoc, arith}
use Rattle.std.proofs.Math.Seq.{drop-length}
use Rattle.std.proofs.lemmas.List.{take_rest, append-nil}
use Rattle.std.specs.Prelude.{codes}
use Rattle.script_text.specs.Page.{Page, empty, put, with_pieces}
use Rattle.script_text.specs.Printing.{each, more_words, list_words, hugs_after, hugs_before, gap, printed_after, printed_words, words, printed}
use Rattle.statements.specs.Statement.{Statement}
use Rattle.script_text.specs.Token.{Piece, spelling}

-- some tokens and then others
pub put_append : (page : Page) (ws vs : List Piece) → with_pieces page (ws ++ vs) ≡ with_pieces (with_pieces page ws) vs
unfolding with_pieces
put_append page [] vs = refl
put_append page (w ∷ ws) vs = put_append (put page w) ws vs

-- what is left of a list begins with the item that is there
rest-at : {A : Type 0} (xs : List A) (i : ℕ) (x : A) → i < length xs → x ≡ get_or xs i x → drop i xs ≡ x ∷ drop (i + 1) xs
rest-at [] i x less is = absurd (omega (arith, less))
rest-at (y ∷ xs) zero x less is = ap (λ y. y ∷ xs) (sym is)
rest-at (y ∷ xs) (suc i) x less is = let e : suc i + 1 ≡ suc (i + 1) = omega arith in rw e (rest-at xs i x (omega (arith, less)) is)

-- one item of a list, and then the others
pub each_step : {A : Type 0} (words : A → List Piece) (page : Page) (xs : List A) (i : ℕ) (x : A) → i < length xs → x ≡ get_or xs i x
    → with_pieces page (each words (drop i xs)) ≡ with_pieces (with_pieces page (words x)) (each words (drop (i + 1) xs))
each_step words page xs i x less is =
    ap (λ ys. with_pieces page (each words ys)) (rest-at xs i x less is) ∙ put_append page (words x) (each words (drop (i + 1) xs))

-- what is left begins with what stands between and the item that is there
more-at : {A : Type 0} (between : List Piece) (words : A → List Piece) (xs : List A) (i : ℕ) (x : A) → i < length xs → x ≡ get_or xs i x
    → more_words between words (drop i xs) ≡ between ++ (words x ++ more_words between words (drop (i + 1) xs))
more-at between words xs i x less is = ap (λ ys. more_words between words ys) (rest-at xs i x less is)

-- what stands between, one item of a list, and then the others
pub more_step : {A : Type 0} (between : List Piece) (words : A → List Piece) (page : Page) (xs : List A) (i : ℕ) (x : A) → i < length xs → x ≡ get_or xs i x
    → with_pieces page (more_words between words (drop i xs)) ≡ with_pieces (with_pieces (with_pieces page between) (words x)) (more_words between words (drop (i + 1) xs))
more_step between words page xs i x less is =
    ap (λ ws. with_pieces page ws) (more-at between words xs i x less is)
    ∙ put_append page between (words x ++ more_words between words (drop (i + 1) xs))
    ∙ put_append (with_pieces page between) (words x) (more_words between words (drop (i + 1) xs))

-- no item is left
pub each_end : {A : Type 0} (words : A → List Piece) (page : Page) (xs : List A) → with_pieces page (each words (drop (length xs) xs)) ≡ page
unfolding with_pieces
each_end words page xs = ap (λ ys. with_pieces page (each words ys)) (drop-length xs)

pub more_end : {A : Type 0} (between : List Piece) (words : A → List Piece) (page : Page) (xs : List A)
    → with_pieces page (more_words between words (drop (length xs) xs)) ≡ page
unfolding with_pieces
more_end between words page xs = ap (λ ys. with_pieces page (more_words between words ys)) (drop-length xs)

-- what stands between and one item are written
pub more_on : {A : Type 0} (between : List Piece) (words : A → List Piece) (page before new whole : Page) (xs : List A) (i : ℕ) (x : A) → i < length xs → x ≡ get_or xs i x
    → before ≡ with_pieces page between → new ≡ with_pieces before (words x) → with_pieces page (more_words between words (drop i xs)) ≡ whole
    → with_pieces new (more_words between words (drop (i + 1) xs)) ≡ whole
more_on between words page before new whole xs i x less is one two h =
    ap (λ p. with_pieces p (more_words between words (drop (i + 1) xs))) (two ∙ ap (λ p. with_pieces p (words x)) one)
    ∙ sym (more_step between words page xs i x less is) ∙ h

-- the first item of a list, and then the others
pub list_on : {A : Type 0} (between : List Piece) (words : A → List Piece) (page one new : Page) (xs : List A) (x : A) → 0 < length xs → x ≡ get_or xs 0 x
    → one ≡ with_pieces page (words x) → new ≡ with_pieces one (more_words between words (take (length xs - 1) (drop 1 xs))) → new ≡ with_pieces page (list_words between words xs)
list_on between words page one new [] x less is h k = absurd (omega (arith, less))
list_on between words page one new (y ∷ xs) x less is h k =
    k ∙ ap (λ zs. with_pieces one (more_words between words zs)) (take_rest (y ∷ xs) 1)
    ∙ ap (λ p. with_pieces p (more_words between words xs)) h ∙ sym (put_append page (words x) (more_words between words xs))
    ∙ ap (λ y. with_pieces page (words y ++ more_words between words xs)) is

-- tokens that are written are printed, behind what stands there
put-printed : (page : Page) (before : Piece) (ws : List Piece) → page.is_close ≡ hugs_after before → (with_pieces page ws).bytes ≡ page.bytes ++ printed_after before ws
unfolding with_pieces
put-printed page before [] h = sym (append-nil page.bytes)
put-printed page before (w ∷ ws) h =
    put-printed (put page w) w ws refl
    ∙ ap (λ close. (page.bytes ++ (cond (close || hugs_before w) [] (codes " ") ++ spelling w)) ++ printed_after w ws) h
    ∙ append_assoc page.bytes (gap before w ++ spelling w) (printed_after w ws)
    ∙ ap (λ bs. page.bytes ++ bs) (append_assoc (gap before w) (spelling w) (printed_after w ws))

-- the tokens of a statement are its printed form
words-printed : (ws : List Piece) → (with_pieces empty ws).bytes ≡ printed_words ws
unfolding with_pieces
words-printed [] = refl
words-printed (w ∷ ws) = put-printed (put empty w) w ws refl

pub print_all : (page : Page) (statement : Statement) → page ≡ with_pieces empty (words statement) → page.bytes ≡ printed statement
unfolding printed
print_all page statement h = ap (λ p. p.bytes) h ∙ words-printed (words statement)

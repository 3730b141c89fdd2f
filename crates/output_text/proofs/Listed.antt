-- Lists whose items are formed one after the other, each behind a separator.
use Rattle.std.proofs.Common.{◌≡◌, ℕ, zero, suc, ◌+◌, ◌-◌, ◌<◌, ◌≤◌, List, [], ◌∷◌, ◌++◌, length, get_or, take, drop, map, refl, sym, ap, ◌∙◌, subst, append_assoc, append-nil, arith}
use Rattle.std.proofs.Math.Seq.{drop-length}
use Rattle.std.proofs.lemmas.List.{take_rest}
use Rattle.std.specs.Fmt.{decimal}
use Rattle.sand_model.specs.OutputText.{joined}
use Rattle.output_text.specs.Forming.{Forms}
use Rattle.output_text.specs.Joined.{led}
use Rattle.output_text.specs.Writing.{AddsPrefix}
use Rattle.output_text.proofs.Forming.{Forms-held, Forms-then, Forms-broken, AddsPrefix-more}

-- of a whole text all but a rest was formed
pub record FormsUpTo (before now : List ℕ → Type 0) (old new whole rest : List ℕ) : Type 0 where
  pub text : List ℕ
  pub all : text ++ rest ≡ whole
  pub formed : Forms before now old new text

-- nothing is formed yet
pub FormsUpTo-start : (took : List ℕ → Type 0) (old whole : List ℕ) → FormsUpTo took took old old whole whole
FormsUpTo-start took old whole = record { text = []; all = refl; formed = Forms-held took old old [] (sym (append-nil old)) }

-- one more part is formed
pub FormsUpTo-step : (before mid now : List ℕ → Type 0) (old held new whole rest part left : List ℕ) → FormsUpTo before mid old held whole rest
    → Forms mid now held new part → rest ≡ part ++ left → FormsUpTo before now old new whole left
FormsUpTo-step before mid now old held new whole rest part left so_far formed is = record {
  text = so_far.text ++ part;
  all = append_assoc so_far.text part left ∙ ap (λ t. so_far.text ++ t) (sym is) ∙ so_far.all;
  formed = Forms-then before mid now old held new so_far.text part so_far.formed formed;
}

-- the next part broke off
pub FormsUpTo-broken : (before mid now : List ℕ → Type 0) (old held whole rest part left : List ℕ) → FormsUpTo before mid old held whole rest
    → AddsPrefix mid now (held ++ part) → rest ≡ part ++ left → AddsPrefix before now (old ++ whole)
FormsUpTo-broken before mid now old held whole rest part left so_far broken is =
    let broken' = AddsPrefix-more before now old (so_far.text ++ part) left
    (Forms-broken before mid now old held so_far.text part so_far.formed broken) in
    subst (λ t. AddsPrefix before now (old ++ t))
    (append_assoc so_far.text part left ∙ ap (λ t. so_far.text ++ t) (sym is) ∙ so_far.all) broken'

-- nothing is left
pub FormsUpTo-end : (before now : List ℕ → Type 0) (old new whole rest : List ℕ) → FormsUpTo before now old new whole rest → rest ≡ []
    → Forms before now old new whole
FormsUpTo-end before now old new whole rest so_far is =
    subst (Forms before now old new) (sym (append-nil so_far.text) ∙ ap (λ t. so_far.text ++ t) (sym is) ∙ so_far.all) so_far.formed

-- what is left of a list begins with the item that is there
rest-at : {A : Type 0} (xs : List A) (i : ℕ) (x d : A) → i < length xs → x ≡ get_or xs i d → drop i xs ≡ x ∷ drop (i + 1) xs
rest-at [] i x d less is = absurd (omega (arith, less))
rest-at (y ∷ xs) zero x d less is = ap (λ y. y ∷ xs) (sym is)
rest-at (y ∷ xs) (suc i) x d less is =
    let e : suc i + 1 ≡ suc (i + 1) = omega arith in rw e (rest-at xs i x d (omega (arith, less)) is)

-- one item of a list behind a separator, and then the others
pub led-rest : {A : Type 0} (between : List ℕ) (f : A → List ℕ) (xs : List A) (i : ℕ) (x d : A) → i < length xs → x ≡ get_or xs i d
    → led between (map f (drop i xs)) ≡ (between ++ f x) ++ led between (map f (drop (i + 1) xs))
led-rest between f xs i x d less is = ap (λ ys. led between (map f ys)) (rest-at xs i x d less is)

-- no item is left
pub led-end : {A : Type 0} (between : List ℕ) (f : A → List ℕ) (xs : List A) → led between (map f (drop (length xs) xs)) ≡ []
led-end between f xs = ap (λ ys. led between (map f ys)) (drop-length xs)

-- two lists one after the other
pub led-append : (between : List ℕ) (xs ys : List (List ℕ)) → led between (xs ++ ys) ≡ led between xs ++ led between ys
led-append between [] ys = refl
led-append between (x ∷ xs) ys =
    ap (λ t. (between ++ x) ++ t) (led-append between xs ys) ∙ sym (append_assoc (between ++ x) (led between xs) (led between ys))

-- the first text, and the others behind their separators
pub joined-led : (between x : List ℕ) (xs : List (List ℕ)) → joined between (x ∷ xs) ≡ x ++ led between xs
joined-led between x [] = sym (append-nil x)
joined-led between x (y ∷ xs) =
    ap (λ t. (x ++ between) ++ t) (joined-led between y xs) ∙ append_assoc x between (y ++ led between xs)
    ∙ ap (λ t. x ++ t) (sym (append_assoc between y (led between xs)))

-- the first item of a list, and what is left
pub first-rest : {A : Type 0} (xs : List A) (x d : A) → 1 ≤ length xs → x ≡ get_or xs 0 d → xs ≡ x ∷ take (length xs - 1) (drop 1 xs)
first-rest xs x d some is = rest-at xs 0 x d some is ∙ ap (λ ys. x ∷ ys) (sym (take_rest xs 1))

-- the text of the first item of a list, and the others behind their separators
pub joined-first : {A : Type 0} (between : List ℕ) (f : A → List ℕ) (xs : List A) (x d : A) → 1 ≤ length xs → x ≡ get_or xs 0 d
    → f x ++ led between (map f (take (length xs - 1) (drop 1 xs))) ≡ joined between (map f xs)
joined-first between f xs x d some is =
    sym (joined-led between (f x) (map f (take (length xs - 1) (drop 1 xs))))
    ∙ ap (λ ys. joined between (map f ys)) (sym (first-rest xs x d some is))

-- one more number is appended behind a tab
pub tabbed-step : (start held mid new rest left whole : List ℕ) (n : ℕ) → held ++ rest ≡ start ++ whole → rest ≡ ((9 ∷ []) ++ decimal n) ++ left
    → mid ≡ held ++ 9 ∷ [] → new ≡ mid ++ decimal n → new ++ left ≡ start ++ whole
tabbed-step start held mid new rest left whole n so_far is first second =
    ap (λ t. t ++ left) (second ∙ ap (λ t. t ++ decimal n) first ∙ append_assoc held (9 ∷ []) (decimal n))
    ∙ append_assoc held ((9 ∷ []) ++ decimal n) left ∙ ap (λ t. held ++ t) (sym is) ∙ so_far

-- no number is left
pub tabbed-end : (start held whole : List ℕ) (xs : List ℕ) → held ++ led (9 ∷ []) (map decimal (drop (length xs) xs)) ≡ start ++ whole → held ≡ start ++ whole
tabbed-end start held whole xs so_far =
    sym (append-nil held) ∙ ap (λ t. held ++ t) (sym (led-end (9 ∷ []) decimal xs)) ∙ so_far

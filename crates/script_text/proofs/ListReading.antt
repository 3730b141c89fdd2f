-- How a list is read: an item, and behind a token that goes on the others.
use Rattle.std.proofs.Common.{◌≡◌, ℕ, true, false, cond, List, [], ◌∷◌, ◌++◌, Result, Ok, Err, refl, sym, ap, ◌∙◌, append_assoc}
use Rattle.std.specs.Prelude.{codes}
use Rattle.std.proofs.lemmas.Bool.{cond-true, cond-false}
use Rattle.std.proofs.lemmas.List.{append-nil}
use Rattle.sand_base.specs.declared.kind.Kind.{Kind}
use Rattle.sand_base.specs.declared.point.Point.{Point}
use Rattle.sand_base.specs.declared.value.Value.{Value}
use Rattle.statements.specs.declared.column.Place.{Place}
use Rattle.statements.specs.declared.test.Test.{Test}
use Rattle.script_text.specs.declared.token.Symbol.TheVariants.{Open, Comma}
use Rattle.script_text.specs.Accepting.{IsTokenTaken}
use Rattle.script_text.specs.Form.{Class, a_word, a_mark, head_fits, rule, more_columns, more_values, more_spots, more_tests, more_places}
use Rattle.script_text.specs.Grammar.{reading}
use Rattle.script_text.specs.Lexical.{Placed}
use Rattle.script_text.specs.Reading.{TokenState, Read, pure, bind, go_on, take_in, gone_on}
use Rattle.script_text.specs.Rules.{field_form, columns_form, value_form, values_form, spot_rest, spot_form, spots_form, test_form, tests_form, place_form, places_form}
use Rattle.script_text.proofs.Depth.{rule-body}

-- an item and the rest of a list
abbrev item_rest : {A : Type 0} → Read A → Read (List A) → Read (List A)
item_rest item more s = bind item (λ x. bind more (λ xs. pure (x ∷ xs))) s

-- the rest of a list: after a token of the class a list, or nothing
abbrev rest_after : {A : Type 0} → Class → Read (List A) → Read (List A)
rest_after c whole s = cond (head_fits c s.left) (bind (take_in c (λ v. v)) (λ v. bind whole (λ xs. pure xs)) s) (Ok ([], s))

-- the items that are there, before what is read
abbrev behind : {A : Type 0} → List A → Result (List A × TokenState) (List Placed) → Result (List A × TokenState) (List Placed)
behind xs r = go_on r (λ ys. pure (xs ++ ys))

-- values behind one more item
behind-one : {A : Type 0} (xs : List A) (x : A) (r : Result (List A × TokenState) (List Placed))
    → behind xs (go_on r (λ ys. pure (x ∷ ys))) ≡ behind (xs ++ x ∷ []) r
behind-one xs x (Err bad) = refl
behind-one xs x (Ok y) = ap (λ zs. Ok (zs, y.1)) (sym (append_assoc xs (x ∷ []) y.0))

-- what is given is given
pub gives-same : {A : Type 0} (r : Result (A × TokenState) (List Placed)) → go_on r (λ x. pure x) ≡ r
gives-same (Err bad) = refl
gives-same (Ok y) = refl

-- nothing stands before a list that begins
pub list-start : {A : Type 0} (whole : Read (List A)) (s : TokenState) → gone_on [] whole s ≡ whole s
list-start whole s = gives-same (whole s)

-- a list that is read as an item and the rest
module _ {A : Type 0} (item : Read A) (more whole : Read (List A)) (front : (s : TokenState) → whole s ≡ item_rest item more s) where
  -- an item that is read stands behind those that are there
  list-item : (xs : List A) (s t : TokenState) (x : A) → item s ≡ Ok (x, t) → gone_on xs whole s ≡ behind (xs ++ x ∷ []) (more t)
  list-item xs s t x e = ap (behind xs) (front s ∙ ap (λ r. go_on r (λ x. bind more (λ ys. pure (x ∷ ys)))) e) ∙ behind-one xs x (more t)

  -- it is the last one where no rest comes
  list-end : (xs : List A) (s t : TokenState) (x : A) → item s ≡ Ok (x, t) → more t ≡ Ok ([], t) → gone_on xs whole s ≡ Ok (xs ++ x ∷ [], t)
  list-end xs s t x e none =
      list-item xs s t x e ∙ ap (behind (xs ++ x ∷ [])) none ∙ ap (λ ys. Ok (ys, t)) (append-nil (xs ++ x ∷ []))

  -- and else a list goes on behind it
  list-step : (xs : List A) (s t u : TokenState) (x : A) → item s ≡ Ok (x, t) → more t ≡ whole u → gone_on (xs ++ x ∷ []) whole u ≡ gone_on xs whole s
  list-step xs s t u x e on = sym (list-item xs s t x e ∙ ap (behind (xs ++ x ∷ [])) on)

  -- no item is read
  list-stuck : (xs : List A) (s : TokenState) (bad : List Placed) → item s ≡ Err bad → gone_on xs whole s ≡ Err bad
  list-stuck xs s bad e = ap (behind xs) (front s ∙ ap (λ r. go_on r (λ x. bind more (λ ys. pure (x ∷ ys)))) e)

-- a rest that comes after a token of a class
module _ {A : Type 0} (c : Class) (more whole : Read (List A)) (rest : (s : TokenState) → more s ≡ rest_after c whole s) where
  -- another token stands there
  rest-none : (t : TokenState) → head_fits c t.left ≡ false → more t ≡ Ok ([], t)
  rest-none t h = rest t ∙ cond-false (head_fits c t.left) _ _ h

  -- it is taken
  rest-more : (t u : TokenState) → IsTokenTaken c t u → more t ≡ whole u
  rest-more t u is =
      rest t ∙ cond-true (head_fits c t.left) _ _ is.fits ∙ ap (λ r. go_on r (λ v. bind whole (λ xs. pure xs))) is.taken ∙ gives-same (whole u)

-- columns
columns_rest : (t : TokenState) → reading (rule more_columns) t ≡ rest_after (a_mark Comma) (reading columns_form) t
columns_rest t = rule-body more_columns t

pub columns_end : (xs : List (List ℕ × Kind)) (s t : TokenState) (x : (List ℕ × Kind)) → reading field_form s ≡ Ok (x, t) → head_fits (a_mark Comma) t.left ≡ false
    → gone_on xs (reading columns_form) s ≡ Ok (xs ++ x ∷ [], t)
columns_end xs s t x e h = list-end (reading field_form) (reading (rule more_columns)) (reading columns_form) (λ s. refl) xs s t x e
    (rest-none (a_mark Comma) (reading (rule more_columns)) (reading columns_form) columns_rest t h)

pub columns_step : (xs : List (List ℕ × Kind)) (s t u : TokenState) (x : (List ℕ × Kind)) → reading field_form s ≡ Ok (x, t) → IsTokenTaken (a_mark Comma) t u
    → gone_on (xs ++ x ∷ []) (reading columns_form) u ≡ gone_on xs (reading columns_form) s
columns_step xs s t u x e is = list-step (reading field_form) (reading (rule more_columns)) (reading columns_form) (λ s. refl) xs s t u x e
    (rest-more (a_mark Comma) (reading (rule more_columns)) (reading columns_form) columns_rest t u is)

pub columns_stuck : (xs : List (List ℕ × Kind)) (s : TokenState) (bad : List Placed) → reading field_form s ≡ Err bad → gone_on xs (reading columns_form) s ≡ Err bad
columns_stuck = list-stuck (reading field_form) (reading (rule more_columns)) (reading columns_form) (λ s. refl)

-- values
values_rest : (t : TokenState) → reading (rule more_values) t ≡ rest_after (a_mark Comma) (reading values_form) t
values_rest t = rule-body more_values t

pub values_end : (xs : List Value) (s t : TokenState) (x : Value) → reading value_form s ≡ Ok (x, t) → head_fits (a_mark Comma) t.left ≡ false
    → gone_on xs (reading values_form) s ≡ Ok (xs ++ x ∷ [], t)
values_end xs s t x e h = list-end (reading value_form) (reading (rule more_values)) (reading values_form) (λ s. refl) xs s t x e
    (rest-none (a_mark Comma) (reading (rule more_values)) (reading values_form) values_rest t h)

pub values_step : (xs : List Value) (s t u : TokenState) (x : Value) → reading value_form s ≡ Ok (x, t) → IsTokenTaken (a_mark Comma) t u
    → gone_on (xs ++ x ∷ []) (reading values_form) u ≡ gone_on xs (reading values_form) s
values_step xs s t u x e is = list-step (reading value_form) (reading (rule more_values)) (reading values_form) (λ s. refl) xs s t u x e
    (rest-more (a_mark Comma) (reading (rule more_values)) (reading values_form) values_rest t u is)

pub values_stuck : (xs : List Value) (s : TokenState) (bad : List Placed) → reading value_form s ≡ Err bad → gone_on xs (reading values_form) s ≡ Err bad
values_stuck = list-stuck (reading value_form) (reading (rule more_values)) (reading values_form) (λ s. refl)

-- tests
tests_rest : (t : TokenState) → reading (rule more_tests) t ≡ rest_after (a_word (codes "and")) (reading tests_form) t
tests_rest t = rule-body more_tests t

pub tests_end : (xs : List Test) (s t : TokenState) (x : Test) → reading test_form s ≡ Ok (x, t) → head_fits (a_word (codes "and")) t.left ≡ false
    → gone_on xs (reading tests_form) s ≡ Ok (xs ++ x ∷ [], t)
tests_end xs s t x e h = list-end (reading test_form) (reading (rule more_tests)) (reading tests_form) (λ s. refl) xs s t x e
    (rest-none (a_word (codes "and")) (reading (rule more_tests)) (reading tests_form) tests_rest t h)

pub tests_step : (xs : List Test) (s t u : TokenState) (x : Test) → reading test_form s ≡ Ok (x, t) → IsTokenTaken (a_word (codes "and")) t u
    → gone_on (xs ++ x ∷ []) (reading tests_form) u ≡ gone_on xs (reading tests_form) s
tests_step xs s t u x e is = list-step (reading test_form) (reading (rule more_tests)) (reading tests_form) (λ s. refl) xs s t u x e
    (rest-more (a_word (codes "and")) (reading (rule more_tests)) (reading tests_form) tests_rest t u is)

pub tests_stuck : (xs : List Test) (s : TokenState) (bad : List Placed) → reading test_form s ≡ Err bad → gone_on xs (reading tests_form) s ≡ Err bad
tests_stuck = list-stuck (reading test_form) (reading (rule more_tests)) (reading tests_form) (λ s. refl)

-- places
places_rest : (t : TokenState) → reading (rule more_places) t ≡ rest_after (a_mark Comma) (reading places_form) t
places_rest t = rule-body more_places t

pub places_end : (xs : List Place) (s t : TokenState) (x : Place) → reading place_form s ≡ Ok (x, t) → head_fits (a_mark Comma) t.left ≡ false
    → gone_on xs (reading places_form) s ≡ Ok (xs ++ x ∷ [], t)
places_end xs s t x e h = list-end (reading place_form) (reading (rule more_places)) (reading places_form) (λ s. refl) xs s t x e
    (rest-none (a_mark Comma) (reading (rule more_places)) (reading places_form) places_rest t h)

pub places_step : (xs : List Place) (s t u : TokenState) (x : Place) → reading place_form s ≡ Ok (x, t) → IsTokenTaken (a_mark Comma) t u
    → gone_on (xs ++ x ∷ []) (reading places_form) u ≡ gone_on xs (reading places_form) s
places_step xs s t u x e is = list-step (reading place_form) (reading (rule more_places)) (reading places_form) (λ s. refl) xs s t u x e
    (rest-more (a_mark Comma) (reading (rule more_places)) (reading places_form) places_rest t u is)

pub places_stuck : (xs : List Place) (s : TokenState) (bad : List Placed) → reading place_form s ≡ Err bad → gone_on xs (reading places_form) s ≡ Err bad
places_stuck = list-stuck (reading place_form) (reading (rule more_places)) (reading places_form) (λ s. refl)

-- a token, and then an item and the rest, are an item with its token and the rest
regroup : {A : Type 0} (item : Read A) (more : Read (List A)) (r : Result (A × TokenState) (List Placed))
    → go_on (go_on r (λ x. bind more (λ xs. pure (x ∷ xs)))) (λ xs. pure xs) ≡ go_on (go_on r (λ x. pure x)) (λ x. bind more (λ xs. pure (x ∷ xs)))
regroup item more (Err bad) = refl
regroup item more (Ok y) = gives-same (go_on (more y.1) (λ xs. pure (y.0 ∷ xs)))

-- the bracket of a spot is a token of the spot itself
bracket : {A : Type 0} (item : Read A) (more : Read (List A)) (r : Result (Unit {0} × TokenState) (List Placed))
    → go_on r (λ u. bind (item_rest item more) (λ xs. pure xs)) ≡ go_on (go_on r (λ u. bind item (λ x. pure x))) (λ x. bind more (λ xs. pure (x ∷ xs)))
bracket item more (Err bad) = refl
bracket item more (Ok y) = regroup item more (item y.1)

-- spots
spots_rest : (t : TokenState) → reading (rule more_spots) t ≡ cond (head_fits (a_mark Open) t.left) (reading spots_form t) (Ok ([], t))
spots_rest t =
    rule-body more_spots t
    ∙ ap (λ r. cond (head_fits (a_mark Open) t.left) r (Ok ([], t))) (bracket (reading spot_rest) (reading (rule more_spots)) (take_in (a_mark Open) (λ v. v) t))

pub spots_end : (xs : List Point) (s t : TokenState) (x : Point) → reading spot_form s ≡ Ok (x, t) → head_fits (a_mark Open) t.left ≡ false → gone_on xs (reading spots_form) s ≡ Ok (xs ++ x ∷ [], t)
spots_end xs s t x e h =
    list-end (reading spot_form) (reading (rule more_spots)) (reading spots_form) (λ s. refl) xs s t x e (spots_rest t ∙ cond-false (head_fits (a_mark Open) t.left) _ _ h)

pub spots_step : (xs : List Point) (s t : TokenState) (x : Point) → reading spot_form s ≡ Ok (x, t) → head_fits (a_mark Open) t.left ≡ true
    → gone_on (xs ++ x ∷ []) (reading spots_form) t ≡ gone_on xs (reading spots_form) s
spots_step xs s t x e h =
    list-step (reading spot_form) (reading (rule more_spots)) (reading spots_form) (λ s. refl) xs s t t x e (spots_rest t ∙ cond-true (head_fits (a_mark Open) t.left) _ _ h)

pub spots_stuck : (xs : List Point) (s : TokenState) (bad : List Placed) → reading spot_form s ≡ Err bad → gone_on xs (reading spots_form) s ≡ Err bad
spots_stuck = list-stuck (reading spot_form) (reading (rule more_spots)) (reading spots_form) (λ s. refl)

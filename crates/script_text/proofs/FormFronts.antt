-- The fronts of what is read, and results that go on or stop.
use Rattle.std.proofs.Common.{◌≡◌, Bool, true, false, ◌&&◌, List, [], ◌∷◌, ◌++◌, length, Some, Result, Ok, Err, refl, sym, ap, subst, inl, inr, arith}
use Rattle.std.specs.Prelude.{◌⊎◌, pos, nat_le}
use Rattle.std.proofs.lemmas.Bool.{and_parts, and_from, false≢true, leb-true}
use Rattle.script_text.specs.Form.{Class, a_word, a_name, a_natural, an_int, a_text, a_mark, Got, got, where_true, fits, head_fits}
use Rattle.script_text.specs.Lexical.{Placed, ArePieces}
use Rattle.script_text.specs.Reading.{TokenState, at, Read, go_on}
use Rattle.script_text.specs.Number.{natural, or_zero}
use Rattle.script_text.specs.Text.{IsTextInside, content}
use Rattle.script_text.specs.Token.{Piece, name, number, text, mark, symbol_text, IsPiece}
use Rattle.script_text.proofs.Predictive.{if_so, has_token, all_apart, apart_from, Front, Stops}
use Rattle.script_text.proofs.Predictive.{apart-stops, fits-left, fits-right, same-bytes}

-- Both begin with the same token, or none is there in either.
abbrev pub IsSameFront : List Placed → List Placed → Type 0
IsSameFront [] more = more ≡ []
IsSameFront (p ∷ rest) more = (tail : List Placed) × (more ≡ p ∷ tail)

-- The tokens that a step took, which write its value. It takes them before every rest that begins as this one.
pub record IsTaken {A : Type 0} (step : Read A) (Says : A → Bool → List Placed → Type 0) (s : TokenState) (y : A × TokenState) : Type 0 where
  pub used : List Placed
  pub flag : Bool
  pub split : s.left ≡ used ++ y.1.left
  pub ranged : y.1.in_range ≡ (flag && s.in_range)
  pub says : Says y.0 flag used
  pub takes : (more : List Placed) (before : Bool) → IsSameFront y.1.left more → step (at (used ++ more) before) ≡ Ok (y.0, at more (flag && before))

-- some tokens that write a value
pub record Example {A : Type 0} (Says : A → Bool → List Placed → Type 0) : Type 0 where
  pub tokens : List Placed
  pub are : ArePieces tokens
  pub value : A
  pub flag : Bool
  pub says : Says value flag tokens

-- The step is stuck at the first of the bad tokens, whatever follows it; and with others in their place a value is written.
pub record IsStuck {A : Type 0} (step : Read A) (Says : A → Bool → List Placed → Type 0) (s : TokenState) (bad : List Placed) : Type 0 where
  pub good : List Placed
  pub split : s.left ≡ good ++ bad
  pub again : (p : Placed) (rest more : List Placed) (before : Bool) → bad ≡ p ∷ rest → step (at (good ++ p ∷ more) before) ≡ Err (p ∷ more)
  pub other : List Placed
  pub are : ArePieces other
  pub value : A
  pub flag : Bool
  pub says : Says value flag (good ++ other)

-- tokens of the language in two parts
pub are-append : (u v : List Placed) → ArePieces u → ArePieces v → ArePieces (u ++ v)
are-append [] v h k = k
are-append (p ∷ u) v h k = (h.0, are-append u v h.1 k)

-- flags go together in either order of brackets
pub flags : (c b f : Bool) → ((c && b) && f) ≡ (c && (b && f))
flags true b f = refl
flags false b f = refl

-- what begins as the rest begins as it with the same tokens in front
pub front-behind : (used rest more : List Placed) → IsSameFront rest more → IsSameFront (used ++ rest) (used ++ more)
front-behind [] rest more h = h
front-behind (p ∷ used) rest more h = (used ++ more, refl)

-- the first token decides alike before either rest
pub head-same : (c : Class) (used rest more : List Placed) → IsSameFront rest more → head_fits c (used ++ more) ≡ head_fits c (used ++ rest)
head-same c (p ∷ used) rest more h = refl
head-same c [] [] more h = ap (head_fits c) h
head-same c [] (p ∷ rest) more h = ap (head_fits c) h.1

-- where two steps give something, the first one does, and then the second
pub both-gave : {A B : Type 0} (r : Result (A × TokenState) (List Placed)) (next : A → Read B) (z : B × TokenState) → go_on r next ≡ Ok z
    → (y : A × TokenState) × (r ≡ Ok y) × (next y.0 y.1 ≡ Ok z)
both-gave (Err bad) next z e = absurd cc
both-gave (Ok y) next z e = (y, refl, e)

-- where two steps are stuck, the first one is, or it gives something and the second is
pub either-stuck : {A B : Type 0} (r : Result (A × TokenState) (List Placed)) (next : A → Read B) (bad : List Placed) → go_on r next ≡ Err bad
    → (r ≡ Err bad) ⊎ ((y : A × TokenState) × (r ≡ Ok y) × (next y.0 y.1 ≡ Err bad))
either-stuck {A} {B} (Err left) next bad e = let same : left ≡ bad = cc in inl (ap (λ b. Err b) same)
either-stuck {A} {B} (Ok y) next bad e = inr (y, refl, e)

-- values that are given are the same
pub ok-same : {A : Type 0} (x y : A × TokenState) → ◌≡◌ {A = Result (A × TokenState) (List Placed)} (Ok x) (Ok y) → x ≡ y
ok-same x y e = cc

-- something given is no fault
pub ok-not-err : {A : Type 0} (x : A × TokenState) (bad : List Placed) → Ok x ≡ Err bad → ⊥
ok-not-err x bad e = cc

-- bad tokens that are left are the same
pub err-same : {A : Type 0} (x y : List Placed) → ◌≡◌ {A = Result (A × TokenState) (List Placed)} (Err x) (Err y) → x ≡ y
err-same x y e = cc

-- the first tokens of a list are the same
pub head-is : (p q : Placed) (ps qs : List Placed) → p ∷ ps ≡ q ∷ qs → p ≡ q
head-is p q ps qs e = cc

-- a token of the class
pub token-example : (c : Class) → has_token c ≡ true → (p : Piece) × IsPiece p × (raw : Got c) × (flag : Bool) × (got c p ≡ Some (raw, flag))
unfolding IsTextInside
token-example (a_word w) h =
    let two = and_parts _ _ h in
    (name w, record { spelled = two.0; short = leb-true _ _ two.1 }, tt, true, ap where_true (same-bytes w w refl))
token-example a_name h = (name (97 ∷ []), record { spelled = refl; short = omega arith }, 97 ∷ [], true, refl)
token-example (a_natural l m) h = (number (48 ∷ []), refl, (or_zero 0 (natural l m (48 ∷ []))).0, (or_zero 0 (natural l m (48 ∷ []))).1, refl)
token-example an_int h = (number (48 ∷ []), refl, pos 0, true, refl)
token-example a_text h = (text [], refl, content [], nat_le (length (content [])) 255, refl)
token-example (a_mark s) h = (mark s, tt, tt, true, ap where_true (same-bytes (symbol_text s) (symbol_text s) refl))

-- a token of the class comes first
pub front-left : (c : Class) (cs : List Class) (null : Bool) (ts : List Placed) (t : Placed) (after : List Placed) → ts ≡ t ∷ after → fits c t ≡ true → Front null (c ∷ cs) ts
front-left c cs null ts t after e h = subst (Front null (c ∷ cs)) (sym e) (inl h)

-- or one of another
pub front-later : (c : Class) (cs : List Class) (null : Bool) (ts : List Placed) → Front null cs ts → Front null (c ∷ cs) ts
front-later c cs null [] h = h
front-later c cs null (t ∷ ts) h = inr h

-- what two forms begin with
pub front-both : (m n : Bool) (cs ds : List Class) (here after : List Placed) → Front m cs here → Front n ds after → Front (m && n) (cs ++ if_so m ds) (here ++ after)
front-both m n cs ds (t ∷ here) after h k = fits-left cs (if_so m ds) t h
front-both true n cs ds [] [] h k = k
front-both true n cs ds [] (t ∷ after) h k = fits-right cs ds t k
front-both false n cs ds [] after h k = absurd (false≢true h)

-- a class that is apart from what a form begins with comes not first
pub head-apart : (c : Class) (cs : List Class) (null : Bool) (ts more : List Placed) → apart_from c cs ≡ true → Front null cs ts → Stops (if_so null (c ∷ [])) more → head_fits c (ts ++ more) ≡ false
head-apart c cs null (t ∷ ts) more a h k = (apart-stops (c ∷ []) cs t [] (and_from (apart_from c cs) true a refl) h).0
head-apart c cs true [] more a h k = k.0
head-apart c cs false [] more a h k = absurd (false≢true h)

-- what goes on a form is stopped by the next one
pub stops-seam : (cs ds : List Class) (null : Bool) (after more : List Placed) → all_apart cs ds ≡ true → Front null ds after → Stops (if_so null cs) more → Stops cs (after ++ more)
stops-seam cs ds null (t ∷ after) more a h k = apart-stops cs ds t (after ++ more) a h
stops-seam cs ds true [] more a h k = k
stops-seam cs ds false [] more a h k = absurd (false≢true h)

-- Which tokens may come first in a form, which go on where it could end, and whether one token in hand decides it.
use Rattle.std.proofs.Common.{◌≡◌, ℕ, Bool, true, false, not, ◌&&◌, ◌||◌, eqb, leb, List, [], ◌∷◌, ◌++◌, length, refl, sym, ap, ◌∙◌}
use Rattle.std.specs.Prelude.{⊤, ◌⊎◌, codes, is_some}
use Rattle.std.proofs.lemmas.Bool.{and_parts, false≢true, eq-eqb}
use Rattle.std.proofs.lemmas.Slice.Eq.{bytes_eq-Decides}
use Rattle.std.proofs.Common.{inl, inr}
use Rattle.std.specs.Str.{bytes_eq}
use Rattle.script_text.specs.declared.token.Symbol.TheVariants as symbol
use Rattle.script_text.specs.Form.{Class, a_word, a_name, a_natural, an_int, a_text, a_mark, fits, got, head_fits, where_true, Rule, a_plan, more_values, more_spots}
use Rattle.script_text.specs.Form.{more_tests, Form, nothing, take, alt, seq, checked, rule}
use Rattle.script_text.specs.Lexical.{Placed}
use Rattle.script_text.specs.Name.{is_name}
use Rattle.script_text.specs.Token.{Piece, name, number, text, mark, symbol_text}

-- the kinds of tokens
abbrev class_sort : Class → ℕ
class_sort (a_word w) = 0
class_sort a_name = 0
class_sort (a_natural l m) = 1
class_sort an_int = 1
class_sort a_text = 2
class_sort (a_mark s) = 3

abbrev piece_sort : Piece → ℕ
piece_sort (name b) = 0
piece_sort (number b) = 1
piece_sort (text b) = 2
piece_sort (mark s) = 3

-- two words or two symbols differ
abbrev differs : Class → Class → Bool
differs (a_word v) (a_word w) = not (bytes_eq v w)
differs (a_mark s) (a_mark t) = not (bytes_eq (symbol_text s) (symbol_text t))
differs _ _ = false

-- no token is of both classes
abbrev pub is_apart : Class → Class → Bool
is_apart c d = not (eqb (class_sort c) (class_sort d)) || differs c d

-- none of these is of a class
abbrev pub apart_from : Class → List Class → Bool
apart_from c [] = true
apart_from c (d ∷ ds) = is_apart c d && apart_from c ds

abbrev pub all_apart : List Class → List Class → Bool
all_apart [] ds = true
all_apart (c ∷ cs) ds = apart_from c ds && all_apart cs ds

-- what the rules begin with, whether they may be empty, and what goes on where they could end
abbrev pub null_of : Rule → Bool
null_of a_plan = false
null_of _ = true

abbrev pub firsts_of : Rule → List Class
firsts_of a_plan = a_word (codes "scan") ∷ a_word (codes "rank") ∷ a_word (codes "window") ∷ a_word (codes "pick") ∷ a_word (codes "join") ∷ a_word (codes "semi")
    ∷ a_word (codes "knn") ∷ a_word (codes "near") ∷ a_word (codes "filter") ∷ a_word (codes "match") ∷ a_word (codes "fetch") ∷ a_word (codes "first") ∷ a_word (codes "sort") ∷ []
firsts_of more_spots = a_mark symbol.Open ∷ []
firsts_of more_tests = a_word (codes "and") ∷ []
firsts_of _ = a_mark symbol.Comma ∷ []

abbrev pub goes_of : Rule → List Class
goes_of a_plan = a_word (codes "within") ∷ a_mark symbol.Minus ∷ a_word (codes "and") ∷ a_mark symbol.Comma ∷ []
goes_of more_values = a_mark symbol.Comma ∷ a_mark symbol.Minus ∷ []
goes_of more_spots = a_mark symbol.Open ∷ []
goes_of more_tests = a_word (codes "and") ∷ []
goes_of _ = a_mark symbol.Comma ∷ []

-- the form may be written with no token
abbrev pub may_end : {A : Type 0} → Form A → Bool
may_end (nothing y) = true
may_end (take c value) = false
may_end (alt c join f g) = may_end g
may_end (seq join f g) = may_end f && may_end g
may_end (checked test f) = may_end f
may_end (rule r) = null_of r

-- these where the test holds, else none
abbrev pub if_so : Bool → List Class → List Class
if_so true cs = cs
if_so false cs = []

-- what may come first
abbrev pub firsts : {A : Type 0} → Form A → List Class
firsts (nothing y) = []
firsts (take c value) = c ∷ []
firsts (alt c join f g) = c ∷ firsts g
firsts (seq join f g) = firsts f ++ if_so (may_end f) (firsts g)
firsts (checked test f) = firsts f
firsts (rule r) = firsts_of r

-- what goes on where the form could end
abbrev pub goes : {A : Type 0} → Form A → List Class
goes (nothing y) = []
goes (take c value) = []
goes (alt c join f g) = goes f ++ (goes g ++ if_so (may_end g) (c ∷ []))
goes (seq join f g) = goes g ++ if_so (may_end g) (goes f)
goes (checked test f) = goes f
goes (rule r) = goes_of r

-- the class has a token: a fixed word is a name
abbrev pub has_token : Class → Bool
has_token (a_word w) = is_name w && leb (length w) 32
has_token _ = true

-- one token in hand decides the form
abbrev pub is_decided : {A : Type 0} → Form A → Bool
is_decided (nothing y) = true
is_decided (take c value) = has_token c
is_decided (alt c join f g) = has_token c && (is_decided f && (is_decided g && apart_from c (firsts g)))
is_decided (seq join f g) = is_decided f && (is_decided g && all_apart (goes f) (firsts g))
is_decided (checked test f) = is_decided f
is_decided (rule r) = true

-- a token stands before each rule that the form names
abbrev pub is_guarded : {A : Type 0} → Form A → Bool
is_guarded (nothing y) = true
is_guarded (take c value) = true
is_guarded (alt c join f g) = is_guarded g
is_guarded (seq join f g) = is_guarded f && not (may_end f)
is_guarded (checked test f) = is_guarded f
is_guarded (rule r) = false

-- the first token is of one of the classes
abbrev pub FitsAny : List Class → Placed → Type 0
FitsAny [] t = ⊥
FitsAny (c ∷ cs) t = (fits c t ≡ true) ⊎ FitsAny cs t

-- there is no token, which may be, or the first is of one of the classes
abbrev pub Front : Bool → List Class → List Placed → Type 0
Front null cs [] = null ≡ true
Front null cs (t ∷ tokens) = FitsAny cs t

-- the next token is of none of the classes
abbrev pub Stops : List Class → List Placed → Type 0
Stops [] more = ⊤
Stops (c ∷ cs) more = (head_fits c more ≡ false) × Stops cs more

-- texts that are found equal are the same
pub bytes-same : (xs ys : List ℕ) → bytes_eq xs ys ≡ true → xs ≡ ys
bytes-same xs ys = (bytes_eq-Decides xs ys).0

-- the same text is found equal
pub same-bytes : (xs ys : List ℕ) → xs ≡ ys → bytes_eq xs ys ≡ true
same-bytes xs ys = (bytes_eq-Decides xs ys).1

-- one of two tests that holds
either-true : (x y : Bool) → (x || y) ≡ true → (x ≡ true) ⊎ (y ≡ true)
either-true true y h = inl refl
either-true false y h = inr h

-- something is there only where the test holds
where-sort : (t : Bool) → is_some (where_true t) ≡ true → t ≡ true
where-sort true h = refl
where-sort false h = absurd (false≢true h)

-- a token that fits is of the class's sort
fits-sort : (c : Class) (p : Piece) → is_some (got c p) ≡ true → class_sort c ≡ piece_sort p
fits-sort (a_word w) (name b) h = refl
fits-sort (a_word w) (number b) h = absurd (false≢true h)
fits-sort (a_word w) (text b) h = absurd (false≢true h)
fits-sort (a_word w) (mark s) h = absurd (false≢true h)
fits-sort a_name (name b) h = refl
fits-sort a_name (number b) h = absurd (false≢true h)
fits-sort a_name (text b) h = absurd (false≢true h)
fits-sort a_name (mark s) h = absurd (false≢true h)
fits-sort (a_natural l m) (number b) h = refl
fits-sort (a_natural l m) (name b) h = absurd (false≢true h)
fits-sort (a_natural l m) (text b) h = absurd (false≢true h)
fits-sort (a_natural l m) (mark s) h = absurd (false≢true h)
fits-sort an_int (number b) h = refl
fits-sort an_int (name b) h = absurd (false≢true h)
fits-sort an_int (text b) h = absurd (false≢true h)
fits-sort an_int (mark s) h = absurd (false≢true h)
fits-sort a_text (text b) h = refl
fits-sort a_text (name b) h = absurd (false≢true h)
fits-sort a_text (number b) h = absurd (false≢true h)
fits-sort a_text (mark s) h = absurd (false≢true h)
fits-sort (a_mark t) (mark s) h = refl
fits-sort (a_mark t) (name b) h = absurd (false≢true h)
fits-sort (a_mark t) (number b) h = absurd (false≢true h)
fits-sort (a_mark t) (text b) h = absurd (false≢true h)

-- a truth value that isn't true is false
not-true : (b : Bool) → (b ≡ true → ⊥) → b ≡ false
not-true true h = absurd (h refl)
not-true false h = refl

not-false : (b : Bool) → not b ≡ true → b ≡ true → ⊥
not-false true h k = false≢true h
not-false false h k = false≢true k

-- bytes that are equal to both are of both
both-same : (a v w : List ℕ) → bytes_eq a v ≡ true → bytes_eq a w ≡ true → bytes_eq v w ≡ true
both-same a v w h k = ap (λ x. bytes_eq x w) (sym (bytes-same a v h)) ∙ k

-- words and symbols that differ have no token in common
differs-fits : (c d : Class) (p : Piece) → differs c d ≡ true → is_some (got d p) ≡ true → is_some (got c p) ≡ true → ⊥
differs-fits (a_word v) (a_word w) (name b) h k l = not-false (bytes_eq v w) h (both-same b v w (where-sort (bytes_eq b v) l) (where-sort (bytes_eq b w) k))
differs-fits (a_word v) (a_word w) (number b) h k l = false≢true k
differs-fits (a_word v) (a_word w) (text b) h k l = false≢true k
differs-fits (a_word v) (a_word w) (mark s) h k l = false≢true k
differs-fits (a_mark s) (a_mark t) (mark u) h k l =
    not-false (bytes_eq (symbol_text s) (symbol_text t)) h
    (both-same (symbol_text u) (symbol_text s) (symbol_text t) (where-sort (bytes_eq (symbol_text u) (symbol_text s)) l) (where-sort (bytes_eq (symbol_text u) (symbol_text t)) k))
differs-fits (a_mark s) (a_mark t) (name b) h k l = false≢true k
differs-fits (a_mark s) (a_mark t) (number b) h k l = false≢true k
differs-fits (a_mark s) (a_mark t) (text b) h k l = false≢true k
differs-fits _ _ p h k l = false≢true h

-- a token of one class is of none that is apart from it
apart-fits : (c d : Class) (t : Placed) → is_apart c d ≡ true → fits d t ≡ true → fits c t ≡ false
apart-fits c d t h k =
    not-true (fits c t) (λ l. elim (either-true (not (eqb (class_sort c) (class_sort d))) (differs c d) h) [
      | inl other ↦ not-false (eqb (class_sort c) (class_sort d)) other (eq-eqb _ _ (fits-sort c t.piece l ∙ sym (fits-sort d t.piece k)))
      | inr other ↦ differs-fits c d t.piece other k l
    ])

-- and so of a list
apart_from-fits : (c : Class) (ds : List Class) (t : Placed) → apart_from c ds ≡ true → FitsAny ds t → fits c t ≡ false
apart_from-fits c [] t h k = absurd k
apart_from-fits c (d ∷ ds) t h k =
    let two = and_parts (is_apart c d) (apart_from c ds) h in
    elim k [ inl one ↦ apart-fits c d t two.0 one | inr later ↦ apart_from-fits c ds t two.1 later ]

-- a token of one of these classes stops all that are apart from them
pub apart-stops : (cs ds : List Class) (t : Placed) (more : List Placed) → all_apart cs ds ≡ true → FitsAny ds t → Stops cs (t ∷ more)
apart-stops [] ds t more h k = tt
apart-stops (c ∷ cs) ds t more h k =
    let two = and_parts (apart_from c ds) (all_apart cs ds) h in
    (apart_from-fits c ds t two.0 k, apart-stops cs ds t more two.1 k)

-- what stops both lists stops each
pub stops-parts : (cs ds : List Class) (more : List Placed) → Stops (cs ++ ds) more → Stops cs more × Stops ds more
stops-parts [] ds more h = (tt, h)
stops-parts (c ∷ cs) ds more h = let rest = stops-parts cs ds more h.1 in ((h.0, rest.0), rest.1)

-- a token of one of two lists
pub fits-left : (cs ds : List Class) (t : Placed) → FitsAny cs t → FitsAny (cs ++ ds) t
fits-left [] ds t h = absurd h
fits-left (c ∷ cs) ds t h = elim h [ inl one ↦ inl one | inr later ↦ inr (fits-left cs ds t later) ]

pub fits-right : (cs ds : List Class) (t : Placed) → FitsAny ds t → FitsAny (cs ++ ds) t
fits-right [] ds t h = h
fits-right (c ∷ cs) ds t h = inr (fits-right cs ds t h)

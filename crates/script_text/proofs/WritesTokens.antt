-- The words of one token, and of forms that join them, write what they say.
use Rattle.std.proofs.Common.{◌≡◌, ℕ, ◌-◌, ◌<◌, ◌≤◌, ◌^◌, Bool, true, false, ◌&&◌, leb, List, [], ◌∷◌, ◌++◌, length, Some, refl, sym, ap, subst, ◌∙◌, inl, inr, arith}
use Rattle.std.specs.Prelude.{ℤ, pos, ⊤}
use Rattle.std.specs.Fmt.{decimal, signed_decimal}
use Rattle.std.proofs.lemmas.Bool.{and_parts, and_from, le-leb, leb-true, false≢true}
use Rattle.std.proofs.lemmas.Slice.Eq.{bytes_eq-Decides}
use Rattle.sand_base.specs.declared.TheConstants.{COORDINATE_BITS}
use Rattle.sand_base.specs.InRange.{IsIntInRange, IsTextInRange}
use Rattle.script_text.specs.declared.TheConstants.{LONGEST_NAME, MOST_ROWS}
use Rattle.script_text.specs.declared.token.Symbol.{Symbol}
use Rattle.script_text.specs.declared.token.Symbol.TheVariants.{Open, Close, Comma, Dot, Minus, Equal, NotEqual, Less, AtMost, Greater, AtLeast}
use Rattle.script_text.specs.Form.{Class, where_true, a_word, a_name, a_natural, an_int, a_text, a_mark, Got, got, Rule, RuleValue}
use Rattle.script_text.specs.Form.{Form, nothing, take, alt, seq, checked, rule, IsOne, Spells}
use Rattle.script_text.specs.Grammar.{spelled}
use Rattle.script_text.specs.InRange.{IsCountInRange}
use Rattle.script_text.specs.Lexical.{Placed}
use Rattle.script_text.specs.Name.{is_name, IsName}
use Rattle.script_text.specs.Number.{or_zero}
use Rattle.script_text.specs.Rules.{word, sign, after_word, after_sign, before_sign, case_word, case_sign, told_form, name_form, natural_form, coordinate_form}
use Rattle.script_text.specs.Rules.{body}
use Rattle.script_text.specs.Text.{doubled}
use Rattle.script_text.specs.Token.{Piece, name, number, text, mark, IsPiece}
use Rattle.script_text.proofs.Depth.{fold}
use Rattle.script_text.proofs.PrintedNumbers.{number-decimal, natural-decimal, number-int, int-int}
use Rattle.script_text.proofs.PrintedTexts.{inside-doubled, content-doubled}

-- each is a piece of the language
abbrev pub ArePieceWords : List Piece → Type 0
ArePieceWords [] = ⊤
ArePieceWords (w ∷ ws) = IsPiece w × ArePieceWords ws

-- a bracket comes first
abbrev pub begins_open : List Piece → Bool
begins_open (mark Open ∷ ws) = true
begins_open _ = false

-- after each `-` comes a bracket
abbrev pub is_calm : List Piece → Bool
is_calm [] = true
is_calm (mark Minus ∷ ws) = begins_open ws && is_calm ws
is_calm (w ∷ ws) = is_calm ws

-- the pieces of tokens
abbrev pub pieces_of : List Placed → List Piece
pieces_of [] = []
pieces_of (t ∷ ts) = t.piece ∷ pieces_of ts

-- the words are of the language, and tokens that are these words write the value by the form, in range
pub record Writes {A : Type 0} (f : Form A) (x : A) (ws : List Piece) : Type 0 where
  pub are : ArePieceWords ws
  pub calm : is_calm ws ≡ true
  pub says : (ts : List Placed) → pieces_of ts ≡ ws → Spells spelled f x true ts

-- the word is of the language, and of the class, in range
pub record IsWord (c : Class) (w : Piece) (raw : Got c) : Type 0 where
  pub piece : IsPiece w
  pub is : got c w ≡ Some (raw, true)

-- words in two parts
words-are : (ws vs : List Piece) → ArePieceWords ws → ArePieceWords vs → ArePieceWords (ws ++ vs)
words-are [] vs h k = k
words-are (w ∷ ws) vs h k = (h.0, words-are ws vs h.1 k)

opens-on : (ws vs : List Piece) → begins_open ws ≡ true → begins_open (ws ++ vs) ≡ true
opens-on [] vs h = absurd (false≢true h)
opens-on (mark Open ∷ ws) vs h = refl
opens-on (mark Close ∷ ws) vs h = absurd (false≢true h)
opens-on (mark Comma ∷ ws) vs h = absurd (false≢true h)
opens-on (mark Dot ∷ ws) vs h = absurd (false≢true h)
opens-on (mark Minus ∷ ws) vs h = absurd (false≢true h)
opens-on (mark Equal ∷ ws) vs h = absurd (false≢true h)
opens-on (mark NotEqual ∷ ws) vs h = absurd (false≢true h)
opens-on (mark Less ∷ ws) vs h = absurd (false≢true h)
opens-on (mark AtMost ∷ ws) vs h = absurd (false≢true h)
opens-on (mark Greater ∷ ws) vs h = absurd (false≢true h)
opens-on (mark AtLeast ∷ ws) vs h = absurd (false≢true h)
opens-on (name b ∷ ws) vs h = absurd (false≢true h)
opens-on (number b ∷ ws) vs h = absurd (false≢true h)
opens-on (text b ∷ ws) vs h = absurd (false≢true h)

calm-on : (ws vs : List Piece) → is_calm ws ≡ true → is_calm vs ≡ true → is_calm (ws ++ vs) ≡ true
calm-on [] vs h k = k
calm-on (mark Minus ∷ ws) vs h k = let two = and_parts (begins_open ws) (is_calm ws) h in and_from _ _ (opens-on ws vs two.0) (calm-on ws vs two.1 k)
calm-on (mark Open ∷ ws) vs h k = calm-on ws vs h k
calm-on (mark Close ∷ ws) vs h k = calm-on ws vs h k
calm-on (mark Comma ∷ ws) vs h k = calm-on ws vs h k
calm-on (mark Dot ∷ ws) vs h k = calm-on ws vs h k
calm-on (mark Equal ∷ ws) vs h k = calm-on ws vs h k
calm-on (mark NotEqual ∷ ws) vs h k = calm-on ws vs h k
calm-on (mark Less ∷ ws) vs h k = calm-on ws vs h k
calm-on (mark AtMost ∷ ws) vs h k = calm-on ws vs h k
calm-on (mark Greater ∷ ws) vs h k = calm-on ws vs h k
calm-on (mark AtLeast ∷ ws) vs h k = calm-on ws vs h k
calm-on (name b ∷ ws) vs h k = calm-on ws vs h k
calm-on (number b ∷ ws) vs h k = calm-on ws vs h k
calm-on (text b ∷ ws) vs h k = calm-on ws vs h k

-- tokens of no words, of one, and of words in two parts
none-of : (ts : List Placed) → pieces_of ts ≡ [] → ts ≡ []
none-of [] e = refl
none-of (t ∷ ts) e = absurd cc

record Apart (ts : List Placed) (ws vs : List Piece) : Type 0 where
  here : List Placed
  after : List Placed
  split : ts ≡ here ++ after
  first : pieces_of here ≡ ws
  second : pieces_of after ≡ vs

apart : (ws vs : List Piece) (ts : List Placed) → pieces_of ts ≡ ws ++ vs → Apart ts ws vs
apart [] vs ts e = record { here = []; after = ts; split = refl; first = refl; second = e }
apart (w ∷ ws) vs [] e = absurd cc
apart (w ∷ ws) vs (t ∷ ts) e =
    let head : t.piece ≡ w = cc in
    let tail : pieces_of ts ≡ ws ++ vs = cc in
    let two = apart ws vs ts tail in
    record { here = t ∷ two.here; after = two.after; split = ap (λ us. t ∷ us) two.split; first = (λ i. head i ∷ two.first i); second = two.second }

one-of : {A : Type 0} (c : Class) (value : Got c → A) (w : Piece) (raw : Got c) → got c w ≡ Some (raw, true) → (ts : List Placed) → pieces_of ts ≡ w ∷ [] → IsOne c value (value raw) true ts
one-of c value w raw is [] e = absurd cc
one-of c value w raw is (t ∷ ts) e =
    let head : t.piece ≡ w = cc in
    let tail : pieces_of ts ≡ [] = cc in
    record { token = t; one = ap (λ us. t ∷ us) (none-of ts tail); raw = raw; is = ap (got c) head ∙ is; gives = refl }

-- other words, which are the same
same-w : {A : Type 0} {f : Form A} {x : A} {ws us : List Piece} → ws ≡ us → Writes f x ws → Writes f x us
same-w {A} {f} {x} e h = subst (Writes f x) e h

-- no word, one, one form and then another, a choice, a test, a rule
pub nothing-w : {A : Type 0} {x : A} → Writes (nothing x) x []
nothing-w {A} {x} = record { are = tt; calm = refl; says = λ ts e. (refl, refl, none-of ts e) }

pub take-w : {A : Type 0} {c : Class} {value : Got c → A} {x : A} {w : Piece} {raw : Got c} → IsWord c w raw → is_calm (w ∷ []) ≡ true → value raw ≡ x → Writes (take c value) x (w ∷ [])
take-w {A} {c} {value} {x} {w} {raw} h calm e = record {
  are = (h.piece, tt);
  calm = calm;
  says = λ ts k. subst (λ x. IsOne c value x true ts) e (one-of c value w raw h.is ts k);
}

pub seq-w : {A B C : Type 0} {join : B → C → A} {f : Form B} {g : Form C} {x : A} {y : B} {z : C} {ws vs us : List Piece}
    → Writes f y ws → Writes g z vs → join y z ≡ x → ws ++ vs ≡ us → Writes (seq join f g) x us
seq-w {A} {B} {C} {join} {f} {g} {x} {y} {z} {ws} {vs} {us} one two e k = same-w k (record {
  are = words-are ws vs one.are two.are;
  calm = calm-on ws vs one.calm two.calm;
  says = λ ts h.
      let parts = apart ws vs ts h in
      record {
        left = y;
        right = z;
        one = true;
        two = true;
        here = parts.here;
        after = parts.after;
        split = parts.split;
        first = one.says parts.here parts.first;
        second = two.says parts.after parts.second;
        joined = sym e;
        both = refl;
      };
})

pub alt-w : {A B : Type 0} {c : Class} {join : Got c → B → A} {f : Form B} {g : Form A} {x : A} {y : B} {w : Piece} {raw : Got c} {ws : List Piece}
    → IsWord c w raw → Writes f y ws → (is_calm ws ≡ true → is_calm (w ∷ ws) ≡ true) → join raw y ≡ x → Writes (alt c join f g) x (w ∷ ws)
alt-w {A} {B} {c} {join} {f} {g} {x} {y} {w} {raw} {ws} one two calm e = record {
  are = (one.piece, two.are);
  calm = calm two.calm;
  says = λ ts h.
      let parts = apart (w ∷ []) ws ts h in
      inl (record {
        left = raw;
        right = y;
        one = true;
        two = true;
        here = parts.here;
        after = parts.after;
        split = parts.split;
        first = one-of c (λ v. v) w raw one.is parts.here parts.first;
        second = two.says parts.after parts.second;
        joined = sym e;
        both = refl;
      });
}

pub else-w : {A B : Type 0} {c : Class} {join : Got c → B → A} {f : Form B} {g : Form A} {x : A} {ws : List Piece} → Writes g x ws → Writes (alt c join f g) x ws
else-w h = record { are = h.are; calm = h.calm; says = λ ts e. inr (h.says ts e) }

pub checked-w : {A : Type 0} {test : A → Bool} {f : Form A} {x : A} {ws : List Piece} → test x ≡ true → Writes f x ws → Writes (checked test f) x ws
checked-w {A} {test} {f} {x} k h = record { are = h.are; calm = h.calm; says = λ ts e. record { here = true; inner = h.says ts e; both = sym (ap (λ b. b && true) k) } }

pub rule-w : (r : Rule) {x : RuleValue r} {ws : List Piece} → Writes (body r) x ws → Writes (rule r) x ws
rule-w r {x} h = record { are = h.are; calm = h.calm; says = λ ts e. fold r x true ts (h.says ts e) }

-- a fixed word, a name, numbers, a text, a symbol
fixed-word : (w : List ℕ) → is_name w ≡ true → leb (length w) LONGEST_NAME ≡ true → IsWord (a_word w) (name w) tt
fixed-word w h short = record {
  piece = record { spelled = h; short = leb-true (length w) LONGEST_NAME short };
  is = ap (λ b. where_true b) ((bytes_eq-Decides w w).1 refl);
}

pub name-word : {n : List ℕ} → IsName n → IsWord a_name (name n) n
name-word h = record { piece = h; is = refl }

pub natural-word : {l m n : ℕ} → n < 2 ^ 64 → l ≤ n → n ≤ m → IsWord (a_natural l m) (number (decimal n)) n
natural-word {l} {m} {n} small low high = record {
  piece = number-decimal n small;
  is = ap (λ o. Some (or_zero 0 o)) (natural-decimal l m n small low high);
}

pub int-word : {n : ℤ} → IsIntInRange n → IsWord an_int (number (signed_decimal n)) n
int-word {n} h = record { piece = number-int n h; is = ap (λ o. Some (or_zero (pos 0) o)) (int-int n h) }

pub text-word : {t : List ℕ} → IsTextInRange t → IsWord a_text (text (doubled t)) t
text-word {t} h = record {
  piece = inside-doubled t h;
  is = ap (λ bytes. Some (bytes, leb (length bytes) 255)) (content-doubled t) ∙ ap (λ b. Some (t, b)) (le-leb (length t) 255 h.short);
}

pub mark-word : (s : Symbol) → got (a_mark s) (mark s) ≡ Some (tt, true) → IsWord (a_mark s) (mark s) tt
mark-word s e = record { piece = tt; is = e }

-- a form of a word or a symbol, and forms after them
word-w : (w : List ℕ) → is_name w ≡ true → leb (length w) LONGEST_NAME ≡ true → Writes (word w) tt (name w ∷ [])
word-w w h short = take-w (fixed-word w h short) refl refl

pub after_word-w : {A : Type 0} {f : Form A} {x : A} {ws : List Piece} (w : List ℕ) → is_name w ≡ true → leb (length w) LONGEST_NAME ≡ true → Writes f x ws → Writes (after_word w f) x (name w ∷ ws)
after_word-w w h short k = seq-w (word-w w h short) k refl refl

pub case_word-w : {A : Type 0} {f g : Form A} {x : A} {ws : List Piece} (w : List ℕ) → is_name w ≡ true → leb (length w) LONGEST_NAME ≡ true → Writes f x ws → Writes (case_word w f g) x (name w ∷ ws)
case_word-w w h short k = alt-w (fixed-word w h short) k (λ c. c) refl

pub told-w : {A B : Type 0} {value : A → B} {f : Form A} {y : B} {x : A} {ws : List Piece} → Writes f x ws → value x ≡ y → Writes (told_form value f) y ws
told-w h e = seq-w nothing-w h e refl

-- the symbols by themselves, and before a form
pub open-w : {A : Type 0} {f : Form A} {x : A} {ws : List Piece} → Writes f x ws → Writes (after_sign Open f) x (mark Open ∷ ws)
open-w h = seq-w (take-w (mark-word Open refl) refl refl) h refl refl

pub comma-w : {A : Type 0} {f g : Form A} {x : A} {ws : List Piece} → Writes f x ws → Writes (case_sign Comma f g) x (mark Comma ∷ ws)
comma-w h = alt-w (mark-word Comma refl) h (λ c. c) refl

pub dot-w : {A : Type 0} {f : Form A} {x : A} {ws : List Piece} → Writes f x ws → Writes (after_sign Dot f) x (mark Dot ∷ ws)
dot-w h = seq-w (take-w (mark-word Dot refl) refl refl) h refl refl

pub equal-w : {A : Type 0} {f : Form A} {x : A} {ws : List Piece} → Writes f x ws → Writes (after_sign Equal f) x (mark Equal ∷ ws)
equal-w h = seq-w (take-w (mark-word Equal refl) refl refl) h refl refl

pub close-w : Writes (sign Close) tt (mark Close ∷ [])
close-w = take-w (mark-word Close refl) refl refl

pub closed-w : {A : Type 0} {f : Form A} {x : A} {ws us : List Piece} → Writes f x ws → ws ++ (mark Close ∷ []) ≡ us → Writes (before_sign f Close) x us
closed-w h e = seq-w h close-w refl e

-- names, numbers, columns, places
pub name-w : {n : List ℕ} → IsName n → Writes name_form n (name n ∷ [])
name-w h = take-w (name-word h) refl refl

pub natural-w : {l m n : ℕ} → n < 2 ^ 64 → l ≤ n → n ≤ m → Writes (natural_form l m) n (number (decimal n) ∷ [])
natural-w small low high = take-w (natural-word small low high) refl refl

pub count-w : {n : ℕ} → IsCountInRange n → Writes (natural_form 1 MOST_ROWS) n (number (decimal n) ∷ [])
count-w h = natural-w (omega (arith, h.most)) h.least h.most

pub coordinate-w : {n : ℕ} → n < 2 ^ COORDINATE_BITS → Writes coordinate_form n (number (decimal n) ∷ [])
coordinate-w h = natural-w (omega (arith, h)) (omega arith) (omega (arith, h))

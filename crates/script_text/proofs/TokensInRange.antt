-- What one token says is in range where it was read so.
use Rattle.std.proofs.Common.{◌≡◌, ℕ, zero, suc, ◌-◌, ◌≤◌, ◌^◌, Bool, true, false, ◌&&◌, cond, eqb, leb, List, [], ◌∷◌, ◌++◌, length, Some, None, refl, sym, ap, subst, ◌∙◌, inl, inr, arith}
use Rattle.std.specs.Prelude.{⊤, All, ℤ, pos, neg_ℤ}
use Rattle.std.specs.Str.Parse.{digits_value}
use Rattle.std.proofs.Math.Dec.{T}
use Rattle.std.proofs.lemmas.Bool.{and_parts, leb-true, le-leb, false≢true}
use Rattle.sand_base.specs.InRange.{IsIntInRange, IsTextInRange, IsValueInRange}
use Rattle.sand_base.specs.Grid.{IsInPlane}
use Rattle.script_text.specs.declared.token.Symbol.{Symbol}
use Rattle.script_text.specs.Form.{Class, a_word, a_name, a_natural, an_int, a_text, a_mark, Got, got, name_of, natural_of, int_in_range, text_of, Rule, RuleValue, a_plan}
use Rattle.script_text.specs.Form.{more_columns, more_values, more_spots, more_tests, more_places, Form, nothing, take, alt, seq, checked, IsOne, Spells}
use Rattle.script_text.specs.InRange.{IsPlaceInRange, IsTestInRange, IsFieldInRange}
use Rattle.script_text.specs.InRange.{IsPlanInRange}
use Rattle.script_text.specs.Lexical.{Placed, ArePieces}
use Rattle.script_text.specs.Name.{IsName}
use Rattle.script_text.specs.Number.{is_natural_between, is_natural, magnitude, natural, or_zero, is_int, int, number_value}
use Rattle.script_text.specs.Text.{content}
use Rattle.script_text.specs.Token.{Piece, name, number, text, mark, IsPiece}
use Rattle.script_text.proofs.TextContent.{content-in_range}

-- both flags of one that is true
both-true : (a b f : Bool) → f ≡ (a && b) → f ≡ true → (a ≡ true) × (b ≡ true)
both-true a b f e h = and_parts a b (sym e ∙ h)

-- tokens of the language in two parts
parts-are : (u v ts : List Placed) → ts ≡ u ++ v → ArePieces ts → ArePieces u × ArePieces v
parts-are [] v ts e h = (tt, subst ArePieces e h)
parts-are (p ∷ u) v ts e h =
    let whole = subst ArePieces e h in
    let rest = parts-are u v (u ++ v) refl whole.1 in
    ((whole.0, rest.0), rest.1)

-- what the class gives in range is so
abbrev Gets : (c : Class) → (Got c → Type 0) → Type 0
Gets c Q = (t : Placed) (raw : Got c) → IsPiece t.piece → got c t.piece ≡ Some (raw, true) → Q raw

-- what tokens of the language write by the form in range is so
pub record Keeps {A : Type 0} (P : (r : Rule) → RuleValue r → Bool → List Placed → Type 0) (f : Form A) (Q : A → Type 0) : Type 0 where
  pub so : (x : A) (flag : Bool) (ts : List Placed) → Spells P f x flag ts → ArePieces ts → flag ≡ true → Q x

-- one token
one-so : {A : Type 0} (c : Class) (value : Got c → A) (Q : A → Type 0) → Gets c (λ raw. Q (value raw)) → (x : A) (flag : Bool) (ts : List Placed)
    → IsOne c value x flag ts → ArePieces ts → flag ≡ true → Q x
one-so c value Q gets x flag ts h are f =
    subst Q (sym h.gives) (gets h.token h.raw (subst ArePieces h.one are).0 (h.is ∙ ap (λ b. Some (h.raw, b)) f))

module _ {A : Type 0} {P : (r : Rule) → RuleValue r → Bool → List Placed → Type 0} where
  pub nothing-so : {y : A} {Q : A → Type 0} → Q y → Keeps P (nothing y) Q
  nothing-so {y} {Q} q = record { so = λ x flag ts h are f. subst Q (sym h.0) q }

  pub take-so : {c : Class} {value : Got c → A} {Q : A → Type 0} → Gets c (λ raw. Q (value raw)) → Keeps P (take c value) Q
  take-so {c} {value} {Q} gets = record { so = λ x flag ts h are f. one-so c value Q gets x flag ts h are f }

  pub seq-so : {B C : Type 0} {join : B → C → A} {f : Form B} {g : Form C} {M : B → Type 0} {N : C → Type 0} {Q : A → Type 0}
      → Keeps P f M → Keeps P g N → ((y : B) (z : C) → M y → N z → Q (join y z)) → Keeps P (seq join f g) Q
  seq-so {B} {C} {join} {f} {g} {M} {N} {Q} one two both = record {
    so = λ x flag ts h are e.
        let flags = both-true h.two h.one flag h.both e in
        let parts = parts-are h.here h.after ts h.split are in
        subst Q (sym h.joined) (both h.left h.right (one.so h.left h.one h.here h.first parts.0 flags.1) (two.so h.right h.two h.after h.second parts.1 flags.0));
  }

  pub alt-so : {B : Type 0} {c : Class} {join : Got c → B → A} {f : Form B} {g : Form A} {M : Got c → Type 0} {N : B → Type 0} {Q : A → Type 0}
      → Gets c M → Keeps P f N → ((v : Got c) (y : B) → M v → N y → Q (join v y)) → Keeps P g Q → Keeps P (alt c join f g) Q
  alt-so {B} {c} {join} {f} {g} {M} {N} {Q} gets one both two = record {
    so = λ x flag ts h are e. elim h [
      | inl h ↦
          let flags = both-true h.two h.one flag h.both e in
          let parts = parts-are h.here h.after ts h.split are in
          subst Q (sym h.joined) (both h.left h.right (one-so c (λ v. v) M gets h.left h.one h.here h.first parts.0 flags.1) (one.so h.right h.two h.after h.second parts.1 flags.0))
      | inr h ↦ two.so x flag ts h are e
    ];
  }

  pub checked-so : {test : A → Bool} {f : Form A} {M Q : A → Type 0} → Keeps P f M → ((x : A) → test x ≡ true → M x → Q x) → Keeps P (checked test f) Q
  checked-so {test} {f} {M} {Q} one both = record {
    so = λ x flag ts h are e.
        let flags = both-true (test x) h.here flag h.both e in
        both x flags.0 (one.so x h.here ts h.inner are flags.1);
  }

-- what is there is the same
there-same : {A : Type 0} (x y : A × Bool) → Some x ≡ Some y → x ≡ y
there-same x y e = cc

-- the classes: a word and a symbol tell nothing, a name is a name
pub word-gets : (w : List ℕ) → Gets (a_word w) (λ u. ⊤)
word-gets w t raw is e = tt

pub mark-gets : (s : Symbol) → Gets (a_mark s) (λ u. ⊤)
mark-gets s t raw is e = tt

name-is : (p : Piece) (raw : List ℕ) → IsPiece p → name_of p ≡ Some (raw, true) → IsName raw
name-is (name b) raw is e = subst IsName (ap (λ q. q.0) (there-same (b, true) (raw, true) e)) is
name-is (number b) raw is e = absurd cc
name-is (text b) raw is e = absurd cc
name-is (mark s) raw is e = absurd cc

pub name-gets : Gets a_name IsName
name-gets t raw is e = name-is t.piece raw is e

-- a number is in its range
natural-is : (l m : ℕ) (p : Piece) (raw : ℕ) → natural_of l m p ≡ Some (raw, true) → (l ≤ raw) × (raw ≤ m)
natural-is l m (number b) raw e =
    let go : (t : Bool) → is_natural_between l m b ≡ t → or_zero 0 (cond t (Some (magnitude b)) None) ≡ (raw, true) → (l ≤ raw) × (raw ≤ m) =
    elim [
      | true ↦ λ h e.
          let same : magnitude b ≡ raw = ap (λ q. q.0) e in
          let two = and_parts (leb l (magnitude b)) (leb (magnitude b) m) (and_parts (is_natural b) (leb l (magnitude b) && leb (magnitude b) m) h).1 in
          subst (λ n. (l ≤ n) × (n ≤ m)) same (leb-true l (magnitude b) two.0, leb-true (magnitude b) m two.1)
      | false ↦ λ h e. absurd (false≢true (ap (λ q. q.1) e))
    ] in
    go (is_natural_between l m b) refl (there-same (or_zero 0 (natural l m b)) (raw, true) e)
natural-is l m (name b) raw e = absurd cc
natural-is l m (text b) raw e = absurd cc
natural-is l m (mark s) raw e = absurd cc

pub natural-gets : (l m : ℕ) → Gets (a_natural l m) (λ n. (l ≤ n) × (n ≤ m))
natural-gets l m t raw is e = natural-is l m t.piece raw e

-- a number of 64 bits is
neg-range : (m : ℕ) → m ≤ 2 ^ 63 → IsIntInRange (neg_ℤ (pos m))
neg-range zero h = record { low = omega arith; high = omega arith }
neg-range (suc m) h = record { low = record { le = subst T (sym (le-leb m (2 ^ 63 - 1) (omega (arith, h)))) tt }; high = omega arith }

value-range : (b : List ℕ) → is_int b ≡ true → IsIntInRange (number_value b)
value-range [] h = record { low = omega arith; high = omega arith }
value-range (b ∷ bytes) h =
    let go : (t : Bool) → leb (cond t (digits_value 10 bytes) (digits_value 10 (b ∷ bytes))) (cond t (2 ^ 63) (2 ^ 63 - 1)) ≡ true
    → IsIntInRange (cond t (neg_ℤ (pos (digits_value 10 bytes))) (pos (digits_value 10 (b ∷ bytes)))) =
    elim [
      | true ↦ λ h. neg-range (digits_value 10 bytes) (leb-true _ _ h)
      | false ↦ λ h. record { low = omega arith; high = record { le = subst T (sym h) tt } }
    ] in
    go (eqb b 45) h

int-is : (p : Piece) (raw : ℤ) → int_in_range p ≡ Some (raw, true) → IsIntInRange raw
int-is (number b) raw e =
    let go : (t : Bool) → is_int b ≡ t → or_zero (pos 0) (cond t (Some (number_value b)) None) ≡ (raw, true) → IsIntInRange raw =
    elim [
      | true ↦ λ h e. subst IsIntInRange (ap (λ q. q.0) e) (value-range b h)
      | false ↦ λ h e. absurd (false≢true (ap (λ q. q.1) e))
    ] in
    go (is_int b) refl (there-same (or_zero (pos 0) (int b)) (raw, true) e)
int-is (name b) raw e = absurd cc
int-is (text b) raw e = absurd cc
int-is (mark s) raw e = absurd cc

pub int-gets : Gets an_int IsIntInRange
int-gets t raw is e = int-is t.piece raw e

-- a text is
text-is : (p : Piece) (raw : List ℕ) → IsPiece p → text_of p ≡ Some (raw, true) → IsTextInRange raw
text-is (text b) raw is e =
    let same = there-same (content b, leb (length (content b)) 255) (raw, true) e in
    subst IsTextInRange (ap (λ q. q.0) same) (content-in_range b is (leb-true (length (content b)) 255 (ap (λ q. q.1) same)))
text-is (name b) raw is e = absurd cc
text-is (number b) raw is e = absurd cc
text-is (mark s) raw is e = absurd cc

pub text-gets : Gets a_text IsTextInRange
text-gets t raw is e = text-is t.piece raw is e

-- what the rules write in range is so
abbrev pub RangeOf : (r : Rule) → RuleValue r → Type 0
RangeOf a_plan = IsPlanInRange
RangeOf more_columns = All IsFieldInRange
RangeOf more_values = All IsValueInRange
RangeOf more_spots = All IsInPlane
RangeOf more_tests = All IsTestInRange
RangeOf more_places = All IsPlaceInRange

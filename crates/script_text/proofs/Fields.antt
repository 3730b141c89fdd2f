-- Why a field is a value of a kind, or is none.
use Rattle.std.proofs.Common.{◌≡◌, ℕ, ◌<◌, ◌≤◌, Bool, true, false, ◌||◌, cond, eqb, ltb, List, [], ◌∷◌, length, Some, None, Result, Ok, Err, refl, sym, ap, subst, ◌∙◌, arith}
use Rattle.std.specs.Prelude.{ℤ, All, IsUtf8, chars}
use Rattle.std.specs.Str.{IsAscii}
use Rattle.std.proofs.lemmas.Str.Ascii.{IsAscii-cons}
use Rattle.std.specs.List.{list_all, list_any}
use Rattle.std.specs.Char as char
use Rattle.std.specs.Char.{is_ascii_digit}
use Rattle.std.proofs.lemmas.Bool.{and_parts, cond-true, eqb-true, false≢true}
use Rattle.std.proofs.lemmas.Bool.Decides.{nat_tests}
use Rattle.std.proofs.lemmas.List.Elements.{All-nil, All-cons, All-head, All-tail}
use Rattle.sand_base.specs.InRange.{IsTextInRange, is_control}
use Rattle.sand_base.specs.Shape.{kind_of, is_spatial}
use Rattle.sand_base.specs.declared.kind.Kind.{Kind}
use Rattle.sand_base.specs.declared.kind.Kind.TheVariants as kind
use Rattle.sand_base.specs.declared.shape.Shape.{Shape}
use Rattle.sand_base.specs.declared.shape.Shape.TheVariants as shape
use Rattle.sand_base.specs.declared.value.Value.{Value}
use Rattle.sand_base.specs.declared.value.Value.TheVariants as value
use Rattle.script_text.specs.Field.{IsShapeField, IsFieldOf, is_shape_byte}
use Rattle.script_text.specs.Grammar.{IsOf, whole}
use Rattle.script_text.specs.Lexical.{Placed, IsCut}
use Rattle.script_text.specs.Lexing.{pieces, unread}
use Rattle.script_text.specs.Number.{is_int, int, number_value}
use Rattle.script_text.specs.Reading.{TokenState, at, start}
use Rattle.script_text.specs.Rules.{shape_form}
use Rattle.script_text.specs.Token.{is_number, is_digits}
use Rattle.script_text.proofs.CutLaws.{pieces-cut, cut-pieces, cut-unread}
use Rattle.script_text.proofs.RunLemmas.{IsAscii-list_all}
use Rattle.script_text.proofs.TextLemmas.{control-same}
use Rattle.script_text.proofs.Whole.{of-whole, whole-of}

-- what a number in range is
pub int-some : (field : List ℕ) (n : ℤ) → is_number field ≡ true → Some n ≡ int field → IsFieldOf kind.Int field (value.Int n)
int-some field n h e =
    let go : (t : Bool) → is_int field ≡ t → Some n ≡ cond t (Some (number_value field)) None → IsFieldOf kind.Int field (value.Int n) =
    elim [ true ↦ λ k e. (refl, h, k, cc) | false ↦ λ k e. absurd cc ] in
    go (is_int field) refl e

-- a field that is no number in range is no int
only-int : (field : List ℕ) → (is_number field ≡ true → is_int field ≡ true → ⊥) → (v : Value) → ¬ IsFieldOf kind.Int field v
only-int field never (value.Int n) h = never h.1 h.2
only-int field never (value.Text t) h = let e : kind.Int ≡ kind.Text = h.0 in absurd cc
only-int field never (value.Shape (shape.Point p)) h = let e : kind.Point ≡ kind.Int = h.kind in absurd cc
only-int field never (value.Shape (shape.Segment s)) h = let e : kind.Segment ≡ kind.Int = h.kind in absurd cc
only-int field never (value.Shape (shape.Polygon ps)) h = let e : kind.Polygon ≡ kind.Int = h.kind in absurd cc

pub no-number : (field : List ℕ) → is_number field ≡ false → (v : Value) → ¬ IsFieldOf kind.Int field v
no-number field h = only-int field (λ n i. false≢true (sym h ∙ n))

pub no-int : (field : List ℕ) → None ≡ int field → (v : Value) → ¬ IsFieldOf kind.Int field v
no-int field h = only-int field (λ n i. (let e : None ≡ Some (number_value field) = h ∙ cond-true (is_int field) _ _ i in absurd cc))

-- bytes of a number are below 128
digit-ascii : (b : ℕ) → is_ascii_digit b ≡ true → b < 128
digit-ascii b h = grind (arith, nat_tests)

pub number-ascii : (field : List ℕ) → is_number field ≡ true → IsAscii field
number-ascii [] h = absurd (false≢true h)
number-ascii (b ∷ bytes) h =
    let go : (t : Bool) → eqb b 45 ≡ t → cond t (is_digits bytes) (is_digits (b ∷ bytes)) ≡ true → IsAscii (b ∷ bytes) =
    elim [
      | true ↦ λ m d. IsAscii-cons b bytes (omega (arith, eqb-true b 45 m)) (IsAscii-list_all is_ascii_digit digit-ascii bytes (and_parts (ltb 0 (length bytes)) (list_all is_ascii_digit bytes) d).1)
      | false ↦ λ m d. IsAscii-list_all is_ascii_digit digit-ascii (b ∷ bytes) (and_parts (ltb 0 (length (b ∷ bytes))) (list_all is_ascii_digit (b ∷ bytes)) d).1
    ] in
    go (eqb b 45) refl h

-- a field that is no text in range is none
pub no-text : (field : List ℕ) → ¬ IsTextInRange field → (v : Value) → ¬ IsFieldOf kind.Text field v
no-text field never (value.Int n) h = let e : kind.Text ≡ kind.Int = h.0 in absurd cc
no-text field never (value.Text t) h = never h.2
no-text field never (value.Shape (shape.Point p)) h = let e : kind.Point ≡ kind.Text = h.kind in absurd cc
no-text field never (value.Shape (shape.Segment s)) h = let e : kind.Segment ≡ kind.Text = h.kind in absurd cc
no-text field never (value.Shape (shape.Polygon ps)) h = let e : kind.Polygon ≡ kind.Text = h.kind in absurd cc

-- no control character is among characters, or one is
or_false : (a b : Bool) → (a || b) ≡ false → (a ≡ false) × (b ≡ false)
or_false true b h = absurd (false≢true (sym h))
or_false false b h = (refl, h)

none_from : (cs : List ℕ) → list_any char.is_control cs ≡ false → All (λ c. is_control c ≡ false) cs
none_from [] h = All-nil (λ c. is_control c ≡ false)
none_from (c ∷ cs) h =
    let parts = or_false (char.is_control c) (list_any char.is_control cs) h in
    All-cons (λ c. is_control c ≡ false) c cs (sym (control-same c) ∙ parts.0) (none_from cs parts.1)

some_from : (cs : List ℕ) → All (λ c. is_control c ≡ false) cs → list_any char.is_control cs ≡ false
some_from [] h = refl
some_from (c ∷ cs) h =
    ap (λ x. x || list_any char.is_control cs) (control-same c ∙ All-head (λ c. is_control c ≡ false) c cs h)
    ∙ some_from cs (All-tail (λ c. is_control c ≡ false) c cs h)

-- bytes with a control character are no text in range
pub not_plain : (bytes : List ℕ) → list_any char.is_control (chars bytes) ≡ true → ¬ IsTextInRange bytes
not_plain bytes h fits = false≢true (sym (some_from (chars bytes) fits.plain) ∙ h)

-- short ones without are
pub is_plain : (bytes : List ℕ) → length bytes ≤ 255 → IsUtf8 bytes → list_any char.is_control (chars bytes) ≡ false → IsTextInRange bytes
is_plain bytes short spelled h = record { short = short; spelled = spelled; plain = none_from (chars bytes) h }

-- a field of a spatial kind that writes no shape is none
pub no-shape : (k : Kind) (field : List ℕ) → is_spatial k ≡ true → ((s : Shape) → ¬ IsShapeField k field s) → (v : Value) → ¬ IsFieldOf k field v
no-shape k field spatial never (value.Int n) h = false≢true (ap is_spatial (sym h.0) ∙ spatial)
no-shape k field spatial never (value.Text t) h = false≢true (ap is_spatial (sym h.0) ∙ spatial)
no-shape k field spatial never (value.Shape s) h = never s h

-- with a tab it writes none
pub tab-none : (k : Kind) (field : List ℕ) → list_all is_shape_byte field ≡ false → (s : Shape) → ¬ IsShapeField k field s
tab-none k field h s f = false≢true (sym h ∙ f.no_tab)

-- nor where it isn't all tokens
pub left-none : (k : Kind) (field left : List ℕ) → left ≡ unread field → (length left ≡ 0 → ⊥) → (s : Shape) → ¬ IsShapeField k field s
left-none k field left e some s f = some (ap length (e ∙ sym (cut-unread field f.tokens [] f.lexed tt)))

-- shapes that are read are the same
ok-is : (p q : Shape × TokenState) → ◌≡◌ {A = Result (Shape × TokenState) (List Placed)} (Ok p) (Ok q) → p ≡ q
ok-is p q e = cc

-- nothing of no bytes
pub none-left : (left : List ℕ) → length left ≡ 0 → left ≡ []
none-left [] h = refl
none-left (b ∷ left) h = absurd (omega (arith, h))

-- how a field is read that is all tokens
module _ (k : Kind) (field : List ℕ) (first : TokenState) (begins : first ≡ start field) (all : unread field ≡ []) where
  -- a shape that it writes is read
  reads : (s : Shape) → IsShapeField k field s → whole shape_form first ≡ Ok (s, at [] true)
  reads s f =
      ap (whole shape_form) (begins ∙ ap (λ ts. at ts true) (sym (cut-pieces field f.tokens [] f.lexed tt)))
      ∙ of-whole shape_form refl s true f.tokens f.written

  -- where the reader is stuck it writes none
  pub stuck-none : (bad : List Placed) → whole shape_form first ≡ Err bad → (s : Shape) → ¬ IsShapeField k field s
  stuck-none bad e s f = let clash : ◌≡◌ {A = Result (Shape × TokenState) (List Placed)} (Err bad) (Ok (s, at [] true)) = sym e ∙ reads s f in absurd cc

  -- it writes nothing but what is read
  read-same : (x : Shape) (after : TokenState) → whole shape_form first ≡ Ok (x, after) → (s : Shape) → IsShapeField k field s
      → ◌≡◌ {A = Shape × TokenState} (x, after) (s, at [] true)
  read-same x after e s f =
      let same : ◌≡◌ {A = Result (Shape × TokenState) (List Placed)} (Ok (x, after)) (Ok (s, at [] true)) = sym e ∙ reads s f in
      ok-is (x, after) (s, at [] true) same

  -- so none where that is out of range, or of another kind
  pub out-none : (x : Shape) (after : TokenState) → whole shape_form first ≡ Ok (x, after) → after.in_range ≡ false → (s : Shape) → ¬ IsShapeField k field s
  out-none x after e h s f = false≢true (sym h ∙ ap (λ q. q.1.in_range) (read-same x after e s f))

  pub other-none : (x : Shape) (after : TokenState) → whole shape_form first ≡ Ok (x, after) → ¬ (kind_of x ≡ k) → (s : Shape) → ¬ IsShapeField k field s
  other-none x after e other s f = other (ap (λ q. kind_of q.0) (read-same x after e s f) ∙ f.kind)

  -- and else that
  pub shape-some : (x : Shape) (after : TokenState) → whole shape_form first ≡ Ok (x, after) → after.in_range ≡ true → kind_of x ≡ k → list_all is_shape_byte field ≡ true → IsShapeField k field x
  shape-some x after e h same no_tab = record {
    kind = same;
    no_tab = no_tab;
    tokens = pieces field;
    lexed = subst (IsCut field (pieces field)) all (pieces-cut field);
    written = subst (λ b. IsOf shape_form x b (pieces field)) h (whole-of shape_form refl (pieces field) (x, after) (ap (whole shape_form) (sym begins) ∙ e)).1;
  }

-- A field of a data file has one value, which is of its column's kind and in range.
use Rattle.std.proofs.Common.{◌≡◌, ℕ, zero, suc, ◌-◌, ◌≤◌, ◌^◌, Bool, true, false, ◌&&◌, not, cond, eqb, leb, List, [], ◌∷◌, length, Option, Some, None, Result, Ok, Err}
use Rattle.std.proofs.Common.{refl, sym, ap, subst, ◌∙◌, arith}
use Rattle.std.specs.Prelude.{pos, neg_ℤ, All, chars}
use Rattle.std.specs.List.{list_all}
use Rattle.std.specs.Str.{is_utf8}
use Rattle.std.specs.Str.Parse.{digits_value}
use Rattle.std.proofs.Math.Dec.{T}
use Rattle.std.proofs.lemmas.Bool.{and_parts, cond-false, eqb-true, eqb-false, leb-true, le-leb, false≢true}
use Rattle.std.proofs.lemmas.List.Elements.{All-nil, All-cons, All-head, All-tail}
use Rattle.std.proofs.lemmas.Str.{IsUtf8-from_is_utf8, is_utf8-from_IsUtf8}
use Rattle.sand_base.specs.InRange.{IsIntInRange, IsTextInRange, IsValueInRange, is_control}
use Rattle.sand_base.specs.Shape.{kind_of, value_kind, same_kind, is_spatial}
use Rattle.sand_base.specs.declared.kind.Kind.{Kind}
use Rattle.sand_base.specs.declared.kind.Kind.TheVariants as kind
use Rattle.sand_base.specs.declared.shape.Shape.{Shape}
use Rattle.sand_base.specs.declared.shape.Shape.TheVariants as shape
use Rattle.sand_base.specs.declared.value.Value.{Value}
use Rattle.sand_base.specs.declared.value.Value.TheVariants as value
use Rattle.script_text.specs.Field.{IsShapeField, IsFieldOf, ReadsField, is_shape_byte}
use Rattle.script_text.specs.Grammar.{IsOf, whole}
use Rattle.script_text.specs.Lexical.{Placed}
use Rattle.script_text.specs.Lexing.{pieces, unread}
use Rattle.script_text.specs.Number.{is_int, number_value}
use Rattle.script_text.specs.Reading.{TokenState, start}
use Rattle.script_text.specs.Rules.{shape_form}
use Rattle.script_text.specs.Token.{is_number}
use Rattle.script_text.proofs.CutLaws.{cut-pieces, cut-are}
use Rattle.script_text.proofs.Fields.{no-number, no-int, no-text, no-shape, tab-none, left-none, none-left, stuck-none, out-none, other-none, shape-some}
use Rattle.script_text.proofs.Ranged.{shape-in_range}
use Rattle.script_text.proofs.Whole.{one-value}
use Rattle.csv_load.specs.FieldValue.{int_value, is_text, text_value, shape_read, shape_value, field_value}

-- a shape is no int and no text, and an int is no text
not_int : (s : Shape) → kind_of s ≡ kind.Int → ⊥
not_int (shape.Point p) e = absurd cc
not_int (shape.Segment s) e = absurd cc
not_int (shape.Polygon ps) e = absurd cc

not_text : (s : Shape) → kind_of s ≡ kind.Text → ⊥
not_text (shape.Point p) e = absurd cc
not_text (shape.Segment s) e = absurd cc
not_text (shape.Polygon ps) e = absurd cc

int_no_text : (k : Kind) → k ≡ kind.Int → k ≡ kind.Text → ⊥
int_no_text k a b = let e : kind.Int ≡ kind.Text = sym a ∙ b in absurd cc

-- a field writes one shape
one-shape : (k : Kind) (field : List ℕ) (s r : Shape) → IsShapeField k field s → IsShapeField k field r → s ≡ r
one-shape k field s r h g =
    let here : h.tokens ≡ pieces field = cut-pieces field h.tokens [] h.lexed tt in
    let there : g.tokens ≡ pieces field = cut-pieces field g.tokens [] g.lexed tt in
    (one-value shape_form refl s r true true (pieces field) (subst (IsOf shape_form s true) here h.written) (subst (IsOf shape_form r true) there g.written)).0

-- a field is one value
one-of : (k : Kind) (field : List ℕ) (v w : Value) → IsFieldOf k field v → IsFieldOf k field w → v ≡ w
one-of k field (value.Int n) (value.Int m) h g = ap (λ x. value.Int x) (h.3 ∙ sym g.3)
one-of k field (value.Int n) (value.Text t) h g = absurd (int_no_text k h.0 g.0)
one-of k field (value.Int n) (value.Shape s) h g = absurd (not_int s (g.kind ∙ h.0))
one-of k field (value.Text t) (value.Int n) h g = absurd (int_no_text k g.0 h.0)
one-of k field (value.Text t) (value.Text u) h g = ap (λ x. value.Text x) (h.1 ∙ sym g.1)
one-of k field (value.Text t) (value.Shape s) h g = absurd (not_text s (g.kind ∙ h.0))
one-of k field (value.Shape s) (value.Int n) h g = absurd (not_int s (h.kind ∙ g.0))
one-of k field (value.Shape s) (value.Text t) h g = absurd (not_text s (h.kind ∙ g.0))
one-of k field (value.Shape s) (value.Shape r) h g = ap (λ x. value.Shape x) (one-shape k field s r h g)

-- so it is read in one way
one-reading : (k : Kind) (field : List ℕ) (a b : Option Value) → ReadsField k field a → ReadsField k field b → a ≡ b
one-reading k field None None h g = refl
one-reading k field None (Some w) h g = absurd (h w g)
one-reading k field (Some v) None h g = absurd (g v h)
one-reading k field (Some v) (Some w) h g = ap (λ x. Some x) (one-of k field v w h g)

-- a character is none of control
not-true : (b : Bool) → not b ≡ true → b ≡ false
not-true true h = absurd (false≢true h)
not-true false h = refl

all-plain : (cs : List ℕ) → list_all (λ c. not (is_control c)) cs ≡ true → All (λ c. is_control c ≡ false) cs
all-plain [] h = All-nil (λ c. is_control c ≡ false)
all-plain (c ∷ cs) h =
    let both = and_parts (not (is_control c)) (list_all (λ c. not (is_control c)) cs) h in
    All-cons (λ c. is_control c ≡ false) c cs (not-true (is_control c) both.0) (all-plain cs both.1)

plain-all : (cs : List ℕ) → All (λ c. is_control c ≡ false) cs → list_all (λ c. not (is_control c)) cs ≡ true
plain-all [] h = refl
plain-all (c ∷ cs) h =
    ap (λ b. not b && list_all (λ c. not (is_control c)) cs) (All-head (λ c. is_control c ≡ false) c cs h)
    ∙ plain-all cs (All-tail (λ c. is_control c ≡ false) c cs h)

-- what the test of a text says
text-fits : (field : List ℕ) → is_text field ≡ true → IsTextInRange field
text-fits field h =
    let one = and_parts (leb (length field) 255) (is_utf8 field && list_all (λ c. not (is_control c)) (chars field)) h in
    let two = and_parts (is_utf8 field) (list_all (λ c. not (is_control c)) (chars field)) one.1 in
    record { short = leb-true (length field) 255 one.0; spelled = IsUtf8-from_is_utf8 field two.0; plain = all-plain (chars field) two.1 }

fits-text : (field : List ℕ) → IsTextInRange field → is_text field ≡ true
fits-text field h =
    ap (λ b. b && (is_utf8 field && list_all (λ c. not (is_control c)) (chars field))) (le-leb (length field) 255 h.short)
    ∙ ap (λ b. b && list_all (λ c. not (is_control c)) (chars field)) (is_utf8-from_IsUtf8 field h.spelled)
    ∙ plain-all (chars field) h.plain

-- a field of an int column, and one of a text column
int-reads : (field : List ℕ) → ReadsField kind.Int field (int_value field)
int-reads field =
    let go : (a b : Bool) → is_number field ≡ a → is_int field ≡ b → ReadsField kind.Int field (cond (a && b) (Some (value.Int (number_value field))) None) =
    elim [
      | true ↦ elim [
        | true ↦ λ n i. (refl, n, i, refl)
        | false ↦ λ n i. no-int field (sym (cond-false (is_int field) (Some (number_value field)) None i))
      ]
      | false ↦ λ b n i. no-number field n
    ] in
    go (is_number field) (is_int field) refl refl

text-reads : (field : List ℕ) → ReadsField kind.Text field (text_value field)
text-reads field =
    let go : (a : Bool) → is_text field ≡ a → ReadsField kind.Text field (cond a (Some (value.Text field)) None) =
    elim [
      | true ↦ λ h. (refl, refl, text-fits field h)
      | false ↦ λ h. no-text field (λ fits. false≢true (sym h ∙ fits-text field fits))
    ] in
    go (is_text field) refl

-- kinds that are one
kind-self : (k : Kind) → same_kind k k ≡ true
kind-self kind.Int = refl
kind-self kind.Text = refl
kind-self kind.Point = refl
kind-self kind.Segment = refl
kind-self kind.Polygon = refl

kind-same : (s : Shape) (k : Kind) → same_kind (kind_of s) k ≡ true → kind_of s ≡ k
kind-same (shape.Point p) kind.Point h = refl
kind-same (shape.Segment s) kind.Segment h = refl
kind-same (shape.Polygon ps) kind.Polygon h = refl
kind-same (shape.Point p) kind.Int h = absurd (false≢true h)
kind-same (shape.Point p) kind.Text h = absurd (false≢true h)
kind-same (shape.Point p) kind.Segment h = absurd (false≢true h)
kind-same (shape.Point p) kind.Polygon h = absurd (false≢true h)
kind-same (shape.Segment s) kind.Int h = absurd (false≢true h)
kind-same (shape.Segment s) kind.Text h = absurd (false≢true h)
kind-same (shape.Segment s) kind.Point h = absurd (false≢true h)
kind-same (shape.Segment s) kind.Polygon h = absurd (false≢true h)
kind-same (shape.Polygon ps) kind.Int h = absurd (false≢true h)
kind-same (shape.Polygon ps) kind.Text h = absurd (false≢true h)
kind-same (shape.Polygon ps) kind.Point h = absurd (false≢true h)
kind-same (shape.Polygon ps) kind.Segment h = absurd (false≢true h)

kind-other : (s : Shape) (k : Kind) → same_kind (kind_of s) k ≡ false → ¬ (kind_of s ≡ k)
kind-other s k h e = false≢true (sym h ∙ ap (same_kind (kind_of s)) (sym e) ∙ kind-self (kind_of s))

-- a field of a column of shapes
module _ (k : Kind) (spatial : is_spatial k ≡ true) (field : List ℕ) where
  -- by what is read of it, where it is all tokens
  read-reads : list_all is_shape_byte field ≡ true → unread field ≡ [] → (r : Result (Shape × TokenState) (List Placed)) → whole shape_form (start field) ≡ r → ReadsField k field (shape_read k r)
  read-reads plain all (Err bad) e = no-shape k field spatial (stuck-none k field (start field) refl all bad e)
  read-reads plain all (Ok (s, after)) e =
      let go : (a b : Bool) → after.in_range ≡ a → same_kind (kind_of s) k ≡ b → ReadsField k field (cond (a && b) (Some (value.Shape s)) None) =
      elim [
        | true ↦ elim [
          | true ↦ λ r h. shape-some k field (start field) refl all s after e r (kind-same s k h) plain
          | false ↦ λ r h. no-shape k field spatial (other-none k field (start field) refl all s after e (kind-other s k h))
        ]
        | false ↦ λ b r h. no-shape k field spatial (out-none k field (start field) refl all s after e r)
      ] in
      go after.in_range (same_kind (kind_of s) k) refl refl

  shape-reads : ReadsField k field (shape_value k field)
  shape-reads =
      let go : (a b : Bool) → list_all is_shape_byte field ≡ a → eqb (length (unread field)) 0 ≡ b → ReadsField k field (cond (a && b) (shape_read k (whole shape_form (start field))) None) =
      elim [
        | true ↦ elim [
          | true ↦ λ plain h. read-reads plain (none-left (unread field) (eqb-true (length (unread field)) 0 h)) (whole shape_form (start field)) refl
          | false ↦ λ plain h. no-shape k field spatial (left-none k field (unread field) refl (eqb-false (length (unread field)) 0 h))
        ]
        | false ↦ λ b tab h. no-shape k field spatial (tab-none k field tab)
      ] in
      go (list_all is_shape_byte field) (eqb (length (unread field)) 0) refl refl

-- the value of a field is what reading it tells
pub value-reads : (k : Kind) (field : List ℕ) → ReadsField k field (field_value k field)
unfolding field_value
value-reads kind.Int field = int-reads field
value-reads kind.Text field = text-reads field
value-reads kind.Point field = shape-reads kind.Point refl field
value-reads kind.Segment field = shape-reads kind.Segment refl field
value-reads kind.Polygon field = shape-reads kind.Polygon refl field

-- and nothing else is told
pub reads-value : (k : Kind) (field : List ℕ) (found : Option Value) → ReadsField k field found → found ≡ field_value k field
reads-value k field found h = one-reading k field found (field_value k field) h (value-reads k field)

-- a number of 64 bits is in range
neg-range : (m : ℕ) → m ≤ 2 ^ 63 → IsIntInRange (neg_ℤ (pos m))
neg-range zero h = record { low = omega arith; high = omega arith }
neg-range (suc m) h = record { low = record { le = subst T (sym (le-leb m (2 ^ 63 - 1) (omega (arith, h)))) tt }; high = omega arith }

int-range : (b : List ℕ) → is_int b ≡ true → IsIntInRange (number_value b)
int-range [] h = record { low = omega arith; high = omega arith }
int-range (b ∷ bytes) h =
    let go : (t : Bool) → leb (cond t (digits_value 10 bytes) (digits_value 10 (b ∷ bytes))) (cond t (2 ^ 63) (2 ^ 63 - 1)) ≡ true
    → IsIntInRange (cond t (neg_ℤ (pos (digits_value 10 bytes))) (pos (digits_value 10 (b ∷ bytes)))) =
    elim [
      | true ↦ λ h. neg-range (digits_value 10 bytes) (leb-true _ _ h)
      | false ↦ λ h. record { low = omega arith; high = record { le = subst T (sym h) tt } }
    ] in
    go (eqb b 45) h

-- a value that a field is, is of the kind and in range
field-fits : (k : Kind) (field : List ℕ) (v : Value) → IsFieldOf k field v → (value_kind v ≡ k) × IsValueInRange v
field-fits k field (value.Int n) h = (sym h.0, subst IsIntInRange (sym h.3) (int-range field h.2))
field-fits k field (value.Text t) h = (sym h.0, subst IsTextInRange (sym h.1) h.2)
field-fits k field (value.Shape s) h = (h.kind, shape-in_range s h.tokens (cut-are field h.tokens [] h.lexed) h.written)

pub value-fits : (k : Kind) (field : List ℕ) (v : Value) → field_value k field ≡ Some v → (value_kind v ≡ k) × IsValueInRange v
value-fits k field v e = field-fits k field v (subst (ReadsField k field) e (value-reads k field))

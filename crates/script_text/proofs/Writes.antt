-- The words of a statement in range write it.
use Rattle.std.proofs.Common.{ℕ, ◌-◌, ◌<◌, ◌≤◌, ◌^◌, Bool, true, false, List, [], ◌∷◌, length, Option, Some, None, refl, arith}
use Rattle.std.specs.Prelude.{ℤ, All, codes}
use Rattle.std.specs.Fmt.{decimal, signed_decimal}
use Rattle.std.proofs.lemmas.Bool.{and_from, le-leb}
use Rattle.std.proofs.lemmas.List.Elements.{All-head, All-tail}
use Rattle.sand_base.specs.declared.TheConstants.{COORDINATE_BITS}
use Rattle.sand_base.specs.declared.kind.Kind.{Kind}
use Rattle.sand_base.specs.declared.kind.Kind.TheVariants as kind
use Rattle.sand_base.specs.declared.point.Point.{Point}
use Rattle.sand_base.specs.declared.rect.Rect.{Rect}
use Rattle.sand_base.specs.declared.shape.Shape.{Shape}
use Rattle.sand_base.specs.declared.shape.Shape.TheVariants as shape
use Rattle.sand_base.specs.declared.value.Value.{Value}
use Rattle.sand_base.specs.declared.value.Value.TheVariants as value
use Rattle.sand_base.specs.InRange.{IsIntInRange, IsValueInRange}
use Rattle.sand_base.specs.Grid.{IsInPlane}
use Rattle.sand_base.specs.Plane.{IsRectInPlane, IsShapeInPlane}
use Rattle.statements.specs.declared.column.Column.{Column}
use Rattle.statements.specs.declared.column.Place.{Place}
use Rattle.statements.specs.declared.test.Op.{Op}
use Rattle.statements.specs.declared.test.Op.TheVariants as op
use Rattle.statements.specs.declared.test.Test.{Test}
use Rattle.script_text.specs.declared.token.Symbol.TheVariants.{Open, Close, Minus, Equal, NotEqual, Less, AtMost, Greater, AtLeast}
use Rattle.script_text.specs.Form.{a_natural, a_plan, more_columns, more_values}
use Rattle.script_text.specs.Form.{more_spots, more_tests, more_places, nothing, alt, rule}
use Rattle.script_text.specs.InRange.{IsColumnInRange, IsPlaceInRange, IsPlainInRange, IsTestInRange, IsFieldInRange, IsWithinInRange, IsThresholdInRange}
use Rattle.script_text.specs.InRange.{SomeAre, IsPlanInRange, IsInRange}
use Rattle.statements.specs.Plan.{Plan}
use Rattle.statements.specs.Plan as plan
use Rattle.script_text.specs.Printing.{each, more_words, list_words, comma, fixed, column_words, place_words, spot_words, shape_words, value_words, kind_word}
use Rattle.script_text.specs.Printing.{field_words, op_symbol, test_words, within_words, inner_words, plan_words, header_words, threshold_words, words}
use Rattle.script_text.specs.Rules.{case_word, int_form}
use Rattle.script_text.specs.Rules.{column_form, place_form, plain_form, spot_rest, spot_form, spots_form, way_form, spot_end, shape_form, value_form, values_form}
use Rattle.script_text.specs.Rules.{kind_form, field_form, columns_form, op_form, test_form, tests_form, places_form, within_form, inner_form, corner_form, rect_form}
use Rattle.script_text.specs.Rules.{statement_form}
use Rattle.statements.specs.Statement.{Statement}
use Rattle.statements.specs.Statement as statement
use Rattle.script_text.specs.Token.{Piece, name, number, mark}
use Rattle.script_text.proofs.RingLemmas.{ring-passes, polygon-ring}
use Rattle.script_text.proofs.WritesTokens.{Writes, IsWord, nothing-w, take-w, seq-w, alt-w, else-w, checked-w, rule-w, name-word, natural-word, int-word, text-word}
use Rattle.script_text.proofs.WritesTokens.{mark-word, after_word-w, case_word-w, told-w, open-w, comma-w, dot-w, equal-w, close-w, closed-w, name-w, natural-w, count-w}
use Rattle.script_text.proofs.WritesTokens.{coordinate-w}

int-w : {n : ℤ} → IsIntInRange n → Writes int_form n (number (signed_decimal n) ∷ [])
int-w h = take-w (int-word h) refl refl

column-w : (c : Column) → IsColumnInRange c → Writes column_form c (column_words c)
column-w c h = seq-w (name-w h.relation) (dot-w (name-w h.column)) refl refl

place-w : (p : Place) → IsPlaceInRange p → Writes place_form p (place_words p)
place-w p h = seq-w (natural-w (omega (arith, h.most)) h.least h.most) (dot-w (name-w h.column)) refl refl

-- an int or a text
plain-w : (v : Value) → IsPlainInRange v → Writes plain_form v (value_words v)
plain-w (value.Int n) h = alt-w (int-word h) nothing-w (λ c. c) refl
plain-w (value.Text t) h = else-w (take-w (text-word h) refl refl)
plain-w (value.Shape s) h = absurd h

-- spots
spot_rest-w : (p : Point) → IsInPlane p → Writes spot_rest p (number (decimal p.x) ∷ number (decimal p.y) ∷ mark Close ∷ [])
spot_rest-w p h = seq-w (coordinate-w h.x) (closed-w (coordinate-w h.y) refl) refl refl

spot-w : (p : Point) → IsInPlane p → Writes spot_form p (spot_words p)
spot-w p h = open-w (spot_rest-w p h)

more_spots-w : (ps : List Point) → All IsInPlane ps → Writes (rule more_spots) ps (each spot_words ps)
more_spots-w [] h = rule-w more_spots (else-w nothing-w)
more_spots-w (p ∷ ps) h =
    rule-w more_spots (alt-w (mark-word Open refl) (seq-w (spot_rest-w p (All-head IsInPlane p ps h)) (more_spots-w ps (All-tail IsInPlane p ps h)) refl refl) (λ c. c) refl)

spots-w : (ps : List Point) → 1 ≤ length ps → All IsInPlane ps → Writes spots_form ps (each spot_words ps)
spots-w [] some h = absurd (omega (arith, some))
spots-w (p ∷ ps) some h = seq-w (spot-w p (All-head IsInPlane p ps h)) (more_spots-w ps (All-tail IsInPlane p ps h)) refl refl

-- shapes
way-w : (b : Point) → IsInPlane b → Writes way_form (Some b) (mark Minus ∷ spot_words b)
way-w b h = alt-w (mark-word Minus refl) (told-w (spot-w b h) refl) (λ c. c) refl

no_way-w : Writes way_form None []
no_way-w = else-w nothing-w

spot_end-w : (y : ℕ) (b : Option Point) (ws : List Piece) → y < 2 ^ COORDINATE_BITS → Writes way_form b ws → Writes spot_end (y, b) (number (decimal y) ∷ mark Close ∷ ws)
spot_end-w y b ws h k = seq-w (coordinate-w h) (seq-w close-w k refl refl) refl refl

first-number : {n : ℕ} → n < 2 ^ COORDINATE_BITS → IsWord (a_natural 0 (2 ^ COORDINATE_BITS - 1)) (number (decimal n)) n
first-number h = natural-word (omega (arith, h)) (omega arith) (omega (arith, h))

pub shape-w : (s : Shape) → IsShapeInPlane s → Writes shape_form s (shape_words s)
shape-w (shape.Point p) h = open-w (alt-w (first-number h.x) (spot_end-w p.y None [] h.y no_way-w) (λ c. c) refl)
shape-w (shape.Segment s) h =
    open-w (alt-w (first-number h.a.x) (spot_end-w s.a.y (Some s.b) (mark Minus ∷ spot_words s.b) h.a.y (way-w s.b h.b)) (λ c. c) refl)
shape-w (shape.Polygon corners) h =
    open-w (else-w (seq-w (checked-w (ring-passes corners h) (spots-w corners (omega (arith, h.fewest)) h.in_plane)) close-w (polygon-ring corners h) refl))

-- values
value-w : (v : Value) → IsValueInRange v → Writes value_form v (value_words v)
value-w (value.Int n) h = alt-w (int-word h) nothing-w (λ c. c) refl
value-w (value.Text t) h = else-w (alt-w (text-word h) nothing-w (λ c. c) refl)
value-w (value.Shape s) h = else-w (else-w (told-w (shape-w s h) refl))

more_values-w : (vs : List Value) → All IsValueInRange vs → Writes (rule more_values) vs (more_words comma value_words vs)
more_values-w [] h = rule-w more_values (else-w nothing-w)
more_values-w (v ∷ vs) h =
    rule-w more_values (comma-w (seq-w (value-w v (All-head IsValueInRange v vs h)) (more_values-w vs (All-tail IsValueInRange v vs h)) refl refl))

values-w : (vs : List Value) → SomeAre IsValueInRange vs → Writes values_form vs (list_words comma value_words vs)
values-w [] h = absurd (omega (arith, h.some))
values-w (v ∷ vs) h = seq-w (value-w v (All-head IsValueInRange v vs h.all)) (more_values-w vs (All-tail IsValueInRange v vs h.all)) refl refl

-- columns
kind-w : (k : Kind) → Writes kind_form k (name (kind_word k) ∷ [])
kind-w kind.Int = case_word-w (codes "int") refl refl nothing-w
kind-w kind.Text = else-w (case_word-w (codes "text") refl refl nothing-w)
kind-w kind.Point = else-w (else-w (case_word-w (codes "point") refl refl nothing-w))
kind-w kind.Segment = else-w (else-w (else-w (case_word-w (codes "segment") refl refl nothing-w)))
kind-w kind.Polygon = else-w (else-w (else-w (else-w (after_word-w (codes "polygon") refl refl nothing-w))))

field-w : (c : List ℕ × Kind) → IsFieldInRange c → Writes field_form c (field_words c)
field-w (n, k) h = seq-w (name-w h) (kind-w k) refl refl

more_columns-w : (cs : List (List ℕ × Kind)) → All IsFieldInRange cs → Writes (rule more_columns) cs (more_words comma field_words cs)
more_columns-w [] h = rule-w more_columns (else-w nothing-w)
more_columns-w (c ∷ cs) h =
    rule-w more_columns (comma-w (seq-w (field-w c (All-head IsFieldInRange c cs h)) (more_columns-w cs (All-tail IsFieldInRange c cs h)) refl refl))

columns-w : (cs : List (List ℕ × Kind)) → 1 ≤ length cs → All IsFieldInRange cs → Writes columns_form cs (list_words comma field_words cs)
columns-w [] some h = absurd (omega (arith, some))
columns-w (c ∷ cs) some h = seq-w (field-w c (All-head IsFieldInRange c cs h)) (more_columns-w cs (All-tail IsFieldInRange c cs h)) refl refl

-- tests
op-w : (o : Op) → Writes op_form o (mark (op_symbol o) ∷ [])
op-w op.Equal = alt-w (mark-word Equal refl) nothing-w (λ c. c) refl
op-w op.NotEqual = else-w (alt-w (mark-word NotEqual refl) nothing-w (λ c. c) refl)
op-w op.Less = else-w (else-w (alt-w (mark-word Less refl) nothing-w (λ c. c) refl))
op-w op.AtMost = else-w (else-w (else-w (alt-w (mark-word AtMost refl) nothing-w (λ c. c) refl)))
op-w op.Greater = else-w (else-w (else-w (else-w (alt-w (mark-word Greater refl) nothing-w (λ c. c) refl))))
op-w op.AtLeast = else-w (else-w (else-w (else-w (else-w (take-w (mark-word AtLeast refl) refl refl)))))

test-w : (t : Test) → IsTestInRange t → Writes test_form t (test_words t)
test-w t h = seq-w (place-w t.place h.place) (seq-w (op-w t.op) (plain-w t.value h.value) refl refl) refl refl

more_tests-w : (ts : List Test) → All IsTestInRange ts → Writes (rule more_tests) ts (more_words (fixed (codes "and")) test_words ts)
more_tests-w [] h = rule-w more_tests (else-w nothing-w)
more_tests-w (t ∷ ts) h =
    rule-w more_tests (case_word-w (codes "and") refl refl (seq-w (test-w t (All-head IsTestInRange t ts h)) (more_tests-w ts (All-tail IsTestInRange t ts h)) refl refl))

tests-w : (ts : List Test) → SomeAre IsTestInRange ts → Writes tests_form ts (list_words (fixed (codes "and")) test_words ts)
tests-w [] h = absurd (omega (arith, h.some))
tests-w (t ∷ ts) h = seq-w (test-w t (All-head IsTestInRange t ts h.all)) (more_tests-w ts (All-tail IsTestInRange t ts h.all)) refl refl

-- lists of places
more_places-w : (ps : List Place) → All IsPlaceInRange ps → Writes (rule more_places) ps (more_words comma place_words ps)
more_places-w [] h = rule-w more_places (else-w nothing-w)
more_places-w (p ∷ ps) h =
    rule-w more_places (comma-w (seq-w (place-w p (All-head IsPlaceInRange p ps h)) (more_places-w ps (All-tail IsPlaceInRange p ps h)) refl refl))

places-w : (ps : List Place) → SomeAre IsPlaceInRange ps → Writes places_form ps (list_words comma place_words ps)
places-w [] h = absurd (omega (arith, h.some))
places-w (p ∷ ps) h = seq-w (place-w p (All-head IsPlaceInRange p ps h.all)) (more_places-w ps (All-tail IsPlaceInRange p ps h.all)) refl refl

-- a distance, where there is one
within-w : (w : Option ℕ) → IsWithinInRange w → Writes within_form w (within_words w)
within-w None h = else-w nothing-w
within-w (Some n) h = case_word-w (codes "within") refl refl (take-w (natural-word (omega (arith, h)) (omega arith) h) refl refl)

-- a window
corner-w : (p : Point) → IsInPlane p → Writes corner_form p (number (decimal p.x) ∷ number (decimal p.y) ∷ [])
corner-w p h = seq-w (coordinate-w h.x) (coordinate-w h.y) refl refl

rect-w : (r : Rect) → IsRectInPlane r
    → Writes rect_form r (number (decimal r.low.x) ∷ number (decimal r.low.y) ∷ number (decimal r.high.x) ∷ number (decimal r.high.y) ∷ [])
rect-w r h =
    checked-w (and_from _ _ (le-leb r.low.x r.high.x h.x) (le-leb r.low.y r.high.y h.y)) (seq-w (corner-w r.low h.low) (corner-w r.high h.high) refl refl)

-- a plan between brackets
inner-w : (p : Plan) (ws : List Piece) → Writes (rule a_plan) p ws → Writes inner_form p (inner_words ws)
inner-w p ws h = open-w (closed-w h refl)

-- plans
plan-w : (p : Plan) → IsPlanInRange p → Writes (rule a_plan) p (plan_words p)
plan-w (plan.Scan r) h = rule-w a_plan (case_word-w (codes "scan") refl refl (take-w (name-word h) refl refl))
plan-w (plan.Rank c g w) h =
    rule-w a_plan (else-w (case_word-w (codes "rank") refl refl
    (seq-w (column-w c h.0) (after_word-w (codes "from") refl refl (seq-w (shape-w g h.1) (within-w w h.2) refl refl)) refl refl)))
plan-w (plan.Window c r) h = rule-w a_plan (else-w (else-w (case_word-w (codes "window") refl refl (seq-w (column-w c h.0) (rect-w r h.1) refl refl))))
plan-w (plan.PickEqual c v) h =
    rule-w a_plan (else-w (else-w (else-w (case_word-w (codes "pick") refl refl
    (seq-w (column-w c h.0) (alt-w (mark-word Equal refl) (told-w (plain-w v h.1) refl) (λ c. c) refl) refl refl)))))
plan-w (plan.PickBetween c a b) h =
    rule-w a_plan (else-w (else-w (else-w (case_word-w (codes "pick") refl refl
    (seq-w (column-w c h.0) (else-w (after_word-w (codes "from") refl refl (seq-w (int-w h.1) (after_word-w (codes "to") refl refl (int-w h.2)) refl refl))) refl refl)))))
plan-w (plan.Join l r w) h =
    rule-w a_plan (else-w (else-w (else-w (else-w (case_word-w (codes "join") refl refl
    (seq-w (column-w l h.0) (seq-w (column-w r h.1) (within-w w h.2) refl refl) refl refl))))))
plan-w (plan.Semi l r w) h =
    rule-w a_plan (else-w (else-w (else-w (else-w (else-w (case_word-w (codes "semi") refl refl
    (seq-w (column-w l h.0) (seq-w (column-w r h.1) (within-w w h.2) refl refl) refl refl)))))))
plan-w (plan.Knn k l r w) h =
    rule-w a_plan (else-w (else-w (else-w (else-w (else-w (else-w (case_word-w (codes "knn") refl refl
    (seq-w (natural-w (omega (arith, h.0.1)) h.0.0 h.0.1) (seq-w (column-w l h.1) (seq-w (column-w r h.2) (within-w w h.3) refl refl) refl refl) refl refl))))))))
plan-w (plan.Near c g w) h =
    rule-w a_plan (else-w (else-w (else-w (else-w (else-w (else-w (else-w (case_word-w (codes "near") refl refl
    (seq-w (column-w c h.0) (after_word-w (codes "from") refl refl (seq-w (shape-w g h.1) (within-w w h.2) refl refl)) refl refl)))))))))
plan-w (plan.Filter p ts) h =
    rule-w a_plan (else-w (else-w (else-w (else-w (else-w (else-w (else-w (else-w (case_word-w (codes "filter") refl refl
    (seq-w (inner-w p (plan_words p) (plan-w p h.0)) (after_word-w (codes "where") refl refl (tests-w ts h.1)) refl refl))))))))))
plan-w (plan.Match p l c) h =
    rule-w a_plan (else-w (else-w (else-w (else-w (else-w (else-w (else-w (else-w (else-w (case_word-w (codes "match") refl refl
    (seq-w (inner-w p (plan_words p) (plan-w p h.0)) (seq-w (place-w l h.1) (equal-w (column-w c h.2)) refl refl) refl refl)))))))))))
plan-w (plan.Fetch p ls) h =
    rule-w a_plan (else-w (else-w (else-w (else-w (else-w (else-w (else-w (else-w (else-w (else-w (case_word-w (codes "fetch") refl refl
    (seq-w (inner-w p (plan_words p) (plan-w p h.0)) (places-w ls h.1) refl refl))))))))))))
plan-w (plan.First n p) h =
    rule-w a_plan (else-w (else-w (else-w (else-w (else-w (else-w (else-w (else-w (else-w (else-w (else-w (case_word-w (codes "first") refl refl
    (seq-w (count-w h.0) (inner-w p (plan_words p) (plan-w p h.1)) refl refl)))))))))))))
plan-w (plan.SortBy p l) h =
    rule-w a_plan (else-w (else-w (else-w (else-w (else-w (else-w (else-w (else-w (else-w (else-w (else-w (else-w (after_word-w (codes "sort") refl refl
    (seq-w (inner-w p (plan_words p) (plan-w p h.0)) (case_word-w (codes "by") refl refl (told-w (place-w l h.1) refl)) refl refl))))))))))))))
plan-w (plan.SortNear p l g) h =
    rule-w a_plan (else-w (else-w (else-w (else-w (else-w (else-w (else-w (else-w (else-w (else-w (else-w (else-w (after_word-w (codes "sort") refl refl
    (seq-w (inner-w p (plan_words p) (plan-w p h.0))
    (else-w (after_word-w (codes "near") refl refl (seq-w (place-w l h.1) (after_word-w (codes "from") refl refl (shape-w g h.2)) refl refl))) refl refl))))))))))))))

-- what may end a `load` and an `index`
header-w : (h : Bool) → Writes (case_word (codes "header") (nothing true) (nothing false)) h (header_words h)
header-w true = case_word-w (codes "header") refl refl nothing-w
header-w false = else-w nothing-w

threshold-w : (t : Option ℕ) → IsThresholdInRange t → Writes (alt (a_natural 1 64) (λ n (u : Unit {0}). Some n) (nothing tt) (nothing None)) t (threshold_words t)
threshold-w None h = else-w nothing-w
threshold-w (Some n) h = alt-w (natural-word (omega (arith, h.1)) h.0 h.1) nothing-w (λ c. c) refl

-- statements
pub statement-w : (s : Statement) → IsInRange s → Writes statement_form s (words s)
statement-w (statement.Create r cs) h =
    case_word-w (codes "create") refl refl
    (seq-w (name-w h.0) (open-w (closed-w (checked-w (le-leb (length cs) 12 h.1.most) (columns-w cs h.1.some h.2)) refl)) refl refl)
statement-w (statement.Insert r vs) h = else-w (case_word-w (codes "insert") refl refl (seq-w (name-w h.0) (values-w vs h.1) refl refl))
statement-w (statement.Delete r n) h =
    else-w (else-w (case_word-w (codes "delete") refl refl (seq-w (name-w h.0) (natural-w (omega (arith, h.1)) (omega arith) h.1) refl refl)))
statement-w (statement.Load r f b) h =
    else-w (else-w (else-w (case_word-w (codes "load") refl refl
    (seq-w (name-w h.0) (seq-w (take-w (text-word h.1) refl refl) (header-w b) refl refl) refl refl))))
statement-w (statement.Index c t) h =
    else-w (else-w (else-w (else-w (case_word-w (codes "index") refl refl (seq-w (column-w c h.0) (threshold-w t h.1) refl refl)))))
statement-w (statement.Rtree c) h =
    else-w (else-w (else-w (else-w (else-w (case_word-w (codes "rtree") refl refl (told-w (column-w c h) refl))))))
statement-w (statement.OpenCursor c p) h =
    else-w (else-w (else-w (else-w (else-w (else-w (case_word-w (codes "open") refl refl (seq-w (name-w h.0) (equal-w (plan-w p h.1)) refl refl)))))))
statement-w (statement.Next c n) h =
    else-w (else-w (else-w (else-w (else-w (else-w (else-w (case_word-w (codes "next") refl refl (seq-w (name-w h.0) (count-w h.1) refl refl))))))))
statement-w (statement.CloseCursor c) h =
    else-w (else-w (else-w (else-w (else-w (else-w (else-w (else-w (case_word-w (codes "close") refl refl (take-w (name-word h) refl refl)))))))))
statement-w (statement.Show n p) h =
    else-w (else-w (else-w (else-w (else-w (else-w (else-w (else-w (else-w (case_word-w (codes "show") refl refl (seq-w (count-w h.0) (plan-w p h.1) refl refl))))))))))
statement-w (statement.Stats c) h =
    else-w (else-w (else-w (else-w (else-w (else-w (else-w (else-w (else-w (else-w (case_word-w (codes "stats") refl refl (take-w (name-word h) refl refl)))))))))))
statement-w (statement.Far n c g) h =
    else-w (else-w (else-w (else-w (else-w (else-w (else-w (else-w (else-w (else-w (else-w (case_word-w (codes "far") refl refl
    (seq-w (count-w h.0) (seq-w (column-w c h.1) (after_word-w (codes "from") refl refl (spot-w g h.2)) refl refl) refl refl))))))))))))
statement-w (statement.Blocks c) h =
    else-w (else-w (else-w (else-w (else-w (else-w (else-w (else-w (else-w (else-w (else-w (else-w (after_word-w (codes "blocks") refl refl (told-w (column-w c h) refl)))))))))))))

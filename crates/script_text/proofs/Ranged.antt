-- What is written in range is in range.
use Rattle.std.proofs.Common.{ℕ, zero, suc, ◌-◌, ◌≤◌, ◌^◌, Bool, true, leb, List, ◌∷◌, length, Option, Some, None, refl, sym, subst, arith}
use Rattle.std.specs.Prelude.{⊤, All, codes}
use Rattle.std.proofs.lemmas.Bool.{and_parts, leb-true}
use Rattle.std.proofs.lemmas.List.Elements.{All-nil, All-cons}
use Rattle.sand_base.specs.declared.TheConstants.{COORDINATE_BITS}
use Rattle.sand_base.specs.declared.point.Point.{Point}
use Rattle.sand_base.specs.declared.shape.Shape.{Shape}
use Rattle.sand_base.specs.InRange.{IsIntInRange, IsTextInRange, IsValueInRange, IsSchemaInRange}
use Rattle.sand_base.specs.Grid.{IsInPlane, IsRing}
use Rattle.sand_base.specs.Plane.{IsRectInPlane, IsShapeInPlane}
use Rattle.script_text.specs.declared.TheConstants.{MOST_ROWS, MOST_WITHIN}
use Rattle.statements.specs.declared.column.Column.{Column}
use Rattle.script_text.specs.declared.token.Symbol.{Symbol}
use Rattle.script_text.specs.declared.token.Symbol.TheVariants.{Open, Close, Comma, Dot, Minus, Equal, NotEqual, Less, AtMost, Greater}
use Rattle.script_text.specs.Form.{Rule, RuleValue, a_plan}
use Rattle.script_text.specs.Form.{more_columns, more_values, more_spots, more_tests, more_places, Form, nothing, rule}
use Rattle.script_text.specs.Grammar.{IsOf, spelled, spelled_at}
use Rattle.script_text.specs.InRange.{IsColumnInRange, IsPlaceInRange, IsPlainInRange, IsTestInRange, IsFieldInRange, IsWithinInRange, IsThresholdInRange, IsCountInRange}
use Rattle.script_text.specs.InRange.{SomeAre, IsPlanInRange, IsInRange}
use Rattle.script_text.specs.Lexical.{Placed, ArePieces}
use Rattle.script_text.specs.Name.{IsName}
use Rattle.statements.specs.Plan.{Plan}
use Rattle.script_text.specs.Rules.{word, sign, after_word, after_sign, before_sign, case_word, case_sign, name_form, natural_form, int_form, coordinate_form}
use Rattle.script_text.specs.Rules.{column_form, place_form, plain_form, spot_rest, spot_form, spots_form, spot_or_way, way_form, spot_end, polygon_form, shape_form}
use Rattle.script_text.specs.Rules.{value_form, values_form, kind_form, field_form, columns_form, op_form, test_form, tests_form, places_form, within_form, inner_form}
use Rattle.script_text.specs.Rules.{rank_rest, corner_form, rect_form, window_rest, pick_rest, join_rest, semi_rest, knn_rest, near_rest, filter_rest, match_rest}
use Rattle.script_text.specs.Rules.{fetch_rest, first_rest, sort_rest, plan_form, body, create_rest, load_rest, index_rest, rtree_rest, far_rest, statement_form}
use Rattle.statements.specs.Statement.{Statement}
use Rattle.script_text.proofs.RingLemmas.{passes-ring, polygon-ring}
use Rattle.script_text.proofs.TokensInRange.{Keeps, nothing-so, take-so, seq-so, alt-so, checked-so, word-gets, mark-gets, name-gets, natural-gets, int-gets, text-gets, RangeOf}

-- a list of one and more
one-more : {A : Type 0} (Q : A → Type 0) (x : A) (xs : List A) → Q x → All Q xs → SomeAre Q (x ∷ xs)
one-more Q x xs h k = record { some = omega arith; all = All-cons Q x xs h k }

-- the other end of a segment, where there is one
abbrev IsWayIn : Option Point → Type 0
IsWayIn None = ⊤
IsWayIn (Some b) = IsInPlane b

-- a point or a segment in the plane
way-in : (x : ℕ) (e : ℕ × Option Point) → (0 ≤ x) × (x ≤ 2 ^ COORDINATE_BITS - 1) → ((0 ≤ e.0) × (e.0 ≤ 2 ^ COORDINATE_BITS - 1)) × IsWayIn e.1 → IsShapeInPlane (spot_or_way x e)
way-in x (y, None) a h = record { x = omega (arith, a.1); y = omega (arith, h.0.1) }
way-in x (y, Some b) a h = record { a = record { x = omega (arith, a.1); y = omega (arith, h.0.1) }; b = h.1 }

-- where the rules keep to their ranges, the forms do
module _ (P : (r : Rule) → RuleValue r → Bool → List Placed → Type 0) (rules : (r : Rule) → Keeps P (rule r) (RangeOf r)) where
  word-so : (w : List ℕ) → Keeps P (word w) (λ u. ⊤)
  word-so w = take-so (word-gets w)

  sign-so : (s : Symbol) → Keeps P (sign s) (λ u. ⊤)
  sign-so s = take-so (mark-gets s)

  after_word-so : {A : Type 0} {f : Form A} {Q : A → Type 0} (w : List ℕ) → Keeps P f Q → Keeps P (after_word w f) Q
  after_word-so w h = seq-so (word-so w) h (λ u x a b. b)

  after_sign-so : {A : Type 0} {f : Form A} {Q : A → Type 0} (s : Symbol) → Keeps P f Q → Keeps P (after_sign s f) Q
  after_sign-so s h = seq-so (sign-so s) h (λ u x a b. b)

  before_sign-so : {A : Type 0} {f : Form A} {Q : A → Type 0} (s : Symbol) → Keeps P f Q → Keeps P (before_sign f s) Q
  before_sign-so s h = seq-so h (sign-so s) (λ x u a b. a)

  case_word-so : {A : Type 0} {f g : Form A} {Q : A → Type 0} (w : List ℕ) → Keeps P f Q → Keeps P g Q → Keeps P (case_word w f g) Q
  case_word-so w h k = alt-so (word-gets w) h (λ v y a b. b) k

  case_sign-so : {A : Type 0} {f g : Form A} {Q : A → Type 0} (s : Symbol) → Keeps P f Q → Keeps P g Q → Keeps P (case_sign s f g) Q
  case_sign-so s h k = alt-so (mark-gets s) h (λ v y a b. b) k

  nil-so : Keeps P (nothing tt) (λ (u : Unit {0}). ⊤)
  nil-so = nothing-so tt

  name-so : Keeps P name_form IsName
  name-so = take-so name-gets

  natural-so : (l m : ℕ) → Keeps P (natural_form l m) (λ n. (l ≤ n) × (n ≤ m))
  natural-so l m = take-so (natural-gets l m)

  column-so : Keeps P column_form IsColumnInRange
  column-so = seq-so name-so (after_sign-so Dot name-so) (λ r c a b. record { relation = a; column = b })

  place-so : Keeps P place_form IsPlaceInRange
  place-so = seq-so (natural-so 1 255) (after_sign-so Dot name-so) (λ k c a b. record { least = a.0; most = a.1; column = b })

  plain-so : Keeps P plain_form IsPlainInRange
  plain-so = alt-so int-gets nil-so (λ n u a b. a) (take-so text-gets)

  coordinate-so : Keeps P coordinate_form (λ n. (0 ≤ n) × (n ≤ 2 ^ COORDINATE_BITS - 1))
  coordinate-so = natural-so 0 (2 ^ COORDINATE_BITS - 1)

  in-plane : (x y : ℕ) → (0 ≤ x) × (x ≤ 2 ^ COORDINATE_BITS - 1) → (0 ≤ y) × (y ≤ 2 ^ COORDINATE_BITS - 1) → IsInPlane (record { x = x; y = y })
  in-plane x y a b = record { x = omega (arith, a.1); y = omega (arith, b.1) }

  spot_rest-so : Keeps P spot_rest IsInPlane
  spot_rest-so = seq-so coordinate-so (before_sign-so Close coordinate-so) in-plane

  spot-so : Keeps P spot_form IsInPlane
  spot-so = after_sign-so Open spot_rest-so

  op-so : Keeps P op_form (λ o. ⊤)
  op-so = case_sign-so Equal (nothing-so tt) (case_sign-so NotEqual (nothing-so tt) (case_sign-so Less (nothing-so tt) (case_sign-so AtMost (nothing-so tt) (case_sign-so Greater (nothing-so tt)
      (take-so (λ t raw is e. tt))))))

  kind-so : Keeps P kind_form (λ k. ⊤)
  kind-so = case_word-so (codes "int") (nothing-so tt) (case_word-so (codes "text") (nothing-so tt) (case_word-so (codes "point") (nothing-so tt) (case_word-so (codes "segment") (nothing-so tt)
      (after_word-so (codes "polygon") (nothing-so tt)))))

  within-so : Keeps P within_form IsWithinInRange
  within-so = case_word-so (codes "within") (take-so (λ t raw is e. (natural-gets 0 MOST_WITHIN t raw is e).1)) (nothing-so tt)

  way-so : Keeps P way_form IsWayIn
  way-so = case_sign-so Minus (seq-so nil-so spot-so (λ u b a h. h)) (nothing-so tt)

  spot_end-so : Keeps P spot_end (λ e. ((0 ≤ e.0) × (e.0 ≤ 2 ^ COORDINATE_BITS - 1)) × IsWayIn e.1)
  spot_end-so = seq-so coordinate-so (after_sign-so Close way-so) (λ y b a h. (a, h))

  spots-so : Keeps P spots_form (All IsInPlane)
  spots-so = seq-so spot-so (rules more_spots) (λ p ps a b. All-cons IsInPlane p ps a b)

  polygon-so : Keeps P polygon_form IsShapeInPlane
  polygon-so = seq-so (checked-so {M = All IsInPlane} {Q = IsRing} spots-so (λ ps h a. passes-ring ps h)) (sign-so Close) (λ ps u a b. subst IsShapeInPlane (sym (polygon-ring ps a)) a)

  shape-so : Keeps P shape_form IsShapeInPlane
  shape-so = after_sign-so Open (alt-so (natural-gets 0 (2 ^ COORDINATE_BITS - 1)) spot_end-so (λ x e a b. way-in x e a b) polygon-so)

  value-so : Keeps P value_form IsValueInRange
  value-so = alt-so int-gets nil-so (λ n u a b. a) (alt-so text-gets nil-so (λ t u a b. a) (seq-so nil-so shape-so (λ u s a b. b)))

  values-so : Keeps P values_form (SomeAre IsValueInRange)
  values-so = seq-so value-so (rules more_values) (λ v vs a b. one-more IsValueInRange v vs a b)

  field-so : Keeps P field_form IsFieldInRange
  field-so = seq-so name-so kind-so (λ n k a b. a)

  columns-so : Keeps P columns_form (SomeAre IsFieldInRange)
  columns-so = seq-so field-so (rules more_columns) (λ c cs a b. one-more IsFieldInRange c cs a b)

  test-so : Keeps P test_form IsTestInRange
  test-so = seq-so place-so (seq-so {Q = λ ov. IsPlainInRange ov.1} op-so plain-so (λ o v a b. b)) (λ p ov a b. record { place = a; value = b })

  tests-so : Keeps P tests_form (SomeAre IsTestInRange)
  tests-so = seq-so test-so (rules more_tests) (λ t ts a b. one-more IsTestInRange t ts a b)

  places-so : Keeps P places_form (SomeAre IsPlaceInRange)
  places-so = seq-so place-so (rules more_places) (λ p ps a b. one-more IsPlaceInRange p ps a b)

  inner-so : Keeps P inner_form IsPlanInRange
  inner-so = after_sign-so Open (before_sign-so Close (rules a_plan))

  count-so : Keeps P (natural_form 1 MOST_ROWS) IsCountInRange
  count-so = take-so (λ t raw is e. let h = natural-gets 1 MOST_ROWS t raw is e in record { least = h.0; most = h.1 })

  int-so : Keeps P int_form IsIntInRange
  int-so = take-so int-gets

  rank-so : Keeps P rank_rest IsPlanInRange
  rank-so = seq-so column-so (after_word-so (codes "from") (seq-so {Q = λ g. IsShapeInPlane g.0 × IsWithinInRange g.1} shape-so within-so (λ g w a b. (a, b)))) (λ c g a b. (a, b.0, b.1))

  corner-so : Keeps P corner_form IsInPlane
  corner-so = seq-so coordinate-so coordinate-so in-plane

  rect-so : Keeps P rect_form IsRectInPlane
  rect-so = checked-so {M = λ r. IsInPlane r.low × IsInPlane r.high} (seq-so corner-so corner-so (λ a b h k. (h, k)))
      (λ r h a. let two = and_parts (leb r.low.x r.high.x) (leb r.low.y r.high.y) h in record { low = a.0; high = a.1; x = leb-true r.low.x r.high.x two.0; y = leb-true r.low.y r.high.y two.1 })

  window-so : Keeps P window_rest IsPlanInRange
  window-so = seq-so column-so rect-so (λ c w a b. (a, b))

  pick-so : Keeps P pick_rest IsPlanInRange
  pick-so = seq-so {N = λ p. (c : Column) → IsColumnInRange c → IsPlanInRange (p c)} column-so
      (case_sign-so Equal (seq-so nil-so plain-so (λ u v a b c h. (h, b)))
      (after_word-so (codes "from") (seq-so int-so (after_word-so (codes "to") int-so) (λ l m a b c h. (h, a, b)))))
      (λ c p a b. b c a)

  join-so : Keeps P join_rest IsPlanInRange
  join-so = seq-so column-so (seq-so {Q = λ r. IsColumnInRange r.0 × IsWithinInRange r.1} column-so within-so (λ r w a b. (a, b))) (λ l r a b. (a, b.0, b.1))

  semi-so : Keeps P semi_rest IsPlanInRange
  semi-so = seq-so column-so (seq-so {Q = λ r. IsColumnInRange r.0 × IsWithinInRange r.1} column-so within-so (λ r w a b. (a, b))) (λ l r a b. (a, b.0, b.1))

  few-so : Keeps P (natural_form 1 255) (λ k. (1 ≤ k) × (k ≤ 255))
  few-so = take-so (λ t raw is e. natural-gets 1 255 t raw is e)

  knn-so : Keeps P knn_rest IsPlanInRange
  knn-so = seq-so few-so (seq-so {Q = λ lr. IsColumnInRange lr.0 × (IsColumnInRange lr.1.0 × IsWithinInRange lr.1.1)} column-so
      (seq-so {Q = λ r. IsColumnInRange r.0 × IsWithinInRange r.1} column-so within-so (λ r w a b. (a, b))) (λ l r a b. (a, b)))
      (λ k lr a b. (a, b.0, b.1.0, b.1.1))

  near-so : Keeps P near_rest IsPlanInRange
  near-so = seq-so column-so (after_word-so (codes "from") (seq-so {Q = λ g. IsShapeInPlane g.0 × IsWithinInRange g.1} shape-so within-so (λ g w a b. (a, b)))) (λ c g a b. (a, b.0, b.1))

  filter-so : Keeps P filter_rest IsPlanInRange
  filter-so = seq-so inner-so (after_word-so (codes "where") tests-so) (λ p ts a b. (a, b))

  match-so : Keeps P match_rest IsPlanInRange
  match-so = seq-so inner-so (seq-so {Q = λ l. IsPlaceInRange l.0 × IsColumnInRange l.1} place-so (after_sign-so Equal column-so) (λ l c a b. (a, b))) (λ p l a b. (a, b.0, b.1))

  fetch-so : Keeps P fetch_rest IsPlanInRange
  fetch-so = seq-so inner-so places-so (λ p ls a b. (a, b))

  first-so : Keeps P first_rest IsPlanInRange
  first-so = seq-so count-so inner-so (λ n p a b. (a, b))

  sort-so : Keeps P sort_rest IsPlanInRange
  sort-so = seq-so {N = λ q. (p : Plan) → IsPlanInRange p → IsPlanInRange (q p)} inner-so
      (case_word-so (codes "by") (seq-so nil-so place-so (λ u l a b p h. (h, b)))
      (after_word-so (codes "near") (seq-so place-so (after_word-so (codes "from") shape-so) (λ l g a b p h. (h, a, b)))))
      (λ p q a b. b p a)

  plan-so : Keeps P plan_form IsPlanInRange
  plan-so = case_word-so (codes "scan") (take-so name-gets) (case_word-so (codes "rank") rank-so (case_word-so (codes "window") window-so (case_word-so (codes "pick") pick-so
      (case_word-so (codes "join") join-so (case_word-so (codes "semi") semi-so (case_word-so (codes "knn") knn-so (case_word-so (codes "near") near-so
      (case_word-so (codes "filter") filter-so (case_word-so (codes "match") match-so
      (case_word-so (codes "fetch") fetch-so (case_word-so (codes "first") first-so (after_word-so (codes "sort") sort-so))))))))))))

  body-so : (r : Rule) → Keeps P (body r) (RangeOf r)
  body-so a_plan = plan-so
  body-so more_columns = case_sign-so Comma (seq-so field-so (rules more_columns) (λ c cs a b. All-cons IsFieldInRange c cs a b)) (nothing-so (All-nil IsFieldInRange))
  body-so more_values = case_sign-so Comma (seq-so value-so (rules more_values) (λ c cs a b. All-cons IsValueInRange c cs a b)) (nothing-so (All-nil IsValueInRange))
  body-so more_spots = case_sign-so Open (seq-so spot_rest-so (rules more_spots) (λ c cs a b. All-cons IsInPlane c cs a b)) (nothing-so (All-nil IsInPlane))
  body-so more_tests = case_word-so (codes "and") (seq-so test-so (rules more_tests) (λ c cs a b. All-cons IsTestInRange c cs a b)) (nothing-so (All-nil IsTestInRange))
  body-so more_places = case_sign-so Comma (seq-so place-so (rules more_places) (λ c cs a b. All-cons IsPlaceInRange c cs a b)) (nothing-so (All-nil IsPlaceInRange))

  create-so : Keeps P create_rest IsInRange
  create-so = seq-so name-so
      (after_sign-so Open (before_sign-so Close (checked-so {Q = λ cs. IsSchemaInRange cs × All IsFieldInRange cs} columns-so
      (λ cs h a. (record { some = a.some; most = leb-true (length cs) 12 h }, a.all)))))
      (λ r cs a b. (a, b.0, b.1))

  load-so : Keeps P load_rest IsInRange
  load-so = seq-so name-so (seq-so {Q = λ f. IsTextInRange f.0} (take-so text-gets) (case_word-so {Q = λ h. ⊤} (codes "header") (nothing-so tt) (nothing-so tt)) (λ f h a b. a)) (λ r f a b. (a, b))

  index-so : Keeps P index_rest IsInRange
  index-so = seq-so {N = IsThresholdInRange} column-so (alt-so (natural-gets 1 64) nil-so (λ n u a b. a) (nothing-so tt)) (λ c t a b. (a, b))

  rtree-so : Keeps P rtree_rest IsInRange
  rtree-so = seq-so nil-so column-so (λ u c a b. b)

  far-so : Keeps P far_rest IsInRange
  far-so = seq-so count-so (seq-so {Q = λ cg. IsColumnInRange cg.0 × IsInPlane cg.1} column-so (after_word-so (codes "from") spot-so) (λ c g a b. (a, b))) (λ n cg a b. (a, b.0, b.1))

  statement-so : Keeps P statement_form IsInRange
  statement-so =
      case_word-so (codes "create") create-so (case_word-so (codes "insert") (seq-so name-so values-so (λ r vs a b. (a, b)))
      (case_word-so (codes "delete") (seq-so name-so (natural-so 0 4294967295) (λ r n a b. (a, b.1))) (case_word-so (codes "load") load-so
      (case_word-so (codes "index") index-so (case_word-so (codes "rtree") rtree-so (case_word-so (codes "open") (seq-so name-so (after_sign-so Equal (rules a_plan)) (λ c p a b. (a, b)))
      (case_word-so (codes "next") (seq-so name-so count-so (λ c n a b. (a, b))) (case_word-so (codes "close") (take-so name-gets)
      (case_word-so (codes "show") (seq-so count-so (rules a_plan) (λ n p a b. (a, b))) (case_word-so (codes "stats") (take-so name-gets)
      (case_word-so (codes "far") far-so (after_word-so (codes "blocks") (seq-so nil-so column-so (λ u c a b. b))))))))))))))

-- the rules keep to their ranges to each depth, and to any
rules-at : (n : ℕ) (r : Rule) → Keeps (spelled_at n) (rule r) (RangeOf r)
rules-at zero r = record { so = λ x flag ts h are f. absurd h }
rules-at (suc n) r = record { so = λ x flag ts h are f. (body-so (spelled_at n) (rules-at n) r).so x flag ts h are f }

rules-so : (r : Rule) → Keeps spelled (rule r) (RangeOf r)
rules-so r = record { so = λ x flag ts h are f. (rules-at h.0 r).so x flag ts h.1 are f }

-- a statement that tokens of the language write in range is in range
pub statement-in_range : (x : Statement) (ts : List Placed) → ArePieces ts → IsOf statement_form x true ts → IsInRange x
unfolding IsOf
statement-in_range x ts are h = (statement-so spelled rules-so).so x true ts h are refl

-- and so is a shape
pub shape-in_range : (x : Shape) (ts : List Placed) → ArePieces ts → IsOf shape_form x true ts → IsShapeInPlane x
unfolding IsOf
shape-in_range x ts are h = (shape-so spelled rules-so).so x true ts h are refl

-- No check of a plan, nor of an opening or a showing of one, speaks of the outside.
use Rattle.std.proofs.Common.{◌≡◌, Bool, true, false, ◌&&◌, List, [], ◌∷◌, ℕ, length, Option, Some, None, refl, subst, true≢false}
use Rattle.std.specs.Prelude.{nat_le, nat_lt}
use Rattle.sand_base.specs.Shape.{value_kind, same_kind, is_spatial}
use Rattle.sand_base.specs.declared.kind.Kind.{Kind}
use Rattle.sand_base.specs.declared.kind.Kind.TheVariants as kind
use Rattle.sand_base.specs.declared.refusal.Refusal.{Refusal}
use Rattle.sand_base.specs.declared.refusal.Refusal.TheVariants as why
use Rattle.sand_model.specs.Checks.{check, most_operators, first_refusal, check_search, check_column, check_place, check_relation, check_tests, check_places}
use Rattle.sand_model.specs.Checks.{check_operators, kind_named, has_rectangles, is_indexed, place_kind, is_plain, is_plain_pair, can_compare}
use Rattle.sand_model.specs.Database.{Database, Relation, relation_named}
use Rattle.sand_model.specs.Operators.{relations_of}
use Rattle.statements.specs.Plan as plan
use Rattle.statements.specs.Plan.{Plan, depth}
use Rattle.statements.specs.declared.column.Column.{Column}
use Rattle.statements.specs.declared.column.Place.{Place}
use Rattle.statements.specs.declared.test.Test.{Test}
use Rattle.sand_model.specs.Cursor.{State}
use Rattle.statements.specs.Statement.{OpenCursor as Opens, Show}
use Rattle.sand_model.specs.StatementChecks.{Setting, early, refused_where, is_there, cursor_named, check_depth, most_cursors}
use Rattle.statement_exec.specs.LeafLines.{IsOfCheck}

-- the refusal is one of memory, of the disk, of a damaged page or of a file
abbrev pub is_outside : Refusal → Bool
is_outside why.Memory = true
is_outside why.Device = true
is_outside (why.Damaged page kept read) = true
is_outside why.File = true
is_outside _ = false

-- a check refuses for such a reason
abbrev pub refuses_outside : Option Refusal → Bool
refuses_outside None = false
refuses_outside (Some refusal) = is_outside refusal

-- a check refuses for another reason, or passes
abbrev pub IsInside : Option Refusal → Type 0
IsInside check = refuses_outside check ≡ false

-- the first of checks that refuses, where all are of this kind
pub inside_first : (check : Option Refusal) (checks : List (Option Refusal)) → IsInside check → IsInside (first_refusal checks) → IsInside (first_refusal (check ∷ checks))
inside_first None checks h k = k
inside_first (Some refusal) checks h k = h

pub inside_two : (a b : Option Refusal) → IsInside a → IsInside b → IsInside (first_refusal (a ∷ b ∷ []))
inside_two a b h k = inside_first a (b ∷ []) h (inside_first b [] k refl)

pub inside_three : (a b c : Option Refusal) → IsInside a → IsInside b → IsInside c → IsInside (first_refusal (a ∷ b ∷ c ∷ []))
inside_three a b c h k l = inside_first a (b ∷ c ∷ []) h (inside_two b c k l)

pub inside_four : (a b c d : Option Refusal) → IsInside a → IsInside b → IsInside c → IsInside d → IsInside (first_refusal (a ∷ b ∷ c ∷ d ∷ []))
inside_four a b c d h k l m = inside_first a (b ∷ c ∷ d ∷ []) h (inside_three b c d k l m)

inside_search : (has : Relation → List ℕ → Bool) (d : Database) (column : Column) (asked : Kind → Bool) → IsInside (check_search has d column asked)
inside_search has d column asked = go (relation_named d column.relation) refl where
  at_kind : (r : Relation) → relation_named d column.relation ≡ Some r → (o : Option Kind) → kind_named r column.column ≡ o → IsInside (check_search has d column asked)
  at_kind r e None k = rw (e, k) refl
  at_kind r e (Some one) k = by_kind (asked one) refl (has r column.column) refl where
    by_kind : (b : Bool) → asked one ≡ b → (i : Bool) → has r column.column ≡ i → IsInside (check_search has d column asked)
    by_kind true t true u = rw (e, k, t, u) refl
    by_kind true t false u = rw (e, k, t, u) refl
    by_kind false t i u = rw (e, k, t) refl

  go : (o : Option Relation) → relation_named d column.relation ≡ o → IsInside (check_search has d column asked)
  go None e = rw e refl
  go (Some r) e = at_kind r e (kind_named r column.column) refl

inside_column : (d : Database) (column : Column) (asked : Kind → Bool) → IsInside (check_column d column asked)
inside_column = inside_search is_indexed

inside_place : (d : Database) (names : List (List ℕ)) (place : Place) (asked : Kind → Bool) → IsInside (check_place d names place asked)
inside_place d names place asked = go (place_kind d names place) refl where
  go : (o : Option Kind) → place_kind d names place ≡ o → IsInside (check_place d names place asked)
  go None e = rw e refl
  go (Some one) e = by_kind (asked one) refl where
    by_kind : (b : Bool) → asked one ≡ b → IsInside (check_place d names place asked)
    by_kind true t = rw (e, t) refl
    by_kind false t = rw (e, t) refl

pub inside_relation : (d : Database) (name : List ℕ) → IsInside (check_relation d name)
inside_relation d name = go (relation_named d name) refl where
  go : (o : Option Relation) → relation_named d name ≡ o → IsInside (check_relation d name)
  go None e = rw e refl
  go (Some r) e = rw e refl

inside_tests : (d : Database) (names : List (List ℕ)) (tests : List Test) → IsInside (check_tests d names tests)
inside_tests d names [] = refl
inside_tests d names (test ∷ tests) =
    inside_two _ _ (inside_place d names test.place (λ k. can_compare test.op k (value_kind test.value))) (inside_tests d names tests)

inside_places : (d : Database) (names : List (List ℕ)) (places : List Place) → IsInside (check_places d names places)
inside_places d names [] = refl
inside_places d names (place ∷ places) = inside_two _ _ (inside_place d names place (λ k. true)) (inside_places d names places)

-- the operators of a plan, from its source outwards
pub inside_operators : (d : Database) (p : Plan) → IsInside (check_operators d p)
inside_operators d (plan.Scan relation) = inside_relation d relation
inside_operators d (plan.Rank column goal within) = inside_column d column is_spatial
inside_operators d (plan.Near column goal within) = inside_search has_rectangles d column is_spatial
inside_operators d (plan.Window column window) = inside_column d column is_spatial
inside_operators d (plan.PickEqual column v) = inside_column d column (λ k. is_plain k && same_kind k (value_kind v))
inside_operators d (plan.PickBetween column low high) = inside_column d column (same_kind kind.Int)
inside_operators d (plan.Join left right within) = inside_two _ _ (inside_column d left is_spatial) (inside_column d right is_spatial)
inside_operators d (plan.Semi left right within) = inside_two _ _ (inside_column d left is_spatial) (inside_column d right is_spatial)
inside_operators d (plan.Knn k left right within) = inside_two _ _ (inside_column d left is_spatial) (inside_column d right is_spatial)
inside_operators d (plan.Filter p tests) = inside_two _ _ (inside_operators d p) (inside_tests d (relations_of p) tests)
inside_operators d (plan.Match p place column) =
    inside_three _ _ _ (inside_operators d p) (inside_place d (relations_of p) place (λ k. true))
    (inside_column d column (is_plain_pair (place_kind d (relations_of p) place)))
inside_operators d (plan.Fetch p places) = inside_two _ _ (inside_operators d p) (inside_places d (relations_of p) places)
inside_operators d (plan.First count p) = inside_operators d p
inside_operators d (plan.SortBy p place) = inside_two _ _ (inside_operators d p) (inside_place d (relations_of p) place (same_kind kind.Int))
inside_operators d (plan.SortNear p place goal) = inside_two _ _ (inside_operators d p) (inside_place d (relations_of p) place is_spatial)

pub inside_where : (b : Bool) (refusal : Refusal) → IsInside (Some refusal) → IsInside (refused_where b refusal)
inside_where true refusal h = h
inside_where false refusal h = refl

-- the depth of a plan
inside_depth : (p : Plan) → IsInside (check_depth p)
inside_depth p = inside_where (nat_lt most_operators (depth p)) why.PlanTooDeep refl

-- a check that refuses so refuses as checks do
pub inside_check : (w : Refusal) → IsInside (Some w) → IsOfCheck w
inside_check why.Memory h = absurd (true≢false h)
inside_check why.Device h = absurd (true≢false h)
inside_check (why.Damaged page kept read) h = absurd (true≢false h)
inside_check why.File h = absurd (true≢false h)
inside_check _ h = tt

-- the checks of a plan, that of its depth too
pub plan_refuses : (d : Database) (p : Plan) (w : Refusal) → check d p ≡ Some w → IsOfCheck w
plan_refuses d p w e = inside_check w (subst IsInside e (inside_two (check_operators d p) (check_depth p) (inside_operators d p) (inside_depth p)))

pub operators_refuse : (d : Database) (p : Plan) (w : Refusal) → check_operators d p ≡ Some w → IsOfCheck w
operators_refuse d p w e = inside_check w (subst IsInside e (inside_operators d p))

pub depth_refuses : (p : Plan) (w : Refusal) → check_depth p ≡ Some w → IsOfCheck w
depth_refuses p w e = inside_check w (subst IsInside e (inside_depth p))

-- the checks of an opening
pub open_refuses : (setting : Setting) (s : State) (name : List ℕ) (p : Plan) (w : Refusal) → early setting s (Opens name p) ≡ Some w → IsOfCheck w
open_refuses setting s name p w e =
    inside_check w (subst IsInside e (inside_four _ _ _ _ (inside_where (is_there (cursor_named s name)) why.CursorNameTaken refl) (inside_operators s.database p)
    (inside_where (nat_le most_cursors (length s.cursors)) why.TooManyCursors refl) (inside_depth p)))

-- the checks of a showing
pub show_refuses : (setting : Setting) (s : State) (count : ℕ) (p : Plan) (w : Refusal) → early setting s (Show count p) ≡ Some w → IsOfCheck w
show_refuses setting s count p w e = inside_check w (subst IsInside e (inside_two _ _ (inside_operators s.database p) (inside_depth p)))

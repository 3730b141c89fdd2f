-- What is there where the checks of a plan pass.
use Rattle.std.proofs.Common.{◌≡◌, ℕ, Bool, true, false, cond, List, [], ◌∷◌, All, Option, Some, None, refl, ap, true≢false}
use Rattle.std.specs.Prelude.{is_some}
use Rattle.std.proofs.lemmas.List.Elements.{All-nil, All-cons}
use Rattle.sand_base.specs.declared.kind.Kind.{Kind}
use Rattle.sand_base.specs.declared.refusal.Refusal.{Refusal}
use Rattle.sand_base.specs.declared.refusal.Refusal.TheVariants as why
use Rattle.sand_base.specs.Shape.{value_kind}
use Rattle.sand_model.specs.Checks.{first_refusal, kind_named, is_indexed, check_search, check_column, check_relation, check_place, check_tests, check_places, can_compare}
use Rattle.sand_model.specs.Database.{Database, Relation, relation_named}
use Rattle.sand_model.specs.Operators.{kth}
use Rattle.statements.specs.declared.column.Column.{Column}
use Rattle.statements.specs.declared.column.Place.{Place}
use Rattle.statements.specs.declared.test.Test.{Test}
use Rattle.plan_names.specs.ColumnCheck.{check_kind}
use Rattle.plan_names.proofs.Columns.{of_relation, is_missing, kind_in, kind_of_place, of_kind}

-- a refusal is none
refused : (w : Refusal) → Some w ≡ None → ⊥
refused w e = true≢false (ap (λ (o : Option Refusal). is_some o) e)

-- both of two checks pass

pub first_passed : (a b : Option Refusal) → first_refusal (a ∷ b ∷ []) ≡ None → a ≡ None
first_passed None b e = refl
first_passed (Some w) b e = absurd (refused w e)

pub second_passed : (a b : Option Refusal) → first_refusal (a ∷ b ∷ []) ≡ None → b ≡ None
second_passed None None e = refl
second_passed None (Some w) e = absurd (refused w e)
second_passed (Some w) b e = absurd (refused w e)

-- all of three checks pass
pub three_passed : (a b c : Option Refusal) → first_refusal (a ∷ b ∷ c ∷ []) ≡ None → (a ≡ None) × (b ≡ None) × (c ≡ None)
three_passed None b c e = (refl, first_passed b c e, second_passed b c e)
three_passed (Some w) b c e = absurd (refused w e)

-- the relation is there
pub relation_there : (d : Database) (name : List ℕ) → check_relation d name ≡ None → (r : Relation) × (relation_named d name ≡ Some r)
relation_there d name passed = by_relation (relation_named d name) refl passed where
  by_relation : (o : Option Relation) → relation_named d name ≡ o → is_missing o ≡ None → (r : Relation) × (relation_named d name ≡ Some r)
  by_relation (Some r) e p = (r, e)
  by_relation None e p = absurd (refused why.UnknownRelation p)

-- The column is there, of a kind that is asked, and has what it is searched by.
pub record IsSearchable (has : Relation → List ℕ → Bool) (d : Database) (column : Column) (asked : Kind → Bool) : Type 0 where
  pub relation : Relation
  pub kind : Kind
  pub found : relation_named d column.relation ≡ Some relation
  pub of_kind : kind_named relation column.column ≡ Some kind
  pub is_asked : asked kind ≡ true
  pub indexed : has relation column.column ≡ true

-- with an index
abbrev pub IsUsable : Database → Column → (Kind → Bool) → Type 0
IsUsable d column asked = IsSearchable is_indexed d column asked

passed_both : (a b : Bool) → cond a (cond b None (Some why.NoIndex)) (Some why.WrongKind) ≡ None → (a ≡ true) × (b ≡ true)
passed_both true true e = (refl, refl)
passed_both true false e = absurd (refused why.NoIndex e)
passed_both false b e = absurd (refused why.WrongKind e)

pub column_searchable : (has : Relation → List ℕ → Bool) (d : Database) (column : Column) (asked : Kind → Bool) → check_search has d column asked ≡ None → IsSearchable has d column asked
column_searchable has d column asked passed = by_relation (relation_named d column.relation) refl passed where
  by_kind : (r : Relation) (o : Option Kind) → relation_named d column.relation ≡ Some r → kind_named r column.column ≡ o → check_kind has r column.column asked o ≡ None
      → IsSearchable has d column asked
  by_kind r (Some k) e f p =
      let both = passed_both (asked k) (has r column.column) p in
      record { relation = r; kind = k; found = e; of_kind = f; is_asked = both.0; indexed = both.1 }
  by_kind r None e f p = absurd (refused why.UnknownColumn p)

  by_relation : (o : Option Relation) → relation_named d column.relation ≡ o → of_relation has column.column asked o ≡ None → IsSearchable has d column asked
  by_relation (Some r) e p = by_kind r (kind_named r column.column) e refl p
  by_relation None e p = absurd (refused why.UnknownRelation p)

pub column_usable : (d : Database) (column : Column) (asked : Kind → Bool) → check_column d column asked ≡ None → IsUsable d column asked
column_usable d column asked passed = column_searchable is_indexed d column asked passed

-- The place is there, in the relation of its id, and of a kind that is asked.
pub record IsPlaced (d : Database) (names : List (List ℕ)) (place : Place) (asked : Kind → Bool) : Type 0 where
  pub name : List ℕ
  pub relation : Relation
  pub kind : Kind
  pub named : kth names place.k ≡ Some name
  pub found : relation_named d name ≡ Some relation
  pub of_kind : kind_named relation place.column ≡ Some kind
  pub is_asked : asked kind ≡ true

passed_one : (a : Bool) → cond a None (Some why.WrongKind) ≡ None → a ≡ true
passed_one true e = refl
passed_one false e = absurd (refused why.WrongKind e)

pub place_there : (d : Database) (names : List (List ℕ)) (place : Place) (asked : Kind → Bool) → check_place d names place asked ≡ None → IsPlaced d names place asked
place_there d names place asked passed = by_name (kth names place.k) refl passed where
  by_kind : (name : List ℕ) (r : Relation) (o : Option Kind) → kth names place.k ≡ Some name → relation_named d name ≡ Some r → kind_named r place.column ≡ o → of_kind asked o ≡ None
      → IsPlaced d names place asked
  by_kind name r (Some k) e f g p =
      record { name = name; relation = r; kind = k; named = e; found = f; of_kind = g; is_asked = passed_one (asked k) p }
  by_kind name r None e f g p = absurd (refused why.UnknownColumn p)

  by_relation : (name : List ℕ) (o : Option Relation) → kth names place.k ≡ Some name → relation_named d name ≡ o → of_kind asked (kind_in place.column o) ≡ None → IsPlaced d names place asked
  by_relation name (Some r) e f p = by_kind name r (kind_named r place.column) e f refl p
  by_relation name None e f p = absurd (refused why.UnknownColumn p)

  by_name : (o : Option (List ℕ)) → kth names place.k ≡ o → of_kind asked (kind_of_place d place.column o) ≡ None → IsPlaced d names place asked
  by_name (Some name) e p = by_relation name (relation_named d name) e refl p
  by_name None e p = absurd (refused why.UnknownColumn p)

-- every test can be made
pub tests_there : (d : Database) (names : List (List ℕ)) (tests : List Test) → check_tests d names tests ≡ None
    → All (λ t. IsPlaced d names t.place (λ k. can_compare t.op k (value_kind t.value))) tests
tests_there d names [] passed = All-nil (λ t. IsPlaced d names t.place (λ k. can_compare t.op k (value_kind t.value)))
tests_there d names (test ∷ tests) passed =
    let asked : Kind → Bool = λ k. can_compare test.op k (value_kind test.value) in
    All-cons (λ t. IsPlaced d names t.place (λ k. can_compare t.op k (value_kind t.value))) test tests
    (place_there d names test.place asked (first_passed (check_place d names test.place asked) (check_tests d names tests) passed))
    (tests_there d names tests (second_passed (check_place d names test.place asked) (check_tests d names tests) passed))

-- every place is there
pub places_there : (d : Database) (names : List (List ℕ)) (places : List Place) → check_places d names places ≡ None → All (λ p. IsPlaced d names p (λ k. true)) places
places_there d names [] passed = All-nil (λ p. IsPlaced d names p (λ k. true))
places_there d names (place ∷ places) passed =
    let here : Option Refusal = check_place d names place (λ k. true) in
    All-cons (λ p. IsPlaced d names p (λ k. true)) place places (place_there d names place (λ k. true) (first_passed here (check_places d names places) passed))
    (places_there d names places (second_passed here (check_places d names places) passed))

-- What names lead to where the checks of a plan passed.
use Rattle.std.proofs.Common.{◌≡◌, ℕ, Bool, true, false, List, Option, Some, None, refl, sym, ◌∙◌, ap, subst, true≢false, Bor}
use Rattle.std.specs.Prelude.{is_some, nat_eq, IfSome, option_map}
use Rattle.std.specs.List.{list_any}
use Rattle.plan_sources.specs.Plain.{LacksInts}
use Rattle.sand_base.specs.declared.kind.Kind.{Kind}
use Rattle.sand_base.specs.declared.kind.Kind.TheVariants as kind
use Rattle.sand_base.specs.Shape.{is_spatial, same_kind}
use Rattle.sand_model.specs.Checks.{kind_named, is_indexed, has_rectangles, check_column, check_relation}
use Rattle.sand_model.specs.Database.{Database, Relation, Index, relation_named, column_named, index_at, element}
use Rattle.sand_model.specs.Operators.{kth}
use Rattle.statements.specs.declared.column.Column.{Column}
use Rattle.statements.specs.declared.column.Place.{Place}
use Rattle.sand_store.specs.Catalog.{CatalogView, IsCatalog, IsDescribed, IsColumnAt}
use Rattle.sand_store.specs.declared.relation.Relation.{Relation as StoredRelation}
use Rattle.sand_store.specs.Standing.{kind_at as stored_kind}
use Rattle.plan_names.proofs.Columns.{column_of_kind, index_by_place}
use Rattle.plan_names.proofs.Passed.{IsSearchable, IsUsable, column_searchable, column_usable, relation_there, IsPlaced, place_there}
use Rattle.plan_names.specs.Indexed.{LacksIndex}
use Rattle.plan_names.specs.Spots.{HasNoColumn, names_of}
use Rattle.plan_ops.specs.Checked.{IsChecked, IsNearChecked, IsPlaceChecked}

-- what is there is not missing
there : {A : Type 0} (o : Option A) (a : A) → o ≡ Some a → o ≡ None → ⊥
there {A} o a e f = true≢false (sym (ap (λ (x : Option A). is_some x) e) ∙ ap (λ (x : Option A). is_some x) f)

same : {A : Type 0} (o : Option A) (x y : A) → o ≡ Some x → o ≡ Some y → x ≡ y
same {A} o x y e f = ap value_or (sym e ∙ f) where
  value_or : Option A → A
  value_or None = x
  value_or (Some n) = n

-- the relation that is scanned is there
pub scanned : (d : Database) (name : List ℕ) → check_relation d name ≡ None → relation_named d name ≡ None → ⊥
scanned d name passed none = let r = relation_there d name passed in there (relation_named d name) r.0 r.1 none

-- The column of this name of a relation has a kind that is asked, and an index.
record IsUsed (asked : Kind → Bool) (name : List ℕ) (r : Relation) : Type 0 where
  pub kind : Kind
  pub of_kind : kind_named r name ≡ Some kind
  pub is_asked : asked kind ≡ true
  pub indexed : is_indexed r name ≡ true

-- the column has an index where one stands at its place
abbrev indexed_at : Relation → Option ℕ → Bool
indexed_at r None = false
indexed_at r (Some at) = is_some (index_at r at)

module _ (d : Database) (column : Column) (spatial : Bool) (checked : IsChecked d column spatial) where
  usable : IsUsable d column checked.asked
  usable = column_usable d column checked.asked checked.passed

  used : (r : Relation) → relation_named d column.relation ≡ Some r → IsUsed checked.asked column.column r
  used r found =
      subst (IsUsed checked.asked column.column) (same (relation_named d column.relation) usable.relation r usable.found found)
      (record { kind = usable.kind; of_kind = usable.of_kind; is_asked = usable.is_asked; indexed = usable.indexed })

  -- the relation of a column is there
  pub related : relation_named d column.relation ≡ None → ⊥
  related none = there (relation_named d column.relation) usable.relation usable.found none

  -- the column is there
  pub placed : (r : Relation) → relation_named d column.relation ≡ Some r → column_named r.schema column.column ≡ None → ⊥
  placed r found none = true≢false (sym (used r found).indexed ∙ ap (indexed_at r) none)

  -- it has a kind that is asked
  pub kind_there : (r : Relation) (at : ℕ) → relation_named d column.relation ≡ Some r → column_named r.schema column.column ≡ Some at → IsColumnAt r.schema at spatial
  kind_there r at found place =
      let u = used r found in
      column_of_kind r column.column at u.kind spatial place u.of_kind (checked.kinds u.kind u.is_asked)

  -- it has an index
  pub index_there : (r : Relation) (at : ℕ) → relation_named d column.relation ≡ Some r → column_named r.schema column.column ≡ Some at → index_at r at ≡ None → ⊥
  index_there r at found place none =
      true≢false (sym (used r found).indexed ∙ (index_by_place r column.column at place ∙ ap (λ (o : Option Index). is_some o) none))

  -- so it does not lack one
  pub not_lacking : LacksIndex d column spatial → ⊥
  not_lacking lacks = by_place (column_named usable.relation.schema column.column) refl where
    by_place : (o : Option ℕ) → column_named usable.relation.schema column.column ≡ o → ⊥
    by_place (Some at) e = index_there usable.relation at usable.found e (lacks usable.relation at usable.found e (kind_there usable.relation at usable.found e))
    by_place None e = placed usable.relation usable.found e

-- the column has an R-tree where one stands at its place
abbrev treed_at : Relation → Option ℕ → Bool
treed_at r None = false
treed_at r (Some at) = list_any (λ tree. nat_eq tree.0 at) r.rectangles

module _ (d : Database) (column : Column) (checked : IsNearChecked d column) where
  near_usable : IsSearchable has_rectangles d column is_spatial
  near_usable = column_searchable has_rectangles d column is_spatial checked

  -- the relation of a column with an R-tree is there
  pub near_related : relation_named d column.relation ≡ None → ⊥
  near_related none = there (relation_named d column.relation) near_usable.relation near_usable.found none

  treed : (r : Relation) → relation_named d column.relation ≡ Some r → has_rectangles r column.column ≡ true
  treed r found =
      subst (λ (x : Relation). has_rectangles x column.column ≡ true) (same (relation_named d column.relation) near_usable.relation r near_usable.found found) near_usable.indexed

  -- the column is there
  pub near_placed : (r : Relation) → relation_named d column.relation ≡ Some r → column_named r.schema column.column ≡ None → ⊥
  near_placed r found none = true≢false (sym (treed r found) ∙ ap (treed_at r) none)

  -- it has an R-tree
  pub tree_there : {A : Type 0} (r : Relation) (at : ℕ) → relation_named d column.relation ≡ Some r → column_named r.schema column.column ≡ Some at → (o : Option A)
      → list_any (λ tree. nat_eq tree.0 at) r.rectangles ≡ is_some o → o ≡ None → ⊥
  tree_there {A} r at found place o is none =
      true≢false (sym (treed r found) ∙ (ap (treed_at r) place ∙ (is ∙ ap (λ (x : Option A). is_some x) none)))

-- the kind of a column by its place

abbrev kind_of_column : Option (List ℕ × Kind) → Option Kind
kind_of_column (Some c) = Some c.1
kind_of_column None = None

abbrev kind_at : List (List ℕ × Kind) → Option ℕ → Option Kind
kind_at schema (Some at) = kind_of_column (element schema at)
kind_at schema None = None

module _ (d : Database) (names : List (List ℕ)) (place : Place) (checked : IsPlaceChecked d names place) where
  -- a place that passed is there

  at_place : IsPlaced d names place checked.asked
  at_place = place_there d names place checked.asked checked.passed

  -- its relation is among the names
  pub named_there : kth names place.k ≡ None → ⊥
  named_there none = there (kth names place.k) at_place.name at_place.named none

  -- which has its column
  pub column_there : (name : List ℕ) → kth names place.k ≡ Some name → HasNoColumn d (names_of name place.column) → ⊥
  column_there name named none =
      let here : at_place.name ≡ name = same (kth names place.k) at_place.name name at_place.named named in
      let lacks : HasNoColumn d (names_of at_place.name place.column) = subst (λ (n : List ℕ). HasNoColumn d (names_of n place.column)) (sym here) none in
      let gone : kind_named at_place.relation place.column ≡ None = ap (kind_at at_place.relation.schema) (lacks at_place.relation at_place.found) in
      there (kind_named at_place.relation place.column) at_place.kind at_place.of_kind gone

-- the relation that the catalog gives is described
pub described_at : (catalog : CatalogView) (o : Option (Bor StoredRelation)) (r : Bor StoredRelation) → o ≡ Some r
    → IfSome o (λ x. IsCatalog catalog → IsDescribed catalog.limits x.now) → IsCatalog catalog
    → IsDescribed catalog.limits r.now
described_at catalog o r e h is = subst (λ (x : Option (Bor StoredRelation)). IfSome x (λ y. IsCatalog catalog → IsDescribed catalog.limits y.now)) e h is

-- a column of ints that passed does not lack its index

kinds_same : (o : Option (List ℕ × Kind)) → kind_of_column o ≡ option_map (λ c. c.1) o
kinds_same (Some c) = refl
kinds_same None = refl

only_int : (k : Kind) → same_kind kind.Int k ≡ true → k ≡ kind.Int
only_int kind.Int e = refl
only_int kind.Text e = absurd (true≢false (sym e))
only_int kind.Point e = absurd (true≢false (sym e))
only_int kind.Segment e = absurd (true≢false (sym e))
only_int kind.Polygon e = absurd (true≢false (sym e))

int_kinds : (k : Kind) → same_kind kind.Int k ≡ true → is_spatial k ≡ false
int_kinds k e = ap is_spatial (only_int k e)

pub not_lacking_ints : (d : Database) (column : Column) → check_column d column (same_kind kind.Int) ≡ None → LacksInts d column → ⊥
not_lacking_ints d column passed lacks = by_place (column_named u.relation.schema column.column) refl
  where
    checked : IsChecked d column false
    checked = record { asked = same_kind kind.Int; kinds = int_kinds; passed = passed }

    u : IsUsable d column (same_kind kind.Int)
    u = column_usable d column (same_kind kind.Int) passed

    ints : (at : ℕ) → column_named u.relation.schema column.column ≡ Some at → stored_kind u.relation.schema at ≡ Some kind.Int
    ints at e =
        sym (kinds_same (element u.relation.schema at)) ∙ (sym (ap (kind_at u.relation.schema) e) ∙ (u.of_kind ∙ ap (λ (k : Kind). Some k) (only_int u.kind u.is_asked)))

    by_place : (o : Option ℕ) → column_named u.relation.schema column.column ≡ o → ⊥
    by_place (Some at) e = index_there d column false checked u.relation at u.found e (lacks u.relation at u.found e (ints at e))
    by_place None e = placed d column false checked u.relation u.found e

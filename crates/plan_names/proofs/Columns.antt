-- What the catalog tells of a column and of a place, and which check that is.
use Rattle.std.proofs.Common.{◌≡◌, ℕ, Bool, true, false, cond, List, Option, Some, None, refl, sym, ◌∙◌, ap, true≢false, Bor, subst}
use Rattle.std.specs.Prelude.{is_some, nat_eq, IfSome}
use Rattle.std.specs.List.{list_any}
use Rattle.std.specs.Option.{option_map}
use Rattle.page_pool.specs.Disk.{PageMap}
use Rattle.sand_base.specs.declared.kind.Kind.{Kind}
use Rattle.sand_base.specs.declared.refusal.Refusal.{Refusal}
use Rattle.sand_base.specs.declared.refusal.Refusal.TheVariants as why
use Rattle.sand_base.specs.Shape.{is_spatial}
use Rattle.sand_model.specs.Checks.{kind_named, is_indexed, has_rectangles, check_search, check_relation, place_kind, check_place}
use Rattle.sand_model.specs.Database.{Database, Relation, Index, relation_named, column_named, index_at, element}
use Rattle.sand_model.specs.Operators.{kth}
use Rattle.statements.specs.declared.column.Column.{Column}
use Rattle.statements.specs.declared.column.Place.{Place}
use Rattle.sand_store.specs.Catalog.{IsColumnAt}
use Rattle.sand_store.specs.declared.relation.Relation.{Relation as StoredRelation}
use Rattle.sand_store.specs.Contents.{relation_in}
use Rattle.plan_names.specs.ColumnCheck.{check_kind, check_in}

abbrev Columns : Type 0
Columns = List (List ℕ × Kind)

-- the kind of a column by its place
abbrev kind_of_column : Option (List ℕ × Kind) → Option Kind
kind_of_column (Some c) = Some c.1
kind_of_column None = None

abbrev kind_at : Columns → Option ℕ → Option Kind
kind_at schema (Some at) = kind_of_column (element schema at)
kind_at schema None = None

some_kind : (k l : Kind) → Some k ≡ Some l → k ≡ l
some_kind k l e = ap (λ (o : Option Kind). elim o [ Some x ↦ x | None ↦ k ]) e

-- a column of a kind stands at its place
pub column_at : (r : Relation) (name : List ℕ) (at : ℕ) (k : Kind) → column_named r.schema name ≡ Some at → kind_named r name ≡ Some k
    → IsColumnAt r.schema at (is_spatial k)
column_at r name at k place kind = at_element (element r.schema at) refl (sym (ap (kind_at r.schema) place) ∙ kind) where
  at_element : (o : Option (List ℕ × Kind)) → element r.schema at ≡ o → kind_of_column o ≡ Some k → IsColumnAt r.schema at (is_spatial k)
  at_element (Some c) e f = (c.0, c.1, e, ap is_spatial (some_kind c.1 k f))
  at_element None e f = absurd (true≢false (sym (ap (λ (o : Option Kind). is_some o) f)))

pub column_of_kind : (r : Relation) (name : List ℕ) (at : ℕ) (k : Kind) (spatial : Bool) → column_named r.schema name ≡ Some at → kind_named r name ≡ Some k → is_spatial k ≡ spatial
    → IsColumnAt r.schema at spatial
column_of_kind r name at k spatial place kind is =
    let c = column_at r name at k place kind in (c.0, c.1, c.2, c.3 ∙ is)

-- the relation that the catalog gives, as it is in the database
abbrev pub seen_in : PageMap → Option (Bor StoredRelation) → Option Relation
seen_in pages o = option_map (λ (r : Bor StoredRelation). relation_in pages r.now) o

-- the column has an index where one stands at its place
abbrev indexed_at : Relation → Option ℕ → Bool
indexed_at r None = false
indexed_at r (Some at) = is_some (index_at r at)

pub index_by_place : (r : Relation) (name : List ℕ) (at : ℕ) → column_named r.schema name ≡ Some at → is_indexed r name ≡ is_some (index_at r at)
index_by_place r name at place = ap (indexed_at r) place

-- the column has an R-tree where one stands at its place
abbrev treed_at : Relation → Option ℕ → Bool
treed_at r None = false
treed_at r (Some at) = list_any (λ tree. nat_eq tree.0 at) r.rectangles

pub rectangles_by_place : (r : Relation) (name : List ℕ) (o : Option ℕ) → column_named r.schema name ≡ o → has_rectangles r name ≡ treed_at r o
rectangles_by_place r name o place = ap (treed_at r) place

-- an index is there exactly where a search finds one
pub found_index : {A : Type 0} (o : Option A) (Found : A → Type 0) (index : Option Index) → IfSome o Found → ((a : A) → Found a → is_some index ≡ true)
    → (o ≡ None → index ≡ None) → is_some index ≡ is_some o
found_index (Some a) Found index h there none = there a h
found_index None Found index h there none = ap (λ (i : Option Index). is_some i) (none refl)

-- the check of a column, where it is there, and its kind is known and what it is searched by
pub column_checked : (has : Relation → List ℕ → Bool) (r : Relation) (name : List ℕ) (asked : Kind → Bool) (k : Kind) (a b : Bool) → kind_named r name ≡ Some k → asked k ≡ a → has r name ≡ b
    → cond a (cond b None (Some why.NoIndex)) (Some why.WrongKind) ≡ check_in has r name asked
column_checked has r name asked k a b kind is index =
    sym (ap (check_kind has r name asked) kind
    ∙ (ap (λ (x : Bool). cond x (cond (has r name) None (Some why.NoIndex)) (Some why.WrongKind)) is
    ∙ ap (λ (x : Bool). cond a (cond x None (Some why.NoIndex)) (Some why.WrongKind)) index))

-- the column is not there
pub column_missing : (has : Relation → List ℕ → Bool) (r : Relation) (name : List ℕ) (asked : Kind → Bool) → kind_named r name ≡ None → Some why.UnknownColumn ≡ check_in has r name asked
column_missing has r name asked kind = sym (ap (check_kind has r name asked) kind)

-- the check of a column by its relation
abbrev pub of_relation : (Relation → List ℕ → Bool) → List ℕ → (Kind → Bool) → Option Relation → Option Refusal
of_relation has name asked None = Some why.UnknownRelation
of_relation has name asked (Some r) = check_in has r name asked

pub column_check : (has : Relation → List ℕ → Bool) (d : Database) (column : Column) (asked : Kind → Bool) (o : Option Relation) → relation_named d column.relation ≡ o
    → of_relation has column.column asked o ≡ check_search has d column asked
column_check has d column asked o e = sym (ap (of_relation has column.column asked) e)

-- the check of a relation
abbrev pub is_missing : Option Relation → Option Refusal
is_missing None = Some why.UnknownRelation
is_missing (Some r) = None

pub relation_check : (d : Database) (name : List ℕ) (o : Option Relation) → relation_named d name ≡ o → is_missing o ≡ check_relation d name
relation_check d name o e = sym (ap is_missing e)

-- the kind of a place, by the relation of its id
abbrev pub kind_in : List ℕ → Option Relation → Option Kind
kind_in name (Some r) = kind_named r name
kind_in name None = None

abbrev pub kind_of_place : Database → List ℕ → Option (List ℕ) → Option Kind
kind_of_place d column (Some name) = kind_in column (relation_named d name)
kind_of_place d column None = None

pub place_missing : (d : Database) (names : List (List ℕ)) (place : Place) → kth names place.k ≡ None → None ≡ place_kind d names place
place_missing d names place e = sym (ap (kind_of_place d place.column) e)

pub place_found : (d : Database) (names : List (List ℕ)) (place : Place) (name : List ℕ) (o : Option Relation) → kth names place.k ≡ Some name → relation_named d name ≡ o
    → kind_in place.column o ≡ place_kind d names place
place_found d names place name o e f = sym (ap (kind_of_place d place.column) e ∙ ap (kind_in place.column) f)

-- the check of a place, by its kind
abbrev pub of_kind : (Kind → Bool) → Option Kind → Option Refusal
of_kind asked None = Some why.UnknownColumn
of_kind asked (Some k) = cond (asked k) None (Some why.WrongKind)

pub place_check : (d : Database) (names : List (List ℕ)) (place : Place) (asked : Kind → Bool) (o : Option Kind) → place_kind d names place ≡ o
    → of_kind asked o ≡ check_place d names place asked
place_check d names place asked o e = sym (ap (of_kind asked) e)

-- what holds of what is there
pub given_some : {A : Type 0} (P : A → Type 0) (o : Option A) (a : A) → o ≡ Some a → IfSome o P → P a
given_some P o a e h = subst (λ x. IfSome x P) e h

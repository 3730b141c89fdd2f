-- Steps inside a load of rows.
use Rattle.std.specs.Prelude.{◌≡◌, ℕ, ◌+◌, ◌-◌, true, not, nat_le, List, [], ◌∷◌, ◌⊎◌, map, Option, Some, None}
use Rattle.code_btree.specs.Calls.{Keeps}
use Rattle.page_pool.specs.Disk.{PageMap}
use Rattle.pmr_tree.specs.Quadtree.{store_of}
use Rattle.sand_base.specs.declared.kind.Kind.{Kind}
use Rattle.sand_base.specs.declared.limits.Limits.{Limits}
use Rattle.sand_base.specs.declared.refusal.Refusal.{Refusal}
use Rattle.sand_base.specs.declared.refusal.Refusal.TheVariants as why
use Rattle.sand_base.specs.declared.value.Value.{Value}
use Rattle.sand_model.specs.Checks.{first_refusal}
use Rattle.sand_model.specs.Database.{Relation, with_row}
use Rattle.sand_model.specs.StatementChecks.{Setting, IsSetting, refused_where, is_row_of, check_length, check_ids, check_listings}
use Rattle.sand_store.specs.Calls.{check_kinds, loaded, is_of_a_row}
use Rattle.sand_store.specs.Catalog.{RelationView, IsDescribed}
use Rattle.sand_store.specs.Contents.{relation_in}
use Rattle.sand_store.specs.Ownership.{relation_pages}
use Rattle.sand_store.specs.Standing.{RelationStands}
use Rattle.sand_store.specs.Steps.{IsOutside}

-- of every setting with these limits
abbrev pub UnderLimits : Limits → (Setting → Type 0) → Type 0
UnderLimits limits P = (setting : Setting) → IsSetting setting → setting.limits ≡ limits → P setting

-- the checks of one row of a load
abbrev pub row_refusal : Setting → List Value → Relation → Option Refusal
row_refusal setting row relation =
    first_refusal (check_kinds relation row ∷ check_length row ∷ check_ids setting.limits relation ∷ check_listings setting.limits (with_row setting.gap row relation) ∷ [])

-- the checks of a row that need no page, under an id that is to be given out, and those of rows from that id on

-- the checks of a row that need no page, under an id that is to be given out
abbrev pub check_from : Limits → List (List ℕ × Kind) → ℕ → List Value → Option Refusal
check_from limits schema next row =
    first_refusal (refused_where (not (is_row_of schema row)) why.WrongKind ∷ check_length row ∷ refused_where (nat_le limits.ids (next - 1)) why.IdsSpent ∷ [])

-- the checks of rows that need no page, from that id on
abbrev pub checks_from : Limits → List (List ℕ × Kind) → ℕ → List (List Value) → Option Refusal
checks_from limits schema next [] = None
checks_from limits schema next (row ∷ rows) = first_refusal (check_from limits schema next row ∷ checks_from limits schema (next + 1) rows ∷ [])

-- those of rows that are to enter a relation
abbrev pub plain_of : Limits → RelationView → List (List Value) → Option Refusal
plain_of limits r rows = checks_from limits r.schema r.next rows

-- what stops a load: something outside, at any point, or a check, whose answer is known where the disk tells its pages
abbrev pub StopsAt : Type 0 → Limits → (Setting → Option Refusal) → Refusal → Type 0
StopsAt told limits check refusal = IsOutside refusal ⊎ ((is_of_a_row refusal ≡ true) × (told → UnderLimits limits (λ setting. check setting ≡ Some refusal)))

-- Rows entered a relation of the catalog, so many: what holds over any pages.
pub record CountsRows (limits : Limits) (r u : RelationView) (count : ℕ) : Type 0 where
  pub name : u.name ≡ r.name
  pub schema : u.schema ≡ r.schema
  pub next : u.next ≡ r.next + count
  pub places : map (λ path. path.0) u.paths ≡ map (λ path. path.0) r.paths
  pub columns : map (λ tree. tree.0) u.trees ≡ map (λ tree. tree.0) r.trees
  pub described : IsDescribed limits u

-- Of some rows those before the rest entered a relation: it stands, no page of another structure was touched, and with the rest it makes the whole.
pub record Enters (m w : PageMap) (limits : Limits) (r u : RelationView) (rows rest : List (List Value)) : Type 0 where
  pub stands : RelationStands w limits u
  pub keeps : Keeps (store_of m) (store_of w) (relation_pages m r) (relation_pages w u)
  pub whole : UnderLimits limits (λ setting. loaded setting rows (relation_in m r) ≡ loaded setting rest (relation_in w u))

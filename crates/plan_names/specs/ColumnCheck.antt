-- The checks of a column in a relation that is there.
use Rattle.std.specs.Prelude.{ℕ, Bool, cond, List, Option, Some, None}
use Rattle.sand_base.specs.declared.kind.Kind.{Kind}
use Rattle.sand_base.specs.declared.refusal.Refusal.{Refusal}
use Rattle.sand_base.specs.declared.refusal.Refusal.TheVariants as why
use Rattle.sand_model.specs.Checks.{kind_named, is_indexed, has_rectangles}
use Rattle.sand_model.specs.Database.{Relation}
use Rattle.plan_names.specs.declared.asked.SearchedBy.{SearchedBy}
use Rattle.plan_names.specs.declared.asked.SearchedBy.TheVariants as way

-- whether a relation has for a column of this name what it is searched by
abbrev pub has_search : SearchedBy → Relation → List ℕ → Bool
has_search way.Index relation name = is_indexed relation name
has_search way.Rtree relation name = has_rectangles relation name

-- a column of this kind, where it is there: the kind is one that is asked, and there is what it is searched by
abbrev pub check_kind : (Relation → List ℕ → Bool) → Relation → List ℕ → (Kind → Bool) → Option Kind → Option Refusal
check_kind has relation name asked None = Some why.UnknownColumn
check_kind has relation name asked (Some k) =
    cond (asked k) (cond (has relation name) None (Some why.NoIndex)) (Some why.WrongKind)

-- the column of this name
abbrev pub check_in : (Relation → List ℕ → Bool) → Relation → List ℕ → (Kind → Bool) → Option Refusal
check_in has relation name asked = check_kind has relation name asked (kind_named relation name)

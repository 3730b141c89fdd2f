-- Which kinds of columns an operator can use.
use Rattle.std.specs.Prelude.{Bool, true, ◌&&◌}
use Rattle.sand_base.specs.declared.kind.Kind.{Kind}
use Rattle.sand_base.specs.declared.kind.Kind.TheVariants as kind
use Rattle.sand_base.specs.Shape.{same_kind, is_spatial}
use Rattle.sand_model.specs.Checks.{is_plain, is_plain_pair, can_compare}
use Rattle.plan_names.specs.declared.asked.Asked.{Asked}
use Rattle.plan_names.specs.declared.asked.Asked.TheVariants as asked

-- the kind is one that is asked
abbrev pub is_asked : Asked → Kind → Bool
is_asked asked.Any k = true
is_asked asked.Spatial k = is_spatial k
is_asked asked.Int k = same_kind kind.Int k
is_asked (asked.EqualTo other) k = is_plain k && same_kind k other
is_asked (asked.MatchOf place) k = is_plain_pair place k
is_asked (asked.ComparedWith op other) k = can_compare op k other

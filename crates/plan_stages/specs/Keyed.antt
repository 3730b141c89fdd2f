-- Rows with the keys by which they are sorted, and the order of gaps as keys.
use Rattle.std.specs.Prelude.{Option, Some, None, option_map}
use Rattle.std.specs.declared.cmp.Ordering.{Ordering}
use Rattle.std.specs.declared.cmp.Ordering.TheVariants as ordering
use Rattle.exact_frac.specs.Frac.{value_cmp}
use Rattle.exact_frac.specs.declared.frac.Frac.{Frac}
use Rattle.sand_model.specs.Operators.{PlanRow}
use Rattle.plan_iterator.specs.Lowest.{lowest_of}
use Rattle.plan_iterator.specs.Rows.{row_of}
use Rattle.plan_stages.specs.declared.keyed.Keyed.{Keyed}

-- by the keys alone
abbrev pub by_key : {K : Type 0} → (K → K → Ordering) → Keyed K → Keyed K → Ordering
by_key cmp a b = cmp a.key b.key

-- the row of the model
abbrev pub keyed_row : {K : Type 0} → Keyed K → PlanRow
keyed_row k = row_of k.row

-- by value; no gap comes first
abbrev pub gap_order : Option Frac → Option Frac → Ordering
gap_order (Some f) (Some g) = value_cmp f g
gap_order (Some f) None = ordering.Greater
gap_order None (Some g) = ordering.Less
gap_order None None = ordering.Equal

-- the row of the model with its key as its gap
abbrev pub gapped_row : Keyed (Option Frac) → PlanRow
gapped_row k = record { gap = option_map lowest_of k.key; ids = k.row.ids; values = k.row.values }

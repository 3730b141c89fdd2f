-- A plan's row as contracts see it: its gap in lowest terms, so that rows of one gap are one.
use Rattle.std.specs.Prelude.{option_map}
use Rattle.ring_geom.proofs.Measured.{measured}
use Rattle.sand_model.specs.Measure.{Measure}
use Rattle.sand_model.specs.Operators.{PlanRow}
use Rattle.sand_model.specs.Reach.{Counts}
use Rattle.plan_iterator.specs.Lowest.{lowest_of}
use Rattle.plan_iterator.specs.declared.answer.Answer.{Answer}
use Rattle.plan_iterator.specs.declared.stats.SourceCounts.{SourceCounts}

-- the gap of each two figures in lowest terms; it is a measure
abbrev pub plan_measure : Measure
plan_measure a b = lowest_of (measured.0 a b)

-- the row of the model
abbrev pub row_of : Answer → PlanRow
row_of a = record { gap = option_map lowest_of a.gap; ids = a.ids; values = a.values }

-- the counts of the model
abbrev pub counts_of : SourceCounts → Counts
counts_of n = record { blocks = n.blocks; pairs = n.pairs; geometries = n.geometries }

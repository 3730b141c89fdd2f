-- Points and segments are kept whole.
use Rattle.std.proofs.Common.{◌∙◌, sym, ap}
use Rattle.sand_model.specs.Nodes.{rough_figure}
use Rattle.pmr_tree.specs.Entries.{value_of}
use Rattle.pmr_tree.proofs.Values.{point_value, segment_value}
use Rattle.pmr_tree.proofs.value.value_of.Goals as goal

pub returns-in-Point : goal.returns-in-Point
returns-in-Point c = c.packed.ensures ∙ point_value c.in-Point.p ∙ ap (λ s. value_of (rough_figure s)) (sym c.in-Point.is)

pub returns-in-Segment : goal.returns-in-Segment
returns-in-Segment c = c.packed-in-Segment.ensures ∙ segment_value c.in-Segment.s ∙ ap (λ s. value_of (rough_figure s)) (sym c.in-Segment.is)

-- An entry gives its item, by the kind of its rough shape.
use Rattle.std.proofs.Common.{sym, subst, [], ◌∷◌, option_to_list}
use Rattle.std.specs.List.{AllZip}
use Rattle.sand_base.specs.declared.goal.Goal.TheVariants as figure
use Rattle.sand_base.specs.declared.rough.Rough.{Rough}
use Rattle.sand_base.specs.declared.shape.Shape.TheVariants as shape
use Rattle.best_first.specs.Item.{IsAlike}
use Rattle.far_cursor.specs.FarRanking.{key_from, far_entry}
use Rattle.far_cursor.proofs.FarEntries.{exact_same, bound_same}
use Rattle.far_cursor.proofs.entries.entry_item.Goals as goal

pub returns-in-Point : goal.returns-in-Point
returns-in-Point c =
    subst (λ (r : Rough). AllZip IsAlike (option_to_list c.exact_item.result) (far_entry c.args.goal c.args.leaf c.args.listed.id r)) (sym c.in-Point.is)
    (exact_same c.args.leaf c.args.listed.id c.shape_key.result (key_from c.args.goal (figure.Shape (shape.Point c.in-Point.p))) c.shape_key.ensures
    (option_to_list c.exact_item.result) c.exact_item.ensures)

pub returns-in-Segment : goal.returns-in-Segment
returns-in-Segment c =
    subst (λ (r : Rough). AllZip IsAlike (option_to_list c.exact_item-in-Segment.result) (far_entry c.args.goal c.args.leaf c.args.listed.id r)) (sym c.in-Segment.is)
    (exact_same c.args.leaf c.args.listed.id c.shape_key-in-Segment.result (key_from c.args.goal (figure.Shape (shape.Segment c.in-Segment.s))) c.shape_key-in-Segment.ensures
    (option_to_list c.exact_item-in-Segment.result) c.exact_item-in-Segment.ensures)

pub returns-in-Bound : goal.returns-in-Bound
returns-in-Bound c =
    subst (λ (r : Rough). AllZip IsAlike (c.rough_item.result ∷ []) (far_entry c.args.goal c.args.leaf c.args.listed.id r)) (sym c.in-Bound.is)
    (bound_same c.args.leaf c.args.listed.id c.rect_key.result (key_from c.args.goal (figure.Rect c.in-Bound.r)) c.rect_key.ensures c.rough_item.result c.rough_item.ensures)

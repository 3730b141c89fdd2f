-- Why the field writes no shape of the kind, or writes one.
use Rattle.std.proofs.Common.{sym, ◌∙◌}
use Rattle.std.proofs.lemmas.Bool.{eqb-false, eqb-true}
use Rattle.sand_base.specs.contracts.kind.Kind.{the_type}
use denote.Enum.Bare.{differs_true, differs_false}
use Rattle.script_text.proofs.Fields.{no-shape, left-none, none-left, stuck-none, out-none, other-none, shape-some}
use Rattle.script_text.proofs.field.shape_field.Goals as goal

-- something is left of it
pub returns-then-not-is_empty : goal.returns-then-not-is_empty
returns-then-not-is_empty c =
    no-shape c.args.kind c.args.field.now c.requires
    (left-none c.args.kind c.args.field.now c.unread.result.now c.unread.ensures (eqb-false _ 0 (sym c.is_empty.ensures ∙ c.if-not-is_empty.true)))

-- the reader is stuck
pub returns-in-Err-Here : goal.returns-in-Err-Here
returns-in-Err-Here c =
    let all = sym c.unread.ensures ∙ none-left c.unread.result.now (eqb-true _ 0 (sym c.is_empty.ensures ∙ c.if-not-is_empty.false)) in
    no-shape c.args.kind c.args.field.now c.requires
    (stuck-none c.args.kind c.args.field.now c.over-cursor.result c.over-cursor.ensures all c.whole_shape.new.self.left (rw c.in-Err-Here.field-0-is at c.in-Err-Here.ensures))

-- a coordinate or a polygon is out of range
pub returns-then-not-is_in_range : goal.returns-then-not-is_in_range
returns-then-not-is_in_range c =
    let all = sym c.unread.ensures ∙ none-left c.unread.result.now (eqb-true _ 0 (sym c.is_empty.ensures ∙ c.if-not-is_empty.false)) in
    no-shape c.args.kind c.args.field.now c.requires
    (out-none c.args.kind c.args.field.now c.over-cursor.result c.over-cursor.ensures all c.in-Ok.shape c.whole_shape.new.self c.in-Ok.ensures
    (sym c.is_in_range.ensures ∙ c.if-not-is_in_range.true))

-- it is of another kind
pub returns-then-ne : goal.returns-then-ne
returns-then-ne c =
    let all = sym c.unread.ensures ∙ none-left c.unread.result.now (eqb-true _ 0 (sym c.is_empty.ensures ∙ c.if-not-is_empty.false)) in
    no-shape c.args.kind c.args.field.now c.requires
    (other-none c.args.kind c.args.field.now c.over-cursor.result c.over-cursor.ensures all c.in-Ok.shape c.whole_shape.new.self c.in-Ok.ensures
    (λ e. differs_true the_type c.kind.result c.args.kind (sym c.ne.ensures ∙ c.if-ne.true) (c.kind.ensures ∙ e)))

-- it is of the kind
pub returns : goal.returns
returns c =
    let all = sym c.unread.ensures ∙ none-left c.unread.result.now (eqb-true _ 0 (sym c.is_empty.ensures ∙ c.if-not-is_empty.false)) in
    shape-some c.args.kind c.args.field.now c.over-cursor.result c.over-cursor.ensures all c.in-Ok.shape c.whole_shape.new.self c.in-Ok.ensures
    (sym c.is_in_range.ensures ∙ c.if-not-is_in_range.false)
    (sym c.kind.ensures ∙ differs_false the_type tt c.kind.result c.args.kind (sym c.ne.ensures ∙ c.if-ne.false))
    (sym c.has_no_tab.ensures ∙ c.if-not-has_no_tab.false)

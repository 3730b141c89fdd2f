-- by the kind of the column
use Rattle.std.proofs.Common.{sym, ◌∙◌, refl, true, false}
use Rattle.sand_store.specs.Contents.{relation_in}
use Rattle.plan_names.specs.Asked.{is_asked}
use Rattle.plan_names.specs.ColumnCheck.{has_search}
use Rattle.plan_names.proofs.Columns.{column_checked, column_missing}
use Rattle.plan_names.proofs.column.check_in.Goals as goal

pub returns-in_default : goal.returns-in_default
returns-in_default c = λ limits described pages.
    column_missing (has_search c.args.way) (relation_in pages c.args.relation.now) c.args.name.now (is_asked c.args.asked) (sym (c.kind_named.ensures pages) ∙ c.in_default.is)

pub returns-then-not-includes : goal.returns-then-not-includes
returns-then-not-includes c = λ limits described pages.
    let r = relation_in pages c.args.relation.now in
    column_checked (has_search c.args.way) r c.args.name.now (is_asked c.args.asked) c.in-Some.kind false (has_search c.args.way r c.args.name.now)
    (sym (c.kind_named.ensures pages) ∙ c.in-Some.is) (sym c.includes.ensures ∙ c.if-not-includes.true) refl

pub returns-then-not-has_search : goal.returns-then-not-has_search
returns-then-not-has_search c = λ limits described pages.
    let kind = sym (c.kind_named.ensures pages) ∙ c.in-Some.is in
    column_checked (has_search c.args.way) (relation_in pages c.args.relation.now) c.args.name.now (is_asked c.args.asked) c.in-Some.kind true false kind
    (sym c.includes.ensures ∙ c.if-not-includes.false) (c.has_search.ensures limits described pages kind ∙ c.if-not-has_search.true)

pub returns : goal.returns
returns c = λ limits described pages.
    let kind = sym (c.kind_named.ensures pages) ∙ c.in-Some.is in
    column_checked (has_search c.args.way) (relation_in pages c.args.relation.now) c.args.name.now (is_asked c.args.asked) c.in-Some.kind true true kind
    (sym c.includes.ensures ∙ c.if-not-includes.false) (c.has_search.ensures limits described pages kind ∙ c.if-not-has_search.false)

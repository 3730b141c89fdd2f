-- by the kind of the place
use Rattle.std.proofs.Common.{Bool, cond, sym, ◌∙◌, ap, Some, None}
use Rattle.sand_base.specs.declared.refusal.Refusal.TheVariants as why
use Rattle.sand_model.specs.Operators.{relations_of}
use Rattle.sand_store.specs.Contents.{database_in}
use Rattle.plan_names.specs.Asked.{is_asked}
use Rattle.statements.specs.Plan.{plan_value}
use Rattle.plan_names.proofs.Columns.{place_check}
use Rattle.plan_names.proofs.place.check_place.Goals as goal

pub returns-in_default : goal.returns-in_default
returns-in_default c = λ pages.
    place_check (database_in pages c.args.catalog.now.relations) (relations_of (plan_value c.args.plan.now)) c.args.place.now (is_asked c.args.asked) None
    (sym (c.place_kind.ensures pages) ∙ c.in_default.is)

pub returns-then-includes : goal.returns-then-includes
returns-then-includes c = λ pages.
    sym (ap (λ (b : Bool). cond b None (Some why.WrongKind)) (sym c.includes.ensures ∙ c.if-includes.true))
    ∙ place_check (database_in pages c.args.catalog.now.relations) (relations_of (plan_value c.args.plan.now)) c.args.place.now (is_asked c.args.asked)
    (Some c.in-Some.kind) (sym (c.place_kind.ensures pages) ∙ c.in-Some.is)

pub returns-else-includes : goal.returns-else-includes
returns-else-includes c = λ pages.
    sym (ap (λ (b : Bool). cond b None (Some why.WrongKind)) (sym c.includes.ensures ∙ c.if-includes.false))
    ∙ place_check (database_in pages c.args.catalog.now.relations) (relations_of (plan_value c.args.plan.now)) c.args.place.now (is_asked c.args.asked)
    (Some c.in-Some.kind) (sym (c.place_kind.ensures pages) ∙ c.in-Some.is)

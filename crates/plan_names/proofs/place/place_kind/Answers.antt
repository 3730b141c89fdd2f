-- the relation of the id, and its column
use Rattle.std.proofs.Common.{ℕ, List, sym, ◌∙◌, ap, Some, None, Option, Bor}
use Rattle.std.specs.Option.{option_map}
use Rattle.sand_base.specs.declared.label.Label.{Label}
use Rattle.sand_model.specs.Checks.{kind_named}
use Rattle.sand_model.specs.Database.{relation_named}
use Rattle.sand_model.specs.Operators.{relations_of}
use Rattle.sand_store.specs.Contents.{database_in, relation_in}
use Rattle.statements.specs.Plan.{plan_value}
use Rattle.plan_names.proofs.Columns.{place_found, seen_in}
use Rattle.plan_names.proofs.place.place_kind.Goals as goal

abbrev name_in : Option (Bor Label) → Option (List ℕ)
name_in o = option_map (λ (name : Bor Label). name.now) o

pub returns-in_err-relation : goal.returns-in_err-relation
returns-in_err-relation c = λ pages.
    let d = database_in pages c.args.catalog.now.relations in
    c.from_residual-in_err-relation.ensures
    ∙ place_found d (relations_of (plan_value c.args.plan.now)) c.args.place.now c.in_ok-name.name.now None
    (sym c.relation_name.ensures ∙ ap name_in c.in_ok-name.was)
    (ap (λ (name : List ℕ). relation_named d name) (sym c.as_str.ensures) ∙ (c.relation.ensures.named pages ∙ ap (seen_in pages) c.in_err-relation.was))

pub returns : goal.returns
returns c = λ pages.
    let d = database_in pages c.args.catalog.now.relations in
    c.kind_named.ensures pages
    ∙ (ap (λ (name : List ℕ). kind_named (relation_in pages c.in_ok-relation.relation.now) name) c.as_str-2.ensures
    ∙ place_found d (relations_of (plan_value c.args.plan.now)) c.args.place.now c.in_ok-name.name.now (Some (relation_in pages c.in_ok-relation.relation.now))
    (sym c.relation_name.ensures ∙ ap name_in c.in_ok-name.was)
    (ap (λ (name : List ℕ). relation_named d name) (sym c.as_str.ensures) ∙ (c.relation.ensures.named pages ∙ ap (seen_in pages) c.in_ok-relation.was)))

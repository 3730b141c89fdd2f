-- by the outermost operator
use Rattle.std.proofs.Common.{◌≡◌, ℕ, List, sym, ◌∙◌, ap, ap₂, map, Option, None, inl, inr}
use Rattle.sand_base.specs.declared.kind.Kind.{Kind}
use Rattle.sand_base.specs.declared.refusal.Refusal.{Refusal}
use Rattle.statements.specs.declared.column.Place.{Place}
use Rattle.statements.specs.declared.plan.Plan.{Plan}
use Rattle.statements.specs.declared.test.Test.{Test}
use Rattle.sand_model.specs.Checks.{check_relation, check_column, check_place, check_tests, check_places}
use Rattle.sand_model.specs.Operators.{relations_of}
use Rattle.statements.specs.Plan as model
use Rattle.sand_store.specs.Contents.{database_in}
use Rattle.plan_names.specs.Asked.{is_asked}
use Rattle.plan_names.specs.declared.asked.Asked.TheVariants as asked
use Rattle.plan_names.specs.OperatorCheck.{check_operator}
use Rattle.statements.specs.Plan.{plan_value}
use Rattle.plan_names.proofs.checks.check_operator.Goals as goal

pub returns-in-Scan : goal.returns-in-Scan
returns-in-Scan c = λ is_catalog pages.
    let d = database_in pages c.args.catalog.now.relations in
    c.check_relation.ensures pages
    ∙ (ap (λ (name : List ℕ). check_relation d name) c.as_str.ensures ∙ ap (λ (p : Plan). check_operator d (plan_value p)) (sym c.in-Scan.is))

pub returns-in-PickEqual : goal.returns-in-PickEqual
returns-in-PickEqual c = λ is_catalog pages.
    let d = database_in pages c.args.catalog.now.relations in
    c.check_column-in-PickEqual.ensures is_catalog pages
    ∙ (ap (λ (k : Kind). check_column d c.in-PickEqual.column (is_asked (asked.EqualTo k))) c.kind.ensures
    ∙ ap (λ (p : Plan). check_operator d (plan_value p)) (sym c.in-PickEqual.is))

pub returns-in-PickBetween : goal.returns-in-PickBetween
returns-in-PickBetween c = λ is_catalog pages.
    let d = database_in pages c.args.catalog.now.relations in
    c.check_column-in-PickBetween.ensures is_catalog pages ∙ ap (λ (p : Plan). check_operator d (plan_value p)) (sym c.in-PickBetween.is)

pub returns-in-Filter : goal.returns-in-Filter
returns-in-Filter c = λ is_catalog pages.
    let d = database_in pages c.args.catalog.now.relations in
    c.check_tests.ensures pages
    ∙ (ap₂ (λ (p : Plan) (tests : List Test). check_tests d (relations_of (plan_value p)) tests) c.deref.ensures c.as_slice.ensures
    ∙ ap (λ (p : Plan). check_operator d (plan_value p)) (sym c.in-Filter.is))

pub returns-in-Match : goal.returns-in-Match
returns-in-Match c = λ is_catalog pages.
    let d = database_in pages c.args.catalog.now.relations in
    c.check_match.ensures is_catalog pages
    ∙ (ap (λ (p : Plan). check_operator d (model.Match (plan_value p) c.in-Match.place c.in-Match.column)) c.deref-in-Match.ensures
    ∙ ap (λ (p : Plan). check_operator d (plan_value p)) (sym c.in-Match.is))

pub returns-in-Fetch : goal.returns-in-Fetch
returns-in-Fetch c = λ is_catalog pages.
    let d = database_in pages c.args.catalog.now.relations in
    c.check_places.ensures pages
    ∙ (ap₂ (λ (p : Plan) (places : List Place). check_places d (relations_of (plan_value p)) places) c.deref-in-Fetch.ensures c.as_slice-in-Fetch.ensures
    ∙ ap (λ (p : Plan). check_operator d (plan_value p)) (sym c.in-Fetch.is))

pub returns-in-SortBy : goal.returns-in-SortBy
returns-in-SortBy c = λ is_catalog pages.
    let d = database_in pages c.args.catalog.now.relations in
    c.check_place.ensures pages
    ∙ (ap (λ (p : Plan). check_place d (relations_of (plan_value p)) c.in-SortBy.place (is_asked asked.Int)) c.deref-in-SortBy.ensures
    ∙ ap (λ (p : Plan). check_operator d (plan_value p)) (sym c.in-SortBy.is))

pub returns-in-SortNear : goal.returns-in-SortNear
returns-in-SortNear c = λ is_catalog pages.
    let d = database_in pages c.args.catalog.now.relations in
    c.check_place-in-SortNear.ensures pages
    ∙ (ap (λ (p : Plan). check_place d (relations_of (plan_value p)) c.in-SortNear.place (is_asked asked.Spatial)) c.deref-in-SortNear.ensures
    ∙ ap (λ (p : Plan). check_operator d (plan_value p)) (sym c.in-SortNear.is))

pub returns-in-Join : goal.returns-in-Join
returns-in-Join c = λ is_catalog pages.
    let d = database_in pages c.args.catalog.now.relations in
    let check : Plan → Option Refusal = λ p. check_operator d (plan_value p) in
    let same : check_operator d (model.Join c.in-Join.left c.in-Join.right None) ≡ check c.args.plan.now =
    elim c.in-Join.is [ inl h ↦ ap check (sym h.1) | inr (inl h) ↦ ap check (sym h.1) | inr (inr h) ↦ ap check (sym h.2) ] in
    c.check_both.ensures is_catalog pages ∙ same

pub returns-in-Rank : goal.returns-in-Rank
returns-in-Rank c = λ is_catalog pages.
    let d = database_in pages c.args.catalog.now.relations in
    let check : Plan → Option Refusal = λ p. check_operator d (plan_value p) in
    let same : check_column d c.in-Rank.column (is_asked asked.Spatial) ≡ check c.args.plan.now =
    elim c.in-Rank.is [ inl h ↦ ap check (sym h.2) | inr h ↦ ap check (sym h.1) ] in
    c.check_column-in-Rank.ensures is_catalog pages ∙ same

pub returns-in-Near : goal.returns-in-Near
returns-in-Near c = λ is_catalog pages.
    let d = database_in pages c.args.catalog.now.relations in
    c.check_column.ensures is_catalog pages ∙ ap (λ (p : Plan). check_operator d (plan_value p)) (sym c.in-Near.is)

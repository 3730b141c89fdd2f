-- the first place that a search by the name gives
use Rattle.std.proofs.Common.{ℕ, List, ◌∙◌, ap}
use Rattle.std.specs.List.{position}
use Rattle.sand_base.specs.declared.kind.Kind.{Kind}
use Rattle.sand_store.specs.Catalog.{RelationView}
use Rattle.sand_store.proofs.ColumnPaths.{is_of, column_place}
use Rattle.sand_store.proofs.relation.Relation.column.Goals as goal

pub returns-clause-place : goal.returns-clause-place
returns-clause-place c =
    c.place_in.ensures
    ∙ (ap (λ (cs : List (List ℕ × Kind)). position (is_of c.args.name.now) cs) (c.columns.ensures ∙ ap (λ (r : RelationView). r.schema) c.self.view_is)
    ∙ column_place c.args.self.now.schema c.args.name.now)

-- the access path of the column is an attribute index, or another one, or there is none
use Rattle.std.proofs.Common.{sym, ◌∙◌, ap, Option, Some, Bor}
use Rattle.std.specs.Option.{option_map}
use Rattle.sand_store.specs.declared.path.AccessPath.{AccessPath}
use Rattle.sand_store.specs.Paths.{attribute_in_path}
use Rattle.sand_store.proofs.ColumnPaths.{attribute_of_column, no_attribute}
use Rattle.sand_store.proofs.relation.Relation.attribute.Goals as goal

abbrev seen : Option (Bor AccessPath) → Option AccessPath
seen o = option_map (λ (p : Bor AccessPath). p.now) o

pub returns-in-Some-Attribute-clause-index : goal.returns-in-Some-Attribute-clause-index
returns-in-Some-Attribute-clause-index c =
    attribute_of_column c.args.self.now c.args.column c.in-Some-Attribute.index
    (ap attribute_in_path (sym c.path.ensures ∙ (ap seen c.in-Some-Attribute.is ∙ ap (λ (a : AccessPath). Some a) c.in-Some-Attribute.field-0-is)))

pub returns-in-Some-Quadtree-clause-none : goal.returns-in-Some-Quadtree-clause-none
returns-in-Some-Quadtree-clause-none c = λ none.
    no_attribute c.args.self.now c.args.column
    (ap attribute_in_path (sym c.path.ensures ∙ (ap seen c.in-Some-Quadtree.is ∙ ap (λ (a : AccessPath). Some a) c.in-Some-Quadtree.field-0-is)))

pub returns-in-None-clause-none : goal.returns-in-None-clause-none
returns-in-None-clause-none c = λ none. no_attribute c.args.self.now c.args.column (ap attribute_in_path (sym c.path.ensures ∙ ap seen c.in-None.is))

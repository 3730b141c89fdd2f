-- the access path of the column is a quadtree, or another one, or there is none
use Rattle.std.proofs.Common.{sym, ◌∙◌, ap, Option, Some, Bor}
use Rattle.std.specs.Option.{option_map}
use Rattle.sand_store.specs.declared.path.AccessPath.{AccessPath}
use Rattle.sand_store.specs.Paths.{tree_in_path}
use Rattle.sand_store.proofs.ColumnPaths.{tree_of_column, no_tree}
use Rattle.sand_store.proofs.relation.Relation.quadtree.Goals as goal

abbrev seen : Option (Bor AccessPath) → Option AccessPath
seen o = option_map (λ (p : Bor AccessPath). p.now) o

pub returns-in-Some-Quadtree-clause-tree : goal.returns-in-Some-Quadtree-clause-tree
returns-in-Some-Quadtree-clause-tree c =
    tree_of_column c.args.self.now c.args.column c.in-Some-Quadtree.tree
    (ap tree_in_path (sym c.path.ensures ∙ (ap seen c.in-Some-Quadtree.is ∙ ap (λ (a : AccessPath). Some a) c.in-Some-Quadtree.field-0-is)))

pub returns-in-Some-Attribute-clause-none : goal.returns-in-Some-Attribute-clause-none
returns-in-Some-Attribute-clause-none c = λ none.
    no_tree c.args.self.now c.args.column
    (ap tree_in_path (sym c.path.ensures ∙ (ap seen c.in-Some-Attribute.is ∙ ap (λ (a : AccessPath). Some a) c.in-Some-Attribute.field-0-is)))

pub returns-in-None-clause-none : goal.returns-in-None-clause-none
returns-in-None-clause-none c = λ none. no_tree c.args.self.now c.args.column (ap tree_in_path (sym c.path.ensures ∙ ap seen c.in-None.is))

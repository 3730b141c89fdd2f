-- the R-tree is one of those of the relation
use Rattle.std.proofs.Common.{◌≡◌, ◌∙◌, ap, List, ℕ, Option}
use Rattle.std.specs.Prelude.{is_some}
use Rattle.r_tree.specs.declared.tree.RTree.{RTree}
use Rattle.sand_store.specs.Catalog.{RelationView}
use Rattle.sand_store.specs.Contents.{rows_in}
use Rattle.sand_store.specs.Paths.{rtree_at}
use Rattle.sand_store.proofs.ColumnTrees.{tree_there, tree_listed}
use Rattle.sand_store.proofs.relation.Relation.rtree.Goals as goal

pub returns-clause-there : goal.returns-clause-there
returns-clause-there c = λ pages.
    let trees : c.deref.result.now ≡ c.args.self.now.trees = c.deref.ensures.value ∙ ap (λ (r : RelationView). r.trees) c.self.view_is in
    let found : c.tree_in.result ≡ rtree_at c.args.self.now.trees c.args.column = c.tree_in.ensures ∙ ap (λ (ts : List (ℕ × RTree)). rtree_at ts c.args.column) trees in
    ap (λ (o : Option RTree). is_some o) found ∙ tree_there (rows_in pages c.args.self.now) c.args.column c.args.self.now.trees

pub returns-clause-lists : goal.returns-clause-lists
returns-clause-lists c =
    let trees : c.deref.result.now ≡ c.args.self.now.trees = c.deref.ensures.value ∙ ap (λ (r : RelationView). r.trees) c.self.view_is in
    let found : c.tree_in.result ≡ rtree_at c.args.self.now.trees c.args.column = c.tree_in.ensures ∙ ap (λ (ts : List (ℕ × RTree)). rtree_at ts c.args.column) trees in
    tree_listed c.args.self.now c.args.column c.tree_in.result found

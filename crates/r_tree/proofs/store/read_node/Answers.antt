-- the page that was read is the store's
use Rattle.std.proofs.Common.{ℕ, List, length, sym, ◌∙◌, ap, arith}
use Rattle.std.specs.Prelude.{Option}
use Rattle.r_tree.specs.declared.entry.NodeEntry.{NodeEntry}
use Rattle.r_tree.specs.Page.{node, rtree_node_in}
use Rattle.r_tree.proofs.Cells.{length-page_entries}
use Rattle.r_tree.proofs.store.read_node.Goals as goal

pub returns-clause-value : goal.returns-clause-value
returns-clause-value g c = λ told. ap (λ (o : Option (List ℕ)). rtree_node_in o) (c.in_ok-page.ensures.value.told told)
    ∙ (c.in-Some.ensures.value ∙ ap (λ (es : List NodeEntry). node c.args.inner es) (sym c.in_ok-entries.ensures))

pub returns-clause-few : goal.returns-clause-few
returns-clause-few g c = omega (arith, ap (λ (es : List NodeEntry). length es) c.in_ok-entries.ensures, length-page_entries c.in-Some.count c.in_ok-page.page.now, c.in-Some.ensures.few)

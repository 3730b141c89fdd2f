-- both nodes are read, and their entries laid out anew
use Rattle.std.proofs.Common.{◌≡◌, ◌++◌, ◌∙◌, List, ap, subst}
use Rattle.code_btree.specs.Tree.{Store, pages_in}
use Rattle.code_btree.proofs.Stores.{same_store}
use Rattle.r_tree.specs.declared.entry.NodeEntry.{NodeEntry}
use Rattle.r_tree.specs.Page.{node}
use Rattle.r_tree.specs.Tree.{node_at}
use Rattle.r_tree.proofs.Joins.{balanced_one, balanced_two}
use Rattle.r_tree.proofs.join.balance.Goals as goal

pub returns-then-len-le126-clause-value : goal.returns-then-len-le126-clause-value
returns-then-len-le126-clause-value g c = λ told far.
    let m : Store = pages_in c.args.pool.now in
    let m1 : Store = pages_in c.read_node.new.pool in
    let same : m1 ≡ m = same_store c.read_node.new.pool c.args.pool.now c.read_node.ensures.same in
    let N : Store → Type 0 = λ x. node_at x c.args.b ≡ node c.args.inner c.in_ok-more.more.items in
    balanced_one m (pages_in c.read_node-2.new.pool)
    (pages_in c.merge.new.pool) c.args.inner c.args.a c.args.b c.in_ok-bound.bound c.in_ok-entries.entries.items c.in_ok-more.more.items c.deref-then-len-le126.result.now
    (same_store c.read_node-2.new.pool c.read_node.new.pool c.read_node-2.ensures.same ∙ same) (c.in_ok-entries.ensures.value told)
    (subst N same (c.in_ok-more.ensures.value (c.read_node.ensures.within.told ∙ told)))
    (c.deref-then-len-le126.ensures.value ∙ (c.in_ok-append.ensures ∙ ap (λ (x : List NodeEntry). c.in_ok-entries.entries.items ++ x) c.deref.ensures.value)) (c.in_ok-bound.ensures.value far)

pub returns-clause-value : goal.returns-clause-value
returns-clause-value g c = λ told far.
    let m : Store = pages_in c.args.pool.now in
    let m1 : Store = pages_in c.read_node.new.pool in
    let same : m1 ≡ m = same_store c.read_node.new.pool c.args.pool.now c.read_node.ensures.same in
    let N : Store → Type 0 = λ x. node_at x c.args.b ≡ node c.args.inner c.in_ok-more.more.items in
    balanced_two m (pages_in c.read_node-2.new.pool)
    (pages_in c.share.new.pool) c.args.inner c.args.a c.args.b c.in_ok-grown.grown c.in_ok-entries.entries.items c.in_ok-more.more.items c.deref_mut.result.now
    (same_store c.read_node-2.new.pool c.read_node.new.pool c.read_node-2.ensures.same ∙ same) (c.in_ok-entries.ensures.value told)
    (subst N same (c.in_ok-more.ensures.value (c.read_node.ensures.within.told ∙ told)))
    (c.deref_mut.ensures.value ∙ (c.in_ok-append.ensures ∙ ap (λ (x : List NodeEntry). c.in_ok-entries.entries.items ++ x) c.deref.ensures.value))
    (c.in_ok-grown.ensures.value far) (c.in_ok-grown.ensures.full far)

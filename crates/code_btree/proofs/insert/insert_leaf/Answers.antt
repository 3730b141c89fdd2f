-- a value is set, an entry is put in, or the leaf is split
use Rattle.std.proofs.Common.{◌+◌, ◌++◌, ◌∙◌, take, drop, ap, List}
use Rattle.code_btree.specs.Node.{Pair, leaf, node_of, entries_of, next_of}
use Rattle.code_btree.specs.Tree.{pages_in}
use Rattle.code_btree.proofs.Stores.{same_store}
use Rattle.code_btree.proofs.Leaves.{insert_found, insert_room, insert_split}
use Rattle.code_btree.proofs.insert.insert_leaf.Goals as goal

pub returns-in-Some-value_found-clause-value : goal.returns-in-Some-value_found-clause-value
returns-in-Some-value_found-clause-value g c = λ told. insert_found (pages_in c.read.new.pool) (pages_in c.args.pool.now)
    (pages_in c.write.new.pool) c.args.n c.args.key c.args.value c.in-Some.count c.rank-at.result c.in-Some-value_found.was c.read.new.into c.splice_entries.new.page
    (same_store c.read.new.pool c.args.pool.now c.read.ensures.same) (c.in_ok-read.ensures.value told)
    (c.requires.tree told) c.in-Some.ensures c.rank-at.ensures.bound c.rank-at.ensures.before c.in-Some-value_found.ensures
    (c.splice_entries.ensures.value ∙ ap (λ (x : List Pair).
    leaf (take c.rank-at.result (entries_of (node_of c.read.new.into)) ++ (x ++ drop (c.rank-at.result + 1) (entries_of (node_of c.read.new.into))))
    (next_of (node_of c.read.new.into))) c.entry_bytes.ensures) c.in_ok-write.ensures.value

pub returns-then-count-lt127-clause-value : goal.returns-then-count-lt127-clause-value
returns-then-count-lt127-clause-value g c = λ told. insert_room (pages_in c.read.new.pool) (pages_in c.args.pool.now)
    (pages_in c.write-then-count-lt127.new.pool) c.args.n c.args.key c.args.value c.in-Some.count c.rank-at.result c.read.new.into c.put_entry.new.page
    (same_store c.read.new.pool c.args.pool.now c.read.ensures.same) (c.in_ok-read.ensures.value told)
    (c.requires.tree told) c.in-Some.ensures c.rank-at.ensures.bound c.rank-at.ensures.before c.rank-at.ensures.behind c.in_default-value_found.ensures c.if-count-lt127.true c.put_entry.ensures.value c.in_ok-write-2.ensures.value

pub returns-clause-value : goal.returns-clause-value
returns-clause-value g c = λ told. insert_split (pages_in c.read.new.pool) (pages_in c.args.pool.now)
    (pages_in c.split_leaf.new.pool) c.args.n c.args.key c.args.value c.in-Some.count c.rank-at.result c.in_ok-up.up c.in_ok-up.right c.read.new.into
    (same_store c.read.new.pool c.args.pool.now c.read.ensures.same) (c.in_ok-read.ensures.value told)
    (c.requires.tree told) c.in-Some.ensures c.rank-at.ensures.bound c.rank-at.ensures.before c.rank-at.ensures.behind c.in_default-value_found.ensures c.in_ok-up.ensures.value

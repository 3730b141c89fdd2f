-- a check refuses, the command is carried out and the relation put in its place, or it is refused
use Rattle.std.proofs.Common.{◌≡◌, List, set, refl}
use Rattle.statements.specs.declared.column.Column.{Column}
use Rattle.sand_store.specs.Catalog.{RelationView}
use Rattle.sand_store.proofs.Changes.{first_at}
use Rattle.sand_store.proofs.Found.{place_seen, read_twice}
use Rattle.sand_store.proofs.IndexRefusals.{no_relation_to_index, column_refused, index_refused}
use Rattle.sand_store.proofs.IndexCall.{wanted_column, wanted_threshold, set_same, reverted_store}
use Rattle.sand_store.proofs.IndexCall.{reverted_unchanged, store_indexed, database_indexed, full_by}
use Rattle.sand_store.proofs.Inserts.{described_at, stands_at, owns_at}
use Rattle.sand_store.proofs.index.index.Goals as goal

pub returns-in_default-clause-refused : goal.returns-in_default-clause-refused
returns-in_default-clause-refused g c =
    let column : Column = record { relation = c.args.name.now; column = c.args.column.now } in
    no_relation_to_index c.args.pool.now c.args.relations.now.items c.args.limits column c.args.threshold
    (place_seen c.place_of.result _ c.args.name.now c.deref.result.now c.args.relations.now.items c.place_of.ensures c.deref.ensures.value c.in_default.is)

pub returns-in-Err-clause-refused : goal.returns-in-Err-clause-refused
returns-in-Err-clause-refused g c =
    let column : Column = record { relation = c.args.name.now; column = c.args.column.now } in
    let rs : List RelationView = c.args.relations.now.items in
    let f = first_at c.args.name.now rs c.in-Some.at (place_seen c.place_of.result _ c.args.name.now c.deref.result.now rs c.place_of.ensures c.deref.ensures.value c.in-Some.is) in
    column_refused c.args.pool.now rs c.args.limits column c.args.threshold c.in-Some.at c.index-relation.result.now c.in-Err.why f.0 c.index-relation.ensures c.in-Err.ensures.refused

pub add-requires-clause-threshold : goal.add-requires-clause-threshold
add-requires-clause-threshold g c = wanted_threshold c.index-relation.result.now c.args.column.now c.args.threshold c.in-Ok.found.0 c.in-Ok.found.1 c.requires.threshold c.in-Ok.ensures.found

pub add-requires-clause-column : goal.add-requires-clause-column
add-requires-clause-column g c =
    let rs : List RelationView = c.args.relations.now.items in
    let f = first_at c.args.name.now rs c.in-Some.at (place_seen c.place_of.result _ c.args.name.now c.deref.result.now rs c.place_of.ensures c.deref.ensures.value c.in-Some.is) in
    let same : c.index_mut-changed.result.now ≡ c.index-relation.result.now =
    read_twice rs c.in-Some.at c.index-relation.result.now c.index_mut-changed.result.now f.1 c.index-relation.ensures c.index_mut-changed.ensures.value in
    wanted_column c.index_mut-changed.result.now c.index-relation.result.now c.args.column.now c.args.threshold c.in-Ok.found.0 c.in-Ok.found.1 same c.in-Ok.ensures.found

pub add-requires-clause-stands : goal.add-requires-clause-stands
add-requires-clause-stands g c =
    let rs : List RelationView = c.args.relations.now.items in
    let f = first_at c.args.name.now rs c.in-Some.at (place_seen c.place_of.result _ c.args.name.now c.deref.result.now rs c.place_of.ensures c.deref.ensures.value c.in-Some.is) in
    stands_at c.args.pool.now rs c.args.limits c.in-Some.at c.index_mut-changed.result.now c.requires.store f.1 c.index_mut-changed.ensures.value

pub add-requires-clause-owns : goal.add-requires-clause-owns
add-requires-clause-owns g c =
    let rs : List RelationView = c.args.relations.now.items in
    let f = first_at c.args.name.now rs c.in-Some.at (place_seen c.place_of.result _ c.args.name.now c.deref.result.now rs c.place_of.ensures c.deref.ensures.value c.in-Some.is) in
    owns_at c.args.pool.now rs c.args.limits c.in-Some.at c.index_mut-changed.result.now c.requires.store f.1 c.index_mut-changed.ensures.value

pub returns-in-Ok-add-clause-store : goal.returns-in-Ok-add-clause-store
returns-in-Ok-add-clause-store g c =
    let column : Column = record { relation = c.args.name.now; column = c.args.column.now } in
    let rs : List RelationView = c.args.relations.now.items in
    let r : RelationView = c.index-relation.result.now in
    let f = first_at c.args.name.now rs c.in-Some.at (place_seen c.place_of.result _ c.args.name.now c.deref.result.now rs c.place_of.ensures c.deref.ensures.value c.in-Some.is) in
    let same : c.index_mut-changed.result.now ≡ r = read_twice rs c.in-Some.at r c.index_mut-changed.result.now f.1 c.index-relation.ensures c.index_mut-changed.ensures.value in
    store_indexed c.args.pool.now c.add.new.pool c.args.limits column c.args.threshold rs (set rs c.in-Some.at c.add.new.relation) c.in-Some.at r c.index_mut-changed.result.now c.add.new.relation
    c.in-Ok.found.0 c.in-Ok.found.1 c.requires.store f.0 f.1 c.index-relation.ensures same refl
    (described_at c.args.pool.now rs c.args.limits c.in-Some.at r c.requires.store f.1 c.index-relation.ensures)
    c.in-Ok.ensures.found c.in-Ok-add.ensures.added c.in-Ok-add.ensures.told c.in-Ok-add.ensures.closed c.in-Ok-add.ensures.became

pub returns-in-Ok-add-clause-indexed : goal.returns-in-Ok-add-clause-indexed
returns-in-Ok-add-clause-indexed g c =
    let column : Column = record { relation = c.args.name.now; column = c.args.column.now } in
    let rs : List RelationView = c.args.relations.now.items in
    let r : RelationView = c.index-relation.result.now in
    let f = first_at c.args.name.now rs c.in-Some.at (place_seen c.place_of.result _ c.args.name.now c.deref.result.now rs c.place_of.ensures c.deref.ensures.value c.in-Some.is) in
    let same : c.index_mut-changed.result.now ≡ r = read_twice rs c.in-Some.at r c.index_mut-changed.result.now f.1 c.index-relation.ensures c.index_mut-changed.ensures.value in
    database_indexed c.args.pool.now c.add.new.pool c.args.limits column c.args.threshold rs (set rs c.in-Some.at c.add.new.relation) c.in-Some.at r c.index_mut-changed.result.now c.add.new.relation
    c.in-Ok.found.0 c.in-Ok.found.1 c.requires.store f.0 f.1 c.index-relation.ensures same refl c.in-Ok.ensures.found c.in-Ok-add.ensures.added c.in-Ok-add.ensures.became

pub returns-in-Err-add-clause-store : goal.returns-in-Err-add-clause-store
returns-in-Err-add-clause-store g c =
    let rs : List RelationView = c.args.relations.now.items in
    let f = first_at c.args.name.now rs c.in-Some.at (place_seen c.place_of.result _ c.args.name.now c.deref.result.now rs c.place_of.ensures c.deref.ensures.value c.in-Some.is) in
    reverted_store c.args.pool.now c.add.new.pool c.args.limits rs (set rs c.in-Some.at c.add.new.relation) c.requires.store
    (set_same rs c.in-Some.at c.index_mut-changed.result.now c.add.new.relation f.1 c.index_mut-changed.ensures.value c.in-Err-add.ensures.unchanged)
    c.in-Err-add.ensures.closed c.in-Err-add.ensures.told c.in-Err-add.ensures.reverted

pub returns-in-Err-add-clause-unchanged : goal.returns-in-Err-add-clause-unchanged
returns-in-Err-add-clause-unchanged g c =
    let rs : List RelationView = c.args.relations.now.items in
    let f = first_at c.args.name.now rs c.in-Some.at (place_seen c.place_of.result _ c.args.name.now c.deref.result.now rs c.place_of.ensures c.deref.ensures.value c.in-Some.is) in
    reverted_unchanged c.args.pool.now c.add.new.pool c.args.limits rs (set rs c.in-Some.at c.add.new.relation)
    (set_same rs c.in-Some.at c.index_mut-changed.result.now c.add.new.relation f.1 c.index_mut-changed.ensures.value c.in-Err-add.ensures.unchanged)
    c.in-Err-add.ensures.told c.in-Err-add.ensures.reverted

pub returns-in-Err-add-clause-refused : goal.returns-in-Err-add-clause-refused
returns-in-Err-add-clause-refused g c =
    let column : Column = record { relation = c.args.name.now; column = c.args.column.now } in
    let rs : List RelationView = c.args.relations.now.items in
    let r : RelationView = c.index-relation.result.now in
    let f = first_at c.args.name.now rs c.in-Some.at (place_seen c.place_of.result _ c.args.name.now c.deref.result.now rs c.place_of.ensures c.deref.ensures.value c.in-Some.is) in
    let same : c.index_mut-changed.result.now ≡ r = read_twice rs c.in-Some.at r c.index_mut-changed.result.now f.1 c.index-relation.ensures c.index_mut-changed.ensures.value in
    index_refused c.args.pool.now rs c.args.limits column c.args.threshold c.in-Some.at r c.in-Ok.found.0 c.in-Ok.found.1 c.in-Err-add.why f.0 c.index-relation.ensures c.in-Ok.ensures.found c.in-Err-add.ensures.outside
    (full_by c.args.pool.now c.args.limits r c.index_mut-changed.result.now c.in-Ok.found.0 c.in-Ok.found.1 c.in-Err-add.why same c.in-Err-add.ensures.full)

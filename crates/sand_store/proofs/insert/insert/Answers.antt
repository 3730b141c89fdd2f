-- a check refuses, the command is carried out and the relation put in its place, or it is refused
use Rattle.std.proofs.Common.{◌≡◌, ◌∙◌, sym, ap, subst, ℕ, List, set, refl}
use Rattle.page_pool.specs.Pool.{IsTold}
use Rattle.tuple_file.specs.Spans.{Learnt}
use Rattle.sand_store.specs.Calls.{RowInserted}
use Rattle.sand_store.specs.Catalog.{RelationView}
use Rattle.sand_store.specs.Steps.{Became, grown_view, store_from}
use Rattle.sand_model.specs.Database.{with_row}
use Rattle.sand_store.proofs.Changes.{first_at, put_in_place}
use Rattle.sand_store.proofs.Found.{place_seen, read_twice}
use Rattle.sand_store.proofs.InsertCall.{no_relation, row_refused, add_refused, bytes_there, grown_described, inserted_is}
use Rattle.sand_store.proofs.Inserts.{described_at, owns_at}
use Rattle.sand_store.proofs.Sketched.{grown_sketch}
use Rattle.sand_store.proofs.insert.insert.Goals as goal

pub returns-in_default-clause-refused : goal.returns-in_default-clause-refused
returns-in_default-clause-refused g c =
    no_relation c.args.pool.now c.args.relations.now.items c.args.limits c.args.name.now c.args.row.now
    (place_seen c.place_of.result _ c.args.name.now c.deref.result.now c.args.relations.now.items c.place_of.ensures c.deref.ensures.value c.in_default.is)

pub returns-in-Err-clause-refused : goal.returns-in-Err-clause-refused
returns-in-Err-clause-refused g c =
    let f = first_at c.args.name.now c.args.relations.now.items c.in-Some.at
    (place_seen c.place_of.result _ c.args.name.now c.deref.result.now c.args.relations.now.items c.place_of.ensures c.deref.ensures.value c.in-Some.is) in
    row_refused c.args.pool.now c.args.relations.now.items c.args.limits c.args.name.now c.args.row.now c.in-Some.at c.index-relation.result.now c.in-Err.why
    f.0 c.index-relation.ensures c.in-Err.ensures.refused

pub add-requires-clause-some : goal.add-requires-clause-some
add-requires-clause-some g c =
    let f = first_at c.args.name.now c.args.relations.now.items c.in-Some.at
    (place_seen c.place_of.result _ c.args.name.now c.deref.result.now c.args.relations.now.items c.place_of.ensures c.deref.ensures.value c.in-Some.is) in
    bytes_there c.args.limits c.index-relation.result.now c.args.row.now c.in-Ok.bytes.items c.deref-2.result.now
    (described_at c.args.pool.now c.args.relations.now.items c.args.limits c.in-Some.at c.index-relation.result.now c.requires.store f.1 c.index-relation.ensures)
    c.in-Ok.ensures.of c.in-Ok.ensures.bytes c.deref-2.ensures.value

pub add-requires-clause-owns : goal.add-requires-clause-owns
add-requires-clause-owns g c =
    let f = first_at c.args.name.now c.args.relations.now.items c.in-Some.at
    (place_seen c.place_of.result _ c.args.name.now c.deref.result.now c.args.relations.now.items c.place_of.ensures c.deref.ensures.value c.in-Some.is) in
    owns_at c.args.pool.now c.args.relations.now.items c.args.limits c.in-Some.at c.index-relation.result.now c.requires.store f.1 c.index-relation.ensures

pub returns-in-Err-add-clause-refused : goal.returns-in-Err-add-clause-refused
returns-in-Err-add-clause-refused g c =
    let f = first_at c.args.name.now c.args.relations.now.items c.in-Some.at
    (place_seen c.place_of.result _ c.args.name.now c.deref.result.now c.args.relations.now.items c.place_of.ensures c.deref.ensures.value c.in-Some.is) in
    add_refused c.args.pool.now c.args.relations.now.items c.args.limits c.args.name.now c.args.row.now c.in-Some.at c.index-relation.result.now c.in-Err-add.why
    f.0 c.index-relation.ensures c.in-Ok.ensures.passes c.in-Err-add.ensures.outside c.in-Err-add.ensures.full

pub returns-clause-store : goal.returns-clause-store
returns-clause-store g c =
    let rs : List RelationView = c.args.relations.now.items in
    let r : RelationView = c.index-relation.result.now in
    let spans : List ℕ = c.take_over.new.self.spans in
    let u : RelationView = grown_view r c.in-Ok-add.growth.file c.in-Ok-add.growth.paths.items c.in-Ok-add.growth.trees.items spans in
    let f = first_at c.args.name.now rs c.in-Some.at (place_seen c.place_of.result _ c.args.name.now c.deref.result.now rs c.place_of.ensures c.deref.ensures.value c.in-Some.is) in
    let again : c.index_mut.result.now ≡ r = read_twice rs c.in-Some.at r c.index_mut.result.now f.1 c.index-relation.ensures c.index_mut.ensures.value in
    let same : c.take_over.new.self ≡ u = c.take_over.ensures.grown ∙ ap (λ y. grown_view y c.in-Ok-add.growth.file c.in-Ok-add.growth.paths.items c.in-Ok-add.growth.trees.items spans) again in
    let L : RelationView → Type 0 = λ y. Learnt y.spans y.next c.in-Ok-add.growth.span spans in
    let became : IsTold c.args.pool.now → Became c.args.pool.now.pages c.add.new.pool.pages c.args.limits r u (λ gap. with_row gap c.args.row.now) =
    λ told. (c.in-Ok-add.ensures.grew told).became spans (subst L again c.take_over.ensures.learnt) in
    put_in_place c.args.pool.now c.add.new.pool c.args.limits c.args.name.now rs (set rs c.in-Some.at c.take_over.new.self) c.in-Some.at r u (λ gap. with_row gap c.args.row.now)
    c.requires.store f.0 f.1 c.index-relation.ensures (ap (λ y. set rs c.in-Some.at y) same) refl
    (grown_described c.args.limits r c.in-Ok-add.growth.file c.in-Ok-add.growth.paths.items c.in-Ok-add.growth.trees.items spans c.args.row.now
    (described_at c.args.pool.now rs c.args.limits c.in-Some.at r c.requires.store f.1 c.index-relation.ensures) c.in-Ok.ensures.passes c.in-Ok-add.ensures.places c.in-Ok-add.ensures.columns)
    c.in-Ok-add.ensures.told c.in-Ok-add.ensures.closed became

pub returns-clause-inserted : goal.returns-clause-inserted
returns-clause-inserted g c =
    let rs : List RelationView = c.args.relations.now.items in
    let r : RelationView = c.index-relation.result.now in
    let spans : List ℕ = c.take_over.new.self.spans in
    let u : RelationView = grown_view r c.in-Ok-add.growth.file c.in-Ok-add.growth.paths.items c.in-Ok-add.growth.trees.items spans in
    let f = first_at c.args.name.now rs c.in-Some.at (place_seen c.place_of.result _ c.args.name.now c.deref.result.now rs c.place_of.ensures c.deref.ensures.value c.in-Some.is) in
    let again : c.index_mut.result.now ≡ r = read_twice rs c.in-Some.at r c.index_mut.result.now f.1 c.index-relation.ensures c.index_mut.ensures.value in
    let same : c.take_over.new.self ≡ u = c.take_over.ensures.grown ∙ ap (λ y. grown_view y c.in-Ok-add.growth.file c.in-Ok-add.growth.paths.items c.in-Ok-add.growth.trees.items spans) again in
    let L : RelationView → Type 0 = λ y. Learnt y.spans y.next c.in-Ok-add.growth.span spans in
    let became : IsTold c.args.pool.now → Became c.args.pool.now.pages c.add.new.pool.pages c.args.limits r u (λ gap. with_row gap c.args.row.now) =
    λ told. (c.in-Ok-add.ensures.grew told).became spans (subst L again c.take_over.ensures.learnt) in
    let us : List RelationView = set rs c.in-Some.at c.take_over.new.self in
    let P : ℕ → Type 0 = λ id. RowInserted (store_from rs c.args.limits c.args.pool.now) (store_from us c.args.limits c.add.new.pool) c.args.name.now c.args.row.now id in
    subst P (sym (ap (λ y. y.next) c.relation.view_is))
    (inserted_is c.args.pool.now c.add.new.pool c.args.limits c.args.name.now c.args.row.now rs us c.in-Some.at r u
    c.requires.store f.0 f.1 c.index-relation.ensures (ap (λ y. set rs c.in-Some.at y) same) c.in-Ok.ensures.passes
    (grown_sketch r c.in-Ok-add.growth.file c.in-Ok-add.growth.paths.items c.in-Ok-add.growth.trees.items spans c.in-Ok-add.ensures.places c.in-Ok-add.ensures.columns) became)

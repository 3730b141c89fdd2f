-- no relation has the name; or the command is refused, or the copy that all rows entered takes the place of the relation
use Rattle.std.proofs.Common.{◌-◌, refl, ap₂}
use Rattle.sand_store.specs.Catalog.{RelationView}
use Rattle.sand_store.proofs.Changes.{first_at}
use Rattle.sand_store.proofs.Found.{place_seen, none_found, found_at}
use Rattle.sand_store.proofs.Inserts.{owns_at}
use Rattle.sand_store.proofs.Loads.{load_unknown, load_stopped, load_refuses, loaded_store, loaded_is}
use Rattle.sand_store.proofs.load.load_rows.Goals as goal

pub returns-in_default-clause-refused : goal.returns-in_default-clause-refused
returns-in_default-clause-refused g c =
    load_unknown c.args.pool.now c.args.relations.now.items c.args.limits c.args.name.now c.args.rows.now
    (none_found c.args.name.now c.args.relations.now.items
    (place_seen c.place_of.result _ c.args.name.now c.deref.result.now c.args.relations.now.items c.place_of.ensures c.deref.ensures.value c.in_default.is))

pub add_all-requires-clause-owns : goal.add_all-requires-clause-owns
add_all-requires-clause-owns g c =
    let f = first_at c.args.name.now c.args.relations.now.items c.in-Some.at
    (place_seen c.place_of.result _ c.args.name.now c.deref.result.now c.args.relations.now.items c.place_of.ensures c.deref.ensures.value c.in-Some.is) in
    owns_at c.args.pool.now c.args.relations.now.items c.args.limits c.in-Some.at c.index-relation.result.now c.requires.store f.1 c.index-relation.ensures

pub returns-in-Err-clause-refused : goal.returns-in-Err-clause-refused
returns-in-Err-clause-refused g c =
    let f = first_at c.args.name.now c.args.relations.now.items c.in-Some.at
    (place_seen c.place_of.result _ c.args.name.now c.deref.result.now c.args.relations.now.items c.place_of.ensures c.deref.ensures.value c.in-Some.is) in
    load_stopped c.args.pool.now c.args.relations.now.items c.args.limits c.args.name.now c.args.rows.now c.index-relation.result.now c.in-Err.why
    (found_at c.args.name.now c.args.relations.now.items c.in-Some.at c.index-relation.result.now f.0 c.index-relation.ensures) c.in-Err.ensures.stops

pub returns-in-Err-clause-plain : goal.returns-in-Err-clause-plain
returns-in-Err-clause-plain g c =
    let f = first_at c.args.name.now c.args.relations.now.items c.in-Some.at
    (place_seen c.place_of.result _ c.args.name.now c.deref.result.now c.args.relations.now.items c.place_of.ensures c.deref.ensures.value c.in-Some.is) in
    load_refuses c.args.pool.now c.args.relations.now.items c.args.limits c.args.name.now c.args.rows.now c.index-relation.result.now c.in-Err.why
    (found_at c.args.name.now c.args.relations.now.items c.in-Some.at c.index-relation.result.now f.0 c.index-relation.ensures) c.in-Err.ensures.plain

pub returns-clause-store : goal.returns-clause-store
returns-clause-store g c =
    let f = first_at c.args.name.now c.args.relations.now.items c.in-Some.at
    (place_seen c.place_of.result _ c.args.name.now c.deref.result.now c.args.relations.now.items c.place_of.ensures c.deref.ensures.value c.in-Some.is) in
    loaded_store c.args.pool.now c.add_all.new.pool c.args.relations.now.items _ c.args.limits c.args.name.now c.args.rows.now c.in-Some.at c.index-relation.result.now c.in-Ok.grown
    c.requires.store f.0 f.1 c.index-relation.ensures refl c.in-Ok.ensures.counts c.in-Ok.ensures.told c.in-Ok.ensures.closed c.in-Ok.ensures.enters

-- the next ids tell how many rows entered
pub returns-clause-loaded : goal.returns-clause-loaded
returns-clause-loaded g c =
    let f = first_at c.args.name.now c.args.relations.now.items c.in-Some.at
    (place_seen c.place_of.result _ c.args.name.now c.deref.result.now c.args.relations.now.items c.place_of.ensures c.deref.ensures.value c.in-Some.is) in
    loaded_is c.args.pool.now c.add_all.new.pool c.args.relations.now.items _ c.args.limits c.args.name.now c.args.rows.now c.in-Some.at c.index-relation.result.now c.in-Ok.grown _
    c.requires.store f.0 f.1 c.index-relation.ensures refl c.in-Ok.ensures.counts (ap₂ (λ (a b : RelationView). a.next - b.next) c.grown.view_is c.relation.view_is)
    c.in-Ok.ensures.passes c.in-Ok.ensures.enters

-- the row is found, the command is carried out and the relation put in its place, or it is refused
use Rattle.std.proofs.Common.{◌≡◌, ◌∙◌, ap, subst, ℕ, List, set, refl}
use Rattle.tuple_file.specs.Spans.{Forgot}
use Rattle.sand_model.specs.Database.{without_row}
use Rattle.sand_store.specs.Catalog.{RelationView}
use Rattle.sand_store.specs.Leaving.{shrunk_view}
use Rattle.sand_store.proofs.Changes.{first_at, put_in_place}
use Rattle.sand_store.proofs.DeleteCall.{none_to_lose, not_found, remove_refused, can_lose_read, became_read, shrunk_described, deleted_is}
use Rattle.sand_store.proofs.Found.{place_seen, read_twice}
use Rattle.sand_store.proofs.Inserts.{described_at}
use Rattle.sand_store.proofs.Sketched.{shrunk_sketch}
use Rattle.sand_store.proofs.delete.delete.Goals as goal

pub returns-in_default-clause-refused : goal.returns-in_default-clause-refused
returns-in_default-clause-refused g c =
    none_to_lose c.args.pool.now c.args.relations.now.items c.args.limits c.args.name.now c.args.id
    (place_seen c.place_of.result _ c.args.name.now c.deref.result.now c.args.relations.now.items c.place_of.ensures c.deref.ensures.value c.in_default.is)

pub returns-in-Err-clause-refused : goal.returns-in-Err-clause-refused
returns-in-Err-clause-refused g c =
    let f = first_at c.args.name.now c.args.relations.now.items c.in-Some.at
    (place_seen c.place_of.result _ c.args.name.now c.deref.result.now c.args.relations.now.items c.place_of.ensures c.deref.ensures.value c.in-Some.is) in
    not_found c.args.pool.now c.args.relations.now.items c.args.limits c.args.name.now c.args.id c.in-Some.at c.index-relation.result.now c.in-Err.why
    f.0 c.index-relation.ensures c.in-Err.ensures.outside c.in-Err.ensures.missing

pub remove-requires-clause-can : goal.remove-requires-clause-can
remove-requires-clause-can g c = λ told.
    let f = first_at c.args.name.now c.args.relations.now.items c.in-Some.at
    (place_seen c.place_of.result _ c.args.name.now c.deref.result.now c.args.relations.now.items c.place_of.ensures c.deref.ensures.value c.in-Some.is) in (
      c.args.limits,
      can_lose_read c.args.pool.now c.found.new.pool c.args.relations.now.items c.args.limits c.in-Some.at c.index-relation.result.now c.args.id _
          c.requires.store c.in-Ok.ensures.read f.1 c.index-relation.ensures c.in-Ok.ensures.there told,
    )

pub returns-in-Err-remove-clause-refused : goal.returns-in-Err-remove-clause-refused
returns-in-Err-remove-clause-refused g c =
    let f = first_at c.args.name.now c.args.relations.now.items c.in-Some.at
    (place_seen c.place_of.result _ c.args.name.now c.deref.result.now c.args.relations.now.items c.place_of.ensures c.deref.ensures.value c.in-Some.is) in
    remove_refused c.args.pool.now c.args.relations.now.items c.args.limits c.args.name.now c.args.id c.in-Some.at c.index-relation.result.now c.in-Err-remove.why
    f.0 c.index-relation.ensures c.in-Err-remove.ensures.outside

pub returns-clause-store : goal.returns-clause-store
returns-clause-store g c =
    let rs : List RelationView = c.args.relations.now.items in
    let r : RelationView = c.index-relation.result.now in
    let spans : List ℕ = c.lead_to.new.self.spans in
    let u : RelationView = shrunk_view r spans c.in-Ok-remove.roots.file c.in-Ok-remove.roots.paths.items c.in-Ok-remove.roots.trees.items in
    let f = first_at c.args.name.now rs c.in-Some.at (place_seen c.place_of.result _ c.args.name.now c.deref.result.now rs c.place_of.ensures c.deref.ensures.value c.in-Some.is) in
    let same : c.lead_to.new.self ≡ u =
    c.lead_to.ensures.shrunk ∙ ap (λ y. shrunk_view y spans c.in-Ok-remove.roots.file c.in-Ok-remove.roots.paths.items c.in-Ok-remove.roots.trees.items)
    (read_twice rs c.in-Some.at r c.index_mut.result.now f.1 c.index-relation.ensures c.index_mut.ensures.value) in
    let read = read_twice rs c.in-Some.at r c.index_mut.result.now f.1 c.index-relation.ensures c.index_mut.ensures.value in
    let forgot : Forgot r.spans c.args.id spans = subst (λ (y : RelationView). Forgot y.spans c.args.id spans) read c.lead_to.ensures.forgot in
    let described = described_at c.args.pool.now rs c.args.limits c.in-Some.at r c.requires.store f.1 c.index-relation.ensures in
    put_in_place c.args.pool.now c.remove.new.pool c.args.limits c.args.name.now rs (set rs c.in-Some.at c.lead_to.new.self) c.in-Some.at r u (λ gap. without_row c.args.id)
    c.requires.store f.0 f.1 c.index-relation.ensures (ap (λ y. set rs c.in-Some.at y) same) refl
    (shrunk_described c.args.limits r spans c.in-Ok-remove.roots.file c.in-Ok-remove.roots.paths.items c.in-Ok-remove.roots.trees.items described
    (c.in-Ok-remove.ensures.places described.paths) c.in-Ok-remove.ensures.columns)
    (c.in-Ok-remove.ensures.told ∙ c.in-Ok.ensures.read.told) c.in-Ok-remove.ensures.closed
    (became_read c.args.pool.now c.found.new.pool c.remove.new.pool rs c.args.limits c.in-Some.at r u c.args.id _ c.requires.store c.in-Ok.ensures.read f.1 c.index-relation.ensures c.in-Ok.ensures.there
    (λ told bounds can. (c.in-Ok-remove.ensures.shrank told bounds can).became spans forgot))

pub returns-clause-deleted : goal.returns-clause-deleted
returns-clause-deleted g c =
    let rs : List RelationView = c.args.relations.now.items in
    let r : RelationView = c.index-relation.result.now in
    let spans : List ℕ = c.lead_to.new.self.spans in
    let u : RelationView = shrunk_view r spans c.in-Ok-remove.roots.file c.in-Ok-remove.roots.paths.items c.in-Ok-remove.roots.trees.items in
    let f = first_at c.args.name.now rs c.in-Some.at (place_seen c.place_of.result _ c.args.name.now c.deref.result.now rs c.place_of.ensures c.deref.ensures.value c.in-Some.is) in
    let same : c.lead_to.new.self ≡ u =
    c.lead_to.ensures.shrunk ∙ ap (λ y. shrunk_view y spans c.in-Ok-remove.roots.file c.in-Ok-remove.roots.paths.items c.in-Ok-remove.roots.trees.items)
    (read_twice rs c.in-Some.at r c.index_mut.result.now f.1 c.index-relation.ensures c.index_mut.ensures.value) in
    let read = read_twice rs c.in-Some.at r c.index_mut.result.now f.1 c.index-relation.ensures c.index_mut.ensures.value in
    let forgot : Forgot r.spans c.args.id spans = subst (λ (y : RelationView). Forgot y.spans c.args.id spans) read c.lead_to.ensures.forgot in
    let described = described_at c.args.pool.now rs c.args.limits c.in-Some.at r c.requires.store f.1 c.index-relation.ensures in
    deleted_is c.args.pool.now c.remove.new.pool c.args.limits c.args.name.now c.args.id _ rs (set rs c.in-Some.at c.lead_to.new.self) c.in-Some.at r u
    c.requires.store f.0 f.1 c.index-relation.ensures (ap (λ y. set rs c.in-Some.at y) same)
    (shrunk_sketch r spans c.in-Ok-remove.roots.file c.in-Ok-remove.roots.paths.items c.in-Ok-remove.roots.trees.items
    (c.in-Ok-remove.ensures.places described.paths) c.in-Ok-remove.ensures.columns) c.in-Ok.ensures.there
    (became_read c.args.pool.now c.found.new.pool c.remove.new.pool rs c.args.limits c.in-Some.at r u c.args.id _ c.requires.store c.in-Ok.ensures.read f.1 c.index-relation.ensures c.in-Ok.ensures.there
    (λ told bounds can. (c.in-Ok-remove.ensures.shrank told bounds can).became spans forgot))

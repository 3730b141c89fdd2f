-- nothing was taken
use Rattle.std.proofs.Common.{◌≡◌, Some, sym, subst}
use Rattle.sand_model.specs.Database.{relation_named}
use Rattle.sand_store.specs.Catalog.{RelationView}
use Rattle.sand_store.specs.Contents.{database_in, relation_in}
use Rattle.plan_names.specs.Spots.{Stands}
use Rattle.plan_sources.proofs.Scans.{scan_begun}
use Rattle.plan_sources.proofs.scan.Scan.start.Goals as goal

pub returns-clause-begun : goal.returns-clause-begun
returns-clause-begun c = λ pages h.
    let shared = c.in_ok-relation.relation.value in
    let kept : (P : RelationView → Type 0) → P c.in-Some.relation.now → P shared = λ P. subst P (sym c.in_ok-relation.ensures) in
    scan_begun pages shared (database_in pages c.args.catalog.now.relations) c.args.relation.now
    (kept (λ r. relation_named (database_in pages c.args.catalog.now.relations) c.args.relation.now ≡ Some (relation_in pages r)) (c.in-Some.ensures.named pages))
    (kept (λ r. Stands pages r) (c.args.catalog.now.limits, c.in-Some.ensures.stands pages h))

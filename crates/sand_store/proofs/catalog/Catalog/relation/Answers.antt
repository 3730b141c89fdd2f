-- the relation that a search finds is the database's, and what holds of all relations holds of it
use Rattle.std.proofs.Common.{List, ◌∙◌, ap, Bor}
use Rattle.std.specs.List.{find}
use Rattle.page_pool.specs.Disk.{PageMap}
use Rattle.sand_store.specs.declared.relation.Relation.{Relation}
use Rattle.sand_store.specs.Catalog.{CatalogView, RelationView, is_named, IsCatalog, IsDescribed}
use Rattle.sand_store.specs.Standing.{CatalogStands, RelationStands}
use Rattle.sand_store.proofs.RelationFound.{found_holds, found_in, some_given}
use Rattle.sand_store.proofs.catalog.Catalog.relation.Goals as goal

abbrev seen : Bor Relation → RelationView
seen r = r.now

pub returns-clause-named : goal.returns-clause-named
returns-clause-named c = λ pages.
    found_in pages seen c.args.name.now c.args.self.now.relations c.named.result
    (c.named.ensures ∙ ap (λ (rs : List RelationView). find (is_named c.args.name.now) rs) (c.deref.ensures.value ∙ ap (λ (x : CatalogView). x.relations) c.self.view_is))

pub returns-clause-described : goal.returns-clause-described
returns-clause-described c =
    some_given (λ (h : IsCatalog c.args.self.now) r. IsDescribed c.args.self.now.limits (seen r)) c.named.result
    (λ h. found_holds (IsDescribed c.args.self.now.limits) seen (is_named c.args.name.now) c.args.self.now.relations c.named.result
    (c.named.ensures ∙ ap (λ (rs : List RelationView). find (is_named c.args.name.now) rs) (c.deref.ensures.value ∙ ap (λ (x : CatalogView). x.relations) c.self.view_is)) h.relations)

pub returns-clause-stands : goal.returns-clause-stands
returns-clause-stands c =
    some_given (λ (pages : PageMap) r. CatalogStands pages c.args.self.now → RelationStands pages c.args.self.now.limits (seen r)) c.named.result
    (λ pages. some_given (λ (h : CatalogStands pages c.args.self.now) r. RelationStands pages c.args.self.now.limits (seen r)) c.named.result
    (λ h. found_holds (RelationStands pages c.args.self.now.limits) seen (is_named c.args.name.now) c.args.self.now.relations c.named.result
    (c.named.ensures ∙ ap (λ (rs : List RelationView). find (is_named c.args.name.now) rs) (c.deref.ensures.value ∙ ap (λ (x : CatalogView). x.relations) c.self.view_is)) h.relations))

-- A store that is parted, lent for reading and joined again.
use Rattle.std.proofs.Common.{◌≡◌, List, [], refl, sym, ◌∙◌, ap, subst}
use Rattle.std.specs.Prelude.{IsNone}
use Rattle.page_pool.specs.Desk.{DeskState}
use Rattle.page_pool.specs.Pool.{PoolState, Shown, back}
use Rattle.page_pool.specs.Reads.{IsRead}
use Rattle.page_pool.specs.Steps.{back-live}
use Rattle.sand_store.specs.Catalog.{CatalogView, StoreState}

-- the pool of a desk is the store's
pub pool_of : (store : StoreState) (desk : DeskState) → desk ≡ record { pool = store.pool; visits = [] } → desk.pool ≡ store.pool
pool_of store desk is = ap (λ (d : DeskState). d.pool) is

-- a desk over the live pages that was read shows them still
pub shows_live : (store : StoreState) (desk desk' : DeskState) → IsNone store.pool.live → desk ≡ record { pool = store.pool; visits = [] } → IsRead desk.pool desk'.pool → back desk'.pool ≡ desk'.pool
shows_live store desk desk' none is read =
    back-live desk'.pool (subst IsNone (sym (read.live ∙ ap (λ (p : PoolState). p.live) (pool_of store desk is))) none)

-- what is said of a catalog and a desk before and after is said of the store
pub lent : (P : CatalogView → PoolState → PoolState → Type 0) (store new : StoreState) (catalog : CatalogView) (desk desk' : DeskState) → IsNone store.pool.live → catalog ≡ store.catalog
    → desk ≡ record { pool = store.pool; visits = [] } → IsRead desk.pool desk'.pool → new ≡ record { catalog = catalog; pool = back desk'.pool }
    → P catalog desk.pool desk'.pool → P store.catalog store.pool new.pool
lent P store new catalog desk desk' none catalog_is desk_is read new_is h =
    subst (λ (p : PoolState). P store.catalog store.pool p) (sym (ap (λ (s : StoreState). s.pool) new_is ∙ shows_live store desk desk' none desk_is read))
    (subst (λ (p : PoolState). P store.catalog p desk'.pool) (pool_of store desk desk_is) (subst (λ (k : CatalogView). P k desk.pool desk'.pool) catalog_is h))

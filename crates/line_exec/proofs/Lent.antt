-- A store that is parted, lent and joined again.
use Rattle.std.proofs.Common.{◌≡◌, [], sym, ap, subst}
use Rattle.page_pool.specs.Desk.{DeskState}
use Rattle.page_pool.specs.Pool.{PoolState}
use Rattle.sand_store.specs.Catalog.{CatalogView, StoreState}

-- what is said of a catalog and a desk before and after is said of the store
pub lent : (P : CatalogView → PoolState → PoolState → Type 0) (store new : StoreState) (catalog : CatalogView) (desk desk' : DeskState) → catalog ≡ store.catalog
    → desk ≡ record { pool = store.pool; visits = [] } → new ≡ record { catalog = catalog; pool = desk'.pool } → P catalog desk.pool desk'.pool → P store.catalog store.pool new.pool
lent P store new catalog desk desk' catalog_is desk_is new_is h =
    subst (λ (p : PoolState). P store.catalog store.pool p) (sym (ap (λ (s : StoreState). s.pool) new_is))
    (subst (λ (p : PoolState). P store.catalog p desk'.pool) (ap (λ (d : DeskState). d.pool) desk_is) (subst (λ (k : CatalogView). P k desk.pool desk'.pool) catalog_is h))

-- the pool of a desk is the store's
pub pool_of : (store : StoreState) (desk : DeskState) → desk ≡ record { pool = store.pool; visits = [] } → desk.pool ≡ store.pool
pool_of store desk is = ap (λ (d : DeskState). d.pool) is

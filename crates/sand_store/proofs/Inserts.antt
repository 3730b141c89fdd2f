-- A relation of the catalog gets a row: what its command asks, and what a refusal says.
use Rattle.std.proofs.Common.{◌≡◌, ℕ, ◌<◌, ◌≤◌, List, length, get_or, sym, subst, arith}
use Rattle.std.proofs.lemmas.List.Elements.{All-get_or}
use Rattle.code_btree.specs.Tree.{times, live}
use Rattle.page_pool.specs.Pool.{PoolState, IsTold}
use Rattle.pmr_tree.specs.Quadtree.{store_of}
use Rattle.sand_base.specs.declared.limits.Limits.{Limits}
use Rattle.sand_store.specs.Catalog.{RelationView, IsDescribed}
use Rattle.sand_store.specs.Ownership.{catalog_pages}
use Rattle.sand_store.specs.Standing.{RelationStands, IsStore}
use Rattle.sand_store.proofs.Changes.{pages_split}
use Rattle.sand_store.proofs.RelationTrees.{OwnsOf}

-- what holds of a relation of a store
pub described_at : (pool : PoolState) (rs : List RelationView) (limits : Limits) (at : ℕ) (r : RelationView) → IsStore (record { relations = rs; limits = limits }) pool
    → at < length rs → r ≡ get_or rs at r → IsDescribed limits r
described_at pool rs limits at r h l e = subst (IsDescribed limits) (sym e) (All-get_or (IsDescribed limits) rs at r l h.described.relations)

pub stands_at : (pool : PoolState) (rs : List RelationView) (limits : Limits) (at : ℕ) (r : RelationView) → IsStore (record { relations = rs; limits = limits }) pool
    → at < length rs → r ≡ get_or rs at r → IsTold pool → RelationStands pool.pages limits r
stands_at pool rs limits at r h l e told = subst (RelationStands pool.pages limits) (sym e) (All-get_or (RelationStands pool.pages limits) rs at r l (h.stands told).relations)

pub owns_at : (pool : PoolState) (rs : List RelationView) (limits : Limits) (at : ℕ) (r : RelationView) → IsStore (record { relations = rs; limits = limits }) pool
    → at < length rs → r ≡ get_or rs at r → IsTold pool → OwnsOf pool.pages r
owns_at pool rs limits at r h l e told = λ q.
    let o : times q (catalog_pages pool.pages rs) ≤ live (store_of pool.pages) q = (h.stands told).owns q in
    omega (arith, o, pages_split pool.pages rs at r q l e)

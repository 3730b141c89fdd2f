-- Reading leaves a tree as it is.
use Rattle.std.proofs.Common.{sym, ◌∙◌, subst}
use Rattle.std.specs.Prelude.{Result}
use Rattle.page_pool.specs.Pool.{PoolState, IsTold}
use Rattle.page_pool.specs.declared.fault.PageFault.{PageFault}
use Rattle.page_pool.specs.Reads.{IsRead}
use Rattle.page_pool.specs.Commands.{Commits, WritesAll}
use Rattle.code_btree.specs.declared.map.Tree.{Tree}
use Rattle.code_btree.specs.Tree.{Store, IsTree, pages_in}
use Rattle.code_btree.proofs.Stores.{same_store}

pub kept : (a b : PoolState) (t : Tree) → IsRead a b → (IsTold a → IsTree (pages_in a) t) → IsTold b → IsTree (pages_in b) t
kept a b t r f told = let P : Store → Type 0 = λ m. IsTree m t in subst P (sym (same_store b a r.pages)) (f (sym r.told ∙ told))

-- so does opening a command
pub begun : {T : Type 0} (a b : PoolState) (t : Tree) (r : Result T PageFault) → WritesAll a b r → (IsTold a → IsTree (pages_in a) t) → IsTold b → IsTree (pages_in b) t
begun a b t r w f told =
    let P : Store → Type 0 = λ m. IsTree m t in
    let before : IsTold a = sym w.writes.told ∙ told in
    subst P (sym (same_store b a (w.writes.pages before))) (f before)

-- and ending one
pub committed : (a b : PoolState) (t : Tree) → Commits a b → (IsTold a → IsTree (pages_in a) t) → IsTold b → IsTree (pages_in b) t
committed a b t e f =
    let P : PoolState → Type 0 = λ s. IsTold s → IsTree (pages_in s) t in
    subst P (sym e) f

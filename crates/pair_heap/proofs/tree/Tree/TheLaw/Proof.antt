-- A `&` to a tree in hand is made where one to its root's node is. Assumes `Logic`.
use mathlib.Core.List.{[], ◌++◌}
use base.Fraction.{full_share}
use base.Fml.{fex}
use contract.BorrowLft.{meet_⊑_left, ⊑_meet}
use denote.RattleType.{RattleType}
use denote.RawPtr.{Testable, lies_at}
use denote.Shares.{Shares-less}
use denote.Param.Laws.{Laws}
use denote.Param.Shared.{copy_shared}
use denote.Struct.Field.{RawPtr-field}
use denote.Struct.Laws.{RawPtr-copy}
use denote.Struct.Lending.{lent_at, lent_at_shr_laws, Lends-lies, Lends-first, of_Lends}
use Rattle.pair_heap.specs.Ownership.{node_at, chain_owns}
use Rattle.pair_heap.specs.contracts.node.Node as node
use Rattle.pair_heap.proofs.node.Node.TheLaws as node_laws
use Rattle.pair_heap.specs.contracts.tree.Tree as C
use Rattle.pair_heap.proofs.tree.Tree.TheLaw.Statement.{statement}

pub shares : (T : RattleType) (L : Laws T) → statement T L
shares T L =
    let Node : RattleType = node.the_row T in
    of_Lends (C.struct T) (C.the_codes T.Denot T.coded) (C.the_heap T) (C.the_lent T)
    (λ d p. lent_at_shr_laws Node (node_laws.the_row_laws T L).shr_laws d.ptr (node_at T d.links d.item)) (copy_shared RawPtr-field RawPtr-copy, tt)
    (λ M 𝓤 𝓛 d p. let n = node_at T d.links d.item in let l = (C.the_row T).lives in
    Lends-first 𝓛 (lies_at Node full_share d.ptr n) (fex (Testable d.ptr) (λ _. chain_owns T d.kids d.links.0)) (lent_at Node d.ptr n) l
    (Lends-lies 𝓛 Node l d.ptr n (Shares-less 𝓛 Node Node.lives l (⊑_meet l (T.lives ++ []) (T.lives ++ []) (meet_⊑_left (T.lives ++ []) []) (meet_⊑_left (T.lives ++ []) []))
    ((node_laws.the_row_laws T L).shares 𝓛) n)))

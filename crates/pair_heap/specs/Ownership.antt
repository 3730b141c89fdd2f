-- What a chain of trees and a tree in hand own: each node in its slot, and with it the node's value.
use Rattle.std.specs.Prelude.{◌≡◌}
use base.Fml.{Fml, Lft, ftrue, fsep, fex}
use base.Fraction.{full_share}
use denote.RattleType.{RattleType}
use denote.RawPtr.{Ptr, null_ptr, Testable, lies_at}
use denote.Struct.Lending.{lent_at}
use Rattle.std.specs.declared.alloc.Global.{Global}
use Rattle.pair_heap.specs.declared.node.Node.{Node}
use Rattle.pair_heap.specs.contracts.node.Node.{the_row}
use Rattle.pair_heap.specs.Chain.{Chain, end, link}

-- A handle of the allocator; the right to free a block reads none, so it stands for any.
abbrev pub heap : Global
heap = record { memory = record { seal = tt } }

module _ (R : RattleType) where
  -- the node at this place, which may be compared with null
  abbrev pub node_owns : Ptr → Node R.Denot → Fml
  node_owns p n = fex (Testable p) (λ _. lies_at (the_row R) full_share p n)

  -- null at the end; else the first tree's node, its children's trees and the rest
  abbrev pub chain_owns : Chain R.Denot → Ptr → Fml
  chain_owns end p = fex (p ≡ null_ptr) (λ _. ftrue)
  chain_owns (link q x kids rest) p = fex (q ≡ p) (λ _. fex (Ptr × Ptr) (λ s. fsep (node_owns p (record { child = s.0; next = s.1; item = x })) (fsep (chain_owns kids s.0) (chain_owns rest s.1))))

  -- the node that leads to these two places
  abbrev pub node_at : Ptr × Ptr → R.Denot → Node R.Denot
  node_at links x = record { child = links.0; next = links.1; item = x }

  -- a tree in hand: its root's node and its children's trees; what the node leads to beside those is nobody's
  abbrev pub tree_owns : Ptr × Ptr → R.Denot → Chain R.Denot → Ptr → Fml
  tree_owns links x kids p = fsep (lies_at (the_row R) full_share p (node_at links x)) (fex (Testable p) (λ _. chain_owns kids links.0))

  -- what a `&` to it shows: its root's node
  abbrev pub tree_lent : Ptr × Ptr → R.Denot → Ptr → Lft → Fml
  tree_lent links x p = lent_at (the_row R) p (node_at links x)

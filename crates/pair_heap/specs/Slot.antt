-- What a slot owns: room for a node, with no right to free it, which stays with its slab.
use Rattle.std.specs.Prelude.{◌≡◌, ◌^◌, ◌<◌, List, [], ◌∷◌}
use base.Fml.{Fml, ftrue, fsep, fex}
use mir.Syntax.{Ty}
use mir.Raw.{raw}
use prog.Memory.{size}
use denote.Memory.{lone}
use denote.RattleType.{RattleType}
use denote.RawPtr.{Ptr, ◌+ₚ◌, Testable, room_for}
use Rattle.pair_heap.specs.contracts.node.Node.{the_row}

module _ (R : RattleType) where
  -- the type of a node
  abbrev pub node_ty : Ty
  node_ty = lone (the_row R).mir

  -- room for a node at this place, which may be compared with null
  abbrev pub slot_owns : Ptr → Fml
  slot_owns p = fex (Testable p) (λ _. room_for (raw node_ty) p)

  -- a slot at each of these places
  abbrev pub slots_own : List Ptr → Fml
  slots_own [] = ftrue
  slots_own (p ∷ ps) = fsep (slot_owns p) (slots_own ps)

  -- a slot at each of these places, which stand side by side from p on
  abbrev pub fresh_own : List Ptr → Ptr → Fml
  fresh_own [] p = ftrue
  fresh_own (q ∷ qs) p = fex ((q ≡ p) × (size (raw node_ty) < 2 ^ 63)) (λ _. fsep (slot_owns q) (fresh_own qs (p +ₚ size (raw node_ty))))

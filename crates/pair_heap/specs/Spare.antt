-- What a chain of spare slots owns: each slot, whose first word leads on to the next.
use Rattle.std.specs.Prelude.{◌≡◌, ◌+◌, List, [], ◌∷◌}
use base.Fml.{Fml, ftrue, ffalse, fsep, fex, fwand, froom, fat}
use base.Fraction.{full_share}
use mir.Syntax.{ty_ptr}
use mir.Raw.{raw}
use denote.RattleType.{RattleType}
use denote.RawPtr.{Ptr, null_ptr, block_ptr, ptr_val, Testable}
use Rattle.pair_heap.specs.Slot.{node_ty}

module _ (R : RattleType) where
  -- A slot whose first word is q, and which is room for a node once that word is given up.
  abbrev pub spare_at : Ptr → Ptr → Fml
  spare_at null_ptr q = ffalse
  spare_at (block_ptr b o) q = fex (Testable (block_ptr b o)) (λ _. fsep (fat full_share ty_ptr b (o + 0) (ptr_val q)) (fwand (froom ty_ptr b (o + 0)) (froom (raw (node_ty R)) b o)))

  -- null at the end; else a slot at the first of these places, and the others from where it leads
  abbrev pub spares_own : List Ptr → Ptr → Fml
  spares_own [] p = fex (p ≡ null_ptr) (λ _. ftrue)
  spares_own (q ∷ qs) p = fex (q ≡ p) (λ _. fex Ptr (λ next. fsep (spare_at p next) (spares_own qs next)))

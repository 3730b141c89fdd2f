-- What a chain of slabs owns: each block but for its slots, and the right to free it once all of them are back.
use Rattle.std.specs.Prelude.{◌≡◌, ℕ, ◌+◌, ◌^◌, ◌<◌, zero, suc, List, [], ◌∷◌, ◌++◌}
use base.Fml.{Fml, ftrue, ffalse, fsep, fex, fwand, froom, fat}
use base.Fraction.{full_share}
use mir.Syntax.{Ty, ty_ptr}
use mir.Raw.{raw}
use prog.Memory.{size}
use denote.Memory.{lone}
use denote.RattleType.{RattleType}
use denote.RawPtr.{Ptr, null_ptr, block_ptr, ptr_val, room_for}
use Rattle.std.specs.contracts.impls.GlobalAllocator.TheImpl.{ghosts}
use Rattle.pair_heap.specs.contracts.slab.Slab.{the_row}
use Rattle.pair_heap.specs.Ownership.{heap}
use Rattle.pair_heap.specs.Slot.{slots_own}

-- the slots of all slabs
abbrev pub all_slots : List (List Ptr) → List Ptr
all_slots [] = []
all_slots (ps ∷ pss) = ps ++ all_slots pss

module _ (R : RattleType) where
  -- the type of a slab
  abbrev pub slab_ty : Ty
  slab_ty = lone (the_row R).mir

  -- a slab is small enough for a block
  abbrev pub SlabFits : Type 0
  SlabFits = size (raw slab_ty) < 2 ^ 63

  -- A slab's block, whose first word is q, and which is room for a slab once that word and the slots at these places are given up.
  abbrev pub slab_at : List Ptr → Ptr → Ptr → Fml
  slab_at ps null_ptr q = ffalse
  slab_at ps (block_ptr b o) q = fex SlabFits
      (λ _. fsep (fat full_share ty_ptr b (o + 0) (ptr_val q))
      (fsep (fwand (fsep (froom ty_ptr b (o + 0)) (slots_own R ps)) (froom (raw slab_ty) b o)) (ghosts.dealloc_token heap (raw slab_ty) (block_ptr b o))))

  -- null at the end; else the first slab, whose slots are those of the first list, and the others from where it leads
  abbrev pub slabs_own : List (List Ptr) → Ptr → Fml
  slabs_own [] p = fex (p ≡ null_ptr) (λ _. ftrue)
  slabs_own (ps ∷ pss) p = fex Ptr (λ q. fsep (slab_at ps p q) (slabs_own pss q))

  -- A slab's block, whose first word is q, and which is room for a slab once that word is given up.
  abbrev pub block_at : Ptr → Ptr → Fml
  block_at null_ptr q = ffalse
  block_at (block_ptr b o) q = fex SlabFits
      (λ _. fsep (fat full_share ty_ptr b (o + 0) (ptr_val q)) (fsep (fwand (froom ty_ptr b (o + 0)) (froom (raw slab_ty) b o)) (ghosts.dealloc_token heap (raw slab_ty) (block_ptr b o))))

  -- null at the end; else the first block, and the others from where it leads
  abbrev pub blocks_own : ℕ → Ptr → Fml
  blocks_own zero p = fex (p ≡ null_ptr) (λ _. ftrue)
  blocks_own (suc n) p = fex Ptr (λ q. fsep (block_at p q) (blocks_own n q))

  -- a slab's block with nothing in it
  abbrev pub block_owns : Ptr → Fml
  block_owns p = fsep (room_for (raw slab_ty) p) (ghosts.dealloc_token heap (raw slab_ty) p)

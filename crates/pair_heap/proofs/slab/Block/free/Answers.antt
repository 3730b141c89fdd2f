use Rattle.std.proofs.Common.{◌<◌, ◌^◌, subst}
use prog.RawLaws.{size-raw}
use denote.Param.{param}
use Rattle.pair_heap.specs.Slab.{slab_ty}
use Rattle.pair_heap.proofs.slab.Block.free.Goals as goal

-- the slab fits in a block
pub room-requires : goal.room-requires
room-requires g c = subst (λ n. n < 2 ^ 63) (size-raw (slab_ty (param 0 g.row.T))) c.requires

-- Pairs of blocks are in a total order.
use Rattle.std.proofs.Common.{Ordering}
use Rattle.std.specs.Cmp.{IsTotalOrder, nat_cmp_total, on_total, then_total}
use Rattle.std.specs.Ordering.{nat_cmp, ordering_then}
use Rattle.z_code.specs.declared.block.Block.{Block}

-- blocks by their codes, then by their levels
abbrev pub block_cmp : Block → Block → Ordering
block_cmp a b = ordering_then (nat_cmp a.z b.z) (nat_cmp a.level b.level)

blocks_total : IsTotalOrder block_cmp
blocks_total = then_total (on_total (λ (b : Block). b.z) nat_cmp_total) (on_total (λ (b : Block). b.level) nat_cmp_total)

-- pairs by their left blocks, then by their right ones
abbrev pub pair_cmp : Block × Block → Block × Block → Ordering
pair_cmp a b = ordering_then (block_cmp a.0 b.0) (block_cmp a.1 b.1)

pub pairs_total : IsTotalOrder pair_cmp
pairs_total = then_total (on_total (λ (p : Block × Block). p.0) blocks_total) (on_total (λ (p : Block × Block). p.1) blocks_total)

-- Pairs of blocks that compare as equal are one.
use Rattle.std.proofs.Common.{◌≡◌, Ordering, Less, Equal, Greater, nat_cmp, refl, ap, ap₂, true≢false}
use Rattle.std.specs.Ordering.{ordering_then, is_lt, is_gt}
use Rattle.z_code.specs.declared.block.Block.{Block}
use Rattle.rank_cursor.specs.Exact.{block_exact}

both_equal : (a b : Ordering) → ordering_then a b ≡ Equal → (a ≡ Equal) × (b ≡ Equal)
both_equal Less b e = absurd (true≢false (ap is_lt e))
both_equal Equal b e = (refl, e)
both_equal Greater b e = absurd (true≢false (ap is_gt e))

-- the order of blocks
abbrev by_code : Block → Block → Ordering
by_code a b = ordering_then (nat_cmp a.z b.z) (nat_cmp a.level b.level)

-- pairs of blocks that compare equal are equal
pub pair_exact : (a b : Block × Block) → ordering_then (by_code a.0 b.0) (by_code a.1 b.1) ≡ Equal → a ≡ b
pair_exact a b e =
    let h = both_equal (by_code a.0 b.0) (by_code a.1 b.1) e in
    ap₂ (λ (x : Block) (y : Block). (x, y)) (block_exact a.0 b.0 h.0) (block_exact a.1 b.1 h.1)

-- Blocks that compare as equal are one.
use Rattle.std.proofs.Common.{◌≡◌, ℕ, Ordering, Less, Equal, Greater, nat_cmp, refl, ap, ap₂, true≢false}
use Rattle.std.specs.Ordering.{ordering_then, is_lt, is_gt}
use Rattle.std.proofs.lemmas.Map.Lookups.{exact_unsigned}
use Rattle.z_code.specs.declared.block.Block.{Block}

both_equal : (a b : Ordering) → ordering_then a b ≡ Equal → (a ≡ Equal) × (b ≡ Equal)
both_equal Less b e = absurd (true≢false (ap is_lt e))
both_equal Equal b e = (refl, e)
both_equal Greater b e = absurd (true≢false (ap is_gt e))

-- blocks that compare equal are equal
pub block_exact : (a b : Block) → ordering_then (nat_cmp a.z b.z) (nat_cmp a.level b.level) ≡ Equal → a ≡ b
block_exact a b e =
    let h = both_equal (nat_cmp a.z b.z) (nat_cmp a.level b.level) e in
    ap₂ (λ (z : ℕ) (level : ℕ). record { z = z; level = level }) (exact_unsigned a.z b.z h.0) (exact_unsigned a.level b.level h.1)

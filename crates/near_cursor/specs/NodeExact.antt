-- Nodes that compare as equal are one.
use Rattle.std.proofs.Common.{◌≡◌, ℕ, Ordering, Less, Equal, Greater, nat_cmp, refl, ap, ap₂, true≢false}
use Rattle.std.specs.Ordering.{ordering_then, is_lt, is_gt}
use Rattle.std.proofs.lemmas.Map.Lookups.{exact_unsigned}
use Rattle.near_cursor.specs.TreeNodes.{PageNode}

both_equal : (a b : Ordering) → ordering_then a b ≡ Equal → (a ≡ Equal) × (b ≡ Equal)
both_equal Less b e = absurd (true≢false (ap is_lt e))
both_equal Equal b e = (refl, e)
both_equal Greater b e = absurd (true≢false (ap is_gt e))

-- nodes that compare equal are equal
pub node_exact : (a b : PageNode) → ordering_then (nat_cmp a.0 b.0) (nat_cmp a.1 b.1) ≡ Equal → a ≡ b
node_exact a b e =
    let h = both_equal (nat_cmp a.0 b.0) (nat_cmp a.1 b.1) e in
    ap₂ (λ (page : ℕ) (height : ℕ). (page, height)) (exact_unsigned a.0 b.0 h.0) (exact_unsigned a.1 b.1 h.1)

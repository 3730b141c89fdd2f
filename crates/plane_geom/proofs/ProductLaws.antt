-- The laws of the integers' product that std lacks: associativity, distributivity, signs.
use Rattle.std.proofs.Common.{◌≡◌, ℕ, ◌*◌, ℤ, pos, ◌+ℤ◌, ◌*ℤ◌, neg_ℤ, sym, ap, ◌∙◌, arith}
use Rattle.std.proofs.Math.IntN.{*ℤ_comm}
use Rattle.std.proofs.lemmas.Int.{ints}
use borrow.Author.Differences.{up, down, same_in, sum_is_lem, neg_is, product_is}

-- (a b) c = a (b c)
pub *ℤ_assoc : (a b c : ℤ) → (a *ℤ b) *ℤ c ≡ a *ℤ (b *ℤ c)
*ℤ_assoc a b c =
    let l = product_is a b in
    let r = product_is b c in
    let l0 = ap (λ (t : ℕ). t * up c) l.0 in
    let l1 = ap (λ (t : ℕ). t * down c) l.0 in
    let l2 = ap (λ (t : ℕ). t * up c) l.1 in
    let l3 = ap (λ (t : ℕ). t * down c) l.1 in
    let r0 = ap (λ (t : ℕ). up a * t) r.0 in
    let r1 = ap (λ (t : ℕ). down a * t) r.0 in
    let r2 = ap (λ (t : ℕ). up a * t) r.1 in
    let r3 = ap (λ (t : ℕ). down a * t) r.1 in
    same_in _ _ (omega (arith, product_is (a *ℤ b) c, product_is a (b *ℤ c)))

-- (a + b) c = a c + b c
pub +ℤ-*ℤ : (a b c : ℤ) → (a +ℤ b) *ℤ c ≡ a *ℤ c +ℤ b *ℤ c
+ℤ-*ℤ a b c =
    let s0 = ap (λ (t : ℕ). t * up c) (sum_is_lem a b) in
    let s1 = ap (λ (t : ℕ). t * down c) (sum_is_lem a b) in
    same_in _ _ (omega (arith, product_is (a +ℤ b) c, product_is a c, product_is b c, sum_is_lem (a *ℤ c) (b *ℤ c)))

-- c (a + b) = c a + c b
pub *ℤ-+ℤ : (c a b : ℤ) → c *ℤ (a +ℤ b) ≡ c *ℤ a +ℤ c *ℤ b
*ℤ-+ℤ c a b =
    let s0 = ap (λ (t : ℕ). up c * t) (sum_is_lem a b) in
    let s1 = ap (λ (t : ℕ). down c * t) (sum_is_lem a b) in
    same_in _ _ (omega (arith, product_is c (a +ℤ b), product_is c a, product_is c b, sum_is_lem (c *ℤ a) (c *ℤ b)))

-- a (- b) = - (a b)
pub *ℤ-neg_ℤ : (a b : ℤ) → a *ℤ neg_ℤ b ≡ neg_ℤ (a *ℤ b)
*ℤ-neg_ℤ a b =
    let n = neg_is b in
    let n0 = ap (λ (t : ℕ). up a * t) n.0 in
    let n1 = ap (λ (t : ℕ). up a * t) n.1 in
    let n2 = ap (λ (t : ℕ). down a * t) n.0 in
    let n3 = ap (λ (t : ℕ). down a * t) n.1 in
    same_in _ _ (omega (arith, product_is a (neg_ℤ b), product_is a b, neg_is (a *ℤ b)))

-- a 1 = a
pub *ℤ_one : (a : ℤ) → a *ℤ pos 1 ≡ a
*ℤ_one a = omega (arith, ints)

-- a (x b) = x (a b)
pub *ℤ_left_comm : (a x b : ℤ) → a *ℤ (x *ℤ b) ≡ x *ℤ (a *ℤ b)
*ℤ_left_comm a x b = sym (*ℤ_assoc a x b) ∙ ap (λ t. t *ℤ b) (*ℤ_comm a x) ∙ *ℤ_assoc x a b

-- (a + b) + (c + d) = (a + c) + (b + d)
pub +ℤ_regroup : (a b c d : ℤ) → (a +ℤ b) +ℤ (c +ℤ d) ≡ (a +ℤ c) +ℤ (b +ℤ d)
+ℤ_regroup a b c d = same_in _ _ (omega (arith, sum_is_lem))

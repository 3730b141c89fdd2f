-- Small facts on the signs of integers, which the other proofs share.
use Rattle.std.proofs.Common.{◌≡◌, ℕ, ◌<◌, ℤ, pos, ◌+ℤ◌, ◌-ℤ◌, ◌*ℤ◌, ◌≤ℤ◌, ◌<ℤ◌, arith}
use Rattle.std.proofs.lemmas.Int.{ints}

-- a natural isn't negative
pub natural : (n : ℕ) → pos 0 ≤ℤ pos n
natural n = omega (arith, ints)

-- a positive natural is a positive integer
pub above_zero : (n : ℕ) → 0 < n → pos 0 <ℤ pos n
above_zero n h = omega (arith, ints)

-- a strict order is an order
pub weak : (p q : ℤ) → p <ℤ q → p ≤ℤ q
weak p q h = omega (arith, ints)

-- equal integers are in order
pub same_le : (p q : ℤ) → p ≡ q → p ≤ℤ q
same_le p q e = omega (arith, ints)

-- a product with 1
pub once : (t : ℤ) → pos 1 *ℤ t ≡ t
once t = omega (arith, ints)

-- two integers that aren't negative are 0 where their sum is at most 0
pub sum_zero : (p q : ℤ) → pos 0 ≤ℤ p → pos 0 ≤ℤ q → (p +ℤ q) ≤ℤ pos 0 → p +ℤ q ≡ pos 0
sum_zero p q hp hq h = omega (arith, ints)

-- two integers of difference 0 are equal
pub no_step : (p q : ℤ) → q -ℤ p ≡ pos 0 → p ≡ q
no_step p q h = omega (arith, ints)

-- an integer below 0, turned
pub turned_sign : (t : ℤ) → t ≤ℤ pos 0 → pos 0 ≤ℤ (pos 0 -ℤ t)
turned_sign t h = omega (arith, ints)

-- a sum of which one part is positive
pub sum_above : (p q : ℤ) → pos 0 ≤ℤ p → pos 0 <ℤ q → pos 0 <ℤ (p +ℤ q)
sum_above p q hp hq = omega (arith, ints)

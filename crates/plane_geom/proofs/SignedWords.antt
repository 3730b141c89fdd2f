-- What the code's signed 64-bit arithmetic gives: the integers' own sums and products, where they are small enough.
use Rattle.std.proofs.Common.{subst, ◌≡◌, ℕ, ◌*◌, ◌^◌, ◌<◌, ◌≤◌, true, false, ◌≤ℤ◌, ◌<ℤ◌, ℤ, pos, ◌+ℤ◌, ◌-ℤ◌, ◌*ℤ◌, FitsSigned, to_z, of_z, w64, ap, ap₂, sym, ◌∙◌, arith}
use Rattle.std.specs.Int.RustNames.{unsigned_abs}
use Rattle.std.specs.Int.Signed.{le_z}
use Rattle.std.proofs.Math.Nat.{mul-le-mul}
use Rattle.std.proofs.lemmas.Int.{ints, to_z-of_z, fits_signed_from_abs, fits_signed_mul, unsigned_abs-mul}

-- an integer below 2^63 in size is kept by a signed word
pub kept : (a : ℤ) → unsigned_abs a < 2 ^ 63 → to_z w64 (of_z w64 a) ≡ a
kept a h = to_z-of_z w64 a (fits_signed_from_abs w64 a h)

-- the product of two words, where the product of their bounds fits
pub product_value : (a b : ℤ) (m : ℕ) → unsigned_abs a ≤ m → unsigned_abs b ≤ m → m < 2 ^ 63 → m * m < 2 ^ 63
    → to_z w64 (of_z w64 (to_z w64 (of_z w64 a) *ℤ to_z w64 (of_z w64 b))) ≡ a *ℤ b
product_value a b m ha hb l k =
    ap (λ t. to_z w64 (of_z w64 t)) (ap₂ (λ s t. s *ℤ t) (kept a (omega arith)) (kept b (omega arith)))
    ∙ to_z-of_z w64 (a *ℤ b) (fits_signed_mul w64 a b m m ha hb k)

-- and its bound
pub product_short : (a b : ℤ) (m : ℕ) → unsigned_abs a ≤ m → unsigned_abs b ≤ m → unsigned_abs (a *ℤ b) ≤ m * m
product_short a b m ha hb =
    let e = unsigned_abs-mul a b in
    let f : unsigned_abs a * unsigned_abs b ≤ m * m = mul-le-mul ha hb in
    omega arith

-- a sum is at most as large as the bounds of its parts
pub sum_short : (a b : ℤ) (m : ℕ) → unsigned_abs a ≤ m → unsigned_abs b ≤ m → unsigned_abs (a +ℤ b) ≤ 2 * m
sum_short a b m ha hb = omega (arith, ints)

-- so is a difference
pub difference_short : (a b : ℤ) (m : ℕ) → unsigned_abs a ≤ m → unsigned_abs b ≤ m → unsigned_abs (a -ℤ b) ≤ 2 * m
difference_short a b m ha hb = omega (arith, ints)

-- so the sum of two words fits
pub sum_fits : (a b : ℤ) (m : ℕ) → unsigned_abs a ≤ m → unsigned_abs b ≤ m → 2 * m < 2 ^ 63
    → FitsSigned w64 (to_z w64 (of_z w64 a) +ℤ to_z w64 (of_z w64 b))
sum_fits a b m ha hb k =
    let s = sum_short a b m ha hb in
    subst (FitsSigned w64) (sym (ap₂ (λ s t. s +ℤ t) (kept a (omega arith)) (kept b (omega arith))))
    (fits_signed_from_abs w64 (a +ℤ b) (omega arith))

-- and so does the difference
pub difference_fits : (a b : ℤ) (m : ℕ) → unsigned_abs a ≤ m → unsigned_abs b ≤ m → 2 * m < 2 ^ 63
    → FitsSigned w64 (to_z w64 (of_z w64 a) -ℤ to_z w64 (of_z w64 b))
difference_fits a b m ha hb k =
    let s = difference_short a b m ha hb in
    subst (FitsSigned w64) (sym (ap₂ (λ s t. s -ℤ t) (kept a (omega arith)) (kept b (omega arith))))
    (fits_signed_from_abs w64 (a -ℤ b) (omega arith))

-- the sum of two words
pub sum_value : (a b : ℤ) (m : ℕ) → unsigned_abs a ≤ m → unsigned_abs b ≤ m → 2 * m < 2 ^ 63
    → to_z w64 (of_z w64 (to_z w64 (of_z w64 a) +ℤ to_z w64 (of_z w64 b))) ≡ a +ℤ b
sum_value a b m ha hb k =
    ap (λ t. to_z w64 (of_z w64 t)) (ap₂ (λ s t. s +ℤ t) (kept a (omega arith)) (kept b (omega arith)))
    ∙ kept (a +ℤ b) (let s = sum_short a b m ha hb in omega arith)

-- the difference of two words
pub difference_value : (a b : ℤ) (m : ℕ) → unsigned_abs a ≤ m → unsigned_abs b ≤ m → 2 * m < 2 ^ 63
    → to_z w64 (of_z w64 (to_z w64 (of_z w64 a) -ℤ to_z w64 (of_z w64 b))) ≡ a -ℤ b
difference_value a b m ha hb k =
    ap (λ t. to_z w64 (of_z w64 t)) (ap₂ (λ s t. s -ℤ t) (kept a (omega arith)) (kept b (omega arith)))
    ∙ kept (a -ℤ b) (let s = difference_short a b m ha hb in omega arith)

-- a product of two words is that of what the words are
pub product_of : (p a b s t : ℤ) (m : ℕ) → p ≡ to_z w64 (of_z w64 a) *ℤ to_z w64 (of_z w64 b) → a ≡ s → b ≡ t
    → unsigned_abs a ≤ m → unsigned_abs b ≤ m → m < 2 ^ 63 → p ≡ s *ℤ t
product_of p a b s t m e f g ha hb l =
    e ∙ ap₂ (λ x y. x *ℤ y) (kept a (omega arith) ∙ f) (kept b (omega arith) ∙ g)

-- a word is what its clause says
pub word_is : (a d : ℤ) (m : ℕ) → a ≡ d → unsigned_abs a ≤ m → m < 2 ^ 63 → to_z w64 (of_z w64 a) ≡ d
word_is a d m e h l = kept a (omega arith) ∙ e

-- a comparison that passed, of integers
le_passed : (d f : ℤ) → le_z d f ≡ true → d ≤ℤ f
le_passed d f h = grind (arith, ints)

-- a comparison that failed, of integers
le_failed : (d f : ℤ) → le_z d f ≡ false → f <ℤ d
le_failed d f h = grind (arith, ints)

-- a comparison of words that passed
pub passed : (x y d f : ℤ) → x ≡ d → y ≡ f → le_z x y ≡ true → d ≤ℤ f
passed x y d f e g h = le_passed d f (ap₂ le_z (sym e) (sym g) ∙ h)

-- a comparison of words that failed
pub failed : (x y d f : ℤ) → x ≡ d → y ≡ f → le_z x y ≡ false → f <ℤ d
failed x y d f e g h = le_failed d f (ap₂ le_z (sym e) (sym g) ∙ h)

-- a word of no bits is 0
pub zero_word : (a d : ℤ) (m : ℕ) → a ≡ d → unsigned_abs a ≤ m → m < 2 ^ 63 → of_z w64 a ≡ 0 → d ≡ pos 0
zero_word a d m e h l z = sym (word_is a d m e h l) ∙ ap (to_z w64) z

-- and 0 has no bits
pub word_zero : (a d : ℤ) → a ≡ d → d ≡ pos 0 → of_z w64 a ≡ 0
word_zero a d e z = ap (of_z w64) (e ∙ z)

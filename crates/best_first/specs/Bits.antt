-- Sets of small numbers, as bits that stand 64 in a word, the lowest first.
use Rattle.std.specs.Prelude.{◌≡◌, ℕ, zero, suc, ◌*◌, ◌/◌, ◌%◌, ◌<◌, Bool, true, false, cond, List, [], ◌∷◌, length, nat_eq, slice_index}
use Rattle.std.specs.Int.{bit_at}

-- the number's bit is set
abbrev pub has_bit : List ℕ → ℕ → Bool
has_bit words n = nat_eq (bit_at (slice_index words (n / 64)) (n % 64)) 1

-- the numbers below n whose bits are set, the greatest first
unfoldable pub numbers_below : List ℕ → ℕ → List ℕ
numbers_below words zero = []
numbers_below words (suc n) = cond (has_bit words n) (n ∷ numbers_below words n) (numbers_below words n)

-- no bit is set
abbrev pub HasNoBit : List ℕ → Type 0
HasNoBit words = (n : ℕ) → n < 64 * length words → has_bit words n ≡ false

-- the number's bit is set, and that of no lesser number is
pub record IsLeastBit (words : List ℕ) (n : ℕ) : Type 0 where
  pub inside : n < 64 * length words
  pub set : has_bit words n ≡ true
  pub before : (k : ℕ) → k < n → has_bit words k ≡ false

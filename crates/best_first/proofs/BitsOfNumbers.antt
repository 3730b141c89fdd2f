-- Numbers as bits of words: which numbers a list of words has, and what becomes of them where a bit is set or cleared.
use Rattle.std.proofs.Common.{◌≡◌, ◌≢◌, ℕ, zero, suc, ◌*◌, ◌/◌, ◌%◌, ◌+◌, ◌<◌, ◌≤◌, ◌^◌, min, Bool, true, false, cond, List, [], ◌∷◌, length, get_or, set, replicate}
use Rattle.std.proofs.Common.{Option, None, Some, MatchOption, IsPermutation, ⊎_elim, refl, sym, ap, ap₂, ◌∙◌, subst, arith, true≢false}
use Rattle.std.specs.Prelude.{nat_eq}
use mir.Val.{bits}
use Rattle.std.specs.Int.{bit_at, bit_not, w64, trailing_zeros}
use Rattle.std.specs.Int.RustNames.{bit_or}
use lib.Bits.{bit_and}
use Rattle.std.proofs.lemmas.Bool.{cases_eq, cases_lt, ne_eqb}
use Rattle.std.proofs.lemmas.List.{get_or-set_same, get_or-set_other, get_or_read, get_or_past, get_or-replicate, length-set, length-replicate}
use Rattle.std.proofs.lemmas.List.Sorted.{IsPermutation-refl, IsPermutation-trans, IsPermutation-cons, IsPermutation-middle, IsPermutation-sym}
use Rattle.std.proofs.lemmas.Nat.{one_shl, pow_pos}
use Rattle.std.proofs.Math.Nat.{one-mul, min-eq_left, min-eq_right, min-le_left}
use Rattle.std.proofs.lemmas.Nat.Bits.{bit_at-zero, bit_at-trailing_zeros, and_pow, bit_at_set_same, bit_at_set_other, bit_at_clear_same, bit_at_clear_other}
use Rattle.best_first.specs.Bits.{has_bit, numbers_below, HasNoBit, IsLeastBit}

-- ---- the numbers whose bits are set

-- where no bit is set there is none
pub none_set : (words : List ℕ) (n : ℕ) → ((k : ℕ) → k < n → has_bit words k ≡ false) → numbers_below words n ≡ []
unfolding numbers_below
none_set words zero h = refl
none_set words (suc n) h = ap (λ b. cond b (n ∷ numbers_below words n) (numbers_below words n)) (h n (omega arith)) ∙ none_set words n (λ k l. h k (omega arith))

-- words with the same bits have the same numbers
same_numbers : (a b : List ℕ) (n : ℕ) → ((k : ℕ) → k < n → has_bit a k ≡ has_bit b k) → numbers_below a n ≡ numbers_below b n
unfolding numbers_below
same_numbers a b zero h = refl
same_numbers a b (suc n) h = ap₂ (λ c l. cond c (n ∷ l) l) (h n (omega arith)) (same_numbers a b n (λ k l. h k (omega arith)))

permuted : (xs us ys vs : List ℕ) → xs ≡ us → ys ≡ vs → IsPermutation us vs → IsPermutation xs ys
permuted xs us ys vs p q h = subst (λ l. IsPermutation l ys) (sym p) (subst (λ l. IsPermutation us l) (sym q) h)

past_one : (c : Bool) (x n : ℕ) (xs ys : List ℕ) → IsPermutation (x ∷ xs) ys → IsPermutation (x ∷ cond c (n ∷ xs) xs) (cond c (n ∷ ys) ys)
past_one true x n xs ys h = IsPermutation-trans (x ∷ (n ∷ xs)) (n ∷ (x ∷ xs)) (n ∷ ys) (IsPermutation-middle (x ∷ []) n xs) (IsPermutation-cons n (x ∷ xs) ys h)
past_one false x n xs ys h = h

-- the numbers of two words that differ in one bit
one_more : (a b : List ℕ) (x n : ℕ) → x < n → has_bit a x ≡ false → has_bit b x ≡ true → ((k : ℕ) → (k ≡ x → ⊥) → has_bit b k ≡ has_bit a k) → IsPermutation (x ∷ numbers_below a n) (numbers_below b n)
unfolding numbers_below
one_more a b x zero l off on others = absurd (omega arith)
one_more a b x (suc n) l off on others =
    let xs = numbers_below a n in
    let ys = numbers_below b n in
    ⊎_elim
    (λ e.
    let none = ap (λ c. cond c (n ∷ xs) xs) (subst (λ k. has_bit a k ≡ false) e off) in
    let one = ap (λ c. cond c (n ∷ ys) ys) (subst (λ k. has_bit b k ≡ true) e on) in
    let rest = same_numbers b a n (λ k m. others k (λ q. absurd (omega arith))) in
    permuted (x ∷ cond (has_bit a n) (n ∷ xs) xs) (x ∷ xs) (cond (has_bit b n) (n ∷ ys) ys) (x ∷ xs) (ap (λ l. x ∷ l) none) (one ∙ ap₂ (λ h t. h ∷ t) (sym e) rest) (IsPermutation-refl (x ∷ xs)))
    (λ ne. subst (λ c. IsPermutation (x ∷ cond (has_bit a n) (n ∷ xs) xs) (cond c (n ∷ ys) ys)) (sym (others n (λ q. ne (sym q))))
    (past_one (has_bit a n) x n xs ys (one_more a b x n (omega arith) off on others)))
    (cases_eq x n)

-- where there is no least bit there is none of them
pub none_least : (words : List ℕ) (least : Option ℕ) → MatchOption least (HasNoBit words) (IsLeastBit words) → least ≡ None → numbers_below words (64 * length words) ≡ []
none_least words least h e = none_set words (64 * length words) (subst (λ l. MatchOption l (HasNoBit words) (IsLeastBit words)) e h)

-- ---- one bit

-- the word with the number's bit set
abbrev pub with_bit : ℕ → ℕ → ℕ
with_bit word x = bit_or word (1 * 2 ^ (x % 64) % 2 ^ bits w64)

-- the word with the number's bit cleared
abbrev pub without_bit : ℕ → ℕ → ℕ
without_bit word x = bit_and word (bit_not w64 (1 * 2 ^ (x % 64) % 2 ^ bits w64))

-- the bit at the number's place of a word that is written there
written : (words : List ℕ) (x word bit : ℕ) → x / 64 < length words → bit_at word (x % 64) ≡ bit → has_bit (set words (x / 64) word) x ≡ nat_eq bit 1
written words x word bit h is =
    ap (λ w. nat_eq (bit_at w (x % 64)) 1) (get_or-set_same words (x / 64) word 0 h) ∙ ap (λ b. nat_eq b 1) is

-- any other bit stays, where the word written has those of the old one
others_stay : (words : List ℕ) (x word new k : ℕ) → x / 64 < length words → word ≡ get_or words (x / 64) word
    → ((i : ℕ) → i < 64 → i ≢ x % 64 → bit_at new i ≡ bit_at word i) → (k ≡ x → ⊥) → has_bit (set words (x / 64) new) k ≡ has_bit words k
others_stay words x word new k h read same ne =
    let is = get_or_read words (x / 64) word h read 0 in
    ⊎_elim
    (λ here.
    let other : k % 64 ≢ x % 64 = λ e. ne (omega arith) in
    ap (λ w. nat_eq (bit_at w (k % 64)) 1) (ap (λ q. get_or (set words (x / 64) new) q 0) here ∙ get_or-set_same words (x / 64) new 0 h)
    ∙ ap (λ bit. nat_eq bit 1) (same (k % 64) (omega arith) other)
    ∙ ap (λ w. nat_eq (bit_at w (k % 64)) 1) (is ∙ ap (λ q. get_or words q 0) (sym here)))
    (λ apart. ap (λ w. nat_eq (bit_at w (k % 64)) 1) (get_or-set_other words (x / 64) (k / 64) new 0 apart))
    (cases_eq (k / 64) (x / 64))

-- the number's bit is found clear
pub found_clear : (words : List ℕ) (x word : ℕ) → x / 64 < length words → word ≡ get_or words (x / 64) word → bit_and word (1 * 2 ^ (x % 64) % 2 ^ bits w64) ≡ 0 → has_bit words x ≡ false
found_clear words x word inside read found =
    let masked : bit_and word (1 * 2 ^ (x % 64) % 2 ^ bits w64) ≡ bit_at word (x % 64) * 2 ^ (x % 64) = ap (bit_and word) (one_shl (x % 64) (bits w64) (omega arith)) ∙ and_pow word (x % 64) in
    let none : bit_at word (x % 64) ≡ 1 → ⊥ =
    λ e. (let pos : 0 < 2 ^ (x % 64) = pow_pos (x % 64) in let is : 2 ^ (x % 64) ≡ 0 = sym (one-mul (2 ^ (x % 64))) ∙ ap (λ b. b * 2 ^ (x % 64)) (sym e) ∙ sym masked
    ∙ found in let no_power : ⊥ = omega arith in no_power) in
    ap (λ w. nat_eq (bit_at w (x % 64)) 1) (sym (get_or_read words (x / 64) word inside read 0)) ∙ ne_eqb (bit_at word (x % 64)) 1 none

module _ (words : List ℕ) (x word : ℕ) (inside : x / 64 < length words) (read : word ≡ get_or words (x / 64) word) where
  set_there : has_bit (set words (x / 64) (with_bit word x)) x ≡ true
  set_there = written words x (with_bit word x) 1 inside (bit_at_set_same w64 word (x % 64) (omega arith))

  set_elsewhere : (k : ℕ) → (k ≡ x → ⊥) → has_bit (set words (x / 64) (with_bit word x)) k ≡ has_bit words k
  set_elsewhere k ne = others_stay words x word (with_bit word x) k inside read (λ i small other. bit_at_set_other w64 word (x % 64) (omega arith) i other) ne

  cleared_there : has_bit (set words (x / 64) (without_bit word x)) x ≡ false
  cleared_there = written words x (without_bit word x) 0 inside (bit_at_clear_same w64 word (x % 64) (omega arith))

  cleared_elsewhere : (k : ℕ) → (k ≡ x → ⊥) → has_bit (set words (x / 64) (without_bit word x)) k ≡ has_bit words k
  cleared_elsewhere k ne = others_stay words x word (without_bit word x) k inside read (λ i small other. bit_at_clear_other w64 word (x % 64) (omega arith) i small other) ne

  -- a number whose bit is set joins the others
  pub joins : has_bit words x ≡ false → IsPermutation (x ∷ numbers_below words (64 * length words))
      (numbers_below (set words (x / 64) (with_bit word x)) (64 * length (set words (x / 64) (with_bit word x))))
  joins off =
      let new = set words (x / 64) (with_bit word x) in
      subst (λ n. IsPermutation (x ∷ numbers_below words (64 * length words)) (numbers_below new (64 * n))) (sym (length-set words (x / 64) (with_bit word x)))
      (one_more words new x (64 * length words) (omega arith) off set_there set_elsewhere)

  -- a number whose bit is cleared leaves the others
  pub leaves : has_bit words x ≡ true → IsPermutation (numbers_below words (64 * length words))
      (x ∷ numbers_below (set words (x / 64) (without_bit word x)) (64 * length (set words (x / 64) (without_bit word x))))
  leaves on =
      let new = set words (x / 64) (without_bit word x) in
      subst (λ n. IsPermutation (numbers_below words (64 * length words)) (x ∷ numbers_below new (64 * n))) (sym (length-set words (x / 64) (without_bit word x)))
      (IsPermutation-sym (x ∷ numbers_below new (64 * length words)) (numbers_below words (64 * length words))
      (one_more new words x (64 * length words) (omega arith) cleared_there on (λ k ne. sym (cleared_elsewhere k ne))))

  -- the least bit after one was set
  pub least_joined : has_bit words x ≡ false → (least : Option ℕ) (n : ℕ) → MatchOption least (HasNoBit words) (IsLeastBit words)
      → MatchOption least (n ≡ x) (λ m. n ≡ min m x) → IsLeastBit (set words (x / 64) (with_bit word x)) n
  least_joined off None n h e = subst (IsLeastBit (set words (x / 64) (with_bit word x))) (sym e) record {
    inside = (let same = length-set words (x / 64) (with_bit word x) in omega arith);
    set = set_there;
    before = λ k l. set_elsewhere k (λ q. absurd (omega arith)) ∙ h k (omega arith);
  }
  least_joined off (Some m) n h e =
      let same = length-set words (x / 64) (with_bit word x) in
      ⊎_elim
      (λ less. subst (IsLeastBit (set words (x / 64) (with_bit word x))) (sym (e ∙ min-eq_right (omega arith))) record {
        inside = omega arith;
        set = set_there;
        before = λ k l. set_elsewhere k (λ q. absurd (omega arith)) ∙ h.before k (omega arith);
      })
      (λ more. subst (IsLeastBit (set words (x / 64) (with_bit word x))) (sym (e ∙ min-eq_left more)) record {
        inside = (let low = h.inside in omega arith);
        set = set_elsewhere m (λ q. true≢false (sym h.set ∙ ap (has_bit words) q ∙ off)) ∙ h.set;
        before = λ k l. set_elsewhere k (λ q. absurd (omega arith)) ∙ h.before k l;
      })
      (cases_lt x m)

-- ---- the search for the least bit

-- no bit of a word that is 0 is set
pub none_in_word : (words : List ℕ) (place word : ℕ) → word ≡ get_or words place 0 → word ≡ 0 → ((k : ℕ) → k < 64 * place → has_bit words k ≡ false) → (k : ℕ)
    → k < 64 * (place + 1) → has_bit words k ≡ false
none_in_word words place word is zeros before k l =
    ⊎_elim
    (λ low. before k low)
    (λ high.
    let here : k / 64 ≡ place = omega arith in
    ap (λ w. nat_eq (bit_at w (k % 64)) 1) (ap (λ q. get_or words q 0) here ∙ sym is ∙ zeros) ∙ ap (λ b. nat_eq b 1) (bit_at-zero (k % 64)))
    (cases_lt k (64 * place))

found_at : (words : List ℕ) (place word t : ℕ) → place < length words → word ≡ get_or words place 0 → ((k : ℕ) → k < 64 * place → has_bit words k ≡ false) → t < 64
    → bit_at word t ≡ 1 → ((i : ℕ) → i < t → bit_at word i ≡ 0) → IsLeastBit words (place * 64 + t)
found_at words place word t inside is before small one zeros =
    let place_is : (place * 64 + t) / 64 ≡ place = omega arith in
    let bit_is : (place * 64 + t) % 64 ≡ t = omega arith in
    record {
      inside = omega arith;
      set = ap₂ (λ q r. nat_eq (bit_at (get_or words q 0) r) 1) place_is bit_is ∙ ap (λ w. nat_eq (bit_at w t) 1) (sym is) ∙ ap (λ b. nat_eq b 1) one;
      before = λ k l. ⊎_elim
          (λ low. before k low)
          (λ high.
          let here : k / 64 ≡ place = omega arith in
          ap (λ w. nat_eq (bit_at w (k % 64)) 1) (ap (λ q. get_or words q 0) here ∙ sym is) ∙ ap (λ b. nat_eq b 1) (zeros (k % 64) (omega arith)))
          (cases_lt k (64 * place));
    }

-- the lowest bit of the first word that is not 0 is the least
pub found : (words : List ℕ) (place word : ℕ) → place < length words → word ≡ get_or words place 0 → ((k : ℕ) → k < 64 * place → has_bit words k ≡ false) → 0 < word
    → word < 2 ^ 64 → IsLeastBit words (place * 64 + trailing_zeros w64 word)
found words place word inside is before pos fits =
    let lowest = bit_at-trailing_zeros w64 word pos fits in
    found_at words place word (trailing_zeros w64 word) inside is before lowest.0 lowest.1 lowest.2

-- ---- zeros

-- words that are 0 have no bit
pub zeros_clear : (n : ℕ) (words : List ℕ) → words ≡ replicate n 0 → (k : ℕ) → has_bit words k ≡ false
zeros_clear n words is k =
    ap (λ l. nat_eq (bit_at (get_or l (k / 64) 0) (k % 64)) 1) is
    ∙ ap (λ w. nat_eq (bit_at w (k % 64)) 1) (zero_at n (k / 64))
    ∙ ap (λ b. nat_eq b 1) (bit_at-zero (k % 64))
  where
    zero_at : (n k : ℕ) → get_or {A = ℕ} (replicate n 0) k 0 ≡ 0
    zero_at n k = ⊎_elim (λ in_list. get_or-replicate n k 0 0 in_list)
        (λ past. get_or_past (replicate n 0) k 0 (let len : length {A = ℕ} (replicate n 0) ≡ n = length-replicate n 0 in omega arith)) (cases_lt k n)

-- the words for the numbers below a bound have no bit past the numbers of 32 bits
pub rounded_up : (count n : ℕ) → count < 4294967296 → n ≡ count / 64 + min 1 (count % 64) → 64 * n ≤ 4294967296
rounded_up count n small is = let most = min-le_left 1 (count % 64) in omega arith

-- Numbers in bytes: what is read of a page, and what is read back of what was written.
use Rattle.std.proofs.Common.{◌≡◌, ℕ, suc, ◌+◌, ◌*◌, ◌/◌, ◌%◌, ◌^◌, ◌<◌, ◌≤◌, List, [], ◌∷◌, ◌++◌, length, get_or, take, drop, refl, sym, ◌∙◌, ap, ap₂, arith}
use Rattle.std.proofs.Common.{length-append, take-take, drop-drop, take_at, drop_at}
use Rattle.std.specs.Int.{w16, w64, from_be_bytes}
use Rattle.std.proofs.lemmas.Nat.{from_be_bytes-to_be_bytes_2, from_be_bytes-to_be_bytes_8}
use Rattle.std.proofs.lemmas.List.{drop_more, drop-take}
use Rattle.code_btree.specs.Bytes.{piece, half_of, half_bytes, word_of, word_bytes, number_of, number_bytes}

step : (w at i : ℕ) (p : List ℕ) → at + i < length p → take (suc w) (drop (at + i) p) ≡ get_or p (at + i) 0 ∷ take w (drop (at + suc i) p)
step w at i p h =
    let more : (at + i) + 1 ≡ at + suc i = omega arith in
    ap (λ (q : List ℕ). take (suc w) q) (drop_more p (at + i) 0 h) ∙ ap (λ (j : ℕ). get_or p (at + i) 0 ∷ take w (drop j p)) more

pub bytes_2 : (at : ℕ) (p : List ℕ) → at + 2 ≤ length p → piece 2 at p ≡ get_or p at 0 ∷ get_or p (at + 1) 0 ∷ []
bytes_2 at p h =
    ap (λ (q : List ℕ). take 2 q) (drop_more p at 0 (omega arith)) ∙ ap (λ (q : List ℕ). get_or p at 0 ∷ q) (step 0 at 1 p (omega arith))

pub bytes_8 : (at : ℕ) (p : List ℕ) → at + 8 ≤ length p
    → piece 8 at p ≡ get_or p at 0 ∷ get_or p (at + 1) 0 ∷ get_or p (at + 2) 0 ∷ get_or p (at + 3) 0 ∷ get_or p (at + 4) 0 ∷ get_or p (at + 5) 0 ∷ get_or p (at + 6) 0 ∷ get_or p (at + 7) 0 ∷ []
bytes_8 at p h =
    ap (λ (q : List ℕ). take 8 q) (drop_more p at 0 (omega arith))
    ∙ ap (λ (q : List ℕ). get_or p at 0 ∷ q) (step 6 at 1 p (omega arith)
    ∙ ap (λ (q : List ℕ). get_or p (at + 1) 0 ∷ q) (step 5 at 2 p (omega arith)
    ∙ ap (λ (q : List ℕ). get_or p (at + 2) 0 ∷ q) (step 4 at 3 p (omega arith)
    ∙ ap (λ (q : List ℕ). get_or p (at + 3) 0 ∷ q) (step 3 at 4 p (omega arith)
    ∙ ap (λ (q : List ℕ). get_or p (at + 4) 0 ∷ q) (step 2 at 5 p (omega arith)
    ∙ ap (λ (q : List ℕ). get_or p (at + 5) 0 ∷ q) (step 1 at 6 p (omega arith)
    ∙ ap (λ (q : List ℕ). get_or p (at + 6) 0 ∷ q) (step 0 at 7 p (omega arith))))))))

pub half_read : (at n : ℕ) (p : List ℕ) → at + 2 ≤ length p → n ≡ from_be_bytes w16 (get_or p at 0 ∷ get_or p (at + 1) 0 ∷ []) → n ≡ half_of (piece 2 at p)
unfolding half_of
half_read at n p h e = e ∙ ap (λ (q : List ℕ). from_be_bytes w16 q) (sym (bytes_2 at p h))

pub word_read : (at n : ℕ) (p : List ℕ) → at + 8 ≤ length p
    → n ≡ from_be_bytes w64 (get_or p at 0 ∷ get_or p (at + 1) 0 ∷ get_or p (at + 2) 0 ∷ get_or p (at + 3) 0 ∷ get_or p (at + 4) 0 ∷ get_or p (at + 5) 0
    ∷ get_or p (at + 6) 0 ∷ get_or p (at + 7) 0 ∷ []) → n ≡ word_of (piece 8 at p)
unfolding word_of
word_read at n p h e = e ∙ ap (λ (q : List ℕ). from_be_bytes w64 q) (sym (bytes_8 at p h))

-- a number is its two halves
pub number_read : (at : ℕ) (p : List ℕ) → word_of (piece 8 at p) * 2 ^ 64 + word_of (piece 8 (at + 8) p) ≡ number_of (piece 16 at p)
unfolding number_of
number_read at p =
    let high : take 8 (piece 16 at p) ≡ piece 8 at p = take-take 8 16 (drop at p) (omega arith) in
    let low : drop 8 (piece 16 at p) ≡ piece 8 (at + 8) p = drop-take 8 8 (drop at p) ∙ ap (λ (q : List ℕ). take 8 q) (drop-drop 8 at p) in
    ap₂ (λ (a b : List ℕ). word_of a * 2 ^ 64 + word_of b) (sym high) (sym low)

pub length-half_bytes : (n : ℕ) → length (half_bytes n) ≡ 2
unfolding half_bytes
length-half_bytes n = refl

pub length-word_bytes : (n : ℕ) → length (word_bytes n) ≡ 8
unfolding word_bytes
length-word_bytes n = refl

pub length-number_bytes : (n : ℕ) → length (number_bytes n) ≡ 16
unfolding number_bytes
length-number_bytes n = omega (arith, length-append (word_bytes (n / 2 ^ 64)) (word_bytes (n % 2 ^ 64)), length-word_bytes (n / 2 ^ 64), length-word_bytes (n % 2 ^ 64))

pub half_back : (n : ℕ) → n < 2 ^ 16 → half_of (half_bytes n) ≡ n
unfolding half_of half_bytes
half_back n h = from_be_bytes-to_be_bytes_2 n h

pub word_back : (n : ℕ) → n < 2 ^ 64 → word_of (word_bytes n) ≡ n
unfolding word_of word_bytes
word_back n h = from_be_bytes-to_be_bytes_8 n h

pub number_back : (n : ℕ) → n < 2 ^ 128 → number_of (number_bytes n) ≡ n
unfolding number_of number_bytes
number_back n h =
    let high : n / 2 ^ 64 < 2 ^ 64 = omega arith in
    let low : n % 2 ^ 64 < 2 ^ 64 = omega arith in
    let a = word_bytes (n / 2 ^ 64) in
    let b = word_bytes (n % 2 ^ 64) in
    let e : word_of (take 8 (a ++ b)) ≡ n / 2 ^ 64 = ap (λ (q : List ℕ). word_of q) (take_at a b 8 (length-word_bytes (n / 2 ^ 64))) ∙ word_back (n / 2 ^ 64) high in
    let f : word_of (drop 8 (a ++ b)) ≡ n % 2 ^ 64 = ap (λ (q : List ℕ). word_of q) (drop_at a b 8 (length-word_bytes (n / 2 ^ 64))) ∙ word_back (n % 2 ^ 64) low in
    omega (arith, e, f)

-- Ids as bits of words: which ids a list of words has, none in zeros, and one more where a bit is set.
use Rattle.std.proofs.Common.{◌≡◌, ◌≢◌, ℕ, zero, suc, ◌*◌, ◌/◌, ◌%◌, ◌<◌, ◌≤◌, ◌^◌, Bool, true, false, cond, not, ◌&&◌, ◌||◌, nat_lt, List, length, get_or, set, replicate, ⊎_elim, refl}
use Rattle.std.proofs.Common.{sym, ap, ◌∙◌, subst, arith, nat_cmp}
use Rattle.std.specs.Prelude.{nat_eq}
use mir.Val.{bits}
use Rattle.std.specs.Int.{bit_at, w64}
use Rattle.std.specs.Int.RustNames.{bit_or}
use lib.Bits.{bit_and}
use Rattle.std.specs.Ordering.{eq_by_cmp}
use Rattle.std.specs.Cmp.{nat_cmp_total, unsigned_tied}
use Rattle.std.specs.FinSet as set
use Rattle.std.specs.FinMap.{nat_cmp-IsAntisymmetric}
use Rattle.std.proofs.lemmas.Bool.{cases_eq, cases_lt, eq-eqb, ne_eqb, lt-ltb, and_from, and_left, or_left, or_from}
use Rattle.std.proofs.lemmas.List.{get_or-set_same, get_or-set_other, get_or_read, get_or_past, get_or-replicate, length-replicate}
use Rattle.std.proofs.lemmas.Nat.{one_shl, pow_pos}
use Rattle.std.proofs.Math.Nat.{one-mul, zero-mul}
use Rattle.std.proofs.lemmas.Nat.Bits.{bit_at-zero, bit_at-lt, and_pow, bit_at_set_same, bit_at_set_other}
use Rattle.semi_join.specs.LeftRows.{IdSet, has_left_bit, ids_below}

pub tied : (a b : ℕ) → a ≡ b → eq_by_cmp nat_cmp a b ≡ true
tied a b e = unsigned_tied a b ∙ eq-eqb a b e

pub apart : (a b : ℕ) → (a ≡ b → ⊥) → eq_by_cmp nat_cmp a b ≡ false
apart a b e = unsigned_tied a b ∙ ne_eqb a b e

-- an id that is put in is in the set
pub put_has : (s : IdSet) (k q : ℕ) → q ≡ k → set.contains (set.insert s k) q ≡ true
put_has s k q e = set.contains-insert nat_cmp_total s k q ∙ or_left (eq_by_cmp nat_cmp q k) (set.contains s q) (tied q k e)

-- what was in the set stays there
pub put_keeps : (s : IdSet) (k q : ℕ) → set.contains s q ≡ true → set.contains (set.insert s k) q ≡ true
put_keeps s k q e = set.contains-insert nat_cmp_total s k q ∙ Rattle.std.proofs.lemmas.Bool.or_right (eq_by_cmp nat_cmp q k) (set.contains s q) e

-- any other id is in the set as before
pub put_others : (s : IdSet) (k q : ℕ) → (q ≡ k → ⊥) → set.contains (set.insert s k) q ≡ set.contains s q
put_others s k q e = set.contains-insert nat_cmp_total s k q ∙ ap (λ b. b || set.contains s q) (apart q k e)

put_if : (s : IdSet) (k q : ℕ) (b : Bool) → (q ≡ k → ⊥) → set.contains (cond b (set.insert s k) s) q ≡ set.contains s q
put_if s k q true e = put_others s k q e
put_if s k q false e = refl

put_here : (s : IdSet) (k : ℕ) (b : Bool) → set.contains s k ≡ false → set.contains (cond b (set.insert s k) s) k ≡ b
put_here s k true e = put_has s k k refl
put_here s k false e = e

-- no id from n on is among those below n
pub none_above : (words : List ℕ) (n id : ℕ) → n ≤ id → set.contains (ids_below words n) id ≡ false
unfolding ids_below
none_above words zero id h = set.contains-empty nat_cmp id
none_above words (suc n) id h = put_if (ids_below words n) n id (has_left_bit words n) (λ e. absurd (omega arith)) ∙ none_above words n id (omega arith)

-- an id below n is among them where its bit is set
pub has_below : (words : List ℕ) (n id : ℕ) → id < n → set.contains (ids_below words n) id ≡ has_left_bit words id
unfolding ids_below
has_below words zero id h = absurd (omega arith)
has_below words (suc n) id h =
    ⊎_elim
    (λ e. subst (λ k. set.contains (cond (has_left_bit words n) (set.insert (ids_below words n) n) (ids_below words n)) k ≡ has_left_bit words k) (sym e)
    (put_here (ids_below words n) n (has_left_bit words n) (none_above words n n (omega arith))))
    (λ e. put_if (ids_below words n) n id (has_left_bit words n) e ∙ has_below words n id (omega arith))
    (cases_eq id n)

-- zeros have no id
pub zeros_have_none : (words : List ℕ) → ((k : ℕ) → get_or words k 0 ≡ 0) → (n : ℕ) → ids_below words n ≡ set.empty
unfolding ids_below
zeros_have_none words zeros zero = refl
zeros_have_none words zeros (suc n) =
    ap (λ word. cond (nat_eq (bit_at word (n % 64)) 1) (set.insert (ids_below words n) n) (ids_below words n)) (zeros (n / 64))
    ∙ ap (λ bit. cond (nat_eq bit 1) (set.insert (ids_below words n) n) (ids_below words n)) (bit_at-zero (n % 64))
    ∙ zeros_have_none words zeros n

-- the word with the id's bit set
abbrev pub with_bit : ℕ → ℕ → ℕ
with_bit word id = bit_or word (1 * 2 ^ (id % 64) % 2 ^ bits w64)

bit_there : (words : List ℕ) (id word : ℕ) → id / 64 < length words → has_left_bit (set words (id / 64) (with_bit word id)) id ≡ true
bit_there words id word h =
    ap (λ w. nat_eq (bit_at w (id % 64)) 1) (get_or-set_same words (id / 64) (with_bit word id) 0 h)
    ∙ eq-eqb (bit_at (with_bit word id) (id % 64)) 1 (bit_at_set_same w64 word (id % 64) (omega arith))

bit_elsewhere : (words : List ℕ) (id q word : ℕ) → id / 64 < length words → word ≡ get_or words (id / 64) 0 → (q ≡ id → ⊥)
    → has_left_bit (set words (id / 64) (with_bit word id)) q ≡ has_left_bit words q
bit_elsewhere words id q word h is ne =
    ⊎_elim
    (λ same.
    let other : q % 64 ≢ id % 64 = λ e. ne (omega arith) in
    ap (λ w. nat_eq (bit_at w (q % 64)) 1) (ap (λ k. get_or (set words (id / 64) (with_bit word id)) k 0) same ∙ get_or-set_same words (id / 64) (with_bit word id) 0 h)
    ∙ ap (λ bit. nat_eq bit 1) (bit_at_set_other w64 word (id % 64) (omega arith) (q % 64) other)
    ∙ ap (λ w. nat_eq (bit_at w (q % 64)) 1) (is ∙ ap (λ k. get_or words k 0) (sym same)))
    (λ apart. ap (λ w. nat_eq (bit_at w (q % 64)) 1) (get_or-set_other words (id / 64) (q / 64) (with_bit word id) 0 apart))
    (cases_eq (q / 64) (id / 64))

-- where the id's bit is set, the id is there too, and no other is more or less
pub one_more : (words : List ℕ) (id word n : ℕ) → id / 64 < length words → n ≡ length words → word ≡ get_or words (id / 64) word
    → ids_below (set words (id / 64) (with_bit word id)) (64 * n) ≡ set.insert (ids_below words (64 * n)) id
one_more words id word n inside len read =
    let new = set words (id / 64) (with_bit word id) in
    let is = get_or_read words (id / 64) word inside read 0 in
    set.same_set nat_cmp_total nat_cmp-IsAntisymmetric (ids_below new (64 * n)) (set.insert (ids_below words (64 * n)) id) (λ q.
    ⊎_elim
    (λ low.
    ⊎_elim
    (λ e. has_below new (64 * n) q low ∙ ap (has_left_bit new) e ∙ bit_there words id word inside ∙ sym (put_has (ids_below words (64 * n)) id q e))
    (λ e. has_below new (64 * n) q low ∙ bit_elsewhere words id q word inside is e ∙ sym (has_below words (64 * n) q low) ∙ sym (put_others (ids_below words (64 * n)) id q e))
    (cases_eq q id))
    (λ high. none_above new (64 * n) q high ∙ sym (put_others (ids_below words (64 * n)) id q (λ e. absurd (omega arith)) ∙ none_above words (64 * n) q high))
    (cases_lt q (64 * n)))

masked : (word k : ℕ) → k < 64 → bit_and word (1 * 2 ^ k % 2 ^ bits w64) ≡ bit_at word k * 2 ^ k
masked word k h =
    ap (bit_and word) (one_shl k (bits w64) h) ∙ and_pow word k

-- the id is there where its bit is found
pub found_there : (words : List ℕ) (id word n : ℕ) → id / 64 < length words → n ≡ length words → word ≡ get_or words (id / 64) word
    → (bit_and word (1 * 2 ^ (id % 64) % 2 ^ bits w64) ≡ 0 → ⊥) → set.contains (ids_below words (64 * n)) id ≡ true
found_there words id word n inside len read found =
    let bit = bit_at word (id % 64) in
    let some : bit ≡ 0 → ⊥ = λ e. found (masked word (id % 64) (omega arith) ∙ ap (λ b. b * 2 ^ (id % 64)) e ∙ zero-mul (2 ^ (id % 64))) in
    let one : bit ≡ 1 = let few = bit_at-lt word (id % 64) in omega arith in
    has_below words (64 * n) id (omega arith) ∙ ap (λ w. nat_eq (bit_at w (id % 64)) 1) (sym (get_or_read words (id / 64) word inside read 0)) ∙ eq-eqb bit 1 one

-- and not there where it isn't
pub not_there : (words : List ℕ) (id word n : ℕ) → id / 64 < length words → n ≡ length words → word ≡ get_or words (id / 64) word
    → bit_and word (1 * 2 ^ (id % 64) % 2 ^ bits w64) ≡ 0 → set.contains (ids_below words (64 * n)) id ≡ false
not_there words id word n inside len read found =
    let bit = bit_at word (id % 64) in
    let none : bit ≡ 1 → ⊥ = λ e. (let pos : 0 < 2 ^ (id % 64) = pow_pos (id % 64) in let is : 2 ^ (id % 64) ≡ 0 =
    sym (one-mul (2 ^ (id % 64))) ∙ ap (λ b. b * 2 ^ (id % 64)) (sym e) ∙ sym (masked word (id % 64) (omega arith)) ∙ found in let no_power : ⊥ = omega arith in no_power) in
    has_below words (64 * n) id (omega arith) ∙ ap (λ w. nat_eq (bit_at w (id % 64)) 1) (sym (get_or_read words (id / 64) word inside read 0)) ∙ ne_eqb bit 1 none

-- the bit tells whether a left row waits: it has one, and it isn't set
pub bit_tells : (words : List ℕ) (id word n : ℕ) → id / 64 < length words → n ≡ length words → word ≡ get_or words (id / 64) word
    → nat_eq (bit_and word (1 * 2 ^ (id % 64) % 2 ^ bits w64)) 0 ≡ (not (set.contains (ids_below words (64 * n)) id) && nat_lt id (64 * n))
bit_tells words id word n inside len read =
    let found = bit_and word (1 * 2 ^ (id % 64) % 2 ^ bits w64) in
    let there = set.contains (ids_below words (64 * n)) id in
    ⊎_elim
    (λ e. eq-eqb found 0 e ∙ sym (and_from (not there) (nat_lt id (64 * n)) (ap not (not_there words id word n inside len read e)) (lt-ltb id (64 * n) (omega arith))))
    (λ ne. ne_eqb found 0 ne ∙ sym (and_left (not there) (nat_lt id (64 * n)) (ap not (found_there words id word n inside len read ne))))
    (cases_eq found 0)

-- zeros, at each place
pub zeros : (n k : ℕ) → get_or {A = ℕ} (replicate n 0) k 0 ≡ 0
zeros n k = ⊎_elim (λ in_list. get_or-replicate n k 0 0 in_list)
    (λ past. get_or_past (replicate n 0) k 0 (let len : length {A = ℕ} (replicate n 0) ≡ n = length-replicate n 0 in omega arith)) (cases_lt k n)

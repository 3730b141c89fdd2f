-- How many numbers of a list pass a test: as a set, over some slots, and in a map that has a number for each.
use Rattle.std.proofs.Common.{◌≡◌, ◌≢◌, ◌≤◌, ◌<◌, ℕ, zero, suc, ◌+◌, ◌-◌, List, [], ◌∷◌, Bool, true, false, cond, ◌&&◌, ◌||◌, refl, sym, ap, ◌∙◌, is_some, inl, inr, arith}
use Rattle.std.specs.Ordering.{nat_cmp, eq_by_cmp}
use Rattle.std.specs.Cmp.{nat_cmp_total}
use Rattle.std.specs.FinMap as map
use Rattle.std.specs.FinSet as set
use Rattle.std.proofs.lemmas.Bool.{true≢false, cases_eq}
use Rattle.page_pool.specs.Images.{numbers_where}
use Rattle.page_pool.proofs.Maps.{get-remove_other, tie_itself}
use Rattle.page_pool.proofs.Choices.{is_in, contains-numbers_where}

-- one for a number that passes, unless it comes again
abbrev pub one : (ℕ → Bool) → ℕ → List ℕ → ℕ
one test n ns = cond (is_in n ns) 0 (cond (test n) 1 0)

-- how many numbers of the list pass, each counted once
abbrev pub tally : (ℕ → Bool) → List ℕ → ℕ
tally test [] = 0
tally test (n ∷ ns) = one test n ns + tally test ns

-- the sum over the first slots
abbrev pub over_slots : (ℕ → ℕ) → ℕ → ℕ
over_slots f zero = 0
over_slots f (suc id) = over_slots f id + f id

-- a set is as large as the tally
pub set_tally : (test : ℕ → Bool) (ns : List ℕ) → set.len (numbers_where test ns) ≡ tally test ns
set_tally test [] = set.len-empty nat_cmp
set_tally test (n ∷ ns) = by_tests (test n) refl (is_in n ns) refl (set_tally test ns)
  where
    by_tests : (t : Bool) → test n ≡ t → (b : Bool) → is_in n ns ≡ b → set.len (numbers_where test ns) ≡ tally test ns
        → set.len (cond (test n) (set.insert (numbers_where test ns) n) (numbers_where test ns)) ≡ cond (is_in n ns) 0 (cond (test n) 1 0) + tally test ns
    by_tests false is b there rest =
        let left : set.len (cond (test n) (set.insert (numbers_where test ns) n) (numbers_where test ns)) ≡ set.len (numbers_where test ns) =
        ap (λ t. set.len (cond t (set.insert (numbers_where test ns) n) (numbers_where test ns))) is in
        let right : cond {A = ℕ} (is_in n ns) 0 (cond (test n) 1 0) ≡ 0 = ap (λ t. cond {A = ℕ} (is_in n ns) 0 (cond t 1 0)) is ∙ nothing (is_in n ns) in omega arith
      where
        nothing : (b : Bool) → cond {A = ℕ} b 0 0 ≡ 0
        nothing true = refl
        nothing false = refl
    by_tests true is b there rest =
        let left : set.len (cond (test n) (set.insert (numbers_where test ns) n) (numbers_where test ns)) ≡ cond b (set.len (numbers_where test ns)) (set.len (numbers_where test ns) + 1) =
        ap (λ t. set.len (cond t (set.insert (numbers_where test ns) n) (numbers_where test ns))) is ∙ set.len-insert nat_cmp_total (numbers_where test ns) n
        ∙ (λ i. cond ((contains-numbers_where test ns n ∙ (λ j. there j && is j)) i) (set.len (numbers_where test ns)) (set.len (numbers_where test ns) + 1)) ∙ all_true b in
        let right : cond {A = ℕ} (is_in n ns) 0 (cond (test n) 1 0) ≡ cond {A = ℕ} b 0 1 = (λ i. cond {A = ℕ} (there i) 0 (cond (is i) 1 0)) in
        by_place b left right
      where
        all_true : (b : Bool) → cond {A = ℕ} (b && true) (set.len (numbers_where test ns)) (set.len (numbers_where test ns) + 1)
            ≡ cond b (set.len (numbers_where test ns)) (set.len (numbers_where test ns) + 1)
        all_true true = refl
        all_true false = refl

        by_place : (b : Bool) → set.len (cond (test n) (set.insert (numbers_where test ns) n) (numbers_where test ns)) ≡ cond b (set.len (numbers_where test ns)) (set.len (numbers_where test ns) + 1)
            → cond {A = ℕ} (is_in n ns) 0 (cond (test n) 1 0) ≡ cond {A = ℕ} b 0 1
            → set.len (cond (test n) (set.insert (numbers_where test ns) n) (numbers_where test ns)) ≡ cond {A = ℕ} (is_in n ns) 0 (cond (test n) 1 0) + tally test ns
        by_place true left right = omega arith
        by_place false left right = omega arith

-- two sums over slots are one
pub slots_add : (f g : ℕ → ℕ) (k : ℕ) → over_slots (λ id. f id + g id) k ≡ over_slots f k + over_slots g k
slots_add f g zero = refl
slots_add f g (suc k) = let rest = slots_add f g k in omega arith

pub slots_more : (f g : ℕ → ℕ) (k : ℕ) → ((id : ℕ) → f id ≤ g id) → over_slots f k ≤ over_slots g k
slots_more f g zero more = omega arith
slots_more f g (suc k) more = let rest = slots_more f g k more in let last = more k in omega arith

slots_none : (k : ℕ) → over_slots (λ id. 0) k ≡ 0
slots_none zero = refl
slots_none (suc k) = let rest = slots_none k in omega arith

slots_one : (f : ℕ → ℕ) (k id : ℕ) → id < k → f id ≤ over_slots f k
slots_one f zero id low = absurd (omega arith)
slots_one f (suc k) id low = elim (cases_eq id k) [
  | inl is ↦ let here : f id ≡ f k = ap f is in omega arith
  | inr other ↦ let rest = slots_one f k id (below id k low other) in omega arith
]
  where
    below : (id k : ℕ) → id < suc k → (id ≡ k → ⊥) → id < k
    below id k low other = omega arith

-- what passes passes for some slot, so the tallies of the slots are no less
pub tally_slots : (k : ℕ) (test : ℕ → Bool) (by_slot : ℕ → ℕ → Bool) (ns : List ℕ) → ((n : ℕ) → test n ≡ true → (id : ℕ) × ((id < k) × (by_slot id n ≡ true)))
    → tally test ns ≤ over_slots (λ id. tally (by_slot id) ns) k
tally_slots k test by_slot [] some = omega arith
tally_slots k test by_slot (n ∷ ns) some = step (tally_slots k test by_slot ns some)
  where
    first : one test n ns ≤ over_slots (λ id. one (by_slot id) n ns) k
    first = by_tests (is_in n ns) refl (test n) refl
      where
        by_tests : (b : Bool) → is_in n ns ≡ b → (t : Bool) → test n ≡ t → one test n ns ≤ over_slots (λ id. one (by_slot id) n ns) k
        by_tests true there t is = let none : one test n ns ≡ 0 = ap (λ b. cond {A = ℕ} b 0 (cond (test n) 1 0)) there in omega arith
        by_tests false there false is = let none : one test n ns ≡ 0 = (λ i. cond {A = ℕ} (there i) 0 (cond (is i) 1 0)) in omega arith
        by_tests false there true is =
            let slot = some n is in
            let whole : one test n ns ≡ 1 = (λ i. cond {A = ℕ} (there i) 0 (cond (is i) 1 0)) in
            let part : one (by_slot slot.0) n ns ≡ 1 = (λ i. cond {A = ℕ} (there i) 0 (cond (slot.1.1 i) 1 0)) in
            let more = slots_one (λ id. one (by_slot id) n ns) k slot.0 slot.1.0 in omega arith

    step : tally test ns ≤ over_slots (λ id. tally (by_slot id) ns) k → one test n ns + tally test ns ≤ over_slots (λ id. one (by_slot id) n ns + tally (by_slot id) ns) k
    step rest = let sum = slots_add (λ id. one (by_slot id) n ns) (λ id. tally (by_slot id) ns) k in let here = first in omega arith

-- nothing passes
pub tally_none : (test : ℕ → Bool) (ns : List ℕ) → ((n : ℕ) → test n ≡ false) → tally test ns ≡ 0
tally_none test [] none = refl
tally_none test (n ∷ ns) none = let rest = tally_none test ns none in let here : one test n ns ≡ 0 = ap (λ t. cond {A = ℕ} (is_in n ns) 0 (cond t 1 0)) (none n) ∙ nothing (is_in n ns) in omega arith
  where
    nothing : (b : Bool) → cond {A = ℕ} b 0 0 ≡ 0
    nothing true = refl
    nothing false = refl

module _ {X : Type 0} (test : ℕ → Bool) (number : ℕ → ℕ) where
  -- the map without the numbers of what passes
  abbrev pub drained : List ℕ → map.FinMap nat_cmp X → map.FinMap nat_cmp X
  drained [] m = m
  drained (n ∷ ns) m = cond (test n) (map.remove (drained ns m) (number n)) (drained ns m)

  -- the other numbers are left
  pub drained_keeps : (ns : List ℕ) (m : map.FinMap nat_cmp X) (q : ℕ) → map.contains_key m q ≡ true → ((n : ℕ) → is_in n ns ≡ true → test n ≡ true → number n ≢ q)
      → map.contains_key (drained ns m) q ≡ true
  drained_keeps [] m q there other = there
  drained_keeps (n ∷ ns) m q there other = by_test (test n) refl (drained_keeps ns m q there (λ k later. other k (or_right_true (eq_by_cmp nat_cmp k n) (is_in k ns) later)))
    where
      or_right_true : (a b : Bool) → b ≡ true → (a || b) ≡ true
      or_right_true true b h = refl
      or_right_true false b h = h

      by_test : (t : Bool) → test n ≡ t → map.contains_key (drained ns m) q ≡ true → map.contains_key (cond (test n) (map.remove (drained ns m) (number n)) (drained ns m)) q ≡ true
      by_test false is rest = ap (λ t. map.contains_key (cond t (map.remove (drained ns m) (number n)) (drained ns m)) q) is ∙ rest
      by_test true is rest = ap (λ t. map.contains_key (cond t (map.remove (drained ns m) (number n)) (drained ns m)) q) is
          ∙ ap is_some (get-remove_other (drained ns m) (number n) q (λ same. other n (itself n) is (sym same))) ∙ rest
        where
          itself : (n : ℕ) → is_in n (n ∷ ns) ≡ true
          itself n = ap (λ b. b || is_in n ns) (tie_itself n)

  -- what passes has numbers of its own in the map, so the tally and the rest are no more than the map
  pub drain : (ns : List ℕ) (m : map.FinMap nat_cmp X) → ((n : ℕ) → test n ≡ true → map.contains_key m (number n) ≡ true)
      → ((n k : ℕ) → test n ≡ true → test k ≡ true → number n ≡ number k → n ≡ k) → tally test ns + map.len (drained ns m) ≤ map.len m
  drain [] m has apart = omega arith
  drain (n ∷ ns) m has apart = by_tests (test n) refl (is_in n ns) refl (drain ns m has apart)
    where
      fresh : test n ≡ true → is_in n ns ≡ false → map.contains_key (drained ns m) (number n) ≡ true
      fresh is out = drained_keeps ns m (number n) (has n is) (λ k later passes same. true≢false (sym later ∙ ap (λ x. is_in x ns) (apart k n passes is same) ∙ out))

      size : map.len (map.remove (drained ns m) (number n)) ≡ cond (map.contains_key (drained ns m) (number n)) (map.len (drained ns m) - 1) (map.len (drained ns m))
      size = map.len-remove nat_cmp_total (drained ns m) (number n)

      by_tests : (t : Bool) → test n ≡ t → (b : Bool) → is_in n ns ≡ b → tally test ns + map.len (drained ns m) ≤ map.len m
          → one test n ns + tally test ns + map.len (cond (test n) (map.remove (drained ns m) (number n)) (drained ns m)) ≤ map.len m
      by_tests false is b there rest =
          let left : one test n ns ≡ 0 = ap (λ t. cond {A = ℕ} (is_in n ns) 0 (cond t 1 0)) is ∙ nothing (is_in n ns) in
          let right : map.len (cond (test n) (map.remove (drained ns m) (number n)) (drained ns m)) ≡ map.len (drained ns m) =
          ap (λ t. map.len (cond t (map.remove (drained ns m) (number n)) (drained ns m))) is in omega arith
        where
          nothing : (b : Bool) → cond {A = ℕ} b 0 0 ≡ 0
          nothing true = refl
          nothing false = refl
      by_tests true is true there rest =
          let left : one test n ns ≡ 0 = ap (λ b. cond {A = ℕ} b 0 (cond (test n) 1 0)) there in
          let right : map.len (cond (test n) (map.remove (drained ns m) (number n)) (drained ns m)) ≡ map.len (map.remove (drained ns m) (number n)) =
          ap (λ t. map.len (cond t (map.remove (drained ns m) (number n)) (drained ns m))) is in
          let less = shorter (map.contains_key (drained ns m) (number n)) size in omega arith
        where
          shorter : (b : Bool) → map.len (map.remove (drained ns m) (number n)) ≡ cond b (map.len (drained ns m) - 1) (map.len (drained ns m))
              → map.len (map.remove (drained ns m) (number n)) ≤ map.len (drained ns m)
          shorter true h = omega arith
          shorter false h = omega arith
      by_tests true is false there rest =
          let left : one test n ns ≡ 1 = (λ i. cond {A = ℕ} (there i) 0 (cond (is i) 1 0)) in
          let right : map.len (cond (test n) (map.remove (drained ns m) (number n)) (drained ns m)) ≡ map.len (map.remove (drained ns m) (number n)) =
          ap (λ t. map.len (cond t (map.remove (drained ns m) (number n)) (drained ns m))) is in
          let less : map.len (map.remove (drained ns m) (number n)) ≡ map.len (drained ns m) - 1 = size ∙ ap (λ b. cond b (map.len (drained ns m) - 1) (map.len (drained ns m))) (fresh is there) in
          let some = some_left (drained ns m) (number n) (fresh is there) in omega arith
        where
          some_left : (l : map.FinMap nat_cmp X) (q : ℕ) → map.contains_key l q ≡ true → 1 ≤ map.len l
          some_left l q there = by_len (map.len l) refl
            where
              by_len : (k : ℕ) → map.len l ≡ k → 1 ≤ map.len l
              by_len zero none = absurd (true≢false (sym there ∙ ap (λ x. map.contains_key x q) (map.empty_of_len l none) ∙ ap is_some (map.get-empty nat_cmp q)))
              by_len (suc k) is = omega arith

-- fewer numbers pass a test that is harder
pub fewer_where : (p q : ℕ → Bool) (ns : List ℕ) → ((n : ℕ) → p n ≡ true → q n ≡ true) → set.len (numbers_where p ns) ≤ set.len (numbers_where q ns)
fewer_where p q [] harder = omega arith
fewer_where p q (n ∷ ns) harder = by_tests (p n) refl (q n) refl (is_in n ns) refl (fewer_where p q ns harder)
  where
    size : (r : ℕ → Bool) → set.len (set.insert (numbers_where r ns) n) ≡ cond (is_in n ns && r n) (set.len (numbers_where r ns)) (set.len (numbers_where r ns) + 1)
    size r = set.len-insert nat_cmp_total (numbers_where r ns) n ∙ ap (λ b. cond b (set.len (numbers_where r ns)) (set.len (numbers_where r ns) + 1)) (contains-numbers_where r ns n)

    grown : (r : ℕ → Bool) (a b : Bool) → r n ≡ a → is_in n ns ≡ b → set.len (set.insert (numbers_where r ns) n) ≡ cond (b && a) (set.len (numbers_where r ns)) (set.len (numbers_where r ns) + 1)
    grown r a b is_a is_b = size r ∙ (λ i. cond (is_b i && is_a i) (set.len (numbers_where r ns)) (set.len (numbers_where r ns) + 1))

    by_tests : (a : Bool) → p n ≡ a → (b : Bool) → q n ≡ b → (c : Bool) → is_in n ns ≡ c → set.len (numbers_where p ns) ≤ set.len (numbers_where q ns)
        → set.len (cond (p n) (set.insert (numbers_where p ns) n) (numbers_where p ns)) ≤ set.len (cond (q n) (set.insert (numbers_where q ns) n) (numbers_where q ns))
    by_tests true a false b c is_c less = absurd (true≢false (sym (harder n a) ∙ b))
    by_tests true a true b true c less =
        let left : set.len (cond (p n) (set.insert (numbers_where p ns) n) (numbers_where p ns)) ≡ set.len (numbers_where p ns) =
        ap (λ t. set.len (cond t (set.insert (numbers_where p ns) n) (numbers_where p ns))) a ∙ grown p true true a c in
        let right : set.len (cond (q n) (set.insert (numbers_where q ns) n) (numbers_where q ns)) ≡ set.len (numbers_where q ns) =
        ap (λ t. set.len (cond t (set.insert (numbers_where q ns) n) (numbers_where q ns))) b ∙ grown q true true b c in
        omega arith
    by_tests true a true b false c less =
        let left : set.len (cond (p n) (set.insert (numbers_where p ns) n) (numbers_where p ns)) ≡ set.len (numbers_where p ns) + 1 =
        ap (λ t. set.len (cond t (set.insert (numbers_where p ns) n) (numbers_where p ns))) a ∙ grown p true false a c in
        let right : set.len (cond (q n) (set.insert (numbers_where q ns) n) (numbers_where q ns)) ≡ set.len (numbers_where q ns) + 1 =
        ap (λ t. set.len (cond t (set.insert (numbers_where q ns) n) (numbers_where q ns))) b ∙ grown q true false b c in
        omega arith
    by_tests false a false b c is_c less =
        let left : set.len (cond (p n) (set.insert (numbers_where p ns) n) (numbers_where p ns)) ≡ set.len (numbers_where p ns) =
        ap (λ t. set.len (cond t (set.insert (numbers_where p ns) n) (numbers_where p ns))) a in
        let right : set.len (cond (q n) (set.insert (numbers_where q ns) n) (numbers_where q ns)) ≡ set.len (numbers_where q ns) =
        ap (λ t. set.len (cond t (set.insert (numbers_where q ns) n) (numbers_where q ns))) b in
        omega arith
    by_tests false a true b true c less =
        let left : set.len (cond (p n) (set.insert (numbers_where p ns) n) (numbers_where p ns)) ≡ set.len (numbers_where p ns) =
        ap (λ t. set.len (cond t (set.insert (numbers_where p ns) n) (numbers_where p ns))) a in
        let right : set.len (cond (q n) (set.insert (numbers_where q ns) n) (numbers_where q ns)) ≡ set.len (numbers_where q ns) =
        ap (λ t. set.len (cond t (set.insert (numbers_where q ns) n) (numbers_where q ns))) b ∙ grown q true true b c in
        omega arith
    by_tests false a true b false c less =
        let left : set.len (cond (p n) (set.insert (numbers_where p ns) n) (numbers_where p ns)) ≡ set.len (numbers_where p ns) =
        ap (λ t. set.len (cond t (set.insert (numbers_where p ns) n) (numbers_where p ns))) a in
        let right : set.len (cond (q n) (set.insert (numbers_where q ns) n) (numbers_where q ns)) ≡ set.len (numbers_where q ns) + 1 =
        ap (λ t. set.len (cond t (set.insert (numbers_where q ns) n) (numbers_where q ns))) b ∙ grown q true false b c in
        omega arith

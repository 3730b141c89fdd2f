-- Separators: the least keys of a row of trees but the first.
use Rattle.std.proofs.Common.{◌≡◌, ℕ, zero, suc, ◌+◌, ◌-◌, ◌<◌, ◌≤◌, List, [], ◌∷◌, ◌++◌, length, get_or, take, drop, refl, sym, ◌∙◌, ap, ap₂, arith, append_assoc}
use Rattle.std.proofs.Common.{length-append, take_at, drop_at, drop-drop}

-- a key put in front of child `length fs + 1`
pub seps_insert : (fs gs : List ℕ) (a b k : ℕ) → (1 ≤ length fs → b ≡ a)
    → take (length fs) (drop 1 (fs ++ (a ∷ gs))) ++ ((k ∷ []) ++ drop (length fs) (drop 1 (fs ++ (a ∷ gs)))) ≡ drop 1 (fs ++ (b ∷ (k ∷ gs)))
seps_insert [] gs a b k h = refl
seps_insert (f ∷ fs) gs a b k h =
    let c : fs ++ (a ∷ gs) ≡ (fs ++ (a ∷ [])) ++ gs = simp append_assoc in
    let l : length (fs ++ (a ∷ [])) ≡ suc (length fs) = omega (arith, length-append fs (a ∷ [])) in
    let t : take (suc (length fs)) (fs ++ (a ∷ gs)) ≡ fs ++ (a ∷ []) = ap (λ (x : List ℕ). take (suc (length fs)) x) c ∙ take_at (fs ++ (a ∷ [])) gs (suc (length fs)) l in
    let d : drop (suc (length fs)) (fs ++ (a ∷ gs)) ≡ gs = ap (λ (x : List ℕ). drop (suc (length fs)) x) c ∙ drop_at (fs ++ (a ∷ [])) gs (suc (length fs)) l in
    let j : (fs ++ (a ∷ [])) ++ (k ∷ gs) ≡ fs ++ (a ∷ (k ∷ gs)) = simp append_assoc in
    ap₂ (λ (x y : List ℕ). x ++ (k ∷ y)) t d ∙ (j ∙ ap (λ (x : ℕ). fs ++ (x ∷ (k ∷ gs))) (sym (h (omega arith))))

pub seps_same : (fs gs : List ℕ) (a b : ℕ) → (1 ≤ length fs → b ≡ a) → drop 1 (fs ++ (a ∷ gs)) ≡ drop 1 (fs ++ (b ∷ gs))
seps_same [] gs a b h = refl
seps_same (f ∷ fs) gs a b h = ap (λ (x : ℕ). fs ++ (x ∷ gs)) (sym (h (omega arith)))

-- the key of child `length fs` written anew
pub seps_set : (fs gs : List ℕ) (a b : ℕ) → 1 ≤ length fs
    → take (length fs - 1) (drop 1 (fs ++ (a ∷ gs))) ++ ((b ∷ []) ++ drop (length fs) (drop 1 (fs ++ (a ∷ gs)))) ≡ drop 1 (fs ++ (b ∷ gs))
seps_set [] gs a b h = absurd (omega arith)
seps_set (f ∷ fs) gs a b h =
    let c : fs ++ (a ∷ gs) ≡ (fs ++ (a ∷ [])) ++ gs = simp append_assoc in
    let l : length (fs ++ (a ∷ [])) ≡ suc (length fs) = omega (arith, length-append fs (a ∷ [])) in
    let e : suc (length fs) - 1 ≡ length fs = omega arith in
    let t : take (suc (length fs) - 1) (fs ++ (a ∷ gs)) ≡ fs = ap (λ (n : ℕ). take n (fs ++ (a ∷ gs))) e ∙ take_at fs (a ∷ gs) (length fs) refl in
    let d : drop (suc (length fs)) (fs ++ (a ∷ gs)) ≡ gs = ap (λ (x : List ℕ). drop (suc (length fs)) x) c ∙ drop_at (fs ++ (a ∷ [])) gs (suc (length fs)) l in
    ap₂ (λ (x y : List ℕ). x ++ (b ∷ y)) t d

-- child `length fs + 1` taken away with its key
pub seps_merge : (fs gs : List ℕ) (a b : ℕ)
    → take (length fs) (drop 1 (fs ++ (a ∷ (b ∷ gs)))) ++ drop (length fs + 1) (drop 1 (fs ++ (a ∷ (b ∷ gs)))) ≡ drop 1 (fs ++ (a ∷ gs))
seps_merge [] gs a b = refl
seps_merge (f ∷ fs) gs a b =
    let c : fs ++ (a ∷ (b ∷ gs)) ≡ (fs ++ (a ∷ [])) ++ (b ∷ gs) = simp append_assoc in
    let c' : fs ++ (a ∷ (b ∷ gs)) ≡ (fs ++ (a ∷ (b ∷ []))) ++ gs = simp append_assoc in
    let l : length (fs ++ (a ∷ [])) ≡ suc (length fs) = omega (arith, length-append fs (a ∷ [])) in
    let l' : length (fs ++ (a ∷ (b ∷ []))) ≡ suc (length fs) + 1 = omega (arith, length-append fs (a ∷ (b ∷ []))) in
    let t : take (suc (length fs)) (fs ++ (a ∷ (b ∷ gs))) ≡ fs ++ (a ∷ []) = ap (λ (x : List ℕ). take (suc (length fs)) x) c ∙ take_at (fs ++ (a ∷ [])) (b ∷ gs) (suc (length fs)) l in
    let d : drop (suc (length fs) + 1) (fs ++ (a ∷ (b ∷ gs))) ≡ gs = ap (λ (x : List ℕ). drop (suc (length fs) + 1) x) c' ∙ drop_at (fs ++ (a ∷ (b ∷ []))) gs (suc (length fs) + 1) l' in
    ap₂ (λ (x y : List ℕ). x ++ y) t d ∙ simp append_assoc

-- the separator in front of a child, and the one behind it
pub sep_before : (fs gs : List ℕ) (a : ℕ) → 1 ≤ length fs → get_or (drop 1 (fs ++ (a ∷ gs))) (length fs - 1) 0 ≡ a
sep_before [] gs a h = absurd (omega arith)
sep_before (f ∷ fs) gs a h = let e : suc (length fs) - 1 ≡ length fs = omega arith in ap (λ (n : ℕ). get_or (fs ++ (a ∷ gs)) n 0) e ∙ at_mid fs gs a
  where
    at_mid : (fs gs : List ℕ) (a : ℕ) → get_or (fs ++ (a ∷ gs)) (length fs) 0 ≡ a
    at_mid [] gs a = refl
    at_mid (f ∷ fs) gs a = at_mid fs gs a

pub sep_behind : (fs gs : List ℕ) (a b : ℕ) → get_or (drop 1 (fs ++ (a ∷ (b ∷ gs)))) (length fs) 0 ≡ b
sep_behind [] gs a b = refl
sep_behind (f ∷ fs) gs a b = go fs gs a b
  where
    go : (fs gs : List ℕ) (a b : ℕ) → get_or (fs ++ (a ∷ (b ∷ gs))) (suc (length fs)) 0 ≡ b
    go [] gs a b = refl
    go (f ∷ fs) gs a b = go fs gs a b

-- the first of a list
abbrev pub first_of_list : List ℕ → ℕ
first_of_list [] = 0
first_of_list (x ∷ xs) = x

-- two rows joined by the least key of the second
pub seps_join : (fs gs : List ℕ) → 1 ≤ length fs → 1 ≤ length gs → drop 1 fs ++ (first_of_list gs ∷ drop 1 gs) ≡ drop 1 (fs ++ gs)
seps_join [] gs h k = absurd (omega arith)
seps_join (f ∷ fs) [] h k = absurd (omega arith)
seps_join (f ∷ fs) (g ∷ gs) h k = refl

take_nil : (n : ℕ) → take {A = ℕ} n [] ≡ []
take_nil zero = refl
take_nil (suc n) = refl

-- a row cut: the key at the cut goes up
pub cut_left : (n : ℕ) (fs : List ℕ) → 1 ≤ n → take (n - 1) (drop 1 fs) ≡ drop 1 (take n fs)
cut_left zero fs h = absurd (omega arith)
cut_left (suc n) [] h = let e : suc n - 1 ≡ n = omega arith in ap (λ (i : ℕ). take {A = ℕ} i []) e ∙ take_nil n
cut_left (suc n) (f ∷ fs) h = let e : suc n - 1 ≡ n = omega arith in ap (λ (i : ℕ). take i fs) e

pub cut_right : (n : ℕ) (fs : List ℕ) → drop n (drop 1 fs) ≡ drop 1 (drop n fs)
cut_right n fs = let e : 1 + n ≡ n + 1 = omega arith in drop-drop n 1 fs ∙ (ap (λ (i : ℕ). drop i fs) e ∙ sym (drop-drop 1 n fs))

pub cut_key : (n : ℕ) (fs : List ℕ) → 1 ≤ n → n < length fs → get_or (drop 1 fs) (n - 1) 0 ≡ first_of_list (drop n fs)
cut_key zero fs h l = absurd (omega arith)
cut_key (suc n) [] h l = absurd (omega arith)
cut_key (suc n) (f ∷ fs) h l = let e : suc n - 1 ≡ n = omega arith in ap (λ (i : ℕ). get_or fs i 0) e ∙ go n fs (omega arith)
  where
    go : (n : ℕ) (fs : List ℕ) → n < length fs → get_or fs n 0 ≡ first_of_list (drop n fs)
    go n [] l = absurd (omega arith)
    go zero (f ∷ fs) l = refl
    go (suc n) (f ∷ fs) l = go n fs (omega arith)

-- Lists with an element put in, cut in two.
use Rattle.std.proofs.Common.{◌≡◌, ℕ, ◌+◌, ◌-◌, ◌≤◌, List, [], ◌∷◌, ◌++◌, length, get_or, take, drop, sym, ◌∙◌, ap, ap₂, subst, arith, append_assoc, append-nil}
use Rattle.std.proofs.Common.{length-append, length-take, length-drop, take_at, drop_at, take-add, drop-drop, take-append-drop}
use Rattle.std.proofs.lemmas.List.{take-append-le, drop-append-le, drop_all, drop_more}
use Rattle.code_btree.specs.Node.{Pair}
use Rattle.code_btree.specs.Steps.{put_at, HalvesLeaf, HalvesInner}

pub length-put_at : {A : Type 0} (i : ℕ) (x : A) (xs : List A) → i ≤ length xs → length (put_at i x xs) ≡ length xs + 1
length-put_at i x xs h = omega (arith, length-append (take i xs) ((x ∷ []) ++ drop i xs), length-take i xs, length-drop i xs)

pub put_left : {A : Type 0} (i : ℕ) (x : A) (xs ys : List A) → i ≤ length xs → put_at i x (xs ++ ys) ≡ put_at i x xs ++ ys
put_left {A = A} i x xs ys h =
    ap₂ (λ (a b : List A). a ++ (x ∷ b)) (take-append-le i xs ys h) (drop-append-le i xs ys h) ∙ sym (append_assoc (take i xs) (x ∷ drop i xs) ys)

pub put_right : {A : Type 0} (n j : ℕ) (x : A) (xs ys : List A) → length xs ≡ n → put_at (n + j) x (xs ++ ys) ≡ xs ++ put_at j x ys
put_right {A = A} n j x xs ys h =
    let t : take (n + j) (xs ++ ys) ≡ xs ++ take j ys = take-add n j (xs ++ ys) ∙ ap₂ (λ (a b : List A). a ++ take j b) (take_at xs ys n h) (drop_at xs ys n h) in
    let d : drop (n + j) (xs ++ ys) ≡ drop j ys = sym (drop-drop j n (xs ++ ys)) ∙ ap (λ (b : List A). drop j b) (drop_at xs ys n h) in
    ap₂ (λ (a b : List A). a ++ (x ∷ b)) t d ∙ append_assoc xs (take j ys) (x ∷ drop j ys)

kept_front : {A : Type 0} (i n : ℕ) (xs : List A) → length xs ≡ n → take i xs ++ ([] ++ drop n xs) ≡ take i xs
kept_front {A = A} i n xs h = ap (λ (b : List A). take i xs ++ b) (drop_all n xs (omega arith)) ∙ append-nil (take i xs)

pub halves_low : (at : ℕ) (x : Pair) (es : List Pair) → length es ≡ 127 → at ≤ 62
    → HalvesLeaf (put_at at x (take 62 es ++ ([] ++ drop 127 es))) (take 0 es ++ ([] ++ drop 62 es)) (put_at at x es)
halves_low at x es l h =
    let f = kept_front 62 127 es l in
    let lt : length (take 62 es) ≡ 62 = omega (arith, length-take 62 es) in
    let ll : length (put_at at x (take 62 es ++ ([] ++ drop 127 es))) ≡ 63 = ap (λ (a : List Pair). length (put_at at x a)) f ∙ (length-put_at at x (take 62 es) (omega arith) ∙ omega arith) in
    let lr : length (drop 62 es) ≡ 65 = omega (arith, length-drop 62 es) in
    record {
      joined = ap (λ (a : List Pair). put_at at x a ++ drop 62 es) f ∙ (sym (put_left at x (take 62 es) (drop 62 es) (omega arith)) ∙ ap (λ (a : List Pair). put_at at x a) (take-append-drop 62 es));
      left_full = omega arith;
      right_full = omega arith;
      left_fits = omega arith;
      right_fits = omega arith;
    }

pub halves_high : (at : ℕ) (x : Pair) (es : List Pair) → length es ≡ 127 → 63 ≤ at → at ≤ 127
    → HalvesLeaf (take 63 es ++ ([] ++ drop 127 es)) (put_at (at - 63) x (take 0 es ++ ([] ++ drop 63 es))) (put_at at x es)
halves_high at x es l h k =
    let f = kept_front 63 127 es l in
    let lt : length (take 63 es) ≡ 63 = omega (arith, length-take 63 es) in
    let ll : length (take 63 es ++ ([] ++ drop 127 es)) ≡ 63 = ap (λ (a : List Pair). length a) f ∙ lt in
    let ld : length (drop 63 es) ≡ 64 = omega (arith, length-drop 63 es) in
    let lr : length (put_at (at - 63) x (drop 63 es)) ≡ 65 = length-put_at (at - 63) x (drop 63 es) (omega arith) ∙ omega arith in
    let e : 63 + (at - 63) ≡ at = omega arith in
    record {
      joined = ap (λ (a : List Pair). a ++ put_at (at - 63) x (drop 63 es)) f
          ∙ (sym (put_right 63 (at - 63) x (take 63 es) (drop 63 es) lt) ∙ ap₂ (λ (i : ℕ) (a : List Pair). put_at i x a) e (take-append-drop 63 es));
      left_full = omega arith;
      right_full = omega arith;
      left_fits = omega arith;
      right_fits = omega arith;
    }

pub halves_leaf_at : (l l' r r' es : List Pair) → l ≡ l' → r ≡ r' → HalvesLeaf l' r' es → HalvesLeaf l r es
halves_leaf_at l l' r r' es e f h =
    let P : List Pair → Type 0 = λ a. HalvesLeaf a r' es in
    let Q : List Pair → Type 0 = λ b. HalvesLeaf l b es in
    subst Q (sym f) (subst P (sym e) h)

pub inner_low : (at key child : ℕ) (ks cs : List ℕ) → length ks ≡ 169 → length cs ≡ 170 → at ≤ 84
    → HalvesInner (put_at at key (take 84 ks ++ ([] ++ drop 169 ks))) (put_at (at + 1) child (take 85 cs ++ ([] ++ drop 170 cs))) (get_or ks 84 0)
    (take 0 ks ++ ([] ++ drop 85 ks)) (take 0 cs ++ ([] ++ drop 85 cs)) (put_at at key ks) (put_at (at + 1) child cs)
inner_low at key child ks cs lk lc h =
    let f = kept_front 84 169 ks lk in
    let g = kept_front 85 170 cs lc in
    let tk : length (take 84 ks) ≡ 84 = omega (arith, length-take 84 ks) in
    let tc : length (take 85 cs) ≡ 85 = omega (arith, length-take 85 cs) in
    let ll : length (put_at at key (take 84 ks ++ ([] ++ drop 169 ks))) ≡ 85 = ap (λ (a : List ℕ). length (put_at at key a)) f ∙ (length-put_at at key (take 84 ks) (omega arith) ∙ omega arith) in
    let lm : length (put_at (at + 1) child (take 85 cs ++ ([] ++ drop 170 cs))) ≡ 86 = ap (λ (a : List ℕ). length (put_at (at + 1) child a)) g
    ∙ (length-put_at (at + 1) child (take 85 cs) (omega arith) ∙ omega arith) in
    let rk : length (drop 85 ks) ≡ 84 = omega (arith, length-drop 85 ks) in
    let rc : length (drop 85 cs) ≡ 85 = omega (arith, length-drop 85 cs) in
    let m : get_or ks 84 0 ∷ drop 85 ks ≡ drop 84 ks = sym (drop_more ks 84 0 (omega arith)) in
    record {
      keys = ap₂ (λ (a b : List ℕ). put_at at key a ++ b) f m ∙ (sym (put_left at key (take 84 ks) (drop 84 ks) (omega arith)) ∙ ap (λ (a : List ℕ). put_at at key a) (take-append-drop 84 ks));
      children = ap (λ (a : List ℕ). put_at (at + 1) child a ++ drop 85 cs) g
          ∙ (sym (put_left (at + 1) child (take 85 cs) (drop 85 cs) (omega arith)) ∙ ap (λ (a : List ℕ). put_at (at + 1) child a) (take-append-drop 85 cs));
      left = omega arith;
      right = omega arith;
      left_full = omega arith;
      right_full = omega arith;
      left_fits = omega arith;
      right_fits = omega arith;
    }

pub inner_high : (at key child : ℕ) (ks cs : List ℕ) → length ks ≡ 169 → length cs ≡ 170 → 85 ≤ at → at ≤ 169
    → HalvesInner (take 84 ks ++ ([] ++ drop 169 ks)) (take 85 cs ++ ([] ++ drop 170 cs)) (get_or ks 84 0)
    (put_at (at - 85) key (take 0 ks ++ ([] ++ drop 85 ks))) (put_at ((at - 85) + 1) child (take 0 cs ++ ([] ++ drop 85 cs))) (put_at at key ks) (put_at (at + 1) child cs)
inner_high at key child ks cs lk lc h k =
    let f = kept_front 84 169 ks lk in
    let g = kept_front 85 170 cs lc in
    let tk : length (take 84 ks) ≡ 84 = omega (arith, length-take 84 ks) in
    let tc : length (take 85 cs) ≡ 85 = omega (arith, length-take 85 cs) in
    let uk : length (take 85 ks) ≡ 85 = omega (arith, length-take 85 ks) in
    let ll : length (take 84 ks ++ ([] ++ drop 169 ks)) ≡ 84 = ap (λ (a : List ℕ). length a) f ∙ tk in
    let lm : length (take 85 cs ++ ([] ++ drop 170 cs)) ≡ 85 = ap (λ (a : List ℕ). length a) g ∙ tc in
    let dk : length (drop 85 ks) ≡ 84 = omega (arith, length-drop 85 ks) in
    let dc : length (drop 85 cs) ≡ 85 = omega (arith, length-drop 85 cs) in
    let rk : length (put_at (at - 85) key (drop 85 ks)) ≡ 85 = length-put_at (at - 85) key (drop 85 ks) (omega arith) ∙ omega arith in
    let rc : length (put_at ((at - 85) + 1) child (drop 85 cs)) ≡ 86 = length-put_at ((at - 85) + 1) child (drop 85 cs) (omega arith) ∙ omega arith in
    let ek : 85 + (at - 85) ≡ at = omega arith in
    let ec : 85 + ((at - 85) + 1) ≡ at + 1 = omega arith in
    let one : take 85 ks ≡ take 84 ks ++ (get_or ks 84 0 ∷ []) = take-add 84 1 ks ∙ ap (λ (b : List ℕ). take 84 ks ++ take 1 b) (drop_more ks 84 0 (omega arith)) in
    let shift : (b : List ℕ) → take 84 ks ++ (get_or ks 84 0 ∷ b) ≡ take 85 ks ++ b = λ b. sym (ap (λ (a : List ℕ). a ++ b) one ∙ append_assoc (take 84 ks) (get_or ks 84 0 ∷ []) b) in
    record {
      keys = ap (λ (a : List ℕ). a ++ (get_or ks 84 0 ∷ put_at (at - 85) key (drop 85 ks))) f
          ∙ (shift (put_at (at - 85) key (drop 85 ks)) ∙ (sym (put_right 85 (at - 85) key (take 85 ks) (drop 85 ks) uk) ∙ ap₂ (λ (i : ℕ) (a : List ℕ). put_at i key a) ek (take-append-drop 85 ks)));
      children = ap (λ (a : List ℕ). a ++ put_at ((at - 85) + 1) child (drop 85 cs)) g
          ∙ (sym (put_right 85 ((at - 85) + 1) child (take 85 cs) (drop 85 cs) tc) ∙ ap₂ (λ (i : ℕ) (a : List ℕ). put_at i child a) ec (take-append-drop 85 cs));
      left = omega arith;
      right = omega arith;
      left_full = omega arith;
      right_full = omega arith;
      left_fits = omega arith;
      right_fits = omega arith;
    }

pub halves_inner_at : (lk lk' lc lc' : List ℕ) (up up' : ℕ) (rk rk' rc rc' ks cs : List ℕ) → lk ≡ lk' → lc ≡ lc' → up ≡ up' → rk ≡ rk' → rc ≡ rc'
    → HalvesInner lk' lc' up' rk' rc' ks cs → HalvesInner lk lc up rk rc ks cs
halves_inner_at lk lk' lc lc' up up' rk rk' rc rc' ks cs a b u c d h = record {
  keys = ap₂ (λ (x y : List ℕ). x ++ y) a (ap₂ (λ (x : ℕ) (y : List ℕ). x ∷ y) u c) ∙ h.keys;
  children = ap₂ (λ (x y : List ℕ). x ++ y) b d ∙ h.children;
  left = omega (arith, ap (λ (x : List ℕ). length x) a, ap (λ (x : List ℕ). length x) b, h.left);
  right = omega (arith, ap (λ (x : List ℕ). length x) c, ap (λ (x : List ℕ). length x) d, h.right);
  left_full = omega (arith, ap (λ (x : List ℕ). length x) a, h.left_full);
  right_full = omega (arith, ap (λ (x : List ℕ). length x) c, h.right_full);
  left_fits = omega (arith, ap (λ (x : List ℕ). length x) a, h.left_fits);
  right_fits = omega (arith, ap (λ (x : List ℕ). length x) c, h.right_fits);
}

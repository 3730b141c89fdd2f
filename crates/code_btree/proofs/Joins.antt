-- Two neighbours joined, and one element moved from the fuller to the other.
use Rattle.std.proofs.Common.{◌≡◌, ℕ, zero, suc, ◌+◌, ◌-◌, ◌<◌, ◌≤◌, List, [], ◌∷◌, ◌++◌, length, get_or, take, drop, refl, sym, ◌∙◌, ap, ap₂, arith, append_assoc}
use Rattle.std.proofs.Common.{append-nil, length-take, length-drop, take_all}
use Rattle.std.proofs.lemmas.List.{drop_all, take_more}
use Rattle.code_btree.specs.Node.{Pair}
use Rattle.code_btree.specs.Steps.{put_at, HalvesLeaf, HalvesInner}
use Rattle.code_btree.proofs.Halves.{length-put_at}

-- one list behind another, as a splice leaves it
pub joined : {A : Type 0} (n k : ℕ) (xs ys : List A) → length xs ≡ n → length ys ≤ k → take n xs ++ (take k ys ++ drop n xs) ≡ xs ++ ys
joined {A = A} n k xs ys e f = ap₂ (λ (a b : List A). a ++ b) (take_all n xs (omega arith)) (ap₂ (λ (a b : List A). a ++ b) (take_all k ys f) (drop_all n xs (omega arith)) ∙ append-nil ys)

-- an element put in at the end
pub put_end : {A : Type 0} (n : ℕ) (x : A) (xs : List A) → length xs ≡ n → put_at n x xs ≡ xs ++ (x ∷ [])
put_end {A = A} n x xs e = ap₂ (λ (a b : List A). a ++ (x ∷ b)) (take_all n xs (omega arith)) (drop_all n xs (omega arith))

-- the first element of a list, moved to the end of the one in front
pub move_front : {A : Type 0} (n : ℕ) (x : A) (xs ys : List A) → length xs ≡ n → 1 ≤ length ys → x ≡ get_or ys 0 x → put_at n x xs ++ drop 1 ys ≡ xs ++ ys
move_front n x xs [] e l i = absurd (omega arith)
move_front {A = A} n x xs (y ∷ ys) e l i = ap (λ (a : List A). a ++ ys) (put_end n x xs e) ∙ (append_assoc xs (x ∷ []) ys ∙ ap (λ (z : A). xs ++ (z ∷ ys)) i)

-- the last element of a list, by itself
pub last_apart : {A : Type 0} (n : ℕ) (d : A) (xs : List A) → length xs ≡ n → 1 ≤ n → take (n - 1) xs ++ (get_or xs (n - 1) d ∷ []) ≡ xs
last_apart {A = A} n d xs e l =
    let i : (n - 1) + 1 ≡ n = omega arith in
    sym (take_more xs (n - 1) d (omega arith)) ∙ (ap (λ (j : ℕ). take j xs) i ∙ take_all n xs (omega arith))

cut_end : {A : Type 0} (i n : ℕ) (xs : List A) → length xs ≡ n → take i xs ++ ([] ++ drop n xs) ≡ take i xs
cut_end {A = A} i n xs h = ap (λ (b : List A). take i xs ++ b) (drop_all n xs (omega arith)) ∙ append-nil (take i xs)

-- the last element of a list, moved to the front of the one behind
pub move_end : {A : Type 0} (n : ℕ) (x : A) (xs ys : List A) → length xs ≡ n → 1 ≤ n → x ≡ get_or xs (n - 1) x → (take (n - 1) xs ++ ([] ++ drop n xs)) ++ (x ∷ ys) ≡ xs ++ ys
move_end {A = A} n x xs ys e l i =
    ap (λ (a : List A). a ++ (x ∷ ys)) (cut_end (n - 1) n xs e)
    ∙ (sym (append_assoc (take (n - 1) xs) (x ∷ []) ys) ∙ ap (λ (a : List A). a ++ ys) (ap (λ (z : A). take (n - 1) xs ++ (z ∷ [])) i ∙ last_apart n x xs e l))

pub even_low : (n k : ℕ) (x : Pair) (es fs : List Pair) → length es ≡ n → length fs ≡ k → n < k → 128 ≤ n + k → k ≤ 127 → x ≡ get_or fs 0 x → 62 ≤ n → 62 ≤ k
    → HalvesLeaf (put_at n x es) (take 0 fs ++ ([] ++ drop 1 fs)) (es ++ fs)
even_low n k x es fs e f l s b i p q =
    let ll : length (put_at n x es) ≡ n + 1 = length-put_at n x es (omega arith) ∙ omega arith in
    let lr : length (drop 1 fs) ≡ k - 1 = omega (arith, length-drop 1 fs) in
    record { joined = move_front n x es fs e (omega arith) i; left_full = omega arith; right_full = omega arith; left_fits = omega arith; right_fits = omega arith }

pub even_high : (n k : ℕ) (x : Pair) (es fs : List Pair) → length es ≡ n → length fs ≡ k → k ≤ n → 128 ≤ n + k → n + k ≤ 253 → n ≤ 127 → x ≡ get_or es (n - 1) x → 62 ≤ n
    → 62 ≤ k → HalvesLeaf (take (n - 1) es ++ ([] ++ drop n es)) (put_at 0 x fs) (es ++ fs)
even_high n k x es fs e f l s t b i p q =
    let ll : length (take (n - 1) es ++ ([] ++ drop n es)) ≡ n - 1 = ap (λ (a : List Pair). length a) (cut_end (n - 1) n es e) ∙ omega (arith, length-take (n - 1) es) in
    let lr : length (put_at 0 x fs) ≡ k + 1 = omega arith in
    record { joined = move_end n x es fs e (omega arith) i; left_full = omega arith; right_full = omega arith; left_fits = omega arith; right_fits = omega arith }

-- a key between two lists of keys, moved with their ends
keys_front : (n key up : ℕ) (ks js : List ℕ) → length ks ≡ n → 1 ≤ length js → up ≡ get_or js 0 0 → put_at n key ks ++ (up ∷ drop 1 js) ≡ ks ++ (key ∷ js)
keys_front n key up ks [] e l i = absurd (omega arith)
keys_front n key up ks (j ∷ js) e l i = ap₂ (λ (a : List ℕ) (b : ℕ). a ++ (b ∷ js)) (put_end n key ks e) i ∙ append_assoc ks (key ∷ []) (j ∷ js)

keys_end : (n key up : ℕ) (ks js : List ℕ) → length ks ≡ n → 1 ≤ n → up ≡ get_or ks (n - 1) 0 → (take (n - 1) ks ++ ([] ++ drop n ks)) ++ (up ∷ (key ∷ js)) ≡ ks ++ (key ∷ js)
keys_end n key up ks js e l i =
    ap₂ (λ (a : List ℕ) (b : ℕ). a ++ (b ∷ (key ∷ js))) (cut_end (n - 1) n ks e) i
    ∙ (sym (append_assoc (take (n - 1) ks) (get_or ks (n - 1) 0 ∷ []) (key ∷ js)) ∙ ap (λ (a : List ℕ). a ++ (key ∷ js)) (last_apart n 0 ks e l))

pub inners_low : (n k key up c : ℕ) (ks cs js ds : List ℕ) → length ks ≡ n → length cs ≡ n + 1 → length js ≡ k → length ds ≡ k + 1 → n < k → 169 ≤ n + k → k ≤ 169
    → up ≡ get_or js 0 0 → c ≡ get_or ds 0 0 → 83 ≤ n → 83 ≤ k
    → HalvesInner (put_at n key ks) (put_at (n + 1) c cs) up (take 0 js ++ ([] ++ drop 1 js)) (take 0 ds ++ ([] ++ drop 1 ds)) (ks ++ (key ∷ js)) (cs ++ ds)
inners_low n k key up c ks cs js ds lk lc lj ld l s b iu ic p q =
    let a1 : length (put_at n key ks) ≡ n + 1 = length-put_at n key ks (omega arith) ∙ omega arith in
    let a2 : length (put_at (n + 1) c cs) ≡ (n + 1) + 1 = length-put_at (n + 1) c cs (omega arith) ∙ omega arith in
    let a3 : length (drop 1 js) ≡ k - 1 = omega (arith, length-drop 1 js) in
    let a4 : length (drop 1 ds) ≡ (k + 1) - 1 = omega (arith, length-drop 1 ds) in
    record {
      keys = keys_front n key up ks js lk (omega arith) iu;
      children = move_front (n + 1) c cs ds lc (omega arith) (ic ∙ head_of ds (omega arith));
      left = omega arith;
      right = omega arith;
      left_full = omega arith;
      right_full = omega arith;
      left_fits = omega arith;
      right_fits = omega arith;
    }
  where
    head_of : (zs : List ℕ) → 1 ≤ length zs → get_or zs 0 0 ≡ get_or zs 0 c
    head_of [] l = absurd (omega arith)
    head_of (z ∷ zs) l = refl

at_of : (xs : List ℕ) (i d e : ℕ) → i < length xs → get_or xs i d ≡ get_or xs i e
at_of [] i d e l = absurd (omega arith)
at_of (x ∷ xs) zero d e l = refl
at_of (x ∷ xs) (suc i) d e l = at_of xs i d e (omega arith)

pub inners_high : (n k key up c : ℕ) (ks cs js ds : List ℕ) → length ks ≡ n → length cs ≡ n + 1 → length js ≡ k → length ds ≡ k + 1 → k ≤ n → 169 ≤ n + k → n + k ≤ 337
    → n ≤ 169 → up ≡ get_or ks (n - 1) 0 → c ≡ get_or cs n 0 → 83 ≤ n → 83 ≤ k
    → HalvesInner (take (n - 1) ks ++ ([] ++ drop n ks)) (take n cs ++ ([] ++ drop (n + 1) cs)) up (key ∷ js) (c ∷ ds) (ks ++ (key ∷ js)) (cs ++ ds)
inners_high n k key up c ks cs js ds lk lc lj ld l s t b iu ic p q =
    let a1 : length (take (n - 1) ks ++ ([] ++ drop n ks)) ≡ n - 1 = ap (λ (a : List ℕ). length a) (cut_end (n - 1) n ks lk) ∙ omega (arith, length-take (n - 1) ks) in
    let a2 : length (take n cs ++ ([] ++ drop (n + 1) cs)) ≡ n = ap (λ (a : List ℕ). length a) (cut_end n (n + 1) cs lc) ∙ omega (arith, length-take n cs) in
    let i : (n + 1) - 1 ≡ n = omega arith in
    let moved : (take ((n + 1) - 1) cs ++ ([] ++ drop (n + 1) cs)) ++ (c ∷ ds) ≡ cs ++ ds =
    move_end (n + 1) c cs ds lc (omega arith) (ic ∙ (at_of cs n 0 c (omega arith) ∙ ap (λ (j : ℕ). get_or cs j c) (sym i))) in
    record {
      keys = keys_end n key up ks js lk (omega arith) iu;
      children = ap (λ (j : ℕ). (take j cs ++ ([] ++ drop (n + 1) cs)) ++ (c ∷ ds)) (sym i) ∙ moved;
      left = omega arith;
      right = omega arith;
      left_full = omega arith;
      right_full = omega arith;
      left_fits = omega arith;
      right_fits = omega arith;
    }

-- two inner pages joined with the key between them, as two splices leave them
pub joined_keys : (n k key : ℕ) (ks js : List ℕ) → length ks ≡ n → length js ≤ k → take (n + 1) (put_at n key ks) ++ (take k js ++ drop (n + 1) (put_at n key ks)) ≡ ks ++ (key ∷ js)
joined_keys n k key ks js e f =
    joined (n + 1) k (put_at n key ks) js (length-put_at n key ks (omega arith) ∙ omega arith) f ∙ (ap (λ (a : List ℕ). a ++ js) (put_end n key ks e) ∙ append_assoc ks (key ∷ []) js)

pub joined_children : (n k c : ℕ) (cs ds : List ℕ) → length cs ≡ n + 1 → length ds ≡ k + 1 → c ≡ get_or ds 0 0
    → take (n + 2) (put_at (n + 1) c cs) ++ (take ((k + 1) - 1) (drop 1 ds) ++ drop (n + 2) (put_at (n + 1) c cs)) ≡ cs ++ ds
joined_children n k c cs [] e f i = absurd (omega arith)
joined_children n k c cs (d ∷ ds) e f i =
    joined (n + 2) ((k + 1) - 1) (put_at (n + 1) c cs) ds (length-put_at (n + 1) c cs (omega arith) ∙ omega arith) (omega arith)
    ∙ (ap (λ (a : List ℕ). a ++ ds) (put_end (n + 1) c cs e) ∙ (append_assoc cs (c ∷ []) ds ∙ ap (λ (x : ℕ). cs ++ (x ∷ ds)) i))

-- Pairs in order: cut at a key, found, put and dropped.
use Rattle.std.proofs.Common.{◌≡◌, ◌≢◌, ℕ, zero, suc, ◌+◌, ◌-◌, ◌<◌, ◌≤◌, true, false, cond, List, [], ◌∷◌, ◌++◌, length, get_or, take, drop, refl, sym, ◌∙◌, ap, ap₂}
use Rattle.std.proofs.Common.{subst, inl, inr, arith, append_assoc, append-nil, take-append-drop}
use Rattle.std.specs.Prelude.{None, Some, ◌==◌, nat_lt}
use Rattle.std.proofs.lemmas.Bool.Decides.{leb_tells, eqb_tells}
use Rattle.std.proofs.lemmas.List.{drop_more}
use Rattle.code_btree.specs.Node.{Pair}
use Rattle.code_btree.specs.Items.{Each, Above, Below, Ascending, find_item, items_below, items_from, items_above, items_upto}
use Rattle.code_btree.specs.Tree.{first_key}
use Rattle.code_btree.specs.Steps.{alter}
use Rattle.code_btree.proofs.Lists.{Each-append, Each-left, Each-right, Each-map}

pub length-items_from : (k : ℕ) (es : List Pair) → length (items_from k es) ≤ length es
length-items_from k [] = omega arith
length-items_from k (e ∷ es) = elim (nat_lt e.0 k) as
    (λ b. length (cond b (items_from k es) (e ∷ items_from k es)) ≤ suc (length es)) [ true ↦ omega (arith, length-items_from k es) | false ↦ omega (arith, length-items_from k es) ]

pub items_below-append : (k : ℕ) (xs ys : List Pair) → items_below k (xs ++ ys) ≡ items_below k xs ++ items_below k ys
items_below-append k [] ys = refl
items_below-append k (x ∷ xs) ys = elim (nat_lt x.0 k) as (λ b. cond b (x ∷ items_below k (xs ++ ys)) (items_below k (xs ++ ys))
    ≡ cond b (x ∷ items_below k xs) (items_below k xs) ++ items_below k ys) [
      | true ↦ ap (λ (r : List Pair). x ∷ r) (items_below-append k xs ys)
      | false ↦ items_below-append k xs ys
    ]

pub items_above-append : (k : ℕ) (xs ys : List Pair) → items_above k (xs ++ ys) ≡ items_above k xs ++ items_above k ys
items_above-append k [] ys = refl
items_above-append k (x ∷ xs) ys = elim (nat_lt k x.0) as (λ b. cond b (x ∷ items_above k (xs ++ ys)) (items_above k (xs ++ ys))
    ≡ cond b (x ∷ items_above k xs) (items_above k xs) ++ items_above k ys) [
      | true ↦ ap (λ (r : List Pair). x ∷ r) (items_above-append k xs ys)
      | false ↦ items_above-append k xs ys
    ]

pub items_from-append : (k : ℕ) (xs ys : List Pair) → items_from k (xs ++ ys) ≡ items_from k xs ++ items_from k ys
items_from-append k [] ys = refl
items_from-append k (x ∷ xs) ys = elim (nat_lt x.0 k) as (λ b. cond b (items_from k (xs ++ ys)) (x ∷ items_from k (xs ++ ys)) ≡ cond b (items_from k xs) (x ∷ items_from k xs) ++ items_from k ys) [
  | true ↦ items_from-append k xs ys
  | false ↦ ap (λ (r : List Pair). x ∷ r) (items_from-append k xs ys)
]

pub items_upto-append : (k : ℕ) (xs ys : List Pair) → items_upto k (xs ++ ys) ≡ items_upto k xs ++ items_upto k ys
items_upto-append k [] ys = refl
items_upto-append k (x ∷ xs) ys = elim (nat_lt k x.0) as (λ b. cond b (items_upto k (xs ++ ys)) (x ∷ items_upto k (xs ++ ys)) ≡ cond b (items_upto k xs) (x ∷ items_upto k xs) ++ items_upto k ys) [
  | true ↦ items_upto-append k xs ys
  | false ↦ ap (λ (r : List Pair). x ∷ r) (items_upto-append k xs ys)
]

pub lt_is : (a b : ℕ) → a < b → nat_lt a b ≡ true
lt_is a b h = elim (leb_tells (suc a) b) [ inl x ↦ x.0 | inr x ↦ absurd (omega arith) ]

pub lt_not : (a b : ℕ) → b ≤ a → nat_lt a b ≡ false
lt_not a b h = elim (leb_tells (suc a) b) [ inl x ↦ absurd (omega arith) | inr x ↦ x.0 ]

pub eq_not : (a b : ℕ) → a ≢ b → (a == b) ≡ false
eq_not a b h = elim (eqb_tells a b) [ inl x ↦ absurd (h x.1) | inr x ↦ x.0 ]

pub eq_is : (a b : ℕ) → a ≡ b → (a == b) ≡ true
eq_is a b h = elim (eqb_tells a b) [ inl x ↦ x.0 | inr x ↦ absurd (x.1 h) ]

pub below-Below : (k : ℕ) (es : List Pair) → Below k es → items_below k es ≡ es
below-Below k [] h = refl
below-Below k (e ∷ es) h = rw (lt_is e.0 k h.0) (ap (λ (r : List Pair). e ∷ r) (below-Below k es h.1))

pub below-Above : (k : ℕ) (es : List Pair) → Above k es → items_below k es ≡ []
below-Above k [] h = refl
below-Above k (e ∷ es) h = let l : k < e.0 = h.0 in rw (lt_not e.0 k (omega arith)) (below-Above k es h.1)

pub above-Below : (k : ℕ) (es : List Pair) → Below k es → items_above k es ≡ []
above-Below k [] h = refl
above-Below k (e ∷ es) h = let l : e.0 < k = h.0 in rw (lt_not k e.0 (omega arith)) (above-Below k es h.1)

pub above-Above : (k : ℕ) (es : List Pair) → Above k es → items_above k es ≡ es
above-Above k [] h = refl
above-Above k (e ∷ es) h = rw (lt_is k e.0 h.0) (ap (λ (r : List Pair). e ∷ r) (above-Above k es h.1))

-- each key is this one or above it
abbrev pub AtLeast : ℕ → List Pair → Type 0
AtLeast k = Each (λ e. k ≤ e.0)

-- each key is this one or below it
abbrev pub AtMost : ℕ → List Pair → Type 0
AtMost k = Each (λ e. e.0 ≤ k)

pub from-Below : (k : ℕ) (es : List Pair) → Below k es → items_from k es ≡ []
from-Below k [] h = refl
from-Below k (e ∷ es) h = rw (lt_is e.0 k h.0) (from-Below k es h.1)

pub from-AtLeast : (k : ℕ) (es : List Pair) → AtLeast k es → items_from k es ≡ es
from-AtLeast k [] h = refl
from-AtLeast k (e ∷ es) h = rw (lt_not e.0 k h.0) (ap (λ (r : List Pair). e ∷ r) (from-AtLeast k es h.1))

pub upto-AtMost : (k : ℕ) (es : List Pair) → AtMost k es → items_upto k es ≡ es
upto-AtMost k [] h = refl
upto-AtMost k (e ∷ es) h = rw (lt_not k e.0 h.0) (ap (λ (r : List Pair). e ∷ r) (upto-AtMost k es h.1))

pub upto-Above : (k : ℕ) (es : List Pair) → Above k es → items_upto k es ≡ []
upto-Above k [] h = refl
upto-Above k (e ∷ es) h = rw (lt_is k e.0 h.0) (upto-Above k es h.1)

pub find-Below : (k : ℕ) (xs ys : List Pair) → Below k xs → find_item k (xs ++ ys) ≡ find_item k ys
find-Below k [] ys h = refl
find-Below k (x ∷ xs) ys h = let l : x.0 < k = h.0 in let n : x.0 ≢ k = omega arith in rw (eq_not x.0 k n) (find-Below k xs ys h.1)

pub find-Above : (k : ℕ) (es : List Pair) → Above k es → find_item k es ≡ None
find-Above k [] h = refl
find-Above k (e ∷ es) h = let l : k < e.0 = h.0 in let n : e.0 ≢ k = omega arith in rw (eq_not e.0 k n) (find-Above k es h.1)

pub find-left : (k : ℕ) (xs ys : List Pair) → Above k ys → find_item k (xs ++ ys) ≡ find_item k xs
find-left k [] ys h = find-Above k ys h
find-left k (x ∷ xs) ys h = elim (x.0 == k) as (λ b. cond b (Some x.1) (find_item k (xs ++ ys)) ≡ cond b (Some x.1) (find_item k xs)) [ true ↦ refl | false ↦ find-left k xs ys h ]

pub alter_middle : (k : ℕ) (o xs ys zs : List Pair) → Below k xs → Above k zs → alter k o (xs ++ (ys ++ zs)) ≡ xs ++ (alter k o ys ++ zs)
alter_middle k o xs ys zs hx hz =
    let b : items_below k (xs ++ (ys ++ zs)) ≡ xs ++ items_below k ys =
    items_below-append k xs (ys ++ zs) ∙ ap₂ (λ (p q : List Pair). p ++ q) (below-Below k xs hx)
    (items_below-append k ys zs ∙ (ap (λ (q : List Pair). items_below k ys ++ q) (below-Above k zs hz) ∙ append-nil (items_below k ys))) in
    let a : items_above k (xs ++ (ys ++ zs)) ≡ items_above k ys ++ zs =
    items_above-append k xs (ys ++ zs) ∙ ap₂ (λ (p q : List Pair). p ++ q) (above-Below k xs hx)
    (items_above-append k ys zs ∙ ap (λ (q : List Pair). items_above k ys ++ q) (above-Above k zs hz)) in
    ap₂ (λ (p q : List Pair). p ++ (o ++ q)) b a ∙ simp append_assoc

pub find_middle : (k : ℕ) (xs ys zs : List Pair) → Below k xs → Above k zs → find_item k (xs ++ (ys ++ zs)) ≡ find_item k ys
find_middle k xs ys zs hx hz = find-Below k xs (ys ++ zs) hx ∙ find-left k ys zs hz

pub Ascending-left : (xs ys : List Pair) → Ascending (xs ++ ys) → Ascending xs
Ascending-left [] ys h = tt
Ascending-left (x ∷ xs) ys h = (Each-left (λ e. x.0 < e.0) xs ys h.0, Ascending-left xs ys h.1)

pub Ascending-right : (xs ys : List Pair) → Ascending (xs ++ ys) → Ascending ys
Ascending-right [] ys h = h
Ascending-right (x ∷ xs) ys h = Ascending-right xs ys h.1

pub Ascending-append : (k : ℕ) (xs ys : List Pair) → Below k xs → AtLeast k ys → Ascending xs → Ascending ys → Ascending (xs ++ ys)
Ascending-append k [] ys b a h g = g
Ascending-append k (x ∷ xs) ys b a h g =
    let l : x.0 < k = b.0 in (
      Each-append (λ e. x.0 < e.0) xs ys h.0 (Each-map (λ e. k ≤ e.0) (λ e. x.0 < e.0) (λ e i. omega arith) ys a),
      Ascending-append k xs ys b.1 a h.1 g,
    )

each_below : (P : Pair → Type 0) (k : ℕ) (es : List Pair) → Each P es → Each P (items_below k es)
each_below P k [] h = tt
each_below P k (e ∷ es) h = elim (nat_lt e.0 k) as (λ b. Each P (cond b (e ∷ items_below k es) (items_below k es))) [ true ↦ (h.0, each_below P k es h.1) | false ↦ each_below P k es h.1 ]

each_above : (P : Pair → Type 0) (k : ℕ) (es : List Pair) → Each P es → Each P (items_above k es)
each_above P k [] h = tt
each_above P k (e ∷ es) h = elim (nat_lt k e.0) as (λ b. Each P (cond b (e ∷ items_above k es) (items_above k es))) [ true ↦ (h.0, each_above P k es h.1) | false ↦ each_above P k es h.1 ]

ascending_below : (k : ℕ) (es : List Pair) → Ascending es → Ascending (items_below k es)
ascending_below k [] h = tt
ascending_below k (e ∷ es) h = elim (nat_lt e.0 k) as
    (λ b. Ascending (cond b (e ∷ items_below k es) (items_below k es))) [ true ↦ (each_below (λ x. e.0 < x.0) k es h.0, ascending_below k es h.1) | false ↦ ascending_below k es h.1 ]

ascending_above : (k : ℕ) (es : List Pair) → Ascending es → Ascending (items_above k es)
ascending_above k [] h = tt
ascending_above k (e ∷ es) h = elim (nat_lt k e.0) as
    (λ b. Ascending (cond b (e ∷ items_above k es) (items_above k es))) [ true ↦ (each_above (λ x. e.0 < x.0) k es h.0, ascending_above k es h.1) | false ↦ ascending_above k es h.1 ]

below_is : (k : ℕ) (es : List Pair) → Below k (items_below k es)
below_is k [] = tt
below_is k (e ∷ es) = elim (leb_tells (suc e.0) k) [ inl x ↦ rw x.0 (x.1, below_is k es) | inr x ↦ rw x.0 (below_is k es) ]

above_is : (k : ℕ) (es : List Pair) → Above k (items_above k es)
above_is k [] = tt
above_is k (e ∷ es) = elim (leb_tells (suc k) e.0) [ inl x ↦ rw x.0 (x.1, above_is k es) | inr x ↦ rw x.0 (above_is k es) ]

pub Above-AtLeast : (k : ℕ) (es : List Pair) → Above k es → AtLeast k es
Above-AtLeast k es h = Each-map (λ e. k < e.0) (λ e. k ≤ e.0) (λ e i. omega arith) es h

pub Ascending-put : (k v : ℕ) (es : List Pair) → Ascending es → Ascending (alter k ((k, v) ∷ []) es)
Ascending-put k v es h = Ascending-append k (items_below k es) ((k, v) ∷ items_above k es) (below_is k es)
    (omega arith, Above-AtLeast k (items_above k es) (above_is k es)) (ascending_below k es h) (above_is k es, ascending_above k es h)

pub Ascending-drop : (k : ℕ) (es : List Pair) → Ascending es → Ascending (alter k [] es)
Ascending-drop k es h = Ascending-append k (items_below k es) (items_above k es) (below_is k es) (Above-AtLeast k (items_above k es) (above_is k es)) (ascending_below k es h) (ascending_above k es h)

Each-first : (P : ℕ → Type 0) (es : List Pair) → 1 ≤ length es → Each (λ e. P e.0) es → P (first_key es)
Each-first P [] l h = absurd (omega arith)
Each-first P (e ∷ es) l h = h.0

-- what stands before pairs whose first key is not above k is below k
pub Below-from : (k : ℕ) (xs ys : List Pair) → Ascending (xs ++ ys) → 1 ≤ length ys → first_key ys ≤ k → Below k xs
Below-from k [] ys h l f = tt
Below-from k (x ∷ xs) ys h l f =
    let a : x.0 < first_key ys = Each-first (λ y. x.0 < y) ys l (Each-right (λ e. x.0 < e.0) xs ys h.0) in
    (omega arith, Below-from k xs ys h.1 l f)

pub Above-from : (k : ℕ) (ys : List Pair) → Ascending ys → (1 ≤ length ys → k < first_key ys) → Above k ys
Above-from k [] h f = tt
Above-from k (y ∷ ys) h f = let l : k < y.0 = f (omega arith) in (l, Each-map (λ e. y.0 < e.0) (λ e. k < e.0) (λ e i. omega arith) ys h.0)

pub AtLeast-from : (k : ℕ) (ys : List Pair) → Ascending ys → (1 ≤ length ys → k ≤ first_key ys) → AtLeast k ys
AtLeast-from k [] h f = tt
AtLeast-from k (y ∷ ys) h f = let l : k ≤ y.0 = f (omega arith) in (l, Each-map (λ e. y.0 < e.0) (λ e. k ≤ e.0) (λ e i. omega arith) ys h.0)

pub Each-get : (P : Pair → Type 0) (es : List Pair) (i : ℕ) (d : Pair) → i < length es → Each P es → P (get_or es i d)
Each-get P [] i d l h = absurd (omega arith)
Each-get P (e ∷ es) zero d l h = h.0
Each-get P (e ∷ es) (suc i) d l h = Each-get P es i d (omega arith) h.1

pub Below-upto : (k : ℕ) (es : List Pair) (i : ℕ) (d : Pair) → Ascending es → i < length es → (get_or es i d).0 < k → Below k (take (suc i) es)
Below-upto k [] i d h l f = absurd (omega arith)
Below-upto k (e ∷ es) zero d h l f = (f, tt)
Below-upto k (e ∷ es) (suc i) d h l f =
    let a : e.0 < (get_or es i d).0 = Each-get (λ x. e.0 < x.0) es i d (omega arith) h.0 in
    (omega arith, Below-upto k es i d h.1 (omega arith) f)

pub Below-rank : (k : ℕ) (es : List Pair) (at : ℕ) (d : Pair) → Ascending es → at ≤ length es → (1 ≤ at → (get_or es (at - 1) d).0 < k) → Below k (take at es)
Below-rank k es zero d h l f = tt
Below-rank k es (suc i) d h l f = let e : suc i - 1 ≡ i = omega arith in Below-upto k es i d h (omega arith) (let P : ℕ → Type 0 = λ j. (get_or es j d).0 < k in subst P e (f (omega arith)))

first_drop : (es : List Pair) (at : ℕ) (d : Pair) → at < length es → first_key (drop at es) ≡ (get_or es at d).0
first_drop es at d l = ap (λ (x : List Pair). first_key x) (drop_more es at d l)

drop_some : (es : List Pair) (at : ℕ) → 1 ≤ length (drop at es) → at < length es
drop_some [] zero h = absurd (omega arith)
drop_some [] (suc at) h = absurd (omega arith)
drop_some (e ∷ es) zero h = omega arith
drop_some (e ∷ es) (suc at) h = omega (arith, drop_some es at h)

pub ascending_drop : (es : List Pair) (at : ℕ) → Ascending es → Ascending (drop at es)
ascending_drop es at h = Ascending-right (take at es) (drop at es) (let P : List Pair → Type 0 = λ x. Ascending x in subst P (sym (take-append-drop at es)) h)

pub AtLeast-rank : (k : ℕ) (es : List Pair) (at : ℕ) (d : Pair) → Ascending es → (at < length es → k ≤ (get_or es at d).0) → AtLeast k (drop at es)
AtLeast-rank k es at d h f = AtLeast-from k (drop at es) (ascending_drop es at h) (λ l. let i = drop_some es at l in omega (arith, first_drop es at d i, f i))

pub Above-rank : (k : ℕ) (es : List Pair) (at : ℕ) (d : Pair) → Ascending es → (at < length es → k < (get_or es at d).0) → Above k (drop at es)
Above-rank k es at d h f = Above-from k (drop at es) (ascending_drop es at h) (λ l. let i = drop_some es at l in omega (arith, first_drop es at d i, f i))

alter_one : (k x v : ℕ) (o : List Pair) → x ≡ k → alter k o ((x, v) ∷ []) ≡ o
alter_one k x v o e = rw (lt_not x k (omega arith), lt_not k x (omega arith)) (append-nil o)

pub split_at : (es : List Pair) (at : ℕ) (d : Pair) → at < length es → es ≡ take at es ++ ((get_or es at d ∷ []) ++ drop (at + 1) es)
split_at es at d l = sym (take-append-drop at es) ∙ ap (λ (r : List Pair). take at es ++ r) (drop_more es at d l)

-- each key is above the one before it
pub rising : (es : List Pair) (at : ℕ) (d : Pair) → Ascending es → at < length es → 1 ≤ at → (get_or es (at - 1) d).0 < (get_or es at d).0
rising es at d h l o =
    let i : (at - 1) + 1 ≡ at = omega (arith, o) in
    let A : List Pair → Type 0 = λ x. Ascending x in
    let tail : Ascending (get_or es (at - 1) d ∷ drop ((at - 1) + 1) es) = subst A (drop_more es (at - 1) d (omega (arith, l, o))) (ascending_drop es (at - 1) h) in
    let P : List Pair → Type 0 = λ x. Above (get_or es (at - 1) d).0 x in
    (subst P (ap (λ (j : ℕ). drop j es) i ∙ drop_more es at d l) tail.0).0

-- a key that stands at its place
pub leaf_hit : (k : ℕ) (o es : List Pair) (at : ℕ) (d : Pair) → Ascending es → at < length es → (1 ≤ at → (get_or es (at - 1) d).0 < k) → (get_or es at d).0 ≡ k
    → (alter k o es ≡ take at es ++ (o ++ drop (at + 1) es)) × (find_item k es ≡ Some (get_or es at d).1)
leaf_hit k o es at d h l f e =
    let bx : Below k (take at es) = Below-rank k es at d h (omega arith) f in
    let tail : Ascending (get_or es at d ∷ drop (at + 1) es) = let P : List Pair → Type 0 = λ x. Ascending x in subst P (drop_more es at d l) (ascending_drop es at h) in
    let ax : Above k (drop (at + 1) es) = let P : ℕ → Type 0 = λ x. Above x (drop (at + 1) es) in subst P e tail.0 in
    let c = split_at es at d l in (
      ap (λ (x : List Pair). alter k o x) c ∙ (alter_middle k o (take at es) (get_or es at d ∷ []) (drop (at + 1) es) bx ax
          ∙ ap (λ (x : List Pair). take at es ++ (x ++ drop (at + 1) es)) (alter_one k (get_or es at d).0 (get_or es at d).1 o e)),
      ap (λ (x : List Pair). find_item k x) c ∙ (find_middle k (take at es) (get_or es at d ∷ []) (drop (at + 1) es) bx ax ∙ rw (eq_is (get_or es at d).0 k e)),
    )

-- a key that doesn't stand there
pub leaf_miss : (k : ℕ) (o es : List Pair) (at : ℕ) (d : Pair) → Ascending es → at ≤ length es → (1 ≤ at → (get_or es (at - 1) d).0 < k) → (at < length es → k < (get_or es at d).0)
    → (alter k o es ≡ take at es ++ (o ++ drop at es)) × (find_item k es ≡ None)
leaf_miss k o es at d h l f g =
    let bx : Below k (take at es) = Below-rank k es at d h l f in
    let ax : Above k (drop at es) = Above-rank k es at d h g in
    let c : es ≡ take at es ++ ([] ++ drop at es) = sym (take-append-drop at es) in (
      ap (λ (x : List Pair). alter k o x) c ∙ (alter_middle k o (take at es) [] (drop at es) bx ax ∙ ap (λ (x : List Pair). take at es ++ (x ++ drop at es)) (append-nil o)),
      ap (λ (x : List Pair). find_item k x) c ∙ find_middle k (take at es) [] (drop at es) bx ax,
    )

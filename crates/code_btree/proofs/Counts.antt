-- How many pairs a tree has at least, and how many more after a pair was put.
use Rattle.std.proofs.Common.{◌≡◌, ℕ, zero, suc, ◌+◌, ◌-◌, ◌*◌, ◌^◌, ◌<◌, ◌≤◌, List, [], ◌∷◌, length, map, refl, ◌∙◌, ap, subst, inl, inr, arith, length-append, length-drop, mul-le-mul_right}
use Rattle.std.specs.Prelude.{Option, None, Some}
use Rattle.std.proofs.Math.Nat.{pow-succ'}
use Rattle.std.proofs.lemmas.List.{length-map}
use Rattle.std.proofs.lemmas.Bool.Decides.{leb_tells, eqb_tells}
use Rattle.code_btree.specs.Node.{Pair, Node, child_pages, size_of}
use Rattle.code_btree.specs.Items.{Each, Above, Ascending, find_item}
use Rattle.code_btree.specs.Tree.{Store, node, items, all_items, least, TopOk, Sound, Filled, IsTreeAt}
use Rattle.code_btree.specs.Steps.{alter, count_after}
use Rattle.code_btree.proofs.Lists.{Each-map}
use Rattle.code_btree.proofs.Orders.{below-Above, above-Above, find-Above, lt_is, lt_not, eq_not}

pub top_sizes : (f : ℕ → ℕ) (o : Node) → TopOk f o → length (child_pages o) ≡ size_of o + 1
top_sizes f o t = omega (arith, ap (λ (x : Node). size_of x) t.is_inner, ap (λ (x : List ℕ). length x) t.separators, length-drop 1 (map f (child_pages o)), length-map (child_pages o) f, t.some)

row_count : (m : Store) (h x : ℕ) (each : (c : ℕ) → Filled m h c → x ≤ length (items m h c)) (cs : List ℕ) → Each (λ c. Filled m h c) cs → length cs * x ≤ length (all_items m h cs)
row_count m h x each [] e = omega arith
row_count m h x each (c ∷ cs) e = omega (arith, each c e.0, row_count m h x each cs e.1, length-append (items m h c) (all_items m h cs))

pub filled_count : (m : Store) (h c : ℕ) → Filled m h c → 63 * 85 ^ h ≤ length (items m h c)
filled_count m zero c f = omega (arith, ap (λ (x : Node). size_of x) f.0.is_leaf, f.1)
filled_count m (suc h) c f =
    let cs : List ℕ = child_pages (node m c) in
    let l : 85 ≤ length cs = omega (arith, top_sizes (λ d. least m h d) (node m c) f.0.0, f.1) in
    omega (arith, row_count m h (63 * 85 ^ h) (λ d. filled_count m h d) cs f.0.1, mul-le-mul_right (63 * 85 ^ h) l, pow-succ' 85 h)

pub top_count : (m : Store) (h n : ℕ) → Sound m (suc h) n → 1 ≤ size_of (node m n) → 126 * 85 ^ h ≤ length (items m (suc h) n)
top_count m h n s top =
    let cs : List ℕ = child_pages (node m n) in
    let l : 2 ≤ length cs = omega (arith, top_sizes (λ d. least m h d) (node m n) s.0) in
    omega (arith, row_count m h (63 * 85 ^ h) (λ d. filled_count m h d) cs s.1, mul-le-mul_right (63 * 85 ^ h) l)

pub many : (m : Store) (l n count : ℕ) → IsTreeAt m l n count → 2 ≤ l + 1 → 126 * 85 ^ ((l + 1) - 2) ≤ count
many m zero n count t h = absurd (omega arith)
many m (suc l) n count t h =
    let e : (suc l + 1) - 2 ≡ l = omega arith in
    let c = top_count m l n t.sound (t.top (omega arith)) in
    rw e (omega (arith, c, t.counted))

suc_count : (n : ℕ) (o : Option ℕ) → suc (count_after n o) ≡ count_after (suc n) o
suc_count n None = omega arith
suc_count n (Some x) = refl

pub length_put : (k v : ℕ) (es : List Pair) → Ascending es → length (alter k ((k, v) ∷ []) es) ≡ count_after (length es) (find_item k es)
length_put k v [] a = refl
length_put k v (e ∷ es) a = elim (leb_tells (suc e.0) k) [
  | inl x ↦ rw (x.0, lt_not k e.0 (omega arith), eq_not e.0 k (omega arith)) (ap suc (length_put k v es a.1) ∙ suc_count (length es) (find_item k es))
  | inr x ↦ elim (eqb_tells e.0 k) [
    | inl y ↦
        let P : ℕ → Type 0 = λ i. Above i es in
        let above : Above k es = subst P y.1 a.0 in
        rw (x.0, lt_not k e.0 (omega arith), y.0, below-Above k es above, above-Above k es above) refl
    | inr y ↦
        let l : k < e.0 = omega (arith, y.1) in
        let above : Above k es = Each-map (λ i. e.0 < i.0) (λ i. k < i.0) (λ i j. omega arith) es a.0 in
        rw (x.0, lt_is k e.0 l, y.0, below-Above k es above, above-Above k es above, find-Above k es above) (omega arith)
  ]
]

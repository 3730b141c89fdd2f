-- The pair of the greatest key not above one, looked for one level after the other.
use Rattle.std.proofs.Common.{◌≡◌, ◌≢◌, ℕ, suc, ◌+◌, ◌-◌, ◌<◌, ◌≤◌, List, [], ◌∷◌, ◌++◌, length, get_or, take, drop, refl, sym, ◌∙◌, ap, ap₂, subst, arith, append-nil, take-append-drop}
use Rattle.std.specs.Prelude.{Option, None, Some}
use Rattle.std.proofs.lemmas.List.{drop_more, take_more}
use Rattle.code_btree.specs.Node.{Pair, Node, leaf, node_of, entries_of, next_of, child_pages, IsLeafOf, entry_key, entry_value, child_in}
use Rattle.code_btree.specs.Items.{Above, Below, Ascending, items_upto, last_item, floor_item}
use Rattle.code_btree.specs.Tree.{Store, node, items, all_items, first_key}
use Rattle.code_btree.specs.Steps.{Subtree, LeadsTo, InnerStep, IsFloorIn}
use Rattle.code_btree.proofs.Lists.{Each-map}
use Rattle.code_btree.proofs.Orders.{items_upto-append, upto-AtMost, upto-Above, AtMost, Below-rank, Above-rank, lt_not, ascending_drop, split_at}
use Rattle.code_btree.proofs.Moves.{items-three}
use Rattle.code_btree.proofs.Looks.{entry_is}
use Rattle.code_btree.proofs.Leaves.{here, ranked, missed, leaf_sound}
use Rattle.code_btree.proofs.Rises.{one_items, filled_some}
use Rattle.code_btree.proofs.Inserts.{At, at_page}

pub last-append : (xs ys : List Pair) → 1 ≤ length ys → last_item (xs ++ ys) ≡ last_item ys
last-append [] ys h = refl
last-append (x ∷ []) [] h = absurd (omega arith)
last-append (x ∷ []) (y ∷ ys) h = refl
last-append (x ∷ (z ∷ xs)) ys h = last-append (z ∷ xs) ys h

Below-AtMost : (k : ℕ) (es : List Pair) → Below k es → AtMost k es
Below-AtMost k es h = Each-map (λ e. e.0 < k) (λ e. e.0 ≤ k) (λ e i. omega arith) es h

upto_some : (k : ℕ) (es : List Pair) → 1 ≤ length es → first_key es ≤ k → 1 ≤ length (items_upto k es)
upto_some k [] l f = absurd (omega arith)
upto_some k (e ∷ es) l f = rw (lt_not k e.0 f) (omega arith)

last_upto : (k : ℕ) (xs ys : List Pair) → Below k xs → (1 ≤ length xs → 1 ≤ length (items_upto k ys)) → last_item (xs ++ items_upto k ys) ≡ last_item (items_upto k ys)
last_upto k [] ys b f = refl
last_upto k (x ∷ xs) ys b f = last-append (x ∷ xs) (items_upto k ys) (f (omega arith))

kids_some : (m : Store) (h : ℕ) (xs : List ℕ) → 1 ≤ length (all_items m h xs) → 1 ≤ length xs
kids_some m h [] l = absurd (omega arith)
kids_some m h (x ∷ xs) l = omega arith

pub floor_down : (m : Store) (h n k : ℕ) (p : List ℕ) (count at : ℕ) → At m h n k p count at → floor_item k (items m (suc h) n) ≡ floor_item k (items m h (child_in p at))
floor_down m h n k p count at t =
    let xs : List ℕ = take at (child_pages (node_of p)) in
    let ys : List ℕ = drop (at + 1) (child_pages (node_of p)) in
    let c : ℕ = child_in p at in
    let a : List Pair = all_items m h xs in
    let b : List Pair = items m h c in
    let z : List Pair = all_items m h ys in
    let all : items m (suc h) n ≡ a ++ (b ++ z) =
    ap (λ (cs : List ℕ). all_items m h cs) t.split ∙ (items-three m h xs (c ∷ []) ys ∙ ap (λ (es : List Pair). a ++ (es ++ z)) (one_items m h c)) in
    let up : items_upto k (a ++ (b ++ z)) ≡ a ++ items_upto k b =
    items_upto-append k a (b ++ z) ∙ ap₂ (λ (x y : List Pair). x ++ y) (upto-AtMost k a (Below-AtMost k a t.descent.below))
    (items_upto-append k b z ∙ (ap (λ (y : List Pair). items_upto k b ++ y) (upto-Above k z t.descent.above) ∙ append-nil (items_upto k b))) in
    ap (λ (es : List Pair). floor_item k es) all ∙ (ap (λ (es : List Pair). last_item es) up
    ∙ last_upto k a b t.descent.below (λ l. upto_some k b (filled_some m h c t.descent.filled) (t.descent.first (kids_some m h xs l))))

last_taken : (es : List Pair) (at : ℕ) (d : Pair) → at < length es → last_item (take (at + 1) es) ≡ Some (get_or es at d)
last_taken es at d l = ap (λ (x : List Pair). last_item x) (take_more es at d l) ∙ last-append (take at es) (get_or es at d ∷ []) (omega arith)

pub floor_hit : (k : ℕ) (es : List Pair) (at : ℕ) (d : Pair) → Ascending es → at < length es → (1 ≤ at → (get_or es (at - 1) d).0 < k) → (get_or es at d).0 ≡ k
    → floor_item k es ≡ Some (get_or es at d)
floor_hit k es at d h l f e =
    let bx : Below k (take at es) = Below-rank k es at d h (omega arith) f in
    let A : List Pair → Type 0 = λ x. Ascending x in
    let tail : Ascending (get_or es at d ∷ drop (at + 1) es) = subst A (drop_more es at d l) (ascending_drop es at h) in
    let K : ℕ → Type 0 = λ x. Above x (drop (at + 1) es) in
    let ax : Above k (drop (at + 1) es) = subst K e tail.0 in
    let one : items_upto k (get_or es at d ∷ drop (at + 1) es) ≡ get_or es at d ∷ [] =
    rw (lt_not k (get_or es at d).0 (omega arith)) (ap (λ (x : List Pair). get_or es at d ∷ x) (upto-Above k (drop (at + 1) es) ax)) in
    ap (λ (x : List Pair). floor_item k x) (split_at es at d l)
    ∙ (ap (λ (x : List Pair). last_item x) (items_upto-append k (take at es) (get_or es at d ∷ drop (at + 1) es) ∙ ap (λ (x : List Pair). items_upto k (take at es) ++ x) one)
    ∙ last-append (items_upto k (take at es)) (get_or es at d ∷ []) (omega arith))

pub floor_miss : (k : ℕ) (es : List Pair) (at : ℕ) (d : Pair) → Ascending es → at ≤ length es → (1 ≤ at → (get_or es (at - 1) d).0 < k)
    → (at < length es → k < (get_or es at d).0) → floor_item k es ≡ last_item (take at es)
floor_miss k es at d h l f g =
    let bx : Below k (take at es) = Below-rank k es at d h l f in
    let ax : Above k (drop at es) = Above-rank k es at d h g in
    ap (λ (x : List Pair). floor_item k x) (sym (take-append-drop at es))
    ∙ ap (λ (x : List Pair). last_item x) (items_upto-append k (take at es) (drop at es)
    ∙ (ap₂ (λ (x y : List Pair). x ++ y) (upto-AtMost k (take at es) (Below-AtMost k (take at es) bx)) (upto-Above k (drop at es) ax) ∙ append-nil (take at es)))

-- in the code's words
pub floor_found : (p : List ℕ) (count at k old : ℕ) → IsLeafOf p count → Ascending (entries_of (node_of p)) → at ≤ count → (1 ≤ at → entry_key p (at - 1) < k)
    → (at < count) × (entry_key p at ≡ k) × (old ≡ entry_value p at) → Some (k, old) ≡ floor_item k (entries_of (node_of p))
floor_found p count at k old is a l f hit =
    let entry = entry_is p count at (0, 0) is hit.0 in
    sym (floor_hit k (entries_of (node_of p)) at (0, 0) a (omega (arith, hit.0, is.counted)) (λ o. ranked p count at k is l f o) (ap (λ (x : Pair). x.0) entry ∙ hit.1)
    ∙ ap (λ (x : Pair). Some x) (entry ∙ ap₂ (λ (x y : ℕ). (x, y)) hit.1 (sym hit.2)))

pub floor_none : (p : List ℕ) (count at k : ℕ) → IsLeafOf p count → Ascending (entries_of (node_of p)) → at ≤ count → (1 ≤ at → entry_key p (at - 1) < k)
    → (at < count → k ≤ entry_key p at) → (at < count → entry_key p at ≢ k) → at ≡ 0 → None ≡ floor_item k (entries_of (node_of p))
floor_none p count at k is a l f g miss z =
    sym (floor_miss k (entries_of (node_of p)) at (0, 0) a (omega (arith, is.counted)) (λ o. ranked p count at k is l f o) (λ i. missed p count at k is l g miss i)
    ∙ ap (λ (i : ℕ). last_item (take i (entries_of (node_of p)))) z)

pub floor_below : (p : List ℕ) (count at k : ℕ) → IsLeafOf p count → Ascending (entries_of (node_of p)) → at ≤ count → (1 ≤ at → entry_key p (at - 1) < k)
    → (at < count → k ≤ entry_key p at) → (at < count → entry_key p at ≢ k) → 1 ≤ at
    → Some (entry_key p (at - 1), entry_value p (at - 1)) ≡ floor_item k (entries_of (node_of p))
floor_below p count at k is a l f g miss z =
    let e : (at - 1) + 1 ≡ at = omega arith in
    sym (floor_miss k (entries_of (node_of p)) at (0, 0) a (omega (arith, is.counted)) (λ o. ranked p count at k is l f o) (λ i. missed p count at k is l g miss i)
    ∙ (ap (λ (i : ℕ). last_item (take i (entries_of (node_of p)))) (sym e)
    ∙ (last_taken (entries_of (node_of p)) (at - 1) (0, 0) (omega (arith, is.counted)) ∙ ap (λ (x : Pair). Some x) (entry_is p count (at - 1) (0, 0) is (omega arith)))))

pub record FloorLed (m : Store) (h n k c : ℕ) : Type 0 where
  pub child : Subtree m h c
  pub same : floor_item k (items m (suc h) n) ≡ floor_item k (items m h c)

pub floor_led : (m : Store) (h n k c : ℕ) → Subtree m (suc h) n → LeadsTo m n k (Some c) → FloorLed m h n k c
floor_led m h n k c s l =
    let st : InnerStep l.page k c = l.step in
    let t = at_page m h n k l.page st.count st.at l.read s st.is st.place st.before st.behind in
    let S : ℕ → Type 0 = λ x. Subtree m h x in
    record {
      child = subst S (sym st.child_is) t.descent.child;
      same = floor_down m h n k l.page st.count st.at t ∙ ap (λ (x : ℕ). floor_item k (items m h x)) (sym st.child_is);
    }

pub floor_in : (m : Store) (n k : ℕ) (found : Option Pair) → Subtree m 0 n → IsFloorIn m n k found → found ≡ floor_item k (items m 0 n)
floor_in m n k found s f =
    let hh : node m n ≡ node_of f.page = here m n f.page f.read in
    let P : Node → Type 0 = λ o. o ≡ leaf (entries_of o) (next_of o) in
    f.step (subst P hh s.sound.is_leaf) (leaf_sound m n f.page f.read s) ∙ ap (λ (x : Node). floor_item k (entries_of x)) (sym hh)

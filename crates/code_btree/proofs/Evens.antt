-- Two neighbours read and written, in the code's words.
use Rattle.std.proofs.Common.{◌≡◌, ℕ, suc, ◌+◌, ◌≤◌, List, [], ◌∷◌, ◌++◌, length, get_or, refl, sym, ◌∙◌, ap, ap₂, subst, arith, length-append}
use Rattle.std.specs.Prelude.{None, Some}
use Rattle.code_btree.specs.Node.{Pair, Node, leaf, inner, node_of, entries_of, next_of, keys_of, child_pages, size_of, IsLeafOf, IsInnerOf, entry_key}
use Rattle.code_btree.specs.Tree.{Store, node, first_key, least}
use Rattle.code_btree.specs.Steps.{Wrote, Freed, HalvesLeaf, HalvesInner}
use Rattle.code_btree.specs.Removals.{Neighbours, Balances}
use Rattle.code_btree.proofs.Looks.{entry_is}
use Rattle.code_btree.proofs.Leaves.{here}
use Rattle.code_btree.proofs.Balances.{apart, shares_of, merges_of, leaves_shared, leaves_merged, inners_shared, inners_merged}

first_get : (es : List Pair) → first_key es ≡ (get_or es 0 (0, 0)).0
first_get [] = refl
first_get (e ∷ es) = refl

-- the first key of a leaf, as it is read
pub first_read : (p : List ℕ) (n : ℕ) → IsLeafOf p n → 1 ≤ n → entry_key p 0 ≡ first_key (entries_of (node_of p))
first_read p n is l = sym (first_get (entries_of (node_of p)) ∙ ap (λ (x : Pair). x.0) (entry_is p n 0 (0, 0) is l))

-- how much two leaves hold that were read
record Read (m : Store) (a b : ℕ) (pl pr : List ℕ) (n k : ℕ) : Type 0 where
  pub left : node m a ≡ node_of pl
  pub right : node m b ≡ node_of pr
  pub size : size_of (node m a) ≡ n
  pub right_size : size_of (node m b) ≡ k

leaves_read : (m m1 : Store) (a b : ℕ) (pl pr : List ℕ) (n k : ℕ) → m1 ≡ m → m a ≡ Some pl → m1 b ≡ Some pr → IsLeafOf pl n → IsLeafOf pr k → Read m a b pl pr n k
leaves_read m m1 a b pl pr n k e1 e f is js =
    let P : Store → Type 0 = λ x. x b ≡ Some pr in
    let hl = here m a pl e in
    let hr = here m b pr (subst P e1 f) in
    record { left = hl; right = hr; size = ap (λ (x : Node). size_of x) (hl ∙ is.is_leaf) ∙ is.counted; right_size = ap (λ (x : Node). size_of x) (hr ∙ js.is_leaf) ∙ js.counted }

inners_read : (m m1 : Store) (a b : ℕ) (pl pr : List ℕ) (n k : ℕ) → m1 ≡ m → m a ≡ Some pl → m1 b ≡ Some pr → IsInnerOf pl n → IsInnerOf pr k → Read m a b pl pr n k
inners_read m m1 a b pl pr n k e1 e f is js =
    let P : Store → Type 0 = λ x. x b ≡ Some pr in
    let hl = here m a pl e in
    let hr = here m b pr (subst P e1 f) in
    record { left = hl; right = hr; size = ap (λ (x : Node). size_of x) (hl ∙ is.is_inner) ∙ is.counted; right_size = ap (λ (x : Node). size_of x) (hr ∙ js.is_inner) ∙ js.counted }

-- one entry was moved between two leaves
pub leaves_evened : (m m1 m2 u v : Store) (a b n k up : ℕ) (pl pr ql qr : List ℕ) → m1 ≡ m → m2 ≡ m → m a ≡ Some pl → m1 b ≡ Some pr → IsLeafOf pl n → IsLeafOf pr k
    → (62 ≤ n → 62 ≤ k → HalvesLeaf (entries_of (node_of ql)) (entries_of (node_of qr)) (entries_of (node_of pl) ++ entries_of (node_of pr)))
    → node_of ql ≡ leaf (entries_of (node_of ql)) (next_of (node_of pl)) → node_of qr ≡ leaf (entries_of (node_of qr)) (next_of (node_of pr))
    → Wrote m2 u a ql → Wrote u v b qr → up ≡ entry_key qr 0 → Neighbours m 0 a b → Balances m v 0 a b (Some up)
leaves_evened m m1 m2 u v a b n k up pl pr ql qr e1 e2 e f is js halves eql eqr wa wb eu nb =
    let r = leaves_read m m1 a b pl pr n k e1 e f is js in
    let hv0 = halves (omega (arith, nb.size, r.size)) (omega (arith, nb.right_size, r.right_size)) in
    let H : List Pair → Type 0 = λ x. HalvesLeaf (entries_of (node_of ql)) (entries_of (node_of qr)) x in
    let hv = subst H (sym (ap₂ (λ (x y : Node). entries_of x ++ entries_of y) r.left r.right)) hv0 in
    let W : Store → Type 0 = λ x. Wrote x u a ql in
    let s = shares_of m u v a b ql qr _ _ (apart m 0 a b nb.owns) (subst W e2 wa) wb (eql ∙ ap (λ (x : Node). leaf (entries_of (node_of ql)) (next_of x)) (sym r.left))
    (eqr ∙ ap (λ (x : Node). leaf (entries_of (node_of qr)) (next_of x)) (sym r.right)) in
    let full = hv0.right_full in
    let isr : IsLeafOf qr (length (entries_of (node_of qr))) = record {
      is_leaf = eqr ∙ ap (λ (x : ℕ). leaf (entries_of (node_of qr)) x) (sym (ap (λ (x : Node). next_of x) eqr));
      counted = refl;
      fits = hv0.right_fits;
    } in
    leaves_shared m v a b up (entries_of (node_of ql)) (entries_of (node_of qr)) nb s hv (eu ∙ first_read qr (length (entries_of (node_of qr))) isr (omega (arith, full)))

-- two leaves became one
pub leaves_joined : (m m1 m2 u v : Store) (a b n k : ℕ) (pl pr ql : List ℕ) → m1 ≡ m → m2 ≡ m → m a ≡ Some pl → m1 b ≡ Some pr → IsLeafOf pl n → IsLeafOf pr k
    → n + k ≤ 127 → node_of ql ≡ leaf (entries_of (node_of pl) ++ entries_of (node_of pr)) (next_of (node_of pr))
    → Wrote m2 u a ql → Freed u v b → Neighbours m 0 a b → Balances m v 0 a b None
leaves_joined m m1 m2 u v a b n k pl pr ql e1 e2 e f is js l eql wa fb nb =
    let r = leaves_read m m1 a b pl pr n k e1 e f is js in
    let W : Store → Type 0 = λ x. Wrote x u a ql in
    let s = merges_of m u v a b ql _ (apart m 0 a b nb.owns) (subst W e2 wa) fb (eql ∙ ap₂ (λ (x y : Node). leaf (entries_of x ++ entries_of y) (next_of y)) (sym r.left) (sym r.right)) in
    leaves_merged m v a b nb s (omega (
      arith,
      l,
      is.counted,
      js.counted,
      length-append (entries_of (node m a)) (entries_of (node m b)),
      ap (λ (x : Node). length (entries_of x)) r.left,
      ap (λ (x : Node). length (entries_of x)) r.right,
    ))

-- one child was moved between two inner pages
pub inners_evened : (m m1 m2 u v : Store) (h a b n k key up : ℕ) (pl pr ql qr : List ℕ) → m1 ≡ m → m2 ≡ m → m a ≡ Some pl → m1 b ≡ Some pr → IsInnerOf pl n → IsInnerOf pr k
    → (83 ≤ n → 83 ≤ k → HalvesInner (keys_of (node_of ql)) (child_pages (node_of ql)) up (keys_of (node_of qr)) (child_pages (node_of qr))
    (keys_of (node_of pl) ++ (key ∷ keys_of (node_of pr))) (child_pages (node_of pl) ++ child_pages (node_of pr)))
    → node_of ql ≡ inner (keys_of (node_of ql)) (child_pages (node_of ql)) → node_of qr ≡ inner (keys_of (node_of qr)) (child_pages (node_of qr)) → Wrote m2 u a ql
    → Wrote u v b qr → key ≡ least m (suc h) b → Neighbours m (suc h) a b → Balances m v (suc h) a b (Some up)
inners_evened m m1 m2 u v h a b n k key up pl pr ql qr e1 e2 e f is js halves eql eqr wa wb ek nb =
    let r = inners_read m m1 a b pl pr n k e1 e f is js in
    let hv0 = halves (omega (arith, nb.size, r.size)) (omega (arith, nb.right_size, r.right_size)) in
    let H : List ℕ → List ℕ → Type 0 = λ x y. HalvesInner (keys_of (node_of ql)) (child_pages (node_of ql)) up (keys_of (node_of qr)) (child_pages (node_of qr)) x y in
    let K : List ℕ → Type 0 = λ x. H x (child_pages (node_of pl) ++ child_pages (node_of pr)) in
    let C : List ℕ → Type 0 = λ y. H (keys_of (node m a) ++ (key ∷ keys_of (node m b))) y in
    let hv = subst C (sym (ap₂ (λ (x y : Node). child_pages x ++ child_pages y) r.left r.right)) (subst K (sym (ap₂ (λ (x y : Node). keys_of x ++ (key ∷ keys_of y)) r.left r.right)) hv0) in
    let W : Store → Type 0 = λ x. Wrote x u a ql in
    inners_shared m v h a b key up (keys_of (node_of ql)) (child_pages (node_of ql)) (keys_of (node_of qr)) (child_pages (node_of qr)) nb ek
    (shares_of m u v a b ql qr _ _ (apart m (suc h) a b nb.owns) (subst W e2 wa) wb eql eqr) hv

-- two inner pages became one
pub inners_joined : (m m1 m2 u v : Store) (h a b n k key : ℕ) (pl pr ql : List ℕ) → m1 ≡ m → m2 ≡ m → m a ≡ Some pl → m1 b ≡ Some pr → IsInnerOf pl n → IsInnerOf pr k → n + k ≤ 168
    → node_of ql ≡ inner (keys_of (node_of pl) ++ (key ∷ keys_of (node_of pr))) (child_pages (node_of pl) ++ child_pages (node_of pr)) → Wrote m2 u a ql → Freed u v b
    → key ≡ least m (suc h) b → Neighbours m (suc h) a b → Balances m v (suc h) a b None
inners_joined m m1 m2 u v h a b n k key pl pr ql e1 e2 e f is js l eql wa fb ek nb =
    let r = inners_read m m1 a b pl pr n k e1 e f is js in
    let W : Store → Type 0 = λ x. Wrote x u a ql in
    let s = merges_of m u v a b ql _ (apart m (suc h) a b nb.owns) (subst W e2 wa) fb
    (eql ∙ ap₂ (λ (x y : Node). inner (keys_of x ++ (key ∷ keys_of y)) (child_pages x ++ child_pages y)) (sym r.left) (sym r.right)) in
    inners_merged m v h a b key nb ek s (omega (arith, l, r.size, r.right_size))

-- A key looked up, one level after the other.
use Rattle.std.proofs.Common.{◌≡◌, ◌≢◌, ℕ, suc, ◌+◌, ◌-◌, ◌<◌, ◌≤◌, List, [], ◌∷◌, length, get_or, take, drop, sym, ◌∙◌, ap, subst, arith}
use Rattle.std.specs.Prelude.{Option, None, Some, MatchOption}
use Rattle.code_btree.specs.Node.{Pair, Node, leaf, inner, node_of, entries_of, next_of, keys_of, child_pages, IsLeafOf, entry_key, entry_value, child_in}
use Rattle.code_btree.specs.Items.{Ascending, find_item}
use Rattle.code_btree.specs.Tree.{Store, node, items, all_items}
use Rattle.code_btree.specs.Steps.{Subtree, LeadsTo, InnerStep, IsFoundIn}
use Rattle.code_btree.proofs.Orders.{find_middle, rising, leaf_hit, leaf_miss}
use Rattle.code_btree.proofs.Moves.{items-three}
use Rattle.code_btree.proofs.Looks.{entry_is}
use Rattle.code_btree.proofs.Leaves.{here, ranked, missed, leaf_sound}
use Rattle.code_btree.proofs.Rises.{one_items}
use Rattle.code_btree.proofs.Inserts.{At, at_page}

pub find_down : (m : Store) (h n k : ℕ) (p : List ℕ) (count at : ℕ) → At m h n k p count at → find_item k (items m (suc h) n) ≡ find_item k (items m h (child_in p at))
find_down m h n k p count at t =
    let xs : List ℕ = take at (child_pages (node_of p)) in
    let ys : List ℕ = drop (at + 1) (child_pages (node_of p)) in
    let c : ℕ = child_in p at in
    ap (λ (cs : List ℕ). find_item k (all_items m h cs)) t.split
    ∙ (ap (λ (es : List Pair). find_item k es) (items-three m h xs (c ∷ []) ys)
    ∙ (find_middle k (all_items m h xs) (all_items m h (c ∷ [])) (all_items m h ys) t.descent.below t.descent.above
    ∙ ap (λ (es : List Pair). find_item k es) (one_items m h c)))

pub record Led (m : Store) (h n k c : ℕ) : Type 0 where
  pub child : Subtree m h c
  pub same : find_item k (items m (suc h) n) ≡ find_item k (items m h c)

pub led : (m : Store) (h n k c : ℕ) → Subtree m (suc h) n → LeadsTo m n k (Some c) → Led m h n k c
led m h n k c s l =
    let st : InnerStep l.page k c = l.step in
    let t = at_page m h n k l.page st.count st.at l.read s st.is st.place st.before st.behind in
    let S : ℕ → Type 0 = λ x. Subtree m h x in
    record {
      child = subst S (sym st.child_is) t.descent.child;
      same = find_down m h n k l.page st.count st.at t ∙ ap (λ (x : ℕ). find_item k (items m h x)) (sym st.child_is);
    }

pub led_none : (m : Store) (h n k : ℕ) → Subtree m (suc h) n → LeadsTo m n k None → ⊥
led_none m h n k s l =
    let hh : node m n ≡ node_of l.page = here m n l.page l.read in
    let P : Node → Type 0 = λ o. o ≡ inner (keys_of o) (child_pages o) in
    l.step (subst P hh s.sound.0.is_inner)

-- in the code's words
pub found_at : (p : List ℕ) (count at k : ℕ) (found : Option ℕ) → IsLeafOf p count → Ascending (entries_of (node_of p)) → at ≤ count
    → (1 ≤ at → entry_key p (at - 1) < k) → (at < count → k ≤ entry_key p at)
    → MatchOption found (at < count → entry_key p at ≢ k) (λ value. (at < count) × (entry_key p at ≡ k) × (value ≡ entry_value p at)) → found ≡ find_item k (entries_of (node_of p))
found_at p count at k None is a l f g miss =
    sym (leaf_miss k [] (entries_of (node_of p)) at (0, 0) a (omega (arith, l, is.counted)) (λ o. ranked p count at k is l f o) (λ i. missed p count at k is l g miss i)).1
found_at p count at k (Some v) is a l f g hit =
    let entry = entry_is p count at (0, 0) is hit.0 in
    sym ((leaf_hit k [] (entries_of (node_of p)) at (0, 0) a (omega (arith, hit.0, is.counted)) (λ o. ranked p count at k is l f o) (ap (λ (x : Pair). x.0) entry ∙ hit.1)).1
    ∙ ap (λ (x : ℕ). Some x) (ap (λ (x : Pair). x.1) entry ∙ sym hit.2))

pub found_here : (p : List ℕ) (count at k v : ℕ) → IsLeafOf p count → Ascending (entries_of (node_of p)) → (at < count) × (entry_key p at ≡ k) × (v ≡ entry_value p at)
    → Some v ≡ find_item k (entries_of (node_of p))
found_here p count at k v is a hit =
    let es : List Pair = entries_of (node_of p) in
    let entry = entry_is p count at (0, 0) is hit.0 in
    let here_is : (get_or es at (0, 0)).0 ≡ k = ap (λ (x : Pair). x.0) entry ∙ hit.1 in
    let l : at < length es = omega (arith, hit.0, is.counted) in
    sym ((leaf_hit k [] es at (0, 0) a l (λ o. omega (arith, rising es at (0, 0) a l o, here_is)) here_is).1 ∙ ap (λ (x : ℕ). Some x) (ap (λ (x : Pair). x.1) entry ∙ sym hit.2))

pub found_in : (m : Store) (n k : ℕ) (found : Option ℕ) → Subtree m 0 n → IsFoundIn m n k found → found ≡ find_item k (items m 0 n)
found_in m n k found s f =
    let hh : node m n ≡ node_of f.page = here m n f.page f.read in
    let P : Node → Type 0 = λ o. o ≡ leaf (entries_of o) (next_of o) in
    f.step (subst P hh s.sound.is_leaf) (leaf_sound m n f.page f.read s) ∙ ap (λ (x : Node). find_item k (entries_of x)) (sym hh)

-- A key taken from under an inner page, in the code's words.
use Rattle.std.proofs.Common.{◌≡◌, ◌≢◌, ℕ, zero, suc, ◌+◌, ◌-◌, ◌<◌, ◌≤◌, Bool, false, List, [], ◌∷◌, ◌++◌, length, get_or, take, drop, map, refl, sym, ◌∙◌, ap}
use Rattle.std.proofs.Common.{subst, arith, length-append, length-take, length-drop, take-append-drop}
use Rattle.std.specs.Prelude.{Option, None, Some}
use Rattle.code_btree.specs.declared.remove.Shrunk.{Shrunk}
use Rattle.code_btree.specs.Node.{Pair, Node, leaf, inner, node_of, entries_of, next_of, keys_of, child_pages, size_of, IsLeafOf, IsInnerOf, entry_key, entry_value, key_in, child_in}
use Rattle.code_btree.specs.Items.{Each, find_item}
use Rattle.code_btree.specs.Tree.{Store, node_in, node, items, all_items, first_key, least, few}
use Rattle.code_btree.specs.Steps.{Alters, alter, Subtree, Wrote, Writes}
use Rattle.code_btree.specs.Removals.{Neighbours, Balances, or_least, RemovesUnder, noted_keys, mended_keys, mended_children, Mends}
use Rattle.code_btree.proofs.Lists.{Each-append}
use Rattle.code_btree.proofs.Orders.{leaf_hit, leaf_miss}
use Rattle.code_btree.proofs.Moves.{row_full, change_none, change_next, owns_after}
use Rattle.code_btree.proofs.Looks.{entry_is, key_is, child_is}
use Rattle.code_btree.proofs.Rises.{rowed, row_left, row_right, fulls, one_items, top_stays, up_quiet, up_written}
use Rattle.code_btree.proofs.Leaves.{here, ranked, missed, leaf_sound, writes_of, leaf_written}
use Rattle.code_btree.proofs.Inserts.{At}
use Rattle.code_btree.proofs.Mends.{noted, least_up, Beside, beside, mended, Taken}

pub taken : (m0 m w : Store) (h n k count at : ℕ) (p : List ℕ) (s : Shrunk) → m0 ≡ m → At m h n k p count at → RemovesUnder m0 w h (child_in p at) k s → Taken m w h n k p at s
taken m0 m w h n k count at p s e0 t r0 =
    let cs : List ℕ = child_pages (node_of p) in
    let xs : List ℕ = take at cs in
    let ys : List ℕ = drop (at + 1) cs in
    let c : ℕ = child_in p at in
    let d = t.descent in
    let r : RemovesUnder m w h c k s = (let P : Store → Type 0 = λ x. RemovesUnder x w h c k s in subst P e0 r0) in
    let hh : node m n ≡ node_of p = here m n p t.read in
    let keys : keys_of (node_of p) ≡ drop 1 (map (λ x. least m h x) (xs ++ (c ∷ ys))) =
    ap (λ (x : Node). keys_of x) (sym hh) ∙ (t.tree.sound.0.separators ∙ ap (λ (x : List ℕ). drop 1 (map (λ y. least m h y) x)) t.split) in
    record {
      xs = xs;
      c = c;
      ys = ys;
      tree = t.tree;
      kids = t.split;
      page_kids = ap (λ (x : Node). child_pages x) (sym hh) ∙ t.split;
      front = t.front;
      descent = d;
      removes = r;
      row = rowed m w h k xs c ys (c ∷ []) [] s.was d r.alters;
      seps = ap (λ (i : ℕ). noted_keys i s.least (keys_of (node_of p))) (sym t.front) ∙ noted m w h k xs c ys s (keys_of (node_of p)) d r keys;
      left = row_full m w h xs (row_left m w h k xs c ys (c ∷ []) [] s.was d r.alters) (fulls m h xs d.left);
      right = row_full m w h ys (row_right m w h k xs c ys (c ∷ []) [] s.was d r.alters) (fulls m h ys d.right);
    }

-- what is said of the page above, once its tree is known
removed : (m w v : Store) (h n k at size : ℕ) (p : List ℕ) (s : Shrunk) (o : Option ℕ) (short : Bool) (t : Taken m w h n k p at s)
    → Alters m v (suc h) (n ∷ []) (n ∷ []) k [] s.was → size_of (node v n) ≡ size → size_of (node m n) ≤ size + 1
    → (short ≡ false → 84 ≤ size) → (at ≡ 0 → o ≡ s.least) → (1 ≤ at → o ≡ None) → RemovesUnder m v (suc h) n k (record { was = s.was; least = o; short = short })
removed m w v h n k at size p s o short t al z l f first behind = record {
  alters = al;
  lost = omega (arith, z, l);
  filled = λ b. let i = f b in omega (arith, z, i);
  least_key = λ _. least_up m w v h n k t.xs t.c t.ys s o t.kids t.descent t.removes (sym (one_items v (suc h) n) ∙ (al.items ∙ ap (λ (es : List Pair). alter k [] es) (one_items m (suc h) n)))
      (λ i. first (sym t.front ∙ i)) (λ i. behind (omega (arith, i, t.front)));
}

full_row : (m w : Store) (h n k at : ℕ) (p : List ℕ) (s : Shrunk) (t : Taken m w h n k p at s) → s.short ≡ false → Each (λ x. few h ≤ size_of (node w x)) (t.xs ++ (t.c ∷ t.ys))
full_row m w h n k at p s t b = Each-append (λ x. few h ≤ size_of (node w x)) t.xs (t.c ∷ t.ys) t.left (t.removes.filled b, t.right)

pub top_size : (m : Store) (n count : ℕ) (p : List ℕ) → m n ≡ Some p → IsInnerOf p count → size_of (node m n) ≡ count
top_size m n count p e is = omega (arith, ap (λ (x : Node). size_of x) (here m n p e ∙ is.is_inner), is.counted)

-- neither the page nor its children's fills are touched
pub removed_quiet : (m w : Store) (h n k count at : ℕ) (p : List ℕ) (s : Shrunk) (o : Option ℕ) (short : Bool) → At m h n k p count at → Taken m w h n k p at s
    → noted_keys at s.least (keys_of (node_of p)) ≡ keys_of (node_of p) → s.short ≡ false
    → (short ≡ false → 84 ≤ count) → (at ≡ 0 → o ≡ s.least) → (1 ≤ at → o ≡ None) → RemovesUnder m w (suc h) n k (record { was = s.was; least = o; short = short })
removed_quiet m w h n k count at p s o short a t e b f first behind =
    let cs : List ℕ = t.xs ++ (t.c ∷ t.ys) in
    let hh : node m n ≡ node_of p = here m n p a.read in
    let st : w n ≡ m n = top_stays m w h n cs cs t.tree t.kids t.row.change in
    let seps : drop 1 (map (λ x. least m h x) cs) ≡ drop 1 (map (λ x. least w h x) cs) =
    sym (ap (λ (x : Node). keys_of x) (sym hh) ∙ (t.tree.sound.0.separators ∙ ap (λ (x : List ℕ). drop 1 (map (λ y. least m h y) x)) t.kids)) ∙ (sym e ∙ t.seps) in
    let sm = top_size m n count p a.read a.is in
    removed m w w h n k at count p s o short t (up_quiet m w h n k cs [] s.was t.tree t.kids t.row seps (full_row m w h n k at p s t b))
    (ap (λ (x : Option (List ℕ)). size_of (node_in x)) st ∙ sm) (omega (arith, sm)) f first behind

-- the key in front of the child is written
pub removed_noted : (m w v : Store) (h n k count at : ℕ) (p q : List ℕ) (s : Shrunk) (o : Option ℕ) (short : Bool) → At m h n k p count at → Taken m w h n k p at s
    → node_of q ≡ inner (noted_keys at s.least (keys_of (node_of p))) (child_pages (node_of p)) → IsInnerOf q count → Wrote w v n q → s.short ≡ false
    → (short ≡ false → 84 ≤ count) → (at ≡ 0 → o ≡ s.least) → (1 ≤ at → o ≡ None) → RemovesUnder m v (suc h) n k (record { was = s.was; least = o; short = short })
removed_noted m w v h n k count at p q s o short a t e is wr b f first behind =
    let cs : List ℕ = t.xs ++ (t.c ∷ t.ys) in
    let ks : List ℕ = noted_keys at s.least (keys_of (node_of p)) in
    let wo : Writes w v n (inner ks cs) = writes_of w v n q (inner ks cs) wr (e ∙ ap (λ (x : List ℕ). inner ks x) t.page_kids) in
    let sm = top_size m n count p a.read a.is in
    let lk : length ks ≡ count = sym (ap (λ (x : Node). length (keys_of x)) e) ∙ is.counted in
    let fits : length cs ≤ 170 = omega (arith, t.tree.sound.0.fits, ap (λ (x : List ℕ). length x) t.kids) in
    removed m w v h n k at count p s o short t
    (up_written m w v h n k cs cs ks [] s.was t.tree t.kids t.row wo t.seps (omega (arith, length-append t.xs (t.c ∷ t.ys))) fits (full_row m w h n k at p s t b))
    (ap (λ (x : Node). size_of x) wo.node ∙ lk) (omega (arith, sm)) f first behind

pub mended_length : (j : ℕ) (up : Option ℕ) (ks : List ℕ) → j < length ks → length ks ≤ length (mended_keys j up ks) + 1
mended_length j None ks l = omega (arith, length-append (take j ks) (drop (j + 1) ks), length-take j ks, length-drop (j + 1) ks)
mended_length j (Some k) ks l = omega (arith, length-append (take j ks) (k ∷ drop (j + 1) ks), length-take j ks, length-drop (j + 1) ks)

-- the child is short: it and a neighbour are balanced
pub removed_mended : (m w v : Store) (h n k count at j size : ℕ) (p q : List ℕ) (s : Shrunk) (o : Option ℕ) (short : Bool) → At m h n k p count at
    → Taken m w h n k p at s → node_of q ≡ inner (noted_keys at s.least (keys_of (node_of p))) (child_pages (node_of p)) → IsInnerOf q count
    → j ≡ at - 1 → Mends w v h n j (keys_of (node_of q)) (child_pages (node_of q)) size
    → (short ≡ false → 84 ≤ size) → (at ≡ 0 → o ≡ s.least) → (1 ≤ at → o ≡ None) → RemovesUnder m v (suc h) n k (record { was = s.was; least = o; short = short })
removed_mended m w v h n k count at j size p q s o short a t e is ej me f first behind =
    let cs : List ℕ = t.xs ++ (t.c ∷ t.ys) in
    let ks : List ℕ = keys_of (node_of q) in
    let kq : ks ≡ noted_keys at s.least (keys_of (node_of p)) = ap (λ (x : Node). keys_of x) e in
    let cq : child_pages (node_of q) ≡ cs = ap (λ (x : Node). child_pages x) e ∙ t.page_kids in
    let M : List ℕ → Type 0 = λ x. Mends w v h n j ks x size in
    let md : Mends w v h n j ks cs size = subst M cq me in
    let be : Beside w h j cs = beside w h j t.xs t.c t.ys t.left t.right (omega (arith, t.removes.lost, t.descent.filled.1)) (omega (arith, ej, t.front)) md.inside in
    let d = mended w md.mid h j cs ks md.up (owns_after m w h cs cs t.row.change t.descent.owns_row) t.row.change.sound (kq ∙ t.seps) be md.balances in
    let al : Alters m md.mid h cs d.new k [] s.was = record {
      change = change_next m w md.mid h cs cs d.new t.descent.owns_row t.row.change d.change;
      items = d.items ∙ t.row.items;
      found = t.row.found;
    } in
    let mk : List ℕ = mended_keys j md.up ks in
    let W : List ℕ → Type 0 = λ x. Writes md.mid v n (inner mk x) in
    let wo : Writes md.mid v n (inner mk d.new) = subst W d.children md.writes in
    let sm = top_size m n count p a.read a.is in
    let fits : length d.new ≤ 170 = omega (arith, d.fewer, t.tree.sound.0.fits, ap (λ (x : List ℕ). length x) t.kids) in
    let lost : length ks ≤ length mk + 1 = mended_length j md.up ks (omega (arith, is.counted, md.inside, is.children, ap (λ (x : List ℕ). length x) cq)) in
    removed m w v h n k at size p s o short t (up_written m md.mid v h n k cs d.new mk [] s.was t.tree t.kids al wo d.seps d.some fits d.full)
    (ap (λ (x : Node). size_of x) wo.node ∙ sym md.counted) (omega (arith, sm, lost, is.counted, md.counted)) f first behind

first_taken : (at : ℕ) (es zs : List Pair) → 1 ≤ at → 1 ≤ length es → first_key (take at es ++ zs) ≡ first_key es
first_taken zero es zs l i = absurd (omega arith)
first_taken (suc at) [] zs l i = absurd (omega arith)
first_taken (suc at) (e ∷ es) zs l i = refl

leaf_least : (at : ℕ) (es zs : List Pair) (o : Option ℕ) (before : ℕ) → before ≡ first_key es → 1 ≤ length es → (at ≡ 0 → o ≡ Some (first_key (take at es ++ zs)))
    → (1 ≤ at → o ≡ None) → first_key (take at es ++ zs) ≡ or_least o before
leaf_least zero es zs o before b l f g = sym (ap (λ (x : Option ℕ). or_least x before) (f refl))
leaf_least (suc at) es zs o before b l f g = first_taken (suc at) es zs (omega arith) l ∙ (sym b ∙ sym (ap (λ (x : Option ℕ). or_least x before) (g (omega arith))))

-- the key isn't in the leaf
pub leaf_lacks : (m1 m : Store) (n k count at : ℕ) (p : List ℕ) (short : Bool) → m1 ≡ m → m n ≡ Some p → Subtree m 0 n → IsLeafOf p count → at ≤ count
    → (1 ≤ at → entry_key p (at - 1) < k) → (at < count → k ≤ entry_key p at) → (at < count → entry_key p at ≢ k)
    → (short ≡ false → 63 ≤ count) → RemovesUnder m m1 0 n k (record { was = None; least = None; short = short })
leaf_lacks m1 m n k count at p short e1 e s is l f g miss sh =
    let es : List Pair = entries_of (node_of p) in
    let hh = here m n p e in
    let c : length es ≡ count = is.counted in
    let h = leaf_miss k [] es at (0, 0) (leaf_sound m n p e s) (omega arith) (λ o. ranked p count at k is l f o) (λ i. missed p count at k is l g miss i) in
    let one : all_items m 0 (n ∷ []) ≡ es = one_items m 0 n ∙ ap (λ (x : Node). entries_of x) hh in
    let size : size_of (node m n) ≡ count = omega (arith, ap (λ (x : Node). size_of x) (hh ∙ is.is_leaf)) in
    let R : Store → Type 0 = λ x. RemovesUnder m x 0 n k (record { was = None; least = None; short = short }) in
    let r : RemovesUnder m m 0 n k (record { was = None; least = None; short = short }) = record {
      alters = record {
        change = change_none m 0 (n ∷ []) (s.sound, tt);
        items = one ∙ (sym (take-append-drop at es) ∙ (sym h.0 ∙ ap (λ (x : List Pair). alter k [] x) (sym one)));
        found = sym h.1 ∙ ap (λ (x : List Pair). find_item k x) (sym one);
      };
      lost = omega arith;
      filled = λ b. let i = sh b in omega (arith, size, i);
      least_key = λ _. refl;
    } in
    subst R (sym e1) r

-- the key stands in the leaf: its entry is taken
pub leaf_taken : (m1 m w : Store) (n k count at old : ℕ) (p q : List ℕ) (o : Option ℕ) (short : Bool) → m1 ≡ m → m n ≡ Some p → Subtree m 0 n → IsLeafOf p count
    → at ≤ count → (1 ≤ at → entry_key p (at - 1) < k)
    → (at < count) × (entry_key p at ≡ k) × (old ≡ entry_value p at)
    → node_of q ≡ leaf (take at (entries_of (node_of p)) ++ ([] ++ drop (at + 1) (entries_of (node_of p)))) (next_of (node_of p)) → IsLeafOf q (count - 1) → Wrote m1 w n q
    → (IsLeafOf q (count - 1) → 1 ≤ count - 1 → at ≡ 0 → o ≡ Some (first_key (entries_of (node_of q)))) → (1 ≤ at → o ≡ None) → (short ≡ false → 63 ≤ count - 1)
    → RemovesUnder m w 0 n k (record { was = Some old; least = o; short = short })
leaf_taken m1 m w n k count at old p q o short e1 e s is l f hit eq isq wr first behind sh =
    let es : List Pair = entries_of (node_of p) in
    let fs : List Pair = take at es ++ ([] ++ drop (at + 1) es) in
    let wm : Wrote m w n q = (let P : Store → Type 0 = λ x. Wrote x w n q in subst P e1 wr) in
    let wo = writes_of m w n q _ wm eq in
    let c : length es ≡ count = is.counted in
    let hh = here m n p e in
    let entry = entry_is p count at (0, 0) is hit.0 in
    let h = leaf_hit k [] es at (0, 0) (leaf_sound m n p e s) (omega (arith, hit.0)) (λ i. ranked p count at k is l f i) (ap (λ (x : Pair). x.0) entry ∙ hit.1) in
    let len : length fs ≡ count - 1 = omega (arith, hit.0, length-append (take at es) (drop (at + 1) es), length-take at es, length-drop (at + 1) es) in
    let sm : size_of (node m n) ≡ count = omega (arith, ap (λ (x : Node). size_of x) (hh ∙ is.is_leaf)) in
    let sw : size_of (node w n) ≡ count - 1 = ap (λ (x : Node). size_of x) wo.node ∙ len in
    let new : least w 0 n ≡ first_key fs = ap (λ (x : Node). first_key (entries_of x)) wo.node in
    let old_first : least m 0 n ≡ first_key es = ap (λ (x : Node). first_key (entries_of x)) hh in
    record {
      alters = leaf_written m w n k [] (Some old) _ _ (sym (ap (λ (x : Node). next_of x) hh)) wo (omega (arith, len, is.fits))
          (ap (λ (x : Node). alter k [] (entries_of x)) hh ∙ h.0)
          (ap (λ (x : Node). find_item k (entries_of x)) hh ∙ (h.1 ∙ ap (λ (x : ℕ). Some x) (ap (λ (x : Pair). x.1) entry ∙ sym hit.2)));
      lost = omega (arith, sm, sw);
      filled = λ b. let i = sh b in omega (arith, sw, i);
      least_key = λ z. new ∙ leaf_least at es (drop (at + 1) es) o (least m 0 n) old_first (omega (arith, hit.0))
          (λ i. first isq (omega (arith, z, sm)) i ∙ ap (λ (x : Node). Some (first_key (entries_of x))) eq) behind;
    }

mended_count : (j count : ℕ) (ks : List ℕ) → length ks ≡ count → j < count → (count - 1 ≡ length (mended_keys j None ks)) × ((k : ℕ) → count ≡ length (mended_keys j (Some k) ks))
mended_count j count ks e l = (
  omega (arith, length-append (take j ks) (drop (j + 1) ks), length-take j ks, length-drop (j + 1) ks),
  λ k. omega (arith, length-append (take j ks) (k ∷ drop (j + 1) ks), length-take j ks, length-drop (j + 1) ks),
)

mend_size : (j count size : ℕ) (up : Option ℕ) (ks : List ℕ) → length ks ≡ count → j < count → (up ≡ None → size ≡ count - 1) → ((k : ℕ) → up ≡ Some k → size ≡ count)
    → size ≡ length (mended_keys j up ks)
mend_size j count size None ks e l f g = f refl ∙ (mended_count j count ks e l).0
mend_size j count size (Some k) ks e l f g = g k refl ∙ (mended_count j count ks e l).1 k

-- two children were balanced and their page written, in the code's words
pub mend_done : (m mid w : Store) (h n j count size left right key : ℕ) (p q : List ℕ) (up : Option ℕ) → IsInnerOf p count → j < count → left ≡ child_in p j
    → right ≡ child_in p (j + 1) → key ≡ key_in p j
    → (key ≡ least m h right → Neighbours m h left right → Balances m mid h left right up)
    → node_of q ≡ inner (mended_keys j up (keys_of (node_of p))) (mended_children j up (child_pages (node_of p))) → Wrote mid w n q
    → (up ≡ None → size ≡ count - 1) → ((k : ℕ) → up ≡ Some k → size ≡ count) → Mends m w h n j (keys_of (node_of p)) (child_pages (node_of p)) size
mend_done m mid w h n j count size left right key p q up is l el er ek f e wr g i =
    let ks : List ℕ = keys_of (node_of p) in
    let cs : List ℕ = child_pages (node_of p) in
    let gl : left ≡ get_or cs j 0 = el ∙ sym (child_is p count j is (omega arith)) in
    let gr : right ≡ get_or cs (j + 1) 0 = er ∙ sym (child_is p count (j + 1) is (omega arith)) in
    let gk : key ≡ get_or ks j 0 = ek ∙ sym (key_is p count j is l) in
    let F : ℕ → ℕ → ℕ → Type 0 = λ x y z. x ≡ least m h z → Neighbours m h y z → Balances m mid h y z up in
    let A : ℕ → Type 0 = λ x. F x left right in
    let B : ℕ → Type 0 = λ y. F (get_or ks j 0) y right in
    let C : ℕ → Type 0 = λ z. F (get_or ks j 0) (get_or cs j 0) z in
    record {
      mid = mid;
      up = up;
      inside = omega (arith, l, is.children);
      balances = subst C gr (subst B gl (subst A gk f));
      writes = writes_of mid w n q (inner (mended_keys j up ks) (mended_children j up cs)) wr e;
      counted = mend_size j count size up ks is.counted l g i;
    }

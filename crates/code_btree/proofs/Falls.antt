-- Whole trees after a key was taken: with the root kept, and with its only child as the new root.
use Rattle.std.proofs.Common.{◌≡◌, ◌≢◌, ℕ, zero, suc, ◌+◌, ◌-◌, ◌*◌, ◌^◌, ◌<◌, ◌≤◌, ◌⊎◌, Bool, true, false, List, [], ◌∷◌, ◌++◌, length, drop, map, refl, sym, ◌∙◌, ap}
use Rattle.std.proofs.Common.{ap₂, subst, inl, inr, arith, append-nil}
use Rattle.std.specs.Prelude.{Option, None, Some}
use Rattle.std.proofs.lemmas.Bool.Decides.{leb_tells, eqb_tells}
use Rattle.code_btree.specs.declared.map.Tree.{Tree}
use Rattle.code_btree.specs.declared.remove.Shrunk.{Shrunk}
use Rattle.code_btree.specs.Node.{Pair, Node, inner, node_of, keys_of, child_pages, size_of, IsInnerOf, child_in}
use Rattle.code_btree.specs.Items.{Each, Above, Ascending, find_item}
use Rattle.code_btree.specs.Tree.{Store, node_in, node, items, pages, links, all_items, all_pages, all_links, same, times, live, Owns, Path, few, Sound, Filled, IsTreeAt}
use Rattle.code_btree.specs.Tree.{IsTree, tree_items, tree_pages}
use Rattle.code_btree.specs.Calls.{Keeps, Removed}
use Rattle.code_btree.specs.Steps.{alter, Freed}
use Rattle.code_btree.specs.Removals.{RemovesUnder, count_before, FallsTo}
use Rattle.code_btree.proofs.Lists.{Each-map, same_cases, live_small, live_same, live_none}
use Rattle.code_btree.proofs.Orders.{Ascending-drop, below-Above, above-Above, find-Above, lt_is, lt_not, eq_not}
use Rattle.code_btree.proofs.Moves.{Stays, tree_stays, owns_after}
use Rattle.code_btree.proofs.Looks.{child_is}
use Rattle.code_btree.proofs.Rises.{one_items}
use Rattle.code_btree.proofs.Leaves.{here}
use Rattle.code_btree.proofs.Counts.{many}
use Rattle.code_btree.proofs.Roots.{keeps_of, one_pages, one_links}
use Rattle.code_btree.proofs.Mends.{few_some}

suc_before : (n : ℕ) (o : Option ℕ) → suc (count_before n o) ≡ count_before (suc n) o
suc_before n None = refl
suc_before n (Some x) = omega arith

-- a key taken is one pair less
length_drop : (k : ℕ) (es : List Pair) → Ascending es → length es ≡ count_before (length (alter k [] es)) (find_item k es)
length_drop k [] a = refl
length_drop k (e ∷ es) a = elim (leb_tells (suc e.0) k) [
  | inl x ↦ rw (x.0, lt_not k e.0 (omega arith), eq_not e.0 k (omega arith)) (ap suc (length_drop k es a.1) ∙ suc_before (length (alter k [] es)) (find_item k es))
  | inr x ↦ elim (eqb_tells e.0 k) [
    | inl y ↦
        let P : ℕ → Type 0 = λ i. Above i es in
        let above : Above k es = subst P y.1 a.0 in
        rw (x.0, lt_not k e.0 (omega arith), y.0, below-Above k es above, above-Above k es above) (omega arith)
    | inr y ↦
        let l : k < e.0 = omega (arith, y.1) in
        let above : Above k es = Each-map (λ i. e.0 < i.0) (λ i. k < i.0) (λ i j. omega arith) es a.0 in
        rw (x.0, lt_is k e.0 l, y.0, below-Above k es above, above-Above k es above, find-Above k es above) refl
  ]
]

before_same : (o : Option ℕ) (a b : ℕ) → count_before a o ≡ count_before b o → a ≡ b
before_same None a b e = e
before_same (Some x) a b e = omega (arith, e)

counts : (m : Store) (h n k count entries : ℕ) (was : Option ℕ) (es : List Pair) → IsTreeAt m h n count → was ≡ find_item k (items m h n)
    → count ≡ count_before entries was → es ≡ alter k [] (items m h n) → entries ≡ length es
counts m h n k count entries was es t f e i =
    before_same was entries (length es) (sym e ∙ (t.counted ∙ (length_drop k (items m h n) t.ascending ∙ ap₂ (λ (x : List Pair) (y : Option ℕ). count_before (length x) y) (sym i) (sym f))))

-- the root keeps a key, or it is a leaf
pub root_stays : (m w : Store) (t : Tree) (k entries : ℕ) (s : Shrunk) → IsTree m t → RemovesUnder m w (t.height - 1) t.root k s → t.entries ≡ count_before entries s.was
    → (1 ≤ t.height - 1 → 1 ≤ size_of (node w t.root)) → Removed m w t (record t { entries = entries }) k s.was
root_stays m w t k entries s tree r e top =
    let h : ℕ = t.height - 1 in
    let n : ℕ = t.root in
    let a = r.alters in
    let old : all_items m h (n ∷ []) ≡ items m h n = one_items m h n in
    let new : items w h n ≡ alter k [] (items m h n) = sym (one_items w h n) ∙ (a.items ∙ ap (λ (x : List Pair). alter k [] x) old) in
    let found : s.was ≡ find_item k (items m h n) = a.found ∙ ap (λ (x : List Pair). find_item k x) old in
    let A : List Pair → Type 0 = λ x. Ascending x in
    let P : List (ℕ × ℕ) → Type 0 = λ ls. Path tree.at.chain.0 ls 0 in
    let at : IsTreeAt w h n entries = record {
      sound = a.change.sound.0;
      top = top;
      owns = owns_after m w h (n ∷ []) (n ∷ []) a.change tree.at.owns;
      ascending = subst A (sym new) (Ascending-drop k (items m h n) tree.at.ascending);
      chain = (tree.at.chain.0, subst P (one_links w h n) (a.change.linked tree.at.chain.0 0 (subst P (sym (one_links m h n)) tree.at.chain.1)));
      counted = counts m h n k t.entries entries s.was (items w h n) tree.at found e new;
    } in
    let tall = tree.tall in
    let hh : (h + 1) - 2 ≡ t.height - 2 = omega arith in
    record {
      tree = record { tall = tall; at = at; many = λ l. omega (arith, many w h n entries at (omega arith), ap (λ (x : ℕ). 126 * 85 ^ x) hh) };
      items = new;
      found = found;
      keeps = keeps_of m w (pages m h n) (pages w h n)
          (λ q x y. a.change.frame q x (omega (arith, one_pages m h q n)))
          (λ q. omega (arith, a.change.moved q, one_pages m h q n, one_pages w h q n));
    }

-- one level lower: the only child of the root
record Lower (w x : Store) (h n c : ℕ) : Type 0 where
  pub filled : Filled w h c
  pub stays : Stays w x h c
  pub items : Rattle.code_btree.specs.Tree.items w (suc h) n ≡ Rattle.code_btree.specs.Tree.items w h c
  pub links : Rattle.code_btree.specs.Tree.links w (suc h) n ≡ Rattle.code_btree.specs.Tree.links w h c
  pub pages : (q : ℕ) → times q (Rattle.code_btree.specs.Tree.pages w (suc h) n) ≡ same q n + times q (Rattle.code_btree.specs.Tree.pages w h c)

lower : (w x : Store) (h n c : ℕ) → Sound w (suc h) n → Owns w (suc h) (n ∷ []) → node w n ≡ inner [] (c ∷ []) → Freed w x n → Lower w x h n c
lower w x h n c s o e f =
    let kids : child_pages (node w n) ≡ c ∷ [] = ap (λ (y : Node). child_pages y) e in
    let F : List ℕ → Type 0 = λ cs. Each (λ d. Filled w h d) cs in
    let pgs : (q : ℕ) → times q (pages w (suc h) n) ≡ same q n + times q (pages w h c) = λ q. ap (λ (cs : List ℕ). same q n + times q (all_pages w h cs)) kids
    ∙ ap (λ (ps : List ℕ). same q n + times q ps) (append-nil (pages w h c)) in
    record {
      filled = (subst F kids s.1).0;
      stays = tree_stays w x h c (λ q l. f.others q (omega (arith, l, o q, one_pages w (suc h) q n, pgs q, live_small w q)));
      items = ap (λ (cs : List ℕ). all_items w h cs) kids ∙ one_items w h c;
      links = ap (λ (cs : List ℕ). all_links w h cs) kids ∙ one_links w h c;
      pages = pgs;
    }

freed_live : (w x : Store) (n q : ℕ) → Freed w x n → live w q ≡ live x q + same q n
freed_live w x n q f = elim (same_cases q n) [
  | inl i ↦ omega (arith, i.0, f.before, live_none x n f.now, ap (λ (y : ℕ). live w y) i.1, ap (λ (y : ℕ). live x y) i.1)
  | inr i ↦ omega (arith, i.0, live_same w x q (f.others q i.0))
]

-- the root has no key left: its only child is the new root
pub root_falls : (m w x : Store) (t : Tree) (k entries height c : ℕ) (s : Shrunk) → IsTree m t → RemovesUnder m w (t.height - 1) t.root k s
    → t.entries ≡ count_before entries s.was → node w t.root ≡ inner [] (c ∷ []) → Freed w x t.root → t.height ≡ height + 1 → 1 ≤ height
    → Removed m x t (record { root = c; height = height; entries = entries }) k s.was
root_falls m w x t k entries height c s tree r0 e lone_node f eh tall =
    let h : ℕ = height - 1 in
    let n : ℕ = t.root in
    let level : t.height - 1 ≡ suc h = omega arith in
    let R : ℕ → Type 0 = λ l. RemovesUnder m w l n k s in
    let T : ℕ → Type 0 = λ l. IsTreeAt m l n t.entries in
    let r : RemovesUnder m w (suc h) n k s = subst R level r0 in
    let tr : IsTreeAt m (suc h) n t.entries = subst T level tree.at in
    let a = r.alters in
    let old : all_items m (suc h) (n ∷ []) ≡ items m (suc h) n = one_items m (suc h) n in
    let mid : items w (suc h) n ≡ alter k [] (items m (suc h) n) = sym (one_items w (suc h) n) ∙ (a.items ∙ ap (λ (y : List Pair). alter k [] y) old) in
    let found : s.was ≡ find_item k (items m (suc h) n) = a.found ∙ ap (λ (y : List Pair). find_item k y) old in
    let owned : Owns w (suc h) (n ∷ []) = owns_after m w (suc h) (n ∷ []) (n ∷ []) a.change tr.owns in
    let lo = lower w x h n c a.change.sound.0 owned lone_node f in
    let new : items x h c ≡ alter k [] (items m (suc h) n) = lo.stays.items ∙ (sym lo.items ∙ mid) in
    let A : List Pair → Type 0 = λ y. Ascending y in
    let P : List (ℕ × ℕ) → Type 0 = λ ls. Path tr.chain.0 ls 0 in
    let at : IsTreeAt x h c entries = record {
      sound = lo.stays.sound lo.filled.0;
      top = λ l. omega (arith, few_some h, lo.filled.1, ap (λ (y : Node). size_of y) lo.stays.node);
      owns = λ q. omega (arith, one_pages x h q c, ap (λ (ps : List ℕ). times q ps) lo.stays.pages, owned q, one_pages w (suc h) q n, lo.pages q, freed_live w x n q f);
      ascending = subst A (sym new) (Ascending-drop k (items m (suc h) n) tr.ascending);
      chain = (tr.chain.0, subst P (sym (lo.stays.links ∙ sym lo.links)) (subst P (one_links w (suc h) n) (a.change.linked tr.chain.0 0 (subst P (sym (one_links m (suc h) n)) tr.chain.1))));
      counted = counts m (suc h) n k t.entries entries s.was (items x h c) tr found e new;
    } in
    let hh : (h + 1) - 2 ≡ height - 2 = omega arith in
    let I : ℕ → Type 0 = λ l. items x h c ≡ alter k [] (items m l n) in
    let G : ℕ → Type 0 = λ l. s.was ≡ find_item k (items m l n) in
    let K : ℕ → Type 0 = λ l. Keeps m x (pages m l n) (pages x h c) in
    record {
      tree = record { tall = tall; at = at; many = λ l. omega (arith, many x h c entries at (omega arith), ap (λ (y : ℕ). 126 * 85 ^ y) hh) };
      items = subst I (sym level) new;
      found = subst G (sym level) found;
      keeps = subst K (sym level) (keeps_of m x (pages m (suc h) n) (pages x h c)
          (λ q y z. f.others q (omega (arith, z)) ∙ a.change.frame q y (omega (arith, z, one_pages m (suc h) q n)))
          (λ q. omega (arith, a.change.moved q, one_pages m (suc h) q n, one_pages w (suc h) q n, lo.pages q, ap (λ (ps : List ℕ). times q ps) lo.stays.pages, freed_live w x n q f)));
    }

-- the only child of a page with no key, as it is read
pub lone : (p : List ℕ) → IsInnerOf p 0 → node_of p ≡ inner [] (child_in p 0 ∷ [])
lone p is = is.is_inner ∙ ap₂ (λ (x y : List ℕ). inner x y) (no_key (keys_of (node_of p)) is.counted)
    (one_child (child_pages (node_of p)) (child_in p 0) (omega (arith, is.children)) (child_is p 0 0 is (omega arith)))
  where
    no_key : (ks : List ℕ) → length ks ≡ 0 → ks ≡ []
    no_key [] e = refl
    no_key (k ∷ ks) e = absurd (omega arith)

    one_child : (cs : List ℕ) (c : ℕ) → length cs ≡ 1 → Rattle.std.proofs.Common.get_or cs 0 0 ≡ c → cs ≡ c ∷ []
    one_child [] c e f = absurd (omega arith)
    one_child (x ∷ []) c e f = ap (λ (y : ℕ). y ∷ []) f
    one_child (x ∷ (y ∷ ys)) c e f = absurd (omega arith)

-- the root that wasn't found to fall has a key
pub root_top : (w : Store) (h n : ℕ) (short : Bool) → (short ≡ false → few h ≤ size_of (node w n)) → (short ≡ true → 1 ≤ h → 1 ≤ size_of (node w n)) → 1 ≤ h → 1 ≤ size_of (node w n)
root_top w h n true f g l = g refl l
root_top w h n false f g l = omega (arith, few_some h, f refl)

-- in the code's words
pub remove_stays : (m w v : Store) (t : Tree) (k entries : ℕ) (s : Shrunk) → v ≡ w → IsTree m t → RemovesUnder m w (t.height - 1) t.root k s
    → t.entries ≡ count_before entries s.was → FallsTo w t.height t.root s.short None → Removed m v t (record t { entries = entries }) k s.was
remove_stays m w v t k entries s e tree r c f =
    let P : Store → Type 0 = λ y. Removed m y t (record t { entries = entries }) k s.was in
    subst P (sym e) (root_stays m w t k entries s tree r c (λ l. root_top w (t.height - 1) t.root s.short r.filled (λ b i. f b (omega arith)) l))

pub remove_falls : (m w v x : Store) (t : Tree) (k entries c : ℕ) (s : Shrunk) → v ≡ w → IsTree m t → RemovesUnder m w (t.height - 1) t.root k s
    → t.entries ≡ count_before entries s.was → FallsTo w t.height t.root s.short (Some c) → Freed v x t.root
    → Removed m x t (record { root = c; height = t.height - 1; entries = entries }) k s.was
remove_falls m w v x t k entries c s e tree r n f fr =
    let P : Store → Type 0 = λ y. Freed y x t.root in
    let tall = f.0 in
    root_falls m w x t k entries (t.height - 1) c s tree r n f.1 (subst P e fr) (omega (arith, tall)) (omega (arith, tall))

pub falls_lone : (m : Store) (height n count c : ℕ) (short : Bool) (p : List ℕ) → m n ≡ Some p → IsInnerOf p count → count ≤ 0 → 2 ≤ height → c ≡ child_in p 0 → FallsTo m height n short (Some c)
falls_lone m height n count c short p e is z tall i =
    let none : count ≡ 0 = omega arith in
    let I : ℕ → Type 0 = λ x. IsInnerOf p x in
    (tall, here m n p e ∙ (lone p (subst I none is) ∙ ap (λ (x : ℕ). inner [] (x ∷ [])) (sym i)))

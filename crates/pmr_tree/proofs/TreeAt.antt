-- The tree that keys stand for is the one whose keys they are; and what a change at the root makes of it.
use Rattle.std.proofs.Common.{◌≡◌, ℕ, zero, suc, ◌+◌, ◌<◌, ◌≤◌, Bool, true, false, cond, not, List, [], ◌∷◌, ◌++◌, map, refl, sym, ◌∙◌, ap, subst, arith}
use Rattle.std.specs.Prelude.{nat_lt}
use Rattle.std.proofs.lemmas.Bool.Decides.{nat_tests}
use Rattle.page_pool.specs.Disk.{PageMap}
use Rattle.sand_base.specs.declared.TheConstants.{COORDINATE_BITS}
use Rattle.z_code.specs.Block.{child}
use Rattle.z_code.specs.declared.block.Block.{Block}
use Rattle.sand_model.specs.Tree.{Tree, Leaf, Inner, root_block, Fits, IsShallow}
use Rattle.pmr_tree.specs.Lists.{Each}
use Rattle.pmr_tree.specs.Keys.{key_of, leaf_keys, keys, is_inside, keys_within, outside, own, id_in, ids_in, IsId, IsShaped, ReadsKeys}
use Rattle.pmr_tree.specs.Leaves.{firsts}
use Rattle.pmr_tree.specs.Listing.{Pair}
use Rattle.pmr_tree.specs.Changes.{KeysStand, Becomes}
use Rattle.pmr_tree.specs.Quadtree.{quadtree_entries, keys_at, tree_in, tree_at, IsPmr, is_inner_place}
use Rattle.pmr_tree.specs.declared.quadtree.Pmr.{Pmr}
use Rattle.pmr_tree.proofs.AscendingLists.{each_map, each_filter, filter_all, filter_none, each_append}
use Rattle.pmr_tree.proofs.KeyLists.{keys_inside, own_leaf, own_inner, reads_children}
use Rattle.pmr_tree.proofs.Entries.{ids_leaf, id_in_key}
use Rattle.pmr_tree.proofs.PairLists.{firsts_rise}

some_inner : (ks : List ℕ) (k : ℕ) (more : List ℕ) → ks ≡ k ∷ more → is_inner_place ks ≡ false
some_inner ks k more e = ap is_inner_place e

leaf_some : (b : Block) (ids : List ℕ) → is_inner_place (leaf_keys b ids) ≡ false
leaf_some b [] = refl
leaf_some b (id ∷ ids) = refl

-- keys of a leaf are read as the leaf
read_leaf : (b : Block) (ks ids : List ℕ) → ReadsKeys b ks (Leaf ids) → ids_in (own b ks) ≡ ids
read_leaf b ks ids r = ap ids_in (own_leaf b ks ids r) ∙ ids_leaf b ids r.shaped.1.1

inner_same : (p q r s p' q' r' s' : Tree) → p ≡ p' → q ≡ q' → r ≡ r' → s ≡ s' → Inner p q r s ≡ Inner p' q' r' s'
inner_same p q r s p' q' r' s' a b c d = cc

pub tree_reads : (levels : ℕ) (b : Block) (ks : List ℕ) (t : Tree) → levels + b.level ≡ COORDINATE_BITS → ReadsKeys b ks t → tree_in levels b ks ≡ t
unfolding tree_in
tree_reads zero b ks (Leaf ids) e r = ap Leaf (read_leaf b ks ids r)
tree_reads zero b ks (Inner p q u v) e r = absurd (omega (arith, e, r.shaped.0))
tree_reads (suc levels) b ks (Leaf ids) e r =
    let some : is_inner_place (own b ks) ≡ false = ap is_inner_place (own_leaf b ks ids r) ∙ leaf_some b ids in
    rw some (ap Leaf (read_leaf b ks ids r))
tree_reads (suc levels) b ks (Inner p q u v) e r =
    let none : is_inner_place (own b ks) ≡ true = ap is_inner_place (own_inner b ks p q u v r) in
    let parts = reads_children b ks p q u v r in
    let next : levels + (b.level + 1) ≡ COORDINATE_BITS = omega (arith, e) in
    rw none
    (inner_same (tree_in levels (child b 0) ks) (tree_in levels (child b 1) ks) (tree_in levels (child b 2) ks) (tree_in levels (child b 3) ks) p q u v
    (tree_reads levels (child b 0) ks p next parts.first) (tree_reads levels (child b 1) ks q next parts.second) (tree_reads levels (child b 2) ks u next parts.third)
    (tree_reads levels (child b 3) ks v next parts.fourth))

pub tree_is : (pages : PageMap) (t : Pmr) (tree : Tree) → ReadsKeys root_block (keys_at pages t) tree → tree_at pages t ≡ tree
unfolding tree_at
tree_is pages t tree r = tree_reads COORDINATE_BITS root_block (keys_at pages t) tree refl r

-- all keys of a quadtree are those of its tree, inside the root
pub pmr_reads : (pages : PageMap) (t : Pmr) → IsPmr pages t → ReadsKeys root_block (keys_at pages t) (tree_at pages t)
pmr_reads pages t h = record {
  is = ap (keys_within root_block) h.keys ∙ filter_all (is_inside root_block) (keys root_block (tree_at pages t)) (keys_inside root_block (tree_at pages t) h.shaped) ∙ sym refl;
  shaped = h.shaped;
}

none_outside : (b : Block) (ks : List ℕ) → Each (λ k. is_inside b k ≡ true) ks → outside b ks ≡ []
none_outside b ks h = filter_none (λ k. not (is_inside b k)) ks (each_map (λ k. is_inside b k ≡ true) (λ k. not (is_inside b k) ≡ false) (λ k e. ap not e) ks h)

pub pmr_outside : (pages : PageMap) (t : Pmr) → IsPmr pages t → outside root_block (keys_at pages t) ≡ []
pmr_outside pages t h = ap (outside root_block) h.keys ∙ none_outside root_block (keys root_block (tree_at pages t)) (keys_inside root_block (tree_at pages t) h.shaped)

pub pmr_stands : (pages : PageMap) (t : Pmr) → IsPmr pages t → KeysStand root_block (keys_at pages t)
pmr_stands pages t h = record { rises = firsts_rise (quadtree_entries pages t) h.entries.at.ascending; tree = tree_at pages t; reads = pmr_reads pages t h }

-- with nothing outside a block all is inside
all_inside : (b : Block) (ks : List ℕ) → outside b ks ≡ [] → keys_within b ks ≡ ks
all_inside b [] h = refl
all_inside b (k ∷ ks) h =
    let go : (c : Bool) → is_inside b k ≡ c → cond (not c) (k ∷ outside b ks) (outside b ks) ≡ [] → cond c (k ∷ keys_within b ks) (keys_within b ks) ≡ k ∷ ks =
    elim [ true ↦ λ e z. ap (λ t. k ∷ t) (all_inside b ks z) | false ↦ λ e z. absurd (some_none z) ] in
    go (is_inside b k) refl h
  where
    some_none : {A : Type 0} {x : A} {xs : List A} → x ∷ xs ≡ [] → ⊥
    some_none e = cc

-- what a change at the root makes of a quadtree
pub record Changed (old : PageMap) (t : Pmr) (new : PageMap) (u : Pmr) (tree : Tree) : Type 0 where
  pub tree_is : tree_at new u ≡ tree
  pub keys : keys_at new u ≡ keys root_block (tree_at new u)
  pub shaped : IsShaped root_block (tree_at new u)

pub changed : (old : PageMap) (t : Pmr) (new : PageMap) (u : Pmr) (change : Tree → Tree) → IsPmr old t → Becomes root_block change (keys_at old t) (keys_at new u)
    → Changed old t new u (change (tree_at old t))
changed old t new u change h becomes =
    let reads = becomes.here (tree_at old t) (pmr_reads old t h) in
    let is = tree_is new u (change (tree_at old t)) reads in record {
      tree_is = is;
      keys = sym (all_inside root_block (keys_at new u) (becomes.elsewhere ∙ pmr_outside old t h)) ∙ reads.is ∙ ap (keys root_block) (sym is);
      shaped = subst (IsShaped root_block) (sym is) reads.shaped;
    }

less_true : (x y : ℕ) → x < y → nat_lt x y ≡ true
less_true x y h = grind (arith, nat_tests)

-- no place of a shaped tree is below the finest level
pub shaped_shallow : (b : Block) (t : Tree) → IsShaped b t → IsShallow b t
shaped_shallow b (Leaf ids) h = tt
shaped_shallow b (Inner p q r s) h = (
  less_true b.level COORDINATE_BITS h.0,
  (shaped_shallow (child b 0) p h.1.0, (shaped_shallow (child b 1) q h.1.1.0, (shaped_shallow (child b 2) r h.1.1.1.0, shaped_shallow (child b 3) s h.1.1.1.1))),
)

-- what holds of all ids that a tree fits holds of those in its keys
each_keys : (P : ℕ → Type 0) (b : Block) (ids : List ℕ) → Each IsId ids → Each P ids → Each (λ k. 1 ≤ id_in k → P (id_in k)) (map (key_of b) ids)
each_keys P b [] i h = tt
each_keys P b (id ∷ ids) i h = ((λ some. subst P (sym (id_in_key b id i.0.small)) h.0), each_keys P b ids i.1 h.1)

pub fitted_keys : (P : ℕ → Type 0) (m : Block → ℕ → Bool) (rows : List ℕ) → Each P rows → (b : Block) (t : Tree) → IsShaped b t → Fits m rows b t → Each (λ k. 1 ≤ id_in k → P (id_in k)) (keys b t)
fitted_keys P m rows h b (Leaf []) sh fit = ((λ some. absurd (omega (arith, some, id_in_key b 0 (omega arith)))), tt)
fitted_keys P m rows h b (Leaf (id ∷ ids)) sh fit = each_keys P b (id ∷ ids) sh.1.1 (subst (Each P) (sym fit) (each_filter P (m b) rows h))
fitted_keys P m rows h b (Inner p q r s) sh fit =
    let Q : ℕ → Type 0 = λ k. 1 ≤ id_in k → P (id_in k) in
    each_append Q (keys (child b 0) p) (keys (child b 1) q ++ (keys (child b 2) r ++ keys (child b 3) s)) (fitted_keys P m rows h (child b 0) p sh.1.0 fit.0)
    (each_append Q (keys (child b 1) q) (keys (child b 2) r ++ keys (child b 3) s) (fitted_keys P m rows h (child b 1) q sh.1.1.0 fit.1.0)
    (each_append Q (keys (child b 2) r) (keys (child b 3) s) (fitted_keys P m rows h (child b 2) r sh.1.1.1.0 fit.1.1.0) (fitted_keys P m rows h (child b 3) s sh.1.1.1.1 fit.1.1.1)))

-- from keys to entries
pub each_firsts : (P : ℕ → Type 0) (es : List Pair) → Each P (firsts es) → Each (λ e. P e.0) es
each_firsts P [] h = tt
each_firsts P (e ∷ es) h = (h.0, each_firsts P es h.1)

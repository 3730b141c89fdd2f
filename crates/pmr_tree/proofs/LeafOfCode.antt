-- The leaf that has a code is the one of the greatest key up to the last that such a leaf may have.
use Rattle.std.proofs.Common.{◌≡◌, ℕ, ◌+◌, ◌*◌, ◌/◌, ◌%◌, ◌^◌, ◌<◌, ◌≤◌, true, false, not, List, [], ◌∷◌, ◌++◌, map, refl, sym, ◌∙◌, ap, subst, arith}
use Rattle.std.specs.Prelude.{Option, Some, filter, nat_eq, nat_lt, min}
use Rattle.std.proofs.lemmas.Bool.Decides.{nat_tests}
use Rattle.page_pool.specs.Disk.{PageMap}
use Rattle.code_btree.specs.Items.{last_item, items_upto, floor_item}
use Rattle.sand_base.specs.declared.TheConstants.{COORDINATE_BITS}
use Rattle.z_code.specs.Block.{IsBlock, HasCode}
use Rattle.z_code.specs.declared.block.Block.{Block}
use Rattle.z_code.proofs.Blocks.{same_block}
use Rattle.sand_model.specs.Tree.{Leaf, root_block, IsPlace}
use Rattle.pmr_tree.specs.Lists.{Each}
use Rattle.pmr_tree.specs.Keys.{key_of, id_in, ids_in}
use Rattle.pmr_tree.specs.Leaves.{firsts, own_pairs, last_key, level_in, ids_at}
use Rattle.pmr_tree.specs.Listing.{Pair}
use Rattle.pmr_tree.specs.Quadtree.{quadtree_entries, keys_at, tree_at, IsPmr}
use Rattle.pmr_tree.specs.declared.quadtree.Pmr.{Pmr}
use Rattle.pmr_tree.proofs.Entries.{ids_leaf}
use Rattle.pmr_tree.proofs.Looked.{own_of}
use Rattle.pmr_tree.proofs.Places.{place_reads}
use Rattle.pmr_tree.proofs.TreeAt.{pmr_reads}
use Rattle.pmr_tree.proofs.CodeInQuarter.{leaf_of}

-- the floor of a bound is the pair of the last key up to it
above_true : (bound j : ℕ) → bound < j → nat_lt bound j ≡ true
above_true bound j h = grind (arith, nat_tests)

upto_false : (bound j : ℕ) → j ≤ bound → nat_lt bound j ≡ false
upto_false bound j h = grind (arith, nat_tests)

upto_none : (bound : ℕ) (es : List Pair) → Each (λ j. bound < j) (firsts es) → items_upto bound es ≡ []
upto_none bound [] h = refl
upto_none bound (e ∷ es) h = (let yes = above_true bound e.0 h.0 in rw yes (upto_none bound es h.1))

last_more : (x e : Pair) (es : List Pair) → last_item es ≡ Some e → last_item (x ∷ es) ≡ Some e
last_more x e [] h = absurd (cc)
last_more x e (y ∷ es) h = h

first_is : (e : Pair) (es : List Pair) (k : ℕ) (ks : List ℕ) → firsts (e ∷ es) ≡ k ∷ ks → (e.0 ≡ k) × (firsts es ≡ ks)
first_is e es k ks h = (cc, cc)

floor_of : (bound k : ℕ) (before behind : List ℕ) (es : List Pair) → firsts es ≡ before ++ (k ∷ behind) → Each (λ j. j ≤ bound) before → k ≤ bound → Each (λ j. bound < j) behind
    → (e : Pair) × ((floor_item bound es ≡ Some e) × (e.0 ≡ k))
floor_of bound k [] behind [] is h at up = absurd (cc)
floor_of bound k (j ∷ before) behind [] is h at up = absurd (cc)
floor_of bound k [] behind (e ∷ es) is h at up =
    let parts = first_is e es k behind is in
    let here : nat_lt bound e.0 ≡ false = upto_false bound e.0 (omega (arith, parts.0, at)) in
    let none = upto_none bound es (subst (Each (λ j. bound < j)) (sym parts.1) up) in
    (e, (rw (here, none) refl, parts.0))
floor_of bound k (j ∷ before) behind (e ∷ es) is h at up =
    let parts = first_is e es j (before ++ (k ∷ behind)) is in
    let here : nat_lt bound e.0 ≡ false = upto_false bound e.0 (omega (arith, parts.0, h.0)) in
    let more = floor_of bound k before behind es parts.1 h.1 at up in
    (more.0, (rw here (last_more e more.0 (items_upto bound es) more.1.0), more.1.1))

-- the level in a key
level_is : (b : Block) (id : ℕ) → b.level ≤ COORDINATE_BITS → id < 2 ^ 32 → min (key_of b id / 2 ^ 32 % 256) COORDINATE_BITS ≡ b.level
level_is b id h s = omega (arith, h, s)

root_code : (z : ℕ) → z < 2 ^ (2 * COORDINATE_BITS) → HasCode root_block z
root_code z h = record { from_first = omega arith; below_next = h }

root_is_block : IsBlock root_block
root_is_block = record { in_tree = omega arith; in_plane = omega arith; aligned = refl }

map_firsts : (es : List Pair) → map (λ e. id_in e.0) es ≡ map id_in (firsts es)
map_firsts [] = refl
map_firsts (e ∷ es) = ap (λ t. id_in e.0 ∷ t) (map_firsts es)

-- the block of that level with the code is a leaf, and its own entries have its ids
pub found_leaf : (pages : PageMap) (t : Pmr) (z key : ℕ) (found : Option Pair) (b : Block) (pairs : List Pair) (ids : List ℕ) → IsPmr pages t → z < 2 ^ (2 * COORDINATE_BITS)
    → key ≡ last_key z → found ≡ floor_item key (quadtree_entries pages t) → IsBlock b → HasCode b z → b.level ≡ level_in found
    → pairs ≡ own_pairs b (quadtree_entries pages t) → ids ≡ ids_at pairs → IsPlace (tree_at pages t) b (Leaf ids)
found_leaf pages t z key found b pairs ids h small key_is is isb code level own_is ids_is =
    let l = leaf_of z root_block (tree_at pages t) root_is_block (root_code z small) h.shaped in
    let f = floor_of (last_key z) (key_of l.block l.id) l.last.before l.last.behind (quadtree_entries pages t) (h.keys ∙ l.last.is) l.last.below l.last.at l.last.above in
    let last : level_in found ≡ min (f.0.0 / 2 ^ 32 % 256) COORDINATE_BITS = ap level_in (is ∙ ap (λ k. floor_item k (quadtree_entries pages t)) key_is ∙ f.1.0) in
    let at : level_in found ≡ l.block.level = last ∙ ap (λ k. min (k / 2 ^ 32 % 256) COORDINATE_BITS) f.1.1 ∙ level_is l.block l.id l.is_block.in_tree l.small in
    let same : b ≡ l.block = same_block b l.block isb l.is_block (level ∙ at) z code l.code in
    let place : IsPlace (tree_at pages t) b (Leaf l.ids) = subst (λ x. IsPlace (tree_at pages t) x (Leaf l.ids)) (sym same) l.place in
    let r = place_reads root_block (keys_at pages t) (tree_at pages t) (pmr_reads pages t h) b (Leaf l.ids) place in
    let listed : ids ≡ l.ids = ids_is
    ∙ ap ids_at own_is
    ∙ ap (filter (λ i. not (nat_eq i 0))) (map_firsts (own_pairs b (quadtree_entries pages t)))
    ∙ ap ids_in (own_of b (quadtree_entries pages t) l.ids r)
    ∙ ids_leaf b l.ids r.shaped.1.1 in
    subst (λ x. IsPlace (tree_at pages t) b (Leaf x)) (sym listed) place

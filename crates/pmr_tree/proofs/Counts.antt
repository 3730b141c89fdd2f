-- The number of entries is that of listings.
use Rattle.std.proofs.Common.{◌≡◌, ◌+◌, List, [], ◌∷◌, ◌++◌, length, map, refl, sym, ◌∙◌, ap, ap₂, arith}
use Rattle.page_pool.specs.Disk.{PageMap}
use Rattle.z_code.specs.Block.{child}
use Rattle.z_code.specs.declared.block.Block.{Block}
use Rattle.sand_model.specs.Tree.{Tree, Leaf, Inner, listings}
use Rattle.pmr_tree.specs.Keys.{key_of, keys}
use Rattle.pmr_tree.specs.Quadtree.{quadtree_entries, tree_at, IsPmr}
use Rattle.pmr_tree.specs.declared.quadtree.Pmr.{Pmr}

length_map : {A B : Type 0} (f : A → B) (xs : List A) → length (map f xs) ≡ length xs
length_map f [] = refl
length_map f (x ∷ xs) = omega (arith, length_map f xs)

length_append : {A : Type 0} (xs ys : List A) → length (xs ++ ys) ≡ length xs + length ys
length_append [] ys = omega arith
length_append (x ∷ xs) ys = omega (arith, length_append xs ys)

pub count_keys : (b : Block) (t : Tree) → length (keys b t) ≡ listings t
count_keys b (Leaf []) = refl
count_keys b (Leaf (id ∷ ids)) = (let e = length_map (key_of b) ids in omega (arith, e))
count_keys b (Inner p q r s) =
    let kp = keys (child b 0) p in
    let kq = keys (child b 1) q in
    let kr = keys (child b 2) r in
    let ks = keys (child b 3) s in
    length_append kp (kq ++ (kr ++ ks))
    ∙ ap₂ (λ x y. x + y) (count_keys (child b 0) p)
    (length_append kq (kr ++ ks) ∙ ap₂ (λ x y. x + y) (count_keys (child b 1) q) (length_append kr ks ∙ ap₂ (λ x y. x + y) (count_keys (child b 2) r) (count_keys (child b 3) s)))

pub entries_are_listings : (pages : PageMap) (t : Pmr) → IsPmr pages t → t.map.entries ≡ listings (tree_at pages t)
entries_are_listings pages t h =
    h.entries.at.counted ∙ sym (length_map (λ e. e.0) (quadtree_entries pages t)) ∙ ap length h.keys ∙ count_keys (record { z = 0; level = 0 }) (tree_at pages t)

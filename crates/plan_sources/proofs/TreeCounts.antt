-- How many places and items a quadtree has, by its listings.
use Rattle.std.proofs.Common.{◌≡◌, ℕ, ◌+◌, ◌*◌, ◌≤◌, List, ◌++◌, length, length-append, filter_map, flat_map, ap, ◌∙◌, arith, append-nil}
use Rattle.std.proofs.lemmas.List.Concat.{flat_map-append}
use Rattle.sand_base.specs.declared.goal.Goal.{Goal}
use Rattle.sand_base.specs.declared.shape.Shape.{Shape}
use Rattle.z_code.specs.Block.{child}
use Rattle.z_code.specs.declared.block.Block.{Block}
use Rattle.sand_model.specs.Measure.{Measure}
use Rattle.sand_model.specs.Nodes.{LeafItem, single_item}
use Rattle.sand_model.specs.Tree.{Tree, Leaf, Inner, places, leaves, listings}
use Rattle.plan_sources.proofs.Shorter.{fewer_mapped}

-- four lists one behind the other
long_four : {A : Type 0} (ws xs ys zs : List A) → length (ws ++ (xs ++ (ys ++ zs))) ≡ length ws + (length xs + (length ys + length zs))
long_four ws xs ys zs =
    length-append ws (xs ++ (ys ++ zs)) ∙ ap (λ n. length ws + n) (length-append xs (ys ++ zs) ∙ ap (λ n. length xs + n) (length-append ys zs))

-- fewer places than twice the listings
pub few_places : (b : Block) (tree : Tree) → length (places b tree) + 1 ≤ 2 * listings tree
few_places b (Leaf ids) = omega arith
few_places b (Inner p q r s) =
    let one = few_places (child b 0) p in
    let two = few_places (child b 1) q in
    let three = few_places (child b 2) r in
    let four = few_places (child b 3) s in
    let all = long_four (places (child b 0) p) (places (child b 1) q) (places (child b 2) r) (places (child b 3) s) in
    omega (arith, one, two, three, four, all)

module _ (gap : Measure) (goal : Goal) (shapes : List (ℕ × Shape)) where
  -- the items of a leaf
  abbrev items_of : Block × List ℕ → List LeafItem
  items_of leaf = filter_map (single_item gap goal shapes leaf.0) leaf.1

  -- and those of four lists of leaves
  flat_four : (ws xs ys zs : List (Block × List ℕ)) → length (flat_map items_of (ws ++ (xs ++ (ys ++ zs))))
      ≡ length (flat_map items_of ws) + (length (flat_map items_of xs) + (length (flat_map items_of ys) + length (flat_map items_of zs)))
  flat_four ws xs ys zs =
      ap length (flat_map-append items_of ws (xs ++ (ys ++ zs))
      ∙ ap (λ l. flat_map items_of ws ++ l) (flat_map-append items_of xs (ys ++ zs) ∙ ap (λ l. flat_map items_of xs ++ l) (flat_map-append items_of ys zs)))
      ∙ long_four (flat_map items_of ws) (flat_map items_of xs) (flat_map items_of ys) (flat_map items_of zs)

  -- no more items than listings
  pub few_items : (b : Block) (tree : Tree) → length (flat_map items_of (leaves b tree)) ≤ listings tree
  few_items b (Leaf ids) =
      let same = ap length (append-nil (items_of (b, ids))) in
      let few = fewer_mapped (single_item gap goal shapes b) ids in
      omega (arith, same, few)
  few_items b (Inner p q r s) =
      let one = few_items (child b 0) p in
      let two = few_items (child b 1) q in
      let three = few_items (child b 2) r in
      let four = few_items (child b 3) s in
      let all = flat_four (leaves (child b 0) p) (leaves (child b 1) q) (leaves (child b 2) r) (leaves (child b 3) s) in
      omega (arith, one, two, three, four, all)

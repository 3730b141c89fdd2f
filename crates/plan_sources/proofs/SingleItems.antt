-- A ranking lists single objects alone, so that within the distance 0 it can be searched by ids.
use Rattle.std.proofs.Common.{◌≡◌, Bool, true, false, cond, map, All, Option, None, Some, sym, ap, subst}
use Rattle.std.proofs.lemmas.List.Elements.{All-nil}
use Rattle.z_code.specs.Block.{children_of}
use Rattle.z_code.specs.declared.block.Block.{Block}
use Rattle.sand_model.specs.Nodes.{LeafItem}
use Rattle.sand_model.specs.Tree.{Tree, Leaf, Inner}
use Rattle.best_first.proofs.Bags.{All-by}
use Rattle.best_first.specs.declared.item.Item.TheVariants.{Rough, Row}
use Rattle.best_first.specs.WithinZero.{IsSingle, IsWithinZero}
use Rattle.rank_cursor.proofs.Elements.{from_map}
use Rattle.rank_cursor.proofs.RankedItems.{shown_is}
use Rattle.rank_cursor.specs.Ranking.{Ranking, place_at, block_item, leaf_item, shown, found_at, rank_meaning}

-- an item of a leaf with the right id 0 is a single object, rough or exact
leaf_single : (item : LeafItem) → item.right ≡ 0 → IsSingle (leaf_item item)
leaf_single item e =
    let go : (b : Bool) → IsSingle {N = Block} (cond b (Rough item.gap item.left item.right) (Row item.gap item.left item.right)) = elim [ true ↦ e | false ↦ e ] in
    go item.is_rough

-- what a place finds
single_at : (r : Ranking) (b : Block) (o : Option Tree) → All IsSingle (found_at r b o)
single_at r b None = All-nil IsSingle
single_at r b (Some (Leaf ids)) =
    All-by IsSingle (map leaf_item (shown r b ids)) (λ x at.
    let (item, among, is) = from_map leaf_item (shown r b ids) x at in
    subst IsSingle is (leaf_single item (ap (λ (i : LeafItem). i.right) (sym (shown_is r b ids item among).is))))
single_at r b (Some (Inner p q s t)) =
    All-by IsSingle (map (block_item r) (children_of b)) (λ x at.
    let (child, among, is) = from_map (block_item r) (children_of b) x at in subst IsSingle is tt)

-- a ranking within the distance 0
pub within_zero : (r : Ranking) → r.ceiling ≡ Some 0 → IsWithinZero (rank_meaning r)
within_zero r e = record { ceiling = e; single = λ b. single_at r b (place_at r.tree b) }

-- both parts, one after the other
use Rattle.std.proofs.Common.{◌≤◌, List, length, sym, subst, arith}
use Rattle.std.specs.Prelude.{IsSome, Option, IsPermutation}
use Rattle.page_pool.specs.Disk.{PageMap}
use Rattle.code_btree.specs.Tree.{pages_in}
use Rattle.r_tree.specs.declared.entry.NodeEntry.{NodeEntry}
use Rattle.r_tree.proofs.Bags.{length-perm}
use Rattle.r_tree.proofs.Tilings.{tiled_two}
use Rattle.r_tree.proofs.build.+tile.Goals as goal

pub tile-requires : goal.tile-requires
tile-requires g t c κs within = (
  omega (arith, length-perm c.args.entries.now c.order.new.entries c.order.ensures, c.split_at_mut-left.ensures.front_len, c.tile_place-at.ensures.right),
  (within, c.requires.opened),
)

pub tile-requires-2 : goal.tile-requires-2
tile-requires-2 g t c κs within = (
  omega (arith, length-perm c.args.entries.now c.order.new.entries c.order.ensures, c.split_at_mut-left.ensures.back_len, c.tile_place-at.ensures.left),
  (within, opened),
)
  where
    opened : IsSome c.tile.new.pool.beginning
    opened = let P : Option PageMap → Type 0 = λ x. IsSome x in subst P (sym c.in_ok-tile.ensures.within.beginning) c.requires.opened

pub returns-clause-value : goal.returns-clause-value
returns-clause-value g t c =
    let left : List NodeEntry = c.split_at_mut-left.result.0.now in
    let right : List NodeEntry = c.split_at_mut-left.result.1.now in
    let P : List NodeEntry → Type 0 = λ x. IsPermutation c.args.entries.now x in
    let few_left : 50 ≤ length left = omega (arith, c.split_at_mut-left.ensures.front_len, c.tile_place-at.ensures.left) in
    let few_right : 50 ≤ length right = omega (arith, c.split_at_mut-left.ensures.back_len, length-perm c.args.entries.now c.order.new.entries c.order.ensures, c.tile_place-at.ensures.right) in
    tiled_two (pages_in c.args.pool.now) (pages_in c.tile.new.pool)
    (pages_in c.tile-2.new.pool) c.args.inner c.args.entries.now left right c.args.row.now.items c.tile.new.row.items c.tile-2.new.row.items
    (subst P c.split_at_mut-left.ensures.value c.order.ensures) few_left few_right c.in_ok-tile.ensures.value c.in_ok-tile-2.ensures.value

-- One more pair goes to the end.
use Rattle.std.proofs.Common.{refl, ◌∙◌, arith}
use Rattle.sand_base.specs.declared.rect.Rect.{Rect}
use Rattle.z_code.specs.declared.block.Block.{Block}
use Rattle.dist_join.specs.OverPages.{blocks_found}
use Rattle.rank_cursor.proofs.AlikeLists.{none_added, one_pushed}
use Rattle.dist_join.proofs.places.push_with.Goals as goal

pub rights-init : goal.rights-init
rights-init c = record { added = none_added c.args.found.now.items c.args.found.now.items refl; len = omega arith; capacity = refl }

pub rights-preserved : goal.rights-preserved
rights-preserved c =
    let before = c.rights.invariant.len in
    let one = c.push_reserved.ensures.len in
    record {
      added = one_pushed (λ (right : Block × Rect). blocks_found (c.args.left.0, right.0)) c.args.rights.now c.rights.right-index _
          c.args.found.now.items c.rights.found.items c.push_reserved.new.self.items c.pair_item.result c.rights-test.true c.rights.invariant.added c.pair_item.ensures c.push_reserved.ensures.items;
      len = omega arith;
      capacity = c.push_reserved.ensures.capacity ∙ c.rights.invariant.capacity;
    }

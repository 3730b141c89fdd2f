-- What one more entry gives goes to the end.
use Rattle.std.proofs.Common.{refl, ◌∙◌, arith}
use Rattle.sand_base.specs.declared.rough.Rough.TheVariants as rough
use Rattle.rank_cursor.proofs.AlikeLists.{none_added, one_added}
use Rattle.dist_join.specs.OverPages.{pair_found}
use Rattle.dist_join.proofs.entries.push_row.Goals as goal

pub rights-init : goal.rights-init
rights-init c = record { added = none_added c.args.found.now.items c.args.found.now.items refl; len = omega arith; capacity = refl }

pub rights-preserved : goal.rights-preserved
rights-preserved c =
    let before = c.rights.invariant.len in
    let one = c.push_entry.ensures.len in
    record {
      added = one_added (pair_found c.args.leaf c.args.left) c.args.rights.now c.rights.right-index (record { id = 0; rough = rough.Point (record { x = 0; y = 0 }) })
          c.args.found.now.items c.rights.found.items c.push_entry.new.found.items c.rights-test.true c.rights.invariant.added c.push_entry.ensures.added;
      len = omega arith;
      capacity = c.push_entry.ensures.capacity ∙ c.rights.invariant.capacity;
    }

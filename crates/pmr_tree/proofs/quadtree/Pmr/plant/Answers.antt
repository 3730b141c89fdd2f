-- The map is planted, and the mark of the root put.
use Rattle.std.proofs.Common.{◌∙◌}
use Rattle.pmr_tree.proofs.Planted.{plants}
use Rattle.pmr_tree.proofs.quadtree.Pmr.plant.Goals as goal

pub returns-clause-planted : goal.returns-clause-planted
returns-clause-planted g c = λ told.
    let i = c.in_ok-insert.ensures.value (c.in_ok-map.ensures.within.told ∙ told) in
    plants c.args.pool.now.pages c.plant.new.pool.pages c.insert.new.pool.pages (record { map = c.in_ok-map.map; threshold = c.args.threshold; number = c.args.number }) _
    (c.in_ok-map.ensures.value told) i.items i.tree i.keeps

-- The first of the members made the children, and the others came to them then.
use Rattle.std.proofs.Common.{◌+◌, refl}
use Rattle.pmr_build.specs.Parts.{PartsTake}
use Rattle.pmr_build.proofs.Children.{tells_here}
use Rattle.pmr_build.proofs.Divisions.{begun_are, more_are, divided_is}
use Rattle.pmr_build.proofs.divide.divided.Goals as goal

pub returns-clause-divided : goal.returns-clause-divided
returns-clause-divided g c = λ told m tells are.
    let rows = g.S.ShapeOf.rows c.args.shapes.now in
    let first = g.P.Pages.shown c.args.pages.now in
    let begun = c.split_at.result.0.now in
    let more = c.split_at.result.1.now in
    let mid = c.divide.new.parts in
    divided_is m c.args.threshold c.args.block c.args.most c.args.list.now begun more (record { first = c.new.result; second = c.new-2.result; third = c.new-3.result; fourth = c.new-4.result })
    mid c.divide-2.new.parts c.mosts_of-mosts.result c.split_at.ensures.front c.split_at.ensures.back
    (record { first = c.new.ensures.items; second = c.new-2.ensures.items; third = c.new-3.ensures.items; fourth = c.new-4.ensures.items })
    (c.in_ok-divide.ensures.taken told m tells (begun_are (rows first.pages) m c.args.block (c.args.most + 1) c.args.list.now begun c.split_at.ensures.front are))
    c.mosts_of-mosts.ensures
    (tells_here rows first (g.P.Pages.shown c.divide.new.pages) (λ k b list. PartsTake k b list mid c.divide-2.new.parts) c.args.block c.args.block more more
    c.in_ok-divide.ensures.read refl refl c.in_ok-divide-2.ensures.taken told m tells
    (more_are (rows first.pages) m c.args.block (c.args.most + 1) c.args.list.now more c.split_at.ensures.back are))

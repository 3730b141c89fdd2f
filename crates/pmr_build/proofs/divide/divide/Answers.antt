-- one member more comes to its parts, and nothing changes
use Rattle.std.proofs.Common.{◌<◌, length, refl, sym, ◌∙◌, subst, arith}
use Rattle.page_pool.specs.Disk.{PageMap}
use Rattle.page_pool.specs.Steps.{IsRead-refl, IsRead-trans}
use Rattle.pmr_build.proofs.Divisions.{parts_start, taken_step, parts_end}
use Rattle.pmr_build.proofs.divide.divide.Goals as goal

pub members-init : goal.members-init
members-init g c = record { read = IsRead-refl (g.P.Pages.shown c.args.pages.now); counted = refl; taken = λ told m tells are. parts_start m c.args.block c.args.parts.now }

pub quarters_met-requires-clause-stands : goal.quarters_met-requires-clause-stands
quarters_met-requires-clause-stands g c = λ told.
    let P : PageMap → Type 0 = λ p. g.S.ShapeOf.Stands c.args.shapes.now p in
    subst P (sym c.members.invariant.read.pages) (c.requires.stands (sym c.members.invariant.read.told ∙ told))

pub members-preserved : goal.members-preserved
members-preserved g c =
    let here = c.members.invariant in
    let lt : c.members.member-index < length c.args.list.now = omega arith in record {
      read = IsRead-trans (g.P.Pages.shown c.args.pages.now) (g.P.Pages.shown c.members.pages) (g.P.Pages.shown c.quarters_met.new.pages) here.read c.in_ok-met.ensures.read;
      counted = c.in_ok-met.ensures.cause.counted ∙ here.counted;
      taken = λ told m tells are.
          taken_step (g.S.ShapeOf.rows c.args.shapes.now) (g.P.Pages.shown c.members.pages).pages (g.P.Pages.shown c.args.pages.now).pages here.read.pages m c.args.block c.args.list.now
          c.members.member-index _ lt c.in_ok-met.met c.args.parts.now c.members.parts c.push_parts.new.parts (c.in_ok-met.ensures.met (here.read.told ∙ told) m) tells are
          (here.taken told m tells are)
          c.in_ok-push_parts.ensures;
    }

pub returns-clause-taken : goal.returns-clause-taken
returns-clause-taken g c = λ told m tells are.
    parts_end m c.args.block c.members.member-index c.args.list.now c.args.parts.now c.members.parts (omega (arith, c.members-test.false)) (c.members.invariant.taken told m tells are)

use Rattle.std.proofs.Common.{sym, ap, ◌∙◌, None, set, arith}
use Rattle.std.specs.FinMap as map
use Rattle.page_pool.specs.Inside.{items_in}
use Rattle.page_pool.proofs.Places.{get-items_in, past, items-past, items-taken}
use Rattle.page_pool.proofs.table.Table.take.Goals as goal

-- above the table no change is there
pub returns-in_default-clause-taken : goal.returns-in_default-clause-taken
returns-in_default-clause-taken g c = sym (ap (λ m. map.get m c.args.n) (sym c.self.view_is) ∙ past c.self.inside.places.items c.args.n c.in_default.ensures.item.3)

pub returns-in_default-clause-left : goal.returns-in_default-clause-left
returns-in_default-clause-left g c = items-past c.self.inside.places.items c.args.n c.in_default.ensures.item.3 ∙ ap (λ m. map.remove m c.args.n) c.self.view_is

pub returns-clause-taken : goal.returns-clause-taken
returns-clause-taken g c = c.take.ensures.value ∙ c.in-Some.ensures.item.4 (omega arith) None ∙ sym (get-items_in c.self.inside.places.items c.args.n) ∙ ap (λ m. map.get m c.args.n) c.self.view_is

pub returns-clause-left : goal.returns-clause-left
returns-clause-left g c =
    ap (λ place. items_in (set c.self.inside.places.items c.args.n place)) c.take.ensures.after
    ∙ items-taken c.self.inside.places.items c.args.n c.in-Some.ensures.item.3.0 ∙ ap (λ m. map.remove m c.args.n) c.self.view_is

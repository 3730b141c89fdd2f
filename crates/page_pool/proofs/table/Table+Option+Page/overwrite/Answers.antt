use Rattle.std.proofs.Common.{sym, ap, ◌∙◌, None, Some, is_some, set, arith}
use Rattle.std.specs.FinMap as map
use Rattle.page_pool.specs.Inside.{items_in}
use Rattle.page_pool.proofs.Places.{get-items_in, items-put}
use Rattle.page_pool.proofs.table.Table+Option+Page.overwrite.Goals as goal

pub returns-clause-written : goal.returns-clause-written
returns-clause-written c = λ wrote.
    ap (λ place. items_in (set c.self.inside.places.items c.args.n place)) (c.set_page.ensures.written wrote)
    ∙ items-put c.self.inside.places.items c.args.n (Some c.args.bytes.now) c.in-Some.ensures.item.3.0
    ∙ ap (λ m. map.insert m c.args.n (Some c.args.bytes.now)) c.self.view_is

pub returns-clause-there : goal.returns-clause-there
returns-clause-there c = λ wrote.
    ap is_some (ap (λ m. map.get m c.args.n) (sym c.self.view_is) ∙ get-items_in c.self.inside.places.items c.args.n ∙ sym (c.in-Some.ensures.item.4 (omega arith) None))
    ∙ c.set_page.ensures.there wrote

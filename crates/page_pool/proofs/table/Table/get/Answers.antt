use Rattle.std.proofs.Common.{sym, ap, ◌∙◌, None, get_or, arith}
use Rattle.std.specs.FinMap as map
use Rattle.page_pool.proofs.Places.{get-items_in}
use Rattle.page_pool.proofs.table.Table.get.Goals as goal

pub returns-in-Some : goal.returns-in-Some
returns-in-Some g c =
    c.as_ref.ensures.value ∙ c.in-Some.ensures.lookup.4 (omega arith) None ∙ ap (λ xs. get_or xs c.args.n None) c.deref.ensures.value
    ∙ sym (get-items_in c.self.inside.places.items c.args.n) ∙ ap (λ m. map.get m c.args.n) c.self.view_is

pub returns-in-None : goal.returns-in-None
returns-in-None g c = c.in-None.ensures.lookup.4 (omega arith) None ∙ ap (λ xs. get_or xs c.args.n None) c.deref.ensures.value
    ∙ sym (get-items_in c.self.inside.places.items c.args.n) ∙ ap (λ m. map.get m c.args.n) c.self.view_is

use Rattle.std.proofs.Common.{Some, sym, ap, subst, ◌∙◌}
use Rattle.std.specs.FinMap as map
use Rattle.page_pool.specs.Pool.{IsPage}
use Rattle.page_pool.proofs.Seen.{page_staged, staged_live}
use Rattle.page_pool.proofs.pool.Pool.staged_page.Goals as goal

pub returns-in-Some-Some-clause-value : goal.returns-in-Some-Some-clause-value
returns-in-Some-Some-clause-value g c =
    let is = c.bytes.ensures in
    subst (λ s. IsPage s c.args.n c.bytes.result.now) c.self.view_is
    (page_staged c.self.inside.archive c.self.inside.staged c.self.inside.frames c.self.inside.numbers c.self.inside.is_open c.self.inside.gets c.self.inside.damages c.self.invariant c.args.n c.bytes.result.now
    (sym c.in-Some-Some.ensures ∙ ap (λ change. Some change) c.in-Some-Some.field-0-is ∙ ap (λ page. Some (Some page)) (sym is)))

pub returns-in-Some-Some-clause-live : goal.returns-in-Some-Some-clause-live
returns-in-Some-Some-clause-live g c =
    let is = c.bytes.ensures in
    ap (λ s. map.contains_key s.pages c.args.n) (sym c.self.view_is)
    ∙ staged_live c.self.inside.archive c.self.inside.staged c.self.inside.frames c.self.inside.numbers c.self.inside.is_open c.self.inside.gets c.self.inside.damages c.self.invariant c.args.n c.bytes.result.now
    (sym c.in-Some-Some.ensures ∙ ap (λ change. Some change) c.in-Some-Some.field-0-is ∙ ap (λ page. Some (Some page)) (sym is))

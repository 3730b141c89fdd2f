use Rattle.std.proofs.Common.{◌≡◌, None, Some, sym, ap, subst, ◌∙◌}
use Rattle.std.specs.FinMap as map
use Rattle.std.specs.FinSet as set
use Rattle.page_pool.specs.Pool.{IsPage}
use Rattle.page_pool.proofs.Seen.{page_framed, framed_live, from_unstaged}
use Rattle.page_pool.proofs.pool.Pool.framed_page.Goals as goal

pub returns-in-Some-clause-value : goal.returns-in-Some-clause-value
returns-in-Some-clause-value g c =
    let none : map.get c.self.inside.staged.changes c.args.n ≡ None =
    from_unstaged c.self.inside.staged.changes c.args.n (ap (λ s. set.contains s.dirty c.args.n) c.self.view_is ∙ c.requires.0)
    (ap (λ s. set.contains s.freed c.args.n) c.self.view_is ∙ c.requires.1) in
    subst (λ s. IsPage s c.args.n c.bytes.result.now) c.self.view_is
    (page_framed c.self.inside.archive c.self.inside.staged c.self.inside.frames c.self.inside.numbers c.self.inside.is_open c.self.inside.gets c.self.inside.damages c.self.invariant c.args.n c.bytes.result.now
    none (sym c.in-Some.ensures ∙ ap (λ page. Some page) (sym c.bytes.ensures)))

pub returns-in-Some-clause-live : goal.returns-in-Some-clause-live
returns-in-Some-clause-live g c =
    let none : map.get c.self.inside.staged.changes c.args.n ≡ None =
    from_unstaged c.self.inside.staged.changes c.args.n (ap (λ s. set.contains s.dirty c.args.n) c.self.view_is ∙ c.requires.0)
    (ap (λ s. set.contains s.freed c.args.n) c.self.view_is ∙ c.requires.1) in
    ap (λ s. map.contains_key s.pages c.args.n) (sym c.self.view_is)
    ∙ framed_live c.self.inside.archive c.self.inside.staged c.self.inside.frames c.self.inside.numbers c.self.inside.is_open c.self.inside.gets c.self.inside.damages c.self.invariant c.args.n c.bytes.result.now
    none (sym c.in-Some.ensures ∙ ap (λ page. Some page) (sym c.bytes.ensures))

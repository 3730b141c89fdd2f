use Rattle.std.proofs.Common.{◌≡◌, None, true, IsSome, sym, ap, subst, ◌∙◌}
use Rattle.std.specs.FinMap as map
use Rattle.page_pool.specs.Inside.{IsWhole, state_of, overlaid}
use Rattle.page_pool.specs.Commands.{Frees}
use Rattle.page_pool.proofs.Whole.{open_is, live_used, whole-changed}
use Rattle.page_pool.proofs.States.{frees_state}
use Rattle.page_pool.proofs.pool.Pool.free.Goals as goal

-- a live page has a staged change or a kept digest
pub invariant_of-self-2 : goal.invariant_of-self-2
invariant_of-self-2 g c =
    let opened : c.self.inside.is_open ≡ true = open_is c.self.inside.is_open c.self.inside.archive.pages (subst (λ s. IsSome s.beginning) (sym c.self.view_is) c.requires.open) in
    let live : map.contains_key (overlaid c.self.inside.staged.changes c.self.inside.archive.pages) c.args.n ≡ true = ap (λ s. map.contains_key s.pages c.args.n) c.self.view_is ∙ c.requires.live in
    subst (λ changes. IsWhole c.self.inside.archive changes c.self.inside.frames c.self.inside.numbers c.self.inside.is_open) (sym c.in_ok-insert.ensures.staged)
    (whole-changed c.self.inside.archive c.self.inside.staged.changes c.self.inside.frames c.self.inside.numbers c.self.inside.is_open c.args.n None opened
    (live_used c.self.inside.archive c.self.invariant.archived c.self.inside.staged.changes c.args.n live) c.self.invariant)

pub returns-clause-freed : goal.returns-clause-freed
returns-clause-freed g c =
    let opened : c.self.inside.is_open ≡ true = open_is c.self.inside.is_open c.self.inside.archive.pages (subst (λ s. IsSome s.beginning) (sym c.self.view_is) c.requires.open) in
    let live : map.contains_key (overlaid c.self.inside.staged.changes c.self.inside.archive.pages) c.args.n ≡ true = ap (λ s. map.contains_key s.pages c.args.n) c.self.view_is ∙ c.requires.live in
    subst (λ old. Frees old (state_of c.self.inside.archive c.insert.new.self c.self.inside.frames c.self.inside.numbers c.self.inside.is_open c.self.inside.gets c.self.inside.damages) c.args.n) c.self.view_is
    (frees_state c.self.inside.archive c.self.inside.staged c.insert.new.self c.self.inside.frames c.self.inside.numbers c.self.inside.is_open c.self.inside.gets c.self.inside.damages opened c.self.invariant c.args.n c.in_ok-insert.ensures.staged live)

use Rattle.std.proofs.Common.{◌≡◌, ap, ◌∙◌, sym, arith}
use Rattle.std.specs.FinSet as set
use Rattle.page_pool.specs.Inside.{dirty_of}
use Rattle.page_pool.proofs.staged.Staged.count.Goals as goal

-- the count is theirs
pub returns-clause-few : goal.returns-clause-few
returns-clause-few c =
    let same : c.args.self.now.count ≡ set.len (dirty_of c.args.self.now.changes) = ap (λ s. s.count) (sym c.self.view_is) ∙ ap (λ s. set.len (dirty_of s.changes)) c.self.view_is in omega arith

use Rattle.std.proofs.Common.{◌≡◌, false, IsNone, sym, ap, subst, ◌∙◌}
use Rattle.std.proofs.lemmas.Result.{err_from_is_err_and}
use Rattle.page_pool.specs.Inside.{IsWhole, state_of}
use Rattle.page_pool.specs.Stamps.{KeepsMap}
use Rattle.page_pool.proofs.Written.{closed_is}
use Rattle.page_pool.proofs.Keeping.{keeps_state, whole-kept}
use Rattle.page_pool.proofs.pool.Pool.keep.Goals as goal

pub invariant_of-self : goal.invariant_of-self
invariant_of-self g c = subst (λ a. IsWhole a c.self.inside.staged.changes c.self.inside.frames c.self.inside.numbers c.self.inside.is_open) (sym c.in_err-keep.ensures.unchanged) c.self.invariant

pub invariant_of-self-2 : goal.invariant_of-self-2
invariant_of-self-2 g c =
    let closed : c.self.inside.is_open ≡ false = closed_is c.self.inside.is_open c.self.inside.archive.pages (subst (λ s. IsNone s.beginning) (sym c.self.view_is) c.requires.0) in
    whole-kept c.self.inside.archive c.keep.new.self c.self.inside.staged.changes c.self.inside.frames c.self.inside.numbers c.self.inside.is_open c.in_ok-keep.field-0 closed c.in_ok-keep.ensures.kept c.keep.ensures.whole c.self.invariant

pub returns-in_err-keep : goal.returns-in_err-keep
returns-in_err-keep g c =
    let p = err_from_is_err_and c.from_residual.result c.from_residual.ensures.1 in
    rw p.1 record {
      kept = tt;
      unchanged = ap (λ a. state_of a c.self.inside.staged c.self.inside.frames c.self.inside.numbers c.self.inside.is_open c.self.inside.gets c.self.inside.damages) c.in_err-keep.ensures.unchanged
          ∙ c.self.view_is;
    }

pub returns-clause-kept : goal.returns-clause-kept
returns-clause-kept g c =
    subst (λ old. KeepsMap old (state_of c.keep.new.self c.self.inside.staged c.self.inside.frames c.self.inside.numbers c.self.inside.is_open c.self.inside.gets c.self.inside.damages) c.new.result) c.self.view_is
    (subst (KeepsMap (state_of c.self.inside.archive c.self.inside.staged c.self.inside.frames c.self.inside.numbers c.self.inside.is_open c.self.inside.gets c.self.inside.damages)
    (state_of c.keep.new.self c.self.inside.staged c.self.inside.frames c.self.inside.numbers c.self.inside.is_open c.self.inside.gets c.self.inside.damages)) (sym c.new.ensures)
    (keeps_state c.self.inside.archive c.keep.new.self c.self.inside.staged c.self.inside.frames c.self.inside.numbers c.self.inside.is_open c.self.inside.gets c.self.inside.damages c.in_ok-keep.field-0 c.in_ok-keep.ensures.free c.in_ok-keep.ensures.kept))

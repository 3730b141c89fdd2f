use Rattle.std.proofs.Common.{◌≡◌, None, Some, Ok, Err, inl, inr, refl, sym, ap, subst, ◌∙◌}
use mathlib.Core.Bool.{true≢false}
use Rattle.std.specs.FinMap as map
use Rattle.std.specs.FinSet as set
use Rattle.std.proofs.lemmas.Result.{err_from_is_err_and}
use Rattle.sha2.specs.Sha256.{sha256}
use Rattle.page_pool.specs.declared.fault.PageFault.TheVariants.{Memory}
use Rattle.page_pool.specs.Inside.{state_of, Compares}
use Rattle.page_pool.proofs.Seen.{from_unstaged}
use Rattle.page_pool.proofs.Whole.{live_unstaged}
use Rattle.page_pool.proofs.Loads.{compares_state, whole_read}
use Rattle.page_pool.proofs.pool.Pool.read_compared.Goals as goal

-- an image without a staged change stands on the disk
pub read-requires : goal.read-requires
read-requires g c =
    let none : map.get c.self.inside.staged.changes c.args.n ≡ None =
    from_unstaged c.self.inside.staged.changes c.args.n (ap (λ s. set.contains s.dirty c.args.n) c.self.view_is ∙ c.requires.0)
    (ap (λ s. set.contains s.freed c.args.n) c.self.view_is ∙ c.requires.1) in
    c.self.invariant.stands c.args.n (λ _. none)

-- nothing came into the frames
pub invariant_of-self : goal.invariant_of-self
invariant_of-self g c =
    whole_read c.self.inside.archive c.read.new.self c.self.inside.staged.changes c.self.inside.frames c.self.inside.frames c.self.inside.numbers c.self.inside.is_open c.args.n c.read.ensures.read.read c.read.ensures.whole (λ q bytes is. inr is) (λ q bytes is. is) c.self.invariant

-- the page that was read came into a frame, at most
pub invariant_of-self-in_err-put : goal.invariant_of-self-in_err-put
invariant_of-self-in_err-put g c =
    whole_read c.self.inside.archive c.read.new.self c.self.inside.staged.changes c.self.inside.frames c.put.new.self c.self.inside.numbers c.self.inside.is_open c.args.n c.in_ok-page.ensures.read.read c.in_ok-page.ensures.whole
    (λ q bytes is. elim (c.put.ensures.sound q bytes is) [
      | inl this ↦ inl (this.0, (c.in_ok-page.ensures.read.digested ∙ ap (λ x. Some (sha256 x)) (sym this.1), λ tells. c.in_ok-page.ensures.read.value tells ∙ ap (λ x. Some x) (sym this.1)))
      | inr before ↦ inr before
    ]) c.put.ensures.past c.self.invariant

pub invariant_of-self-2 : goal.invariant_of-self-2
invariant_of-self-2 g c =
    whole_read c.self.inside.archive c.read.new.self c.self.inside.staged.changes c.self.inside.frames c.put.new.self c.self.inside.numbers c.self.inside.is_open c.args.n c.in_ok-page.ensures.read.read c.in_ok-page.ensures.whole
    (λ q bytes is. elim (c.put.ensures.sound q bytes is) [
      | inl this ↦ inl (this.0, (c.in_ok-page.ensures.read.digested ∙ ap (λ x. Some (sha256 x)) (sym this.1), λ tells. c.in_ok-page.ensures.read.value tells ∙ ap (λ x. Some x) (sym this.1)))
      | inr before ↦ inr before
    ]) c.put.ensures.past c.self.invariant

-- a page that isn't live has no image
pub returns-in_err-page-clause-missing : goal.returns-in_err-page-clause-missing
returns-in_err-page-clause-missing g c = λ missing.
    let none : map.get c.self.inside.staged.changes c.args.n ≡ None =
    from_unstaged c.self.inside.staged.changes c.args.n (ap (λ s. set.contains s.dirty c.args.n) c.self.view_is ∙ c.requires.0)
    (ap (λ s. set.contains s.freed c.args.n) c.self.view_is ∙ c.requires.1) in
    let p = err_from_is_err_and c.from_residual.result c.from_residual.ensures.1 in
    rw (p.1, p.2) (c.in_err-page.ensures.read.missing
    (sym (live_unstaged c.self.inside.archive c.self.inside.staged.changes c.self.inside.frames c.self.inside.numbers c.self.inside.is_open c.self.invariant c.args.n none)
    ∙ ap (λ s. map.contains_key s.pages c.args.n) c.self.view_is ∙ missing))

pub returns-clause-missing : goal.returns-clause-missing
returns-clause-missing g c = λ missing.
    let none : map.get c.self.inside.staged.changes c.args.n ≡ None =
    from_unstaged c.self.inside.staged.changes c.args.n (ap (λ s. set.contains s.dirty c.args.n) c.self.view_is ∙ c.requires.0)
    (ap (λ s. set.contains s.freed c.args.n) c.self.view_is ∙ c.requires.1) in
    absurd (true≢false (sym c.in_ok-page.ensures.read.there
    ∙ sym (live_unstaged c.self.inside.archive c.self.inside.staged.changes c.self.inside.frames c.self.inside.numbers c.self.inside.is_open c.self.invariant c.args.n none)
    ∙ ap (λ s. map.contains_key s.pages c.args.n) c.self.view_is ∙ missing))

-- the archive refused
pub returns-in_err-page-clause-read : goal.returns-in_err-page-clause-read
returns-in_err-page-clause-read g c =
    let p = err_from_is_err_and c.from_residual.result c.from_residual.ensures.1 in
    rw (p.1, p.2)
    (subst (λ old. Compares old (state_of c.read.new.self c.self.inside.staged c.self.inside.frames c.self.inside.numbers c.self.inside.is_open c.self.inside.gets c.self.inside.damages) c.args.n
    (Err c.in_err-page.field-0.0)) c.self.view_is
    (compares_state c.self.inside.archive c.read.new.self c.self.inside.staged c.self.inside.frames c.self.inside.frames c.self.inside.numbers c.self.inside.is_open c.self.inside.gets c.self.inside.damages c.args.n (Err c.in_err-page.field-0.0)
    c.in_err-page.ensures.read.read refl c.in_err-page.ensures.read.counted c.in_err-page.ensures.read.damaged))

-- memory for the frame was refused
pub returns-in_err-put-clause-read : goal.returns-in_err-put-clause-read
returns-in_err-put-clause-read g c =
    let p = err_from_is_err_and c.from_residual-in_err-put.result c.from_residual-in_err-put.ensures.1 in
    rw (p.1, p.2)
    (subst (λ old. Compares old (state_of c.read.new.self c.self.inside.staged c.put.new.self c.self.inside.numbers c.self.inside.is_open c.self.inside.gets c.self.inside.damages) c.args.n
    (Err Memory)) c.self.view_is
    (compares_state c.self.inside.archive c.read.new.self c.self.inside.staged c.self.inside.frames c.put.new.self c.self.inside.numbers c.self.inside.is_open c.self.inside.gets c.self.inside.damages c.args.n (Err Memory)
    c.in_ok-page.ensures.read.read c.put.ensures.most c.in_ok-page.ensures.read.counted tt))

pub returns-clause-read : goal.returns-clause-read
returns-clause-read g c =
    subst (λ old. Compares old (state_of c.read.new.self c.self.inside.staged c.put.new.self c.self.inside.numbers c.self.inside.is_open c.self.inside.gets c.self.inside.damages) c.args.n
    (Ok tt)) c.self.view_is
    (compares_state c.self.inside.archive c.read.new.self c.self.inside.staged c.self.inside.frames c.put.new.self c.self.inside.numbers c.self.inside.is_open c.self.inside.gets c.self.inside.damages c.args.n (Ok tt)
    c.in_ok-page.ensures.read.read c.put.ensures.most c.in_ok-page.ensures.read.counted tt)

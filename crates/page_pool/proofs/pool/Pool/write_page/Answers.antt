use Rattle.std.proofs.Common.{◌≡◌, ◌+◌, inl, inr, Some, None, false, Ok, Err, IsNone, cond, is_some, refl, sym, ap, subst, ◌∙◌, arith}
use Rattle.std.specs.FinMap as map
use Rattle.std.specs.FinSet as set
use Rattle.std.proofs.lemmas.Result.{err_from_is_err_and}
use Rattle.page_pool.specs.Inside.{state_of, staged_shared}
use Rattle.page_pool.specs.Commands.{WritesOne}
use Rattle.page_pool.proofs.Loads.{undamaged_cause, counted_undamaged}
use Rattle.page_pool.proofs.Seen.{some_one}
use Rattle.page_pool.proofs.Written.{closed_is, forgot_one, whole-spoiled, writes_spoiled, whole-settled, writes_settled, others_settled, fewer_settled}
use Rattle.page_pool.proofs.pool.Pool.write_page.Goals as goal

-- the page's image may be spoiled, and waits to be written
pub invariant_of-self : goal.invariant_of-self
invariant_of-self g c =
    let closed : c.self.inside.is_open ≡ false = closed_is c.self.inside.is_open c.self.inside.archive.pages (subst (λ s. IsNone s.beginning) (sym c.self.view_is) c.requires.closed.0) in
    let waits : map.get c.self.inside.staged.changes c.args.n ≡ Some (Some c.in-Some-Some.page) = sym c.in-Some-Some.ensures ∙ ap (λ change. Some change) c.in-Some-Some.field-0-is in
    whole-spoiled c.self.inside.archive c.write.new.self c.self.inside.staged.changes c.self.inside.frames c.forget.new.self c.self.inside.numbers c.self.inside.numbers c.self.inside.is_open c.args.n
    (ap is_some waits) closed c.write.ensures.writes.change c.write.ensures.whole c.forget.ensures.newest c.forget.ensures.past
    (λ p is. sym c.in_err-place.ensures.writes.kept_place ∙ is) refl refl c.self.invariant

-- the page was written, and has its digest
pub invariant_of-self-2 : goal.invariant_of-self-2
invariant_of-self-2 g c =
    let closed : c.self.inside.is_open ≡ false = closed_is c.self.inside.is_open c.self.inside.archive.pages (subst (λ s. IsNone s.beginning) (sym c.self.view_is) c.requires.closed.0) in
    let waits : map.get c.self.inside.staged.changes c.args.n ≡ Some (Some c.in-Some-Some.page) = sym c.in-Some-Some.ensures ∙ ap (λ change. Some change) c.in-Some-Some.field-0-is in
    whole-settled c.self.inside.archive c.write.new.self c.self.inside.staged.changes c.take-change.new.self.changes c.self.inside.frames c.forget_past.new.self c.keep.new.self c.self.inside.numbers c.self.inside.is_open c.args.n c.in_ok-place.place c.in-Some-Some.page
    waits closed c.write.ensures.writes.change c.write.ensures.whole c.in_ok-place.ensures.writes.written (c.forget_past.ensures.newest ∙ c.forget.ensures.newest) c.take-change.ensures.left
    (λ q bytes is. elim (c.keep.ensures.sound q bytes is) [
      | inl this ↦ inl
          (this.0, some_one bytes c.in-Some-Some.page (some_one (Some bytes) (Some c.in-Some-Some.page) (sym this.1 ∙ c.take-change.ensures.taken ∙ waits)))
      | inr before ↦ inr before
    ])
    (λ q bytes is. let f = forgot_one c.forget.new.self.past c.forget_past.new.self.past c.in_ok-place.place c.forget_past.ensures.past q bytes (c.keep.ensures.past q bytes is) in
    (f.0, ap (λ m. map.get m q) (sym c.forget.ensures.past) ∙ f.1))
    c.self.invariant

pub returns-in_err-place : goal.returns-in_err-place
returns-in_err-place g c =
    let closed : c.self.inside.is_open ≡ false = closed_is c.self.inside.is_open c.self.inside.archive.pages (subst (λ s. IsNone s.beginning) (sym c.self.view_is) c.requires.closed.0) in
    let waits : map.get c.self.inside.staged.changes c.args.n ≡ Some (Some c.in-Some-Some.page) = sym c.in-Some-Some.ensures ∙ ap (λ change. Some change) c.in-Some-Some.field-0-is in
    let p = err_from_is_err_and c.from_residual.result c.from_residual.ensures.1 in
    let same_counts : c.write.new.self.seen + set.len (staged_shared c.write.new.self.shared c.self.inside.staged.changes)
    ≡ c.self.inside.archive.seen + set.len (staged_shared c.self.inside.archive.shared c.self.inside.staged.changes) =
    (λ i. c.in_err-place.ensures.writes.counts.seen i + set.len (staged_shared (c.in_err-place.ensures.writes.counts.shared i) c.self.inside.staged.changes)) in
    rw (p.1, p.2)
    (subst (λ old. WritesOne old (state_of c.write.new.self c.self.inside.staged c.forget.new.self c.self.inside.numbers c.self.inside.is_open c.self.inside.gets c.self.inside.damages) c.args.n
    (Err c.in_err-place.field-0.0)) c.self.view_is
    record {
      writes = writes_spoiled c.self.inside.archive c.write.new.self c.self.inside.staged.changes c.self.inside.frames c.forget.new.self c.self.inside.numbers c.self.inside.numbers c.self.inside.is_open c.args.n
          (ap is_some waits) closed c.write.ensures.writes.change c.write.ensures.whole c.forget.ensures.newest c.forget.ensures.past
          (λ p is. sym c.in_err-place.ensures.writes.kept_place ∙ is) c.self.inside.staged c.self.inside.gets c.self.inside.damages refl c.self.invariant.archived c.forget.ensures.most refl
          (omega arith);
      others = λ q apart d. d;
      closed = ap (λ b. cond b (Some c.write.new.self.pages) None) closed;
      cause = record {
        counted = counted_undamaged c.self.inside.archive.disk.faults c.write.new.self.disk.faults c.self.inside.damages c.in_err-place.field-0.0 c.in_err-place.ensures.writes.undamaged c.in_err-place.ensures.writes.counted;
        damaged = undamaged_cause (state_of c.write.new.self c.self.inside.staged c.forget.new.self c.self.inside.numbers c.self.inside.is_open c.self.inside.gets c.self.inside.damages) c.in_err-place.field-0.0 c.in_err-place.ensures.writes.undamaged;
      };
      undamaged = c.in_err-place.ensures.writes.undamaged;
      fewer = tt;
    })

pub returns : goal.returns
returns g c =
    let closed : c.self.inside.is_open ≡ false = closed_is c.self.inside.is_open c.self.inside.archive.pages (subst (λ s. IsNone s.beginning) (sym c.self.view_is) c.requires.closed.0) in
    let waits : map.get c.self.inside.staged.changes c.args.n ≡ Some (Some c.in-Some-Some.page) = sym c.in-Some-Some.ensures ∙ ap (λ change. Some change) c.in-Some-Some.field-0-is in
    subst (λ old. WritesOne old (state_of c.write.new.self c.take-change.new.self c.keep.new.self c.self.inside.numbers c.self.inside.is_open c.self.inside.gets c.self.inside.damages) c.args.n
    (Ok tt)) c.self.view_is
    record {
      writes = writes_settled c.self.inside.archive c.write.new.self c.self.inside.staged.changes c.take-change.new.self.changes c.self.inside.frames c.forget_past.new.self c.keep.new.self c.self.inside.numbers c.self.inside.is_open c.args.n c.in_ok-place.place c.in-Some-Some.page
          waits closed c.write.ensures.writes.change c.write.ensures.whole c.in_ok-place.ensures.writes.written (c.forget_past.ensures.newest ∙ c.forget.ensures.newest) c.take-change.ensures.left
          (λ q bytes is. elim (c.keep.ensures.sound q bytes is) [
            | inl this ↦ inl
                (this.0, some_one bytes c.in-Some-Some.page (some_one (Some bytes) (Some c.in-Some-Some.page) (sym this.1 ∙ c.take-change.ensures.taken ∙ waits)))
            | inr before ↦ inr before
          ])
          (λ q bytes is. let f = forgot_one c.forget.new.self.past c.forget_past.new.self.past c.in_ok-place.place c.forget_past.ensures.past q bytes (c.keep.ensures.past q bytes is) in
          (f.0, ap (λ m. map.get m q) (sym c.forget.ensures.past) ∙ f.1))
          c.self.inside.staged.count c.take-change.new.self.count c.self.inside.gets c.self.inside.damages c.self.invariant.archived
          (c.keep.ensures.most ∙ c.forget_past.ensures.most ∙ c.forget.ensures.most) c.in_ok-place.ensures.writes.replaced;
      others = others_settled c.self.inside.archive c.write.new.self c.self.inside.staged.changes c.take-change.new.self.changes c.self.inside.frames c.forget_past.new.self c.keep.new.self c.self.inside.numbers c.self.inside.is_open c.args.n c.in_ok-place.place c.in-Some-Some.page
          waits closed c.write.ensures.writes.change c.write.ensures.whole c.in_ok-place.ensures.writes.written (c.forget_past.ensures.newest ∙ c.forget.ensures.newest) c.take-change.ensures.left
          (λ q bytes is. elim (c.keep.ensures.sound q bytes is) [
            | inl this ↦ inl
                (this.0, some_one bytes c.in-Some-Some.page (some_one (Some bytes) (Some c.in-Some-Some.page) (sym this.1 ∙ c.take-change.ensures.taken ∙ waits)))
            | inr before ↦ inr before
          ])
          (λ q bytes is. let f = forgot_one c.forget.new.self.past c.forget_past.new.self.past c.in_ok-place.place c.forget_past.ensures.past q bytes (c.keep.ensures.past q bytes is) in
          (f.0, ap (λ m. map.get m q) (sym c.forget.ensures.past) ∙ f.1));
      closed = ap (λ b. cond b (Some c.write.new.self.pages) None) closed;
      cause = record { counted = ap (λ n. (n, c.self.inside.damages)) c.in_ok-place.ensures.writes.counted; damaged = tt };
      undamaged = tt;
      fewer = fewer_settled c.self.inside.archive c.write.new.self c.self.inside.staged.changes c.take-change.new.self.changes c.self.inside.frames c.forget_past.new.self c.keep.new.self c.self.inside.numbers c.self.inside.is_open c.args.n c.in_ok-place.place c.in-Some-Some.page
          waits closed c.write.ensures.writes.change c.write.ensures.whole c.in_ok-place.ensures.writes.written (c.forget_past.ensures.newest ∙ c.forget.ensures.newest) c.take-change.ensures.left
          (λ q bytes is. elim (c.keep.ensures.sound q bytes is) [
            | inl this ↦ inl
                (this.0, some_one bytes c.in-Some-Some.page (some_one (Some bytes) (Some c.in-Some-Some.page) (sym this.1 ∙ c.take-change.ensures.taken ∙ waits)))
            | inr before ↦ inr before
          ])
          (λ q bytes is. let f = forgot_one c.forget.new.self.past c.forget_past.new.self.past c.in_ok-place.place c.forget_past.ensures.past q bytes (c.keep.ensures.past q bytes is) in
          (f.0, ap (λ m. map.get m q) (sym c.forget.ensures.past) ∙ f.1));
    }

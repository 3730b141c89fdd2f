use Rattle.std.proofs.Common.{List, ℕ, ◌+◌, [], ◌∷◌, ◌++◌, sym, subst, ◌∙◌, arith}
use Rattle.std.proofs.lemmas.List.{length_push}
use Rattle.sand_journal.specs.declared.fault.JournalFault.{JournalFault}
use Rattle.sand_journal.specs.ChangeBody.{IsChangeOf, body_of, change_value}
use Rattle.sand_journal.specs.Journal.{StandsBehind, IsWhy}
use Rattle.sand_journal.proofs.Answered.{cut_bad, form_bad, change_found}
use Rattle.sand_journal.proofs.Nexts.{passed_next}
use Rattle.sand_journal.proofs.journal.Journal.next.Goals as goal

-- an open record that is cut short is none
pub returns-in-Bad-clause-why : goal.returns-in-Bad-clause-why
returns-in-Bad-clause-why g c = λ bodies passed told.
    let bytes : List ℕ = (g.T.Tape.seen c.args.self.now.tape).bytes in
    let ahead = rw c.in-Bad.is at c.in_ok-look_ahead.ensures.ahead in
    subst (λ (why : JournalFault). IsWhy why bytes bodies) (sym c.bad.ensures) (omega (arith, passed.count), cut_bad bytes bodies (ahead bodies passed.stands told))

-- nor is one whose body is that of no change
pub returns-in_default-clause-why : goal.returns-in_default-clause-why
returns-in_default-clause-why g c = λ bodies passed told.
    let bytes : List ℕ = (g.T.Tape.seen c.args.self.now.tape).bytes in
    let ahead = rw c.in-Body.is at c.in_ok-look_ahead.ensures.ahead in
    let none = subst (λ (l : List ℕ). IsChangeOf l c.in_ok-change.field-0) c.deref.ensures.value c.in_ok-change.ensures in
    let none_here = rw c.in_default.is at none in
    subst (λ (why : JournalFault). IsWhy why bytes bodies) (sym c.bad-in_default.ensures) (
      omega (arith, passed.count),
      form_bad bytes bodies c.in-Body.body.items (ahead bodies passed.stands told) none_here,
    )

-- the body is that of the change
pub returns-clause-form : goal.returns-clause-form
returns-clause-form g c =
    let found = rw c.in-Some.is at c.in_ok-change.ensures in
    (change_found c.deref.result.now c.in-Some.change found).0

-- and the journal stands behind one record more
pub returns-clause-next : goal.returns-clause-next
returns-clause-next g c = λ bodies passed.
    let near = rw c.in-Body.is at c.in_ok-look_ahead.ensures.near in
    let ahead = rw c.in-Body.is at c.in_ok-look_ahead.ensures.ahead in
    let found = rw c.in-Some.is at c.in_ok-change.ensures in
    let is_body = sym c.deref.ensures.value ∙ (change_found c.deref.result.now c.in-Some.change found).1 in
    record {
      stands = subst (λ (l : List ℕ). StandsBehind (g.T.Tape.seen c.look_ahead.new.tape) (c.args.self.now.end + (5 + c.len.result)) (bodies ++ l ∷ [])) is_body
          (passed_next (g.T.Tape.seen c.args.self.now.tape) (g.T.Tape.seen c.look_ahead.new.tape) c.args.self.now.end
          (c.args.self.now.end + (5 + c.len.result)) bodies c.in-Body.body.items passed.stands
          c.look_ahead.ensures.read near.0 (ahead bodies passed.stands) (omega (arith, c.len.ensures, c.in-Body.body.ok.0)));
      count = omega (arith, passed.count, length_push bodies (body_of (change_value c.in-Some.change)), c.saturating_add-self.ensures);
    }

pub returns-clause-reading : goal.returns-clause-reading
returns-clause-reading g c = λ reading. (reading.0 ++ body_of (change_value c.in-Some.change) ∷ [], returns-clause-next g c reading.0 reading.1)

-- the entry's row, and that no row with the value is nearer
use Rattle.std.proofs.Common.{◌∙◌, ℕ, ◌<◌, subst, sym}
use Rattle.std.specs.Prelude.{Option, IfSome}
use Rattle.plan_names.proofs.LookUpPrices.{entry_told, entry_read, entry_refused}
use Rattle.plan_names.proofs.LookUps.{no_candidate, told_candidate, candidate_is}
use Rattle.plan_names.proofs.look_up.LookUp.candidate.Goals as goal

pub returns-in_default-clause-candidate : goal.returns-in_default-clause-candidate
returns-in_default-clause-candidate g c = λ told.
    no_candidate (g.P.Pages.shown c.args.pages.now).pages c.args.self.now c.args.value.now c.args.last c.key_of.result.0 c.in_ok-id.field-0
    (c.requires.holds told) c.requires.small c.key_of.ensures.value
    (c.in_ok-id.ensures.value told) c.in_default.is

pub returns-in-Ok-clause-candidate : goal.returns-in-Ok-clause-candidate
returns-in-Ok-clause-candidate g c = λ told.
    let P : Option ℕ → Type 0 = λ o. IfSome o (λ id. c.args.last < id) in
    candidate_is (g.P.Pages.shown c.args.pages.now).pages
    (g.P.Pages.shown c.equal.new.pages).pages c.args.self.now c.args.value.now c.args.last c.in-Some.id c.key_of.result.0 c.in_ok-id.field-0 c.in-Ok.found c.has_equal.result
    (c.requires.holds told) c.requires.small (subst P c.in-Some.is c.in_ok-id.ensures.rises) c.key_of.ensures.value
    (c.in_ok-id.ensures.value told) c.in-Some.is c.in_ok-id.ensures.peeks.read.pages ((rw c.deref.ensures at c.in-Ok.ensures.value) (c.in_ok-id.ensures.peeks.read.told ∙ told)) c.has_equal.ensures

pub returns-then-is_told-clause-candidate : goal.returns-then-is_told-clause-candidate
returns-then-is_told-clause-candidate g c = λ told.
    let known = c.is_told.ensures.told c.if-is_told.true in
    let P : Option ℕ → Type 0 = λ o. IfSome o (λ id. c.args.last < id) in
    told_candidate (g.P.Pages.shown c.args.pages.now).pages c.args.self.now c.args.value.now c.args.last c.in-Some.id c.key_of.result.0 c.in_ok-id.field-0
    (c.requires.holds told) known.0 known.1 c.key_of.ensures.range c.requires.small
    (subst P c.in-Some.is c.in_ok-id.ensures.rises) c.key_of.ensures.value (c.in_ok-id.ensures.value told) c.in-Some.is

-- an entry that tells the value costs a descent of the index
pub returns-then-is_told-clause-costs : goal.returns-then-is_told-clause-costs
returns-then-is_told-clause-costs g c = λ told.
    let P : Option ℕ → Type 0 = λ o. IfSome o (λ id. c.args.last < id) in
    entry_told (g.P.Pages.shown c.args.pages.now).pages c.args.self.now c.args.value.now c.args.last c.in-Some.id c.key_of.result.0 c.in_ok-id.field-0
    (subst P c.in-Some.is c.in_ok-id.ensures.rises) c.key_of.ensures.value
    (c.in_ok-id.ensures.value told) c.in-Some.is (g.P.Pages.shown c.args.pages.now).gets (g.P.Pages.shown c.equal.new.pages).gets c.in_ok-id.ensures.peeks.within

-- another one costs its tuple too
pub returns-in-Ok-clause-costs : goal.returns-in-Ok-clause-costs
returns-in-Ok-clause-costs g c = λ told.
    let P : Option ℕ → Type 0 = λ o. IfSome o (λ id. c.args.last < id) in
    entry_read (g.P.Pages.shown c.args.pages.now).pages c.args.self.now c.args.value.now c.args.last c.in-Some.id c.key_of.result.0 c.in_ok-id.field-0
    (subst P c.in-Some.is c.in_ok-id.ensures.rises) c.key_of.ensures.value
    (c.in_ok-id.ensures.value told) c.in-Some.is (sym c.is_told.ensures.tells ∙ c.if-is_told.false) (g.P.Pages.shown c.args.pages.now).gets
    (g.P.Pages.shown c.equal.new.pages).gets (g.P.Pages.shown c.value_of.new.pages).gets
    c.in_ok-id.ensures.peeks.within (rw c.deref.ensures at c.in-Ok.ensures.looks.within)

-- also where the tuple is refused
pub returns-in-Err-clause-costs : goal.returns-in-Err-clause-costs
returns-in-Err-clause-costs g c = λ told.
    let P : Option ℕ → Type 0 = λ o. IfSome o (λ id. c.args.last < id) in
    entry_refused (g.P.Pages.shown c.args.pages.now).pages c.args.self.now c.args.value.now c.args.last c.in-Some.id c.key_of.result.0 c.in_ok-id.field-0
    (subst P c.in-Some.is c.in_ok-id.ensures.rises) c.key_of.ensures.value
    (c.in_ok-id.ensures.value told) c.in-Some.is (sym c.is_told.ensures.tells ∙ c.if-is_told.false) (g.P.Pages.shown c.args.pages.now).gets
    (g.P.Pages.shown c.equal.new.pages).gets (g.P.Pages.shown c.value_of.new.pages).gets
    c.in_ok-id.ensures.peeks.within (rw c.deref.ensures at c.in-Err.ensures.looks.within)

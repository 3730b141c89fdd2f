-- the least place from that of the key and the next id on has the key, or no place has it
use Rattle.std.proofs.Common.{◌∙◌, sym, arith}
use Rattle.code_btree.specs.Tree.{pages_in}
use Rattle.attr_index.specs.Key.{key_number}
use Rattle.attr_index.proofs.Equals.{equal_spent, equal_none, equal_behind, equal_found}
use Rattle.attr_index.proofs.index.AttrIndex.equal.Goals as goal

pub returns-in_default-clause-value : goal.returns-in_default-clause-value
returns-in_default-clause-value g c = λ told.
    equal_spent (pages_in (g.P.Pages.shown c.args.pages.now)) c.args.self.now (key_number c.args.key.0) c.args.after
    (omega (arith, c.in_default.ensures, c.place_of.ensures.place, c.place_of.ensures.key))

pub returns-in_default-2-clause-value : goal.returns-in_default-2-clause-value
returns-in_default-2-clause-value g c = λ told.
    equal_none (pages_in (g.P.Pages.shown c.args.pages.now)) c.args.self.now (key_number c.args.key.0) c.args.after c.in-Some.from c.in_ok-place.field-0 (c.requires told)
    (omega (arith, c.in-Some.ensures, c.place_of.ensures.place)) (c.in_ok-place.ensures.value told) c.in_default-2.is

pub returns-then-place-number_of-clause-value : goal.returns-then-place-number_of-clause-value
returns-then-place-number_of-clause-value g c = λ told.
    equal_behind (pages_in (g.P.Pages.shown c.args.pages.now)) c.args.self.now (key_number c.args.key.0) c.args.after c.in-Some.from c.in_ok-place.field-0
    (c.in-Some-2.place, c.in-Some-2.field-0-1) (c.requires told)
    (omega (arith, c.in-Some.ensures, c.place_of.ensures.place)) (c.in_ok-place.ensures.value told) c.in-Some-2.is (λ e. c.if-place-number_of.true (e ∙ sym c.number_of.ensures.value))

pub returns-clause-value : goal.returns-clause-value
returns-clause-value g c = λ told.
    equal_found (pages_in (g.P.Pages.shown c.args.pages.now)) c.args.self.now (key_number c.args.key.0) c.args.after c.in-Some.from c.in_ok-place.field-0
    (c.in-Some-2.place, c.in-Some-2.field-0-1) (c.requires told)
    (omega (arith, c.in-Some.ensures, c.place_of.ensures.place)) (c.in_ok-place.ensures.value told) c.in-Some-2.is (c.if-place-number_of.false ∙ c.number_of.ensures.value) c.if-id-after.false

-- the least place from the first one on is that of an int within the bounds, or none is
use Rattle.std.proofs.Common.{subst, sym}
use Rattle.std.specs.Prelude.{ℤ, ◌<ℤ◌}
use Rattle.code_btree.specs.Tree.{pages_in}
use Rattle.attr_index.proofs.Ints.{int_in_range, int_fits, test_lt, test_le}
use Rattle.attr_index.proofs.Betweens.{place_from, between_none, between_behind, between_found}
use Rattle.attr_index.proofs.index.AttrIndex.between.Goals as goal

pub returns-in_default-clause-value : goal.returns-in_default-clause-value
returns-in_default-clause-value g c = λ told.
    between_none (pages_in (g.P.Pages.shown c.args.pages.now)) c.args.self.now c.args.low c.args.high c.args.after c.first_place-from.result c.in_ok-found.field-0 (c.requires told)
    c.first_place-from.ensures.range (place_from c.args.low c.args.after c.first_place-from.result c.ranges.low c.first_place-from.ensures.place) (c.in_ok-found.ensures.value told) c.in_default.is

pub returns-then-entry-high-clause-value : goal.returns-then-entry-high-clause-value
returns-then-entry-high-clause-value g c = λ told.
    let G : ℤ → Type 0 = λ n. c.args.high <ℤ n in
    between_behind (pages_in (g.P.Pages.shown c.args.pages.now)) c.args.self.now c.args.low c.args.high c.args.after c.first_place-from.result c.in_ok-found.field-0
    (c.in-Some.found, c.in-Some.field-0-1) (c.requires told)
    c.first_place-from.ensures.range (place_from c.args.low c.args.after c.first_place-from.result c.ranges.low c.first_place-from.ensures.place)
    (c.in_ok-found.ensures.value told) c.in-Some.is (int_in_range c.args.high c.ranges.high)
    (subst G c.int_entry-entry.ensures.number (test_lt c.args.high c.int_entry-entry.result.0 c.ranges.high (int_fits c.int_entry-entry.result.0 c.int_entry-entry.ensures.range) c.if-entry-high.true))

pub returns-clause-value : goal.returns-clause-value
returns-clause-value g c = λ told.
    let fits = int_fits c.int_entry-entry.result.0 c.int_entry-entry.ensures.range in
    between_found (pages_in (g.P.Pages.shown c.args.pages.now)) c.args.self.now c.args.low c.args.high c.args.after c.first_place-from.result c.in_ok-found.field-0
    (c.in-Some.found, c.in-Some.field-0-1) c.int_entry-entry.result
    (c.requires told) c.first_place-from.ensures.range (place_from c.args.low c.args.after c.first_place-from.result c.ranges.low c.first_place-from.ensures.place)
    (c.in_ok-found.ensures.value told) c.in-Some.is c.int_entry-entry.ensures.number c.int_entry-entry.ensures.id
    (test_le c.int_entry-entry.result.0 c.args.low fits c.ranges.low c.if-entry-low.false)
    (test_le c.args.high c.int_entry-entry.result.0 c.ranges.high fits c.if-entry-high.false) (sym c.if-not-comes_after.ensures)

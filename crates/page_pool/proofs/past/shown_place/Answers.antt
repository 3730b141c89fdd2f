use Rattle.std.proofs.Common.{sym, ap, ◌∙◌}
use Rattle.std.specs.Map.Iter.{deref_pair}
use Rattle.std.specs.Cmp.{nat_cmp_total}
use Rattle.std.proofs.lemmas.Map.Iter.{btree_map_turn, rest_all}
use Rattle.page_pool.specs.Images.{is_shown}
use Rattle.page_pool.proofs.Entries.{any_shown, none_shown, found_in}
use Rattle.page_pool.proofs.past.shown_place.Goals as goal

-- the entry is in the map
pub returns-then-is_shown-clause-found : goal.returns-then-is_shown-clause-found
returns-then-is_shown-clause-found c =
    let turn = btree_map_turn deref_pair c.images.yielded c.into_iter-place-iterator.result c.images.place-iterator c.next.new.self c.next.result
    (c.in-Some.place, c.in-Some.past) c.images.yielded_by c.in-Some.is c.next.ensures.steps
    nat_cmp_total c.args.images.now (c.into_iter-place-iterator.ensures.into_iter_gives ∙ c.iter-place-items.ensures.rest) c.iter-place-items.ensures.ordered in
    ap (is_shown c.args.n c.args.at) (found_in c.args.images.now c.in-Some.place.now c.in-Some.past.now turn.1) ∙ sym c.is_shown.ensures ∙ c.if-is_shown.true

-- none is left
pub returns-clause-none : goal.returns-clause-none
returns-clause-none c = none_shown c.args.n c.args.at c.args.images.now
    (c.images.invariant ∙ ap (any_shown c.args.n c.args.at) (rest_all deref_pair c.images.place-iterator c.next.new.self c.next.result c.in-None.is c.next.ensures.steps))

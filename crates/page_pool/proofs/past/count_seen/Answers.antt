use Rattle.std.proofs.Common.{◌≡◌, ap, arith}
use Rattle.std.specs.Map.Iter.{deref_pair}
use Rattle.std.proofs.lemmas.Map.Iter.{rest_all}
use Rattle.page_pool.proofs.Entries.{seen_among, few_among, counted_seen}
use Rattle.page_pool.proofs.past.count_seen.Goals as goal

-- there are no more than entries
pub overflow_add-count : goal.overflow_add-count
overflow_add-count c = let few = few_among c.args.held.now c.args.images.now.entries in let fits = c.iter-past-items.ensures.fits in let inv = c.images.invariant in omega arith

-- none is left
pub returns : goal.returns
returns c =
    let none : seen_among c.args.held.now c.images.past-iterator ≡ 0 =
    ap (seen_among c.args.held.now) (rest_all deref_pair c.images.past-iterator c.next.new.self c.next.result c.in-None.is c.next.ensures.steps) in
    let all = counted_seen c.args.held.now c.args.images.now c.iter-past-items.ensures.ordered in
    let inv = c.images.invariant in omega arith

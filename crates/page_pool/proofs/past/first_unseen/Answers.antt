use Rattle.std.proofs.Common.{sym, subst, ◌∙◌}
use Rattle.std.specs.declared.ops.Bound.TheVariants.{Included, Unbounded}
use Rattle.std.specs.Ordering.{nat_cmp}
use Rattle.std.specs.Prelude.{IsSomeAnd}
use Rattle.std.specs.BTreeMap.Range.{IsEntryInRange}
use Rattle.std.specs.Map.Iter.{deref_pair}
use Rattle.std.proofs.lemmas.Map.Views.{All-turn}
use Rattle.page_pool.specs.Images.{IsUnseen}
use Rattle.page_pool.proofs.Sights.{is_unseen}
use Rattle.page_pool.proofs.Entries.{found_in}
use Rattle.page_pool.proofs.past.first_unseen.Goals as goal

-- the entry is in the map, and no stamp sees it
pub returns-then-not-sees : goal.returns-then-not-sees
returns-then-not-sees c =
    let turn = All-turn deref_pair (IsEntryInRange nat_cmp
    (Included c.args.start) Unbounded c.args.images.now) c.range-place-items.result c.images.yielded c.into_iter-place-iterator.result c.images.place-iterator c.next.new.self c.next.result
    (c.in-Some.place, c.in-Some.past) (c.range-place-items.ensures.in_range tt).0 c.into_iter-place-iterator.ensures.into_iter_gives c.images.yielded_by c.in-Some.is c.next.ensures.steps in
    subst (λ o. IsSomeAnd o (λ past. IsUnseen c.args.held.now past.made past.until)) (sym (found_in c.args.images.now c.in-Some.place.now c.in-Some.past.now turn.1))
    (is_unseen c.args.held.now c.in-Some.past.now.made c.in-Some.past.now.until (sym c.sees.ensures ∙ c.if-not-sees.true))

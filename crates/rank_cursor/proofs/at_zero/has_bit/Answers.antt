-- An entry that lists an id, and one that marks an empty leaf.
use Rattle.std.proofs.Common.{sym, ap, ◌∙◌, option_to_list, refl}
use Rattle.rank_cursor.proofs.AtZeroEntries.{some_bit, no_bit}
use Rattle.rank_cursor.proofs.at_zero.has_bit.Goals as goal

pub returns-in-Some : goal.returns-in-Some
returns-in-Some c =
    let b = some_bit c.args.queue.now.below c.args.pair c.in-Some.listed (sym (ap option_to_list c.in-Some.is) ∙ c.listed_of.ensures.listed) in
    (λ yes. b.0 (c.has_bit.ensures.0 yes), λ h. c.has_bit.ensures.1 (b.1 h))

pub returns-in-None : goal.returns-in-None
returns-in-None c = (
  λ yes. no_bit c.args.queue.now.below c.args.pair (sym (ap option_to_list c.in-None.is) ∙ c.listed_of.ensures.listed),
  λ h. refl,
)

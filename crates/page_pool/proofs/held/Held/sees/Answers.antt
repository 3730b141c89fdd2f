use Rattle.std.proofs.Common.{sym, subst, ◌∙◌, arith}
use Rattle.page_pool.specs.Images.{AreSixteenSlots}
use Rattle.page_pool.proofs.Sights.{seen_in_slot, seen_in_none}
use Rattle.page_pool.proofs.held.Held.sees.Goals as goal

-- a slot has a stamp that sees it
pub returns-then-is_seen_in : goal.returns-then-is_seen_in
returns-then-is_seen_in c = sym (seen_in_slot c.args.self.now c.args.made c.args.until c.slots.slot (sym c.is_seen_in.ensures ∙ c.if-is_seen_in.true))

-- no slot has one
pub returns : goal.returns
returns c = sym (seen_in_none c.args.self.now c.args.made c.args.until (subst AreSixteenSlots c.self.view_is c.self.invariant) (λ id low. c.slots.invariant id (omega arith)))

use Rattle.std.proofs.Common.{inl, inr, sym, ap, ◌∙◌}
use Rattle.std.specs.FinMap as map
use Rattle.page_pool.proofs.cache.Cache.put.Goals as goal

pub returns-clause-sound : goal.returns-clause-sound
returns-clause-sound c = λ q bytes is.
    elim (c.put.ensures.sound q bytes is) [
      | inl this ↦ inl this
      | inr before ↦ inr (c.make_room.ensures.newest q bytes (ap (λ s. map.get s.newest q) (sym c.self.view_is) ∙ before))
    ]

pub returns-clause-past : goal.returns-clause-past
returns-clause-past c = λ q bytes is. c.make_room.ensures.past q bytes (ap (λ s. map.get s.past q) (sym c.self.view_is) ∙ is)

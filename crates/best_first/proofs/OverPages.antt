-- A search within the distance 0 over the pages, where the disk tells them: it stands within 0 where it went, since the hierarchy stays what it is.
use Rattle.std.proofs.Common.{List, Option, None, Some, IfSome, Ordering}
use Rattle.sand_base.specs.declared.visit.Visit.{Visit}
use Rattle.page_pool.specs.Disk.{PageMap}
use Rattle.best_first.specs.declared.hit.Hit.{Hit}
use Rattle.best_first.specs.declared.item.Item.{Item}
use Rattle.best_first.specs.Hierarchy.{Meaning}
use Rattle.best_first.specs.Frontier.{StandsOver}
use Rattle.best_first.specs.Visits.{SearchState, Goes, Fails}
use Rattle.best_first.proofs.Passing.{stands_over, stands_cut}
use Rattle.best_first.specs.WithinZero.{StandsWithin}

module _ {N : Type 0} (cmp : N → N → Ordering) (meaning : PageMap → Meaning N) where
  -- a search that stands within the distance 0 stands
  pub over_within : (pages : Option PageMap) (held : List (Item N)) (last : Option Hit) → IfSome pages (λ p. StandsWithin cmp (meaning p) held last)
      → IfSome pages (λ p. StandsOver cmp (meaning p) held last)
  over_within None held last stands = tt
  over_within (Some p) held last stands = stands.1

  -- the hierarchy stays within the distance 0
  pub within_over : (pages : Option PageMap) (old new : List (Item N)) (last later : Option Hit) → IfSome pages (λ p. StandsWithin cmp (meaning p) old last)
      → IfSome pages (λ p. StandsOver cmp (meaning p) new later) → IfSome pages (λ p. StandsWithin cmp (meaning p) new later)
  within_over None old new last later stands h = tt
  within_over (Some p) old new last later stands h = (stands.0, h)

  -- a search stands within the distance 0 where it went
  pub within_goes : (note : Item N → Visit) (pages : Option PageMap) (old new : SearchState N) → IfSome pages (λ p. StandsWithin cmp (meaning p) old.held old.last)
      → IfSome pages (λ p. Goes cmp (meaning p) note old new) → IfSome pages (λ p. StandsWithin cmp (meaning p) new.held new.last)
  within_goes note pages old new stands goes =
      within_over pages old.held new.held old.last new.last stands (stands_over cmp meaning note pages old new (over_within pages old.held old.last stands) goes)

  -- and after a refused step too
  pub within_cut : (note : Item N → Visit) (pages : Option PageMap) (old new : SearchState N) → IfSome pages (λ p. StandsWithin cmp (meaning p) old.held old.last)
      → IfSome pages (λ p. Fails cmp (meaning p) note old new) → IfSome pages (λ p. StandsWithin cmp (meaning p) new.held new.last)
  within_cut note pages old new stands fails =
      within_over pages old.held new.held old.last new.last stands (stands_cut cmp meaning note pages old new (over_within pages old.held old.last stands) fails)

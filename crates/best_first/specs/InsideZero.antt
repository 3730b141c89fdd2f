-- What a step inside a call does. (For proofs; no public clause speaks of it.)
use Rattle.std.specs.Prelude.{◌≡◌, Bool, true, false, Result, Ok, Err}
use Rattle.page_pool.specs.Desk.{DeskState}
use Rattle.page_pool.specs.declared.fault.PageFault.{PageFault}
use Rattle.best_first.specs.declared.frontier.Frontier.{Frontier}
use Rattle.best_first.specs.ZeroItems.{ZeroItems, AreRows}

-- a step that found nothing to do leaves all as it is, since rows alone are queued; where they are, a step finds nothing to do
abbrev pub ZeroStepSettles : {N : Type 0} → Frontier (ZeroItems N) → Frontier (ZeroItems N) → DeskState → DeskState → Result Bool PageFault → Type 0
ZeroStepSettles old new before now (Ok true) = AreRows old.queue → ⊥
ZeroStepSettles old new before now (Ok false) = (new ≡ old) × (now ≡ before) × AreRows old.queue
ZeroStepSettles old new before now (Err fault) = AreRows old.queue → ⊥

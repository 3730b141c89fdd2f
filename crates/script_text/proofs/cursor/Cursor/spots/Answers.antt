-- Each spot that is read goes to the end of those that are there.
use Rattle.std.proofs.Common.{◌∙◌, sym}
use Rattle.script_text.proofs.ListReading.{spots_end, spots_step}
use Rattle.script_text.proofs.cursor.Cursor.spots.Goals as goal

-- none comes behind the last one
pub returns-then-not-is_mark : goal.returns-then-not-is_mark
returns-then-not-is_mark c =
    rw c.in_ok-push.ensures.items
    (sym c.spots.invariant ∙ spots_end c.spots.items.items c.spots.self c.spot.new.self c.in_ok-spot.field-0 c.in_ok-spot.ensures.gives (sym c.if-not-is_mark.ensures))

-- the others are a list behind it
pub spots-preserved : goal.spots-preserved
spots-preserved c =
    rw c.in_ok-push.ensures.items
    (spots_step c.spots.items.items c.spots.self c.spot.new.self c.in_ok-spot.field-0 c.in_ok-spot.ensures.gives (sym c.if-not-is_mark.ensures) ∙ c.spots.invariant)

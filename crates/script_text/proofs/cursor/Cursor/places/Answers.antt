-- Each item that is read goes to the end of those that are there.
use Rattle.std.proofs.Common.{◌∙◌, sym}
use Rattle.script_text.proofs.ListReading.{places_end, places_step}
use Rattle.script_text.proofs.cursor.Cursor.places.Goals as goal

-- none comes behind the last one
pub returns-then-not-accept_mark : goal.returns-then-not-accept_mark
returns-then-not-accept_mark c =
    rw (c.in_ok-push.ensures.items, c.if-not-accept_mark.ensures.same)
    (sym c.places.invariant ∙ places_end c.places.items.items c.places.self c.place.new.self c.in_ok-place.field-0 c.in_ok-place.ensures c.if-not-accept_mark.ensures.other)

-- the others are a list behind it
pub places-preserved : goal.places-preserved
places-preserved c =
    rw c.in_ok-push.ensures.items
    (places_step c.places.items.items c.places.self c.place.new.self c.accept_mark.new.self c.in_ok-place.field-0 c.in_ok-place.ensures c.if-not-accept_mark.ensures ∙ c.places.invariant)

-- The characters of the text are those of the bytes.
use Rattle.std.proofs.Common.{sym, ap, ◌∙◌, length}
use Rattle.script_text.proofs.TextLemmas.{not_utf8, no_bytes, some_second, none_second}
use Rattle.script_text.proofs.text.is_plain.Goals as goal

-- there is no text
pub returns-in_default : goal.returns-in_default
returns-in_default c = not_utf8 c.args.bytes.now c.in_default.ensures.cases.0

-- there is no character
pub returns-in_default-next : goal.returns-in_default-next
returns-in_default-next c =
    no_bytes c.args.bytes.now c.in-Ok.ensures.cases.1 (ap length (sym (c.chars-chars.ensures.rest ∙ c.in-Ok.ensures.cases.0)) ∙ c.in_default-next.ensures.steps.0.0)

-- there are two
pub returns-then-is_some : goal.returns-then-is_some
returns-then-is_some c =
    some_second _ c.args.bytes.now c.next.new.self.rest.now c.next-2.new.self.rest.now c.in-Some.first c.next-2.result c.in-Ok.ensures.cases.1
    (sym (c.chars-chars.ensures.rest ∙ c.in-Ok.ensures.cases.0) ∙ c.in-Some.ensures.steps.0) (sym c.is_some.ensures ∙ c.if-is_some.true) c.next-2.ensures.steps.0

-- there is one
pub returns : goal.returns
returns c =
    none_second _ c.args.bytes.now c.next.new.self.rest.now c.next-2.new.self.rest.now c.in-Some.first c.is_control.result c.next-2.result c.in-Ok.ensures.cases.1
    (sym (c.chars-chars.ensures.rest ∙ c.in-Ok.ensures.cases.0) ∙ c.in-Some.ensures.steps.0) (sym c.is_some.ensures ∙ c.if-is_some.false) c.next-2.ensures.steps.0 c.is_control.ensures

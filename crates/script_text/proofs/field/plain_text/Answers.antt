-- Why the bytes are a text in range, or are none.
use Rattle.std.proofs.Common.{sym, ap, ◌∙◌, arith}
use Rattle.std.specs.Char.{is_control}
use Rattle.std.specs.List.{list_any}
use Rattle.std.specs.Str.{chars}
use Rattle.script_text.proofs.Fields.{not_plain, is_plain}
use Rattle.script_text.proofs.field.plain_text.Goals as goal

-- one of the characters is a control character
pub returns-then-has_control : goal.returns-then-has_control
returns-then-has_control c =
    not_plain c.args.bytes.now
    (ap (λ t. list_any is_control (chars t)) (sym c.in-Ok.ensures.cases.0) ∙ sym c.has_control.ensures ∙ c.if-has_control.true)

-- none is
pub returns : goal.returns
returns c = (
  c.in-Ok.ensures.cases.0,
  is_plain c.args.bytes.now (omega arith) c.in-Ok.ensures.cases.1
      (ap (λ t. list_any is_control (chars t)) (sym c.in-Ok.ensures.cases.0) ∙ sym c.has_control.ensures ∙ c.if-has_control.false),
)

use Rattle.std.proofs.Common.{ap, ◌∙◌, sym}
use Rattle.std.specs.Char.{is_ascii_digit}
use Rattle.std.specs.List.{prefix_len}
use Rattle.std.proofs.lemmas.List.{take_rest}
use Rattle.script_text.specs.Name.{continues_name}
use Rattle.script_text.proofs.lexer.first_cut.Goals as goal
use Rattle.script_text.proofs.RunLemmas.{IsAscii-name_cut, IsAscii-number_cut}

-- the run of a name's bytes is below 128
pub text_of-text-requires : goal.text_of-text-requires
text_of-text-requires c =
    rw c.split_at.ensures.front
    (IsAscii-name_cut c.args.bytes.now c.name_run-len.result c.in-len1-up.len_at_least (sym c.if-starts_name.ensures)
    (c.name_run-len.ensures.run ∙ ap (prefix_len continues_name) (take_rest c.args.bytes.now 1)))

-- and so are digits, and a minus before them
pub text_of-text-requires-then-begins_number : goal.text_of-text-requires-then-begins_number
text_of-text-requires-then-begins_number c =
    rw c.split_at-then-begins_number.ensures.front
    (IsAscii-number_cut c.args.bytes.now c.digit_run-digits.result c.in-len1-up.len_at_least (sym c.if-begins_number.ensures)
    (c.digit_run-digits.ensures.run ∙ ap (prefix_len is_ascii_digit) (take_rest c.args.bytes.now 1)))

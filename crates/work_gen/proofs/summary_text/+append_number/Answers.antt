-- A number of several digits is its front, a tenth of it, and its last digit.
use Rattle.std.proofs.Common.{◌+◌, ◌/◌, ◌%◌, [], ◌∷◌, ◌++◌, length, ap, sym, ◌∙◌, arith, length-append, append_assoc}
use Rattle.std.specs.Fmt.{decimal}
use Rattle.std.proofs.lemmas.Fmt.{decimal_step, decimal_digit}
use Rattle.work_gen.proofs.Decimals.{length-step, length-digit}
use Rattle.work_gen.proofs.summary_text.+append_number.Goals as goal

pub append_number-requires : goal.append_number-requires
append_number-requires t c =
    (omega arith, omega (arith, length-step c.args.number (omega arith) (omega arith)))

pub push-requires : goal.push-requires
push-requires t c = omega (arith, length-digit c.args.number (omega arith))

pub returns-then-number-lt10-clause-text : goal.returns-then-number-lt10-clause-text
returns-then-number-lt10-clause-text t c = cc (decimal_digit c.args.number (omega arith))

pub push-requires-2 : goal.push-requires-2
push-requires-2 t c =
    omega (arith, length-step c.args.number (omega arith) (omega arith), ap length c.append_number.ensures.text, length-append c.args.text.now (decimal (c.args.number / 10)))

pub returns-clause-text : goal.returns-clause-text
returns-clause-text t c =
    c.push-2.ensures ∙ ap (λ s. s ++ (48 + c.args.number % 10) ∷ []) c.append_number.ensures.text
    ∙ append_assoc c.args.text.now (decimal (c.args.number / 10)) ((48 + c.args.number % 10) ∷ [])
    ∙ ap (λ s. c.args.text.now ++ s) (sym (decimal_step c.args.number (omega arith) (omega arith)))

pub returns-then-number-lt10-clause-len : goal.returns-then-number-lt10-clause-len
returns-then-number-lt10-clause-len t c =
    ap length (returns-then-number-lt10-clause-text t c) ∙ length-append c.args.text.now (decimal c.args.number)

pub returns-clause-len : goal.returns-clause-len
returns-clause-len t c = ap length (returns-clause-text t c) ∙ length-append c.args.text.now (decimal c.args.number)

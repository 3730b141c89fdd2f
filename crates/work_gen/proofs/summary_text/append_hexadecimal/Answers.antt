-- One byte more stands at the end, by its two digits.
use Rattle.std.proofs.Common.{◌%◌, get_or, ◌++◌, [], ◌∷◌, ℕ, List, length, length-append, ap, ◌∙◌, arith}
use Rattle.work_gen.specs.Summary.{hex_digit}
use Rattle.work_gen.proofs.Hexadecimals.{next-byte}
use Rattle.work_gen.proofs.summary_text.append_hexadecimal.Goals as goal

pub bytes-preserved : goal.bytes-preserved
bytes-preserved c =
    let first = c.push.ensures ∙ ap (λ (d : ℕ). c.bytes.text ++ d ∷ []) c.hex_digit.ensures in
    record {
      text =
          c.push-in-bytes.ensures
          ∙ ap (λ (d : ℕ). c.push.new.self ++ d ∷ []) c.hex_digit-in-bytes.ensures
          ∙ ap (λ (t : List ℕ). t ++ hex_digit (get_or c.args.bytes.now c.bytes.byte-index 0 % 16) ∷ []) first
          ∙ next-byte c.args.text.now c.bytes.text c.args.bytes.now c.bytes.byte-index c.bytes-test.true c.bytes.invariant.text;
      long =
          omega (
            arith,
            c.bytes.invariant.long,
            ap length c.push.ensures,
            ap length c.push-in-bytes.ensures,
            length-append c.bytes.text (c.hex_digit.result ∷ []),
            length-append c.push.new.self (c.hex_digit-in-bytes.result ∷ []),
          );
    }

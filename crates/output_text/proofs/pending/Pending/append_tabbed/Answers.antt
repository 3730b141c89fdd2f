-- each turn appends one more number
use Rattle.std.proofs.Common.{◌∷◌, [], ◌+◌, drop, map, arith}
use Rattle.std.specs.Fmt.{decimal}
use Rattle.output_text.specs.Joined.{led}
use Rattle.output_text.proofs.Listed.{led-rest, tabbed-step}
use Rattle.output_text.proofs.pending.Pending.append_tabbed.Goals as goal

pub numbers-preserved : goal.numbers-preserved
numbers-preserved c = record {
  so_far = tabbed-step c.args.self.now c.numbers.self c.push.new.self c.append_number.new.self
      (led (9 ∷ []) (map decimal (drop c.numbers.number-index c.args.numbers.now)))
      (led (9 ∷ []) (map decimal (drop (c.numbers.number-index + 1) c.args.numbers.now)))
      (led (9 ∷ []) (map decimal c.args.numbers.now)) c.from.result c.numbers.invariant.so_far
      (led-rest (9 ∷ []) decimal c.args.numbers.now c.numbers.number-index c.from.result 0 c.numbers-test.true c.from.ensures)
      c.push.ensures.text c.append_number.ensures.text;
  room = omega (arith, c.push.ensures.len, c.append_number.ensures.len);
}

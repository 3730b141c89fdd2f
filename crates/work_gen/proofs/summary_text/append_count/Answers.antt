-- A number has at most twenty digits.
use Rattle.std.proofs.Common.{length, ap, arith}
use Rattle.work_gen.proofs.Decimals.{length-long}
use Rattle.work_gen.proofs.summary_text.append_count.Goals as goal

pub append_number-requires : goal.append_number-requires
append_number-requires c =
    let word = ap length c.as_bytes.ensures.value in
    omega (arith, word, c.append.ensures.len, c.append-2.ensures.len, length-long c.args.number (omega arith))

pub append-requires-3 : goal.append-requires-3
append-requires-3 c =
    let word = ap length c.as_bytes.ensures.value in
    omega (arith, word, c.append.ensures.len, c.append-2.ensures.len, c.append_number.ensures.len, length-long c.args.number (omega arith))

pub returns-clause-len : goal.returns-clause-len
returns-clause-len c =
    let word = ap length c.as_bytes.ensures.value in
    omega (arith, word, c.append.ensures.len, c.append-2.ensures.len, c.append_number.ensures.len, c.append-3.ensures.len, length-long c.args.number (omega arith))

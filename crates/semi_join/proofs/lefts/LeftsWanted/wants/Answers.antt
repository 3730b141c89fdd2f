-- The bit tells whether the left row waits.
use Rattle.std.proofs.Common.{◌≡◌, ◌<◌, ◌*◌, ◌/◌, ◌%◌, ◌^◌, length, nat_eq, bit_and, subst, arith}
use Rattle.std.specs.Prelude.{vec_len}
use Rattle.std.specs.Int.{w64}
use mir.Val.{bits}
use Rattle.semi_join.specs.LeftRows.{LeftRows, is_waiting}
use Rattle.semi_join.proofs.Bits.{bit_tells}
use Rattle.semi_join.proofs.lefts.LeftsWanted.wants.Goals as goal

pub returns : goal.returns
returns c =
    let words = c.self.inside.words in
    let inside : c.args.left / 64 < length words.items = let len = words.ok.0 in let under = c.if-len-place.false in let is = c.len.ensures in omega arith in
    subst (λ (v : LeftRows). nat_eq (bit_and c.index.result.now (1 * 2 ^ (c.args.left % 64) % 2 ^ bits w64)) 0 ≡ is_waiting v c.args.left) c.self.view_is
    (bit_tells words.items c.args.left c.index.result.now (vec_len words) inside words.ok.0 c.index.ensures)

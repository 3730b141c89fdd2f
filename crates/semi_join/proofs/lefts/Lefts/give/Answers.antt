-- The id's bit is set.
use Rattle.std.proofs.Common.{◌≡◌, ◌<◌, ◌*◌, ◌/◌, ◌-◌, length, ap, subst, arith}
use Rattle.std.specs.Prelude.{vec_len}
use Rattle.std.proofs.Math.ListN.{set}
use Rattle.semi_join.specs.LeftRows.{LeftRows, IdSet, gives, ids_below}
use Rattle.semi_join.proofs.Bits.{one_more, with_bit}
use Rattle.semi_join.proofs.Waiting.{has_a_bit}
use Rattle.semi_join.proofs.lefts.Lefts.give.Goals as goal

-- an id that waits has a word
pub index_mut-requires : goal.index_mut-requires
index_mut-requires c =
    let words = c.self.inside.words in
    let bound = has_a_bit c.args.self.now c.args.id c.requires.waits in
    let same : 64 * vec_len words ≡ c.args.self.now.below = ap (λ (v : LeftRows). v.below) c.self.view_is in
    let len = words.ok.0 in
    omega arith

pub returns : goal.returns
returns c =
    let words = c.self.inside.words in
    let bound = has_a_bit c.args.self.now c.args.id c.requires.waits in
    let same : 64 * vec_len words ≡ c.args.self.now.below = ap (λ (v : LeftRows). v.below) c.self.view_is in
    let inside : c.args.id / 64 < length words.items = let len = words.ok.0 in omega arith in
    let there = one_more words.items c.args.id c.index_mut.result.now (vec_len words) inside words.ok.0 c.index_mut.ensures.value in
    let after = λ (ids : IdSet). (let rows : LeftRows = record { given = ids; below = 64 * vec_len words; waiting = c.self.inside.waiting - 1 } in rows) in
    subst (λ (v : LeftRows). after (ids_below (set words.items (c.args.id / 64) (with_bit c.index_mut.result.now c.args.id)) (64 * vec_len words)) ≡ gives c.args.id v) c.self.view_is
    (ap after there)

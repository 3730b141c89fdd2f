-- the key stands there, nothing is below it, or the entry before its place
use Rattle.std.proofs.Common.{◌∙◌, ap₂, ℕ, arith}
use Rattle.std.specs.Prelude.{Some}
use Rattle.code_btree.proofs.Floors.{floor_found, floor_none, floor_below}
use Rattle.code_btree.proofs.leaf.floor_of.Goals as goal

pub returns-in-Some : goal.returns-in-Some
returns-in-Some c = λ is a. floor_found c.args.page.now c.args.count c.rank-at.result c.args.key c.in-Some.value is a c.rank-at.ensures.bound c.rank-at.ensures.before c.in-Some.ensures

pub returns-then-at-eq0 : goal.returns-then-at-eq0
returns-then-at-eq0 c = λ is a. floor_none c.args.page.now c.args.count c.rank-at.result c.args.key is a c.rank-at.ensures.bound c.rank-at.ensures.before c.rank-at.ensures.behind c.in_default.ensures c.if-at-eq0.true

pub returns : goal.returns
returns c = λ is a. ap₂ (λ (x y : ℕ). Some (x, y)) c.entry_key_at.ensures c.entry_value_at.ensures
    ∙ floor_below c.args.page.now c.args.count c.rank-at.result c.args.key is a c.rank-at.ensures.bound c.rank-at.ensures.before c.rank-at.ensures.behind c.in_default.ensures (omega arith)

-- each leaf gives its pairs of the range, and none is left at the end
use Rattle.std.proofs.Common.{◌-◌, ◌+◌, ◌∙◌, subst, arith, Ok}
use Rattle.page_pool.specs.Pool.{PoolState}
use Rattle.code_btree.specs.Tree.{Store, pages_in}
use Rattle.code_btree.specs.Between.{IsTakenIn}
use Rattle.code_btree.proofs.Stores.{same_store}
use Rattle.code_btree.proofs.Gets.{peeks_none, looks_peeks}
use Rattle.code_btree.proofs.Betweens.{part_begun, part_on, part_over, part_last, part_price, part_failed, peeks_on, peeks_more, peeks_given}
use Rattle.code_btree.proofs.between.take_on.Goals as goal

pub leaves-init : goal.leaves-init
leaves-init g c = record {
  bound = omega arith;
  peeks = peeks_none (g.P.Pages.shown c.args.pages.now) (c.args.tree.entries - c.args.tree.entries) tt;
  done = λ told want is. part_begun (pages_in (g.P.Pages.shown c.args.pages.now)) c.args.tree c.args.low c.args.high c.args.first c.args.tree.entries c.args.found.now.items want
      (g.P.Pages.shown c.args.pages.now).gets is;
}

pub leaves-preserved : goal.leaves-preserved
leaves-preserved g c =
    let inv = c.leaves.invariant in
    let a : PoolState = g.P.Pages.shown c.args.pages.now in
    let b : PoolState = g.P.Pages.shown c.leaves.pages in
    let d : PoolState = g.P.Pages.shown c.take_leaf.new.pages in
    let next = c.in_ok-leaf.leaf in
    let looks = c.in_ok-leaf.ensures.looks in
    record {
      bound = omega (arith, inv.bound);
      peeks = peeks_more a d ((c.args.tree.entries - c.leaves.left) + 1) (c.args.tree.entries - (c.leaves.left - 1)) (Ok tt) (omega (arith, inv.bound, c.leaves-test.true))
          (peeks_on a b d (c.args.tree.entries - c.leaves.left) 1 tt (Ok tt) inv.peeks (peeks_given b d 1 next tt (looks_peeks b d 1 (Ok next) looks)));
      done = λ told want is.
          let W : Store → Type 0 = λ x. IsTakenIn x c.leaves.leaf c.args.low c.args.high c.leaves.found.items c.take_leaf.new.found.items next in
          part_on (pages_in a) c.args.tree c.args.low c.args.high c.leaves.leaf c.leaves.left next c.args.found.now.items want c.leaves.found.items c.take_leaf.new.found.items a.gets b.gets d.gets
          (c.requires told) (omega (arith, c.if-leaf-eq0.false))
          (inv.done told want is) (subst W (same_store b a inv.peeks.read.pages) (c.in_ok-leaf.ensures.value (inv.peeks.read.told ∙ told))) looks.within;
    }

pub returns-then-leaf-eq0-clause-value : goal.returns-then-leaf-eq0-clause-value
returns-then-leaf-eq0-clause-value g c = λ told want is. part_over _ _ _ _ _ _ _ _ _ _ _ c.if-leaf-eq0.true (c.leaves.invariant.done told want is)

pub returns-then-leaf-eq0-clause-price : goal.returns-then-leaf-eq0-clause-price
returns-then-leaf-eq0-clause-price g c = λ told want is. part_price _ _ _ _ _ _ _ _ _ _ _ (c.leaves.invariant.done told want is)

pub returns-in_err-leaf-clause-price : goal.returns-in_err-leaf-clause-price
returns-in_err-leaf-clause-price g c = λ told want is. part_failed _ _ _ _ _ _ _ _ _ _ _ _ (omega (arith, c.if-leaf-eq0.false))
    (c.leaves.invariant.done told want is) c.in_err-leaf.ensures.looks.within

pub returns-clause-value : goal.returns-clause-value
returns-clause-value g c = λ told want is.
    let d = c.leaves.invariant.done told want is in
    part_over _ _ _ _ _ _ _ _ _ _ _ (part_last _ _ _ _ _ _ _ _ _ _ _ (omega (arith, c.leaves-test.false)) d) d

pub returns-clause-price : goal.returns-clause-price
returns-clause-price g c = λ told want is. part_price _ _ _ _ _ _ _ _ _ _ _ (c.leaves.invariant.done told want is)

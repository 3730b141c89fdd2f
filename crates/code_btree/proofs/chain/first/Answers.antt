-- the leaf of the key gives the pair, or leads to the leaf that does
use Rattle.std.proofs.Common.{◌≡◌, ◌∙◌, ◌+◌, ◌-◌, List, subst, arith}
use Rattle.std.specs.Prelude.{Ok}
use Rattle.page_pool.specs.Pool.{PoolState}
use Rattle.code_btree.specs.Node.{Pair}
use Rattle.code_btree.specs.Items.{items_from}
use Rattle.code_btree.specs.Tree.{Store, pages_in, tree_items}
use Rattle.code_btree.specs.Chain.{IsGivenIn}
use Rattle.code_btree.proofs.Stores.{same_store}
use Rattle.code_btree.proofs.Gets.{looks_more, looks_peek}
use Rattle.code_btree.proofs.Chains.{seek_moves, first_given, begins_given, given_on}
use Rattle.code_btree.proofs.chain.first.Goals as goal

pub returns-in-Some-clause-value : goal.returns-in-Some-clause-value
returns-in-Some-clause-value g c = λ told.
    let m : Store = pages_in (g.P.Pages.shown c.args.pages.now) in
    first_given m c.args.tree (items_from c.args.key (tree_items m c.args.tree)) c.in_ok-given.given c.in-Some.field-0 c.in-Some.is
    (seek_moves m c.args.tree c.args.key c.in_ok-given.given (c.requires told) (c.in_ok-given.ensures.value told))

pub returns-clause-value : goal.returns-clause-value
returns-clause-value g c = λ told.
    let a : PoolState = g.P.Pages.shown c.args.pages.now in
    let b : PoolState = g.P.Pages.shown c.seek.new.pages in
    let m : Store = pages_in a in
    let same : pages_in b ≡ m = same_store b a c.in_ok-given.ensures.looks.read.pages in
    let es : List Pair = items_from c.args.key (tree_items m c.args.tree) in
    let moves = seek_moves m c.args.tree c.args.key c.in_ok-given.given (c.requires told) (c.in_ok-given.ensures.value told) in
    let W : Store → Type 0 = λ x. IsGivenIn x c.in_ok-given.given.leaf c.in_ok-given.given.place c.in_ok-next.next in
    given_on m c.args.tree es c.in_ok-given.given.leaf c.in_ok-given.given.place c.in_ok-next.next (c.requires told)
    (begins_given m c.args.tree es c.in_ok-given.given c.in_default.is moves) c.in_ok-next.ensures.none
    (λ l. subst W same (c.in_ok-next.ensures.value l (c.in_ok-given.ensures.looks.read.told ∙ told)))

pub returns-clause-looks : goal.returns-clause-looks
returns-clause-looks g c =
    let a : PoolState = g.P.Pages.shown c.args.pages.now in
    let b : PoolState = g.P.Pages.shown c.seek.new.pages in
    let d : PoolState = g.P.Pages.shown c.give_on.new.pages in
    looks_more a d (((c.args.tree.height - 1) + 1) + 1) (c.args.tree.height + 1) (Ok c.in_ok-next.next) (omega arith)
    (looks_peek a b d ((c.args.tree.height - 1) + 1) 1 c.in_ok-given.given c.in_ok-next.next c.in_ok-given.ensures.looks c.in_ok-next.ensures.peeks)

-- one level down, and up again
use Rattle.std.proofs.Common.{◌≡◌, ◌-◌, ℕ, List, suc, sym, ◌∙◌, ap, subst, arith}
use Rattle.std.specs.Prelude.{Option, IsSome}
use Rattle.page_pool.specs.Disk.{PageMap}
use Rattle.page_pool.specs.Pool.{IsTold}
use Rattle.code_btree.specs.Node.{Node, node_of, keys_of}
use Rattle.code_btree.specs.Tree.{Store, pages_in}
use Rattle.code_btree.specs.Steps.{Subtree}
use Rattle.code_btree.specs.Removals.{RemovesUnder}
use Rattle.code_btree.proofs.Stores.{same_store}
use Rattle.code_btree.proofs.Inserts.{at_page}
use Rattle.code_btree.proofs.Removes.{taken, removed_quiet, removed_noted, removed_mended}
use Rattle.code_btree.proofs.remove.+remove_under.Goals as goal

pub remove_under-requires : goal.remove_under-requires
remove_under-requires g t c κs within = (omega arith, (within, (opened, (λ told. tree (sym c.read.ensures.within.told ∙ told)))))
  where
    opened : IsSome c.read.new.pool.beginning
    opened = let P : Option PageMap → Type 0 = λ x. IsSome x in subst P (sym c.read.ensures.within.beginning) c.requires.opened

    tree : IsTold c.args.pool.now → Subtree (pages_in c.read.new.pool) (c.args.level - 1) c.child_at-child.result
    tree told =
        let m : Store = pages_in c.args.pool.now in
        let same : pages_in c.read.new.pool ≡ m = same_store c.read.new.pool c.args.pool.now c.read.ensures.same in
        let l : c.args.level ≡ suc (c.args.level - 1) = omega arith in
        let S : ℕ → Type 0 = λ x. Subtree m x c.args.n in
        let at = at_page m (c.args.level - 1) c.args.n c.args.key c.read.new.into c.in-Some.count c.place_of-at.result (c.in_ok-read.ensures.value told)
        (subst S l (c.requires.tree told)) c.in-Some.ensures c.place_of-at.ensures.bound c.place_of-at.ensures.before c.place_of-at.ensures.behind in
        let C : ℕ → Type 0 = λ x. Subtree m (c.args.level - 1) x in
        let M : Store → Type 0 = λ x. Subtree x (c.args.level - 1) c.child_at-child.result in
        subst M (sym same) (subst C (sym c.child_at-child.ensures) at.descent.child)

pub returns-then-level-eq0-clause-value : goal.returns-then-level-eq0-clause-value
returns-then-level-eq0-clause-value g t c = λ told.
    let R : ℕ → Type 0 = λ x. RemovesUnder (pages_in c.args.pool.now) (pages_in c.remove_leaf.new.pool) x c.args.n c.args.key c.in_ok-shrunk.shrunk in
    subst R (sym c.if-level-eq0.true) (c.in_ok-shrunk.ensures.value told)

pub returns-then-below-clause-value : goal.returns-then-below-clause-value
returns-then-below-clause-value g t c = λ told.
    let m : Store = pages_in c.args.pool.now in
    let m0 : Store = pages_in c.read.new.pool in
    let w : Store = pages_in c.remove_under.new.pool in
    let v : Store = pages_in c.mend.new.pool in
    let h : ℕ = c.args.level - 1 in
    let same : m0 ≡ m = same_store c.read.new.pool c.args.pool.now c.read.ensures.same in
    let l : c.args.level ≡ suc h = omega arith in
    let S : ℕ → Type 0 = λ x. Subtree m x c.args.n in
    let at = at_page m h c.args.n c.args.key c.read.new.into c.in-Some.count c.place_of-at.result (c.in_ok-read.ensures.value told)
    (subst S l (c.requires.tree told)) c.in-Some.ensures c.place_of-at.ensures.bound c.place_of-at.ensures.before c.place_of-at.ensures.behind in
    let C : ℕ → Type 0 = λ x. RemovesUnder m0 w h x c.args.key c.in_ok-below.below in
    let r = subst C c.child_at-child.ensures (c.in_ok-below.ensures.value (c.read.ensures.within.told ∙ told)) in
    let tk = taken m0 m w h c.args.n c.args.key c.in-Some.count c.place_of-at.result c.read.new.into c.in_ok-below.below same at r in
    let R : ℕ → Type 0 = λ x. RemovesUnder m v x c.args.n c.args.key (record { was = c.in_ok-below.below.was; least = c.passed-least.result; short = c.is_short-short.result }) in
    subst R (sym l) (removed_mended m w v h c.args.n c.args.key c.in-Some.count c.place_of-at.result c.saturating_sub.result c.in_ok-size.size c.read.new.into c.note-noted.new.page c.in_ok-below.below c.passed-least.result c.is_short-short.result at tk c.note-noted.ensures.value c.note-noted.ensures.is
    c.saturating_sub.ensures (c.in_ok-size.ensures.value (c.in_ok-below.ensures.within.told
    ∙ (c.read.ensures.within.told ∙ told))) c.is_short-short.ensures c.passed-least.ensures.first c.passed-least.ensures.behind)

pub returns-then-noted-clause-value : goal.returns-then-noted-clause-value
returns-then-noted-clause-value g t c = λ told.
    let m : Store = pages_in c.args.pool.now in
    let m0 : Store = pages_in c.read.new.pool in
    let w : Store = pages_in c.remove_under.new.pool in
    let v : Store = pages_in c.write.new.pool in
    let h : ℕ = c.args.level - 1 in
    let same : m0 ≡ m = same_store c.read.new.pool c.args.pool.now c.read.ensures.same in
    let l : c.args.level ≡ suc h = omega arith in
    let S : ℕ → Type 0 = λ x. Subtree m x c.args.n in
    let at = at_page m h c.args.n c.args.key c.read.new.into c.in-Some.count c.place_of-at.result (c.in_ok-read.ensures.value told)
    (subst S l (c.requires.tree told)) c.in-Some.ensures c.place_of-at.ensures.bound c.place_of-at.ensures.before c.place_of-at.ensures.behind in
    let C : ℕ → Type 0 = λ x. RemovesUnder m0 w h x c.args.key c.in_ok-below.below in
    let r = subst C c.child_at-child.ensures (c.in_ok-below.ensures.value (c.read.ensures.within.told ∙ told)) in
    let tk = taken m0 m w h c.args.n c.args.key c.in-Some.count c.place_of-at.result c.read.new.into c.in_ok-below.below same at r in
    let R : ℕ → Type 0 = λ x. RemovesUnder m v x c.args.n c.args.key (record { was = c.in_ok-below.below.was; least = c.passed-least.result; short = c.is_short-short-2.result }) in
    subst R (sym l) (removed_noted m w v h c.args.n c.args.key c.in-Some.count c.place_of-at.result c.read.new.into c.note-noted.new.page c.in_ok-below.below c.passed-least.result c.is_short-short-2.result at tk c.note-noted.ensures.value c.note-noted.ensures.is
    c.in_ok-write.ensures.value c.if-below.false c.is_short-short-2.ensures c.passed-least.ensures.first c.passed-least.ensures.behind)

pub returns-clause-value : goal.returns-clause-value
returns-clause-value g t c = λ told.
    let m : Store = pages_in c.args.pool.now in
    let m0 : Store = pages_in c.read.new.pool in
    let w : Store = pages_in c.remove_under.new.pool in
    let h : ℕ = c.args.level - 1 in
    let same : m0 ≡ m = same_store c.read.new.pool c.args.pool.now c.read.ensures.same in
    let l : c.args.level ≡ suc h = omega arith in
    let S : ℕ → Type 0 = λ x. Subtree m x c.args.n in
    let at = at_page m h c.args.n c.args.key c.read.new.into c.in-Some.count c.place_of-at.result (c.in_ok-read.ensures.value told)
    (subst S l (c.requires.tree told)) c.in-Some.ensures c.place_of-at.ensures.bound c.place_of-at.ensures.before c.place_of-at.ensures.behind in
    let C : ℕ → Type 0 = λ x. RemovesUnder m0 w h x c.args.key c.in_ok-below.below in
    let r = subst C c.child_at-child.ensures (c.in_ok-below.ensures.value (c.read.ensures.within.told ∙ told)) in
    let tk = taken m0 m w h c.args.n c.args.key c.in-Some.count c.place_of-at.result c.read.new.into c.in_ok-below.below same at r in
    let kept = sym (ap (λ (o : Node). keys_of o) c.note-noted.ensures.value) ∙ ap (λ (p : List ℕ). keys_of (node_of p)) (c.note-noted.ensures.same c.if-noted.false) in
    let R : ℕ → Type 0 = λ x. RemovesUnder m w x c.args.n c.args.key (record { was = c.in_ok-below.below.was; least = c.passed-least.result; short = c.is_short-short-2.result }) in
    subst R (sym l) (removed_quiet m w h c.args.n c.args.key c.in-Some.count c.place_of-at.result c.read.new.into c.in_ok-below.below c.passed-least.result c.is_short-short-2.result at tk kept c.if-below.false c.is_short-short-2.ensures c.passed-least.ensures.first c.passed-least.ensures.behind)

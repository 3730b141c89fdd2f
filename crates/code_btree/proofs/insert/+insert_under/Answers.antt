-- one level down, and up again
use Rattle.std.proofs.Common.{◌≡◌, ◌-◌, ℕ, suc, sym, ◌∙◌, subst, arith}
use Rattle.std.specs.Prelude.{Option, IsSome}
use Rattle.page_pool.specs.Disk.{PageMap}
use Rattle.page_pool.specs.Pool.{IsTold}
use Rattle.code_btree.specs.Tree.{Store, pages_in}
use Rattle.code_btree.specs.Steps.{Subtree, InsertsUnder, Packs}
use Rattle.code_btree.specs.declared.insert.Grown.{Grown}
use Rattle.code_btree.specs.declared.insert.Grown.TheVariants.{Kept}
use Rattle.code_btree.proofs.Stores.{same_store}
use Rattle.code_btree.proofs.Inserts.{at_page, insert_quiet}
use Rattle.code_btree.proofs.Packs.{put_under, split_under, insert_packed}
use Rattle.code_btree.proofs.insert.+insert_under.Goals as goal

pub insert_under-requires : goal.insert_under-requires
insert_under-requires g t c κs within = (omega arith, (within, (opened, (λ told. tree (sym c.read.ensures.within.told ∙ told)))))
  where
    opened : IsSome c.read.new.pool.beginning
    opened = let P : Option PageMap → Type 0 = λ x. IsSome x in subst P (sym c.read.ensures.within.beginning) c.requires.opened

    tree : IsTold c.args.pool.now → Subtree (pages_in c.read.new.pool) (c.args.level - 1) c.child_at-child.result
    tree told =
        let m : Store = pages_in c.args.pool.now in
        let m0 : Store = pages_in c.read.new.pool in
        let same : m0 ≡ m = same_store c.read.new.pool c.args.pool.now c.read.ensures.same in
        let l : c.args.level ≡ suc (c.args.level - 1) = omega arith in
        let S : ℕ → Type 0 = λ x. Subtree m x c.args.n in
        let at = at_page m (c.args.level - 1) c.args.n c.args.key c.read.new.into c.in-Some.count c.place_of-at.result (c.in_ok-read.ensures.value told)
        (subst S l (c.requires.tree told)) c.in-Some.ensures c.place_of-at.ensures.bound c.place_of-at.ensures.before c.place_of-at.ensures.behind in
        let C : ℕ → Type 0 = λ x. Subtree m (c.args.level - 1) x in
        let M : Store → Type 0 = λ x. Subtree x (c.args.level - 1) c.child_at-child.result in
        subst M (sym same) (subst C (sym c.child_at-child.ensures) at.descent.child)

pub returns-in-Kept-clause-value : goal.returns-in-Kept-clause-value
returns-in-Kept-clause-value g t c = λ told.
    let m : Store = pages_in c.args.pool.now in
    let w : Store = pages_in c.insert_under.new.pool in
    let m0 : Store = pages_in c.read.new.pool in
    let same : m0 ≡ m = same_store c.read.new.pool c.args.pool.now c.read.ensures.same in
    let l : c.args.level ≡ suc (c.args.level - 1) = omega arith in
    let S : ℕ → Type 0 = λ x. Subtree m x c.args.n in
    let at = at_page m (c.args.level - 1) c.args.n c.args.key c.read.new.into c.in-Some.count c.place_of-at.result (c.in_ok-read.ensures.value told)
    (subst S l (c.requires.tree told)) c.in-Some.ensures c.place_of-at.ensures.bound c.place_of-at.ensures.before c.place_of-at.ensures.behind in
    let G : Grown → Type 0 = λ x. InsertsUnder m0 w (c.args.level - 1) c.child_at-child.result c.args.key c.args.value c.in_ok-was.was' x in
    let C : ℕ → Type 0 = λ x. InsertsUnder m0 w (c.args.level - 1) x c.args.key c.args.value c.in_ok-was.was' Kept in
    let i = subst C c.child_at-child.ensures (subst G c.in-Kept.is (c.in_ok-was.ensures.value (c.read.ensures.within.told ∙ told))) in
    let R : ℕ → Type 0 = λ x. InsertsUnder m w x c.args.n c.args.key c.args.value c.in_ok-was.was' Kept in
    subst R (sym l) (insert_quiet m0 m w (c.args.level - 1) c.args.n c.args.key c.args.value c.in-Some.count c.place_of-at.result c.read.new.into c.in_ok-was.was' same at i)

pub returns-in_default-grown-clause-value : goal.returns-in_default-grown-clause-value
returns-in_default-grown-clause-value g t c = λ told.
    (split_under (pages_in c.read.new.pool) (pages_in c.args.pool.now) (pages_in c.insert_under.new.pool)
    (pages_in c.adopt.new.pool) c.args.level c.args.n c.args.key c.args.value c.in-Some.count c.place_of-at.result c.in-Split.up c.in-Split.right c.child_at-child.result c.read.new.into c.in_ok-was.was' c.in_ok-was.below c.in_ok-grown-in-Split.grown
    (same_store c.read.new.pool c.args.pool.now c.read.ensures.same) (omega arith) (c.in_ok-read.ensures.value told)
    (c.requires.tree told) c.in-Some.ensures c.place_of-at.ensures.bound c.place_of-at.ensures.before c.place_of-at.ensures.behind
    c.child_at-child.ensures c.in-Split.is (c.in_ok-was.ensures.value (c.read.ensures.within.told ∙ told)) c.in_ok-grown-in-Split.ensures.value).0

pub returns-in_default-grown-2-clause-value : goal.returns-in_default-grown-2-clause-value
returns-in_default-grown-2-clause-value g t c = λ told.
    (split_under (pages_in c.read.new.pool) (pages_in c.args.pool.now) (pages_in c.insert_under.new.pool)
    (pages_in c.adopt.new.pool) c.args.level c.args.n c.args.key c.args.value c.in-Some.count c.place_of-at.result c.in-Split.up c.in-Split.right c.child_at-child.result c.read.new.into c.in_ok-was.was' c.in_ok-was.below c.in_ok-grown-in-Split.grown
    (same_store c.read.new.pool c.args.pool.now c.read.ensures.same) (omega arith) (c.in_ok-read.ensures.value told)
    (c.requires.tree told) c.in-Some.ensures c.place_of-at.ensures.bound c.place_of-at.ensures.before c.place_of-at.ensures.behind
    c.child_at-child.ensures c.in-Split.is (c.in_ok-was.ensures.value (c.read.ensures.within.told ∙ told)) c.in_ok-grown-in-Split.ensures.value).0

-- the page has a key more, and so may lose one to a leaf that is packed
pub pack-requires-clause-tree : goal.pack-requires-clause-tree
pack-requires-clause-tree g t c = λ late. tree (sym c.read.ensures.within.told ∙ (sym c.insert_under.ensures.within.told ∙ (sym c.adopt.ensures.within.told ∙ late)))
  where
    tree : IsTold c.args.pool.now → Subtree (pages_in c.adopt.new.pool) 1 c.args.n
    tree told =
        let s = split_under (pages_in c.read.new.pool) (pages_in c.args.pool.now) (pages_in c.insert_under.new.pool)
        (pages_in c.adopt.new.pool) c.args.level c.args.n c.args.key c.args.value c.in-Some.count c.place_of-at.result c.in-Split.up c.in-Split.right c.child_at-child.result c.read.new.into c.in_ok-was.was' c.in_ok-was.below c.in_ok-grown-in-Split.grown
        (same_store c.read.new.pool c.args.pool.now c.read.ensures.same) (omega arith) (c.in_ok-read.ensures.value told)
        (c.requires.tree told) c.in-Some.ensures c.place_of-at.ensures.bound c.place_of-at.ensures.before c.place_of-at.ensures.behind
        c.child_at-child.ensures c.in-Split.is (c.in_ok-was.ensures.value (c.read.ensures.within.told ∙ told)) c.in_ok-grown-in-Split.ensures.value in
        let G : Grown → Type 0 = λ x. InsertsUnder (pages_in c.args.pool.now) (pages_in c.adopt.new.pool) c.args.level c.args.n c.args.key c.args.value c.in_ok-was.was' x in
        let S : ℕ → Type 0 = λ x. Subtree (pages_in c.adopt.new.pool) x c.args.n in
        subst S c.if-level-eq1.true (put_under (pages_in c.args.pool.now) (pages_in c.adopt.new.pool) c.args.level c.args.n c.args.key c.args.value c.in_ok-was.was'
        (c.requires.tree told) (subst G c.in-Kept-grown.is s.0))

pub returns-in_ok-pack-in-Kept-grown-clause-value : goal.returns-in_ok-pack-in-Kept-grown-clause-value
returns-in_ok-pack-in-Kept-grown-clause-value g t c = λ told.
    let s = split_under (pages_in c.read.new.pool) (pages_in c.args.pool.now) (pages_in c.insert_under.new.pool)
    (pages_in c.adopt.new.pool) c.args.level c.args.n c.args.key c.args.value c.in-Some.count c.place_of-at.result c.in-Split.up c.in-Split.right c.child_at-child.result c.read.new.into c.in_ok-was.was' c.in_ok-was.below c.in_ok-grown-in-Split.grown
    (same_store c.read.new.pool c.args.pool.now c.read.ensures.same) (omega arith) (c.in_ok-read.ensures.value told)
    (c.requires.tree told) c.in-Some.ensures c.place_of-at.ensures.bound c.place_of-at.ensures.before c.place_of-at.ensures.behind
    c.child_at-child.ensures c.in-Split.is (c.in_ok-was.ensures.value (c.read.ensures.within.told ∙ told)) c.in_ok-grown-in-Split.ensures.value in
    let G : Grown → Type 0 = λ x. InsertsUnder (pages_in c.args.pool.now) (pages_in c.adopt.new.pool) c.args.level c.args.n c.args.key c.args.value c.in_ok-was.was' x in
    let P : ℕ → Type 0 = λ x. Packs (pages_in c.adopt.new.pool) (pages_in c.pack.new.pool) x c.args.n in
    insert_packed (pages_in c.args.pool.now) (pages_in c.adopt.new.pool) (pages_in c.pack.new.pool) c.args.level c.args.n c.args.key c.args.value c.in_ok-was.was'
    (c.requires.tree told) (subst G c.in-Kept-grown.is s.0) (s.1 c.in-Kept-grown.is)
    (subst P (sym c.if-level-eq1.true) (c.in_ok-pack-in-Kept-grown.ensures.value (c.adopt.ensures.within.told ∙ (c.insert_under.ensures.within.told ∙ (c.read.ensures.within.told ∙ told)))))

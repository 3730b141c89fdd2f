-- the ways down that find nothing are passed by; the one that finds the member is settled
use Rattle.std.proofs.Common.{◌≡◌, ◌+◌, ◌*◌, ◌-◌, ◌≤◌, ℕ, List, true, false, suc, get_or, refl, sym, ◌∙◌, ap, subst, arith}
use Rattle.std.specs.Prelude.{IsSome, IfNone, Option}
use Rattle.std.specs.List.{swap_remove}
use Rattle.page_pool.specs.Disk.{PageMap}
use Rattle.page_pool.specs.Pool.{PoolState, IsTold}
use Rattle.code_btree.specs.Tree.{Store, pages_in}
use Rattle.code_btree.proofs.Stores.{same_store}
use Rattle.sand_base.specs.declared.rect.Rect.{Rect}
use Rattle.r_tree.specs.declared.entry.NodeEntry.{NodeEntry}
use Rattle.r_tree.specs.declared.remove.Shrunk.{Shrunk}
use Rattle.r_tree.specs.Entry.{Member, box_of, covers}
use Rattle.r_tree.specs.Ways.{ways_under}
use Rattle.r_tree.specs.Steps.{NodeTree, RemovesUnder, TakesUnder, SettlesEntry}
use Rattle.r_tree.proofs.Inserts.{child_tree}
use Rattle.r_tree.proofs.Removes.{settles_from}
use Rattle.r_tree.proofs.Passes.{Tried, tried_after, none_passed, passed_over, passed_down, all_passed, reads_all, reads_last}
use Rattle.r_tree.proofs.remove.+remove_under.Goals as goal

pub entries-init : goal.entries-init
entries-init g t c = (none_passed c.read_node.new.pool c.args.level c.in_ok-entries.entries.items (c.args.id, c.args.rough), refl)

pub entries-preserved-then-not-covers : goal.entries-preserved-then-not-covers
entries-preserved-then-not-covers g t c =
    let es : List NodeEntry = c.in_ok-entries.entries.items in
    let e : NodeEntry = c.index-entry.result.now in
    let tried : Tried c.read_node.new.pool c.args.level c.args.n es =
    tried_after c.args.pool.now c.read_node.new.pool c.args.level c.args.n es c.if-level-eq0.false c.read_node.ensures.same c.read_node.ensures.within.told c.in_ok-entries.ensures.value c.requires.tree in
    let B : Rect → Type 0 = λ x. covers (box_of e.rough) x ≡ false in
    let A : Rect → Type 0 = λ x. covers x c.box_of-place.result ≡ false in (
      passed_over c.read_node.new.pool c.entries.pool c.args.level c.args.n c.entries.at es (c.args.id, c.args.rough) e tried
          (omega (arith, c.entries-test.true, c.len-at-end.ensures, c.in_ok-entries.entries.ok.0))
          (c.index-entry.ensures ∙ ap (λ (x : List NodeEntry). get_or x c.entries.at c.index-entry.result.now) (ap (λ v. v.items) c.entries.invariant.1))
          (subst B c.box_of-place.ensures (subst A c.box_of.ensures (sym c.covers.ensures ∙ c.if-not-covers.true))) c.entries.invariant.0,
      c.entries.invariant.1,
    )

pub remove_under-requires : goal.remove_under-requires
remove_under-requires g t c κs within = (omega arith, (within, (opened, tree)))
  where
    opened : IsSome c.entries.pool.beginning
    opened = let P : Option PageMap → Type 0 = λ x. IsSome x in subst P (sym (c.entries.invariant.0.within.beginning ∙ c.read_node.ensures.within.beginning)) c.requires.opened

    tree : IsTold c.entries.pool → NodeTree (pages_in c.entries.pool) (c.args.level - 1) c.index-entry.result.now.child
    tree told =
        let es : List NodeEntry = c.in_ok-entries.entries.items in
        let a : PoolState = c.read_node.new.pool in
        let e : NodeEntry = c.index-entry.result.now in
        let tried : Tried a c.args.level c.args.n es =
        tried_after c.args.pool.now a c.args.level c.args.n es c.if-level-eq0.false c.read_node.ensures.same c.read_node.ensures.within.told c.in_ok-entries.ensures.value c.requires.tree in
        let k : IsTold a = sym c.entries.invariant.0.within.told ∙ told in
        let M : Store → Type 0 = λ x. NodeTree x (c.args.level - 1) e.child in
        subst M (sym (same_store c.entries.pool a c.entries.invariant.0.same))
        (child_tree (pages_in a) (c.args.level - 1) c.args.n c.entries.at e es (tried k).0 (tried k).1
        (omega (arith, c.entries-test.true, c.len-at-end.ensures, c.in_ok-entries.entries.ok.0))
        (c.index-entry.ensures ∙ ap (λ (x : List NodeEntry). get_or x c.entries.at c.index-entry.result.now) (ap (λ v. v.items) c.entries.invariant.1)))

pub settle-requires : goal.settle-requires
settle-requires g t c = let P : Option PageMap → Type 0 = λ x. IsSome x in
    subst P (sym (c.in_ok-below.ensures.within.beginning ∙ (c.entries.invariant.0.within.beginning ∙ c.read_node.ensures.within.beginning))) c.requires.opened

pub returns-in-Some-clause-value : goal.returns-in-Some-clause-value
returns-in-Some-clause-value g t c = λ told.
    let m : Store = pages_in c.args.pool.now in
    let h : ℕ = c.args.level - 1 in
    let es : List NodeEntry = c.in_ok-entries.entries.items in
    let e : NodeEntry = c.index-entry.result.now in
    let x : NodeEntry = c.swap_remove.result in
    let i : Member = (c.args.id, c.args.rough) in
    let l : c.args.level ≡ suc h = omega arith in
    let S : ℕ → Type 0 = λ y. NodeTree m y c.args.n in
    let R : ℕ → Type 0 = λ y. RemovesUnder m (pages_in c.settle.new.pool) y c.args.n i c.in_ok-shrunk.shrunk in
    let T : Option Shrunk → Type 0 = λ y. TakesUnder (pages_in c.entries.pool) (pages_in c.remove_under.new.pool) h e.child i y in
    let k : IsTold c.entries.pool = c.entries.invariant.0.within.told ∙ (c.read_node.ensures.within.told ∙ told) in
    let same : pages_in c.entries.pool ≡ m = same_store c.entries.pool c.read_node.new.pool c.entries.invariant.0.same ∙ same_store c.read_node.new.pool c.args.pool.now c.read_node.ensures.same in
    let seen : c.entries.entries.items ≡ es = ap (λ v. v.items) c.entries.invariant.1 in
    let st : SettlesEntry m (pages_in c.remove_under.new.pool) h c.args.n i e c.swap_remove.new.self.items c.in-Some.below =
    settles_from m (pages_in c.entries.pool) (pages_in c.remove_under.new.pool) h c.args.n c.entries.at i e x es c.swap_remove.new.self.items c.in-Some.below same
    (c.in_ok-entries.ensures.value told) (subst S l (c.requires.tree told))
    (omega (arith, c.entries-test.true, c.len-at-end.ensures, c.in_ok-entries.entries.ok.0))
    (c.index-entry.ensures ∙ ap (λ (x : List NodeEntry). get_or x c.entries.at c.index-entry.result.now) (ap (λ v. v.items) c.entries.invariant.1))
    (c.swap_remove.ensures.value ∙ ap (λ (y : List NodeEntry). get_or y c.entries.at x) seen) (c.swap_remove.ensures.items ∙ ap (λ (y : List NodeEntry). swap_remove y c.entries.at x) seen)
    (subst T c.in-Some.is (c.in_ok-below.ensures.value k)) in
    subst R (sym l) (c.in_ok-shrunk.ensures.value (c.in_ok-below.ensures.within.told ∙ k) m i e refl st)

pub entries-preserved : goal.entries-preserved
entries-preserved g t c =
    let es : List NodeEntry = c.in_ok-entries.entries.items in
    let e : NodeEntry = c.index-entry.result.now in
    let i : Member = (c.args.id, c.args.rough) in
    let T : Option Shrunk → Type 0 = λ x. IsTold c.entries.pool → TakesUnder (pages_in c.entries.pool) (pages_in c.remove_under.new.pool) (c.args.level - 1) e.child i x in
    let B : Rect → Type 0 = λ x. covers (box_of e.rough) x ≡ true in
    let A : Rect → Type 0 = λ x. covers x c.box_of-place.result ≡ true in
    let S : Option Shrunk → Type 0 = λ x. IfNone x (c.remove_under.new.pool.pages ≡ c.entries.pool.pages) in
    let N : Option Shrunk → Type 0 = λ x. IfNone x (IsTold c.entries.pool
    → c.remove_under.new.pool.gets ≤ c.entries.pool.gets + ways_under (pages_in c.entries.pool) (c.args.level - 1) e.child (box_of c.args.rough)) in (
      passed_down c.read_node.new.pool c.entries.pool c.remove_under.new.pool c.args.level c.entries.at es i e
          (omega (arith, c.entries-test.true, c.len-at-end.ensures, c.in_ok-entries.entries.ok.0))
          (c.index-entry.ensures ∙ ap (λ (x : List NodeEntry). get_or x c.entries.at c.index-entry.result.now) (ap (λ v. v.items) c.entries.invariant.1))
          (subst S c.in_default.is c.in_ok-below.ensures.same) c.in_ok-below.ensures.within c.in_ok-below.ensures.cause.counted
          (subst T c.in_default.is c.in_ok-below.ensures.value) (subst B c.box_of-place.ensures (subst A c.box_of.ensures (sym c.covers.ensures ∙ c.if-not-covers.false)))
          (subst N c.in_default.is c.in_ok-below.ensures.passed) c.entries.invariant.0,
      c.entries.invariant.1,
    )

pub returns-clause-value : goal.returns-clause-value
returns-clause-value g t c = λ told.
    let es : List NodeEntry = c.in_ok-entries.entries.items in
    let tried : Tried c.read_node.new.pool c.args.level c.args.n es =
    tried_after c.args.pool.now c.read_node.new.pool c.args.level c.args.n es c.if-level-eq0.false c.read_node.ensures.same c.read_node.ensures.within.told c.in_ok-entries.ensures.value c.requires.tree in
    all_passed c.read_node.new.pool c.entries.pool c.args.pool.now c.args.level c.args.n c.entries.at es
    (c.args.id, c.args.rough) c.if-level-eq0.false c.read_node.ensures.same c.read_node.ensures.within.told tried
    (omega (arith, c.entries-test.false, c.len-at-end.ensures, c.in_ok-entries.entries.ok.0)) c.entries.invariant.0 told

pub returns-clause-same : goal.returns-clause-same
returns-clause-same g t c = c.entries.invariant.0.same ∙ c.read_node.ensures.same

-- the ways so far, and one more that was refused
pub returns-in_err-below-clause-gets : goal.returns-in_err-below-clause-gets
returns-in_err-below-clause-gets g t c = λ told.
    let es : List NodeEntry = c.in_ok-entries.entries.items in
    let e : NodeEntry = c.index-entry.result.now in
    let tried : Tried c.read_node.new.pool c.args.level c.args.n es =
    tried_after c.args.pool.now c.read_node.new.pool c.args.level c.args.n es c.if-level-eq0.false c.read_node.ensures.same c.read_node.ensures.within.told c.in_ok-entries.ensures.value c.requires.tree in
    let B : Rect → Type 0 = λ x. covers (box_of e.rough) x ≡ true in
    let A : Rect → Type 0 = λ x. covers x c.box_of-place.result ≡ true in
    let reads : c.remove_under.new.pool.gets ≤ c.args.pool.now.gets + (ways_under (pages_in c.args.pool.now) c.args.level c.args.n (box_of c.args.rough) + 2 * (c.args.level - 1)) =
    reads_last c.read_node.new.pool c.entries.pool c.args.pool.now c.args.level c.args.n c.entries.at c.remove_under.new.pool.gets (2 * (c.args.level - 1)) es
    (c.args.id, c.args.rough) e c.if-level-eq0.false c.read_node.ensures.same c.read_node.ensures.within.told c.in_ok-entries.ensures.gets tried
    (omega (arith, c.entries-test.true, c.len-at-end.ensures, c.in_ok-entries.entries.ok.0))
    (c.index-entry.ensures ∙ ap (λ (x : List NodeEntry). get_or x c.entries.at c.index-entry.result.now) (ap (λ v. v.items) c.entries.invariant.1))
    (subst B c.box_of-place.ensures (subst A c.box_of.ensures (sym c.covers.ensures ∙ c.if-not-covers.false))) c.in_err-below.ensures.gets c.entries.invariant.0 told in
    omega (arith, reads)

-- the ways so far, one more, and the two nodes that may be balanced
pub returns-in_err-shrunk-clause-gets : goal.returns-in_err-shrunk-clause-gets
returns-in_err-shrunk-clause-gets g t c = λ told.
    let es : List NodeEntry = c.in_ok-entries.entries.items in
    let e : NodeEntry = c.index-entry.result.now in
    let tried : Tried c.read_node.new.pool c.args.level c.args.n es =
    tried_after c.args.pool.now c.read_node.new.pool c.args.level c.args.n es c.if-level-eq0.false c.read_node.ensures.same c.read_node.ensures.within.told c.in_ok-entries.ensures.value c.requires.tree in
    let B : Rect → Type 0 = λ x. covers (box_of e.rough) x ≡ true in
    let A : Rect → Type 0 = λ x. covers x c.box_of-place.result ≡ true in
    let reads : c.remove_under.new.pool.gets ≤ c.args.pool.now.gets + (ways_under (pages_in c.args.pool.now) c.args.level c.args.n (box_of c.args.rough) + 2 * (c.args.level - 1)) =
    reads_last c.read_node.new.pool c.entries.pool c.args.pool.now c.args.level c.args.n c.entries.at c.remove_under.new.pool.gets (2 * (c.args.level - 1)) es
    (c.args.id, c.args.rough) e c.if-level-eq0.false c.read_node.ensures.same c.read_node.ensures.within.told c.in_ok-entries.ensures.gets tried
    (omega (arith, c.entries-test.true, c.len-at-end.ensures, c.in_ok-entries.entries.ok.0))
    (c.index-entry.ensures ∙ ap (λ (x : List NodeEntry). get_or x c.entries.at c.index-entry.result.now) (ap (λ v. v.items) c.entries.invariant.1))
    (subst B c.box_of-place.ensures (subst A c.box_of.ensures (sym c.covers.ensures ∙ c.if-not-covers.false))) c.in_ok-below.ensures.gets c.entries.invariant.0 told in
    omega (arith, reads, c.in_err-shrunk.ensures.gets, c.if-level-eq0.false)

-- the ways so far, one more, and the two nodes that may be balanced
pub returns-in-Some-clause-gets : goal.returns-in-Some-clause-gets
returns-in-Some-clause-gets g t c = λ told.
    let es : List NodeEntry = c.in_ok-entries.entries.items in
    let e : NodeEntry = c.index-entry.result.now in
    let tried : Tried c.read_node.new.pool c.args.level c.args.n es =
    tried_after c.args.pool.now c.read_node.new.pool c.args.level c.args.n es c.if-level-eq0.false c.read_node.ensures.same c.read_node.ensures.within.told c.in_ok-entries.ensures.value c.requires.tree in
    let B : Rect → Type 0 = λ x. covers (box_of e.rough) x ≡ true in
    let A : Rect → Type 0 = λ x. covers x c.box_of-place.result ≡ true in
    let reads : c.remove_under.new.pool.gets ≤ c.args.pool.now.gets + (ways_under (pages_in c.args.pool.now) c.args.level c.args.n (box_of c.args.rough) + 2 * (c.args.level - 1)) =
    reads_last c.read_node.new.pool c.entries.pool c.args.pool.now c.args.level c.args.n c.entries.at c.remove_under.new.pool.gets (2 * (c.args.level - 1)) es
    (c.args.id, c.args.rough) e c.if-level-eq0.false c.read_node.ensures.same c.read_node.ensures.within.told c.in_ok-entries.ensures.gets tried
    (omega (arith, c.entries-test.true, c.len-at-end.ensures, c.in_ok-entries.entries.ok.0))
    (c.index-entry.ensures ∙ ap (λ (x : List NodeEntry). get_or x c.entries.at c.index-entry.result.now) (ap (λ v. v.items) c.entries.invariant.1))
    (subst B c.box_of-place.ensures (subst A c.box_of.ensures (sym c.covers.ensures ∙ c.if-not-covers.false))) c.in_ok-below.ensures.gets c.entries.invariant.0 told in
    omega (arith, reads, c.in_ok-shrunk.ensures.gets, c.if-level-eq0.false)

-- all ways were passed by
pub returns-clause-gets : goal.returns-clause-gets
returns-clause-gets g t c = λ told.
    let es : List NodeEntry = c.in_ok-entries.entries.items in
    let tried : Tried c.read_node.new.pool c.args.level c.args.n es =
    tried_after c.args.pool.now c.read_node.new.pool c.args.level c.args.n es c.if-level-eq0.false c.read_node.ensures.same c.read_node.ensures.within.told c.in_ok-entries.ensures.value c.requires.tree in
    let reads : c.entries.pool.gets ≤ c.args.pool.now.gets + ways_under (pages_in c.args.pool.now) c.args.level c.args.n (box_of c.args.rough) =
    reads_all c.read_node.new.pool c.entries.pool c.args.pool.now c.args.level c.args.n c.entries.at es
    (c.args.id, c.args.rough) c.if-level-eq0.false c.read_node.ensures.same c.read_node.ensures.within.told c.in_ok-entries.ensures.gets tried c.entries.invariant.0 told in
    omega (arith, reads)

-- all ways were passed by
pub returns-clause-passed : goal.returns-clause-passed
returns-clause-passed g t c = λ told.
    let es : List NodeEntry = c.in_ok-entries.entries.items in
    let tried : Tried c.read_node.new.pool c.args.level c.args.n es =
    tried_after c.args.pool.now c.read_node.new.pool c.args.level c.args.n es c.if-level-eq0.false c.read_node.ensures.same c.read_node.ensures.within.told c.in_ok-entries.ensures.value c.requires.tree in
    let reads : c.entries.pool.gets ≤ c.args.pool.now.gets + ways_under (pages_in c.args.pool.now) c.args.level c.args.n (box_of c.args.rough) =
    reads_all c.read_node.new.pool c.entries.pool c.args.pool.now c.args.level c.args.n c.entries.at es
    (c.args.id, c.args.rough) c.if-level-eq0.false c.read_node.ensures.same c.read_node.ensures.within.told c.in_ok-entries.ensures.gets tried c.entries.invariant.0 told in
    omega (arith, reads)

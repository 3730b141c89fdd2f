-- the members are the first level; each level is laid out over the one below
use Rattle.std.proofs.Common.{◌≡◌, ◌≤◌, ◌∙◌, ℕ, suc, Bool, List, [], length, refl, sym, subst, arith, nat_lt}
use Rattle.std.specs.Prelude.{IsSome, Option}
use Rattle.page_pool.specs.Disk.{PageMap}
use Rattle.page_pool.specs.Steps.{InCommand-refl, InCommand-trans}
use Rattle.code_btree.specs.Tree.{Store, pages_in}
use Rattle.r_tree.specs.declared.entry.NodeEntry.{NodeEntry}
use Rattle.r_tree.specs.Steps.{LaysNodes, IsTop}
use Rattle.r_tree.proofs.Removes.{is_inner_test}
use Rattle.r_tree.proofs.Tilings.{level_first, level_next, level_fewer}
use Rattle.r_tree.proofs.build.tile_all.Goals as goal

pub levels-init : goal.levels-init
levels-init g c = record {
  within = InCommand-refl c.args.pool.now;
  failures = refl;
  gets = refl;
  top = level_first (pages_in c.args.pool.now) c.in_ok-entries.entries.items c.args.list.now c.in_ok-entries.ensures;
}

pub tile_level-requires : goal.tile_level-requires
tile_level-requires g c = let P : Option PageMap → Type 0 = λ x. IsSome x in subst P (sym c.levels.invariant.within.beginning) c.requires

pub levels-preserved : goal.levels-preserved
levels-preserved g c =
    let m : Store = pages_in c.args.pool.now in
    let u : Store = pages_in c.levels.pool in
    let w : Store = pages_in c.tile_level.new.pool in
    let es : List NodeEntry = c.levels.entries.items in
    let row : List NodeEntry = c.in_ok-entries-2.entries.items in
    let l : ℕ = c.levels.level in
    let B : Bool → Type 0 = λ x. LaysNodes u w x es [] row in
    let E : List NodeEntry → Type 0 = λ x. LaysNodes u w (nat_lt 0 l) x [] row in
    let T : ℕ → Type 0 = λ x. IsTop m w x row c.args.list.now in
    let many : 127 ≤ length es = omega (arith, c.levels-test.true, c.len.ensures, c.levels.entries.ok.0) in
    let level : suc l ≡ c.in-Some.above = omega (arith, c.in-Some.ensures) in
    record {
      within = InCommand-trans c.args.pool.now c.levels.pool c.tile_level.new.pool c.levels.invariant.within c.in_ok-entries-2.ensures.within;
      failures = c.in_ok-entries-2.ensures.cause.counted ∙ c.levels.invariant.failures;
      gets = c.in_ok-entries-2.ensures.gets ∙ c.levels.invariant.gets;
      top = subst T level (level_next m u w l es row c.args.list.now many c.levels.invariant.top (subst B (is_inner_test l) (subst E c.deref_mut.ensures.value c.in_ok-entries-2.ensures.value)));
    }

pub levels-smaller : goal.levels-smaller
levels-smaller g c =
    let es : List NodeEntry = c.levels.entries.items in
    let row : List NodeEntry = c.in_ok-entries-2.entries.items in
    let E : List NodeEntry → Type 0 = λ x. LaysNodes (pages_in c.levels.pool) (pages_in c.tile_level.new.pool) (nat_lt 0 c.levels.level) x [] row in
    let many : 127 ≤ length es = omega (arith, c.levels-test.true, c.len.ensures, c.levels.entries.ok.0) in
    level_fewer (pages_in c.levels.pool) (pages_in c.tile_level.new.pool) (nat_lt 0 c.levels.level) es row many (subst E c.deref_mut.ensures.value c.in_ok-entries-2.ensures.value)

pub returns-clause-value : goal.returns-clause-value
returns-clause-value g c = c.levels.invariant.top

-- A leaf is entered as it is; the children of a block that is divided are entered one after another.
use Rattle.std.proofs.Common.{◌<◌, ◌≤◌, inl, inr, ◌⊎◌, length, get_or, sym, ◌∙◌, subst, arith}
use Rattle.sand_base.specs.declared.TheConstants.{COORDINATE_BITS}
use Rattle.z_code.specs.declared.block.Block.{Block}
use Rattle.page_pool.specs.Disk.{PageMap}
use Rattle.page_pool.specs.Steps.{IsRead-trans}
use Rattle.pmr_tree.proofs.GrowSteps.{first_block, second_block, third_block, fourth_block}
use Rattle.pmr_build.proofs.Blocks.{leaf_enters, leaf_too_many}
use Rattle.pmr_build.proofs.Children.{on_ok, on_err, err_passed, first_is, second_is, third_is, fourth_is, walk, all_entered, first_full, second_full, third_full, fourth_full}
use Rattle.pmr_build.proofs.enter.+enter.Goals.{then-list-most-via-then-list-most, then-list-most-via-else-list-most+then-from-ge-COORDINATE_BITS}
use Rattle.pmr_build.proofs.enter.+enter.Goals as goal

-- the block that an array gives where it has none
abbrev none : Block
none = record { z = 0; level = 0 }

pub returns-then-list-most-clause-entered : goal.returns-then-list-most-clause-entered
returns-then-list-most-clause-entered g t c =
    let few : (length c.args.list.now ≤ c.args.most) ⊎ (COORDINATE_BITS ≤ c.args.block.level) =
    elim c.then-list-most.branch [
      | then-list-most-via-then-list-most w ↦ inl (omega (arith, w.if-list-most.true))
      | then-list-most-via-else-list-most+then-from-ge-COORDINATE_BITS w ↦ inr (omega (arith, w.if-from-ge-COORDINATE_BITS.true, w.from.ensures))
    ] in
    on_ok c.enter_leaf.result
    (λ is told m tells are. leaf_enters (g.S.ShapeOf.rows c.args.shapes.now (g.P.Pages.shown c.args.pages.now).pages) m c.args.rule.threshold c.args.block c.args.most c.args.list.now
    c.args.entries.now.items c.enter_leaf.new.entries.items are few is) c.enter_leaf.ensures.entered

pub returns-then-list-most-clause-full : goal.returns-then-list-most-clause-full
returns-then-list-most-clause-full g t c =
    let few : (length c.args.list.now ≤ c.args.most) ⊎ (COORDINATE_BITS ≤ c.args.block.level) =
    elim c.then-list-most.branch [
      | then-list-most-via-then-list-most w ↦ inl (omega (arith, w.if-list-most.true))
      | then-list-most-via-else-list-most+then-from-ge-COORDINATE_BITS w ↦ inr (omega (arith, w.if-from-ge-COORDINATE_BITS.true, w.from.ensures))
    ] in
    on_err c.enter_leaf.result
    (λ e over full told m tells are. leaf_too_many m c.args.rule c.args.block c.args.most c.args.list.now (length c.args.entries.now.items) few (over full)) c.enter_leaf.ensures.full

pub enter-requires : goal.enter-requires
enter-requires g t c κs live =
    let up = subst (λ n. n < COORDINATE_BITS) c.from.ensures c.if-from-ge-COORDINATE_BITS.false in
    let kid = first_block c.args.block _ _ c.children.ensures.value c.requires.block up in
    let level = kid.1 in
    let r1 = c.in_ok-division.ensures.read in
    let P : PageMap → Type 0 = λ p. g.S.ShapeOf.Stands c.args.shapes.now p in
    (omega (arith, up, level), (live.0, (live.1, ((λ told. subst P (sym r1.pages) (c.requires.stands (sym r1.told ∙ told))), (kid.0, c.requires.few)))))

pub returns-in_err-enter-clause-full : goal.returns-in_err-enter-clause-full
returns-in_err-enter-clause-full g t c =
    let rows = g.S.ShapeOf.rows c.args.shapes.now in
    let s0 = g.P.Pages.shown c.args.pages.now in
    let s1 = g.P.Pages.shown c.divided.new.pages in
    let up = subst (λ n. n < COORDINATE_BITS) c.from.ensures c.if-from-ge-COORDINATE_BITS.false in
    let d = c.in_ok-division.division in
    let b = c.args.block in
    let cs = c.children.result in
    let w = walk rows s0 s1 c.args.rule b c.args.most c.args.list.now d c.from-2.result c.from-2.ensures up c.if-list-most.false c.in_ok-division.ensures.read c.in_ok-division.ensures.divided in
    err_passed _ c.from_residual-in_err-enter.result _ c.from_residual-in_err-enter.ensures
    (λ full. first_full rows s0 s1 c.args.rule b c.args.most c.args.list.now d (get_or cs 0 none) c.deref.result.now
    c.args.entries.now.items w
    (record { block = first_is b cs none c.children.ensures.value; members = c.deref.ensures.value })
    (c.in_err-enter.ensures.full full))

pub enter-requires-2 : goal.enter-requires-2
enter-requires-2 g t c κs live =
    let up = subst (λ n. n < COORDINATE_BITS) c.from.ensures c.if-from-ge-COORDINATE_BITS.false in
    let kid = second_block c.args.block _ _ c.children.ensures.value c.requires.block up in
    let level = kid.1 in
    let r1 = c.in_ok-division.ensures.read in
    let r2 = IsRead-trans (g.P.Pages.shown c.args.pages.now) (g.P.Pages.shown c.divided.new.pages) (g.P.Pages.shown c.enter.new.pages) r1 c.in_ok-enter.ensures.read in
    let P : PageMap → Type 0 = λ p. g.S.ShapeOf.Stands c.args.shapes.now p in
    (omega (arith, up, level), (live.0, (live.1, ((λ told. subst P (sym r2.pages) (c.requires.stands (sym r2.told ∙ told))), (kid.0, c.in_ok-enter.ensures.few)))))

pub returns-in_err-enter-2-clause-full : goal.returns-in_err-enter-2-clause-full
returns-in_err-enter-2-clause-full g t c =
    let rows = g.S.ShapeOf.rows c.args.shapes.now in
    let s0 = g.P.Pages.shown c.args.pages.now in
    let s1 = g.P.Pages.shown c.divided.new.pages in
    let up = subst (λ n. n < COORDINATE_BITS) c.from.ensures c.if-from-ge-COORDINATE_BITS.false in
    let d = c.in_ok-division.division in
    let b = c.args.block in
    let cs = c.children.result in
    let w = walk rows s0 s1 c.args.rule b c.args.most c.args.list.now d c.from-2.result c.from-2.ensures up c.if-list-most.false c.in_ok-division.ensures.read c.in_ok-division.ensures.divided in
    let s2 = g.P.Pages.shown c.enter.new.pages in
    err_passed _ c.from_residual-in_err-enter-2.result _ c.from_residual-in_err-enter-2.ensures
    (λ full. second_full rows s0 s1 s2 c.args.rule b c.args.most c.args.list.now d (get_or cs 0 none) (get_or cs 1 none) c.deref.result.now c.deref-2.result.now
    c.args.entries.now.items c.enter.new.entries.items w c.in_ok-enter.ensures.read
    (record { block = first_is b cs none c.children.ensures.value; members = c.deref.ensures.value })
    (record { block = second_is b cs none c.children.ensures.value; members = c.deref-2.ensures.value })
    c.in_ok-enter.ensures.entered (c.in_err-enter-2.ensures.full full))

pub enter-requires-3 : goal.enter-requires-3
enter-requires-3 g t c κs live =
    let up = subst (λ n. n < COORDINATE_BITS) c.from.ensures c.if-from-ge-COORDINATE_BITS.false in
    let kid = third_block c.args.block _ _ c.children.ensures.value c.requires.block up in
    let level = kid.1 in
    let r1 = c.in_ok-division.ensures.read in
    let r2 = IsRead-trans (g.P.Pages.shown c.args.pages.now) (g.P.Pages.shown c.divided.new.pages) (g.P.Pages.shown c.enter.new.pages) r1 c.in_ok-enter.ensures.read in
    let r3 = IsRead-trans (g.P.Pages.shown c.args.pages.now) (g.P.Pages.shown c.enter.new.pages) (g.P.Pages.shown c.enter-2.new.pages) r2 c.in_ok-enter-2.ensures.read in
    let P : PageMap → Type 0 = λ p. g.S.ShapeOf.Stands c.args.shapes.now p in
    (omega (arith, up, level), (live.0, (live.1, ((λ told. subst P (sym r3.pages) (c.requires.stands (sym r3.told ∙ told))), (kid.0, c.in_ok-enter-2.ensures.few)))))

pub returns-in_err-enter-3-clause-full : goal.returns-in_err-enter-3-clause-full
returns-in_err-enter-3-clause-full g t c =
    let rows = g.S.ShapeOf.rows c.args.shapes.now in
    let s0 = g.P.Pages.shown c.args.pages.now in
    let s1 = g.P.Pages.shown c.divided.new.pages in
    let up = subst (λ n. n < COORDINATE_BITS) c.from.ensures c.if-from-ge-COORDINATE_BITS.false in
    let d = c.in_ok-division.division in
    let b = c.args.block in
    let cs = c.children.result in
    let w = walk rows s0 s1 c.args.rule b c.args.most c.args.list.now d c.from-2.result c.from-2.ensures up c.if-list-most.false c.in_ok-division.ensures.read c.in_ok-division.ensures.divided in
    let s2 = g.P.Pages.shown c.enter.new.pages in
    let s3 = g.P.Pages.shown c.enter-2.new.pages in
    err_passed _ c.from_residual-in_err-enter-3.result _ c.from_residual-in_err-enter-3.ensures
    (λ full. third_full rows s0 s1 s2 s3 c.args.rule b c.args.most c.args.list.now d (get_or cs 0 none) (get_or cs 1 none)
    (get_or cs 2 none) c.deref.result.now c.deref-2.result.now c.deref-3.result.now
    c.args.entries.now.items c.enter.new.entries.items c.enter-2.new.entries.items w c.in_ok-enter.ensures.read c.in_ok-enter-2.ensures.read
    (record { block = first_is b cs none c.children.ensures.value; members = c.deref.ensures.value })
    (record { block = second_is b cs none c.children.ensures.value; members = c.deref-2.ensures.value })
    (record { block = third_is b cs none c.children.ensures.value; members = c.deref-3.ensures.value })
    c.in_ok-enter.ensures.entered c.in_ok-enter-2.ensures.entered (c.in_err-enter-3.ensures.full full))

pub enter-requires-4 : goal.enter-requires-4
enter-requires-4 g t c κs live =
    let up = subst (λ n. n < COORDINATE_BITS) c.from.ensures c.if-from-ge-COORDINATE_BITS.false in
    let kid = fourth_block c.args.block _ _ c.children.ensures.value c.requires.block up in
    let level = kid.1 in
    let r1 = c.in_ok-division.ensures.read in
    let r2 = IsRead-trans (g.P.Pages.shown c.args.pages.now) (g.P.Pages.shown c.divided.new.pages) (g.P.Pages.shown c.enter.new.pages) r1 c.in_ok-enter.ensures.read in
    let r3 = IsRead-trans (g.P.Pages.shown c.args.pages.now) (g.P.Pages.shown c.enter.new.pages) (g.P.Pages.shown c.enter-2.new.pages) r2 c.in_ok-enter-2.ensures.read in
    let r4 = IsRead-trans (g.P.Pages.shown c.args.pages.now) (g.P.Pages.shown c.enter-2.new.pages) (g.P.Pages.shown c.enter-3.new.pages) r3 c.in_ok-enter-3.ensures.read in
    let P : PageMap → Type 0 = λ p. g.S.ShapeOf.Stands c.args.shapes.now p in
    (omega (arith, up, level), (live.0, (live.1, ((λ told. subst P (sym r4.pages) (c.requires.stands (sym r4.told ∙ told))), (kid.0, c.in_ok-enter-3.ensures.few)))))

pub returns-in_err-enter-4-clause-full : goal.returns-in_err-enter-4-clause-full
returns-in_err-enter-4-clause-full g t c =
    let rows = g.S.ShapeOf.rows c.args.shapes.now in
    let s0 = g.P.Pages.shown c.args.pages.now in
    let s1 = g.P.Pages.shown c.divided.new.pages in
    let up = subst (λ n. n < COORDINATE_BITS) c.from.ensures c.if-from-ge-COORDINATE_BITS.false in
    let d = c.in_ok-division.division in
    let b = c.args.block in
    let cs = c.children.result in
    let w = walk rows s0 s1 c.args.rule b c.args.most c.args.list.now d c.from-2.result c.from-2.ensures up c.if-list-most.false c.in_ok-division.ensures.read c.in_ok-division.ensures.divided in
    let s2 = g.P.Pages.shown c.enter.new.pages in
    let s3 = g.P.Pages.shown c.enter-2.new.pages in
    let s4 = g.P.Pages.shown c.enter-3.new.pages in
    err_passed _ c.from_residual-in_err-enter-4.result _ c.from_residual-in_err-enter-4.ensures
    (λ full. fourth_full rows s0 s1 s2 s3 s4 c.args.rule b c.args.most c.args.list.now d (get_or cs 0 none) (get_or cs 1 none) (get_or cs 2 none)
    (get_or cs 3 none) c.deref.result.now c.deref-2.result.now c.deref-3.result.now c.deref-4.result.now
    c.args.entries.now.items c.enter.new.entries.items c.enter-2.new.entries.items c.enter-3.new.entries.items w c.in_ok-enter.ensures.read c.in_ok-enter-2.ensures.read c.in_ok-enter-3.ensures.read
    (record { block = first_is b cs none c.children.ensures.value; members = c.deref.ensures.value })
    (record { block = second_is b cs none c.children.ensures.value; members = c.deref-2.ensures.value })
    (record { block = third_is b cs none c.children.ensures.value; members = c.deref-3.ensures.value })
    (record { block = fourth_is b cs none c.children.ensures.value; members = c.deref-4.ensures.value })
    c.in_ok-enter.ensures.entered c.in_ok-enter-2.ensures.entered c.in_ok-enter-3.ensures.entered (c.in_err-enter-4.ensures.full full))

pub returns-clause-entered : goal.returns-clause-entered
returns-clause-entered g t c =
    let rows = g.S.ShapeOf.rows c.args.shapes.now in
    let s0 = g.P.Pages.shown c.args.pages.now in
    let s1 = g.P.Pages.shown c.divided.new.pages in
    let up = subst (λ n. n < COORDINATE_BITS) c.from.ensures c.if-from-ge-COORDINATE_BITS.false in
    let d = c.in_ok-division.division in
    let b = c.args.block in
    let cs = c.children.result in
    let w = walk rows s0 s1 c.args.rule b c.args.most c.args.list.now d c.from-2.result c.from-2.ensures up c.if-list-most.false c.in_ok-division.ensures.read c.in_ok-division.ensures.divided in
    let s2 = g.P.Pages.shown c.enter.new.pages in
    let s3 = g.P.Pages.shown c.enter-2.new.pages in
    let s4 = g.P.Pages.shown c.enter-3.new.pages in
    all_entered rows s0 s1 s2 s3 s4 c.args.rule b c.args.most c.args.list.now d (get_or cs 0 none) (get_or cs 1 none) (get_or cs 2 none)
    (get_or cs 3 none) c.deref.result.now c.deref-2.result.now c.deref-3.result.now c.deref-4.result.now
    c.args.entries.now.items c.enter.new.entries.items c.enter-2.new.entries.items c.enter-3.new.entries.items c.enter-4.new.entries.items w c.in_ok-enter.ensures.read c.in_ok-enter-2.ensures.read c.in_ok-enter-3.ensures.read
    (record { block = first_is b cs none c.children.ensures.value; members = c.deref.ensures.value })
    (record { block = second_is b cs none c.children.ensures.value; members = c.deref-2.ensures.value })
    (record { block = third_is b cs none c.children.ensures.value; members = c.deref-3.ensures.value })
    (record { block = fourth_is b cs none c.children.ensures.value; members = c.deref-4.ensures.value })
    c.in_ok-enter.ensures.entered c.in_ok-enter-2.ensures.entered c.in_ok-enter-3.ensures.entered c.in_ok-enter-4.ensures.entered

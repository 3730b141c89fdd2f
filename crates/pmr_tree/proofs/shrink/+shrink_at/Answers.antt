-- The id leaves at the leaf; each place above it merges, or is an inner one still.
use Rattle.std.proofs.Common.{arith}
use Rattle.pmr_tree.specs.Leaves.{firsts}
use Rattle.pmr_tree.proofs.Refusals.{passed_on}
use Rattle.pmr_tree.proofs.Ends.{Step, step_of, child_stands, block_stands, block_inner, block_kept, block_merged}
use Rattle.pmr_tree.proofs.shrink.+shrink_at.Goals as goal

pub shrink_at-requires : goal.shrink_at-requires
shrink_at-requires g t c κs live =
    let below = c.if-block-leaf.false in
    let child = c.block_with-child in
    let step : g.S.Ground.IsKnown c.args.ground.now c.args.pages.now → Step c.args.leaf c.args.block child.result c.args.id (firsts (g.S.Ground.pairs c.args.ground.now c.args.pages.now)) =
    λ k. step_of c.args.leaf c.args.block child.result c.args.id (firsts (g.S.Ground.pairs c.args.ground.now c.args.pages.now))
    (c.requires.place k below) below c.requires.block child.ensures.block child.ensures.level child.ensures.code in (
      omega (arith, below, c.requires.leaf.in_tree, child.ensures.level),
      (
        live.0,
        (
          live.1,
          (
            c.requires.ready,
            (
              child.ensures.block,
              (
                c.requires.leaf,
                (
                  c.requires.id,
                  (
                    λ k. child_stands c.args.leaf c.args.block child.result c.args.id _ (step k),
                    (λ k lower. (step k).has, (c.requires.shapes, λ k lower. c.requires.alone k below)),
                  ),
                ),
              ),
            ),
          ),
        ),
      ),
    )

-- accepted calls lead on to the refused one, and its refusal is passed on
pub returns-in_err-shrink-clause-leads : goal.returns-in_err-shrink-clause-leads
returns-in_err-shrink-clause-leads g t c =
    passed_on _ _ (g.S.Ground.Leads c.args.ground.now c.args.pages.now c.shrink.new.ground c.shrink.new.pages) c.from_residual.ensures c.in_err-shrink.ensures.leads

pub returns-in_err-shrink_at-clause-leads : goal.returns-in_err-shrink_at-clause-leads
returns-in_err-shrink_at-clause-leads g t c =
    passed_on _ _ (g.S.Ground.Leads c.args.ground.now c.args.pages.now c.shrink_at.new.ground c.shrink_at.new.pages) c.from_residual-in_err-shrink_at.ensures c.in_err-shrink_at.ensures.leads

pub returns-then-not-branch-clause-leads : goal.returns-then-not-branch-clause-leads
returns-then-not-branch-clause-leads g t c = c.in_ok-shrink_at.ensures.leads

-- accepted calls leave the pages ready for the next one
pub merge-requires-clause-ready : goal.merge-requires-clause-ready
merge-requires-clause-ready g t c = g.met.S.Ground.ready _ _ _ _ c.in_ok-shrink_at.ensures.leads c.requires.ready

pub returns-in_err-merged-clause-leads : goal.returns-in_err-merged-clause-leads
returns-in_err-merged-clause-leads g t c =
    passed_on _ _ (g.S.Ground.Leads c.args.ground.now c.args.pages.now c.merge.new.ground c.merge.new.pages) c.from_residual-in_err-merged.ensures
    (g.met.S.Ground.onward _ _ _ _ _ _ _ c.in_ok-shrink_at.ensures.leads c.in_err-merged.ensures.leads)

pub returns-clause-leads : goal.returns-clause-leads
returns-clause-leads g t c = g.met.S.Ground.onward _ _ _ _ _ _ _ c.in_ok-shrink_at.ensures.leads c.in_ok-merged.ensures.leads

pub returns-then-not-branch-clause-keys : goal.returns-then-not-branch-clause-keys
returns-then-not-branch-clause-keys g t c = λ k m has tells one.
    let below = c.if-block-leaf.false in
    let child = c.block_with-child in
    let step = step_of c.args.leaf c.args.block child.result c.args.id (firsts (g.S.Ground.pairs c.args.ground.now c.args.pages.now))
    (c.requires.place k below) below c.requires.block child.ensures.block child.ensures.level child.ensures.code in
    block_kept c.args.leaf c.args.block child.result c.args.id _ step m (c.requires.alone k below m has tells one) c.args.threshold _ (c.in_ok-shrink_at.ensures.keys k m has tells one)
    (c.in_ok-shrink_at.ensures.inner c.if-not-branch.true k)

pub returns-then-not-branch-clause-inner : goal.returns-then-not-branch-clause-inner
returns-then-not-branch-clause-inner g t c = λ no k.
    let below = c.if-block-leaf.false in
    let child = c.block_with-child in
    let step = step_of c.args.leaf c.args.block child.result c.args.id (firsts (g.S.Ground.pairs c.args.ground.now c.args.pages.now))
    (c.requires.place k below) below c.requires.block child.ensures.block child.ensures.level child.ensures.code in
    let told = c.requires.shapes k in
    block_inner c.args.leaf c.args.block child.result c.args.id _ step told.meets (c.requires.alone k below told.meets told.has told.told told.one) c.args.threshold _
    (c.in_ok-shrink_at.ensures.keys k told.meets told.has told.told told.one)

pub merge-requires-clause-stands : goal.merge-requires-clause-stands
merge-requires-clause-stands g t c = λ known.
    let below = c.if-block-leaf.false in
    let child = c.block_with-child in
    let k = g.met.S.Ground.knew _ _ _ _ c.in_ok-shrink_at.ensures.leads known in
    let step = step_of c.args.leaf c.args.block child.result c.args.id (firsts (g.S.Ground.pairs c.args.ground.now c.args.pages.now))
    (c.requires.place k below) below c.requires.block child.ensures.block child.ensures.level child.ensures.code in
    let told = c.requires.shapes k in
    block_stands c.args.leaf c.args.block child.result c.args.id _ step told.meets (c.requires.alone k below told.meets told.has told.told told.one) c.args.threshold _
    (c.in_ok-shrink_at.ensures.keys k told.meets told.has told.told told.one)

pub merge-requires-clause-inner : goal.merge-requires-clause-inner
merge-requires-clause-inner g t c = λ known.
    let below = c.if-block-leaf.false in
    let child = c.block_with-child in
    let k = g.met.S.Ground.knew _ _ _ _ c.in_ok-shrink_at.ensures.leads known in
    let step = step_of c.args.leaf c.args.block child.result c.args.id (firsts (g.S.Ground.pairs c.args.ground.now c.args.pages.now))
    (c.requires.place k below) below c.requires.block child.ensures.block child.ensures.level child.ensures.code in
    let told = c.requires.shapes k in
    block_inner c.args.leaf c.args.block child.result c.args.id _ step told.meets (c.requires.alone k below told.meets told.has told.told told.one) c.args.threshold _
    (c.in_ok-shrink_at.ensures.keys k told.meets told.has told.told told.one)

pub returns-clause-keys : goal.returns-clause-keys
returns-clause-keys g t c = λ k m has tells one.
    let below = c.if-block-leaf.false in
    let child = c.block_with-child in
    let step = step_of c.args.leaf c.args.block child.result c.args.id (firsts (g.S.Ground.pairs c.args.ground.now c.args.pages.now))
    (c.requires.place k below) below c.requires.block child.ensures.block child.ensures.level child.ensures.code in
    block_merged c.args.leaf c.args.block child.result c.args.id _ step m (c.requires.alone k below m has tells one) c.args.threshold _ _ (c.in_ok-shrink_at.ensures.keys k m has tells one)
    (c.in_ok-merged.ensures.keys (g.met.S.Ground.known _ _ _ _ c.in_ok-shrink_at.ensures.leads k))

pub returns-clause-values : goal.returns-clause-values
returns-clause-values g t c = λ k test w. c.in_ok-merged.ensures.values (g.met.S.Ground.known _ _ _ _ c.in_ok-shrink_at.ensures.leads k) test (c.in_ok-shrink_at.ensures.values k test w)

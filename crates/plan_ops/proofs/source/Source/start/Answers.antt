-- By the kind of the source: its columns passed their checks, and it begins over all pages over which the catalog stands.
use Rattle.std.proofs.Common.{ℕ, List, subst, sym, ◌≡◌, None, Some}
use Rattle.sand_base.specs.declared.goal.Goal.TheVariants as figure
use Rattle.sand_model.specs.Checks.{check_relation}
use Rattle.sand_store.specs.Contents.{database_in}
use Rattle.plan_ops.specs.Sources.{source_at}
use Rattle.plan_ops.specs.declared.source.Source.TheVariants as source
use Rattle.plan_ops.proofs.Started.{scan_checked, rank_checked, near_checked, window_checked, pick_checked, ints_checked, join_checked, semi_checked, knn_checked}
use Rattle.plan_ops.proofs.Started.{rank_untaken, near_untaken, rank_ranks, window_ranks, join_untaken, semi_untaken, knn_untaken}
use Rattle.plan_ops.proofs.source.Source.start.Goals as goal

pub scan-requires : goal.scan-requires
scan-requires c = λ pages.
    subst (λ (name : List ℕ). check_relation (database_in pages c.args.catalog.now.relations) name ≡ None) (sym c.as_str.ensures)
    (scan_checked c.args.catalog.now c.args.plan.now c.in-Scan.relation c.in-Scan.is c.requires.openable pages)

pub tree_column-requires-clause-checked : goal.tree_column-requires-clause-checked
tree_column-requires-clause-checked c =
    rank_checked c.args.catalog.now c.args.plan.now c.in-Rank.column c.in-Rank.goal c.in-Rank.within c.in-Rank.is c.requires.openable

pub rtree_column-requires-clause-checked : goal.rtree_column-requires-clause-checked
rtree_column-requires-clause-checked c =
    near_checked c.args.catalog.now c.args.plan.now c.in-Near.column c.in-Near.goal c.in-Near.within c.in-Near.is c.requires.openable

pub tree_column-requires-in-Window-clause-checked : goal.tree_column-requires-in-Window-clause-checked
tree_column-requires-in-Window-clause-checked c =
    window_checked c.args.catalog.now c.args.plan.now c.in-Window.column c.in-Window.window c.in-Window.is c.requires.openable

pub pick_equal-requires-clause-checked : goal.pick_equal-requires-clause-checked
pick_equal-requires-clause-checked c =
    pick_checked c.args.catalog.now c.args.plan.now c.in-PickEqual.column c.in-PickEqual.value c.in-PickEqual.is c.requires.openable

pub pick_between-requires-clause-checked : goal.pick_between-requires-clause-checked
pick_between-requires-clause-checked c =
    ints_checked c.args.catalog.now c.args.plan.now c.in-PickBetween.column c.in-PickBetween.low c.in-PickBetween.high c.in-PickBetween.is c.requires.openable

pub tree_column-left-requires-clause-checked : goal.tree_column-left-requires-clause-checked
tree_column-left-requires-clause-checked c = λ pages.
    (join_checked c.args.catalog.now c.args.plan.now c.in-Join.left c.in-Join.right c.in-Join.within c.in-Join.is c.requires.openable pages).0

pub tree_column-right-requires-clause-checked : goal.tree_column-right-requires-clause-checked
tree_column-right-requires-clause-checked c = λ pages.
    (join_checked c.args.catalog.now c.args.plan.now c.in-Join.left c.in-Join.right c.in-Join.within c.in-Join.is c.requires.openable pages).1

pub tree_column-left-requires-in-Semi-clause-checked : goal.tree_column-left-requires-in-Semi-clause-checked
tree_column-left-requires-in-Semi-clause-checked c = λ pages.
    (semi_checked c.args.catalog.now c.args.plan.now c.in-Semi.left c.in-Semi.right c.in-Semi.within c.in-Semi.is c.requires.openable pages).0

pub tree_column-left-requires-in-Knn-clause-checked : goal.tree_column-left-requires-in-Knn-clause-checked
tree_column-left-requires-in-Knn-clause-checked c = λ pages.
    (knn_checked c.args.catalog.now c.args.plan.now c.in-Knn.k c.in-Knn.left c.in-Knn.right c.in-Knn.within c.in-Knn.is c.requires.openable pages).0

pub tree_column-right-requires-in-Semi-clause-checked : goal.tree_column-right-requires-in-Semi-clause-checked
tree_column-right-requires-in-Semi-clause-checked c = λ pages.
    (semi_checked c.args.catalog.now c.args.plan.now c.in-Semi.left c.in-Semi.right c.in-Semi.within c.in-Semi.is c.requires.openable pages).1

pub tree_column-right-requires-in-Knn-clause-checked : goal.tree_column-right-requires-in-Knn-clause-checked
tree_column-right-requires-in-Knn-clause-checked c = λ pages.
    (knn_checked c.args.catalog.now c.args.plan.now c.in-Knn.k c.in-Knn.left c.in-Knn.right c.in-Knn.within c.in-Knn.is c.requires.openable pages).1

pub returns-in_ok-ranked-in-Rank-clause-begun : goal.returns-in_ok-ranked-in-Rank-clause-begun
returns-in_ok-ranked-in-Rank-clause-begun c =
    let f = c.tree_column.result in
    let h = c.tree_column.ensures in
    rank_untaken (source_at (source.Rank c.in_ok-ranked-in-Rank.ranked)) c.args.catalog.now c.in-Rank.column f.relation.now f.column f.tree.now
    (figure.Shape c.in_ok-copy-in-Rank.field-0) c.in-Rank.within c.args.plan.now c.requires.openable
    (record { named = h.named; spatial = h.spatial; tree_of = h.tree; stands = h.stands }) c.in_ok-ranked-in-Rank.ensures.begun
    (rank_ranks c.args.plan.now c.in-Rank.column c.in-Rank.goal c.in_ok-copy-in-Rank.field-0 c.in-Rank.within c.in-Rank.is c.in_ok-copy-in-Rank.ensures)

pub returns-in_ok-near-in-Near-clause-begun : goal.returns-in_ok-near-in-Near-clause-begun
returns-in_ok-near-in-Near-clause-begun c =
    let f = c.rtree_column.result in
    let h = c.rtree_column.ensures in
    near_untaken (source_at (source.Near c.in_ok-near-in-Near.near)) c.args.catalog.now c.in-Near.column f.relation.now f.column f.tree
    c.in-Near.goal c.in_ok-goal-in-Near.goal c.in-Near.within c.args.plan.now c.requires.openable
    (record { named = h.named; tree_of = h.tree; described = h.described; stands = h.stands }) c.in_ok-near-in-Near.ensures.begun c.in-Near.is c.in_ok-goal-in-Near.ensures

pub returns-in_ok-ranked-in-Window-clause-begun : goal.returns-in_ok-ranked-in-Window-clause-begun
returns-in_ok-ranked-in-Window-clause-begun c =
    let f = c.tree_column-in-Window.result in
    let h = c.tree_column-in-Window.ensures in
    rank_untaken (source_at (source.Rank c.in_ok-ranked-in-Window.ranked)) c.args.catalog.now c.in-Window.column f.relation.now f.column f.tree.now
    (figure.Rect c.in-Window.window) (Some 0) c.args.plan.now c.requires.openable
    (record { named = h.named; spatial = h.spatial; tree_of = h.tree; stands = h.stands }) c.in_ok-ranked-in-Window.ensures.begun
    (window_ranks c.args.plan.now c.in-Window.column c.in-Window.window c.in-Window.is)

pub returns-in_ok-start-in-Join-clause-begun : goal.returns-in_ok-start-in-Join-clause-begun
returns-in_ok-start-in-Join-clause-begun c =
    let f = c.tree_column-left.result in
    let h = c.tree_column-left.ensures in
    let g = c.tree_column-right.result in
    let k = c.tree_column-right.ensures in
    join_untaken c.args.catalog.now c.args.plan.now c.in-Join.left c.in-Join.right c.in-Join.within f.relation.now f.column f.tree.now g.relation.now g.column g.tree.now c.requires.openable
    (record { named = h.named; spatial = h.spatial; tree_of = h.tree; stands = h.stands }) (record { named = k.named; spatial = k.spatial; tree_of = k.tree; stands = k.stands })
    (source_at (source.Join c.in_ok-start-in-Join.field-0)) c.in-Join.is c.in_ok-start-in-Join.ensures.begun

pub returns-in_ok-start-in-Semi-clause-begun : goal.returns-in_ok-start-in-Semi-clause-begun
returns-in_ok-start-in-Semi-clause-begun c =
    let f = c.tree_column-left-in-Semi.result in
    let h = c.tree_column-left-in-Semi.ensures in
    let g = c.tree_column-right-in-Semi.result in
    let k = c.tree_column-right-in-Semi.ensures in
    semi_untaken c.args.catalog.now c.args.plan.now c.in-Semi.left c.in-Semi.right c.in-Semi.within f.relation.now f.column f.tree.now g.relation.now g.column g.tree.now c.requires.openable
    (record { named = h.named; spatial = h.spatial; tree_of = h.tree; stands = h.stands }) (record { named = k.named; spatial = k.spatial; tree_of = k.tree; stands = k.stands })
    (source_at (source.Semi c.in_ok-start-in-Semi.field-0)) c.in-Semi.is c.in_ok-start-in-Semi.ensures.begun

pub returns-in_ok-start-in-Knn-clause-begun : goal.returns-in_ok-start-in-Knn-clause-begun
returns-in_ok-start-in-Knn-clause-begun c =
    let f = c.tree_column-left-in-Knn.result in
    let h = c.tree_column-left-in-Knn.ensures in
    let g = c.tree_column-right-in-Knn.result in
    let k = c.tree_column-right-in-Knn.ensures in
    knn_untaken c.args.catalog.now c.args.plan.now c.in-Knn.left c.in-Knn.right c.in-Knn.within f.relation.now f.column f.tree.now g.relation.now g.column g.tree.now c.requires.openable
    (record { named = h.named; spatial = h.spatial; tree_of = h.tree; stands = h.stands }) (record { named = k.named; spatial = k.spatial; tree_of = k.tree; stands = k.stands })
    (source_at (source.Knn c.in_ok-start-in-Knn.field-0)) c.in-Knn.k c.in-Knn.is c.in_ok-start-in-Knn.ensures.begun

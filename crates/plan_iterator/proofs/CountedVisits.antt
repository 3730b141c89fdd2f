-- Counts of visits: none at first, and between two others, call after call.
use Rattle.std.proofs.Common.{◌≡◌, ℕ, Bool, true, false, ◌&&◌, List, [], ◌∷◌, length, filter, refl, ap, le_refl, le_trans}
use Rattle.sand_base.specs.declared.goal.Goal.{Goal}
use Rattle.sand_base.specs.declared.goal.Goal.TheVariants as figure
use Rattle.sand_base.specs.declared.shape.Shape.{Shape}
use Rattle.sand_model.specs.Cursor.{AreBetween}
use Rattle.sand_model.specs.Database.{Database}
use Rattle.sand_model.specs.Measure.{Measure}
use Rattle.sand_model.specs.Nodes.{LeafItem, rank_items, rank_gaps, pair_nodes, pair_gap, join_items}
use Rattle.statements.specs.Plan as plan
use Rattle.statements.specs.Plan.{Plan}
use Rattle.statements.specs.declared.column.Column.{Column}
use Rattle.sand_model.specs.Reach.{Nothing, reaches, Counts, no_counts, distinct, roughs_within, rank_counts, near_counts, join_counts, counts_at, innermost, quadtree_of}
use Rattle.sand_model.specs.Roughs.{is_rough, rough_figure}
use Rattle.sand_model.specs.Sources.{column_shapes}
use Rattle.sand_model.specs.Tree.{root_block}
use Rattle.plan_iterator.specs.Needed.{AreAtMost}
use Rattle.plan_iterator.specs.Rows.{plan_measure}
use Rattle.plan_iterator.specs.SourceSteps.{nothing_taken, counts_taken}

-- counts with the same numbers are one
pub counts_one : (a b : Counts) → a.blocks ≡ b.blocks → a.pairs ≡ b.pairs → a.geometries ≡ b.geometries → a ≡ b
counts_one a b x y z = λ i. record { blocks = x i; pairs = y i; geometries = z i }

-- no test passes none
filter_no : {X : Type 0} (p : X → Bool) → ((x : X) → p x ≡ false) → (xs : List X) → filter p xs ≡ []
filter_no p h [] = refl
filter_no p h (x ∷ xs) = rw (h x) (filter_no p h xs)

neither : (b : Bool) → b && false ≡ false
neither true = refl
neither false = refl

-- ---- nothing within reach

no_roughs : (items : List LeafItem) → length (roughs_within Nothing items) ≡ 0
no_roughs items = ap (λ kept. length (distinct kept)) (filter_no (λ item. item.is_rough && reaches Nothing item.gap) (λ item. neither item.is_rough) items)

no_rank_counts : (gap : Measure) (d : Database) (column : Column) (goal : Goal) → rank_counts gap d column goal Nothing ≡ no_counts
no_rank_counts gap d column goal =
    counts_one (rank_counts gap d column goal Nothing) no_counts
    (ap length (filter_no (reaches Nothing) (λ g. refl) (rank_gaps gap goal (quadtree_of d column)))) refl
    (no_roughs (rank_items gap goal (column_shapes d column) (quadtree_of d column)))

no_join_counts : (gap : Measure) (d : Database) (left right : Column) → join_counts gap d left right Nothing ≡ no_counts
no_join_counts gap d left right =
    let nodes = pair_nodes root_block (quadtree_of d left) root_block (quadtree_of d right) in
    counts_one (join_counts gap d left right Nothing) no_counts refl
    (ap length (filter_no (λ node. reaches Nothing (pair_gap gap node)) (λ node. refl) nodes))
    (no_roughs (join_items gap (column_shapes d left) (column_shapes d right) nodes))

no_near_counts : (gap : Measure) (d : Database) (column : Column) (goal : Goal) → near_counts gap d column goal Nothing ≡ no_counts
no_near_counts gap d column goal =
    counts_one (near_counts gap d column goal Nothing) no_counts refl refl
    (ap length (filter_no (λ (row : ℕ × Shape). is_rough row.1 && reaches Nothing (gap goal (rough_figure row.1))) (λ row. neither (is_rough row.1)) (column_shapes d column)))

-- nothing lies within no reach
pub nothing_counts : (gap : Measure) (d : Database) (p : Plan) → counts_at gap d p Nothing ≡ no_counts
nothing_counts gap d (plan.Rank column goal within) = no_rank_counts gap d column (figure.Shape goal)
nothing_counts gap d (plan.Near column goal within) = no_near_counts gap d column (figure.Shape goal)
nothing_counts gap d (plan.Window column window) = no_rank_counts gap d column (figure.Rect window)
nothing_counts gap d (plan.Join left right within) = no_join_counts gap d left right
nothing_counts gap d (plan.Semi left right within) = no_join_counts gap d left right
nothing_counts gap d (plan.Knn k left right within) = no_join_counts gap d left right
nothing_counts gap d (plan.Scan relation) = refl
nothing_counts gap d (plan.PickEqual column v) = refl
nothing_counts gap d (plan.PickBetween column low high) = refl
nothing_counts gap d (plan.Filter p tests) = refl
nothing_counts gap d (plan.Match p place column) = refl
nothing_counts gap d (plan.Fetch p places) = refl
nothing_counts gap d (plan.First count p) = refl
nothing_counts gap d (plan.SortBy p place) = refl
nothing_counts gap d (plan.SortNear p place goal) = refl

-- a source of which nothing was taken has visited nothing
pub nothing_taken_counts : (d : Database) (p : Plan) → counts_taken d p nothing_taken ≡ no_counts
nothing_taken_counts d p = nothing_counts plan_measure d (innermost p)

-- ---- counts that lie between others

pub at_most_itself : (c : Counts) → AreAtMost c c
at_most_itself c = record { blocks = le_refl c.blocks; pairs = le_refl c.pairs; geometries = le_refl c.geometries }

pub at_most_trans : (a b c : Counts) → AreAtMost a b → AreAtMost b c → AreAtMost a c
at_most_trans a b c h k = record {
  blocks = le_trans h.blocks k.blocks;
  pairs = le_trans h.pairs k.pairs;
  geometries = le_trans h.geometries k.geometries;
}

pub between_low : (low high now : Counts) → AreBetween low high now → AreAtMost low now
between_low low high now h = record { blocks = h.blocks.0; pairs = h.pairs.0; geometries = h.geometries.0 }

pub between_high : (low high now : Counts) → AreBetween low high now → AreAtMost now high
between_high low high now h = record { blocks = h.blocks.1; pairs = h.pairs.1; geometries = h.geometries.1 }

pub between_is : (low high now : Counts) → AreAtMost low now → AreAtMost now high → AreBetween low high now
between_is low high now h k = record {
  blocks = (h.blocks, k.blocks);
  pairs = (h.pairs, k.pairs);
  geometries = (h.geometries, k.geometries);
}

-- counts that stayed
pub between_itself : (low high : Counts) → AreAtMost low high → AreBetween low high low
between_itself low high h = between_is low high low (at_most_itself low) h

-- a higher bound
pub between_more : (low high higher now : Counts) → AreBetween low high now → AreAtMost high higher → AreBetween low higher now
between_more low high higher now h k =
    between_is low higher now (between_low low high now h) (at_most_trans now high higher (between_high low high now h) k)

-- one call after another
pub between_chain : (low mid high now : Counts) → AreAtMost low mid → AreBetween mid high now → AreBetween low high now
between_chain low mid high now h k =
    between_is low high now (at_most_trans low mid now h (between_low mid high now k)) (between_high mid high now k)

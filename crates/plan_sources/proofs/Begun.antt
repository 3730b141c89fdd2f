-- A ranking of which nothing was taken: it stands over all pages where its relation does.
use Rattle.std.proofs.Common.{◌≡◌, ℕ, ◌+◌, true≢false, List, [], Option, None, refl, sym, subst, le_trans, Ordering}
use Rattle.sand_base.specs.Plane.{IsGoalInClosedPlane}
use Rattle.sand_base.specs.declared.goal.Goal.{Goal}
use Rattle.sand_base.specs.declared.limits.Limits.{Limits}
use Rattle.z_code.specs.declared.block.Block.{Block}
use Rattle.page_pool.specs.Disk.{PageMap}
use Rattle.pmr_tree.specs.Quadtree.{tree_at}
use Rattle.pmr_tree.specs.declared.quadtree.Pmr.{Pmr}
use Rattle.sand_model.specs.Database.{Database, shapes_of}
use Rattle.statements.specs.Plan.{Plan}
use Rattle.statements.specs.declared.column.Column.{Column}
use Rattle.sand_model.specs.Reach.{quadtree_of}
use Rattle.sand_model.specs.Sources.{column_shapes}
use Rattle.sand_store.specs.declared.column.FileShapes.{FileShapes}
use Rattle.sand_store.specs.Catalog.{RelationView, IsLimits}
use Rattle.sand_store.specs.Contents.{rows_in}
use Rattle.sand_store.specs.Paths.{IsTreeOf}
use Rattle.sand_store.specs.Standing.{TableStands, RelationStands}
use Rattle.sand_store.specs.TableLaws.{shapes_plane}
use Rattle.best_first.specs.Frontier.{Stands}
use Rattle.best_first.specs.Hierarchy.{MeetsLaws}
use Rattle.best_first.specs.Visits.{IsCounted}
use Rattle.best_first.specs.declared.counts.Counts.{Counts}
use Rattle.best_first.specs.declared.hit.Hit.{Hit}
use Rattle.best_first.specs.declared.item.Item.{Item}
use Rattle.rank_cursor.specs.declared.rank_tree.RankTree.{RankTree}
use Rattle.rank_cursor.specs.Ranking.{Ranking, rank_meaning, IsSound}
use Rattle.rank_cursor.proofs.RankingLaws.{rank_laws}
use Rattle.rank_cursor.proofs.SearchPages.{sound}
use Rattle.plan_iterator.specs.SourceSteps.{nothing_taken}
use Rattle.plan_sources.specs.Rankings.{Ranks, IsColumnOf, ranking_in, by_code, ranking_of, RanksColumn, HasTaken, BeginsRanking}

module _ (pages : PageMap) (limits : Limits) (r : RelationView) (at : ℕ) (tree : Pmr) (d : Database) (column : Column) (of : IsColumnOf pages r at d column) (is : IsTreeOf r at tree) where
  -- the column's shapes and its quadtree are those of the relation

  shapes_are : column_shapes d column ≡ shapes_of at (rows_in pages r)
  shapes_are = rw of.0 (rw of.1 refl)

  tree_is : quadtree_of d column ≡ tree_at pages tree
  tree_is = rw of.0 (rw of.1 (rw (is.index pages) refl))

  module _ (goal : Goal) (plane : IsGoalInClosedPlane goal) (ceiling : Option ℕ) (small : IsLimits limits) (stands : RelationStands pages limits r) where
    -- the ranking is sound
    is_sound : IsSound (ranking_in pages r.schema r.file at tree goal ceiling)
    is_sound =
        sound (λ m. shapes_of at (rows_in m r)) (λ m. TableStands m r.schema r.file) (r.file.tree.height + 1) tree goal ceiling
        (λ m h. shapes_plane r.schema at (rows_in m r) h.rows) plane pages (is.fits pages limits stands).fits stands.table

    -- a plan that ranks the column has this ranking
    ranks_column : (p : Plan) → Ranks p column goal ceiling → RanksColumn (ranking_in pages r.schema r.file at tree goal ceiling) d p
    ranks_column p h = record { column = column; ranks = h; shapes = shapes_are; tree = tree_is; few = le_trans (is.fits pages limits stands).few small.few_listings }

    -- a search that has given nothing has taken nothing
    pub begun : {cmp : Block → Block → Ordering} (held : List (Item Block)) (last : Option Hit) (counts : Counts) → last ≡ None → IsCounted {N = Block} [] counts
        → (MeetsLaws (rank_meaning (ranking_in pages r.schema r.file at tree goal ceiling)) → Stands cmp (rank_meaning (ranking_in pages r.schema r.file at tree goal ceiling)) held last [])
        → (p : Plan) → Ranks p column goal ceiling
        → HasTaken cmp (ranking_in pages r.schema r.file at tree goal ceiling) held last counts d p nothing_taken
    begun held last counts none counted search p h = record {
      ranks = ranks_column p h;
      sound = is_sound;
      done = [];
      stands = search (rank_laws (ranking_in pages r.schema r.file at tree goal ceiling) is_sound);
      counted = counted;
      rows = none;
      ended = λ e. absurd (true≢false (sym e));
    }

-- a hierarchy that was made of these has the ranking of these
pub made_ranking : (relation : RelationView) (at : ℕ) (tree : Pmr) (goal : Goal) (ceiling : Option ℕ) (made : RankTree FileShapes) → made.shapes.schema ≡ relation.schema
    → made.shapes.file ≡ relation.file → made.shapes.column ≡ at
    → made.pmr ≡ tree → made.goal ≡ goal → made.ceiling ≡ ceiling → (m : PageMap) → ranking_of made m ≡ ranking_in m relation.schema relation.file at tree goal ceiling
made_ranking relation at tree goal ceiling made s f a t g c m i = ranking_in m (s i) (f i) (a i) (t i) (g i) (c i)

-- the search that was made has its ceiling, and stands where nothing was taken, over all pages
pub begun_over : (relation : RelationView) (at : ℕ) (tree : Pmr) (goal : Goal) (ceiling : Option ℕ) → IsGoalInClosedPlane goal → (made kept : RankTree FileShapes) → kept ≡ made
    → ((m : PageMap) → ranking_of made m ≡ ranking_in m relation.schema relation.file at tree goal ceiling)
    → (held : List (Item Block)) (last : Option Hit) (counts : Counts) → last ≡ None → IsCounted {N = Block} [] counts
    → ((m : PageMap) → MeetsLaws (rank_meaning (ranking_of made m)) → Stands by_code (rank_meaning (ranking_of made m)) held last [])
    → (ceiled : Type 0) → ceiled → BeginsRanking (λ m d p t. ceiled × HasTaken by_code (ranking_of kept m) held last counts d p t) relation at tree goal ceiling
begun_over relation at tree goal ceiling plane made kept still same held last counts none counted stands ceiled has_it is m limits small h d column of p r =
    let search : MeetsLaws (rank_meaning (ranking_in m relation.schema relation.file at tree goal ceiling))
    → Stands by_code (rank_meaning (ranking_in m relation.schema relation.file at tree goal ceiling)) held last [] =
    subst (λ (x : Ranking). MeetsLaws (rank_meaning x) → Stands by_code (rank_meaning x) held last []) (same m) (stands m) in (
      has_it,
      subst (λ (x : RankTree FileShapes). HasTaken by_code (ranking_of x m) held last counts d p nothing_taken) (sym still)
          (subst (λ (x : Ranking). HasTaken by_code x held last counts d p nothing_taken) (sym (same m))
          (begun m limits relation at tree d column of is goal plane ceiling small h held last counts none counted search p r)),
    )

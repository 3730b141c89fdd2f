-- Each law of trees, for functions that tell of rows of shapes.
use Rattle.sand_model.specs.Tree.{root_block}
use Rattle.sand_model.specs.Database.{meets_block}
use Rattle.pmr_tree.proofs.AscendingLists.{each_map}
use Rattle.sand_model.specs.Database.{shape_at}
use Rattle.std.proofs.Common.{◌≡◌}
use Rattle.pmr_tree.proofs.GrownTrees.{fits_grown, full_grown}
use Rattle.pmr_tree.proofs.Growth.{fits_shrunk, full_shrunk}
use Rattle.pmr_tree.proofs.ShapeLaws.{rows_quarters, is_root, meets_alike, grown_alike, fits_alike, shallow_grown, shallow_shrunk, fits_lists}
use Rattle.pmr_tree.proofs.laws.growth_laws.Goals as goal

pub returns-clause-shapes : goal.returns-clause-shapes
returns-clause-shapes c = λ gap rows others threshold id tree same.
    grown_alike (meets_block gap rows) (meets_block gap others) (λ b i. meets_alike gap rows others b i (same i)) threshold id root_block tree

pub returns-clause-fit : goal.returns-clause-fit
returns-clause-fit c = λ gap rows others ids tree same fit.
    fits_alike (meets_block gap rows) (meets_block gap others) ids
    (λ b. each_map (λ id. shape_at rows id ≡ shape_at others id) (λ id. meets_block gap rows b id ≡ meets_block gap others b id)
    (λ id e. meets_alike gap rows others b id e) ids same) root_block tree fit

pub returns-clause-grown_fits : goal.returns-clause-grown_fits
returns-clause-grown_fits c = λ gap measure rows ids threshold id tree plane rise shallow fit.
    fits_grown (meets_block gap rows) (rows_quarters c.measure_laws.ensures.children gap measure rows plane) threshold id ids rise root_block tree is_root shallow fit

pub returns-clause-grown_full : goal.returns-clause-grown_full
returns-clause-grown_full c = λ gap measure rows ids threshold id tree plane rise shallow fit full.
    full_grown (meets_block gap rows) (rows_quarters c.measure_laws.ensures.children gap measure rows plane) threshold id ids rise root_block tree is_root shallow fit full

pub returns-clause-grown_shallow : goal.returns-clause-grown_shallow
returns-clause-grown_shallow c = λ gap rows threshold id tree shallow. shallow_grown (meets_block gap rows) threshold id root_block tree shallow

pub returns-clause-shrunk_fits : goal.returns-clause-shrunk_fits
returns-clause-shrunk_fits c = λ gap measure rows ids threshold id tree plane rise shallow fit.
    fits_shrunk (meets_block gap rows) (rows_quarters c.measure_laws.ensures.children gap measure rows plane) threshold id ids rise root_block tree is_root shallow fit

pub returns-clause-shrunk_full : goal.returns-clause-shrunk_full
returns-clause-shrunk_full c = λ threshold id tree. full_shrunk threshold id tree

pub returns-clause-shrunk_shallow : goal.returns-clause-shrunk_shallow
returns-clause-shrunk_shallow c = λ threshold id tree shallow. shallow_shrunk threshold id root_block tree shallow

pub returns-clause-listed : goal.returns-clause-listed
returns-clause-listed c = λ gap rows ids id s tree shape fit. fits_lists gap rows ids id s shape root_block tree fit

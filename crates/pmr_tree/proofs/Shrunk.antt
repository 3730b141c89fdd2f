-- What the entries of a shrunk quadtree stand for.
use Rattle.std.proofs.Common.{◌≡◌, ℕ, Bool, true, [], ◌∷◌, sym, ap, subst}
use Rattle.std.specs.Prelude.{is_some}
use Rattle.page_pool.specs.Disk.{PageMap}
use Rattle.code_btree.specs.Tree.{IsTree}
use Rattle.code_btree.specs.Calls.{Keeps}
use Rattle.sand_base.specs.Plane.{IsShapeInPlane}
use Rattle.sand_base.specs.declared.shape.Shape.{Shape}
use Rattle.z_code.specs.declared.block.Block.{Block}
use Rattle.sand_model.specs.Nodes.{rough_figure}
use Rattle.sand_model.specs.Database.{meets_block}
use Rattle.sand_model.specs.Tree.{root_block, IsFull}
use Rattle.ring_geom.specs.Laws.{GapExists}
use Rattle.ring_geom.specs.MeasureLaws.{ChildrenMeet, TestIsMeeting}
use Rattle.pmr_tree.specs.Leaves.{Passes, Told}
use Rattle.pmr_tree.specs.Changes.{Becomes, shrunk_where}
use Rattle.pmr_tree.specs.Entries.{value_of}
use Rattle.pmr_tree.specs.Laws.{AreInPlane}
use Rattle.pmr_tree.specs.Quadtree.{store_of, quadtree_entries, keys_at, pages_at, tree_at, IsPmr, IsListedWhereMet}
use Rattle.pmr_tree.specs.Calls.{Shrinks}
use Rattle.pmr_tree.specs.Plot.{TellsOf}
use Rattle.pmr_tree.specs.declared.quadtree.Pmr.{Pmr}
use Rattle.pmr_tree.proofs.Growth.{shrunk_where_same, full_shrunk}
use Rattle.pmr_tree.proofs.TreeAt.{Changed, changed, shaped_shallow}
use Rattle.pmr_tree.proofs.ShapeLaws.{rows_quarters, is_root}
use Rattle.pmr_tree.proofs.Grown.{has_shape, measure_tells, first_shape, keeps_test, passes_keeps, keeps_passes}

-- all that is known of a change by an id that leaves
pub record Shrank (old new : PageMap) (t u : Pmr) (id : ℕ) (s : Shape) : Type 0 where
  pub tree : IsTree (store_of new) u.map
  pub threshold : u.threshold ≡ t.threshold
  pub number : u.number ≡ t.number
  pub keeps : Keeps (store_of old) (store_of new) (pages_at old t) (pages_at new u)
  pub becomes : (m : Block → ℕ → Bool) (has : ℕ → Bool) → TellsOf ((id, s) ∷ []) m has → has id ≡ true → Becomes root_block (shrunk_where m t.threshold id root_block) (keys_at old t) (keys_at new u)
  pub values : (test : ℕ → ℕ → Bool) → Passes test (quadtree_entries old t) → Passes test (quadtree_entries new u)

pub record Leaving (old : PageMap) (t : Pmr) (id : ℕ) (s : Shape) : Type 0 where
  pub quarters : ChildrenMeet
  pub tests : TestIsMeeting
  pub is : IsPmr old t
  pub shape_in : IsShapeInPlane s
  pub listed : IsListedWhereMet (tree_at old t) id s

pub tells_one : (old : PageMap) (t : Pmr) (id : ℕ) (s : Shape) → Leaving old t id s → GapExists → Told (TellsOf ((id, s) ∷ [])) [] id
tells_one old t id s h measured = record {
  meets = meets_block measured.0 ((id, s) ∷ []);
  has = has_shape ((id, s) ∷ []);
  told = measure_tells h.tests measured.0 measured.1 ((id, s) ∷ []) (h.shape_in, tt);
  listed = tt;
  one = ap is_some (first_shape id s []);
}

pub shrinks : (old new : PageMap) (t u : Pmr) (id : ℕ) (s : Shape) → Leaving old t id s → Shrank old new t u id s → GapExists → Shrinks old new t u id
shrinks old new t u id s h g measured =
    let rows = (id, s) ∷ [] in
    let m = meets_block measured.0 rows in
    let plane : AreInPlane rows = (h.shape_in, tt) in
    let same = shrunk_where_same m (rows_quarters h.quarters measured.0 measured.1 rows plane) t.threshold id root_block (tree_at old t) is_root
    (shaped_shallow root_block (tree_at old t) h.is.shaped) h.is.full (h.listed measured.0 measured.1) in
    let one = subst (Changed old t new u) same
    (changed old t new u (shrunk_where m t.threshold id root_block) h.is (g.becomes m (has_shape rows) (measure_tells h.tests measured.0 measured.1 rows plane) (ap is_some (first_shape id s [])))) in
    let full = subst (IsFull t.threshold) (sym one.tree_is) (full_shrunk t.threshold id (tree_at old t)) in record {
      stays = record {
        is = record { entries = g.tree; keys = one.keys; shaped = one.shaped; full = subst (λ n. IsFull n (tree_at new u)) (sym g.threshold) full };
        threshold = g.threshold;
        number = g.number;
        keeps = g.keeps;
      };
      shrunk = one.tree_is;
      roughs = λ other o some kept. (let v = value_of (rough_figure o) in
          passes_keeps (quadtree_entries new u) other v some (g.values (keeps_test other v) (keeps_passes (quadtree_entries old t) other v kept)));
    }

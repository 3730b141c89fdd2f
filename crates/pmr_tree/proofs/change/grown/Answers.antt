-- The entries are those of the grown tree, and each page that changed is the tree's own.
use Rattle.std.proofs.Common.{◌≡◌, true, ◌∷◌, refl, sym, ◌∙◌, subst}
use Rattle.std.specs.Prelude.{None, Ok}
use Rattle.page_pool.specs.Disk.{PageMap}
use Rattle.page_pool.specs.Steps.{InCommand-read, InCommand-trans, HasPageCause-before}
use Rattle.code_btree.specs.Tree.{pages_in, tree_items, tree_pages}
use Rattle.pmr_tree.specs.Plot.{IsReadyOn, LeadsOn-onward, TellsOf}
use Rattle.pmr_tree.specs.Leaves.{firsts, Passes, id_test, Told}
use Rattle.pmr_tree.specs.Changes.{KeysStand, Becomes, grown_where}
use Rattle.pmr_tree.specs.Quadtree.{quadtree_entries, keys_at, tree_at}
use Rattle.pmr_tree.proofs.Begins.{start_stands, grown_from_root}
use Rattle.pmr_tree.proofs.OwnPages.{keeps_none, leads_read}
use Rattle.pmr_tree.proofs.TreeAt.{pmr_stands, pmr_reads}
use Rattle.pmr_tree.proofs.Grown.{grows, told_of}
use Rattle.pmr_tree.proofs.change.grown.Goals as goal

-- the reading of the block at which growth begins
pub grow-requires-clause-ready : goal.grow-requires-clause-ready
grow-requires-clause-ready g c =
    let lead = leads_read (g.G.ShapeOf.rows c.args.shapes.now) c.args.shape.now (g.G.ShapeOf.Stands c.args.shapes.now)
    (g.G.ShapeOf.Owns c.args.shapes.now) c.args.tree.map c.args.pool.now c.start_of.new.pages None
    c.in_ok-start.ensures.read (record { counted = c.in_ok-start.ensures.cause.counted; damaged = tt }) tt in
    lead.ready refl (record { opened = c.requires.opened; shape = c.requires.plane; tree = λ told. (c.requires.tree told).entries; stands = c.requires.shapes; apart = c.requires.apart })

pub grow-requires-clause-stands : goal.grow-requires-clause-stands
grow-requires-clause-stands g c = λ later.
    let read = c.in_ok-start.ensures.read in
    let told = sym read.told ∙ later in
    let pages = c.args.pool.now.pages in
    let is = c.requires.tree told in
    subst (λ w. KeysStand c.in_ok-start.start (keys_at w c.args.tree)) (sym read.pages)
    (start_stands (keys_at pages c.args.tree) c.args.shape.now (tree_at pages c.args.tree) c.in_ok-start.start (pmr_stands pages c.args.tree is).rises
    (pmr_reads pages c.args.tree is) (c.in_ok-start.ensures.start told))

pub grow-requires-clause-shapes : goal.grow-requires-clause-shapes
grow-requires-clause-shapes g c = λ later.
    let read = c.in_ok-start.ensures.read in
    let told = sym read.told ∙ later in
    subst (λ w. Told (λ m has. TellsOf ((c.args.id, c.args.shape.now) ∷ g.G.ShapeOf.rows c.args.shapes.now w) m has) (quadtree_entries w c.args.tree) c.args.id) (sym read.pages)
    (told_of c.args.pool.now.pages c.args.tree (g.G.ShapeOf.rows c.args.shapes.now c.args.pool.now.pages) c.args.id c.args.shape.now (record {
      quarters = c.measure_laws.ensures.children;
      tests = c.measure_laws.ensures.tested;
      is = c.requires.tree told;
      rows_in = g.met.G.ShapeOf.in_plane c.args.shapes.now c.args.pool.now.pages (c.requires.shapes told);
      shape_in = c.requires.plane;
      some = c.requires.id;
      fits = c.requires.fits told;
    }) c.ring_laws.ensures.measured)

pub returns-clause-grown : goal.returns-clause-grown
returns-clause-grown g c = λ told.
    let rows = g.G.ShapeOf.rows c.args.shapes.now in
    let pages = c.args.pool.now.pages in
    let is = c.requires.tree told in
    let read = c.in_ok-start.ensures.read in
    let later = read.told ∙ told in
    let lead = LeadsOn-onward rows c.args.shape.now (g.G.ShapeOf.Stands c.args.shapes.now)
    (g.G.ShapeOf.Owns c.args.shapes.now) c.args.tree.map c.args.pool.now c.args.tree.map c.start_of.new.pages c.grow.new.ground.tree c.grow.new.pages None
    (leads_read rows c.args.shape.now (g.G.ShapeOf.Stands c.args.shapes.now) (g.G.ShapeOf.Owns c.args.shapes.now) c.args.tree.map c.args.pool.now c.start_of.new.pages None
    read (record { counted = c.in_ok-start.ensures.cause.counted; damaged = tt }) tt)
    c.in_ok-grow.ensures.leads.1.1.1 in
    let ready : IsReadyOn c.args.shape.now (g.G.ShapeOf.Stands c.args.shapes.now) (g.G.ShapeOf.Owns c.args.shapes.now) c.args.tree.map c.args.pool.now =
    record { opened = c.requires.opened; shape = c.requires.plane; tree = λ told. (c.requires.tree told).entries; stands = c.requires.shapes; apart = c.requires.apart } in
    grows pages c.grow.new.pages.pages c.args.tree _ (rows pages) c.args.id c.args.shape.now (record {
      quarters = c.measure_laws.ensures.children;
      tests = c.measure_laws.ensures.tested;
      is = is;
      rows_in = g.met.G.ShapeOf.in_plane c.args.shapes.now pages (c.requires.shapes told);
      shape_in = c.requires.plane;
      some = c.requires.id;
      fits = c.requires.fits told;
    }) (record {
      tree = (lead.ready refl ready).tree (lead.within.told ∙ told);
      threshold = refl;
      number = refl;
      keeps = lead.keeps refl told ready (pages_in c.args.pool.now) (tree_pages (pages_in c.args.pool.now) c.args.tree.map)
          (keeps_none (pages_in c.args.pool.now) (tree_pages (pages_in c.args.pool.now) c.args.tree.map));
      becomes = λ m has tells passes one.
          (let new = firsts (tree_items (pages_in c.grow.new.pages) c.grow.new.ground.tree) in
          let Grown : PageMap → Type 0 = λ w. TellsOf ((c.args.id, c.args.shape.now) ∷ rows w) m has → Passes (id_test has) (quadtree_entries w c.args.tree) → has c.args.id ≡ true
          → Becomes c.in_ok-start.start (grown_where m c.args.tree.threshold c.args.id c.in_ok-start.start) (keys_at w c.args.tree) new in
          grown_from_root c.ring_laws.ensures.holder (rows pages) c.args.id c.args.shape.now m has c.requires.plane tells one c.args.tree.threshold
          (keys_at pages c.args.tree) new (tree_at pages c.args.tree) c.in_ok-start.start
          (pmr_stands pages c.args.tree is).rises (pmr_reads pages c.args.tree is) c.in_ok-start.ensures.block (c.in_ok-start.ensures.start told)
          (subst Grown read.pages (λ tells passes one. c.in_ok-grow.ensures.keys later m has tells passes one) tells passes one));
      values = λ test one w.
          (c.in_ok-grow.ensures.values later test (subst (λ v. test c.args.id v ≡ true) (sym c.value_of-value.ensures) one)
          (subst (λ w. Passes test (quadtree_entries w c.args.tree)) (sym read.pages) w));
    }) c.ring_laws.ensures.measured.0 c.ring_laws.ensures.measured.1

pub returns-clause-within : goal.returns-clause-within
returns-clause-within g c = InCommand-trans c.args.pool.now c.start_of.new.pages c.grow.new.pages
    (InCommand-read c.args.pool.now c.start_of.new.pages c.in_ok-start.ensures.read) c.in_ok-grow.ensures.leads.1.1.1.within

pub returns-clause-cause : goal.returns-clause-cause
returns-clause-cause g c = HasPageCause-before c.args.pool.now c.start_of.new.pages c.grow.new.pages (Ok (tt {0})) c.in_ok-start.ensures.cause.counted c.in_ok-grow.ensures.leads.1.1.1.cause

-- The entries are those of the shrunk tree, and each page that changed is the tree's own.
use Rattle.std.proofs.Common.{ℕ, List, [], refl, sym, ◌∙◌, subst}
use Rattle.std.specs.Prelude.{None, Ok, ⊤}
use Rattle.page_pool.specs.Disk.{PageMap}
use Rattle.page_pool.specs.Steps.{InCommand-read, InCommand-trans, HasPageCause-before}
use Rattle.sand_base.specs.declared.shape.Shape.{Shape}
use Rattle.z_code.specs.declared.block.Block.{Block}
use Rattle.code_btree.specs.Tree.{pages_in, tree_items, tree_pages}
use Rattle.pmr_tree.specs.Plot.{IsReadyOn, LeadsOn-onward}
use Rattle.pmr_tree.specs.Leaves.{firsts, Passes}
use Rattle.pmr_tree.specs.Changes.{KeysStand, Becomes, shrunk_where}
use Rattle.pmr_tree.specs.Starts.{HasLeaf}
use Rattle.pmr_tree.specs.Quadtree.{quadtree_entries, keys_at, tree_at}
use Rattle.pmr_tree.proofs.Begins.{start_place, start_alone}
use Rattle.pmr_tree.proofs.OwnPages.{keeps_none, leads_read}
use Rattle.pmr_tree.proofs.TreeAt.{pmr_stands, pmr_reads}
use Rattle.pmr_tree.proofs.Grown.{root_is}
use Rattle.pmr_tree.proofs.Shrunk.{tells_one, shrinks}
use Rattle.pmr_tree.proofs.change.shrunk.Goals as goal

pub shrink_at-requires-clause-ready : goal.shrink_at-requires-clause-ready
shrink_at-requires-clause-ready g c =
    let lead = leads_read (λ pages. []) c.args.shape.now (λ pages. ⊤) (λ pages n. ⊥) c.args.tree.map c.args.pool.now c.start_of.new.pages None
    c.in_ok-start.ensures.read (record { counted = c.in_ok-start.ensures.cause.counted; damaged = tt }) tt in
    lead.ready refl (record { opened = c.requires.opened; shape = c.requires.plane; tree = λ told. (c.requires.tree told).entries; stands = λ told. tt; apart = λ told n own. absurd own })

pub shrink_at-requires-clause-stands : goal.shrink_at-requires-clause-stands
shrink_at-requires-clause-stands g c = λ later.
    let read = c.in_ok-start.ensures.read in
    let pages = c.args.pool.now.pages in
    subst (λ w. KeysStand c.root.result (keys_at w c.args.tree)) (sym read.pages)
    (subst (λ b. KeysStand b (keys_at pages c.args.tree)) (sym (root_is c.root.result c.root.ensures.first c.root.ensures.level))
    (pmr_stands pages c.args.tree (c.requires.tree (sym read.told ∙ later))))

pub shrink_at-requires-clause-place : goal.shrink_at-requires-clause-place
shrink_at-requires-clause-place g c = λ later lower.
    let read = c.in_ok-start.ensures.read in
    let told = sym read.told ∙ later in
    let pages = c.args.pool.now.pages in
    let is = c.requires.tree told in
    subst (λ w. HasLeaf c.in_ok-start.start c.root.result (keys_at w c.args.tree)) (sym read.pages)
    (start_place (keys_at pages c.args.tree) c.args.shape.now (tree_at pages c.args.tree) c.in_ok-start.start c.root.result (root_is c.root.result c.root.ensures.first c.root.ensures.level)
    (pmr_stands pages c.args.tree is).rises (pmr_reads pages c.args.tree is) (c.in_ok-start.ensures.start told) lower)

pub shrink_at-requires-clause-shapes : goal.shrink_at-requires-clause-shapes
shrink_at-requires-clause-shapes g c = λ later. tells_one c.args.pool.now.pages c.args.tree c.args.id c.args.shape.now (record {
  quarters = c.measure_laws.ensures.children;
  tests = c.measure_laws.ensures.tested;
  is = c.requires.tree (sym c.in_ok-start.ensures.read.told ∙ later);
  shape_in = c.requires.plane;
  listed = c.requires.listed (sym c.in_ok-start.ensures.read.told ∙ later);
}) c.ring_laws.ensures.measured

pub shrink_at-requires-clause-alone : goal.shrink_at-requires-clause-alone
shrink_at-requires-clause-alone g c = λ later lower m has tells one.
    let told = sym c.in_ok-start.ensures.read.told ∙ later in
    start_alone c.ring_laws.ensures.holder [] c.args.id c.args.shape.now m has c.requires.plane tells one (tree_at c.args.pool.now.pages c.args.tree) c.in_ok-start.start c.root.result
    (root_is c.root.result c.root.ensures.first c.root.ensures.level) c.in_ok-start.ensures.block (c.in_ok-start.ensures.start told) lower

pub returns-clause-shrunk : goal.returns-clause-shrunk
returns-clause-shrunk g c = λ told.
    let pages = c.args.pool.now.pages in
    let read = c.in_ok-start.ensures.read in
    let later = read.told ∙ told in
    let rows : PageMap → List (ℕ × Shape) = λ w. [] in
    let lead = LeadsOn-onward rows c.args.shape.now (λ pages. ⊤)
    (λ pages n. ⊥) c.args.tree.map c.args.pool.now c.args.tree.map c.start_of.new.pages c.shrink_at.new.ground.tree c.shrink_at.new.pages None
    (leads_read rows c.args.shape.now (λ pages. ⊤) (λ pages n. ⊥) c.args.tree.map c.args.pool.now c.start_of.new.pages None
    read (record { counted = c.in_ok-start.ensures.cause.counted; damaged = tt }) tt)
    c.in_ok-shrink_at.ensures.leads.1.1.1 in
    let ready : IsReadyOn c.args.shape.now (λ pages. ⊤) (λ pages n. ⊥) c.args.tree.map c.args.pool.now =
    record { opened = c.requires.opened; shape = c.requires.plane; tree = λ told. (c.requires.tree told).entries; stands = λ told. tt; apart = λ told n own. absurd own } in
    let root = root_is c.root.result c.root.ensures.first c.root.ensures.level in
    shrinks pages c.shrink_at.new.pages.pages c.args.tree _ c.args.id c.args.shape.now (record {
      quarters = c.measure_laws.ensures.children;
      tests = c.measure_laws.ensures.tested;
      is = c.requires.tree told;
      shape_in = c.requires.plane;
      listed = c.requires.listed told;
    }) (record {
      tree = (lead.ready refl ready).tree (lead.within.told ∙ told);
      threshold = refl;
      number = refl;
      keeps = lead.keeps refl told ready (pages_in c.args.pool.now) (tree_pages (pages_in c.args.pool.now) c.args.tree.map)
          (keeps_none (pages_in c.args.pool.now) (tree_pages (pages_in c.args.pool.now) c.args.tree.map));
      becomes = λ m has tells one.
          (let new = firsts (tree_items (pages_in c.shrink_at.new.pages) c.shrink_at.new.ground.tree) in
          let At : PageMap → Type 0 = λ w. Becomes c.root.result (shrunk_where m c.args.tree.threshold c.args.id c.root.result) (keys_at w c.args.tree) new in
          let B : Block → Type 0 = λ b. Becomes b (shrunk_where m c.args.tree.threshold c.args.id b) (keys_at pages c.args.tree) new in
          subst B root (subst At read.pages (c.in_ok-shrink_at.ensures.keys later m has tells one)));
      values = λ test w. c.in_ok-shrink_at.ensures.values later test (subst (λ w. Passes test (quadtree_entries w c.args.tree)) (sym read.pages) w);
    }) c.ring_laws.ensures.measured

pub returns-clause-within : goal.returns-clause-within
returns-clause-within g c = InCommand-trans c.args.pool.now c.start_of.new.pages c.shrink_at.new.pages
    (InCommand-read c.args.pool.now c.start_of.new.pages c.in_ok-start.ensures.read) c.in_ok-shrink_at.ensures.leads.1.1.1.within

pub returns-clause-cause : goal.returns-clause-cause
returns-clause-cause g c = HasPageCause-before c.args.pool.now c.start_of.new.pages c.shrink_at.new.pages (Ok (tt {0})) c.in_ok-start.ensures.cause.counted c.in_ok-shrink_at.ensures.leads.1.1.1.cause

-- A search by an R-tree reads no node twice: what it has opened are nodes of the tree, each once, and no page is that of two nodes.
use Rattle.std.proofs.Common.{◌≡◌, ℕ, ◌+◌, ◌≤◌, Bool, true, false, true≢false, cond, List, [], ◌∷◌, ◌++◌, map, filter, length, Option}
use Rattle.std.proofs.Common.{None, Some, refl, sym, ap, ap₂, ◌∙◌, subst, arith}
use Rattle.std.proofs.Common.{Result, Ok, Err, IfSome, OnOk, IsOk}
use Rattle.std.proofs.lemmas.List.{map-append, length-map}
use Rattle.std.proofs.lemmas.List.Sorted.{IsPermutation-map}
use Rattle.page_pool.specs.Disk.{PageMap}
use Rattle.page_pool.specs.declared.fault.PageFault.{PageFault}
use Rattle.sand_base.specs.declared.visit.Visit.{Visit}
use Rattle.code_btree.specs.Tree.{same, times}
use Rattle.code_btree.proofs.Lists.{times-append}
use Rattle.r_tree.proofs.ListedMembers.{times-perm}
use Rattle.sand_model.specs.Database.{Database}
use Rattle.sand_model.specs.Taken.{Taken}
use Rattle.statements.specs.Plan.{Plan}
use Rattle.sand_store.specs.declared.column.FileShapes.{FileShapes}
use Rattle.best_first.specs.Frontier.{Stands, Tracks, pending}
use Rattle.best_first.specs.Hierarchy.{MeetsLaws, nodes_within}
use Rattle.best_first.specs.Item.{nodes_of}
use Rattle.best_first.specs.Reach.{within}
use Rattle.best_first.specs.Visits.{SearchState, CallVisits, MakesVisits, Bounds}
use Rattle.best_first.specs.declared.counts.Counts.{Counts}
use Rattle.best_first.specs.declared.hit.Hit.{Hit}
use Rattle.best_first.specs.declared.item.Item.{Item}
use Rattle.best_first.specs.declared.item.Item.TheVariants.{Node, Rough, Row}
use Rattle.best_first.proofs.Pending.{nodes-append}
use Rattle.near_cursor.specs.declared.near_tree.NearTree.{NearTree}
use Rattle.near_cursor.specs.NearLaws.{HasPagesOnce}
use Rattle.near_cursor.specs.NearRanking.{near_visit}
use Rattle.near_cursor.specs.TreeNodes.{PageNode}
use Rattle.plan_iterator.specs.declared.answer.Answer.{Answer}
use Rattle.plan_sources.specs.NearPlans.{HasTakenNear, nearing, by_page}
use Rattle.plan_sources.specs.NodesRead.{pages_read, HasReadNodes, ReadsNodesOnce}

-- the pages of nodes
abbrev pages_of : List PageNode → List ℕ
pages_of nodes = map (λ (node : PageNode). node.0) nodes

-- the visits of items read the pages of the nodes among them
read_of : (number : ℕ) (items : List (Item PageNode)) → pages_read (map (near_visit number) items) ≡ pages_of (nodes_of items)
read_of number [] = refl
read_of number (Node gap node ∷ items) = ap (λ (pages : List ℕ). node.0 ∷ pages) (read_of number items)
read_of number (Rough gap left right ∷ items) = read_of number items
read_of number (Row gap left right ∷ items) = read_of number items

-- the pages of the nodes of two lists
pages-append : (xs ys : List (Item PageNode)) → pages_of (nodes_of (xs ++ ys)) ≡ pages_of (nodes_of xs) ++ pages_of (nodes_of ys)
pages-append xs ys = ap pages_of (nodes-append xs ys) ∙ map-append (λ (node : PageNode). node.0) (nodes_of xs) (nodes_of ys)

-- a node stands in a part of a list no oftener than in the list
fewer_kept : (page : ℕ) (keep : PageNode → Bool) (nodes : List PageNode) → times page (pages_of (filter keep nodes)) ≤ times page (pages_of nodes)
fewer_kept page keep [] = omega arith
fewer_kept page keep (node ∷ nodes) = go (keep node) (fewer_kept page keep nodes)
  where
    go : (b : Bool) → times page (pages_of (filter keep nodes)) ≤ times page (pages_of nodes)
        → times page (pages_of (cond b (node ∷ filter keep nodes) (filter keep nodes))) ≤ same page node.0 + times page (pages_of nodes)
    go true h = omega (arith, h)
    go false h = omega (arith, h)

module _ (tree : NearTree FileShapes) (pages : PageMap) (once : HasPagesOnce (nearing tree pages)) where
  -- the nodes that were opened, each once
  opened_once : (held done : List (Item PageNode)) → Tracks by_page (nearing tree pages) held done → (page : ℕ) → times page (pages_of (nodes_of done)) ≤ 1
  opened_once held done tracks page =
      let m = nearing tree pages in
      let inside = nodes_within m (within m.ceiling) in
      let waiting = pending m held in
      let moved = times-perm page (pages_of inside) (pages_of (nodes_of done ++ waiting)) (IsPermutation-map (λ (node : PageNode). node.0) inside (nodes_of done ++ waiting) tracks.split) in
      let parts = ap (times page) (map-append (λ (node : PageNode). node.0) (nodes_of done) waiting) in
      let sums = times-append page (pages_of (nodes_of done)) (pages_of waiting) in
      let kept = fewer_kept page (λ node. within m.ceiling (m.gap node)) (m.under m.root) in
      let own = once page in
      omega (arith, moved, parts, sums, kept, own)

  module _ (number : ℕ) (old new : SearchState PageNode) (result : Result (Option Hit) PageFault) where
    -- at most one visit was tried in vain
    one_tried : (result : Result (Option Hit) PageFault) (attempt all : List (Item PageNode)) → Bounds by_page (nearing tree pages) old.last result attempt all → length attempt ≤ 1
    one_tried (Ok (Some hit)) attempt all b = omega (arith, ap length b.settled)
    one_tried (Ok None) attempt all b = omega (arith, ap length b.settled)
    one_tried (Err fault) attempt all b = b.few

    -- and none behind a row or at the end
    none_tried : (result : Result (Option Hit) PageFault) → IsOk result
        → (attempt all : List (Item PageNode)) → Bounds by_page (nearing tree pages) old.last result attempt all → attempt ≡ []
    none_tried (Ok (Some hit)) ok attempt all b = b.settled
    none_tried (Ok None) ok attempt all b = b.settled
    none_tried (Err fault) ok attempt all b = absurd (true≢false (sym ok))

    -- a call of the source, by that of the search
    reads_once : (answer : Result (Option Answer) PageFault) → OnOk answer (IsOk result) → (read : List ℕ) (before : HasReadNodes tree pages old.held old.last read)
        → CallVisits by_page (nearing tree pages) (near_visit number) before.done old new result
        → ReadsNodesOnce (HasReadNodes tree pages new.held new.last) read old.desk new.desk answer
    reads_once answer both read before call = record {
      completed = map (near_visit number) taken;
      attempted = map (near_visit number) call.attempt;
      log = call.makes.noted.log ∙ ap (λ (visits : List Visit). old.desk.visits ++ visits) (map-append (near_visit number) taken call.attempt);
      settled = settled answer both;
      few = subst (λ (n : ℕ). n ≤ 1) (sym (length-map call.attempt (near_visit number))) (one_tried result call.attempt all call.bounds);
      once = λ page. subst (λ (list : List ℕ). times page list ≤ 1) all_read (opened_once new.held all call.makes.stands.tracks page);
      after = record { done = all; stands = call.makes.stands; are = all_read };
    }
      where
        taken : List (Item PageNode)
        taken = call.makes.taken

        all : List (Item PageNode)
        all = before.done ++ taken

        all_read : pages_of (nodes_of all) ≡ read ++ pages_read (map (near_visit number) taken)
        all_read = pages-append before.done taken ∙ ap₂ (λ (x y : List ℕ). x ++ y) before.are (sym (read_of number taken))

        settled : (answer : Result (Option Answer) PageFault) → OnOk answer (IsOk result) → OnOk answer (map (near_visit number) call.attempt ≡ [])
        settled (Ok a) ok = ap (map (near_visit number)) (none_tried result ok call.attempt all call.bounds)
        settled (Err fault) ok = tt

-- over whatever pages the disk tells
pub once_over : (number : ℕ) (pages : Option PageMap) (tree after : NearTree FileShapes) (old new : SearchState PageNode) (result : Result (Option Hit) PageFault)
    (answer : Result (Option Answer) PageFault) → after ≡ tree → OnOk answer (IsOk result)
    → IfSome pages (λ m. MakesVisits by_page (nearing tree m) (near_visit number) old new result)
    → IfSome pages (λ m. (d : Database) (p : Plan) (t : Taken) → HasTakenNear tree m old.held old.last old.counts d p t
    → (read : List ℕ) → HasReadNodes tree m old.held old.last read → ReadsNodesOnce (HasReadNodes after m new.held new.last) read old.desk new.desk answer)
once_over number None tree after old new result answer same both makes = tt
once_over number (Some m) tree after old new result answer same both makes = λ d p t h read before.
    subst (λ (x : NearTree FileShapes). ReadsNodesOnce (HasReadNodes x m new.held new.last) read old.desk new.desk answer) (sym same)
    (reads_once tree m h.lawful.once number old new result answer both read before (makes before.done before.stands))

-- a search that stands where nothing was taken has read no node
pub none_read : (made kept : NearTree FileShapes) → kept ≡ made → (held : List (Item PageNode)) (last : Option Hit) (counts : Counts)
    → ((m : PageMap) → MeetsLaws (nearing made m) → Stands by_page (nearing made m) held last [])
    → (pages : PageMap) (d : Database) (p : Plan) (t : Taken) → HasTakenNear kept pages held last counts d p t → HasReadNodes kept pages held last []
none_read made kept same held last counts search pages d p t h =
    let laws = subst (λ (x : NearTree FileShapes). MeetsLaws (nearing x pages)) same h.lawful.hierarchy in record {
      done = [];
      stands = subst (λ (x : NearTree FileShapes). Stands by_page (nearing x pages) held last []) (sym same) (search pages laws);
      are = refl;
    }

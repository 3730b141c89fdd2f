-- A new quadtree of all rows: its entries are those of the model's tree, with the rough shapes of the rows.
use Rattle.std.proofs.Common.{◌≡◌, ℕ, suc, ◌+◌, ◌<◌, ◌≤◌, Bool, true, false, not, ◌||◌, List, [], ◌∷◌, length, refl, sym, ◌∙◌, ap, ap₂, subst, arith, Some}
use Rattle.std.specs.Prelude.{nat_eq}
use Rattle.sand_base.specs.declared.TheConstants.{COORDINATE_BITS}
use Rattle.sand_base.specs.declared.shape.Shape.{Shape}
use Rattle.z_code.specs.declared.block.Block.{Block}
use Rattle.page_pool.specs.Disk.{PageMap}
use Rattle.page_pool.specs.Pool.{PoolState}
use Rattle.page_pool.specs.Reads.{IsRead}
use Rattle.code_btree.specs.Items.{Ascending, Above as AboveKeys}
use Rattle.code_btree.specs.Tree.{pages_in}
use Rattle.sand_model.specs.Measure.{Measure, IsMeasure}
use Rattle.sand_model.specs.Database.{shape_at, meets_block, tree_of}
use Rattle.sand_model.specs.Roughs.{rough_figure}
use Rattle.sand_model.specs.Tree.{Tree, root_block, Fits, IsFull, listings}
use Rattle.ring_geom.specs.Laws.{GapExists}
use Rattle.ring_geom.specs.MeasureLaws.{ChildrenMeet, TestIsMeeting, RootMeetsAll}
use Rattle.pmr_tree.specs.Entries.{figure_of, value_of, KeepsIn}
use Rattle.pmr_tree.specs.Keys.{IsShaped, is_inside, keys, keys_within}
use Rattle.pmr_tree.specs.Laws.{AreInPlane}
use Rattle.pmr_tree.specs.Leaves.{firsts}
use Rattle.pmr_tree.specs.Listing.{Pair}
use Rattle.pmr_tree.specs.Lists.{Above, RiseStrictly}
use Rattle.pmr_tree.specs.Quadtree.{store_of, keys_at, tree_at, IsPmr}
use Rattle.pmr_tree.specs.declared.quadtree.Pmr.{Pmr}
use Rattle.pmr_tree.proofs.Counts.{count_keys}
use Rattle.pmr_tree.proofs.Grown.{keeps_test, passes_keeps}
use Rattle.pmr_tree.proofs.KeyLists.{keys_inside, keys_rise}
use Rattle.pmr_tree.proofs.AscendingLists.{filter_all}
use Rattle.pmr_tree.proofs.ShapeLaws.{some_same, rows_quarters, is_root}
use Rattle.pmr_tree.proofs.TreeAt.{tree_is}
use Rattle.pmr_build.specs.Bulk.{bulk}
use Rattle.pmr_build.specs.Calls.{EntersBlock, IsTooMany, BuildsTree, BuildsQuadtree}
use Rattle.pmr_build.specs.Members.{Member, member_ids, AreRowsById, AreMembersOf, AreMembersIn, TellsRows, MembersPass}
use Rattle.pmr_build.specs.declared.enter.Rule.{Rule}
use Rattle.pmr_build.proofs.Trees.{rows_are, bulk_fits, bulk_shaped, rows_full}
use Rattle.pmr_build.proofs.Rows.{Rows, ids_of, itself, equal_of, row_id, ids_same, Premises, rows_told, members_are, all_met}

-- the model's tree is the one that is told by blocks
pub tree_told : (rows : Rows) (list : List Member) → Premises rows list → (gap : Measure) → IsMeasure gap → (n levels : ℕ) → levels ≡ COORDINATE_BITS
    → tree_of gap rows n ≡ bulk (meets_block gap rows) n levels root_block n (member_ids list)
tree_told rows list h gap measure n levels e =
    rows_are gap rows n levels e (rows_quarters h.children gap measure rows h.plane) h.by_id.rise (all_met rows list h gap measure)
    ∙ ap (bulk (meets_block gap rows) n levels root_block n) (sym (ids_same list rows h.are))

tree_shaped : (rows : Rows) (list : List Member) → Premises rows list → (gap : Measure) → IsMeasure gap → (n : ℕ) → IsShaped root_block (tree_of gap rows n)
tree_shaped rows list h gap measure n = at COORDINATE_BITS refl where
  at : (levels : ℕ) → levels ≡ COORDINATE_BITS → IsShaped root_block (tree_of gap rows n)
  at levels e =
      subst (IsShaped root_block) (sym (rows_are gap rows n levels e (rows_quarters h.children gap measure rows h.plane) h.by_id.rise (all_met rows list h gap measure)))
      (bulk_shaped (meets_block gap rows) n levels root_block (omega (arith, e)) n (ids_of rows) h.by_id.rise h.by_id.ids)

tree_fits : (rows : Rows) (list : List Member) → Premises rows list → (gap : Measure) → IsMeasure gap → (n : ℕ) → Fits (meets_block gap rows) (ids_of rows) root_block (tree_of gap rows n)
tree_fits rows list h gap measure n = at COORDINATE_BITS refl where
  at : (levels : ℕ) → levels ≡ COORDINATE_BITS → Fits (meets_block gap rows) (ids_of rows) root_block (tree_of gap rows n)
  at levels e =
      let q = rows_quarters h.children gap measure rows h.plane in
      subst (Fits (meets_block gap rows) (ids_of rows) root_block) (sym (rows_are gap rows n levels e q h.by_id.rise (all_met rows list h gap measure)))
      (bulk_fits (meets_block gap rows) q n (ids_of rows) levels root_block is_root (omega (arith, e)) n (ids_of rows)
      (sym (filter_all (meets_block gap rows root_block) (ids_of rows) (all_met rows list h gap measure))))

-- the keys of the entries are those of the model's tree
pub keys_told : (rows : Rows) (list : List Member) → Premises rows list → (gap : Measure) → IsMeasure gap → (n : ℕ) (es : List Pair)
    → EntersBlock (meets_block gap rows) n root_block n list [] es → firsts es ≡ keys root_block (tree_of gap rows n)
keys_told rows list h gap measure n es e = at COORDINATE_BITS refl where
  at : (levels : ℕ) → levels ≡ COORDINATE_BITS → firsts es ≡ keys root_block (tree_of gap rows n)
  at levels l = e.keys levels (omega (arith, l)) ∙ ap (keys root_block) (sym (tree_told rows list h gap measure n levels l))

-- so they ascend
rises_ascend : (es : List Pair) → RiseStrictly (firsts es) → Ascending es
rises_ascend [] h = tt
rises_ascend (e ∷ es) h = (above es h.0, rises_ascend es h.1) where
  above : (xs : List Pair) → Above e.0 (firsts xs) → AboveKeys e.0 xs
  above [] k = tt
  above (x ∷ xs) k = (k.0, above xs k.1)

pub entries_ascend : (rows : Rows) (list : List Member) → Premises rows list → (gap : Measure) → IsMeasure gap → (n : ℕ) (es : List Pair)
    → EntersBlock (meets_block gap rows) n root_block n list [] es → Ascending es
entries_ascend rows list h gap measure n es e =
    rises_ascend es (subst RiseStrictly (sym (keys_told rows list h gap measure n es e)) (keys_rise root_block (tree_of gap rows n) (tree_shaped rows list h gap measure n)))

-- the entries of an id have the value of its row's rough shape
members_pass : (rows : Rows) (m : Block → ℕ → Bool) (b : Block) (id : ℕ) (s : Shape) → shape_at rows id ≡ Some s → (list : List Member) → AreMembersIn rows m b list
    → MembersPass (keeps_test id (value_of (rough_figure s))) list
members_pass rows m b id s at [] h = tt
members_pass rows m b id s at (i ∷ list) h = (go (nat_eq i.0 id) refl, members_pass rows m b id s at list h.1) where
  v : ℕ
  v = value_of (rough_figure s)

  go : (c : Bool) → nat_eq i.0 id ≡ c → (not (nat_eq i.0 id) || nat_eq (value_of (figure_of i.1)) v) ≡ true
  go true t =
      let own : Some h.0.0.shape ≡ Some s = sym h.0.0.at ∙ (ap (shape_at rows) (equal_of i.0 id t) ∙ at) in
      let same : value_of (figure_of i.1) ≡ v = ap value_of (h.0.0.rough ∙ ap rough_figure (some_same h.0.0.shape s own)) in
      let yes : nat_eq (value_of (figure_of i.1)) v ≡ true = subst (λ x. nat_eq (value_of (figure_of i.1)) x ≡ true) same (itself (value_of (figure_of i.1))) in
      rw (t, yes) refl
  go false t = rw t refl

-- Over pages where the B+-tree has these entries the value is the quadtree of all rows.

tree_here : (rows : Rows) (list : List Member) → Premises rows list → (gap : Measure) → IsMeasure gap → (w : PageMap) (t : Pmr) (n : ℕ)
    → keys_at w t ≡ keys root_block (tree_of gap rows n) → tree_at w t ≡ tree_of gap rows n
tree_here rows list h gap measure w t n e =
    let tree : Tree = tree_of gap rows n in
    let shaped : IsShaped root_block tree = tree_shaped rows list h gap measure n in
    tree_is w t tree (record {
      is = ap (keys_within root_block) e ∙ filter_all (is_inside root_block) (keys root_block tree) (keys_inside root_block tree shaped);
      shaped = shaped;
    })

pub builds : (m w : PageMap) (t : Pmr) (n : ℕ) (rows : Rows) (list : List Member) (es : List Pair) → GapExists → Premises rows list → t.threshold ≡ n
    → ((gap : Measure) → IsMeasure gap → EntersBlock (meets_block gap rows) n root_block n list [] es) → BuildsTree (store_of m) (store_of w) t.map es → BuildsQuadtree m w t n rows
builds m w t n rows list es exists h same enters built = record {
  fits = record {
    tree = is;
    fits = λ gap measure. subst (Fits (meets_block gap rows) (ids_of rows) root_block) (sym (tree gap measure)) (tree_fits rows list h gap measure n);
    roughs = λ id s at.
        subst (λ (xs : List Pair). KeepsIn xs id s) (sym built.items)
        (passes_keeps es id (value_of (rough_figure s)) (row_id rows id s h.by_id.ids at).above_mark
        ((enters exists.0 exists.1).values (keeps_test id (value_of (rough_figure s)))
        (members_pass rows (meets_block exists.0 rows) root_block id s at list (members_are rows list h exists.0 exists.1)) tt));
  };
  tree = tree;
  keeps = built.keeps;
} where
  keys_are : (gap : Measure) → IsMeasure gap → keys_at w t ≡ keys root_block (tree_of gap rows n)
  keys_are gap measure = ap firsts built.items ∙ keys_told rows list h gap measure n es (enters gap measure)

  tree : (gap : Measure) → IsMeasure gap → tree_at w t ≡ tree_of gap rows n
  tree gap measure = tree_here rows list h gap measure w t n (keys_are gap measure)

  is : IsPmr w t
  is = record {
    entries = built.tree;
    keys = keys_are exists.0 exists.1 ∙ ap (keys root_block) (sym (tree exists.0 exists.1));
    shaped = subst (IsShaped root_block) (sym (tree exists.0 exists.1)) (tree_shaped rows list h exists.0 exists.1 n);
    full = subst (λ k. IsFull k (tree_at w t)) (sym same) (subst (IsFull n) (sym (tree exists.0 exists.1)) (rows_full exists.0 rows n (rows_quarters h.children exists.0 exists.1 rows h.plane)));
  }

-- the listings are the entries
length_firsts : (es : List Pair) → length (firsts es) ≡ length es
length_firsts [] = refl
length_firsts (e ∷ es) = ap suc (length_firsts es)

pub listings_few : (rows : Rows) (list : List Member) → Premises rows list → (gap : Measure) → IsMeasure gap → (n limit : ℕ) (es : List Pair) (tree : Tree)
    → EntersBlock (meets_block gap rows) n root_block n list [] es → length es ≤ limit → tree ≡ tree_of gap rows n → listings tree ≤ limit
listings_few rows list h gap measure n limit es tree e few is =
    fewer (length es) limit (length (firsts es)) (length (keys root_block (tree_of gap rows n))) (listings (tree_of gap rows n)) (listings tree) few (length_firsts es)
    (ap length (keys_told rows list h gap measure n es e)) (count_keys root_block (tree_of gap rows n)) (ap listings is)
  where
    fewer : (a limit b c d x : ℕ) → a ≤ limit → b ≡ a → b ≡ c → c ≡ d → x ≡ d → x ≤ limit
    fewer a limit b c d x few ba bc cd xd = omega (arith, few, ba, bc, cd, xd)

pub listings_many : (rows : Rows) (list : List Member) → Premises rows list → (gap : Measure) → IsMeasure gap → (rule : Rule) → IsTooMany (meets_block gap rows) rule root_block rule.threshold list 0
    → rule.limit < listings (tree_of gap rows rule.threshold)
listings_many rows list h gap measure rule many = at COORDINATE_BITS refl where
  at : (levels : ℕ) → levels ≡ COORDINATE_BITS → rule.limit < listings (tree_of gap rows rule.threshold)
  at levels e =
      more rule.limit (listings (bulk (meets_block gap rows) rule.threshold levels root_block rule.threshold (member_ids list))) (listings (tree_of gap rows rule.threshold))
      (many levels (omega (arith, e))) (ap listings (tree_told rows list h gap measure rule.threshold levels e))
    where
      more : (limit x y : ℕ) → limit < 0 + x → y ≡ x → limit < y
      more limit x y l e = omega (arith, l, e)

-- The same as code has its parts: the root, so many ids, and entries under other names.

pub premises : (rows : Rows) (list : List Member) → ChildrenMeet → TestIsMeeting → RootMeetsAll → AreInPlane rows → AreRowsById rows → AreMembersOf list rows → Premises rows list
premises rows list children tests root plane by_id are = record { children = children; tests = tests; root = root; plane = plane; by_id = by_id; are = are }

root_is : (b : Block) → b.z ≡ 0 → b.level ≡ 0 → b ≡ root_block
root_is b e f = (let at : ℕ → ℕ → Block = λ z level. record { z = z; level = level } in ap₂ at e f)

pub entered_told : (rows : Rows) (list : List Member) → Premises rows list → (gap : Measure) → IsMeasure gap → (n : ℕ) (b : Block) (most : ℕ) (old new es : List Pair) → b.z ≡ 0 → b.level ≡ 0
    → most ≡ n → old ≡ [] → es ≡ new
    → ((m : Block → ℕ → Bool) → TellsRows rows m → AreMembersIn rows m b list → EntersBlock m n b most list old new) → EntersBlock (meets_block gap rows) n root_block n list [] es
entered_told rows list h gap measure n b most old new es z level k none same f =
    let m : Block → ℕ → Bool = meets_block gap rows in
    let root : b ≡ root_block = root_is b z level in
    let A : Block → Type 0 = λ c. AreMembersIn rows m c list in
    let here : EntersBlock m n b most list old new = f m (rows_told rows list h gap measure) (subst A (sym root) (members_are rows list h gap measure)) in
    let B : Block → Type 0 = λ c. EntersBlock m n c most list old new in
    let K : ℕ → Type 0 = λ x. EntersBlock m n root_block x list old new in
    let O : List Pair → Type 0 = λ xs. EntersBlock m n root_block n list xs new in
    let E : List Pair → Type 0 = λ xs. EntersBlock m n root_block n list [] xs in
    subst E (sym same) (subst O none (subst K k (subst B root here)))

pub full_told : (rows : Rows) (list : List Member) → Premises rows list → (gap : Measure) → IsMeasure gap → (rule : Rule) (b : Block) (most : ℕ) (old : List Pair) → b.z ≡ 0 → b.level ≡ 0
    → most ≡ rule.threshold → old ≡ [] → ((m : Block → ℕ → Bool) → TellsRows rows m → AreMembersIn rows m b list → IsTooMany m rule b most list (length old))
    → rule.limit < listings (tree_of gap rows rule.threshold)
full_told rows list h gap measure rule b most old z level k none f =
    let m : Block → ℕ → Bool = meets_block gap rows in
    let root : b ≡ root_block = root_is b z level in
    let A : Block → Type 0 = λ c. AreMembersIn rows m c list in
    let here : IsTooMany m rule b most list (length old) = f m (rows_told rows list h gap measure) (subst A (sym root) (members_are rows list h gap measure)) in
    let B : Block → Type 0 = λ c. IsTooMany m rule c most list (length old) in
    let K : ℕ → Type 0 = λ x. IsTooMany m rule root_block x list (length old) in
    let O : List Pair → Type 0 = λ xs. IsTooMany m rule root_block rule.threshold list (length xs) in
    listings_many rows list h gap measure rule (subst O none (subst K k (subst B root here)))

-- over a state that was only read before
pub builds_over : (first read new : PoolState) (t : Pmr) (n : ℕ) (rows : Rows) (list : List Member) (es : List Pair) → GapExists → Premises rows list → t.threshold ≡ n
    → ((gap : Measure) → IsMeasure gap → EntersBlock (meets_block gap rows) n root_block n list [] es) → IsRead first read
    → BuildsTree (pages_in read) (pages_in new) t.map es → BuildsQuadtree first.pages new.pages t n rows
builds_over first read new t n rows list es exists h same enters seen built =
    let P : PageMap → Type 0 = λ p. BuildsTree (store_of p) (store_of new.pages) t.map es in
    builds first.pages new.pages t n rows list es exists h same enters (subst P seen.pages built)

pub few_over : (first read new : PoolState) (t : Pmr) (n limit : ℕ) (rows : Rows) (list : List Member) (es xs : List Pair) → GapExists → Premises rows list → t.threshold ≡ n
    → ((gap : Measure) → IsMeasure gap → EntersBlock (meets_block gap rows) n root_block n list [] es) → IsRead first read
    → BuildsTree (pages_in read) (pages_in new) t.map es → es ≡ xs → length xs ≤ limit → listings (tree_at new.pages t) ≤ limit
few_over first read new t n limit rows list es xs exists h same enters seen built is few =
    let b : BuildsQuadtree first.pages new.pages t n rows = builds_over first read new t n rows list es exists h same enters seen built in
    let P : List Pair → Type 0 = λ ys. length ys ≤ limit in
    listings_few rows list h exists.0 exists.1 n limit es (tree_at new.pages t) (enters exists.0 exists.1) (subst P (sym is) few) (b.tree exists.0 exists.1)

-- A tree that lists rows, when one enters, when one leaves, and when it is new.
use Rattle.std.proofs.Common.{◌≡◌, ℕ, ◌+◌, ◌≤◌, nat_eq, List, [], ◌∷◌, ◌++◌, map, filter, refl, sym, ◌∙◌, ap, ap₂, subst, arith}
use Rattle.std.specs.Prelude.{not, IsPermutation, Some}
use Rattle.std.proofs.lemmas.List.{map-append}
use Rattle.std.proofs.lemmas.List.Sorted.{IsPermutation-sym, IsPermutation-trans, IsPermutation-cons, IsPermutation-to_front, IsPermutation-map}
use Rattle.sand_base.specs.declared.goal.Goal.{Goal}
use Rattle.sand_base.specs.declared.rough.Rough.{Rough}
use Rattle.sand_base.specs.declared.shape.Shape.{Shape}
use Rattle.sand_model.specs.Database.{shape_at}
use Rattle.sand_model.specs.Roughs.{rough_figure, row_figure}
use Rattle.page_pool.specs.Disk.{PageMap}
use Rattle.code_btree.specs.Tree.{times}
use Rattle.pmr_tree.specs.Entries.{figure_of}
use Rattle.pmr_tree.specs.Quadtree.{store_of}
use Rattle.r_tree.specs.declared.tree.RTree.{RTree}
use Rattle.r_tree.specs.Entry.{Member, member_ids}
use Rattle.r_tree.specs.Tree.{tree_members}
use Rattle.r_tree.specs.Calls.{IsUnlisted, IsListedMember, HasEachIdOnce, PlantsTree, InsertsMember, RemovesMember}
use Rattle.r_tree.proofs.Bags.{weigh-perm}
use Rattle.r_tree.proofs.Weights.{same_weights}
use Rattle.r_tree.specs.Listing.{member_figure, ListsRows, AreMembersOf, HasNoRowOf, HasRowsOnce, PlantsRows, Relists}
use Rattle.r_tree.proofs.Orders.{Reordered, reordered}
use Rattle.r_tree.proofs.ListedMembers.{times-perm, row_ids, member_firsts, row_firsts, ids_same, member_at, members_left, member_found, weigh_left, members_of_left}

-- what a tree lists, in the order of the rows
in_order : (m : PageMap) (t : RTree) (rows : List (ℕ × Shape)) → ListsRows m t rows → Reordered member_figure (tree_members (store_of m) t) (map row_figure rows)
in_order m t rows h = reordered member_figure (tree_members (store_of m) t) (map row_figure rows) h.lists

-- an id stands among the members as often as among the rows
ids_counted : (m : PageMap) (t : RTree) (rows : List (ℕ × Shape)) (id : ℕ) → ListsRows m t rows → times id (member_ids (tree_members (store_of m) t)) ≡ times id (row_ids rows)
ids_counted m t rows id h =
    let o = in_order m t rows h in
    let first : Member → ℕ = λ i. i.0 in
    sym (times-perm id (member_ids (tree_members (store_of m) t)) (member_ids o.list) (IsPermutation-map first (tree_members (store_of m) t) o.list o.order))
    ∙ ap (λ (ids : List ℕ). times id ids) (ids_same o.list rows o.images)

-- a new id isn't listed
pub unlisted : (m : PageMap) (t : RTree) (rows : List (ℕ × Shape)) (id : ℕ) → ListsRows m t rows → HasNoRowOf id rows → IsUnlisted id (tree_members (store_of m) t)
unlisted m t rows id h none = ids_counted m t rows id h ∙ none

-- no id of rows that a tree lists is that of two
pub rows_once : (m : PageMap) (t : RTree) (rows : List (ℕ × Shape)) → ListsRows m t rows → HasRowsOnce rows
rows_once m t rows h id = omega (arith, ids_counted m t rows id h, h.tree.at.once id)

-- members of rows with ids of their own have them too
pub members_once : (is : List Member) (rows : List (ℕ × Shape)) → AreMembersOf is rows → HasRowsOnce rows → HasEachIdOnce is
members_once is rows e once id = omega (arith, ap (λ (ids : List ℕ). times id ids) (ids_same is rows e), once id)

-- A row entered.
pub entered : (m w : PageMap) (t u : RTree) (rows : List (ℕ × Shape)) (id : ℕ) (s : Shape) (q : Rough) → figure_of q ≡ rough_figure s → ListsRows m t rows
    → InsertsMember (store_of m) (store_of w) t u id q → Relists m w t u (rows ++ (id, s) ∷ [])
entered m w t u rows id s q f h i =
    let old : List (ℕ × Goal) = map member_figure (tree_members (store_of m) t) in
    let new : List (ℕ × Goal) = map member_figure (tree_members (store_of w) u) in
    let all : List (ℕ × Goal) = map row_figure rows in
    let x : ℕ × Goal = row_figure (id, s) in
    let C : ℕ × Goal → Type 0 = λ y. IsPermutation new (y ∷ old) in
    let E : List (ℕ × Goal) → Type 0 = λ ys. IsPermutation new ys in
    let back : IsPermutation new (member_figure (id, q) ∷ old) =
    IsPermutation-sym (member_figure (id, q) ∷ old) new (IsPermutation-map member_figure ((id, q) ∷ tree_members (store_of m) t) (tree_members (store_of w) u) i.lists) in
    let a : IsPermutation new (x ∷ old) = subst C (ap (λ (g : Goal). (id, g)) f) back in
    let b : IsPermutation (x ∷ old) (x ∷ all) = IsPermutation-cons x old all h.lists in
    let c : IsPermutation (x ∷ all) (all ++ x ∷ []) = IsPermutation-sym (all ++ x ∷ []) (x ∷ all) (IsPermutation-to_front all x) in
    record {
      lists = record {
        tree = i.tree;
        lists = subst E (sym (map-append row_figure rows ((id, s) ∷ []))) (IsPermutation-trans new (x ∷ old) (all ++ x ∷ []) a (IsPermutation-trans (x ∷ old) (x ∷ all) (all ++ x ∷ []) b c));
      };
      numbered = i.numbered;
      keeps = i.keeps;
    }

-- a row that is there is listed with its rough shape
pub listed : (m : PageMap) (t : RTree) (rows : List (ℕ × Shape)) (id : ℕ) (s : Shape) (q : Rough) → figure_of q ≡ rough_figure s → ListsRows m t rows → shape_at rows id ≡ Some s
    → IsListedMember id q (tree_members (store_of m) t)
listed m t rows id s q f h e =
    let members : List Member = tree_members (store_of m) t in
    let o = in_order m t rows h in
    let once : times id (member_ids o.list) ≤ 1 = members_once o.list rows o.images (rows_once m t rows h) id in
    record {
      others = members_left id o.list;
      order = same_weights members ((id, q) ∷ members_left id o.list) (λ g.
          sym (weigh-perm g members o.list o.order) ∙ weigh_left g id q o.list once (member_found o.list rows id s q o.images e f));
    }

-- A row left.
pub left : (m w : PageMap) (t u : RTree) (rows : List (ℕ × Shape)) (id : ℕ) (s : Shape) (q : Rough) → figure_of q ≡ rough_figure s → ListsRows m t rows → shape_at rows id ≡ Some s
    → RemovesMember (store_of m) (store_of w) t u id q → Relists m w t u (filter (λ (row : ℕ × Shape). not (nat_eq row.0 id)) rows)
left m w t u rows id s q f h e r =
    let members : List Member = tree_members (store_of m) t in
    let after : List Member = tree_members (store_of w) u in
    let o = in_order m t rows h in
    let once : times id (member_ids o.list) ≤ 1 = members_once o.list rows o.images (rows_once m t rows h) id in
    let order : IsPermutation after (members_left id o.list) = same_weights after (members_left id o.list) (λ g.
    omega (arith, weigh-perm g members ((id, q) ∷ after) r.lists, weigh-perm g members o.list o.order, weigh_left g id q o.list once (member_found o.list rows id s q o.images e f))) in
    let E : List (ℕ × Goal) → Type 0 = λ ys. IsPermutation (map member_figure after) ys in
    record {
      lists = record { tree = r.tree; lists = subst E (members_of_left id o.list rows o.images) (IsPermutation-map member_figure after (members_left id o.list) order) };
      numbered = r.numbered;
      keeps = r.keeps;
    }

-- A new tree lists the rows whose members it was built of.
pub built : (m w : PageMap) (t : RTree) (number : ℕ) (is : List Member) (rows : List (ℕ × Shape)) → AreMembersOf is rows → PlantsTree (store_of m) (store_of w) t number is
    → PlantsRows m w t number rows
built m w t number is rows e p =
    let new : List Member = tree_members (store_of w) t in
    let E : List (ℕ × Goal) → Type 0 = λ ys. IsPermutation (map member_figure new) ys in
    record {
      lists = record { tree = p.tree; lists = subst E e (IsPermutation-sym (map member_figure is) (map member_figure new) (IsPermutation-map member_figure is new p.lists)) };
      numbered = p.numbered;
      keeps = p.keeps;
    }

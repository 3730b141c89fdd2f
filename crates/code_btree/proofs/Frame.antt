-- A tree depends only on its own pages.
use Rattle.std.proofs.Common.{◌≡◌, ℕ, ◌-◌, ◌≤◌, List, length, sym, ◌∙◌, ap, subst, inl, inr, arith}
use Rattle.std.proofs.lemmas.Bool.Decides.{leb_tells}
use Rattle.code_btree.specs.declared.map.Tree.{Tree}
use Rattle.code_btree.specs.Node.{Pair, Node, size_of}
use Rattle.code_btree.specs.Items.{Ascending}
use Rattle.code_btree.specs.Tree.{Store, times, Path, tree_pages, pages}
use Rattle.code_btree.specs.Calls.{Unmoved}
use Rattle.code_btree.proofs.Lists.{live_same}
use Rattle.code_btree.proofs.Moves.{tree_stays}
use Rattle.code_btree.proofs.Roots.{one_pages}

pub frame : (m w : Store) (t : Tree) → ((q : ℕ) → 1 ≤ times q (tree_pages m t) → w q ≡ m q) → Unmoved m w t
frame m w t f =
    let h : ℕ = t.height - 1 in
    let n : ℕ = t.root in
    let s = tree_stays m w h n f in
    let A : List Pair → Type 0 = λ x. Ascending x in
    record {
      items = s.items;
      pages = s.pages;
      tree = λ i.
          let P : List (ℕ × ℕ) → Type 0 = λ ls. Path i.at.chain.0 ls 0 in
          record {
            tall = i.tall;
            at = record {
              sound = s.sound i.at.sound;
              top = λ l. omega (arith, i.at.top l, ap (λ (x : Node). size_of x) s.node);
              owns = λ q. elim (leb_tells 1 (times q (pages m h n))) [
                | inl x ↦ omega (arith, i.at.owns q, one_pages m h q n, one_pages w h q n, ap (λ (x : List ℕ). times q x) s.pages, live_same m w q (f q x.1))
                | inr x ↦ omega (arith, x.1, one_pages w h q n, ap (λ (x : List ℕ). times q x) s.pages)
              ];
              ascending = subst A (sym s.items) i.at.ascending;
              chain = (i.at.chain.0, subst P (sym s.links) i.at.chain.1);
              counted = i.at.counted ∙ ap (λ (x : List Pair). length x) (sym s.items);
            };
            many = i.many;
          };
    }

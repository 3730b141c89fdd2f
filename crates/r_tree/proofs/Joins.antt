-- Two nodes whose entries were put together, and laid into one node or two.
use Rattle.std.proofs.Common.{◌≡◌, ℕ, List, [], ◌∷◌, ◌++◌, sym, ◌∙◌, ap₂, subst, arith, length-append}
use Rattle.std.specs.Prelude.{Bool}
use Rattle.sand_base.specs.declared.rect.Rect.{Rect}
use Rattle.code_btree.specs.Tree.{Store}
use Rattle.r_tree.specs.declared.entry.NodeEntry.{NodeEntry}
use Rattle.r_tree.specs.declared.insert.Grown.{Grown}
use Rattle.r_tree.specs.declared.insert.Grown.TheVariants.{Kept}
use Rattle.r_tree.specs.Entry.{branch}
use Rattle.r_tree.specs.Page.{node}
use Rattle.r_tree.specs.Tree.{node_at, entries_at}
use Rattle.r_tree.specs.Steps.{Lays, AllFilled, raised, BalancesNodes}
use Rattle.r_tree.proofs.Bags.{length-perm}
use Rattle.r_tree.proofs.Inserts.{read_as}

-- the entries of both nodes, as they were read
both_read : (m : Store) (a b : ℕ) (inner : Bool) (es more : List NodeEntry) → node_at m a ≡ node inner es → node_at m b ≡ node inner more → entries_at m a ++ entries_at m b ≡ es ++ more
both_read m a b inner es more e f = ap₂ (λ (x y : List NodeEntry). x ++ y) (read_as m a inner es e) (read_as m b inner more f)

-- entries laid out from a store where the pages are as before
lays_from : (m u w : Store) (old : List ℕ) (row es fs : List NodeEntry) (inner : Bool) → u ≡ m → fs ≡ es → Lays u w old row fs inner → Lays m w old row es inner
lays_from m u w old row es fs inner e f a =
    let P : Store → Type 0 = λ x. Lays x w old row fs inner in
    let Q : List NodeEntry → Type 0 = λ x. Lays m w old row x inner in
    subst Q f (subst P e a)

pub balanced_one : (m u w : Store) (inner : Bool) (a b : ℕ) (bound : Rect) (es more fs : List NodeEntry) → u ≡ m → node_at m a ≡ node inner es
    → node_at m b ≡ node inner more → fs ≡ es ++ more → Lays u w (a ∷ (b ∷ [])) (branch bound a ∷ []) fs inner → BalancesNodes m w inner a b (Kept bound)
balanced_one m u w inner a b bound es more fs s e f g y =
    let ly : Lays m w (a ∷ (b ∷ [])) (branch bound a ∷ []) (entries_at m a ++ entries_at m b) inner =
    lays_from m u w (a ∷ (b ∷ [])) (branch bound a ∷ []) (entries_at m a ++ entries_at m b) fs inner s (g ∙ sym (both_read m a b inner es more e f)) y in
    record {
      lays = ly;
      full = λ k. (
        omega (
          arith,
          k,
          length-perm (entries_at m a ++ entries_at m b) (entries_at w a ++ []) ly.shared,
          length-append (entries_at w a) [],
          length-append (entries_at m a) (entries_at m b),
        ),
        tt,
      );
    }

pub balanced_two : (m u w : Store) (inner : Bool) (a b : ℕ) (g : Grown) (es more fs : List NodeEntry) → u ≡ m → node_at m a ≡ node inner es
    → node_at m b ≡ node inner more → fs ≡ es ++ more → Lays u w (a ∷ (b ∷ [])) (raised a g) fs inner → AllFilled w (raised a g) → BalancesNodes m w inner a b g
balanced_two m u w inner a b g es more fs s e f h y full = record {
  lays = lays_from m u w (a ∷ (b ∷ [])) (raised a g) (entries_at m a ++ entries_at m b) fs inner s (h ∙ sym (both_read m a b inner es more e f)) y;
  full = λ k. full;
}

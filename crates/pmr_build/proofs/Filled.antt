-- Entries in the order of their keys come into a new tree one after another.
use Rattle.std.proofs.Common.{◌≡◌, ℕ, zero, suc, ◌+◌, ◌<◌, List, [], ◌∷◌, ◌++◌, length, get_or, take, sym, ◌∙◌, ap, ap₂, subst, arith}
use Rattle.std.specs.Prelude.{Option}
use Rattle.std.proofs.lemmas.List.{take_more}
use Rattle.page_pool.specs.Causes.{failures_of}
use Rattle.page_pool.specs.Pool.{PoolState, IsTold}
use Rattle.page_pool.specs.Steps.{InCommand, InCommand-trans}
use Rattle.code_btree.specs.Calls.{Planted, Inserted}
use Rattle.code_btree.specs.Items.{Ascending, Below, put_item, items_below, items_above}
use Rattle.code_btree.specs.Node.{Pair}
use Rattle.code_btree.specs.Tree.{Store, pages_in, tree_pages}
use Rattle.code_btree.specs.declared.map.Tree.{Tree}
use Rattle.code_btree.proofs.Orders.{below-Below, above-Below}
use Rattle.pmr_tree.proofs.OwnPages.{keeps_then}
use Rattle.pmr_build.specs.Calls.{BuildsTree}

-- a pair above all keys comes last
put_last : (key value : ℕ) (es : List Pair) → Below key es → put_item key value es ≡ es ++ (key, value) ∷ []
put_last key value es h = ap₂ (λ (xs : List Pair) (ys : List Pair). xs ++ (key, value) ∷ ys) (below-Below key es h) (above-Below key es h)

-- the entries before one have lesser keys
before_below : (es : List Pair) (k : ℕ) (d : Pair) → Ascending es → k < length es → Below (get_or es k d).0 (take k es)
before_below [] k d h l = absurd (omega (arith, l))
before_below (e ∷ es) zero d h l = tt
before_below (e ∷ es) (suc k) d h l = (above es k (omega (arith, l)) h.0, before_below es k d h.1 (omega (arith, l))) where
  above : (xs : List Pair) (i : ℕ) → i < length xs → Rattle.code_btree.specs.Items.Above e.0 xs → e.0 < (get_or xs i d).0
  above [] i l k = absurd (omega (arith, l))
  above (x ∷ xs) zero l k = k.0
  above (x ∷ xs) (suc i) l k = above xs i (omega (arith, l)) k.1

-- What holds between two entries: the tree has those before, and no other page was touched.
pub record Filling (first now : PoolState) (t : Tree) (done : List Pair) : Type 0 where
  pub within : InCommand first now
  pub counted : failures_of now ≡ failures_of first
  pub built : IsTold first → BuildsTree (pages_in first) (pages_in now) t done

pub filling_start : (first now : PoolState) (t : Tree) → InCommand first now → failures_of now ≡ failures_of first → (IsTold first → Planted (pages_in first) (pages_in now) t)
    → Filling first now t []
filling_start first now t within counted p = record {
  within = within;
  counted = counted;
  built = λ told. record { tree = (p told).tree; items = (p told).items; keeps = (p told).keeps };
}

-- one entry more
took : (m w v : Store) (t u : Tree) (key value : ℕ) (was : Option ℕ) (done : List Pair) → Below key done → BuildsTree m w t done → Inserted w v t u key value was
    → BuildsTree m v u (done ++ (key, value) ∷ [])
took m w v t u key value was done below b i =
    record {
      tree = i.tree;
      items = i.items ∙ (ap (put_item key value) b.items ∙ put_last key value done below);
      keeps = keeps_then m w v [] (tree_pages w t) (tree_pages v u) b.keeps i.keeps;
    }

pub filling_next : (first now next : PoolState) (t u : Tree) (es : List Pair) (k : ℕ) (d : Pair) (was : Option ℕ) → k < length es → (IsTold first → Ascending es)
    → Filling first now t (take k es) → InCommand now next → failures_of next ≡ failures_of now
    → (IsTold now → Inserted (pages_in now) (pages_in next) t u (get_or es k d).0 (get_or es k d).1 was) → Filling first next u (take (k + 1) es)
filling_next first now next t u es k d was l rise f within counted i = record {
  within = InCommand-trans first now next f.within within;
  counted = counted ∙ f.counted;
  built = λ told.
      let B : List Pair → Type 0 = λ xs. BuildsTree (pages_in first) (pages_in next) u xs in
      let e : Pair = get_or es k d in
      subst B (sym (take_more es k d l))
      (took (pages_in first) (pages_in now) (pages_in next) t u e.0 e.1 was (take k es) (before_below es k d (rise told) l) (f.built told) (i (f.within.told ∙ told)));
}

-- The leaf of a key, and which other keys belong to it.
use Rattle.std.proofs.Common.{◌≡◌, ℕ, suc, ◌-◌, ◌<◌, ◌≤◌, List, sym, subst, arith}
use Rattle.std.specs.Prelude.{Some}
use Rattle.code_btree.specs.declared.near.Near.{Near}
use Rattle.code_btree.specs.Node.{key_in}
use Rattle.code_btree.specs.Tree.{Store}
use Rattle.code_btree.specs.Steps.{Subtree, InnerStep, LeadsTo}
use Rattle.code_btree.specs.Near.{IsFoundNear}
use Rattle.code_btree.proofs.Betweens.{leaf_lone, leaf_led}

-- to a lone leaf each key belongs
near_lone : (m : Store) (level key : ℕ) (near : Near) → level ≡ 0 → Subtree m level near.page → IsFoundNear m level near.page key near
near_lone m level key near z s =
    let S : ℕ → Type 0 = λ x. Subtree m x near.page in
    let F : ℕ → Type 0 = λ x. IsFoundNear m x near.page key near in
    let lone : Subtree m 0 near.page = subst S z s in
    subst F (sym z) (record { here = leaf_lone m near.page key lone; around = λ k low high. leaf_lone m near.page k lone })

-- page n leads to this child, under which the key belongs and each one from `low` on and below `high`
pub record LeadsNear (m : Store) (n key : ℕ) (near : Near) : Type 0 where
  pub page : List ℕ
  pub read : m n ≡ Some page
  pub step : InnerStep page key near.page
  pub low : 1 ≤ step.at → key_in page (step.at - 1) ≤ near.low
  pub high : step.at < step.count → near.high ≤ key_in page step.at

-- the key itself leads to the child
led_key : (m : Store) (n key : ℕ) (near : Near) → LeadsNear m n key near → LeadsTo m n key (Some near.page)
led_key m n key near l = record { page = l.page; read = l.read; step = l.step }

-- and so does each key between the separators
led_part : (m : Store) (n key k : ℕ) (near : Near) → LeadsNear m n key near → near.low ≤ k → k < near.high → LeadsTo m n k (Some near.page)
led_part m n key k near l low high =
    let st : InnerStep l.page key near.page = l.step in
    record {
      page = l.page;
      read = l.read;
      step = record { count = st.count; at = st.at; is = st.is; place = st.place; before = λ i. omega (arith, l.low i, low); behind = λ i. omega (arith, l.high i, high); child_is = st.child_is };
    }

-- The page of `near` stands so high above the leaves, and a leaf that is found under it, with no other keys than those of `near`, is found under page n.
pub record NearLed (m : Store) (level n key left : ℕ) (near : Near) : Type 0 where
  pub child : Subtree m left near.page
  pub up : (leaf : Near) → near.low ≤ leaf.low → leaf.high ≤ near.high → IsFoundNear m left near.page key leaf → IsFoundNear m level n key leaf

-- keys that belong under a child and there to a leaf belong to the leaf
near_child : (m : Store) (h n k : ℕ) (near : Near) → Subtree m (suc h) n → LeadsNear m n k near → NearLed m (suc h) n k h near
near_child m h n k near s l =
    let d = leaf_led m h n k near.page s (led_key m n k near l) in
    record {
      child = d.child;
      up = λ leaf low high f. record {
        here = d.up leaf.page f.here;
        around = λ q from to.
            let o = leaf_led m h n q near.page s (led_part m n k q near l (omega (arith, low, from)) (omega (arith, high, to))) in
            o.up leaf.page (f.around q from to);
      };
    }

-- from level to level
pub near_led : (m : Store) (level n k left h : ℕ) (near next : Near) → left ≡ suc h → NearLed m level n k left near → LeadsNear m near.page k next → near.low ≤ next.low
    → next.high ≤ near.high → NearLed m level n k h next
near_led m level n k left h near next e led l low high =
    let S : ℕ → Type 0 = λ x. Subtree m x near.page in
    let F : Near → ℕ → Type 0 = λ leaf x. IsFoundNear m x near.page k leaf in
    let d = near_child m h near.page k next (subst S e led.child) l in
    record {
      child = d.child;
      up = λ leaf from to f. led.up leaf (omega (arith, low, from)) (omega (arith, high, to)) (subst (F leaf) (sym e) (d.up leaf from to f));
    }

-- down to the leaf
pub near_found : (m : Store) (level n k left : ℕ) (near : Near) → left ≡ 0 → NearLed m level n k left near → IsFoundNear m level n k near
near_found m level n k left near z led = led.up near (omega arith) (omega arith) (near_lone m left k near z led.child)

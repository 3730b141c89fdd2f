-- Changes of pages, one after another; and what a change of one tree's pages leaves to rows on other pages.
use Rattle.std.proofs.Common.{◌≡◌, ℕ, zero, suc, ◌≤◌, Bool, true, false, cond, List, refl, sym, ◌∙◌, ap, subst, arith}
use Rattle.std.specs.Prelude.{Option, None, Some, is_some, IsSome, IsTrue, Err}
use Rattle.page_pool.specs.Disk.{PageMap}
use Rattle.page_pool.specs.Pool.{PoolState, IsLive, IsTold}
use Rattle.page_pool.specs.Reads.{IsRead}
use Rattle.page_pool.specs.Causes.{HasPageCause}
use Rattle.page_pool.specs.Steps.{InCommand, InCommand-read}
use Rattle.page_pool.specs.declared.fault.PageFault.{PageFault}
use Rattle.page_pool.specs.declared.fault.PageFault.TheVariants as page
use Rattle.code_btree.specs.declared.map.Tree.{Tree}
use Rattle.code_btree.specs.Tree.{Store, IsTree, pages_in, tree_pages, times, live}
use Rattle.code_btree.specs.Calls.{Keeps}
use Rattle.sand_base.specs.declared.shape.Shape.{Shape}
use Rattle.pmr_tree.specs.Quadtree.{store_of}
use Rattle.pmr_tree.specs.Plot.{IsReadyOn, LeadsOn, IsNotFull, of_end, pmr_fault}
use Rattle.pmr_tree.specs.declared.fault.PmrFault.{PmrFault}

-- a command is open, by its beginning
abbrev IsOpenAt : Option PageMap → Type 0
IsOpenAt beginning = IsSome beginning

-- 1 for yes
abbrev flag : Bool → ℕ
flag b = cond b 1 0

abbrev live_at : Option (List ℕ) → ℕ
live_at o = flag (is_some o)

live_none : (m : Store) (q : ℕ) → live m q ≡ 0 → m q ≡ None
live_none m q h = go (m q) refl where
  one_zero : (n : ℕ) → n ≡ 1 → n ≡ 0 → ⊥
  one_zero n e h = omega (arith, e, h)

  go : (o : Option (List ℕ)) → m q ≡ o → m q ≡ None
  go None e = e
  go (Some x) e = absurd (one_zero (live m q) (ap live_at e) h)

none_live : (m : Store) (q : ℕ) → m q ≡ None → live m q ≡ 0
none_live m q e = ap live_at e

-- a live page has its number in the map
pub live_is : (p : PoolState) (n : ℕ) → IsLive p n → live (pages_in p) n ≡ 1
live_is p n h = ap flag h

flag_is : (b : Bool) → flag b ≡ 1 → b ≡ true
flag_is true h = refl
flag_is false h = absurd (omega (arith, h))

pub is_live : (p : PoolState) (n : ℕ) → live (pages_in p) n ≡ 1 → IsLive p n
is_live p n h = flag_is (is_some (pages_in p n)) h

some_none : (n : ℕ) → (n ≡ 0 → ⊥) → 1 ≤ n
some_none n h = omega (arith, h)

-- one change after another
pub keeps_then : (m w v : Store) (a b c : List ℕ) → Keeps m w a b → Keeps w v b c → Keeps m v a c
keeps_then m w v a b c h k = record {
  others = λ q l z. k.others q (moved_live q l z) (not_gained q l z) ∙ h.others q l z;
  gained = λ q some z. gained q some z;
  lost = λ q some z. lost q some z;
  moved = λ q. omega (arith, h.moved q, k.moved q);
} where
  not_gained : (q : ℕ) → live m q ≡ 1 → times q a ≡ 0 → times q b ≡ 0
  not_gained q l z =
      let go : (n : ℕ) → times q b ≡ n → times q b ≡ 0 = λ n e. zero_or n e in go (times q b) refl
    where
      zero_or : (n : ℕ) → times q b ≡ n → times q b ≡ 0
      zero_or zero e = e
      zero_or (suc n) e = absurd (omega (arith, l, none_live m q (h.gained q (omega (arith, e)) z)))

  moved_live : (q : ℕ) → live m q ≡ 1 → times q a ≡ 0 → live w q ≡ 1
  moved_live q l z = ap live_at (h.others q l z) ∙ l

  gained : (q : ℕ) → 1 ≤ times q c → times q a ≡ 0 → m q ≡ None
  gained q some z = go (times q b) refl where
    go : (n : ℕ) → times q b ≡ n → m q ≡ None
    go zero e = live_none m q (omega (arith, h.moved q, z, e, none_live w q (k.gained q some e)))
    go (suc n) e = h.gained q (omega (arith, e)) z

  lost : (q : ℕ) → 1 ≤ times q a → times q c ≡ 0 → v q ≡ None
  lost q some z = go (times q b) refl where
    go : (n : ℕ) → times q b ≡ n → v q ≡ None
    go zero e = live_none v q (omega (arith, k.moved q, z, e, none_live w q (h.lost q some e)))
    go (suc n) e = k.lost q (omega (arith, e)) z

-- pages that were not touched at all
pub keeps_none : (m : Store) (a : List ℕ) → Keeps m m a a
keeps_none m a = record {
  others = λ q l z. refl;
  gained = λ q some z. absurd (omega (arith, some, z));
  lost = λ q some z. absurd (omega (arith, some, z));
  moved = λ q. refl;
}

-- a refusal of the pages, by the quadtree's name for it
pub passed : (old new : PoolState) {T : Type 0} (fault : PageFault) → HasPageCause {T = T} old new (Err fault) → HasPageCause old new (of_end (Some (pmr_fault fault)))
passed old new page.Memory h = record { counted = h.counted; damaged = tt }
passed old new page.Device h = record { counted = h.counted; damaged = tt }
passed old new (page.Damaged n kept read) h = record { counted = h.counted; damaged = h.damaged }

-- no refusal of the pages is a full index
pub never_full : (fault : PageFault) → IsNotFull (Some (pmr_fault fault))
never_full page.Memory = tt
never_full page.Device = tt
never_full (page.Damaged n kept read) = tt

-- a page that rows own is no page of the tree, and stays
pub own_page : (Owns : PageMap → ℕ → Type 0) (s : Shape) (Stands : PageMap → Type 0) (t : Tree) (p q : PoolState) (after : List ℕ) → IsTold p
    → IsReadyOn s Stands Owns t p → Keeps (pages_in p) (pages_in q) (tree_pages (pages_in p) t) after
    → (n : ℕ) → Owns p.pages n → store_of q.pages n ≡ store_of p.pages n
own_page Owns s Stands t p q after told ready keep n own = (let a = ready.apart told n own in keep.others n (live_is p n a.0) a.1)

-- a call that changed the tree and pages of its own
pub leads_changed : (rows : PageMap → List (ℕ × Shape)) (s : Shape) (Stands : PageMap → Type 0) (Owns : PageMap → ℕ → Type 0)
    → ((m w : PageMap) → Stands m → ((n : ℕ) → Owns m n → store_of w n ≡ store_of m n) → Stands w)
    → ((m w : PageMap) → Stands m → ((n : ℕ) → Owns m n → store_of w n ≡ store_of m n) → rows w ≡ rows m)
    → ((m w : PageMap) → Stands m → ((n : ℕ) → Owns m n → store_of w n ≡ store_of m n) → (n : ℕ) → Owns w n → Owns m n)
    → (t : Tree) (p : PoolState) (u : Tree) (q : PoolState) (end : Option PmrFault) → InCommand p q → HasPageCause p q (of_end end) → IsNotFull end
    → (end ≡ None → IsTold p → IsReadyOn s Stands Owns t p → IsTree (pages_in q) u × Keeps (pages_in p) (pages_in q) (tree_pages (pages_in p) t) (tree_pages (pages_in q) u))
    → LeadsOn rows s Stands Owns t p u q end
leads_changed rows s Stands Owns on_stands on_rows on_owns t p u q end within cause not_full did = record {
  within = within;
  cause = cause;
  not_full = not_full;
  ready = λ e ready. record {
    opened = subst (λ x. IsOpenAt x) (sym within.beginning) ready.opened;
    shape = ready.shape;
    tree = λ told. (did e (sym within.told ∙ told) ready).0;
    stands = λ told. (let back = sym within.told ∙ told in on_stands p.pages q.pages (ready.stands back) (own_page Owns s Stands t p q (tree_pages (pages_in q) u) back ready (did e back ready).1));
    apart = λ told n own. apart e ready (sym within.told ∙ told) n own;
  };
  same = λ e told ready. on_rows p.pages q.pages (ready.stands told) (own_page Owns s Stands t p q (tree_pages (pages_in q) u) told ready (did e told ready).1);
  keeps = λ e told ready m before keep. keeps_then m (pages_in p) (pages_in q) before (tree_pages (pages_in p) t) (tree_pages (pages_in q) u) keep (did e told ready).1;
} where
  apart : end ≡ None → IsReadyOn s Stands Owns t p → IsTold p → (n : ℕ) → Owns q.pages n → IsLive q n × (times n (tree_pages (pages_in q) u) ≡ 0)
  apart e ready told n own =
      let keep = (did e told ready).1 in
      let page = own_page Owns s Stands t p q (tree_pages (pages_in q) u) told ready keep in
      let before = on_owns p.pages q.pages (ready.stands told) page n own in
      let a = ready.apart told n before in
      let lives = live_is p n a.0 in
      (is_live q n (ap live_at (page n before) ∙ lives), not_gained n keep lives a.1 (times n (tree_pages (pages_in q) u)) refl)
    where
      not_gained : (n : ℕ) → Keeps (pages_in p) (pages_in q) (tree_pages (pages_in p) t) (tree_pages (pages_in q) u) → live (pages_in p) n ≡ 1 → times n (tree_pages (pages_in p) t) ≡ 0
          → (k : ℕ) → times n (tree_pages (pages_in q) u) ≡ k → times n (tree_pages (pages_in q) u) ≡ 0
      not_gained n keep lives z zero e = e
      not_gained n keep lives z (suc k) e = absurd (omega (arith, lives, none_live (pages_in p) n (keep.gained n (omega (arith, e)) z)))

-- a reading call
pub leads_read : (rows : PageMap → List (ℕ × Shape)) (s : Shape) (Stands : PageMap → Type 0) (Owns : PageMap → ℕ → Type 0) (t : Tree) (p q : PoolState) (end : Option PmrFault)
    → IsRead p q → HasPageCause p q (of_end end) → IsNotFull end → LeadsOn rows s Stands Owns t p t q end
leads_read rows s Stands Owns t p q end read cause not_full = record {
  within = InCommand-read p q read;
  cause = cause;
  not_full = not_full;
  ready = λ e ready. record {
    opened = subst (λ x. IsOpenAt x) (sym read.beginning) ready.opened;
    shape = ready.shape;
    tree = λ told. subst (λ x. IsTree (store_of x) t) (sym read.pages) (ready.tree (sym read.told ∙ told));
    stands = λ told. subst Stands (sym read.pages) (ready.stands (sym read.told ∙ told));
    apart = λ told n. subst (λ x. Owns x n → IsTrue (is_some (store_of x n)) × (times n (tree_pages (store_of x) t) ≡ 0)) (sym read.pages) (ready.apart (sym read.told ∙ told) n);
  };
  same = λ e told ready. ap rows read.pages;
  keeps = λ e told ready m before keep. subst (λ x. Keeps m (store_of x) before (tree_pages (store_of x) t)) (sym read.pages) keep;
}

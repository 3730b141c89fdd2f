-- What the pool's calls do to the store of live pages.
use Rattle.std.proofs.Common.{◌≡◌, ℕ, Bool, true, false, cond, eqb, List, refl, ◌∙◌, ap, inl, inr, arith}
use Rattle.std.specs.Prelude.{None, Some}
use Rattle.std.specs.FinMap as fin
use Rattle.std.specs.Ordering.{nat_cmp, is_eq}
use Rattle.std.specs.Cmp.{nat_cmp_total}
use Rattle.std.proofs.lemmas.Bool.Decides.{nat_tests, eqb_tells}
use Rattle.page_pool.specs.Disk.{PageMap}
use Rattle.page_pool.specs.Pool.{PoolState, zero_page}
use Rattle.page_pool.specs.Commands.{Puts, Allocates, Frees}
use Rattle.code_btree.specs.Tree.{Store, pages_in, same}
use Rattle.code_btree.specs.Steps.{Wrote, Gained, Freed}

tie : (q n : ℕ) → is_eq (nat_cmp q n) ≡ eqb q n
tie q n = grind (arith, nat_tests)

tie_self : (n : ℕ) → is_eq (nat_cmp n n) ≡ true
tie_self n = tie n n ∙ elim (eqb_tells n n) [ inl x ↦ x.0 | inr x ↦ absurd (x.1 refl) ]

tie_apart : (q n : ℕ) → same q n ≡ 0 → is_eq (nat_cmp q n) ≡ false
tie_apart q n h = tie q n ∙ elim (eqb_tells q n) [ inl x ↦ absurd (let e : same q n ≡ 1 = rw x.0 in omega arith) | inr x ↦ x.0 ]

get_put : (m : PageMap) (n : ℕ) (page : List ℕ) → fin.get (fin.insert m n page) n ≡ Some page
get_put m n page = fin.get-insert nat_cmp_total m n page n ∙ ap (λ (b : Bool). cond b (Some page) (fin.get m n)) (tie_self n)

get_past : (m : PageMap) (n : ℕ) (page : List ℕ) (q : ℕ) → same q n ≡ 0 → fin.get (fin.insert m n page) q ≡ fin.get m q
get_past m n page q h = fin.get-insert nat_cmp_total m n page q ∙ ap (λ (b : Bool). cond b (Some page) (fin.get m q)) (tie_apart q n h)

get_gone : (m : PageMap) (n : ℕ) → fin.get (fin.remove m n) n ≡ None
get_gone m n = fin.get-remove nat_cmp_total m n n ∙ ap (λ (b : Bool). cond b None (fin.get m n)) (tie_self n)

get_left : (m : PageMap) (n q : ℕ) → same q n ≡ 0 → fin.get (fin.remove m n) q ≡ fin.get m q
get_left m n q h = fin.get-remove nat_cmp_total m n q ∙ ap (λ (b : Bool). cond b None (fin.get m q)) (tie_apart q n h)

at : (x y : PageMap) (q : ℕ) → x ≡ y → fin.get x q ≡ fin.get y q
at x y q e = ap (λ (p : PageMap). fin.get p q) e

pub wrote : (a b : PoolState) (n : ℕ) (page : List ℕ) → fin.contains_key a.pages n ≡ true → Puts a b n page → Wrote (pages_in a) (pages_in b) n page
wrote a b n page l p = record {
  before = ap (λ (t : Bool). cond {A = ℕ} t 1 0) l;
  now = at b.pages (fin.insert a.pages n page) n p.changes.pages ∙ get_put a.pages n page;
  others = λ q h. at b.pages (fin.insert a.pages n page) q p.changes.pages ∙ get_past a.pages n page q h;
}

pub gained : (a b c : PoolState) (n : ℕ) (page : List ℕ) → Allocates a b n → Wrote (pages_in b) (pages_in c) n page → Gained (pages_in a) (pages_in c) n page
gained a b c n page p w = record {
  before = p.fresh;
  now = w.now;
  others = λ q h. w.others q h ∙ (at b.pages (fin.insert a.pages n zero_page) q p.changes.pages ∙ get_past a.pages n zero_page q h);
  positive = p.positive;
}

pub freed : (a b : PoolState) (n : ℕ) → fin.contains_key a.pages n ≡ true → Frees a b n → Freed (pages_in a) (pages_in b) n
freed a b n l p = record {
  before = ap (λ (t : Bool). cond {A = ℕ} t 1 0) l;
  now = at b.pages (fin.remove a.pages n) n p.changes.pages ∙ get_gone a.pages n;
  others = λ q h. at b.pages (fin.remove a.pages n) q p.changes.pages ∙ get_left a.pages n q h;
}

-- the same pages are the same store
pub same_store : (a b : PoolState) → a.pages ≡ b.pages → pages_in a ≡ pages_in b
same_store a b e = let f : PageMap → Store = λ x q. fin.get x q in ap f e

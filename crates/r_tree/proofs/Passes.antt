-- Entry by entry, the ways down of a removal that found nothing.
use Rattle.std.proofs.Common.{◌≡◌, ℕ, suc, ◌+◌, ◌-◌, ◌≤◌, ◌<◌, List, take, length, get_or, Bool, true, false, refl, sym, ◌∙◌, ap, subst, arith}
use Rattle.std.specs.Prelude.{cond}
use Rattle.std.specs.List.{sum_by}
use Rattle.std.proofs.lemmas.List.{take_more}
use Rattle.std.proofs.lemmas.List.Sums.{sum_by_push, sum_by-take-le}
use Rattle.sand_base.specs.declared.rect.Rect.{Rect}
use Rattle.page_pool.specs.Causes.{failures_of}
use Rattle.page_pool.specs.Pool.{PoolState, IsTold}
use Rattle.page_pool.specs.Steps.{InCommand, InCommand-refl, InCommand-trans}
use Rattle.code_btree.specs.Tree.{Store, pages_in}
use Rattle.code_btree.proofs.Stores.{same_store}
use Rattle.r_tree.specs.declared.entry.NodeEntry.{NodeEntry}
use Rattle.r_tree.specs.Entry.{Member, box_of, covers}
use Rattle.r_tree.specs.Page.{node}
use Rattle.r_tree.specs.Tree.{node_at, entries_at}
use Rattle.r_tree.specs.Ways.{ways_below, ways_under}
use Rattle.r_tree.specs.Steps.{NodeTree, Lacks, PassesBy}
use Rattle.r_tree.proofs.Inserts.{read_as}
use Rattle.r_tree.proofs.Removes.{lacks_more, past_lacks, lacks_all}

-- how many nodes one entry leads to
abbrev way : Store → ℕ → Rect → NodeEntry → ℕ
way m l box e = cond (covers (box_of e.rough) box) (suc (ways_below m l (entries_at m e.child) box)) 0

-- the ways through one entry more
ways_more : (m : Store) (l at : ℕ) (d : NodeEntry) (es : List NodeEntry) (box : Rect) → at < length es
    → ways_below m (suc l) (take (at + 1) es) box ≡ ways_below m (suc l) (take at es) box + way m l box (get_or es at d)
ways_more m l at d es box lt = ap (λ (x : List NodeEntry). sum_by (way m l box) x) (take_more es at d lt) ∙ sum_by_push (way m l box) (take at es) (get_or es at d)

-- an entry whose rectangle holds the box leads to its child and the ways from there
way_down : (m : Store) (l : ℕ) (e : NodeEntry) (box : Rect) → covers (box_of e.rough) box ≡ true → way m l box e ≡ ways_under m l e.child box
way_down m l e box h = ap (λ (b : Bool). cond b (suc (ways_below m l (entries_at m e.child) box)) 0) h

-- the ways up to an entry whose rectangle holds the box
ways_tried : (m : Store) (l at : ℕ) (e : NodeEntry) (es : List NodeEntry) (box : Rect) → at < length es → e ≡ get_or es at e → covers (box_of e.rough) box ≡ true
    → ways_below m (suc l) (take (at + 1) es) box ≡ ways_below m (suc l) (take at es) box + ways_under m l e.child box
ways_tried m l at e es box lt is c = ways_more m l at e es box lt ∙ ap (λ (k : ℕ). ways_below m (suc l) (take at es) box + k) (ap (λ (x : NodeEntry). way m l box x) (sym is) ∙ way_down m l e box c)

-- some of the ways are among all of them
ways_front : (m : Store) (l at : ℕ) (es : List NodeEntry) (box : Rect) → ways_below m (suc l) (take at es) box ≤ ways_below m (suc l) es box
ways_front m l at es box = sum_by-take-le (way m l box) es at

-- what is known of the node whose entries are tried
abbrev pub Tried : PoolState → ℕ → ℕ → List NodeEntry → Type 0
Tried a level n es = IsTold a → (node_at (pages_in a) n ≡ node true es) × NodeTree (pages_in a) (suc (level - 1)) n

pub tried_after : (a b : PoolState) (level n : ℕ) (es : List NodeEntry) → (level ≡ 0 → ⊥) → b.pages ≡ a.pages → b.disk.told ≡ a.disk.told
    → (IsTold a → node_at (pages_in a) n ≡ node true es) → (IsTold a → NodeTree (pages_in a) level n) → Tried b level n es
tried_after a b level n es h same told e t = λ k.
    let s : pages_in a ≡ pages_in b = sym (same_store b a same) in
    let l : level ≡ suc (level - 1) = omega (arith, h) in
    let N : Store → Type 0 = λ x. node_at x n ≡ node true es in
    let S : Store → Type 0 = λ x. NodeTree x (suc (level - 1)) n in
    let L : ℕ → Type 0 = λ x. NodeTree (pages_in a) x n in
    (subst N s (e (sym told ∙ k)), subst S s (subst L l (t (sym told ∙ k))))

pub none_passed : (a : PoolState) (level : ℕ) (es : List NodeEntry) (i : Member) → PassesBy a a level 0 es i
none_passed a level es i = record { same = refl; within = InCommand-refl a; failures = refl; lacks = λ k. tt; gets = λ k. omega arith }

-- an entry whose rectangle doesn't hold the member's box
pub passed_over : (a b : PoolState) (level n at : ℕ) (es : List NodeEntry) (i : Member) (e : NodeEntry) → Tried a level n es → at < length es → e ≡ get_or es at e
    → covers (box_of e.rough) (box_of i.1) ≡ false → PassesBy a b level at es i → PassesBy a b level (at + 1) es i
passed_over a b level n at es i e t lt is c p =
    let C : NodeEntry → Type 0 = λ x. covers (box_of x.rough) (box_of i.1) ≡ false in
    record {
      same = p.same;
      within = p.within;
      failures = p.failures;
      lacks = λ k. lacks_more (pages_in a) (level - 1) at i e es lt (p.lacks k) (past_lacks (pages_in a) (level - 1) n at i e es (t k).0 (t k).1 lt (subst C is c));
      gets = λ k. omega (arith, p.gets k, ways_more (pages_in a) (level - 1) at e es (box_of i.1) lt);
    }

-- an entry under which the member isn't listed
pub passed_down : (a b d : PoolState) (level at : ℕ) (es : List NodeEntry) (i : Member) (e : NodeEntry) → at < length es → e ≡ get_or es at e → d.pages ≡ b.pages
    → InCommand b d → failures_of d ≡ failures_of b
    → (IsTold b → Lacks (pages_in b) (level - 1) e.child i) → covers (box_of e.rough) (box_of i.1) ≡ true
    → (IsTold b → d.gets ≤ b.gets + ways_under (pages_in b) (level - 1) e.child (box_of i.1)) → PassesBy a b level at es i → PassesBy a d level (at + 1) es i
passed_down a b d level at es i e lt is same within failures lacks c reads p =
    let s : pages_in b ≡ pages_in a = same_store b a p.same in
    let L : Store → Type 0 = λ x. Lacks x (level - 1) e.child i in
    let C : NodeEntry → Type 0 = λ x. Lacks (pages_in a) (level - 1) x.child i in
    record {
      same = same ∙ p.same;
      within = InCommand-trans a b d p.within within;
      failures = failures ∙ p.failures;
      lacks = λ k. lacks_more (pages_in a) (level - 1) at i e es lt (p.lacks k) (subst C is (subst L s (lacks (p.within.told ∙ k))));
      gets = λ k. omega (
        arith,
        p.gets k,
        reads (p.within.told ∙ k),
        ap (λ (x : Store). ways_under x (level - 1) e.child (box_of i.1)) s,
        ways_tried (pages_in a) (level - 1) at e es (box_of i.1) lt is c,
      );
    }

-- all entries were passed by
pub all_passed : (a b m : PoolState) (level n at : ℕ) (es : List NodeEntry) (i : Member) → (level ≡ 0 → ⊥) → a.pages ≡ m.pages → a.disk.told ≡ m.disk.told
    → Tried a level n es → length es ≤ at → PassesBy a b level at es i → IsTold m → Lacks (pages_in m) level n i
all_passed a b m level n at es i h same told t le p k =
    let s : pages_in a ≡ pages_in m = same_store a m same in
    let l : level ≡ suc (level - 1) = omega (arith, h) in
    let ka : IsTold a = told ∙ k in
    let S : Store → Type 0 = λ x. Lacks x (suc (level - 1)) n i in
    let L : ℕ → Type 0 = λ x. Lacks (pages_in m) x n i in
    subst L (sym l) (subst S s (lacks_all (pages_in a) (level - 1) n at i es (t ka).0 le (p.lacks ka)))

-- the ways from page n on, as the pages are while its entries are tried
ways_all : (a m : PoolState) (level n : ℕ) (es : List NodeEntry) (box : Rect) → (level ≡ 0 → ⊥) → a.pages ≡ m.pages → node_at (pages_in a) n ≡ node true es
    → ways_under (pages_in m) level n box ≡ suc (ways_below (pages_in a) (suc (level - 1)) es box)
ways_all a m level n es box h same is =
    let l : level ≡ suc (level - 1) = omega (arith, h) in
    let s : pages_in m ≡ pages_in a = sym (same_store a m same) in
    ap (λ (x : ℕ). ways_under (pages_in m) x n box) l
    ∙ (ap (λ (x : Store). ways_under x (suc (level - 1)) n box) s ∙ ap (λ (x : List NodeEntry). suc (ways_below (pages_in a) (suc (level - 1)) x box)) (read_as (pages_in a) n true es is))

-- what was read where all entries were passed by
pub reads_all : (a b m : PoolState) (level n at : ℕ) (es : List NodeEntry) (i : Member) → (level ≡ 0 → ⊥) → a.pages ≡ m.pages → a.disk.told ≡ m.disk.told
    → a.gets ≤ m.gets + 1 → Tried a level n es → PassesBy a b level at es i → IsTold m
    → b.gets ≤ m.gets + ways_under (pages_in m) level n (box_of i.1)
reads_all a b m level n at es i h same told reads t p k =
    let ka : IsTold a = told ∙ k in
    omega (arith, reads, p.gets ka, ways_all a m level n es (box_of i.1) h same (t ka).0, ways_front (pages_in a) (level - 1) at es (box_of i.1))

-- what was read where the last way down was tried with some reads more
pub reads_last : (a b m : PoolState) (level n at reads_now more : ℕ) (es : List NodeEntry) (i : Member) (e : NodeEntry) → (level ≡ 0 → ⊥) → a.pages ≡ m.pages
    → a.disk.told ≡ m.disk.told → a.gets ≤ m.gets + 1 → Tried a level n es
    → at < length es → e ≡ get_or es at e → covers (box_of e.rough) (box_of i.1) ≡ true
    → (IsTold b → reads_now ≤ b.gets + (ways_under (pages_in b) (level - 1) e.child (box_of i.1) + more)) → PassesBy a b level at es i → IsTold m
    → reads_now ≤ m.gets + (ways_under (pages_in m) level n (box_of i.1) + more)
reads_last a b m level n at reads_now more es i e h same told reads t lt is c last p k =
    let ka : IsTold a = told ∙ k in
    let s : pages_in b ≡ pages_in a = same_store b a p.same in
    omega (
      arith,
      reads,
      p.gets ka,
      last (p.within.told ∙ ka),
      ap (λ (x : Store). ways_under x (level - 1) e.child (box_of i.1)) s,
      ways_tried (pages_in a) (level - 1) at e es (box_of i.1) lt is c,
      ways_all a m level n es (box_of i.1) h same (t ka).0,
      ways_front (pages_in a) (level - 1) (at + 1) es (box_of i.1),
    )

-- What each step of growing and shrinking does to the keys of a block.
use Rattle.std.proofs.Common.{◌≡◌, ◌≢◌, ℕ, ◌<◌, Bool, true, false, not, List, [], ◌∷◌, refl, sym, ◌∙◌, ap, ap₂, subst, arith}
use Rattle.std.specs.Prelude.{filter}
use Rattle.std.proofs.lemmas.Bool.{false≢true}
use Rattle.sand_base.specs.declared.TheConstants.{COORDINATE_BITS}
use Rattle.z_code.specs.Block.{child}
use Rattle.z_code.specs.declared.block.Block.{Block}
use Rattle.sand_model.specs.Tree.{Tree, Leaf, Inner}
use Rattle.pmr_tree.specs.Lists.{RiseStrictly, put_all, take_all}
use Rattle.pmr_tree.specs.Keys.{keys, is_inside, keys_within, outside, own, IsShaped, ReadsKeys}
use Rattle.pmr_tree.specs.Changes.{KeysStand, Becomes}
use Rattle.pmr_tree.proofs.AscendingLists.{each_map, filter_all, filter_none, filter_weaker, put_all_new, filter_put_all, rises_put_all}
use Rattle.pmr_tree.proofs.Orders.{take_all_same, take_all_other, filter_take_all, rises_take_all}
use Rattle.pmr_tree.proofs.KeyLists.{Parts, reads_children, reads_inner, own_leaf, keys_inside, keys_rise, child_apart, child_inside}

not_true : (b : Bool) → not b ≡ true → b ≡ false
not_true true h = absurd (false≢true h)
not_true false h = refl

-- what is outside a changed block is as it was
pub same_elsewhere : (b : Block) (old new : List ℕ) → outside b new ≡ outside b old → (f : ℕ → Bool) → ((k : ℕ) → f k ≡ true → is_inside b k ≡ false) → filter f new ≡ filter f old
same_elsewhere b old new e f apart =
    let weaker : (k : ℕ) → f k ≡ true → not (is_inside b k) ≡ true = λ k h. ap not (apart k h) in
    sym (filter_weaker (λ k. not (is_inside b k)) f weaker new) ∙ ap (filter f) e ∙ filter_weaker (λ k. not (is_inside b k)) f weaker old

sibling : (b : Block) (i j : ℕ) → i ≢ j → (old new : List ℕ) → outside (child b i) new ≡ outside (child b i) old → keys_within (child b j) new ≡ keys_within (child b j) old
sibling b i j differ old new e = same_elsewhere (child b i) old new e (is_inside (child b j)) (child_apart b j i (λ h. differ (sym h)))

reads_same : (b : Block) (old new : List ℕ) (t : Tree) → keys_within b new ≡ keys_within b old → ReadsKeys b old t → ReadsKeys b new t
reads_same b old new t e h = record { is = e ∙ h.is; shaped = h.shaped }

pub reads_sibling : (b : Block) (i j : ℕ) → i ≢ j → (f : Tree → Tree) (old new : List ℕ) (t : Tree) → Becomes (child b i) f old new → ReadsKeys (child b j) old t → ReadsKeys (child b j) new t
reads_sibling b i j differ f old new t h r = reads_same (child b j) old new t (sibling b i j differ old new h.elsewhere) r

pub stands_sibling : (b : Block) (i j : ℕ) → i ≢ j → (f : Tree → Tree) (old new : List ℕ) → Becomes (child b i) f old new → KeysStand (child b j) old → KeysStand (child b j) new
stands_sibling b i j differ f old new h s = record { rises = h.rises; tree = s.tree; reads = reads_sibling b i j differ f old new s.tree h s.reads }

pub stands_after : (b : Block) (f : Tree → Tree) (old new : List ℕ) → Becomes b f old new → KeysStand b old → KeysStand b new
stands_after b f old new h s = record { rises = h.rises; tree = f s.tree; reads = h.here s.tree s.reads }

-- the block of a list of keys with no own keys is an inner place
pub stands_parts : (b : Block) (ks : List ℕ) → KeysStand b ks → own b ks ≡ [] → (p : Tree) × ((q : Tree) × ((r : Tree) × ((s : Tree) × Parts b ks p q r s)))
stands_parts b ks h none = go h.tree h.reads where
  go : (t : Tree) → ReadsKeys b ks t → (p : Tree) × ((q : Tree) × ((r : Tree) × ((s : Tree) × Parts b ks p q r s)))
  go (Leaf []) reads = absurd (nil (sym none ∙ own_leaf b ks [] reads)) where
    nil : {A : Type 0} {x : A} {xs : List A} → [] ≡ x ∷ xs → ⊥
    nil e = cc
  go (Leaf (id ∷ ids)) reads = absurd (nil (sym none ∙ own_leaf b ks (id ∷ ids) reads)) where
    nil : {A : Type 0} {x : A} {xs : List A} → [] ≡ x ∷ xs → ⊥
    nil e = cc
  go (Inner p q r s) reads = (p, (q, (r, (s, reads_children b ks p q r s reads))))

pub stands_above : (b : Block) (ks : List ℕ) → KeysStand b ks → own b ks ≡ [] → b.level < COORDINATE_BITS
stands_above b ks h none = (stands_parts b ks h none).1.1.1.1.above

pub stands_0 : (b : Block) (ks : List ℕ) → KeysStand b ks → own b ks ≡ [] → KeysStand (child b 0) ks
stands_0 b ks h none = let p = stands_parts b ks h none in record { rises = h.rises; tree = p.0; reads = p.1.1.1.1.first }

pub stands_1 : (b : Block) (ks : List ℕ) → KeysStand b ks → own b ks ≡ [] → KeysStand (child b 1) ks
stands_1 b ks h none = let p = stands_parts b ks h none in record { rises = h.rises; tree = p.1.0; reads = p.1.1.1.1.second }

pub stands_2 : (b : Block) (ks : List ℕ) → KeysStand b ks → own b ks ≡ [] → KeysStand (child b 2) ks
stands_2 b ks h none = let p = stands_parts b ks h none in record { rises = h.rises; tree = p.1.1.0; reads = p.1.1.1.1.third }

pub stands_3 : (b : Block) (ks : List ℕ) → KeysStand b ks → own b ks ≡ [] → KeysStand (child b 3) ks
stands_3 b ks h none = let p = stands_parts b ks h none in record { rises = h.rises; tree = p.1.1.1.0; reads = p.1.1.1.1.fourth }

-- one change after another
pub becomes_then : (b : Block) (f g : Tree → Tree) (k0 k1 k2 : List ℕ) → Becomes b f k0 k1 → Becomes b g k1 k2 → Becomes b (λ t. g (f t)) k0 k2
becomes_then b f g k0 k1 k2 h k = record { rises = k.rises; elsewhere = k.elsewhere ∙ h.elsewhere; here = λ t r. k.here (f t) (h.here t r) }

-- the same change by another name
pub becomes_as : (b : Block) (f g : Tree → Tree) (old new : List ℕ) → ((t : Tree) → ReadsKeys b old t → f t ≡ g t) → Becomes b f old new → Becomes b g old new
becomes_as b f g old new e h = record { rises = h.rises; elsewhere = h.elsewhere; here = λ t r. subst (ReadsKeys b new) (e t r) (h.here t r) }

pub becomes_same : (b : Block) (f : Tree → Tree) (ks : List ℕ) → RiseStrictly ks → ((t : Tree) → ReadsKeys b ks t → t ≡ f t) → Becomes b f ks ks
becomes_same b f ks rise e = record { rises = rise; elsewhere = refl; here = λ t r. subst (ReadsKeys b ks) (e t r) r }

-- the four children changed one after another
four_elsewhere : (b : Block) → b.level < COORDINATE_BITS → (i : ℕ) → i < 4 → (old new : List ℕ) → outside (child b i) new ≡ outside (child b i) old → outside b new ≡ outside b old
four_elsewhere b up i small old new e = same_elsewhere (child b i) old new e (λ k. not (is_inside b k)) (λ k h. outer k (not_true (is_inside b k) h)) where
  outer : (k : ℕ) → is_inside b k ≡ false → is_inside (child b i) k ≡ false
  outer k h =
      let go : (c : Bool) → is_inside (child b i) k ≡ c → c ≡ false = elim [ true ↦ λ e. absurd (false≢true (sym h ∙ child_inside b up i small k e)) | false ↦ λ e. refl ] in
      go (is_inside (child b i) k) refl

pub becomes_four : (b : Block) (f g h k : Tree → Tree) (k0 k1 k2 k3 k4 : List ℕ) (change : Tree → Tree)
    → ((p q r s : Tree) → change (Inner p q r s) ≡ Inner (f p) (g q) (h r) (k s))
    → KeysStand b k0 → own b k0 ≡ []
    → Becomes (child b 0) f k0 k1 → Becomes (child b 1) g k1 k2 → Becomes (child b 2) h k2 k3 → Becomes (child b 3) k k3 k4 → Becomes b change k0 k4
becomes_four b f g h k k0 k1 k2 k3 k4 change is stands none a c d e =
    let up = stands_above b k0 stands none in record {
      rises = e.rises;
      elsewhere = four_elsewhere b up 3 (omega arith) k3 k4 e.elsewhere ∙ four_elsewhere b up 2 (omega arith) k2 k3 d.elsewhere
          ∙ four_elsewhere b up 1 (omega arith) k1 k2 c.elsewhere ∙ four_elsewhere b up 0 (omega arith) k0 k1 a.elsewhere;
      here = here;
    }
  where
    here : (t : Tree) → ReadsKeys b k0 t → ReadsKeys b k4 (change t)
    here (Leaf []) reads = absurd (nil (sym none ∙ own_leaf b k0 [] reads)) where
      nil : {A : Type 0} {x : A} {xs : List A} → [] ≡ x ∷ xs → ⊥
      nil e = cc
    here (Leaf (id ∷ ids)) reads = absurd (nil (sym none ∙ own_leaf b k0 (id ∷ ids) reads)) where
      nil : {A : Type 0} {x : A} {xs : List A} → [] ≡ x ∷ xs → ⊥
      nil e = cc
    here (Inner p q r s) reads =
        let parts = reads_children b k0 p q r s reads in
        let p1 = a.here p parts.first in
        let p2 = reads_sibling b 1 0 (omega arith) g k1 k2 (f p) c p1 in
        let p3 = reads_sibling b 2 0 (omega arith) h k2 k3 (f p) d p2 in
        let p4 = reads_sibling b 3 0 (omega arith) k k3 k4 (f p) e p3 in
        let q1 = reads_sibling b 0 1 (omega arith) f k0 k1 q a parts.second in
        let q2 = c.here q q1 in
        let q3 = reads_sibling b 2 1 (omega arith) h k2 k3 (g q) d q2 in
        let q4 = reads_sibling b 3 1 (omega arith) k k3 k4 (g q) e q3 in
        let r1 = reads_sibling b 0 2 (omega arith) f k0 k1 r a parts.third in
        let r2 = reads_sibling b 1 2 (omega arith) g k1 k2 r c r1 in
        let r3 = d.here r r2 in
        let r4 = reads_sibling b 3 2 (omega arith) k k3 k4 (h r) e r3 in
        let s1 = reads_sibling b 0 3 (omega arith) f k0 k1 s a parts.fourth in
        let s2 = reads_sibling b 1 3 (omega arith) g k1 k2 s c s1 in
        let s3 = reads_sibling b 2 3 (omega arith) h k2 k3 s d s2 in
        let s4 = e.here s s3 in
        subst (ReadsKeys b k4) (sym (is p q r s)) (reads_inner b k4 (f p) (g q) (h r) (k s) e.rises (record { above = parts.above; first = p4; second = q4; third = r4; fourth = s4 }))

-- other keys in place of those inside a block
pub refilled : (b : Block) (old : List ℕ) (t u : Tree) → RiseStrictly old → ReadsKeys b old t → IsShaped b u → (new : List ℕ) → new ≡ put_all (keys b u) (take_all (keys b t) old)
    → (RiseStrictly new) × ((outside b new ≡ outside b old) × ReadsKeys b new u)
refilled b old t u rise reads shaped new is =
    let xs = keys b t in
    let ys = keys b u in
    let base = take_all xs old in
    let rise_base = rises_take_all xs old rise in
    let empty : keys_within b base ≡ [] = filter_take_all (is_inside b) xs old ∙ ap (take_all xs) reads.is ∙ take_all_same xs (keys_rise b t reads.shaped) in
    let rest : outside b base ≡ outside b old = filter_take_all (λ k. not (is_inside b k)) xs old ∙ take_all_other (is_inside b) xs old (keys_inside b t reads.shaped) in
    let all : filter (is_inside b) ys ≡ ys = filter_all (is_inside b) ys (keys_inside b u shaped) in
    let none : filter (λ k. not (is_inside b k)) ys ≡ [] =
    filter_none (λ k. not (is_inside b k)) ys (each_map (λ k. is_inside b k ≡ true) (λ k. not (is_inside b k) ≡ false) (λ k h. ap not h) ys (keys_inside b u shaped)) in (
      subst RiseStrictly (sym is) (rises_put_all ys base rise_base),
      (
        ap (outside b) is ∙ filter_put_all (λ k. not (is_inside b k)) ys base rise_base ∙ ap₂ put_all none rest,
        record {
          is = ap (keys_within b) is ∙ filter_put_all (is_inside b) ys base rise_base ∙ ap₂ put_all all empty ∙ put_all_new ys (keys_rise b u shaped);
          shaped = shaped;
        },
      ),
    )

-- a change of a tree to another one, by its keys
pub becomes_refilled : (b : Block) (change : Tree → Tree) (old new : List ℕ) → RiseStrictly old
    → ((t : Tree) → ReadsKeys b old t → IsShaped b (change t) × (new ≡ put_all (keys b (change t)) (take_all (keys b t) old))) → KeysStand b old → Becomes b change old new
becomes_refilled b change old new rise h stands =
    let at = h stands.tree stands.reads in
    let done = refilled b old stands.tree (change stands.tree) rise stands.reads at.0 new at.1 in record {
      rises = done.0;
      elsewhere = done.1.0;
      here = λ t r. (refilled b old t (change t) rise r (h t r).0 new (h t r).1).1.1;
    }

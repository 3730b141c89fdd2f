-- The chain of leaves, and where a run goes from one leaf to the next.
use Rattle.std.proofs.Common.{◌≡◌, ℕ, zero, suc, ◌+◌, ◌-◌, ◌<◌, ◌≤◌, List, [], ◌∷◌, ◌++◌, length, drop, refl, sym, ◌∙◌, ap, ap₂, subst, inl}
use Rattle.std.proofs.Common.{inr, arith, append_assoc, append-nil, length-append}
use Rattle.std.specs.Prelude.{Option, None, Some, MatchOption}
use Rattle.std.proofs.lemmas.List.{drop_all}
use Rattle.std.proofs.lemmas.List.Concat.{flat_map-append}
use Rattle.code_btree.specs.declared.chain.Given.{Given}
use Rattle.code_btree.specs.declared.map.Tree.{Tree}
use Rattle.code_btree.specs.Node.{Pair, Node, entries_of, next_of, child_pages, size_of}
use Rattle.code_btree.specs.Items.{Each}
use Rattle.code_btree.specs.Tree.{Store, node, items, links, all_items, all_links, Path, Sound, Filled, IsTree}
use Rattle.code_btree.specs.Run.{chained, BeginsAt}
use Rattle.code_btree.specs.Chain.{GivesEntry, FollowsPair}
use Rattle.code_btree.proofs.Lists.{Each-append, Each-right, Path-split}
use Rattle.code_btree.proofs.Leaves.{here}

pub chained-append : (m : Store) (xs ys : List (ℕ × ℕ)) → chained m (xs ++ ys) ≡ chained m xs ++ chained m ys
chained-append m xs ys = flat_map-append (λ l. entries_of (node m l.0)) xs ys

pub row_chained : (m : Store) (h : ℕ) (each : (c : ℕ) → items m h c ≡ chained m (links m h c)) (cs : List ℕ) → all_items m h cs ≡ chained m (all_links m h cs)
row_chained m h each [] = refl
row_chained m h each (c ∷ cs) = ap₂ (λ (x y : List Pair). x ++ y) (each c) (row_chained m h each cs) ∙ sym (chained-append m (links m h c) (all_links m h cs))

-- the pairs under a page are those of its leaves
pub items_chained : (m : Store) (h n : ℕ) → items m h n ≡ chained m (links m h n)
items_chained m zero n = sym (append-nil (entries_of (node m n)))
items_chained m (suc h) n = row_chained m h (λ c. items_chained m h c) (child_pages (node m n))

-- each leaf leads to the one that it names
abbrev pub Leads : Store → ℕ × ℕ → Type 0
Leads m l = l.1 ≡ next_of (node m l.0)

row_leads : (m : Store) (h : ℕ) (each : (c : ℕ) → Each (Leads m) (links m h c)) (cs : List ℕ) → Each (Leads m) (all_links m h cs)
row_leads m h each [] = tt
row_leads m h each (c ∷ cs) = Each-append (Leads m) (links m h c) (all_links m h cs) (each c) (row_leads m h each cs)

links_lead : (m : Store) (h n : ℕ) → Each (Leads m) (links m h n)
links_lead m zero n = (refl, tt)
links_lead m (suc h) n = row_leads m h (λ c. links_lead m h c) (child_pages (node m n))

pub next_is : (m : Store) (h n lf nx : ℕ) (before behind : List (ℕ × ℕ)) → links m h n ≡ before ++ ((lf, nx) ∷ behind) → nx ≡ next_of (node m lf)
next_is m h n lf nx before behind e =
    let P : List (ℕ × ℕ) → Type 0 = λ ls. Each (Leads m) ls in
    (Each-right (Leads m) before ((lf, nx) ∷ behind) (subst P e (links_lead m h n))).0

-- leaves other than a lone root are filled
abbrev pub IsFilledLeaf : Store → ℕ × ℕ → Type 0
IsFilledLeaf m l = 63 ≤ length (entries_of (node m l.0))

row_filled : (m : Store) (h : ℕ) (each : (c : ℕ) → Filled m h c → Each (IsFilledLeaf m) (links m h c)) (cs : List ℕ) → Each (λ c. Filled m h c) cs → Each (IsFilledLeaf m) (all_links m h cs)
row_filled m h each [] e = tt
row_filled m h each (c ∷ cs) e = Each-append (IsFilledLeaf m) (links m h c) (all_links m h cs) (each c e.0) (row_filled m h each cs e.1)

filled_links : (m : Store) (h n : ℕ) → Filled m h n → Each (IsFilledLeaf m) (links m h n)
filled_links m zero n f = (omega (arith, ap (λ (o : Node). size_of o) f.0.is_leaf, f.1), tt)
filled_links m (suc h) n f = row_filled m h (λ c. filled_links m h c) (child_pages (node m n)) f.0.1

pub next_filled : (m : Store) (h n : ℕ) (before : List (ℕ × ℕ)) (l r : ℕ × ℕ) (behind : List (ℕ × ℕ)) → Sound m h n → links m h n ≡ before ++ (l ∷ (r ∷ behind)) → 63 ≤ length (entries_of (node m r.0))
next_filled m zero n before l r behind s e = absurd (omega (arith, ap (λ (ls : List (ℕ × ℕ)). length ls) e, length-append before (l ∷ (r ∷ behind))))
next_filled m (suc h) n before l r behind s e =
    let P : List (ℕ × ℕ) → Type 0 = λ ls. Each (IsFilledLeaf m) ls in
    (Each-right (IsFilledLeaf m) before (l ∷ (r ∷ behind)) (subst P e (row_filled m h (λ c. filled_links m h c) (child_pages (node m n)) s.1))).1.0

begins_same : (m : Store) (t : Tree) (lf lf' pl pl' : ℕ) (es es' : List Pair) → lf' ≡ lf → pl' ≡ pl → es' ≡ es → BeginsAt m t lf pl es → BeginsAt m t lf' pl' es'
begins_same m t lf lf' pl pl' es es' a b c h =
    let A : ℕ → Type 0 = λ x. BeginsAt m t x pl es in
    let B : ℕ → Type 0 = λ x. BeginsAt m t lf' x es in
    let C : List Pair → Type 0 = λ x. BeginsAt m t lf' pl' x in
    subst C (sym c) (subst B (sym b) (subst A (sym a) h))

-- the path from a leaf of the chain on
pub path_from : (m : Store) (t : Tree) (lf nx : ℕ) (before behind : List (ℕ × ℕ)) → IsTree m t → links m (t.height - 1) t.root ≡ before ++ ((lf, nx) ∷ behind) → (1 ≤ lf) × Path nx behind 0
path_from m t lf nx before behind tree e =
    let P : List (ℕ × ℕ) → Type 0 = λ ls. Path tree.at.chain.0 ls 0 in
    let r = Path-split tree.at.chain.0 0 before ((lf, nx) ∷ behind) (subst P e tree.at.chain.1) in
    (omega (arith, r.1.1.0, r.1.1.1.0), r.1.1.1.1)

begins_next : (m : Store) (t : Tree) (lf nx : ℕ) (before behind : List (ℕ × ℕ)) → IsTree m t → links m (t.height - 1) t.root ≡ before ++ ((lf, nx) ∷ behind)
    → Path nx behind 0 → BeginsAt m t nx 0 (chained m behind)
begins_next m t lf nx before [] tree e p = record { none = λ z. refl; here = λ l. absurd (omega (arith, p)) }
begins_next m t lf nx before (r ∷ rest) tree e p =
    let full : 63 ≤ length (entries_of (node m r.0)) = next_filled m (t.height - 1) t.root before (lf, nx) r rest tree.at.sound e in
    let moved : before ++ ((lf, nx) ∷ ((r.0, r.1) ∷ rest)) ≡ (before ++ ((lf, nx) ∷ [])) ++ ((nx, r.1) ∷ rest) =
    sym (append_assoc before ((lf, nx) ∷ []) ((r.0, r.1) ∷ rest)) ∙ ap (λ (x : ℕ). (before ++ ((lf, nx) ∷ [])) ++ ((x, r.1) ∷ rest)) (sym p.0) in
    record {
      none = λ z. absurd (omega (arith, p.1.0));
      here = λ l. record {
        before = before ++ ((lf, nx) ∷ []);
        behind = rest;
        next = r.1;
        chain = e ∙ moved;
        within = omega (arith, full, ap (λ (x : ℕ). length (entries_of (node m x))) p.0);
        pairs = ap (λ (x : ℕ). entries_of (node m x) ++ chained m rest) (sym p.0);
      };
    }

-- what a leaf of the chain gave is the first of the pairs that begin there, or they begin at the next leaf
abbrev pub MovesOn : Store → Tree → List Pair → Given → Type 0
MovesOn m t es g = MatchOption g.pair (BeginsAt m t g.leaf g.place es) (λ e. FollowsPair m t es e g.leaf g.place)

pub moves_on : (m : Store) (t : Tree) (es : List Pair) (lf nx at : ℕ) (before behind : List (ℕ × ℕ)) (g : Given) → IsTree m t → links m (t.height - 1) t.root ≡ before ++ ((lf, nx) ∷ behind)
    → es ≡ drop at (entries_of (node m lf)) ++ chained m behind → GivesEntry (entries_of (node m lf)) nx lf at g → MovesOn m t es g
moves_on m t es lf nx at before behind g tree e from gives = go g.pair gives.pair
  where
    E : List Pair
    E = entries_of (node m lf)

    next : BeginsAt m t nx 0 (chained m behind)
    next = begins_next m t lf nx before behind tree e (path_from m t lf nx before behind tree e).1

    go : (o : Option Pair) → MatchOption o (length E ≤ at) (λ x. (at < length E) × (drop at E ≡ x ∷ drop (at + 1) E))
        → MatchOption o (BeginsAt m t g.leaf g.place es) (λ x. FollowsPair m t es x g.leaf g.place)
    go None l = elim gives.spot [
      | inl s ↦ absurd (omega (arith, s.2, l))
      | inr s ↦ begins_same m t nx g.leaf 0 g.place (chained m behind) es s.0 s.1 (from ∙ ap (λ (x : List Pair). x ++ chained m behind) (drop_all at E l)) next
    ]
    go (Some x) h =
        let rest : List Pair = drop (at + 1) E ++ chained m behind in
        let first : es ≡ x ∷ rest = from ∙ ap (λ (y : List Pair). y ++ chained m behind) h.1 in
        elim gives.spot [
          | inl s ↦ record {
            rest = rest;
            first = first;
            begins = begins_same m t lf g.leaf (at + 1) g.place rest rest s.0 s.1 refl (record {
              none = λ z. absurd (omega (arith, (path_from m t lf nx before behind tree e).0));
              here = λ l. record { before = before; behind = behind; next = nx; chain = e; within = s.2; pairs = refl };
            });
          }
          | inr s ↦ record {
            rest = rest;
            first = first;
            begins = begins_same m t nx g.leaf 0 g.place (chained m behind) rest s.0 s.1 (ap (λ (y : List Pair). y ++ chained m behind) (drop_all (at + 1) E s.2)) next;
          }
        ]

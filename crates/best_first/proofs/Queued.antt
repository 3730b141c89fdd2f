-- Ids that are put into a set, and items that join what is queued, one after another.
use Rattle.std.proofs.Common.{◌≡◌, ℕ, ◌<◌, ◌≤◌, Bool, true, false, cond, List, [], ◌∷◌, ◌++◌, length, All, Contains, Option, None, Some, MatchOption, IfSome}
use Rattle.std.proofs.Common.{IsPermutation, ⊎_elim, refl, sym, ap, ◌∙◌, subst, append_assoc, append-nil, arith}
use Rattle.std.specs.Prelude.{nat_eq}
use Rattle.std.specs.Bool.{MatchBool}
use Rattle.std.specs.List.{flat_map}
use Rattle.std.proofs.lemmas.List.Concat.{flat_map-append}
use Rattle.std.proofs.lemmas.List.Elements.{All-nil, All-cons, All-append, All-weaker, All-contains, Contains-append_right, Contains-append_cases, filter-append}
use Rattle.std.proofs.lemmas.List.Sorted.{IsPermutation-refl, IsPermutation-sym, IsPermutation-trans, IsPermutation-append_left, IsPermutation-append_right}
use Rattle.std.proofs.lemmas.List.Sorted.{IsPermutation-append_comm, Contains-permutation}
use Rattle.exact_frac.specs.declared.frac.Frac.{Frac}
use Rattle.best_first.specs.Item.{gap_of, nodes_of, node_if_any}
use Rattle.best_first.specs.declared.item.Item.{Item}
use Rattle.best_first.specs.declared.item.Item.TheVariants.{Node, Rough, Row}
use Rattle.best_first.specs.ZeroItems.{IsLeastOf, PutIn, TakesLeast, ZeroItems, OpensNode, at_zero, is_at_zero, rough_id_in, row_id_in}

-- ---- ids that are put into a set

-- none was put in
pub puts_none : (ids : List ℕ) → PutIn [] ids ids
puts_none ids = record { again = []; split = IsPermutation-refl ids; there = All-nil (Contains ids) }

-- one id was put in: it was not there, or all stays
pub puts_one : (is_new : Bool) (id : ℕ) (old new : List ℕ) → MatchBool is_new (IsPermutation (id ∷ old) new) ((new ≡ old) × Contains old id) → PutIn (id ∷ []) old new
puts_one true id old new joins = record { again = []; split = joins; there = All-nil (Contains new) }
puts_one false id old new h = record {
  again = id ∷ [];
  split = subst (λ l. IsPermutation (id ∷ old) (id ∷ l)) (sym h.0) (IsPermutation-refl (id ∷ old));
  there = subst (λ l. All (Contains l) (id ∷ [])) (sym h.0) (All-cons (Contains old) id [] h.1 (All-nil (Contains old)));
}

-- what is in a set stays, when others are put in
pub stays_in : (added old new : List ℕ) (id : ℕ) → PutIn added old new → Contains old id → Contains new id
stays_in added old new id put there =
    ⊎_elim
    (λ again. All-contains (Contains new) put.again id put.there again)
    (λ kept. kept)
    (Contains-append_cases put.again new id (Contains-permutation (added ++ old) (put.again ++ new) id put.split (Contains-append_right added old id there)))

-- some were put in, and then others
pub puts_more : (more added old mid new : List ℕ) → PutIn added old mid → PutIn more mid new → PutIn (more ++ added) old new
puts_more more added old mid new first second = record {
  again = first.again ++ second.again;
  split = rw (append_assoc more added old, append_assoc first.again second.again new)
      (IsPermutation-trans (more ++ (added ++ old)) (more ++ (first.again ++ mid)) (first.again ++ (second.again ++ new))
      (IsPermutation-append_right more (added ++ old) (first.again ++ mid) first.split)
      (IsPermutation-trans (more ++ (first.again ++ mid)) (first.again ++ (more ++ mid)) (first.again ++ (second.again ++ new))
      (past more first.again mid)
      (IsPermutation-append_right first.again (more ++ mid) (second.again ++ new) second.split)));
  there = All-append (Contains new) first.again second.again
      (All-weaker (Contains mid) (Contains new) (λ id there. stays_in more mid new id second there) first.again first.there)
      second.there;
}
  where
    past : {X : Type 0} (xs ys zs : List X) → IsPermutation (xs ++ (ys ++ zs)) (ys ++ (xs ++ zs))
    past xs ys zs =
        subst (λ l. IsPermutation l (ys ++ (xs ++ zs))) (append_assoc xs ys zs)
        (subst (IsPermutation ((xs ++ ys) ++ zs)) (append_assoc ys xs zs)
        (IsPermutation-append_left zs (xs ++ ys) (ys ++ xs) (IsPermutation-append_comm xs ys)))

-- ---- items that join what is queued

-- nothing was found
pub opens_none : {N : Type 0} (q : ZeroItems N) → OpensNode q.nodes [] q q
opens_none q = record { nodes = IsPermutation-refl q.nodes; roughs = puts_none q.roughs; rows = puts_none q.rows; below = refl }

-- one more item is at the distance 0, or it is left out
one_more : {N : Type 0} {A : Type 0} (f : Item N → List A) (item : Item N) (items : List (Item N))
    → flat_map f (at_zero (item ∷ items)) ≡ flat_map f (at_zero (item ∷ [])) ++ flat_map f (at_zero items)
one_more f item items = ap (flat_map f) (filter-append is_at_zero (item ∷ []) items) ∙ flat_map-append f (at_zero (item ∷ [])) (at_zero items)

-- the items behind one joined, and then this one
pub opens_more : {N : Type 0} (rest : List N) (item : Item N) (items : List (Item N)) (old mid new : ZeroItems N) → OpensNode rest items old mid
    → OpensNode mid.nodes (item ∷ []) mid new → OpensNode rest (item ∷ items) old new
opens_more rest item items old mid new first second = record {
  nodes = subst (λ l. IsPermutation (l ++ rest) new.nodes) (sym (one_more node_if_any item items))
      (subst (λ l. IsPermutation l new.nodes) (sym (append_assoc (nodes_of (at_zero (item ∷ []))) (nodes_of (at_zero items)) rest))
      (IsPermutation-trans (nodes_of (at_zero (item ∷ [])) ++ (nodes_of (at_zero items) ++ rest)) (nodes_of (at_zero (item ∷ [])) ++ mid.nodes) new.nodes
      (IsPermutation-append_right (nodes_of (at_zero (item ∷ []))) (nodes_of (at_zero items) ++ rest) mid.nodes first.nodes)
      second.nodes));
  roughs = subst (λ l. PutIn l old.roughs new.roughs) (sym (one_more rough_id_in item items))
      (puts_more (flat_map rough_id_in (at_zero (item ∷ []))) (flat_map rough_id_in (at_zero items)) old.roughs mid.roughs new.roughs first.roughs second.roughs);
  rows = subst (λ l. PutIn l old.rows new.rows) (sym (one_more row_id_in item items))
      (puts_more (flat_map row_id_in (at_zero (item ∷ []))) (flat_map row_id_in (at_zero items)) old.rows mid.rows new.rows first.rows second.rows);
  below = second.below ∙ first.below;
}

-- what one item at the distance 0 brings
brought : {N : Type 0} {A : Type 0} (f : Item N → List A) (item : Item N) → is_at_zero item ≡ true → flat_map f (at_zero (item ∷ [])) ≡ f item
brought f item near = ap (λ b. flat_map f (cond b (item ∷ []) [])) near ∙ append-nil (f item)

joins : {N : Type 0} (item : Item N) (old new : ZeroItems N) → (gap_of item).num ≡ 0 → IsPermutation (node_if_any item ++ old.nodes) new.nodes
    → PutIn (rough_id_in item) old.roughs new.roughs → PutIn (row_id_in item) old.rows new.rows → new.below ≡ old.below → OpensNode old.nodes (item ∷ []) old new
joins item old new zero nodes roughs rows below =
    let near : is_at_zero item ≡ true = ap (λ n. nat_eq n 0) zero in
    record {
      nodes = subst (λ l. IsPermutation (l ++ old.nodes) new.nodes) (sym (brought node_if_any item near)) nodes;
      roughs = subst (λ l. PutIn l old.roughs new.roughs) (sym (brought rough_id_in item near)) roughs;
      rows = subst (λ l. PutIn l old.rows new.rows) (sym (brought row_id_in item near)) rows;
      below = below;
    }

-- a node was found
pub node_joins : {N : Type 0} (item : Item N) (gap : Frac) (node : N) (q : ZeroItems N) (nodes : List N) → item ≡ Node gap node → (gap_of item).num ≡ 0
    → nodes ≡ q.nodes ++ node ∷ [] → OpensNode q.nodes (item ∷ []) q (record q { nodes = nodes })
node_joins item gap node q nodes is zero adds =
    joins item q (record q { nodes = nodes }) zero
    (subst (λ i. IsPermutation (node_if_any i ++ q.nodes) nodes) (sym is)
    (subst (IsPermutation (node ∷ q.nodes)) (sym adds) (IsPermutation-append_comm (node ∷ []) q.nodes)))
    (subst (λ i. PutIn (rough_id_in i) q.roughs q.roughs) (sym is) (puts_none q.roughs))
    (subst (λ i. PutIn (row_id_in i) q.rows q.rows) (sym is) (puts_none q.rows)) refl

-- a rough object was found
pub rough_joins : {N : Type 0} (item : Item N) (gap : Frac) (left right : ℕ) (q : ZeroItems N) (roughs : List ℕ) → item ≡ Rough gap left right → (gap_of item).num ≡ 0
    → PutIn (left ∷ []) q.roughs roughs → OpensNode q.nodes (item ∷ []) q (record q { roughs = roughs })
rough_joins item gap left right q roughs is zero puts =
    joins item q (record q { roughs = roughs }) zero
    (subst (λ i. IsPermutation (node_if_any i ++ q.nodes) q.nodes) (sym is) (IsPermutation-refl q.nodes))
    (subst (λ i. PutIn (rough_id_in i) q.roughs roughs) (sym is) puts)
    (subst (λ i. PutIn (row_id_in i) q.rows q.rows) (sym is) (puts_none q.rows)) refl

-- a row was found
pub row_joins : {N : Type 0} (item : Item N) (gap : Frac) (left right : ℕ) (q : ZeroItems N) (rows : List ℕ) (below : ℕ) → item ≡ Row gap left right
    → (gap_of item).num ≡ 0 → below ≡ q.below → PutIn (left ∷ []) q.rows rows → OpensNode q.nodes (item ∷ []) q (record q { rows = rows; below = below })
row_joins item gap left right q rows below is zero kept puts =
    joins item q (record q { rows = rows; below = below }) zero
    (subst (λ i. IsPermutation (node_if_any i ++ q.nodes) q.nodes) (sym is) (IsPermutation-refl q.nodes))
    (subst (λ i. PutIn (rough_id_in i) q.roughs q.roughs) (sym is) (puts_none q.roughs))
    (subst (λ i. PutIn (row_id_in i) q.rows rows) (sym is) puts) kept

-- ---- what is found in the order of a leaf

-- what was put in is so in any order
puts_swapped : (first second old new : List ℕ) → PutIn (second ++ first) old new → PutIn (first ++ second) old new
puts_swapped first second old new puts = record {
  again = puts.again;
  split = IsPermutation-trans ((first ++ second) ++ old) ((second ++ first) ++ old) (puts.again ++ new)
      (IsPermutation-append_left old (first ++ second) (second ++ first) (IsPermutation-append_comm first second)) puts.split;
  there = puts.there;
}

-- some items joined, and then others
pub opens_then : {N : Type 0} (rest : List N) (first second : List (Item N)) (old mid new : ZeroItems N) → OpensNode rest first old mid → OpensNode mid.nodes second mid new
    → OpensNode rest (first ++ second) old new
opens_then {N} rest first second old mid new before after = record {
  nodes = subst (λ l. IsPermutation (l ++ rest) new.nodes) (sym (both node_if_any))
      (IsPermutation-trans ((nodes_of (at_zero first) ++ nodes_of (at_zero second)) ++ rest) ((nodes_of (at_zero second) ++ nodes_of (at_zero first)) ++ rest) new.nodes
      (IsPermutation-append_left rest (nodes_of (at_zero first) ++ nodes_of (at_zero second)) (nodes_of (at_zero second) ++ nodes_of (at_zero first))
      (IsPermutation-append_comm (nodes_of (at_zero first)) (nodes_of (at_zero second))))
      (subst (λ l. IsPermutation l new.nodes) (sym (append_assoc (nodes_of (at_zero second)) (nodes_of (at_zero first)) rest))
      (IsPermutation-trans (nodes_of (at_zero second) ++ (nodes_of (at_zero first) ++ rest)) (nodes_of (at_zero second) ++ mid.nodes) new.nodes
      (IsPermutation-append_right (nodes_of (at_zero second)) (nodes_of (at_zero first) ++ rest) mid.nodes before.nodes)
      after.nodes)));
  roughs = put rough_id_in old.roughs mid.roughs new.roughs before.roughs after.roughs;
  rows = put row_id_in old.rows mid.rows new.rows before.rows after.rows;
  below = after.below ∙ before.below;
}
  where
    both : {A : Type 0} (f : Item N → List A) → flat_map f (at_zero (first ++ second)) ≡ flat_map f (at_zero first) ++ flat_map f (at_zero second)
    both f = ap (flat_map f) (filter-append is_at_zero first second) ∙ flat_map-append f (at_zero first) (at_zero second)

    put : (f : Item N → List ℕ) (was then now : List ℕ) → PutIn (flat_map f (at_zero first)) was then → PutIn (flat_map f (at_zero second)) then now
        → PutIn (flat_map f (at_zero (first ++ second))) was now
    put f was then now one other =
        subst (λ l. PutIn l was now) (sym (both f))
        (puts_swapped (flat_map f (at_zero first)) (flat_map f (at_zero second)) was now
        (puts_more (flat_map f (at_zero second)) (flat_map f (at_zero first)) was then now one other))

-- ---- the least id

-- the id that is taken is the least one
taken_is : (id taken : ℕ) (old new : List ℕ) → IsLeastOf id old → TakesLeast taken old new → taken ≡ id
taken_is id taken old new least takes =
    let most : id ≤ taken = All-contains (λ other. id ≤ other) old taken least.1 (Contains-permutation (taken ∷ new) old taken (IsPermutation-sym old (taken ∷ new) takes.0) (0, omega arith, refl)) in
    let all = All-cons (λ other. taken ≤ other) taken new (omega arith) (All-weaker (λ other. taken < other) (λ other. taken ≤ other) (λ other less. omega arith) new takes.1) in
    let least_too : taken ≤ id = All-contains (λ other. taken ≤ other) (taken ∷ new) id all (Contains-permutation old (taken ∷ new) id takes.0 least.0) in
    omega arith

-- where a set has a least id, that one is taken
pub takes_it : (taken : Option ℕ) (id below : ℕ) (old new : List ℕ) → IsLeastOf id old
    → MatchOption taken ((old ≡ []) × (new ≡ [])) (λ t. IsPermutation old (t ∷ new)) → MatchOption taken (old ≡ []) (λ t. All (λ other. t < other) new) → IfSome taken (λ t. t < below)
    → TakesLeast id old new × (id < below)
takes_it None id below old new least none none_too inside = absurd (let no = ap length none_too in let some = least.0.1 in omega arith)
takes_it (Some t) id below old new least splits greater inside =
    let is = taken_is id t old new least (splits, greater) in
    (subst (λ x. TakesLeast x old new) is (splits, greater), subst (λ x. x < below) is inside)

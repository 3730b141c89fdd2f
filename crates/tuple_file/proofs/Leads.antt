-- Where a map has got a new pair or lost one, it leads from every other key where it led; and what is known of where tuples lie stays true.
use Rattle.std.proofs.Common.{◌≡◌, ◌≢◌, ℕ, suc, ◌+◌, ◌<◌, Bool, cond, List, [], ◌∷◌, ◌++◌, length, get_or, set, zero, refl, sym, ◌∙◌, ap, subst, inl, inr, arith}
use Rattle.std.specs.Prelude.{◌==◌, Option, Some}
use Rattle.std.proofs.lemmas.List.{get_or-set_same, get_or-set_other, get_or_past, length-set}
use Rattle.std.proofs.lemmas.Bool.Decides.{leb_tells, eqb_tells}
use Rattle.code_btree.specs.Node.{Pair}
use Rattle.code_btree.specs.Items.{find_item, items_below, items_above, put_item, drop_item}
use Rattle.code_btree.specs.Tree.{Store}
use Rattle.code_btree.proofs.Orders.{lt_is, lt_not, eq_is, eq_not}
use Rattle.tuple_file.specs.declared.file.TupleFile.{TupleFile}
use Rattle.tuple_file.specs.Calls.{Put, TupleTaken, FileUnmoved}
use Rattle.tuple_file.specs.declared.span.Span.{Span}
use Rattle.tuple_file.specs.Spans.{Lies, AreKnown, Learnt, Forgot, span_of, forgotten}
use Rattle.tuple_file.proofs.Counts.{find_past, find_first, none_some}

-- the pairs below a key lead from a lesser one where all led
below_leads : (k i v : ℕ) (es zs : List Pair) → i < k → find_item i es ≡ Some v → find_item i (items_below k es ++ zs) ≡ Some v
below_leads k i v [] zs l h = absurd (none_some v (sym h))
below_leads k i v (e ∷ es) zs l h = elim (eqb_tells e.0 i) [
  | inl x ↦ rw (lt_is e.0 k (omega (arith, x.1, l)), eq_is e.0 i x.1) (find_first i e es (Some v) x.1 h)
  | inr x ↦ elim (leb_tells (suc e.0) k) [
    | inl y ↦ rw (lt_is e.0 k y.1, eq_not e.0 i x.1) (below_leads k i v es zs l (find_past i e es (Some v) x.1 h))
    | inr y ↦ rw (lt_not e.0 k (omega (arith, y.1))) (below_leads k i v es zs l (find_past i e es (Some v) x.1 h))
  ]
]

-- from a greater one they lead nowhere
past_leads : (k i : ℕ) (es zs : List Pair) → k < i → find_item i (items_below k es ++ zs) ≡ find_item i zs
past_leads k i [] zs l = refl
past_leads k i (e ∷ es) zs l = elim (leb_tells (suc e.0) k) [
  | inl y ↦ let n : e.0 ≢ i = omega (arith, y.1, l) in rw (lt_is e.0 k y.1, eq_not e.0 i n) (past_leads k i es zs l)
  | inr y ↦ rw (lt_not e.0 k (omega (arith, y.1))) (past_leads k i es zs l)
]

-- but those above it do, as all
above_leads : (k i : ℕ) (es : List Pair) → k < i → find_item i (items_above k es) ≡ find_item i es
above_leads k i [] l = refl
above_leads k i (e ∷ es) l = elim (leb_tells (suc k) e.0) [
  | inl y ↦ rw (lt_is k e.0 y.1) (ap (λ (o : Option ℕ). cond (e.0 == i) (Some e.1) o) (above_leads k i es l))
  | inr y ↦ let n : e.0 ≢ i = omega (arith, y.1, l) in rw (lt_not k e.0 (omega (arith, y.1)), eq_not e.0 i n) (above_leads k i es l)
]

-- the map with a pair, or without a key, leads from another key where it led
pub put_leads : (k u i v : ℕ) (es : List Pair) → i ≢ k → find_item i es ≡ Some v → find_item i (put_item k u es) ≡ Some v
put_leads k u i v es d h = elim (leb_tells (suc i) k) [
  | inl x ↦ below_leads k i v es ((k, u) ∷ items_above k es) x.1 h
  | inr x ↦
      let l : k < i = omega (arith, x.1, d) in
      let n : k ≢ i = omega (arith, l) in
      past_leads k i es ((k, u) ∷ items_above k es) l ∙ (ap (λ (b : Bool). cond b (Some u) (find_item i (items_above k es))) (eq_not k i n) ∙ (above_leads k i es l ∙ h))
]

pub drop_leads : (k i v : ℕ) (es : List Pair) → i ≢ k → find_item i es ≡ Some v → find_item i (drop_item k es) ≡ Some v
drop_leads k i v es d h = elim (leb_tells (suc i) k) [
  | inl x ↦ below_leads k i v es (items_above k es) x.1 h
  | inr x ↦
      let l : k < i = omega (arith, x.1, d) in
      past_leads k i es (items_above k es) l ∙ (above_leads k i es l ∙ h)
]

-- nothing is known at first
pub none_known : (m : Store) (f : TupleFile) → AreKnown m f []
none_known m f n l = absurd (omega (arith, l))

-- what is known stays true where a tuple is put, and its own span may be learnt
pub put_known : (m w : Store) (f g : TupleFile) (id : ℕ) (span : Span) (bytes old new : List ℕ) → Put m w f g id bytes → Lies w g id span → AreKnown m f old → Learnt old id span new → AreKnown w g new
put_known m w f g id span bytes old new put at known learnt n l = elim (learnt n l) [
  | inl same ↦ let P : ℕ → Type 0 = λ p. Lies w g (n + 1) (span_of p) in subst P (sym same) (put.stay (n + 1) (span_of (get_or old n 0)) (known n (omega (arith, l, same))))
  | inr is ↦
      let P : ℕ → Type 0 = λ k. Lies w g k (span_of (get_or new n 0)) in
      let Q : Span → Type 0 = λ s. Lies w g id s in
      subst P (sym is.0) (subst Q (sym is.1) at)
]

-- a span that is set to 0 isn't known
none_at : (spans : List ℕ) (i n : ℕ) → n ≡ i → get_or (set spans i 0) n 0 ≡ 0
none_at spans i n e = elim (leb_tells (suc i) (length spans)) [
  | inl x ↦ ap (λ (k : ℕ). get_or (set spans i 0) k 0) e ∙ get_or-set_same spans i 0 0 x.1
  | inr x ↦ get_or_past (set spans i 0) n 0 (omega (arith, x.1, e, length-set spans i 0))
]

-- where one is taken it stays true, but for its own span
pub taken_known : (m w : Store) (f g : TupleFile) (id : ℕ) (was : Bool) (spans : List ℕ) → TupleTaken m w f g id was → AreKnown m f spans → AreKnown w g (forgotten id spans)
taken_known m w f g zero was spans taken known n l = taken.stay (n + 1) (span_of (get_or spans n 0)) (omega arith) (known n l)
taken_known m w f g (suc i) was spans taken known n l = elim (eqb_tells n i) [
  | inl x ↦ absurd (omega (arith, l, none_at spans i n x.1))
  | inr x ↦
      let other : get_or (set spans i 0) n 0 ≡ get_or spans n 0 = get_or-set_other spans i n 0 0 x.1 in
      let P : ℕ → Type 0 = λ p. Lies w g (n + 1) (span_of p) in
      subst P (sym other) (taken.stay (n + 1) (span_of (get_or spans n 0)) (omega (arith, x.1)) (known n (omega (arith, l, other))))
]

-- so it does where the span of the id is forgotten, alone or with all others
pub lost_known : (m w : Store) (f g : TupleFile) (id : ℕ) (was : Bool) (old new : List ℕ) → TupleTaken m w f g id was → AreKnown m f old → Forgot old id new → AreKnown w g new
lost_known m w f g id was old new taken known lost = elim lost [
  | inl one ↦ subst (AreKnown w g) (sym one) (taken_known m w f g id was old taken known)
  | inr all ↦ subst (AreKnown w g) (sym all) (none_known w g)
]

-- and where the file's pages stay
pub still_known : (m w : Store) (f : TupleFile) (spans : List ℕ) → FileUnmoved m w f → AreKnown m f spans → AreKnown w f spans
still_known m w f spans u known n l = u.stay (n + 1) (span_of (get_or spans n 0)) (known n l)

-- What a test finds among pairs, by the least key from one on.
use Rattle.std.proofs.Common.{◌≡◌, ℕ, suc, ◌<◌, ◌≤◌, Bool, true, false, cond, List, [], ◌∷◌, refl, sym, ◌∙◌, ap, subst, inl, inr, arith}
use Rattle.std.specs.Prelude.{None, Some}
use Rattle.std.specs.List.{find}
use Rattle.std.proofs.lemmas.Bool.Decides.{leb_tells}
use Rattle.std.proofs.lemmas.Option.{none-some, same_Some}
use Rattle.code_btree.specs.Node.{Pair}
use Rattle.code_btree.specs.Items.{Each, Above, Ascending, items_from, first_item, ceiling_item}
use Rattle.code_btree.proofs.Orders.{lt_is, lt_not}

-- a lesser key is passed over
passed : (from : ℕ) (e : Pair) (es : List Pair) → e.0 < from → ceiling_item from (e ∷ es) ≡ ceiling_item from es
passed from e es h = ap (λ (b : Bool). first_item (cond b (items_from from es) (e ∷ items_from from es))) (lt_is e.0 from h)

-- another one is given
given : (from : ℕ) (e : Pair) (es : List Pair) → from ≤ e.0 → ceiling_item from (e ∷ es) ≡ Some e
given from e es h = ap (λ (b : Bool). first_item (cond b (items_from from es) (e ∷ items_from from es))) (lt_not e.0 from h)

-- a test of keys with a fact that each key has: none below `from` passes
pub record IsSearch (P : ℕ → Type 0) (test : ℕ → Bool) (from : ℕ) : Type 0 where
  pub lesser : (k : ℕ) → P k → k < from → test k ≡ false

-- no key is left
pub none_left : (P : ℕ → Type 0) (test : ℕ → Bool) (from : ℕ) (es : List Pair) → IsSearch P test from → Each (λ e. P e.0) es → ceiling_item from es ≡ None → find (λ e. test e.0) es ≡ None
none_left P test from [] s h c = refl
none_left P test from (e ∷ es) s h c = elim (leb_tells (suc e.0) from) [
  | inl x ↦
      ap (λ (b : Bool). cond b (Some e) (find (λ i. test i.0) es)) (s.lesser e.0 h.0 x.1)
      ∙ none_left P test from es s h.1 (sym (passed from e es x.1) ∙ c)
  | inr x ↦ absurd (none-some e (sym c ∙ given from e es (omega (arith, x.1))))
]

-- the least key from there on passes
pub one_found : (P : ℕ → Type 0) (test : ℕ → Bool) (from : ℕ) (d : Pair) (es : List Pair) → IsSearch P test from → Each (λ e. P e.0) es → ceiling_item from es ≡ Some d
    → test d.0 ≡ true → find (λ e. test e.0) es ≡ Some d
one_found P test from d [] s h c t = absurd (none-some d c)
one_found P test from d (e ∷ es) s h c t = elim (leb_tells (suc e.0) from) [
  | inl x ↦
      ap (λ (b : Bool). cond b (Some e) (find (λ i. test i.0) es)) (s.lesser e.0 h.0 x.1)
      ∙ one_found P test from d es s h.1 (sym (passed from e es x.1) ∙ c) t
  | inr x ↦
      let same : e ≡ d = same_Some e d (sym (given from e es (omega (arith, x.1))) ∙ c) in
      ap (λ (b : Bool). cond b (Some e) (find (λ i. test i.0) es)) (ap (λ (i : Pair). test i.0) same ∙ t) ∙ ap (λ (i : Pair). Some i) same
]

-- keys above this one don't pass
none_above : (P : ℕ → Type 0) (test : ℕ → Bool) (top : ℕ) (es : List Pair) → ((k : ℕ) → P k → top ≤ k → test k ≡ false) → Each (λ e. P e.0) es → Above top es → find (λ e. test e.0) es ≡ None
none_above P test top [] greater h a = refl
none_above P test top (e ∷ es) greater h a =
    let l : top < e.0 = a.0 in
    ap (λ (b : Bool). cond b (Some e) (find (λ i. test i.0) es)) (greater e.0 h.0 (omega (arith, l))) ∙ none_above P test top es greater h.1 a.1

-- the least key from there on is too great, and so are those behind it
pub all_behind : (P : ℕ → Type 0) (test : ℕ → Bool) (from : ℕ) (d : Pair) (es : List Pair) → IsSearch P test from → ((k : ℕ) → P k → d.0 ≤ k → test k ≡ false)
    → Each (λ e. P e.0) es → Ascending es → ceiling_item from es ≡ Some d
    → find (λ e. test e.0) es ≡ None
all_behind P test from d [] s greater h a c = refl
all_behind P test from d (e ∷ es) s greater h a c = elim (leb_tells (suc e.0) from) [
  | inl x ↦
      ap (λ (b : Bool). cond b (Some e) (find (λ i. test i.0) es)) (s.lesser e.0 h.0 x.1)
      ∙ all_behind P test from d es s greater h.1 a.1 (sym (passed from e es x.1) ∙ c)
  | inr x ↦
      let same : e ≡ d = same_Some e d (sym (given from e es (omega (arith, x.1))) ∙ c) in
      let first : d.0 ≤ e.0 = omega (arith, ap (λ (i : Pair). i.0) same) in
      let G : Pair → Type 0 = λ i. Above i.0 es in
      ap (λ (b : Bool). cond b (Some e) (find (λ i. test i.0) es)) (greater e.0 h.0 first)
      ∙ none_above P test d.0 es greater h.1 (subst G same a.0)
]

-- no key at all passes
pub none_passes : (test : ℕ → Bool) (es : List Pair) → ((k : ℕ) → test k ≡ false) → find (λ e. test e.0) es ≡ None
none_passes test [] h = refl
none_passes test (e ∷ es) h = ap (λ (b : Bool). cond b (Some e) (find (λ i. test i.0) es)) (h e.0) ∙ none_passes test es h

-- the least key from there on is one of these, and not below
pub ceiling_reached : (from : ℕ) (d : Pair) (es : List Pair) → ceiling_item from es ≡ Some d → from ≤ d.0
ceiling_reached from d [] c = absurd (none-some d c)
ceiling_reached from d (e ∷ es) c = elim (leb_tells (suc e.0) from) [
  | inl x ↦ ceiling_reached from d es (sym (passed from e es x.1) ∙ c)
  | inr x ↦
      let same : e ≡ d = same_Some e d (sym (given from e es (omega (arith, x.1))) ∙ c) in
      omega (arith, x.1, ap (λ (i : Pair). i.0) same)
]

pub ceiling_holds : (P : ℕ → Type 0) (from : ℕ) (d : Pair) (es : List Pair) → Each (λ e. P e.0) es → ceiling_item from es ≡ Some d → P d.0
ceiling_holds P from d [] h c = absurd (none-some d c)
ceiling_holds P from d (e ∷ es) h c = elim (leb_tells (suc e.0) from) [
  | inl x ↦ ceiling_holds P from d es h.1 (sym (passed from e es x.1) ∙ c)
  | inr x ↦
      let same : e ≡ d = same_Some e d (sym (given from e es (omega (arith, x.1))) ∙ c) in
      let Q : Pair → Type 0 = λ i. P i.0 in
      subst Q same h.0
]

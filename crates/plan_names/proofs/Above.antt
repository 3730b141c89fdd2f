-- Of pairs of an id and a value, in the order of their ids, those of a test that come after an id.
use Rattle.std.proofs.Common.{◌≡◌, ℕ, suc, ◌<◌, ◌≤◌, ◌⊎◌, Bool, true, false, cond, List, [], ◌∷◌, filter, refl, ◌∙◌, ap, ap₂, subst, inl, inr, arith}
use Rattle.std.proofs.lemmas.Bool.Decides.{leb_tells}
use Rattle.code_btree.specs.Items.{Each}
use Rattle.code_btree.proofs.Lists.{Each-map}
use Rattle.code_btree.proofs.Orders.{lt_is, lt_not}
use Rattle.sand_base.specs.declared.value.Value.{Value}
use Rattle.plan_names.specs.Equals.{above}

abbrev pub Pairs : Type 0
Pairs = List (ℕ × Value)

-- the ids rise strictly
abbrev pub InOrder : Pairs → Type 0
InOrder [] = Unit {0}
InOrder (p ∷ ps) = Each (λ q. p.0 < q.0) ps × InOrder ps

-- the pair is one of the list
abbrev pub Has : ℕ × Value → Pairs → Type 0
Has x [] = ⊥
Has x (p ∷ ps) = (p ≡ x) ⊎ Has x ps

-- none above the id passes
pub none_above : (test : ℕ × Value → Bool) (id : ℕ) (ps : Pairs) → Each (λ p. test p ≡ true → p.0 ≤ id) ps → above id (filter test ps) ≡ []
none_above test id [] h = refl
none_above test id (p ∷ ps) h =
    let go : (b : Bool) → test p ≡ b → above id (cond b (p ∷ filter test ps) (filter test ps)) ≡ [] =
    elim [ true ↦ λ e. rw (lt_not id p.0 (h.0 e)) (none_above test id ps h.1) | false ↦ λ e. none_above test id ps h.1 ] in
    go (test p) refl

-- none between two ids passes
pub none_between : (test : ℕ × Value → Bool) (low high : ℕ) (ps : Pairs) → low < high → Each (λ p. test p ≡ true → low < p.0 → high < p.0) ps
    → above low (filter test ps) ≡ above high (filter test ps)
none_between test low high [] l h = refl
none_between test low high (p ∷ ps) l h =
    let rest = none_between test low high ps l h.1 in
    let go : (b : Bool) → test p ≡ b → above low (cond b (p ∷ filter test ps) (filter test ps)) ≡ above high (cond b (p ∷ filter test ps) (filter test ps)) =
    elim [
      | true ↦ λ e. elim (leb_tells (suc low) p.0) [
        | inl x ↦ rw (lt_is low p.0 x.1, lt_is high p.0 (h.0 e x.1)) (ap (λ (xs : Pairs). p ∷ xs) rest)
        | inr x ↦ rw (lt_not low p.0 (omega (arith, x.1)), lt_not high p.0 (omega (arith, x.1, l))) rest
      ]
      | false ↦ λ e. rest
    ] in
    go (test p) refl

-- the first that passes above an id comes first, and the others are above it
pub first_above : (test : ℕ × Value → Bool) (low id : ℕ) (w : Value) (ps : Pairs) → low < id → test (id, w) ≡ true → InOrder ps → Has (id, w) ps
    → Each (λ p. test p ≡ true → low < p.0 → id ≤ p.0) ps → above low (filter test ps) ≡ (id, w) ∷ above id (filter test ps)
first_above test low id w [] l t o (has) h = absurd has
first_above test low id w (p ∷ ps) l t o (inl e) h =
    let k : p.0 ≡ id = ap (λ (q : ℕ × Value). q.0) e in
    let rest : above low (filter test ps) ≡ above id (filter test ps) =
    none_between test low id ps l (Each-map (λ q. p.0 < q.0) (λ q. test q ≡ true → low < q.0 → id < q.0) (λ q r a b. omega (arith, k, r)) ps o.0) in
    rw (ap (λ (q : ℕ × Value). test q) e ∙ t, lt_is low p.0 (omega (arith, k, l)), lt_not id p.0 (omega (arith, k))) (ap₂ (λ (q : ℕ × Value) (xs : Pairs). q ∷ xs) e rest)
first_above test low id w (p ∷ ps) l t o (inr has) h =
    let rest = first_above test low id w ps l t o.1 has h.1 in
    let before : p.0 < id = each_has (λ q. p.0 < q.0) ps (id, w) o.0 has in
    let go : (b : Bool) → test p ≡ b → above low (cond b (p ∷ filter test ps) (filter test ps)) ≡ (id, w) ∷ above id (cond b (p ∷ filter test ps) (filter test ps)) =
    elim [
      | true ↦ λ e. elim (leb_tells (suc low) p.0) [
        | inl x ↦ absurd (omega (arith, h.0 e x.1, before))
        | inr x ↦ rw (lt_not low p.0 (omega (arith, x.1)), lt_not id p.0 (omega (arith, before))) rest
      ]
      | false ↦ λ e. rest
    ] in
    go (test p) refl
  where
    each_has : (P : ℕ × Value → Type 0) (qs : Pairs) (x : ℕ × Value) → Each P qs → Has x qs → P x
    each_has P [] x e has = absurd has
    each_has P (q ∷ qs) x e (inl is) = subst P is e.0
    each_has P (q ∷ qs) x e (inr has) = each_has P qs x e.1 has

-- Numbers counted in lists, facts of each element, rows of rows, and paths.
use Rattle.std.proofs.Common.{◌≡◌, ◌≢◌, ℕ, ◌+◌, ◌≤◌, ◌⊎◌, cond, List, [], ◌∷◌, ◌++◌, map, refl, sym, ◌∙◌, ap, ap₂, subst, inl, inr, arith}
use Rattle.std.specs.Prelude.{Option, None, Some, is_some}
use Rattle.std.specs.List.{flat_map}
use Rattle.std.proofs.lemmas.Bool.Decides.{eqb_tells}
use Rattle.std.proofs.lemmas.List.Concat.{flat_map-append}
use Rattle.code_btree.specs.Items.{Each}
use Rattle.code_btree.specs.Tree.{Store, same, times, live, Path}

pub same_cases : (q n : ℕ) → ((same q n ≡ 1) × (q ≡ n)) ⊎ ((same q n ≡ 0) × (q ≢ n))
same_cases q n = elim (eqb_tells q n) [ inl x ↦ inl (rw x.0, x.1) | inr x ↦ inr (rw x.0, x.1) ]

pub same_self : (n : ℕ) → same n n ≡ 1
same_self n = elim (same_cases n n) [ inl x ↦ x.0 | inr x ↦ absurd (x.1 refl) ]

pub live_small : (m : Store) (q : ℕ) → live m q ≤ 1
live_small m q = elim (m q) as (λ (o : Option (List ℕ)). cond (is_some o) 1 0 ≤ 1) [ None ↦ omega arith | Some x ↦ omega arith ]

pub live_some : (m : Store) (q : ℕ) (x : List ℕ) → m q ≡ Some x → live m q ≡ 1
live_some m q x e = ap (λ (o : Option (List ℕ)). cond {A = ℕ} (is_some o) 1 0) e

pub live_none : (m : Store) (q : ℕ) → m q ≡ None → live m q ≡ 0
live_none m q e = ap (λ (o : Option (List ℕ)). cond {A = ℕ} (is_some o) 1 0) e

pub none_live : (m : Store) (q : ℕ) → live m q ≡ 0 → m q ≡ None
none_live m q = elim (m q) as (λ (o : Option (List ℕ)). cond {A = ℕ} (is_some o) 1 0 ≡ 0 → o ≡ None) [ None ↦ λ h. refl | Some x ↦ λ h. absurd (omega arith) ]

pub live_same : (m w : Store) (q : ℕ) → w q ≡ m q → live w q ≡ live m q
live_same m w q e = ap (λ (o : Option (List ℕ)). cond {A = ℕ} (is_some o) 1 0) e

pub times-append : (q : ℕ) (xs ys : List ℕ) → times q (xs ++ ys) ≡ times q xs + times q ys
times-append q [] ys = omega arith
times-append q (x ∷ xs) ys = omega (arith, times-append q xs ys)

pub Each-append : {A : Type 0} (P : A → Type 0) (xs ys : List A) → Each P xs → Each P ys → Each P (xs ++ ys)
Each-append P [] ys h k = k
Each-append P (x ∷ xs) ys h k = (h.0, Each-append P xs ys h.1 k)

pub Each-left : {A : Type 0} (P : A → Type 0) (xs ys : List A) → Each P (xs ++ ys) → Each P xs
Each-left P [] ys h = tt
Each-left P (x ∷ xs) ys h = (h.0, Each-left P xs ys h.1)

pub Each-right : {A : Type 0} (P : A → Type 0) (xs ys : List A) → Each P (xs ++ ys) → Each P ys
Each-right P [] ys h = h
Each-right P (x ∷ xs) ys h = Each-right P xs ys h.1

pub Each-map : {A : Type 0} (P Q : A → Type 0) (f : (x : A) → P x → Q x) (xs : List A) → Each P xs → Each Q xs
Each-map P Q f [] h = tt
Each-map P Q f (x ∷ xs) h = (f x h.0, Each-map P Q f xs h.1)

pub Each-zip : {A : Type 0} (P Q R : A → Type 0) (f : (x : A) → P x → Q x → R x) (xs : List A) → Each P xs → Each Q xs → Each R xs
Each-zip P Q R f [] h k = tt
Each-zip P Q R f (x ∷ xs) h k = (f x h.0 k.0, Each-zip P Q R f xs h.1 k.1)

pub Each-flat : {A B : Type 0} (P : B → Type 0) (f : A → List B) (xs : List A) → Each P (flat_map f xs) → Each (λ x. Each P (f x)) xs
Each-flat P f [] h = tt
Each-flat P f (x ∷ xs) h = (Each-left P (f x) (flat_map f xs) h, Each-flat P f xs (Each-right P (f x) (flat_map f xs) h))

pub Each-join : {A B : Type 0} (P : B → Type 0) (f : A → List B) (xs : List A) → Each (λ x. Each P (f x)) xs → Each P (flat_map f xs)
Each-join P f [] h = tt
Each-join P f (x ∷ xs) h = Each-append P (f x) (flat_map f xs) h.0 (Each-join P f xs h.1)

pub flat_map-same : {A B : Type 0} (f g : A → List B) (xs : List A) → Each (λ x. f x ≡ g x) xs → flat_map f xs ≡ flat_map g xs
flat_map-same f g [] h = refl
flat_map-same {B = B} f g (x ∷ xs) h = ap₂ (λ (a b : List B). a ++ b) h.0 (flat_map-same f g xs h.1)

pub map-same : {A B : Type 0} (f g : A → B) (xs : List A) → Each (λ x. f x ≡ g x) xs → map f xs ≡ map g xs
map-same f g [] h = refl
map-same {B = B} f g (x ∷ xs) h = ap₂ (λ (a : B) (b : List B). a ∷ b) h.0 (map-same f g xs h.1)

pub flat_map-flat : {A B C : Type 0} (f : B → List C) (g : A → List B) (xs : List A) → flat_map f (flat_map g xs) ≡ flat_map (λ x. flat_map f (g x)) xs
flat_map-flat f g [] = refl
flat_map-flat {C = C} f g (x ∷ xs) = flat_map-append f (g x) (flat_map g xs) ∙ ap (λ (r : List C). flat_map f (g x) ++ r) (flat_map-flat f g xs)

-- the heads of lists, counted apart
pub times-heads : (q : ℕ) (f : ℕ → List ℕ) (xs : List ℕ) → times q (flat_map (λ x. x ∷ f x) xs) ≡ times q xs + times q (flat_map f xs)
times-heads q f [] = omega arith
times-heads q f (x ∷ xs) = omega (arith, times-append q (f x) (flat_map (λ y. y ∷ f y) xs), times-append q (f x) (flat_map f xs), times-heads q f xs)

pub Path-append : (s t e : ℕ) (xs ys : List (ℕ × ℕ)) → Path s xs t → Path t ys e → Path s (xs ++ ys) e
Path-append s t e [] ys h k = let P : ℕ → Type 0 = λ x. Path x ys e in subst P (sym h) k
Path-append s t e (x ∷ xs) ys h k = (h.0, (h.1.0, Path-append x.1 t e xs ys h.1.1 k))

pub Path-split : (s e : ℕ) (xs ys : List (ℕ × ℕ)) → Path s (xs ++ ys) e → (t : ℕ) × (Path s xs t × Path t ys e)
Path-split s e [] ys h = (s, (refl, h))
Path-split s e (x ∷ xs) ys h = let r = Path-split x.1 e xs ys h.1.1 in (r.0, ((h.0, (h.1.0, r.1.0)), r.1.1))

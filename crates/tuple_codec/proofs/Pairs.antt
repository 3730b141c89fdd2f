-- One thing after another: a code that is made of two.
use Rattle.std.proofs.Common.{◌≡◌, ℕ, List, ◌++◌, sym, ap, ◌∙◌, append_assoc}
use Rattle.tuple_codec.specs.Front.{IsNoneInFront}
use Rattle.tuple_codec.proofs.PrefixFree.{IsPrefixFree, only}

-- the two parts of a thing, each of its sort
pub record AreParts {A B C : Type 0} (IsA : A → Type 0) (IsB : B → Type 0) (IsC : C → Type 0) (f : C → A) (g : C → B) : Type 0 where
  pub first : (c : C) → IsC c → IsA (f c)
  pub second : (c : C) → IsC c → IsB (g c)
  pub whole : (c d : C) → f c ≡ f d → g c ≡ g d → c ≡ d

-- what was read first, where a thing of two parts stands in front
pub first_of_two : {A B C : Type 0} (IsA : A → Type 0) (IsB : B → Type 0) (IsC : C → Type 0) (codeA : A → List ℕ) (codeB : B → List ℕ)
    (f : C → A) (g : C → B) → AreParts IsA IsB IsC f g → IsPrefixFree IsA codeA
    → (old mid : List ℕ) (a : A) → IsA a → old ≡ codeA a ++ mid
    → (c : C) (rest : List ℕ) → IsC c → old ≡ (codeA (f c) ++ codeB (g c)) ++ rest
    → (a ≡ f c) × (mid ≡ codeB (g c) ++ rest)
first_of_two IsA IsB IsC codeA codeB f g parts free old mid a ia e c rest ic h =
    only IsA codeA free a (f c) mid (codeB (g c) ++ rest) ia (parts.first c ic)
    (sym e ∙ h ∙ append_assoc (codeA (f c)) (codeB (g c)) rest)

-- with no first part in front there is no thing
pub none_first : {A B C : Type 0} (IsA : A → Type 0) (IsB : B → Type 0) (IsC : C → Type 0) (codeA : A → List ℕ) (codeB : B → List ℕ)
    (f : C → A) (g : C → B) → AreParts IsA IsB IsC f g
    → (old : List ℕ) → IsNoneInFront IsA codeA old → IsNoneInFront IsC (λ c. codeA (f c) ++ codeB (g c)) old
none_first IsA IsB IsC codeA codeB f g parts old none c rest ic h =
    none (f c) (codeB (g c) ++ rest) (parts.first c ic) (h ∙ append_assoc (codeA (f c)) (codeB (g c)) rest)

-- nor with no second part behind the first
pub none_second : {A B C : Type 0} (IsA : A → Type 0) (IsB : B → Type 0) (IsC : C → Type 0) (codeA : A → List ℕ) (codeB : B → List ℕ)
    (f : C → A) (g : C → B) → AreParts IsA IsB IsC f g → IsPrefixFree IsA codeA
    → (old mid : List ℕ) (a : A) → IsA a → old ≡ codeA a ++ mid → IsNoneInFront IsB codeB mid
    → IsNoneInFront IsC (λ c. codeA (f c) ++ codeB (g c)) old
none_second IsA IsB IsC codeA codeB f g parts free old mid a ia e none c rest ic h =
    none (g c) rest (parts.second c ic)
    (first_of_two IsA IsB IsC codeA codeB f g parts free old mid a ia e c rest ic h).1

-- both parts, one behind the other
pub both : (old mid new x y : List ℕ) → old ≡ x ++ mid → mid ≡ y ++ new → old ≡ (x ++ y) ++ new
both old mid new x y e h = e ∙ ap (λ z. x ++ z) h ∙ sym (append_assoc x y new)

-- a code of two parts is the beginning of no other one
pub pairs_free : {A B C : Type 0} (IsA : A → Type 0) (IsB : B → Type 0) (IsC : C → Type 0) (codeA : A → List ℕ) (codeB : B → List ℕ)
    (f : C → A) (g : C → B) → AreParts IsA IsB IsC f g → IsPrefixFree IsA codeA → IsPrefixFree IsB codeB
    → IsPrefixFree IsC (λ c. codeA (f c) ++ codeB (g c))
pairs_free IsA IsB IsC codeA codeB f g parts freeA freeB = record {
  one = λ c d r s ic id h.
      let ahead : (f c ≡ f d) × (codeB (g c) ++ r ≡ codeB (g d) ++ s) =
      first_of_two IsA IsB IsC codeA codeB f g parts freeA
      ((codeA (f c) ++ codeB (g c)) ++ r) (codeB (g c) ++ r) (f c) (parts.first c ic)
      (append_assoc (codeA (f c)) (codeB (g c)) r) d s id h in
      parts.whole c d ahead.0 (freeB.one (g c) (g d) r s (parts.second c ic) (parts.second d id) ahead.1);
}

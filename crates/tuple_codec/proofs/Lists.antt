-- Many things one after another.
use Rattle.std.proofs.Common.{◌≡◌, ℕ, List, [], ◌∷◌, ◌++◌, sym, refl, ap, ◌∙◌, append_assoc, append-nil}
use Rattle.std.specs.List.{flat_map}
use Rattle.std.proofs.lemmas.List.Concat.{flat_map-append}
use Rattle.tuple_codec.specs.Front.{IsNoneInFront}
use Rattle.tuple_codec.proofs.PrefixFree.{IsPrefixFree, only}

-- these things were read from the front of some bytes, and every list that fits and stands there begins with them
pub record HasRead {A : Type 0} (Fits : List A → Type 0) (code : A → List ℕ) (before : List ℕ) (done : List A) (left : List ℕ) : Type 0 where
  pub read : before ≡ flat_map code done ++ left
  pub whole : (all : List A) (rest : List ℕ) → Fits all → before ≡ flat_map code all ++ rest
      → (more : List A) × ((all ≡ done ++ more) × (left ≡ flat_map code more ++ rest))

-- each list that fits and begins with these things goes on with one more, of the sort
pub record GoesOn {A : Type 0} (Is : A → Type 0) (Fits : List A → Type 0) (done : List A) : Type 0 where
  pub next : (all more : List A) → Fits all → all ≡ done ++ more → (a : A) × ((tail : List A) × ((more ≡ a ∷ tail) × Is a))

-- each list that fits and begins with these things is they
pub record IsAll {A : Type 0} (Fits : List A → Type 0) (done : List A) : Type 0 where
  pub last : (all more : List A) → Fits all → all ≡ done ++ more → more ≡ []

-- nothing was read
pub begins : {A : Type 0} (Fits : List A → Type 0) (code : A → List ℕ) (before : List ℕ) → HasRead Fits code before [] before
begins Fits code before = record { read = refl; whole = λ all rest fits e. (all, (refl, e)) }

-- what is left, where one more thing follows
follows : {A : Type 0} (Is : A → Type 0) (Fits : List A → Type 0) (code : A → List ℕ) (before : List ℕ) (done : List A) (left : List ℕ)
    → HasRead Fits code before done left → GoesOn Is Fits done
    → (all : List A) (rest : List ℕ) → Fits all → before ≡ flat_map code all ++ rest
    → (a : A) × ((tail : List A) × (Is a × ((all ≡ done ++ (a ∷ tail)) × (left ≡ code a ++ (flat_map code tail ++ rest)))))
follows Is Fits code before done left has on all rest fits e =
    let w = has.whole all rest fits e in
    let n = on.next all w.0 fits w.1.0 in (
      n.0,
      (
        n.1.0,
        (
          n.1.1.1,
          (
            w.1.0 ∙ ap (λ m. done ++ m) n.1.1.0,
            w.1.1 ∙ ap (λ m. flat_map code m ++ rest) n.1.1.0 ∙ append_assoc (code n.0) (flat_map code n.1.0) rest,
          ),
        ),
      ),
    )

-- one more thing was read
pub reads : {A : Type 0} (Is : A → Type 0) (Fits : List A → Type 0) (code : A → List ℕ) → IsPrefixFree Is code
    → (before : List ℕ) (done : List A) (left new : List ℕ) (a : A)
    → HasRead Fits code before done left → GoesOn Is Fits done → Is a → left ≡ code a ++ new
    → HasRead Fits code before (done ++ a ∷ []) new
reads Is Fits code free before done left new a has on ia e = record {
  read =
      has.read
      ∙ ap (λ z. flat_map code done ++ z) e
      ∙ sym (append_assoc (flat_map code done) (code a) new)
      ∙ ap (λ z. (flat_map code done ++ z) ++ new) (sym (append-nil (code a)))
      ∙ ap (λ z. z ++ new) (sym (flat_map-append code done (a ∷ [])));
  whole = λ all rest fits h.
      let f = follows Is Fits code before done left has on all rest fits h in
      let same : (a ≡ f.0) × (new ≡ flat_map code f.1.0 ++ rest) =
      only Is code free a f.0 new (flat_map code f.1.0 ++ rest) ia f.1.1.0 (sym e ∙ f.1.1.1.1) in
      (f.1.0, (f.1.1.1.0 ∙ ap (λ b. done ++ (b ∷ f.1.0)) (sym same.0) ∙ sym (append_assoc done (a ∷ []) f.1.0), same.1));
}

-- with no further thing in front, no list that fits stands there
pub stops : {A : Type 0} (Is : A → Type 0) (Fits : List A → Type 0) (code : A → List ℕ)
    → (before : List ℕ) (done : List A) (left : List ℕ)
    → HasRead Fits code before done left → GoesOn Is Fits done → IsNoneInFront Is code left
    → IsNoneInFront Fits (λ all. flat_map code all) before
stops Is Fits code before done left has on none all rest fits h =
    let f = follows Is Fits code before done left has on all rest fits h in
    none f.0 (flat_map code f.1.0 ++ rest) f.1.1.0 f.1.1.1.1

-- with all that fits read, no other list that fits stands there
pub ends : {A : Type 0} (Fits : List A → Type 0) (code : A → List ℕ) (before : List ℕ) (done : List A) (left : List ℕ)
    → HasRead Fits code before done left → IsAll Fits done
    → (all : List A) (rest : List ℕ) → Fits all → before ≡ flat_map code all ++ rest → all ≡ done
ends Fits code before done left has full all rest fits h =
    let w = has.whole all rest fits h in
    w.1.0 ∙ ap (λ m. done ++ m) (full.last all w.0 fits w.1.0) ∙ append-nil done

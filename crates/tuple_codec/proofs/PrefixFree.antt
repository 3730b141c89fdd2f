-- Codes of which none is the beginning of another one.
use Rattle.std.proofs.Common.{◌≡◌, ℕ, List, ◌++◌, length, take, drop, ap, sym, refl, ◌∙◌, subst, Option, Some, None}
use Rattle.std.proofs.lemmas.List.{take_at, drop_at, append_cancel_left}
use Rattle.std.specs.List.{All}
use Rattle.tuple_codec.specs.Front.{IsNoneInFront, Takes}
use Rattle.std.proofs.lemmas.List.Elements.{All-same, All-drop}

-- where two things of the sort have codes that begin the same bytes, they are one
pub record IsPrefixFree {A : Type 0} (Is : A → Type 0) (code : A → List ℕ) : Type 0 where
  pub one : (a b : A) (r s : List ℕ) → Is a → Is b → code a ++ r ≡ code b ++ s → a ≡ b

-- equal fronts of one length are followed by equal rests
pub same_fronts : (a b r s : List ℕ) → length a ≡ length b → a ++ r ≡ b ++ s → (a ≡ b) × (r ≡ s)
same_fronts a b r s e h =
    let front : a ≡ b = sym (take_at a r (length a) refl) ∙ ap (take (length a)) h ∙ take_at b s (length a) (sym e) in
    let back : r ≡ s = sym (drop_at a r (length a) refl) ∙ ap (drop (length a)) h ∙ drop_at b s (length a) (sym e) in
    (front, back)

-- what follows one code is one
pub rest_same : {A : Type 0} (code : A → List ℕ) (a b : A) (r s : List ℕ) → a ≡ b → code a ++ r ≡ code b ++ s → r ≡ s
rest_same code a b r s e h = append_cancel_left (code a) r s (h ∙ ap (λ x. code x ++ s) (sym e))

-- the thing in front and what follows it are the only ones
pub only : {A : Type 0} (Is : A → Type 0) (code : A → List ℕ) → IsPrefixFree Is code
    → (a b : A) (r s : List ℕ) → Is a → Is b → code a ++ r ≡ code b ++ s → (a ≡ b) × (r ≡ s)
only Is code free a b r s ia ib h =
    let e : a ≡ b = free.one a b r s ia ib h in (e, rest_same code a b r s e h)

-- what holds of each item of a list holds of each at its end
pub All-behind : {A : Type 0} (P : A → Type 0) (all done more : List A) → all ≡ done ++ more → All P all → All P more
All-behind P all done more e h =
    All-same P more (drop (length done) all) (sym (ap (drop (length done)) e ∙ drop_at done more (length done) refl)) (All-drop P (length done) all h)

-- nothing was found
pub none_of : {A : Type 0} (Is : A → Type 0) (code : A → List ℕ) (left new : List ℕ) (found : Option A) → found ≡ None
    → Takes Is code left found new → IsNoneInFront Is code left
none_of {A} Is code left new found e t =
    let P : Option A → Type 0 = λ f. Takes Is code left f new in subst P e t

-- this was found
pub some_of : {A : Type 0} (Is : A → Type 0) (code : A → List ℕ) (left new : List ℕ) (found : Option A) (a : A) → found ≡ Some a
    → Takes Is code left found new → Is a × (left ≡ code a ++ new)
some_of {A} Is code left new found a e t =
    let P : Option A → Type 0 = λ f. Takes Is code left f new in subst P e t

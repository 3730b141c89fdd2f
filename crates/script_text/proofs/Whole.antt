-- Reading a form to the last token: what is read is written, what is written is read, no tokens write two values, and the
-- reader is stuck at the first bad token.
use Rattle.std.proofs.Common.{◌≡◌, ℕ, suc, ◌+◌, ◌<◌, ◌≤◌, Bool, true, false, ◌&&◌, List, [], ◌∷◌, ◌++◌, length, take, Result, Ok, Err, refl, sym, ap, subst, ◌∙◌, inl}
use Rattle.std.proofs.Common.{inr, arith, append_assoc, length-append}
use Rattle.std.specs.Prelude.{◌⊎◌}
use Rattle.std.proofs.lemmas.List.{append-nil, take_at}
use Rattle.script_text.specs.Form.{Class, Form, Spells}
use Rattle.script_text.specs.Grammar.{IsOf, IsOfForm, IsFront, GoesWrong, IsFirstBad, spelled, spelled_at, read_at, reading, none_left, ended_form, whole}
use Rattle.script_text.specs.Lexical.{Placed}
use Rattle.script_text.specs.Reading.{TokenState, at, go_on, read}
use Rattle.script_text.proofs.Depth.{laws_at, gather, raise-form, reading-at}
use Rattle.script_text.proofs.FormFronts.{IsTaken, IsSameFront}
use Rattle.script_text.proofs.FormLaws.{form-ok, form-bad, form-reads}
use Rattle.script_text.proofs.Predictive.{is_decided, goes, Stops}

-- fronts of one length are the same
pub same-front : (xs ys zs : List Placed) → xs ++ zs ≡ ys ++ zs → xs ≡ ys
same-front xs ys zs e =
    let n : length xs + length zs ≡ length ys + length zs = sym (length-append xs zs) ∙ ap length e ∙ length-append ys zs in
    let same : length xs ≡ length ys = omega (arith, n) in
    sym (take_at xs zs (length ys) same) ∙ ap (take (length ys)) e ∙ take_at ys zs (length ys) refl

-- values that are given are the same
ok-is : {A : Type 0} (x y : A × TokenState) → ◌≡◌ {A = Result (A × TokenState) (List Placed)} (Ok x) (Ok y) → x ≡ y
ok-is x y e = cc

-- tokens that are left are the same
err-is : {A : Type 0} (x y : List Placed) → ◌≡◌ {A = Result (A × TokenState) (List Placed)} (Err x) (Err y) → x ≡ y
err-is x y e = cc

-- a reading has one outcome
not-both : {A : Type 0} (r : Result (A × TokenState) (List Placed)) (x : A × TokenState) (bad : List Placed) → r ≡ Ok x → r ≡ Err bad → ⊥
not-both r x bad h k = let e : Ok x ≡ Err bad = sym h ∙ k in absurd cc

-- a flag and the one before anything
and-true : (b : Bool) → (b && true) ≡ b
and-true true = refl
and-true false = refl

-- both are what it is
both-are : {A : Type 0} (r : Result (A × TokenState) (List Placed)) (x y : A × TokenState) → r ≡ Ok x → r ≡ Ok y → x ≡ y
both-are r x y h k = ok-is x y (sym h ∙ k)

-- at the end no token is left
end-ok : {A : Type 0} (x : A) (s : TokenState) (left : List Placed) (y : A × TokenState) → s.left ≡ left → none_left x s left ≡ Ok y → ((x, s) ≡ y) × (s.left ≡ [])
end-ok x s [] y e h = (ok-is (x, s) y h, e)
end-ok x s (t ∷ left) y e h = absurd cc

-- or those that are left are bad
end-bad : {A : Type 0} (x : A) (s : TokenState) (left bad : List Placed) → s.left ≡ left → none_left x s left ≡ Err bad → s.left ≡ bad
end-bad x s [] bad e h = absurd cc
end-bad x s (t ∷ left) bad e h = e ∙ err-is (t ∷ left) bad h

-- no token stops all
stops-none : (cs : List Class) → Stops cs []
stops-none [] = tt
stops-none (c ∷ cs) = (refl, stops-none cs)

-- what a reading took
pub read-taken : {A : Type 0} (f : Form A) (s : TokenState) (y : A × TokenState) → reading f s ≡ Ok y → IsTaken (read (read_at (suc (length s.left))) f) (Spells spelled f) s y
read-taken f s y e =
    let n = suc (length s.left) in
    form-ok (spelled_at n) spelled (read_at n) (laws_at n) f s y (reading-at n f s (omega arith) ∙ e)

-- no more tokens are left than there were
pub left-within : {A : Type 0} (f : Form A) (s : TokenState) (y : A × TokenState) → reading f s ≡ Ok y → length y.1.left ≤ length s.left
left-within f s y e =
    let is = read-taken f s y e in
    omega (arith, ap length is.split, length-append is.used y.1.left)

-- what is written is read, before tokens that don't go on
pub written-read : {A : Type 0} (f : Form A) → is_decided f ≡ true → (x : A) (flag : Bool) (ts more : List Placed) (before : Bool) → Spells spelled f x flag ts → Stops (goes f) more
    → reading f (at (ts ++ more) before) ≡ Ok (x, at more (flag && before))
written-read f d x flag ts more before h k =
    let low = gather f x flag ts h in
    let n = low.0 + suc (length (ts ++ more)) in
    sym (reading-at n f (at (ts ++ more) before) (omega arith))
    ∙ form-reads (spelled_at n) spelled (read_at n) (laws_at n) f d x flag ts more before (raise-form low.0 n f x flag ts (omega arith) low.1) k

-- a form that is decided, and read to the last token
module _ {A : Type 0} (f : Form A) (d : is_decided f ≡ true) where
  -- tokens that write a value are read whole
  pub of-whole : (x : A) (flag : Bool) (ts : List Placed) → IsOf f x flag ts → whole f (at ts true) ≡ Ok (x, at [] flag)
  unfolding IsOf whole
  of-whole x flag ts h =
      let one : reading f (at ts true) ≡ Ok (x, at [] flag) =
      ap (λ ps. reading f (at ps true)) (sym (append-nil ts)) ∙ written-read f d x flag ts [] true h (stops-none (goes f)) ∙ ap (λ b. Ok (x, at [] b)) (and-true flag) in
      ap (λ r. go_on r ended_form) one

  -- what is read whole is written
  pub whole-of : (ts : List Placed) (y : A × TokenState) → whole f (at ts true) ≡ Ok y → (y.1.left ≡ []) × IsOf f y.0 y.1.in_range ts
  unfolding IsOf whole
  whole-of ts y e =
      let go : (r : Result (A × TokenState) (List Placed)) → reading f (at ts true) ≡ r → go_on r ended_form ≡ Ok y → (y.1.left ≡ []) × Spells spelled f y.0 y.1.in_range ts =
      elim [
        | Err bad ↦ λ h e. absurd cc
        | Ok z ↦ λ h e.
            let last = end-ok z.0 z.1 z.1.left y refl e in
            let is = read-taken f (at ts true) z h in
            let all : is.used ≡ ts = sym (is.split ∙ ap (λ ps. is.used ++ ps) last.1 ∙ append-nil is.used) in
            let flag : is.flag ≡ z.1.in_range = sym (is.ranged ∙ and-true is.flag) in
            subst (λ w. (w.1.left ≡ []) × Spells spelled f w.0 w.1.in_range ts) last.0
            (last.1, subst (λ b. Spells spelled f z.0 b ts) flag (subst (λ ps. Spells spelled f z.0 is.flag ps) all is.says))
      ] in
      go (reading f (at ts true)) refl e

  -- no tokens write two values
  pub one-value : (x y : A) (b c : Bool) (ts : List Placed) → IsOf f x b ts → IsOf f y c ts → (x ≡ y) × (b ≡ c)
  one-value x y b c ts h k =
      let first = of-whole x b ts h in
      let second = of-whole y c ts k in
      let one : A × TokenState = (x, at [] b) in
      let two : A × TokenState = (y, at [] c) in
      let same : one ≡ two = both-are (whole f (at ts true)) one two first second in
      (ap (λ p. p.0) same, ap (λ p. p.1.in_range) same)

  -- with a bad token no form goes on, whatever follows
  no-front : (good : List Placed) (p : Placed) (rest : List Placed) → ((n : ℕ) (more : List Placed) → length (good ++ p ∷ rest) < n → length (good ++ p ∷ more) < n
      → read (read_at n) f (at (good ++ p ∷ more) true) ≡ Err (p ∷ more) ⊎ ((x : A) × (b : Bool) × (read (read_at n) f (at (good ++ p ∷ more) true) ≡ Ok (x, at (p ∷ more) b))))
      → ¬ IsFront f (good ++ p ∷ [])
  unfolding IsOf
  no-front good p rest stuck front =
      let ts = good ++ p ∷ front.more in
      let e : (good ++ p ∷ []) ++ front.more ≡ ts = append_assoc good (p ∷ []) front.more in
      let is = subst (λ ps. Spells spelled f front.whole.value front.whole.flag ps) e front.whole.is in
      let n = suc (length (good ++ p ∷ rest) + length ts) in
      let gives = ap (λ ps. reading f (at ps true)) (sym (append-nil ts)) ∙ written-read f d front.whole.value front.whole.flag ts [] true is (stops-none (goes f)) in
      let down = reading-at n f (at ts true) (omega arith) in
      elim (stuck n front.more (omega arith) (omega arith)) [
        | inl bad ↦ not-both (reading f (at ts true)) (front.whole.value, at [] (front.whole.flag && true)) (p ∷ front.more) gives (sym down ∙ bad)
        | inr ok ↦
            let same : (front.whole.value, at [] (front.whole.flag && true)) ≡ (ok.0, at (p ∷ front.more) ok.1) =
            both-are (reading f (at ts true)) _ _ gives (sym down ∙ ok.2) in
            let left : [] ≡ p ∷ front.more = ap (λ w. w.1.left) same in
            absurd cc
      ]

  -- tokens that are not read to their end are none of the form
  no-form : (ts : List Placed) → ((x : A) (flag : Bool) → reading f (at ts true) ≡ Ok (x, at [] flag) → ⊥) → ¬ IsOfForm f ts
  unfolding IsOf
  no-form ts never of =
      never of.value (of.flag && true) (ap (λ ps. reading f (at ps true)) (sym (append-nil ts)) ∙ written-read f d of.value of.flag ts [] true of.is (stops-none (goes f)))

  -- where the form is stuck
  wrong-in : (ts bad good : List Placed) → ts ≡ good ++ bad → reading f (at ts true) ≡ Err bad → GoesWrong f good bad
  wrong-in ts [] good split e =
      let same : good ≡ ts = sym (split ∙ append-nil good) in
      no-form good (λ x flag h. not-both (reading f (at good true)) (x, at [] flag) [] h (ap (λ ps. reading f (at ps true)) same ∙ e))
  wrong-in ts (p ∷ rest) good split e =
      no-front good p rest (λ n more one two.
      let stuck = form-bad (spelled_at n) spelled (read_at n) (laws_at n) f d (at ts true) (p ∷ rest) (reading-at n f (at ts true) (omega (arith, ap length split, one)) ∙ e) in
      let same : stuck.good ≡ good = same-front stuck.good good (p ∷ rest) (sym stuck.split ∙ split) in
      inl (ap (λ ps. read (read_at n) f (at (ps ++ p ∷ more) true)) (sym same) ∙ stuck.again p rest more true refl))

  -- where it ended before a token
  wrong-after : (ts : List Placed) (p : Placed) (rest good : List Placed) → ts ≡ good ++ p ∷ rest → (y : A × TokenState) → reading f (at ts true) ≡ Ok y → y.1.left ≡ p ∷ rest
      → GoesWrong f good (p ∷ rest)
  wrong-after ts p rest good split y e left =
      no-front good p rest (λ n more one two.
      let is = form-ok (spelled_at n) spelled (read_at n) (laws_at n) f (at ts true) y (reading-at n f (at ts true) (omega (arith, ap length split, one)) ∙ e) in
      let same : is.used ≡ good = same-front is.used good (p ∷ rest) (ap (λ ps. is.used ++ ps) (sym left) ∙ sym is.split ∙ split) in
      let before : IsSameFront y.1.left (p ∷ more) = subst (λ ps. IsSameFront ps (p ∷ more)) (sym left) (more, refl) in
      inr (y.0, (is.flag && true), ap (λ ps. read (read_at n) f (at (ps ++ p ∷ more) true)) (sym same) ∙ is.takes (p ∷ more) true before))

  -- so it is where tokens are left
  wrong-left : (ts bad good : List Placed) → ts ≡ good ++ bad → (y : A × TokenState) → reading f (at ts true) ≡ Ok y → y.1.left ≡ bad → ended_form y.0 y.1 ≡ Err bad → GoesWrong f good bad
  wrong-left ts [] good split y e left h = absurd (not-both (none_left y.0 y.1 y.1.left) (y.0, y.1) [] (ap (none_left y.0 y.1) left) h)
  wrong-left ts (p ∷ rest) good split y e left h = wrong-after ts p rest good split y e left

  -- where the reader is stuck: in the form, or with tokens left
  stuck-parts : (ts bad : List Placed) → whole f (at ts true) ≡ Err bad → IsFirstBad f ts bad
  unfolding IsOf whole
  stuck-parts ts bad e =
      let go : (r : Result (A × TokenState) (List Placed)) → reading f (at ts true) ≡ r → go_on r ended_form ≡ Err bad → IsFirstBad f ts bad =
      elim [
        | Err left ↦ λ h e.
            let same : left ≡ bad = err-is left bad e in
            let n = suc (length ts) in
            let stuck = form-bad (spelled_at n) spelled (read_at n) (laws_at n) f d (at ts true) bad (reading-at n f (at ts true) (omega arith) ∙ h ∙ ap (λ ps. Err ps) same) in
            record {
              good = stuck.good;
              split = stuck.split;
              front = record { more = stuck.other; pieces = stuck.are; whole = record { value = stuck.value; flag = stuck.flag; is = stuck.says } };
              wrong = wrong-in ts bad stuck.good stuck.split (h ∙ ap (λ ps. Err ps) same);
            }
        | Ok z ↦ λ h e.
            let left : z.1.left ≡ bad = end-bad z.0 z.1 z.1.left bad refl e in
            let is = read-taken f (at ts true) z h in
            record {
              good = is.used;
              split = is.split ∙ ap (λ ps. is.used ++ ps) left;
              front = record { more = []; pieces = tt; whole = record { value = z.0; flag = is.flag; is = subst (λ ps. Spells spelled f z.0 is.flag ps) (sym (append-nil is.used)) is.says } };
              wrong = wrong-left ts bad is.used (is.split ∙ ap (λ ps. is.used ++ ps) left) z h left e;
            }
      ] in
      go (reading f (at ts true)) refl e

  -- the reader is stuck at the first bad token
  pub whole-first_bad : (ts bad : List Placed) → whole f (at ts true) ≡ Err bad → IsFirstBad f ts bad
  whole-first_bad ts bad e = stuck-parts ts bad e

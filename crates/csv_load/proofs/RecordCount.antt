-- How many records a text has, and that reading to its end gives them all.
use Rattle.std.proofs.Common.{◌≡◌, ◌≤◌, ◌<◌, ◌+◌, ◌-◌, ℕ, zero, suc, Bool, true, false, List, [], ◌∷◌, ◌++◌, length, Some, None, refl, sym, ap, inl, inr, arith}
use Rattle.std.specs.Prelude.{◌⊎◌, if◌then◌else◌}
use Rattle.csv.specs.Machine.{Read, next_record, step, is_end, ends_at_end, fields_after, field_after}
use Rattle.csv.specs.Reading.{Reached, records_from, strip_bom, is_bom}
use Rattle.csv.specs.declared.parser.Config.{Config}
use Rattle.csv.specs.declared.parser.State.{State}
use Rattle.csv.specs.declared.parser.State.TheVariants as st

-- a record takes bytes, or it is the last one
abbrev TakesSome : List ℕ → Read → Type 0
TakesSome text p = (length p.2 < length text) ⊎ ((p.1 ≡ st.StartRecord) × (p.2 ≡ []))

-- what is there is the same
there : {A : Type 0} (x y : A) → Some x ≡ Some y → x ≡ y
there x y e = cc

takes-some : (cfg : Config) (s : State) (fields : List (List ℕ)) (field text : List ℕ) (p : Read) → next_record cfg s fields field text ≡ Some p → TakesSome text p
unfolding next_record
takes-some cfg s fields field [] p e =
    let go : (b : Bool) → (if b then Some (fields ++ (field ∷ []), st.StartRecord, []) else None) ≡ Some p → TakesSome [] p =
    elim [
      | true ↦ λ h. let same : (fields ++ (field ∷ []), st.StartRecord, []) ≡ p = there _ p h in inr (sym (ap (λ (q : Read). q.1) same), sym (ap (λ (q : Read). q.2) same))
      | false ↦ λ h. absurd cc
    ] in
    go (ends_at_end s) e
takes-some cfg s fields field (c ∷ rest) p e =
    let go : (b : Bool) → (if b then Some (fields_after (step cfg s c).1 fields field, (step cfg s c).0, rest)
    else next_record cfg (step cfg s c).0 (fields_after (step cfg s c).1 fields field) (field_after (step cfg s c).1 c field) rest) ≡ Some p → TakesSome (c ∷ rest) p =
    elim [
      | true ↦ λ h. let same : (fields_after (step cfg s c).1 fields field, (step cfg s c).0, rest) ≡ p = there _ p h in
          inl (omega (arith, ap (λ (q : Read). length q.2) same))
      | false ↦ λ h. elim (takes-some cfg (step cfg s c).0 _ _ rest p h) [
        | inl less ↦ inl (omega (arith, less))
        | inr last ↦ inr last
      ]
    ] in
    go (is_end (step cfg s c).1) e

-- after the end of the text there is no record
none-after : (cfg : Config) (rows : List (List (List ℕ))) (s2 : State) (ys : List ℕ) → Reached cfg st.StartRecord [] rows s2 ys → rows ≡ []
unfolding Reached next_record
none-after cfg [] s2 ys h = refl
none-after cfg (r ∷ rs) s2 ys h = absurd (let e : None ≡ Some h.0 = h.1 in cc)

-- a text has at most as many records as bytes, and one more
pub reached-bound : (cfg : Config) (s : State) (xs : List ℕ) (rows : List (List (List ℕ))) (s2 : State) (ys : List ℕ) → Reached cfg s xs rows s2 ys → length rows ≤ length xs + 1
unfolding Reached
reached-bound cfg s xs [] s2 ys h = omega arith
reached-bound cfg s xs (r ∷ rs) s2 ys h =
    elim (takes-some cfg s [] [] xs h.0 h.1) [
      | inl less ↦ omega (arith, less, reached-bound cfg h.0.1 h.0.2 rs s2 ys h.3)
      | inr last ↦
          let none : rs ≡ [] = none-after cfg rs s2 ys (rw (last.0, last.1) at h.3) in
          omega (arith, ap length none)
    ]

-- the records that were read come first, and then those that are left
pub reached-records : (cfg : Config) (n : ℕ) (s : State) (xs : List ℕ) (rows : List (List (List ℕ))) (s2 : State) (ys : List ℕ) → Reached cfg s xs rows s2 ys → length rows ≤ n
    → records_from cfg n s xs ≡ rows ++ records_from cfg (n - length rows) s2 ys
unfolding Reached records_from
reached-records cfg n s xs [] s2 ys h w =
    let same : n - length {A = List (List ℕ)} [] ≡ n = omega arith in
    rw (h.0, h.1, same) refl
reached-records cfg zero s xs (r ∷ rs) s2 ys h w = absurd (omega arith)
reached-records cfg (suc n) s xs (r ∷ rs) s2 ys h w =
    let more = reached-records cfg n h.0.1 h.0.2 rs s2 ys h.3 (omega (arith, w)) in
    let same : suc n - length (r ∷ rs) ≡ n - length rs = omega arith in
    rw (h.1, same, h.2) (ap (λ (t : List (List (List ℕ))). h.0.0 ∷ t) more)

-- at the end none are left
pub none-left : (cfg : Config) (n : ℕ) (s : State) (xs : List ℕ) → next_record cfg s [] [] xs ≡ None → records_from cfg n s xs ≡ []
unfolding records_from
none-left cfg zero s xs e = refl
none-left cfg (suc n) s xs e = rw e refl

-- a mark at its start takes no room of a text
pub strip-within : (xs : List ℕ) → length (strip_bom xs) ≤ length xs
unfolding strip_bom
strip-within [] = omega arith
strip-within (a ∷ []) = omega arith
strip-within (a ∷ b ∷ []) = omega arith
strip-within (a ∷ b ∷ c ∷ rest) =
    let go : (m : Bool) → length (if m then rest else a ∷ b ∷ c ∷ rest) ≤ length (a ∷ b ∷ c ∷ rest) = elim [ true ↦ omega arith | false ↦ omega arith ] in
    go (is_bom a b c)

-- An image has one list of bodies, and one of changes.
use Rattle.std.proofs.Common.{◌≡◌, ◌≢◌, ℕ, zero, suc, ◌≤◌, List, [], ◌∷◌, ◌++◌, length, get_or, take, drop, map, refl, sym, ap, subst, ◌∙◌, arith, append_assoc, length-append, length-take}
use Rattle.std.proofs.lemmas.List.{length-map, take_at, drop_at, take-map}
use Rattle.std.specs.Int.{w32, to_be_bytes}
use Rattle.std.specs.List.{AllByRecursion}
use Rattle.sand_journal.specs.Images.{IsShort, framed, records, HasBodies, LiesBetween}
use Rattle.sand_journal.specs.ChangeBody.{ChangeValue, IsChange, body_of}
use Rattle.sand_journal.specs.Changes.{HasAtLeast}
use Rattle.sand_journal.proofs.Nexts.{framed_size}

-- a frame is the length and the body
framed_drop : (x y rest more : List ℕ) → framed x ++ rest ≡ framed y ++ more → x ++ rest ≡ y ++ more
unfolding framed
framed_drop x y rest more same = ap (λ (l : List ℕ). drop 4 l) same

framed_heads : (x y rest more : List ℕ) → framed x ++ rest ≡ framed y ++ more → framed x ++ rest ≡ to_be_bytes w32 (length y) ++ (y ++ more)
unfolding framed
framed_heads x y rest more same = same

-- two frames at the front of one list are one
pub one_framed : (x y rest more : List ℕ) → IsShort x → IsShort y → framed x ++ rest ≡ framed y ++ more → (x ≡ y) × (rest ≡ more)
one_framed x y rest more short_x short_y same =
    let sizes : length x ≡ length y = framed_size x rest (y ++ more) (length y) (framed_heads x y rest more same) short_x short_y in
    let parts = framed_drop x y rest more same in (
      sym (take_at x rest (length x) refl) ∙ ap (λ (l : List ℕ). take (length x) l) parts ∙ take_at y more (length x) (sym sizes),
      sym (drop_at x rest (length x) refl) ∙ ap (λ (l : List ℕ). drop (length x) l) parts ∙ drop_at y more (length x) (sym sizes),
    )

-- the first byte of two equal lists
same_first : (x y : ℕ) (xs ys : List ℕ) → x ∷ xs ≡ y ∷ ys → x ≡ y
same_first x y xs ys same = ap (λ (l : List ℕ). get_or l 0 0) same

one_list : (a b : List (List ℕ)) (gate other : ℕ) (behind beyond : List ℕ) → AllByRecursion IsShort a → AllByRecursion IsShort b → gate ≢ 1 → other ≢ 1
    → records a ++ gate ∷ behind ≡ records b ++ other ∷ beyond → a ≡ b
one_list [] [] gate other behind beyond short_a short_b shut shut_other same = refl
one_list [] (y ∷ b) gate other behind beyond short_a short_b shut shut_other same = absurd (shut (same_first gate 1 behind ((framed y ++ records b) ++ other ∷ beyond) same))
one_list (x ∷ a) [] gate other behind beyond short_a short_b shut shut_other same = absurd (shut_other (sym (same_first 1 other ((framed x ++ records a) ++ gate ∷ behind) beyond same)))
one_list (x ∷ a) (y ∷ b) gate other behind beyond short_a short_b shut shut_other same =
    let rests : framed x ++ (records a ++ gate ∷ behind) ≡ framed y ++ (records b ++ other ∷ beyond) =
    sym (append_assoc (framed x) (records a) (gate ∷ behind)) ∙ ap (λ (l : List ℕ). drop 1 l) same ∙ append_assoc (framed y) (records b) (other ∷ beyond) in
    let one = one_framed x y (records a ++ gate ∷ behind) (records b ++ other ∷ beyond) short_a.0 short_b.0 rests in
    ap (λ (l : List ℕ). l ∷ a) one.0 ∙ ap (λ (l : List (List ℕ)). y ∷ l) (one_list a b gate other behind beyond short_a.1 short_b.1 shut shut_other one.1)

-- an image has one list of bodies
pub one_bodies : (image : List ℕ) (a b : List (List ℕ)) → HasBodies a image → HasBodies b image → a ≡ b
one_bodies image a b has_a has_b = one_list a b has_a.gate has_b.gate has_a.behind has_b.behind has_a.short has_b.short has_a.shut has_b.shut (sym has_a.is ∙ has_b.is)

-- the first of changes are changes
all_first : (n : ℕ) (changes : List ChangeValue) → AllByRecursion IsChange changes → AllByRecursion IsChange (take n changes)
all_first zero changes all = tt
all_first (suc n) [] all = tt
all_first (suc n) (change ∷ changes) all = (all.0, all_first n changes all.1)

-- an image between the first changes and all has the first ones and may have more
pub at_least : (changes : List ChangeValue) (least : ℕ) (image : List ℕ) → AllByRecursion IsChange changes → least ≤ length changes
    → LiesBetween (map body_of (take least changes)) (map body_of changes) image → HasAtLeast least changes image
at_least changes least image all within lies =
    let count : ℕ = length lies.bodies in
    let first : lies.bodies ≡ map body_of (take count changes) =
    sym (take_at lies.bodies lies.rest count refl) ∙ ap (λ (l : List (List ℕ)). take count l) (sym lies.in_last) ∙ take-map body_of count changes in
    record {
      count = count;
      least = omega (arith, ap length lies.all_first, length-append (map body_of (take least changes)) lies.more, length-map (take least changes) body_of, length-take least changes, within);
      within = omega (arith, ap length lies.in_last, length-append lies.bodies lies.rest, length-map changes body_of);
      has = record { all = all_first count changes all; bodies = subst (λ (l : List (List ℕ)). HasBodies l image) first lies.has };
    }

-- A set within another has no more members.
use Rattle.std.proofs.Common.{◌≡◌, ◌≤◌, ◌+◌, ℕ, zero, suc, List, [], ◌∷◌, Bool, true, false, not, ◌&&◌, ◌||◌, refl, sym, ap, ◌∙◌, arith}
use Rattle.std.specs.Ordering.{nat_cmp, eq_by_cmp}
use Rattle.std.specs.Cmp.{nat_cmp_total}
use Rattle.std.specs.List.{list_any}
use Rattle.std.specs.FinSet as set
use Rattle.page_pool.specs.Disk.{NumberSet}
use Rattle.page_pool.proofs.Maps.{tie_itself}
use Rattle.page_pool.proofs.Overlay.{same_set}
use Rattle.page_pool.proofs.Sizes.{len_falls}

-- a set has no member, or one of which it is told
some_member : (s : NumberSet) (ks : List ℕ) → set.items s ≡ ks → (P : Type 0) → (set.len s ≡ 0 → P) → ((k : ℕ) → set.contains s k ≡ true → P) → P
some_member s [] is P none one =
    none (ap set.len (same_set s set.empty (λ q. set.contains-items s q ∙ ap (list_any (eq_by_cmp nat_cmp q)) is ∙ sym (set.contains-empty nat_cmp q))) ∙ set.len-empty nat_cmp)
some_member s (k ∷ ks) is P none one =
    one k (set.contains-items s k ∙ ap (list_any (eq_by_cmp nat_cmp k)) is ∙ ap (λ b. b || list_any (eq_by_cmp nat_cmp k) ks) (tie_itself k))

both : (b c d : Bool) → (b ≡ true → c ≡ true → d ≡ true) → (b && c) ≡ true → (b && d) ≡ true
both true c d h e = h refl e
both false c d h e = e

-- by so many members
within : (size : ℕ) (s t : NumberSet) → set.len s ≡ size → ((q : ℕ) → set.contains s q ≡ true → set.contains t q ≡ true) → set.len s ≤ set.len t
within zero s t is inside = let none : set.len s ≡ 0 = is in omega arith
within (suc size) s t is inside = some_member s (set.items s) refl (set.len s ≤ set.len t)
    (λ none. omega arith)
    (λ k has.
    let s_falls : set.len s ≡ set.len (set.remove s k) + 1 = len_falls s k has in
    let t_falls : set.len t ≡ set.len (set.remove t k) + 1 = len_falls t k (inside k has) in
    let less : set.len (set.remove s k) ≡ size = omega arith in
    let rest : set.len (set.remove s k) ≤ set.len (set.remove t k) = within size (set.remove s k) (set.remove t k) less (λ q there.
    set.contains-remove nat_cmp_total t k q ∙ both (not (eq_by_cmp nat_cmp q k)) (set.contains s q) (set.contains t q) (λ _ h. inside q h) (sym (set.contains-remove nat_cmp_total s k q) ∙ there)) in
    omega arith)

pub no_larger : (s t : NumberSet) → ((q : ℕ) → set.contains s q ≡ true → set.contains t q ≡ true) → set.len s ≤ set.len t
no_larger s t inside = within (set.len s) s t refl inside

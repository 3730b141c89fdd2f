-- Two values are equal exactly where the model says so.
use Rattle.std.proofs.Common.{◌≡◌, ℕ, ℤ, true, not, ◌&&◌, List, refl, sym, ◌∙◌, ap, ◌<ℤ◌, true≢false}
use Rattle.std.specs.Cmp.Lexicographic.{bytes_decides}
use Rattle.std.specs.Cmp.{int_ranks, int_chain}
use Rattle.std.specs.Int.Signed.{<ℤ_irrefl}
use Rattle.std.specs.Ordering.{int_cmp, is_lt, MatchOrdering}
use Rattle.std.specs.declared.cmp.Ordering.{Ordering}
use Rattle.std.specs.declared.cmp.Ordering.TheVariants as ordering
use Rattle.sand_base.specs.declared.value.Value.{Value}
use Rattle.sand_base.specs.declared.value.Value.TheVariants as value
use Rattle.sand_model.specs.Sources.{same_value}

-- whole numbers neither of which is less are one
pub same_int : (a b : ℤ) → (not (is_lt (int_cmp a b)) && not (is_lt (int_cmp b a))) ≡ true → a ≡ b
same_int a b h = go (int_cmp a b) refl (int_ranks a b) where
  other : (o : Ordering) → int_cmp b a ≡ o → MatchOrdering o (b <ℤ a) (b ≡ a) (a <ℤ b) → int_cmp a b ≡ ordering.Greater → b <ℤ a → a ≡ b
  other ordering.Less e r f l = absurd (true≢false (sym h ∙ rw (f, e) refl))
  other ordering.Equal e r f l = (let k : b ≡ a = r in sym k)
  other ordering.Greater e r f l = (let k : a <ℤ b = r in absurd (<ℤ_irrefl (int_chain b a b l k)))

  go : (o : Ordering) → int_cmp a b ≡ o → MatchOrdering o (a <ℤ b) (a ≡ b) (b <ℤ a) → a ≡ b
  go ordering.Less e r = absurd (true≢false (sym h ∙ rw e refl))
  go ordering.Equal e r = r
  go ordering.Greater e r = other (int_cmp b a) refl (int_ranks b a) e r

pub same_is : (a b : Value) → same_value a b ≡ true → a ≡ b
same_is (value.Int a) (value.Int b) h = ap (λ (n : ℤ). value.Int n) (same_int a b h)
same_is (value.Text a) (value.Text b) h = ap (λ (bytes : List ℕ). value.Text bytes) ((bytes_decides a b).0 h)
same_is (value.Int a) (value.Text b) h = absurd (true≢false (sym h))
same_is (value.Int a) (value.Shape b) h = absurd (true≢false (sym h))
same_is (value.Text a) (value.Int b) h = absurd (true≢false (sym h))
same_is (value.Text a) (value.Shape b) h = absurd (true≢false (sym h))
same_is (value.Shape a) b h = absurd (true≢false (sym h))

-- The bytes of a name are ASCII.
use Rattle.std.proofs.Common.{◌≡◌, ℕ, ◌<◌, Bool, true, false, ◌&&◌, List, [], ◌∷◌, sym, ap, ◌∙◌, arith}
use Rattle.std.proofs.lemmas.Bool.{and_parts}
use Rattle.std.proofs.lemmas.Bool.Decides.{nat_tests}
use Rattle.std.proofs.lemmas.Str.Ascii.{IsAscii-nil, IsAscii-cons}
use Rattle.std.specs.List.{list_all}
use Rattle.std.specs.Str.{IsAscii}
use Rattle.script_text.specs.Name.{starts_name, continues_name, is_name}

-- a byte of a name is below 128
continues-ascii : (b : ℕ) → continues_name b ≡ true → b < 128
continues-ascii b h = grind (arith, nat_tests)

starts-ascii : (b : ℕ) → starts_name b ≡ true → b < 128
starts-ascii b h = grind (arith, nat_tests)

-- so are all that go on one
all-ascii : (bytes : List ℕ) → list_all continues_name bytes ≡ true → IsAscii bytes
all-ascii [] h = IsAscii-nil
all-ascii (b ∷ bytes) h =
    let both = and_parts (continues_name b) (list_all continues_name bytes) h in
    IsAscii-cons b bytes (continues-ascii b both.0) (all-ascii bytes both.1)

-- and the bytes of a name
pub name-ascii : (bytes : List ℕ) → is_name bytes ≡ true → IsAscii bytes
name-ascii [] h = IsAscii-nil
name-ascii (b ∷ bytes) h =
    let both = and_parts (starts_name b) (list_all continues_name bytes) h in
    IsAscii-cons b bytes (starts-ascii b both.0) (all-ascii bytes both.1)

-- a name by its first byte and the others
pub name_is : (bytes rest : List ℕ) (b : ℕ) (r : Bool) → bytes ≡ b ∷ rest → starts_name b ≡ true → r ≡ list_all continues_name rest → r ≡ is_name bytes
name_is bytes rest b r is starts all = all ∙ sym (ap is_name is ∙ ap (λ (t : Bool). t && list_all continues_name rest) starts)

pub name_not : (bytes rest : List ℕ) (b : ℕ) (r : Bool) → bytes ≡ b ∷ rest → r ≡ starts_name b → r ≡ false → r ≡ is_name bytes
name_not bytes rest b r is same fails = fails ∙ sym (ap is_name is ∙ ap (λ (t : Bool). t && list_all continues_name rest) (sym same ∙ fails))

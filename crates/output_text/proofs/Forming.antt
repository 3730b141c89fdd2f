-- Texts that are formed part by part.
use Rattle.std.proofs.Common.{◌≡◌, ℕ, ◌-◌, List, [], ◌++◌, length, take, drop, Result, Ok, Err, OnErr, sym, ap, ◌∙◌, subst, append_assoc, append-nil, take-append-drop}
use Rattle.std.proofs.lemmas.List.{take_rest}
use Rattle.sand_base.specs.Streams.{Adds}
use Rattle.output_text.specs.Forming.{Forms}
use Rattle.output_text.specs.Writing.{AddsPrefix}
use Rattle.output_text.proofs.WrittenPrefix.{Adds-trans}

-- what holds anyway holds at an Err
pub on_err : {T E : Type 0} {Q : Type 0} (r : Result T E) → Q → OnErr r Q
on_err (Ok x) q = tt
on_err (Err e) q = q

-- nothing is written yet
pub Forms-held : (took : List ℕ → Type 0) (old new text : List ℕ) → new ≡ old ++ text → Forms took took old new text
Forms-held took old new text is = record {
  out = [];
  same = sym is;
  written = λ bytes taken. subst took (sym (append-nil bytes)) taken;
}

-- all that was held is written
pub Forms-flushed : (before now : List ℕ → Type 0) (old new : List ℕ) → Adds before now old → new ≡ [] → Forms before now old new []
Forms-flushed before now old new added empty = record { out = old; same = ap (λ t. old ++ t) (sym empty); written = added }

-- what was held is written, and a text behind it
pub Forms-past : (before mid now : List ℕ → Type 0) (old new text : List ℕ) → Adds before mid old → new ≡ [] → Adds mid now text
    → Forms before now old new text
Forms-past before mid now old new text first empty second = record {
  out = old ++ text;
  same = sym (append-nil (old ++ text)) ∙ ap (λ t. (old ++ text) ++ t) (sym empty);
  written = Adds-trans before mid now old text first second;
}

-- a text is formed and then another
pub Forms-then : (before mid now : List ℕ → Type 0) (old held new a b : List ℕ) → Forms before mid old held a → Forms mid now held new b
    → Forms before now old new (a ++ b)
Forms-then before mid now old held new a b first second = record {
  out = first.out ++ second.out;
  same =
      sym (append_assoc old a b) ∙ ap (λ t. t ++ b) first.same ∙ append_assoc first.out held b
      ∙ ap (λ t. first.out ++ t) second.same ∙ sym (append_assoc first.out second.out new);
  written = Adds-trans before mid now first.out second.out first.written second.written;
}

-- what was held is written, and then a prefix of a text
pub AddsPrefix-past : (before mid now : List ℕ → Type 0) (old text : List ℕ) → Adds before mid old → AddsPrefix mid now text
    → AddsPrefix before now (old ++ text)
AddsPrefix-past before mid now old text first broken = record {
  prefix = old ++ broken.prefix;
  rest = broken.rest;
  same = ap (λ t. old ++ t) broken.same ∙ sym (append_assoc old broken.prefix broken.rest);
  written = Adds-trans before mid now old broken.prefix first broken.written;
}

-- a text is formed, and then a prefix of what is held is written
pub Forms-stop : (before mid now : List ℕ → Type 0) (old held text : List ℕ) → Forms before mid old held text → AddsPrefix mid now held
    → AddsPrefix before now (old ++ text)
Forms-stop before mid now old held text first broken = record {
  prefix = first.out ++ broken.prefix;
  rest = broken.rest;
  same = first.same ∙ ap (λ t. first.out ++ t) broken.same ∙ sym (append_assoc first.out broken.prefix broken.rest);
  written = Adds-trans before mid now first.out broken.prefix first.written broken.written;
}

-- a text is formed, and then a prefix of what is held with another is written
pub Forms-broken : (before mid now : List ℕ → Type 0) (old held a b : List ℕ) → Forms before mid old held a → AddsPrefix mid now (held ++ b)
    → AddsPrefix before now (old ++ (a ++ b))
Forms-broken before mid now old held a b first broken = record {
  prefix = first.out ++ broken.prefix;
  rest = broken.rest;
  same =
      sym (append_assoc old a b) ∙ ap (λ t. t ++ b) first.same ∙ append_assoc first.out held b
      ∙ ap (λ t. first.out ++ t) broken.same ∙ sym (append_assoc first.out broken.prefix broken.rest);
  written = Adds-trans before mid now first.out broken.prefix first.written broken.written;
}

-- room was made, and a text was appended
pub Forms-more : (before now : List ℕ → Type 0) (old held new text : List ℕ) → Forms before now old held [] → new ≡ held ++ text
    → Forms before now old new text
Forms-more before now old held new text first is = record {
  out = first.out;
  same =
      ap (λ t. t ++ text) (sym (append-nil old) ∙ first.same) ∙ append_assoc first.out held text
      ∙ ap (λ t. first.out ++ t) (sym is);
  written = first.written;
}

-- a prefix of a text is a prefix of the longer text
pub AddsPrefix-more : (before now : List ℕ → Type 0) (old text more : List ℕ) → AddsPrefix before now (old ++ text)
    → AddsPrefix before now (old ++ (text ++ more))
AddsPrefix-more before now old text more broken = record {
  prefix = broken.prefix;
  rest = broken.rest ++ more;
  same = sym (append_assoc old text more) ∙ ap (λ t. t ++ more) broken.same ∙ append_assoc broken.prefix broken.rest more;
  written = broken.written;
}

-- a prefix of what was held is a prefix of it with a text
pub AddsPrefix-longer : (before now : List ℕ → Type 0) (old text : List ℕ) → AddsPrefix before now old → AddsPrefix before now (old ++ text)
AddsPrefix-longer before now old text broken = record {
  prefix = broken.prefix;
  rest = broken.rest ++ text;
  same = ap (λ t. t ++ text) broken.same ∙ append_assoc broken.prefix broken.rest text;
  written = broken.written;
}

-- the first part of a text and the rest are formed
pub Forms-both : (before mid now : List ℕ → Type 0) (old held new part left whole : List ℕ) → Forms before mid old held part
    → Forms mid now held new left → part ++ left ≡ whole → Forms before now old new whole
Forms-both before mid now old held new part left whole first second is =
    subst (Forms before now old new) is (Forms-then before mid now old held new part left first second)

-- the first part of a text broke off
pub AddsPrefix-first : (before now : List ℕ → Type 0) (old part left whole : List ℕ) → AddsPrefix before now (old ++ part)
    → part ++ left ≡ whole → AddsPrefix before now (old ++ whole)
AddsPrefix-first before now old part left whole broken is =
    subst (λ t. AddsPrefix before now (old ++ t)) is (AddsPrefix-more before now old part left broken)

-- the first part of a text is formed, and the rest broke off
pub AddsPrefix-second : (before mid now : List ℕ → Type 0) (old held part left whole : List ℕ) → Forms before mid old held part
    → AddsPrefix mid now (held ++ left) → part ++ left ≡ whole → AddsPrefix before now (old ++ whole)
AddsPrefix-second before mid now old held part left whole first broken is =
    subst (λ t. AddsPrefix before now (old ++ t)) is (Forms-broken before mid now old held part left first broken)

-- a text is its beginning and the rest
beginning-rest : (at : ℕ) (text : List ℕ) → take at text ++ take (length text - at) (drop at text) ≡ text
beginning-rest at text = ap (λ r. take at text ++ r) (take_rest text at) ∙ take-append-drop at text

-- the beginning of a text is written, and then the rest
pub rest-written : (at : ℕ) (text : List ℕ) (before mid now : List ℕ → Type 0) → Adds before mid (take at text)
    → Adds mid now (take (length text - at) (drop at text)) → Adds before now text
rest-written at text before mid now first second =
    subst (Adds before now) (beginning-rest at text) (Adds-trans before mid now (take at text) _ first second)

-- the beginning of a text is written, and the rest broke off
pub rest-broken : (at : ℕ) (text : List ℕ) (before mid now : List ℕ → Type 0) → Adds before mid (take at text)
    → AddsPrefix mid now (take (length text - at) (drop at text)) → AddsPrefix before now text
rest-broken at text before mid now first broken =
    subst (AddsPrefix before now) (beginning-rest at text) (AddsPrefix-past before mid now (take at text) _ first broken)

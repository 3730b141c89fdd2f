-- What a call that writes does to the bytes that a sink has taken, where the sink tells them: a text was written, or a prefix of one.
use Rattle.std.specs.Prelude.{◌≡◌, ℕ, List, ◌++◌}
use Rattle.sand_base.specs.Streams.{Adds}

-- a prefix of the text was written
pub record AddsPrefix (before now : List ℕ → Type 0) (text : List ℕ) : Type 0 where
  pub prefix : List ℕ
  pub rest : List ℕ
  pub same : text ≡ prefix ++ rest
  pub written : Adds before now prefix

-- a text of which P holds was written
pub record Writes (P before now : List ℕ → Type 0) : Type 0 where
  pub text : List ℕ
  pub holds : P text
  pub written : Adds before now text

-- a prefix of a text of which P holds was written
pub record WritesPrefix (P before now : List ℕ → Type 0) : Type 0 where
  pub text : List ℕ
  pub holds : P text
  pub prefix : AddsPrefix before now text

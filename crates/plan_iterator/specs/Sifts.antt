-- What a stage says of a row that it looks at before it takes it.
use Rattle.std.specs.Prelude.{ℕ, ◌+◌, ◌≤◌, Result, Ok, Err, ⊤}
use Rattle.page_pool.specs.declared.fault.PageFault.{PageFault}
use Rattle.plan_iterator.specs.declared.answer.Answer.{Answer}
use Rattle.plan_iterator.specs.declared.sifted.Sifted.{Sifted}
use Rattle.plan_iterator.specs.declared.sifted.Sifted.TheVariants.{Lost, Given, Wanted}
use Rattle.plan_iterator.specs.declared.step.Step.{Step}
use Rattle.plan_iterator.specs.declared.step.Step.TheVariants.{Row, Pass}

-- where the stage is done with the row, this holds of the step that is made of it
abbrev pub IfDone : Answer → Result Sifted PageFault → (Result Step PageFault → Type 0) → Type 0
IfDone row (Ok Lost) holds = holds (Ok Pass)
IfDone row (Ok Given) holds = holds (Ok (Row row))
IfDone row (Ok Wanted) holds = ⊤
IfDone row (Err fault) holds = ⊤

-- the page gets from before to after a look, with what is still to be done, are at most the price of the row
abbrev pub LooksPaid : Result Sifted PageFault → ℕ → ℕ → ℕ → ℕ → Type 0
LooksPaid (Ok Lost) before after owed price = after + owed ≤ before + price
LooksPaid (Ok Given) before after owed price = after + owed ≤ before + price
LooksPaid (Ok Wanted) before after owed price = ⊤
LooksPaid (Err fault) before after owed price = after ≤ before + price

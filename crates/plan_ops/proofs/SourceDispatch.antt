-- What holds of the source that a source of any kind is holds of it.
use Rattle.std.proofs.Common.{◌≡◌, Option, Result, IfSome, sym, subst}
use Rattle.page_pool.specs.Desk.{DeskState}
use Rattle.page_pool.specs.declared.fault.PageFault.{PageFault}
use Rattle.sand_model.specs.Database.{Database}
use Rattle.statements.specs.Plan.{Plan}
use Rattle.sand_model.specs.Taken.{Taken}
use Rattle.best_first.specs.Visits.{told_pages}
use Rattle.plan_iterator.specs.Rows.{counts_of}
use Rattle.plan_iterator.specs.Prices.{Costs}
use Rattle.plan_iterator.specs.SourceSteps.{SourceStep}
use Rattle.plan_iterator.specs.declared.answer.Answer.{Answer}
use Rattle.plan_ops.specs.Sources.{source_at, source_seen, source_heights, source_step_price, source_owed}
use Rattle.plan_ops.specs.declared.source.Source.{Source}

-- the clauses, as facts of the source before the call

abbrev pub Ready : DeskState → Source → Type 0
Ready desk s = IfSome (told_pages desk) (λ pages. (d : Database) × ((p : Plan) × ((t : Taken) × source_at s pages d p t)))

abbrev pub Stepped : DeskState → DeskState → Source → Result (Option Answer) PageFault → Source → Type 0
Stepped desk later after result s =
    IfSome (told_pages desk) (λ pages. (d : Database) (p : Plan) (t : Taken) → source_at s pages d p t
    → SourceStep pages d p t (counts_of (source_seen s)) (counts_of (source_seen after)) desk later result (source_at after pages d p))

abbrev pub HasHeights : Source → Source → Type 0
HasHeights after s = source_heights after ≡ source_heights s

abbrev pub HasStepPrice : Source → Source → Type 0
HasStepPrice after s = source_step_price after ≡ source_step_price s

abbrev pub Paid : DeskState → DeskState → Source → Result (Option Answer) PageFault → Source → Type 0
Paid desk later after result s =
    IfSome (told_pages desk) (λ pages. (d : Database) (p : Plan) (t : Taken) → source_at s pages d p t
    → Costs (source_heights s) (source_step_price s) (source_owed s pages) (source_owed after pages) d p desk later result)

-- the source that it is

pub of_kind : (X : Source → Type 0) (s kind : Source) → s ≡ kind → X kind → X s
of_kind X s kind e h = subst X (sym e) h

pub to_kind : (X : Source → Type 0) (s kind : Source) → s ≡ kind → X s → X kind
to_kind X s kind e h = subst X e h

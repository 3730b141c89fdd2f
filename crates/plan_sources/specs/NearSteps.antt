-- What a call of a source by an R-tree does, over pages that the disk tells.
use Rattle.std.specs.Prelude.{ℕ, List, Option, Result}
use Rattle.page_pool.specs.Desk.{DeskState}
use Rattle.page_pool.specs.Disk.{PageMap}
use Rattle.page_pool.specs.declared.fault.PageFault.{PageFault}
use Rattle.sand_model.specs.Database.{Database}
use Rattle.sand_model.specs.Taken.{Taken}
use Rattle.statements.specs.Plan.{Plan}
use Rattle.plan_iterator.specs.Prices.{Costs}
use Rattle.plan_iterator.specs.Rows.{counts_of}
use Rattle.plan_iterator.specs.SourceSteps.{SourceStep}
use Rattle.plan_iterator.specs.declared.answer.Answer.{Answer}
use Rattle.plan_sources.specs.NearPlans.{HasTakenNear, near_heights, geometries_seen}
use Rattle.plan_sources.specs.NodesRead.{HasReadNodes, ReadsNodesOnce}
use Rattle.plan_sources.specs.declared.near_source.NearSource.{NearSource}

-- so much was taken of the plan by this source
abbrev pub IsNearAt : NearSource → PageMap → Database → Plan → Taken → Type 0
IsNearAt s pages d p t = HasTakenNear s.search.hierarchy pages s.search.frontier.queue.items s.search.frontier.last s.search.frontier.counts d p t

-- so far the source has read the nodes in these pages
abbrev pub HasReadSoFar : NearSource → PageMap → List ℕ → Type 0
HasReadSoFar s pages read = HasReadNodes s.search.hierarchy pages s.search.frontier.queue.items s.search.frontier.last read

-- what a call gives and visits, however much was taken before
abbrev pub StepsNear : NearSource → NearSource → DeskState → DeskState → Result (Option Answer) PageFault → PageMap → Type 0
StepsNear s s' desk desk' result pages =
    (d : Database) (p : Plan) (t : Taken) → IsNearAt s pages d p t
    → SourceStep pages d p t (counts_of (geometries_seen s.search.frontier.counts)) (counts_of (geometries_seen s'.search.frontier.counts)) desk desk' result (IsNearAt s' pages d p)

-- a step costs no get beside its visits
abbrev pub no_step_price : NearSource → ℕ
no_step_price s = 0

-- what a call costs
abbrev pub CostsNear : NearSource → NearSource → DeskState → DeskState → Result (Option Answer) PageFault → PageMap → Type 0
CostsNear s s' desk desk' result pages =
    (d : Database) (p : Plan) (t : Taken) → IsNearAt s pages d p t → Costs (near_heights s.search.hierarchy) 0 0 0 d p desk desk' result

-- the source completes no visit of a node that it has read before
abbrev pub ReadsNoNodeTwice : NearSource → NearSource → DeskState → DeskState → Result (Option Answer) PageFault → PageMap → Type 0
ReadsNoNodeTwice s s' desk desk' result pages =
    (d : Database) (p : Plan) (t : Taken) → IsNearAt s pages d p t
    → (read : List ℕ) → HasReadSoFar s pages read → ReadsNodesOnce (HasReadSoFar s' pages) read desk desk' result

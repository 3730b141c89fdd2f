-- A filter and a fetch of the tests and places that were looked up.
use Rattle.std.proofs.Common.{◌≡◌, List, [], ◌++◌, sym, ◌∙◌, ap, subst, Box, Global}
use Rattle.page_pool.specs.Disk.{PageMap}
use Rattle.statements.specs.declared.column.Place.{Place}
use Rattle.statements.specs.declared.plan.Plan as declared
use Rattle.statements.specs.declared.plan.Plan.{Plan}
use Rattle.statements.specs.declared.test.Test.{Test}
use Rattle.sand_model.specs.Database.{Database}
use Rattle.sand_model.specs.Operators.{relations_of}
use Rattle.statements.specs.Plan as model
use Rattle.statements.specs.Plan.{plan_value}
use Rattle.plan_names.specs.declared.spot.Spot.{Spot}
use Rattle.plan_stages.specs.Fetches.{AreSpots, FetchStands}
use Rattle.plan_stages.specs.Filters.{FilterStands}
use Rattle.plan_stages.specs.Tests.{AreTests}
use Rattle.plan_stages.specs.declared.fetch.Fetch.{Fetch}
use Rattle.plan_stages.specs.declared.filter.Filter.{Filter}
use Rattle.plan_stages.specs.declared.tests.SpotTest.{SpotTest}
use Rattle.plan_ops.proofs.Added.{SpotsAdded, TestsAdded}

module _ (pages : PageMap) (d : Database) (below : Box Plan Global) (p q : Plan) (same : q ≡ below.value) where
  pub filter_begun : (s : Filter) (tests seen : List Test) (old items : List SpotTest) → p ≡ declared.Filter below tests → seen ≡ tests → old ≡ []
      → TestsAdded d (relations_of (plan_value q)) pages old items seen
      → ((m : PageMap) (e : Database) (beneath : model.Plan) (asked : List Test) → AreTests e (relations_of beneath) m items asked → FilterStands s m e (model.Filter beneath asked) [] [])
      → FilterStands s pages d (plan_value p) [] []
  filter_begun s tests seen old items is seen_is none added make =
      let whole : items ≡ added.0 = added.1.0 ∙ ap (λ (l : List SpotTest). l ++ added.0) none in
      let here : AreTests d (relations_of (plan_value q)) pages items seen = subst (λ (l : List SpotTest). AreTests d (relations_of (plan_value q)) pages l seen) (sym whole) added.1.1 in
      let among : AreTests d (relations_of (plan_value below.value)) pages items seen = subst (λ (x : Plan). AreTests d (relations_of (plan_value x)) pages items seen) same here in
      let all : AreTests d (relations_of (plan_value below.value)) pages items tests = subst (λ (ts : List Test). AreTests d (relations_of (plan_value below.value)) pages items ts) seen_is among in
      subst (λ (x : Plan). FilterStands s pages d (plan_value x) [] []) (sym is) (make pages d (plan_value below.value) tests all)

  pub fetch_begun : (s : Fetch) (places seen : List Place) (old items : List Spot) → p ≡ declared.Fetch below places → seen ≡ places → old ≡ []
      → SpotsAdded d (relations_of (plan_value q)) pages old items seen
      → ((m : PageMap) (e : Database) (beneath : model.Plan) (asked : List Place) → AreSpots e (relations_of beneath) m items asked → FetchStands s m e (model.Fetch beneath asked) [] [])
      → FetchStands s pages d (plan_value p) [] []
  fetch_begun s places seen old items is seen_is none added make =
      let whole : items ≡ added.0 = added.1.0 ∙ ap (λ (l : List Spot). l ++ added.0) none in
      let here : AreSpots d (relations_of (plan_value q)) pages items seen = subst (λ (l : List Spot). AreSpots d (relations_of (plan_value q)) pages l seen) (sym whole) added.1.1 in
      let among : AreSpots d (relations_of (plan_value below.value)) pages items seen = subst (λ (x : Plan). AreSpots d (relations_of (plan_value x)) pages items seen) same here in
      let all : AreSpots d (relations_of (plan_value below.value)) pages items places = subst (λ (ps : List Place). AreSpots d (relations_of (plan_value below.value)) pages items ps) seen_is among in
      subst (λ (x : Plan). FetchStands s pages d (plan_value x) [] []) (sym is) (make pages d (plan_value below.value) places all)

use Rattle.std.proofs.Common.{◌≡◌, ◌≤◌, ◌+◌, ◌&&◌, sym, ap, subst, ◌∙◌, arith}
use Rattle.std.specs.FinMap as map
use Rattle.std.specs.FinSet as set
use Rattle.sand_base.specs.Faults.{last_count}
use Rattle.page_pool.specs.Pool.{map_sizes}
use Rattle.page_pool.specs.Inside.{count_upto, overlaid, staged_shared}
use Rattle.page_pool.proofs.Sums.{few_kept_images}
use Rattle.page_pool.proofs.Numbered.{live_counted, shared_counted, saturated, saturated_least, saturated_most, within_sizes}
use Rattle.page_pool.proofs.pool.Pool.places.Goals as goal

-- the live pages, the replaced images that are seen, and those that are about to be replaced
pub returns-clause-places : goal.returns-clause-places
returns-clause-places g c =
    let live : c.count_live-live.result ≡ map.len (overlaid c.self.inside.staged.changes c.self.inside.archive.pages) =
    c.count_live-live.ensures ∙ ap (λ s. count_upto (map.contains_key s.pages) c.top-top.result) (sym c.self.view_is)
    ∙ ap (count_upto (map.contains_key (overlaid c.self.inside.staged.changes c.self.inside.archive.pages))) c.top-top.ensures
    ∙ sym (live_counted c.self.inside.archive c.self.inside.staged.changes c.self.inside.frames c.self.inside.numbers c.self.inside.is_open c.self.invariant) in
    let waiting : c.count_shared-waiting.result ≡ set.len (staged_shared c.self.inside.archive.shared c.self.inside.staged.changes) = c.count_shared-waiting.ensures
    ∙ ap (count_upto (λ n. set.contains c.self.inside.archive.shared n && map.contains_key c.self.inside.staged.changes n)) c.top-top.ensures
    ∙ sym (shared_counted c.self.inside.archive c.self.inside.staged.changes c.self.inside.frames c.self.inside.numbers c.self.inside.is_open c.self.invariant) in
    let all : c.args.self.now.places ≡ c.count_live-live.result + (c.seen_count-replaced.result + c.count_shared-waiting.result) = ap (λ s. s.places) (sym c.self.view_is)
    ∙ (λ i. sym live i + (sym c.seen_count-replaced.ensures i + sym waiting i)) in
    saturated c.count_live-live.result c.seen_count-replaced.result c.count_shared-waiting.result c.args.self.now.places c.saturating_add.result c.saturating_add-2.result last_count c.saturating_add.ensures c.saturating_add-2.ensures all

-- the live pages are no more than the numbers
pub returns-clause-least : goal.returns-clause-least
returns-clause-least g c =
    let live : c.count_live-live.result ≡ map.len (overlaid c.self.inside.staged.changes c.self.inside.archive.pages) =
    c.count_live-live.ensures ∙ ap (λ s. count_upto (map.contains_key s.pages) c.top-top.result) (sym c.self.view_is)
    ∙ ap (count_upto (map.contains_key (overlaid c.self.inside.staged.changes c.self.inside.archive.pages))) c.top-top.ensures
    ∙ sym (live_counted c.self.inside.archive c.self.inside.staged.changes c.self.inside.frames c.self.inside.numbers c.self.inside.is_open c.self.invariant) in
    let same : map.len c.args.self.now.pages ≡ c.count_live-live.result = ap (λ s. map.len s.pages) (sym c.self.view_is) ∙ sym live in
    let fits = c.count_live-live.type_inv in
    let low : c.count_live-live.result ≤ last_count = omega arith in
    let least : c.count_live-live.result ≤ c.saturating_add-2.result =
    saturated_least c.count_live-live.result c.seen_count-replaced.result c.count_shared-waiting.result c.saturating_add.result c.saturating_add-2.result last_count c.saturating_add.ensures c.saturating_add-2.ensures low in
    omega arith

-- the images that are kept for stamps are in their maps
pub returns-clause-most : goal.returns-clause-most
returns-clause-most g c =
    let live : c.count_live-live.result ≡ map.len (overlaid c.self.inside.staged.changes c.self.inside.archive.pages) =
    c.count_live-live.ensures ∙ ap (λ s. count_upto (map.contains_key s.pages) c.top-top.result) (sym c.self.view_is)
    ∙ ap (count_upto (map.contains_key (overlaid c.self.inside.staged.changes c.self.inside.archive.pages))) c.top-top.ensures
    ∙ sym (live_counted c.self.inside.archive c.self.inside.staged.changes c.self.inside.frames c.self.inside.numbers c.self.inside.is_open c.self.invariant) in
    let waiting : c.count_shared-waiting.result ≡ set.len (staged_shared c.self.inside.archive.shared c.self.inside.staged.changes) = c.count_shared-waiting.ensures
    ∙ ap (count_upto (λ n. set.contains c.self.inside.archive.shared n && map.contains_key c.self.inside.staged.changes n)) c.top-top.ensures
    ∙ sym (shared_counted c.self.inside.archive c.self.inside.staged.changes c.self.inside.frames c.self.inside.numbers c.self.inside.is_open c.self.invariant) in
    let few : c.self.inside.archive.seen + set.len (staged_shared c.self.inside.archive.shared c.self.inside.staged.changes) ≤ map_sizes c.args.self.now.stamps 16 =
    subst (λ stamps. c.self.inside.archive.seen + set.len (staged_shared c.self.inside.archive.shared c.self.inside.staged.changes) ≤ map_sizes stamps 16)
    (ap (λ s. s.stamps) c.self.view_is) (few_kept_images c.self.inside.archive c.self.inside.staged.changes c.self.invariant.archived) in
    let most : c.saturating_add-2.result ≤ c.count_live-live.result + (c.seen_count-replaced.result + c.count_shared-waiting.result) =
    saturated_most c.count_live-live.result c.seen_count-replaced.result c.count_shared-waiting.result c.saturating_add.result c.saturating_add-2.result last_count c.saturating_add.ensures c.saturating_add-2.ensures in
    within_sizes c.saturating_add-2.result c.count_live-live.result c.seen_count-replaced.result c.count_shared-waiting.result (map.len c.args.self.now.pages) c.self.inside.archive.seen
    (set.len (staged_shared c.self.inside.archive.shared c.self.inside.staged.changes)) (map_sizes c.args.self.now.stamps 16) most
    (live ∙ ap (λ s. map.len s.pages) c.self.view_is) c.seen_count-replaced.ensures waiting few

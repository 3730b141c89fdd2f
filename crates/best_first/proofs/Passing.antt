-- What calls leave to the next one: the pages, the causes of refusals, and where a search stands.
use Rattle.std.proofs.Common.{◌≡◌, List, ◌++◌, Bool, false, Contains, Option, None, Some, IfSome, if◌then◌else◌, Err, ⊎_elim, sym, ap, ap₂, ◌∙◌, subst, Ordering, Equal}
use Rattle.std.specs.Cmp.{IsTotalOrder}
use Rattle.sand_base.specs.declared.visit.Visit.{Visit}
use Rattle.page_pool.specs.Disk.{PageMap}
use Rattle.page_pool.specs.Pool.{PoolState}
use Rattle.page_pool.specs.Desk.{DeskState}
use Rattle.page_pool.specs.Reads.{IsRead}
use Rattle.page_pool.specs.Steps.{IsRead-refl, IsRead-trans}
use Rattle.page_pool.specs.Causes.{HasPageCause, failures_at, failures_of}
use Rattle.page_pool.specs.declared.fault.PageFault.{PageFault}
use Rattle.rank_queue.specs.Least.{IsFirst}
use Rattle.best_first.specs.declared.hit.Hit.{Hit}
use Rattle.best_first.specs.declared.item.Item.{Item}
use Rattle.best_first.specs.declared.item.Item.TheVariants.{Node, Rough, Row}
use Rattle.best_first.specs.Item.{row_item}
use Rattle.best_first.specs.Hierarchy.{Meaning}
use Rattle.best_first.specs.Order.{item_cmp, item_total}
use Rattle.best_first.specs.OrderLaws.{kind_cmp}
use Rattle.best_first.specs.Frontier.{StandsOver}
use Rattle.best_first.specs.Visits.{told_pages, SearchState, IsVisit, Goes, Fails}
use Rattle.best_first.specs.Steps.{IsSettled}
use Rattle.best_first.proofs.Bags.{none}
use Rattle.best_first.proofs.Ranks.{alike_kind}
use Rattle.best_first.proofs.Queues.{both_first}
use Rattle.best_first.proofs.Journeys.{stays, goes_both, goes_fails}

pub read_itself : (s : PoolState) → IsRead s s
read_itself s = IsRead-refl s

pub read_both : (a b c : PoolState) → IsRead a b → IsRead b c → IsRead a c
read_both a b c p q = IsRead-trans a b c p q

pub told_read : (old new : DeskState) → IsRead old.pool new.pool → told_pages new ≡ told_pages old
told_read old new r = ap₂ (λ (t : Bool) (p : PageMap). if t then Some p else None) r.told r.pages

-- a refusal has its cause in the whole call where the calls before it were accepted
pub cause_later : {T U : Type 0} (old mid new : PoolState) (fault : PageFault) → failures_of mid ≡ failures_of old → HasPageCause {T = T} mid new (Err fault) → HasPageCause {T = U} old new (Err fault)
cause_later old mid new fault e h = record { counted = h.counted ∙ ap (λ n. failures_at n fault) e; damaged = h.damaged }

pub all_over : (pages : Option PageMap) (C : PageMap → Type 0) → ((p : PageMap) → C p) → IfSome pages C
all_over None C f = tt
all_over (Some p) C f = f p

visit_kind : {N : Type 0} (cmp : N → N → Ordering) (front : Item N) (hit : Hit) → IsVisit front → kind_cmp cmp front (row_item hit) ≡ Equal → ⊥
visit_kind cmp (Node gap node) hit v e = cc
visit_kind cmp (Rough gap l r) hit v e = cc
visit_kind cmp (Row gap l r) hit v e = v

-- where a node or a rough object is at the front, no row is
pub not_settled : {N : Type 0} {cmp : N → N → Ordering} → IsTotalOrder cmp → (front : Item N) (held : List (Item N)) → IsVisit front → IsFirst (item_cmp cmp) front held
    → IsSettled (item_cmp cmp) held → ⊥
not_settled {N} {cmp} o front held visit first settled =
    ⊎_elim
    (λ empty. none front (subst (λ l. Contains l front) empty first.queued))
    (λ (hit, row). visit_kind cmp front hit visit (alike_kind cmp front (row_item hit)
    (both_first (item_total o) front (row_item hit)
    (Rattle.std.proofs.lemmas.List.Elements.All-contains (λ y. Rattle.std.specs.Ordering.is_gt (item_cmp cmp front y) ≡ false) held (row_item hit) first.least row.queued)
    (Rattle.std.proofs.lemmas.List.Elements.All-contains (λ y. Rattle.std.specs.Ordering.is_gt (item_cmp cmp (row_item hit) y) ≡ false) held front row.least first.queued))))
    settled

module _ {N : Type 0} (cmp : N → N → Ordering) (meaning : PageMap → Meaning N) (note : Item N → Visit) where
  pub stays_over : (pages : Option PageMap) (s : SearchState N) → IfSome pages (λ p. Goes cmp (meaning p) note s s)
  stays_over pages s = all_over pages (λ p. Goes cmp (meaning p) note s s) (λ p. stays (meaning p) note s)

  -- a search stands where it went
  pub stands_over : (pages : Option PageMap) (old new : SearchState N) → IfSome pages (λ p. StandsOver cmp (meaning p) old.held old.last)
      → IfSome pages (λ p. Goes cmp (meaning p) note old new) → IfSome pages (λ p. StandsOver cmp (meaning p) new.held new.last)
  stands_over None old new s h = tt
  stands_over (Some p) old new (laws, (done, s)) h = let makes = h done s in (laws, (done ++ makes.taken, makes.stands))

  -- and after a refused step too
  pub stands_cut : (pages : Option PageMap) (old new : SearchState N) → IfSome pages (λ p. StandsOver cmp (meaning p) old.held old.last)
      → IfSome pages (λ p. Fails cmp (meaning p) note old new) → IfSome pages (λ p. StandsOver cmp (meaning p) new.held new.last)
  stands_cut None old new s h = tt
  stands_cut (Some p) old new (laws, (done, s)) h = let cut = h done s in (laws, (done ++ cut.makes.taken, cut.makes.stands))

  pub goes_over : (pages : Option PageMap) (old mid new : SearchState N) → IfSome pages (λ p. Goes cmp (meaning p) note old mid)
      → IfSome pages (λ p. Goes cmp (meaning p) note mid new) → IfSome pages (λ p. Goes cmp (meaning p) note old new)
  goes_over None old mid new a b = tt
  goes_over (Some p) old mid new a b = goes_both (meaning p) note old mid new a b

  pub fails_over : (pages : Option PageMap) (old mid new : SearchState N) → IfSome pages (λ p. Goes cmp (meaning p) note old mid)
      → IfSome pages (λ p. Fails cmp (meaning p) note mid new) → IfSome pages (λ p. Fails cmp (meaning p) note old new)
  fails_over None old mid new a b = tt
  fails_over (Some p) old mid new a b = goes_fails (meaning p) note old mid new a b

-- a step of a loop over a search: it stands, over the desk as it is now, and its number fell
pub row_goes : {N H : Type 0} (cmp : N → N → Ordering) (meaning : H → PageMap → Meaning N) (old_desk new_desk : DeskState) (old_hierarchy new_hierarchy : H) (held : List (Item N)) (last : Option Hit)
    → IsRead old_desk.pool new_desk.pool → new_hierarchy ≡ old_hierarchy → IfSome (told_pages old_desk) (λ p. StandsOver cmp (meaning old_hierarchy p) held last)
    → IfSome (told_pages new_desk) (λ p. StandsOver cmp (meaning new_hierarchy p) held last)
row_goes cmp meaning old_desk new_desk old_hierarchy new_hierarchy held last read same stands =
    subst (λ t. IfSome t (λ p. StandsOver cmp (meaning new_hierarchy p) held last)) (sym (told_read old_desk new_desk read))
    (subst (λ h. IfSome (told_pages old_desk) (λ p. StandsOver cmp (meaning h p) held last)) (sym same) stands)

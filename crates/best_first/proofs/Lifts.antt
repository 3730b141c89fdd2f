-- The steps of a search over a desk: what holds over each map of pages holds over the desk's, where its disk tells them.
use Rattle.std.proofs.Common.{◌≡◌, ℕ, ◌+◌, min, List, [], ◌∷◌, ◌++◌, true, false, Contains, IsPermutation, Option, None, Some, IfSome, Result, Ok, Err, IsErr}
use Rattle.std.proofs.Common.{MatchResult, inr, refl, sym, subst, Ordering, arith}
use Rattle.std.specs.Ordering.{is_gt}
use Rattle.std.specs.List.{AllZip}
use Rattle.std.specs.Cmp.{IsTotalOrder}
use Rattle.std.proofs.lemmas.List.Elements.{All-contains, All-weaker}
use Rattle.std.proofs.lemmas.List.Sorted.{IsPermutation-sym, Contains-permutation}
use Rattle.exact_frac.specs.declared.frac.Frac.{Frac}
use Rattle.sand_base.specs.Faults.{last_count}
use Rattle.sand_base.specs.declared.visit.Visit.{Visit}
use Rattle.page_pool.specs.Disk.{PageMap}
use Rattle.page_pool.specs.Desk.{DeskState}
use Rattle.rank_queue.specs.Least.{IsFirst, IsLeastItem}
use Rattle.best_first.specs.declared.hit.Hit.{Hit}
use Rattle.best_first.specs.declared.item.Item.{Item}
use Rattle.best_first.specs.declared.item.Item.TheVariants.{Node, Rough}
use Rattle.best_first.specs.Item.{gap_of, IsAlike}
use Rattle.best_first.specs.Reach.{IsSameGap, IsAtMost, within}
use Rattle.best_first.specs.Hierarchy.{Meaning, MeetsLaws, IsExact, FindsAlike, HasGap, HasRow, IsNode, IsRoughListed, kept}
use Rattle.best_first.specs.Order.{item_cmp, item_total}
use Rattle.best_first.specs.Frontier.{StandsOver}
use Rattle.best_first.specs.Visits.{SearchState, Noted, Attempts, RoseBy, IsVisit, Goes, Fails}
use Rattle.best_first.specs.Inside.{TakesEqual, AddsRow}
use Rattle.best_first.proofs.Bags.{here, All-right}
use Rattle.best_first.proofs.Ranks.{alike_node, upto_far}
use Rattle.best_first.proofs.Queues.{popped_first, least_rest}
use Rattle.best_first.proofs.Moves.{queued_node, queued_rough, opened, fetched, attempted}

-- a popped item that is one with a node is the node, under some gap
pub popped_node : {N : Type 0} {cmp : N → N → Ordering} → IsTotalOrder cmp → IsExact cmp → (gap : Frac) (node : N) (x : Item N) (old new : List (Item N))
    → IsFirst (item_cmp cmp) (Node gap node) old → IsPermutation old (x ∷ new) → IsLeastItem (item_cmp cmp) x new → (far : Frac) × (x ≡ Node far node)
popped_node {N} {cmp} o exact gap node x old new first taken least =
    let (far, (other, is, tied)) = alike_node cmp gap node x (popped_first (item_total o) (Node gap node) x old new first taken least) in
    (far, subst (λ n. x ≡ Node far n) (sym (exact node other tied)) is)

-- a visit that was noted, though the step was refused after it
pub noted_attempt : {N : Type 0} (note : Item N → Visit) (price : Item N → ℕ) (item : Item N) (old new : DeskState) → Noted note price (item ∷ []) old new → Attempts note price item old new
noted_attempt note price item old new h = record { tried = item ∷ []; few = inr refl; noted = h }

pub over_one : (pages : Option PageMap) (A C : PageMap → Type 0) → ((p : PageMap) → A p → C p) → IfSome pages A → IfSome pages C
over_one None A C f a = tt
over_one (Some p) A C f a = f p a

pub over_two : (pages : Option PageMap) (A B C : PageMap → Type 0) → ((p : PageMap) → A p → B p → C p) → IfSome pages A → IfSome pages B → IfSome pages C
over_two None A B C f a b = tt
over_two (Some p) A B C f a b = f p a b

module _ {N : Type 0} {cmp : N → N → Ordering} (o : IsTotalOrder cmp) (meaning : PageMap → Meaning N) (note : Item N → Visit) where
  -- what an expansion of a queued node asks
  pub node_asks : (pages : Option PageMap) (held : List (Item N)) (last : Option Hit) (gap : Frac) (node : N) → Contains held (Node gap node)
      → IfSome pages (λ p. StandsOver cmp (meaning p) held last) → IfSome pages (λ p. MeetsLaws (meaning p) × IsNode (meaning p) node × IsSameGap gap ((meaning p).gap node))
  node_asks pages held last gap node at stands =
      over_one pages (λ p. StandsOver cmp (meaning p) held last) (λ p. MeetsLaws (meaning p) × IsNode (meaning p) node × IsSameGap gap ((meaning p).gap node))
      (λ p (laws, (done, h)). let q = queued_node o (meaning p) laws note held done last gap node h at in (laws, q.0, q.1)) stands

  -- what a fetch of a queued rough object asks
  pub rough_asks : (pages : Option PageMap) (held : List (Item N)) (last : Option Hit) (gap : Frac) (left right : ℕ) → Contains held (Rough gap left right)
      → IfSome pages (λ p. StandsOver cmp (meaning p) held last) → IfSome pages (λ p. MeetsLaws (meaning p) × IsRoughListed (meaning p) left right)
  rough_asks pages held last gap left right at stands =
      over_one pages (λ p. StandsOver cmp (meaning p) held last) (λ p. MeetsLaws (meaning p) × IsRoughListed (meaning p) left right)
      (λ p (laws, (done, h)). (laws, queued_rough o (meaning p) laws note held done last gap left right h at)) stands

  -- a step was refused, and the frontier stays
  pub refused : (pages : Option PageMap) (old new : SearchState N) (front : Item N) → IsVisit front → IsFirst (item_cmp cmp) front old.held → new.held ≡ old.held
      → new.last ≡ old.last → new.counts ≡ old.counts → IfSome pages (λ p. StandsOver cmp (meaning p) old.held old.last)
      → IfSome pages (λ p. Attempts note (meaning p).price front old.desk new.desk) → IfSome pages (λ p. Fails cmp (meaning p) note old new)
  refused pages old new front visit first held last counts stands tries =
      over_two pages (λ p. StandsOver cmp (meaning p) old.held old.last) (λ p. Attempts note (meaning p).price front old.desk new.desk) (λ p. Fails cmp (meaning p) note old new)
      (λ p (laws, _) t. attempted o (meaning p) laws note old new front visit first.queued first.least held last counts t) stands tries

  -- a step was refused after its visit was noted
  pub refused_later : (pages : Option PageMap) (old new : SearchState N) (front : Item N) → IsVisit front → IsFirst (item_cmp cmp) front old.held → new.held ≡ old.held
      → new.last ≡ old.last → new.counts ≡ old.counts → IfSome pages (λ p. StandsOver cmp (meaning p) old.held old.last)
      → IfSome pages (λ p. Noted note (meaning p).price (front ∷ []) old.desk new.desk) → IfSome pages (λ p. Fails cmp (meaning p) note old new)
  refused_later pages old new front visit first held last counts stands noted =
      refused pages old new front visit first held last counts stands
      (over_one pages (λ p. Noted note (meaning p).price (front ∷ []) old.desk new.desk) (λ p. Attempts note (meaning p).price front old.desk new.desk)
      (λ p n. noted_attempt note (meaning p).price front old.desk new.desk n) noted)

  -- a node was opened
  pub opens : (pages : Option PageMap) (old new : SearchState N) (x : Item N) (rest found : List (Item N)) (ceiling : Option ℕ) (gap far : Frac) (node : N)
      → IsFirst (item_cmp cmp) (Node gap node) old.held → x ≡ Node far node → IsPermutation old.held (x ∷ rest) → IsLeastItem (item_cmp cmp) x rest
      → IsPermutation (kept (within ceiling) found ++ rest) new.held → ((p : PageMap) → ceiling ≡ (meaning p).ceiling) → new.last ≡ old.last
      → new.counts.visited ≡ min (old.counts.visited + 1) last_count → new.counts.fetched ≡ old.counts.fetched
      → IfSome pages (λ p. StandsOver cmp (meaning p) old.held old.last) → IfSome pages (λ p. FindsAlike ((meaning p).finds node) [] found)
      → IfSome pages (λ p. Noted note (meaning p).price (Node gap node ∷ []) old.desk new.desk) → IfSome pages (λ p. RoseBy 1 old.desk new.desk) → IfSome pages (λ p. Goes cmp (meaning p) note old new)
  opens None old new x rest found ceiling gap far node first is taken least put caps last visited fetches stands finds noted rose = tt
  opens (Some p) old new x rest found ceiling gap far node first is taken least put caps last visited fetches (laws, (done, h)) finds noted rose =
      let m = meaning p in
      let at : Contains old.held (Node far node) = subst (Contains old.held) is (Contains-permutation (x ∷ rest) old.held x (IsPermutation-sym old.held (x ∷ rest) taken) (here x rest)) in
      let gaps = All-right (HasGap m) done old.held h.tracks.gaps in
      let alike : AllZip IsAlike found (m.finds node) = subst (λ l. AllZip IsAlike l (m.finds node)) (sym finds.adds) finds.alike in
      opened o m laws note old new rest found gap far node alike first.queued
      (subst (λ y. IsPermutation old.held (y ∷ rest)) is taken)
      (subst (λ c. IsPermutation (kept (within c) found ++ rest) new.held) (caps p) put)
      (All-weaker (λ item. is_gt (item_cmp cmp (Node gap node) item) ≡ false) (λ item. IsAtMost gap (gap_of item)) (λ item e. upto_far cmp (Node gap node) item e) rest
      (least_rest (item_total o) (Node gap node) x old.held rest first.least taken))
      (All-contains (HasGap m) old.held (Node far node) gaps at) last noted rose visited fetches

  -- a rough object was fetched
  pub fetches : (pages : Option PageMap) (old new : SearchState N) (mid : List (Item N)) (ceiling : Option ℕ) (gap : Frac) (hit : Hit)
      → IsFirst (item_cmp cmp) (Rough gap hit.left hit.right) old.held → TakesEqual (item_cmp cmp) (Rough gap hit.left hit.right) old.held mid
      → AddsRow ceiling gap hit mid new.held → ((p : PageMap) → ceiling ≡ (meaning p).ceiling) → new.last ≡ old.last → new.counts.visited ≡ old.counts.visited
      → new.counts.fetched ≡ min (old.counts.fetched + 1) last_count
      → IfSome pages (λ p. StandsOver cmp (meaning p) old.held old.last) → IfSome pages (λ p. HasRow (meaning p) hit)
      → IfSome pages (λ p. (g : Frac) → Noted note (meaning p).price (Rough g hit.left hit.right ∷ []) old.desk new.desk) → IfSome pages (λ p. Goes cmp (meaning p) note old new)
  fetches None old new mid ceiling gap hit first taken adds caps last visited counts stands listed noted = tt
  fetches (Some p) old new mid ceiling gap hit first taken adds caps last visited counts (laws, (done, h)) listed noted =
      fetched o (meaning p) laws note old new (taken.first ∷ taken.more) mid adds.added gap hit listed first.queued taken.equal
      (subst (λ c. Rattle.best_first.specs.Inside.AddsFetched c gap hit adds.added) (caps p) adds.adds) taken.split adds.put taken.after last (noted gap)
      (let up = (noted gap).up in omega arith) visited counts

-- what is tried of a rough object, at the gap under which it stood
pub tries_at : {N : Type 0} (pages : Option PageMap) (meaning : PageMap → Meaning N) (note : Item N → Visit) (gap : Frac) (left right : ℕ) (old new : DeskState)
    → IfSome pages (λ p. (g : Frac) → Attempts note (meaning p).price (Rough g left right) old new) → IfSome pages (λ p. Attempts note (meaning p).price (Rough gap left right) old new)
tries_at pages meaning note gap left right old new h =
    over_one pages (λ p. (g : Frac) → Attempts note (meaning p).price (Rough g left right) old new) (λ p. Attempts note (meaning p).price (Rough gap left right) old new) (λ p t. t gap) h

-- what a refusal that `?` passes on says
pub err_case : {T E : Type 0} (r : Result T E) (P : T → Type 0) (Q : Type 0) → IsErr r → Q → MatchResult r P (λ _. Q)
err_case (Ok x) P Q h q = absurd (let e : false ≡ true = h in cc)
err_case (Err e) P Q h q = q

-- The steps of a search: an expansion, a fetch, an attempt in vain, and the answers of a call.
use Rattle.std.proofs.Common.{◌≡◌, ℕ, ◌+◌, min, List, [], ◌∷◌, ◌++◌, length, true, false, All, Contains, IsPermutation, Option, None, Some, Ok, Err, ⊎_elim, refl, sym}
use Rattle.std.proofs.Common.{ap, subst, append-nil, arith, Ordering, Equal}
use Rattle.std.specs.Ordering.{is_gt}
use Rattle.std.specs.List.{AllZip}
use Rattle.std.specs.Cmp.{IsTotalOrder}
use Rattle.std.proofs.lemmas.List.Elements.{All-contains, All-append, All-nil, All-weaker, Contains-append_left, Contains-append_right}
use Rattle.exact_frac.specs.declared.frac.Frac.{Frac}
use Rattle.sand_base.specs.Faults.{last_count}
use Rattle.sand_base.specs.declared.visit.Visit.{Visit}
use Rattle.page_pool.specs.declared.fault.PageFault.{PageFault}
use Rattle.best_first.specs.declared.hit.Hit.{Hit}
use Rattle.best_first.specs.declared.item.Item.{Item}
use Rattle.best_first.specs.declared.item.Item.TheVariants.{Node, Rough}
use Rattle.best_first.specs.Item.{gap_of, row_item, nodes_of, roughs_of, IsAlike}
use Rattle.best_first.specs.Reach.{IsSameGap, IsAtMost, within}
use Rattle.best_first.specs.Hierarchy.{Meaning, MeetsLaws, HasGap, HasRow, IsNode, IsRoughListed, kept}
use Rattle.best_first.specs.Answer.{IsNext}
use Rattle.best_first.specs.Order.{item_cmp}
use Rattle.best_first.specs.Frontier.{Stands, Tracks, IsAfter, IsListed, pending}
use Rattle.best_first.specs.Visits.{SearchState, Noted, Attempts, RoseBy, IsCounted, IsVisit, Goes, Fails, MakesVisits}
use Rattle.best_first.specs.Inside.{AddsFetched}
use Rattle.best_first.proofs.Bags.{All-by, All-left, All-right, All-one}
use Rattle.best_first.proofs.Trees.{rough_among}
use Rattle.best_first.proofs.Pending.{queued_pending, split_node}
use Rattle.best_first.proofs.Ranks.{upto_far, alike_rough}
use Rattle.best_first.proofs.Alikes.{is_found, alike_cmp}
use Rattle.best_first.proofs.RowsToCome.{opened_covers, fetched_covers, given_covers, within_row}
use Rattle.best_first.proofs.Tracked.{opened_tracks}
use Rattle.best_first.proofs.Replaced.{IsRowWithin, replaced}
use Rattle.best_first.proofs.WithinReach.{reached_row, reached_end}
use Rattle.best_first.proofs.Journeys.{counted_node, counted_rough}

module _ {N : Type 0} {cmp : N → N → Ordering} (o : IsTotalOrder cmp) (m : Meaning N) (laws : MeetsLaws m) (note : Item N → Visit) where
  -- ---- what a queued item is

  -- a queued node is a node of the tree, under its gap
  pub tracked_node : (held done : List (Item N)) (gap : Frac) (node : N) → Tracks cmp m held done → Contains held (Node gap node) → IsNode m node × IsSameGap gap (m.gap node)
  tracked_node held done gap node t at =
      let is = All-contains (HasGap m) held (Node gap node) (All-right (HasGap m) done held t.gaps) at in
      let inside = All-contains (λ item. within m.ceiling (gap_of item) ≡ true) held (Node gap node) (All-right (λ item. within m.ceiling (gap_of item) ≡ true) done held t.inside) at in
      ((split_node m laws (nodes_of done) (pending m held) t.split node (Contains-append_right (nodes_of done) (pending m held) node (queued_pending m laws held gap node at is inside))).0, is)

  -- and so where the search stands
  pub queued_node : (held done : List (Item N)) (last : Option Hit) (gap : Frac) (node : N) → Stands cmp m held last done → Contains held (Node gap node) → IsNode m node × IsSameGap gap (m.gap node)
  queued_node held done last gap node h at = tracked_node held done gap node h.tracks at

  -- a queued rough object is listed by a leaf of the tree
  pub tracked_rough : (held done : List (Item N)) (gap : Frac) (left right : ℕ) → Tracks cmp m held done → Contains held (Rough gap left right) → IsRoughListed m left right
  tracked_rough held done gap left right t at =
      let from = All-contains (IsListed m done) (roughs_of done ++ roughs_of held) (Rough gap left right) t.listed
      (Contains-append_right (roughs_of done) (roughs_of held) (Rough gap left right) (rough_among held gap left right at)) in
      let rough = alike_rough cmp gap left right from.other (alike_cmp o (Rough gap left right) from.other from.alike) in
      record {
        leaf = from.leaf;
        node = (split_node m laws (nodes_of done) (pending m held) t.split from.leaf (Contains-append_left (nodes_of done) (pending m held) from.leaf from.opened)).0;
        gap = rough.0;
        listed = subst (Contains (m.finds from.leaf)) rough.1 from.listed;
      }

  -- and so where the search stands
  pub queued_rough : (held done : List (Item N)) (last : Option Hit) (gap : Frac) (left right : ℕ) → Stands cmp m held last done → Contains held (Rough gap left right) → IsRoughListed m left right
  queued_rough held done last gap left right h at = tracked_rough held done gap left right h.tracks at

  -- ---- steps

  -- a node is opened
  pub opened : (old new : SearchState N) (rest items : List (Item N)) (gap near : Frac) (a : N) → AllZip IsAlike items (m.finds a) → Contains old.held (Node gap a)
      → IsPermutation old.held (Node near a ∷ rest) → IsPermutation (kept (within m.ceiling) items ++ rest) new.held → All (λ item. IsAtMost gap (gap_of item)) rest
      → IsSameGap near (m.gap a) → new.last ≡ old.last
      → Noted note m.price (Node gap a ∷ []) old.desk new.desk → RoseBy 1 old.desk new.desk → new.counts.visited ≡ min (old.counts.visited + 1) last_count
      → new.counts.fetched ≡ old.counts.fetched → Goes cmp m note old new
  opened old new rest items gap near a alike asked taken put far is last noted rose visited fetched done h =
      let says = is_found m laws a items alike in
      record {
        taken = Node gap a ∷ [];
        noted = noted;
        rose = rose;
        stands = record {
          covers = opened_covers o m laws old.held rest new.held new.last near a items says is taken put (subst (λ l. Rattle.best_first.specs.Frontier.Covers cmp m old.held l) (sym last) h.covers);
          tracks = opened_tracks o m laws old.held rest new.held done gap near a items says asked taken put far h.tracks;
        };
        visits = All-one IsVisit (Node gap a) tt;
        tried = All-nil (Contains new.held);
        nearer = All-nil (λ item. All (λ other. IsAtMost (gap_of item) (gap_of other)) new.held);
        counted = counted_node done gap a old.counts new.counts visited fetched;
      }

  -- a rough object is fetched
  pub fetched : (old new : SearchState N) (gone rest added : List (Item N)) (gap : Frac) (hit : Hit) → HasRow m hit → Contains old.held (Rough gap hit.left hit.right)
      → All (λ item. item_cmp cmp (Rough gap hit.left hit.right) item ≡ Equal) gone → AddsFetched m.ceiling gap hit added → IsPermutation old.held (gone ++ rest)
      → IsPermutation (added ++ rest) new.held → All (IsAfter cmp (Rough gap hit.left hit.right)) rest → new.last ≡ old.last
      → Noted note m.price (Rough gap hit.left hit.right ∷ []) old.desk new.desk → RoseBy 0 old.desk new.desk → new.counts.visited ≡ old.counts.visited
      → new.counts.fetched ≡ min (old.counts.fetched + 1) last_count → Goes cmp m note old new
  fetched old new gone rest added gap hit listed at alike adds taken put after last noted rose visited counts done h =
      let front : Item N = Rough gap hit.left hit.right in
      let says = λ (item : Item N) (i : Contains added item). (let s : (item ≡ row_item hit) × IsAtMost gap hit.gap × (within m.ceiling hit.gap ≡ true) =
      All-contains (λ x. (x ≡ row_item hit) × IsAtMost gap hit.gap × (within m.ceiling hit.gap ≡ true)) added item adds.only i in s) in
      record {
        taken = front ∷ [];
        noted = noted;
        rose = rose;
        stands = record {
          covers = fetched_covers o m laws old.held gone rest added new.held new.last gap hit listed at alike adds taken put
              (subst (λ l. Rattle.best_first.specs.Frontier.Covers cmp m old.held l) (sym last) h.covers);
          tracks = replaced o m old.held gone rest added new.held done front refl at alike taken put
              (All-append (IsAfter cmp front) added rest
              (All-by (IsAfter cmp front) added (λ item i.
              subst (IsAfter cmp front) (sym (says item i).0) (Rattle.best_first.proofs.Ranks.tie_after cmp front (row_item hit) (says item i).1 refl))) after)
              (All-by (IsRowWithin m.ceiling) added (λ item i. subst (IsRowWithin m.ceiling) (sym (says item i).0) (record { no_node = refl; no_rough = refl; inside = (says item i).2 })))
              h.tracks;
        };
        visits = All-one IsVisit front tt;
        tried = All-nil (Contains new.held);
        nearer = All-nil (λ item. All (λ other. IsAtMost (gap_of item) (gap_of other)) new.held);
        counted = counted_rough done gap hit.left hit.right old.counts new.counts visited counts;
      }

  -- a visit of the front was noted or nothing was, and the frontier stays
  pub attempted : (old new : SearchState N) (front : Item N) → IsVisit front → Contains old.held front → All (λ item. is_gt (item_cmp cmp front item) ≡ false) old.held
      → new.held ≡ old.held → new.last ≡ old.last → new.counts ≡ old.counts → Attempts note m.price front old.desk new.desk → Fails cmp m note old new
  attempted old new front visit at least same_held same_last same_counts tries done h =
      let one = λ (P : Item N → Type 0) (p : P front). (let all : All P tries.tried =
      ⊎_elim (λ e. subst (All P) (sym e) (All-nil P)) (λ e. subst (All P) (sym e) (All-one P front p)) tries.few in all) in
      record {
        attempt = tries.tried;
        makes = record {
          taken = [];
          noted = tries.noted;
          rose = let up = tries.noted.up in omega arith;
          stands = subst (λ l. Stands cmp m l new.last (done ++ [])) (sym same_held)
              (subst (λ l. Stands cmp m old.held l (done ++ [])) (sym same_last) (subst (Stands cmp m old.held old.last) (sym (append-nil done)) h));
          visits = one IsVisit visit;
          tried = one (Contains new.held) (subst (λ l. Contains l front) (sym same_held) at);
          nearer = one (λ item. All (λ other. IsAtMost (gap_of item) (gap_of other)) new.held)
              (subst (All (λ other. IsAtMost (gap_of front) (gap_of other))) (sym same_held)
              (All-weaker (λ item. is_gt (item_cmp cmp front item) ≡ false) (λ other. IsAtMost (gap_of front) (gap_of other)) (λ item e. upto_far cmp front item e) old.held least));
          counted = λ c. subst (IsCounted (done ++ [])) (sym same_counts) (subst (λ d. IsCounted d old.counts) (sym (append-nil done)) c);
        };
        few = ⊎_elim (λ e. let n : length tries.tried ≡ 0 = ap length e in omega arith) (λ e. let n : length tries.tried ≡ 1 = ap length e in omega arith) tries.few;
      }

  -- ---- the answers of a call

  -- the row at the front is given, after more was taken
  pub gives_row : (old mid new : SearchState N) (gone : List (Item N)) (hit : Hit) → Goes cmp m note old mid → Contains mid.held (row_item hit)
      → All (λ item. is_gt (item_cmp cmp (row_item hit) item) ≡ false) mid.held → All (λ item. item_cmp cmp (row_item hit) item ≡ Equal) gone
      → All (IsAfter cmp (row_item hit)) new.held → IsPermutation mid.held (gone ++ new.held) → new.last ≡ Some hit → new.counts ≡ mid.counts → new.desk ≡ mid.desk
      → MakesVisits cmp m note old new (Ok (Some hit))
  gives_row old mid new gone hit goes at least alike after taken last counts desk done h =
      let makes = goes done h in
      let all = done ++ makes.taken in
      let covers = given_covers o m laws mid.held gone new.held mid.last hit at alike after taken makes.stands.covers in
      let tracks = subst (Rattle.best_first.specs.Frontier.Tracks cmp m new.held) (append-nil all)
      (replaced o m mid.held gone new.held [] new.held all (row_item hit) refl at alike taken (Rattle.std.proofs.lemmas.List.Sorted.IsPermutation-refl new.held) after
      (All-nil (IsRowWithin m.ceiling)) makes.stands.tracks) in
      record {
        attempt = [];
        makes = record {
          taken = makes.taken;
          noted = subst (Noted note m.price (makes.taken ++ []) old.desk) (sym desk) makes.noted;
          rose = subst (RoseBy (length (nodes_of makes.taken)) old.desk) (sym desk) makes.rose;
          stands = record { covers = subst (Rattle.best_first.specs.Frontier.Covers cmp m new.held) (sym last) covers; tracks = tracks };
          visits = makes.visits;
          tried = All-nil (Contains new.held);
          nearer = All-nil (λ item. All (λ other. IsAtMost (gap_of item) (gap_of other)) new.held);
          counted = λ c. subst (IsCounted all) (sym counts) (makes.counted c);
        };
        bounds = record {
          settled = refl;
          near = All-by (λ item. IsAtMost (gap_of item) hit.gap) all
              (λ k i. All-contains (λ item. IsAtMost (gap_of k) (gap_of item)) mid.held (row_item hit)
              (All-contains (λ k. All (λ item. IsAtMost (gap_of k) (gap_of item)) mid.held) all k makes.stands.tracks.nearer i) at);
          reached = reached_row o m laws mid.held all hit at least makes.stands.tracks;
        };
      }

  -- nothing is queued, after more was taken
  pub gives_none : (old new : SearchState N) → Goes cmp m note old new → new.held ≡ [] → MakesVisits cmp m note old new (Ok None)
  gives_none old new goes empty done h =
      let makes = goes done h in
      record { attempt = []; makes = makes; bounds = record { settled = refl; reached = reached_end o m laws new.held (done ++ makes.taken) empty makes.stands.tracks } }

  -- a step was refused, after more was taken
  pub gives_fault : (old new : SearchState N) (fault : PageFault) → Fails cmp m note old new → new.last ≡ old.last → MakesVisits cmp m note old new (Err fault)
  gives_fault old new fault fails last done h =
      let cut = fails done h in
      let all = done ++ cut.makes.taken in
      let tracks = cut.makes.stands.tracks in
      record {
        attempt = cut.attempt;
        makes = cut.makes;
        bounds = record {
          few = cut.few;
          near = λ hit next.
              let near = λ (k : Item N) (far : All (λ item. IsAtMost (gap_of k) (gap_of item)) new.held).
              within_row o m laws new.held new.last hit (gap_of k) (subst (λ l. IsNext m l hit) (sym last) next) (All-right (HasGap m) all new.held tracks.gaps) far cut.makes.stands.covers in
              All-append (λ item. IsAtMost (gap_of item) hit.gap) all cut.attempt
              (All-weaker (λ k. All (λ item. IsAtMost (gap_of k) (gap_of item)) new.held) (λ item. IsAtMost (gap_of item) hit.gap) near all tracks.nearer)
              (All-weaker (λ k. All (λ item. IsAtMost (gap_of k) (gap_of item)) new.held) (λ item. IsAtMost (gap_of item) hit.gap) near cut.attempt cut.makes.nearer);
          inside =
              All-append (λ item. within m.ceiling (gap_of item) ≡ true) all cut.attempt (All-left (λ item. within m.ceiling (gap_of item) ≡ true) all new.held tracks.inside)
              (All-weaker (Contains new.held) (λ item. within m.ceiling (gap_of item) ≡ true)
              (λ k i. All-contains (λ item. within m.ceiling (gap_of item) ≡ true) new.held k
              (All-right (λ item. within m.ceiling (gap_of item) ≡ true) all new.held tracks.inside) i) cut.attempt cut.makes.tried);
        };
      }

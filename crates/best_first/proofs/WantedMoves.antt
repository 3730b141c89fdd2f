-- The steps of a search for the wanted left ids, one after another, and the answers of a call.
use Rattle.std.proofs.Common.{◌≡◌, ℕ, ◌+◌, min, Bool, true, false, not, ◌&&◌, List, [], ◌∷◌, ◌++◌, length, All, Contains, IsPermutation, None, Some, Ok, Err, ⊎_elim}
use Rattle.std.proofs.Common.{refl, sym, ap, ◌∙◌, subst, append-nil, append_assoc, length-append, arith, Ordering, Equal}
use Rattle.std.specs.Prelude.{nat_eq}
use Rattle.std.specs.Ordering.{is_gt}
use Rattle.std.specs.List.{AllZip}
use Rattle.std.specs.Cmp.{IsTotalOrder}
use Rattle.std.proofs.lemmas.Bool.{and_parts, eq-eqb}
use Rattle.std.proofs.lemmas.List.Elements.{All-contains, All-append, All-nil, All-weaker}
use Rattle.exact_frac.specs.declared.frac.Frac.{Frac}
use Rattle.sand_base.specs.Faults.{last_count}
use Rattle.sand_base.specs.declared.visit.Visit.{Visit}
use Rattle.page_pool.specs.declared.fault.PageFault.{PageFault}
use Rattle.best_first.specs.declared.hit.Hit.{Hit}
use Rattle.best_first.specs.declared.item.Item.{Item}
use Rattle.best_first.specs.declared.item.Item.TheVariants.{Node, Rough, Row}
use Rattle.best_first.specs.Item.{gap_of, row_item, nodes_of, IsAlike}
use Rattle.best_first.specs.Reach.{IsSameGap, IsAtMost, within}
use Rattle.best_first.specs.Hierarchy.{Meaning, MeetsLaws, HasRow, kept}
use Rattle.best_first.specs.Order.{item_cmp}
use Rattle.best_first.specs.Frontier.{IsAfter}
use Rattle.best_first.specs.Visits.{SearchState, Noted, Attempts, RoseBy, IsCounted, IsVisit}
use Rattle.best_first.specs.Wanted.{wanted_of, StandsFor, MakesFor, AddsFor, GoesFor, FailsFor, MakesWantedVisits, wants_after}
use Rattle.best_first.proofs.Bags.{only, All-by, All-left, All-right, All-one}
use Rattle.best_first.proofs.Pending.{nodes-append}
use Rattle.best_first.proofs.Ranks.{upto_far, alike_row}
use Rattle.best_first.proofs.WithinReach.{reached_row, reached_end}
use Rattle.best_first.proofs.Journeys.{noted_none, noted_both, rose_none, rose_both, counted_node, counted_rough}
use Rattle.best_first.proofs.WantedRows.{opened_for, fetched_for, left_for, within_wanted}

-- ---- calls one after another

module _ {N : Type 0} {cmp : N → N → Ordering} (m : Meaning N) (note : Item N → Visit) (wants : ℕ → Bool) where
  -- a call that takes nothing, and leaves desk and counts as they are
  pub still_for : (less : ℕ → Bool) (done : List (Item N)) (old new : SearchState N) → new.desk ≡ old.desk → new.counts ≡ old.counts → StandsFor cmp m less new.held done
      → MakesFor cmp m note less done old new []
  still_for less done old new desk counts h = record {
    taken = [];
    noted = subst (Noted note m.price [] old.desk) (sym desk) (noted_none note m.price old.desk);
    rose = subst (RoseBy 0 old.desk) (sym desk) (rose_none old.desk);
    stands = subst (StandsFor cmp m less new.held) (sym (append-nil done)) h;
    visits = All-nil IsVisit;
    tried = All-nil (Contains new.held);
    nearer = All-nil (λ item. All (λ other. IsAtMost (gap_of item) (gap_of other)) new.held);
    counted = λ c. subst (IsCounted (done ++ [])) (sym counts) (subst (λ d. IsCounted d old.counts) (sym (append-nil done)) c);
  }

  -- no call at all
  pub stays_for : (s : SearchState N) → GoesFor cmp m note wants s s
  stays_for s done h = still_for wants done s s refl refl h

  -- what a second call makes, after a first one with nothing attempted in vain
  pub makes_both_for : (less : ℕ → Bool) (done : List (Item N)) (old mid new : SearchState N) (first : MakesFor cmp m note wants done old mid []) (attempt : List (Item N))
      → MakesFor cmp m note less (done ++ first.taken) mid new attempt → MakesFor cmp m note less done old new attempt
  makes_both_for less done old mid new first attempt second =
      let regroup = append_assoc done first.taken second.taken in
      record {
        taken = first.taken ++ second.taken;
        noted = subst (λ l. Noted note m.price l old.desk new.desk) (ap (λ l. l ++ (second.taken ++ attempt)) (append-nil first.taken)
            ∙ sym (append_assoc first.taken second.taken attempt)) (noted_both note m.price (first.taken ++ []) (second.taken ++ attempt) old.desk mid.desk new.desk first.noted second.noted);
        rose = subst (λ n. RoseBy n old.desk new.desk) (sym (ap length (nodes-append first.taken second.taken) ∙ length-append (nodes_of first.taken) (nodes_of second.taken)))
            (rose_both (length (nodes_of first.taken)) (length (nodes_of second.taken)) old.desk mid.desk new.desk first.rose second.rose);
        stands = subst (StandsFor cmp m less new.held) regroup second.stands;
        visits = subst (All IsVisit) (sym (append_assoc first.taken second.taken attempt))
            (All-append IsVisit first.taken (second.taken ++ attempt) (All-left IsVisit first.taken [] first.visits) second.visits);
        tried = second.tried;
        nearer = second.nearer;
        counted = λ c. subst (λ d. IsCounted d new.counts) regroup (second.counted (first.counted c));
      }

  -- more was taken, and then more
  pub goes_both_for : (old mid new : SearchState N) → GoesFor cmp m note wants old mid → GoesFor cmp m note wants mid new → GoesFor cmp m note wants old new
  goes_both_for old mid new p q done h = let first = p done h in makes_both_for wants done old mid new first [] (q (done ++ first.taken) first.stands)

  -- more was taken, and then a step was refused
  pub goes_fails_for : (old mid new : SearchState N) → GoesFor cmp m note wants old mid → FailsFor cmp m note wants mid new → FailsFor cmp m note wants old new
  goes_fails_for old mid new p q done h =
      let first = p done h in
      let second = q (done ++ first.taken) first.stands in
      record { attempt = second.attempt; makes = makes_both_for wants done old mid new first second.attempt second.makes; few = second.few }

-- ---- the steps

module _ {N : Type 0} {cmp : N → N → Ordering} (o : IsTotalOrder cmp) (m : Meaning N) (laws : MeetsLaws m) (note : Item N → Visit) (wants : ℕ → Bool) where
  -- a node is opened
  pub opened_goes : (old new : SearchState N) (rest items : List (Item N)) (gap near : Frac) (a : N) → AllZip IsAlike items (wanted_of wants (m.finds a))
      → Contains old.held (Node gap a) → IsPermutation old.held (Node near a ∷ rest) → IsPermutation (kept (within m.ceiling) items ++ rest) new.held
      → All (λ item. IsAtMost gap (gap_of item)) rest → IsSameGap near (m.gap a)
      → Noted note m.price (Node gap a ∷ []) old.desk new.desk → RoseBy 1 old.desk new.desk → new.counts.visited ≡ min (old.counts.visited + 1) last_count
      → new.counts.fetched ≡ old.counts.fetched → GoesFor cmp m note wants old new
  opened_goes old new rest items gap near a alike asked taken put far is noted rose visited fetched done h = record {
    taken = Node gap a ∷ [];
    noted = noted;
    rose = rose;
    stands = opened_for o m laws wants old.held rest new.held done gap near a items alike asked is taken put far h;
    visits = All-one IsVisit (Node gap a) tt;
    tried = All-nil (Contains new.held);
    nearer = All-nil (λ item. All (λ other. IsAtMost (gap_of item) (gap_of other)) new.held);
    counted = counted_node done gap a old.counts new.counts visited fetched;
  }

  -- a rough object is fetched
  pub fetched_goes : (old new : SearchState N) (gone rest : List (Item N)) (gap : Frac) (hit : Hit) → HasRow m hit → Contains old.held (Rough gap hit.left hit.right)
      → All (λ item. item_cmp cmp (Rough gap hit.left hit.right) item ≡ Equal) gone → IsPermutation old.held (gone ++ rest) → All (IsAfter cmp (Rough gap hit.left hit.right)) rest
      → AddsFor wants m.ceiling gap hit rest new.held → Noted note m.price (Rough gap hit.left hit.right ∷ []) old.desk new.desk → RoseBy 0 old.desk new.desk
      → new.counts.visited ≡ old.counts.visited → new.counts.fetched ≡ min (old.counts.fetched + 1) last_count → GoesFor cmp m note wants old new
  fetched_goes old new gone rest gap hit listed at alike taken after adds noted rose visited counts done h = record {
    taken = Rough gap hit.left hit.right ∷ [];
    noted = noted;
    rose = rose;
    stands = fetched_for o m laws wants old.held gone rest new.held done gap hit listed at alike taken after adds h;
    visits = All-one IsVisit (Rough gap hit.left hit.right) tt;
    tried = All-nil (Contains new.held);
    nearer = All-nil (λ item. All (λ other. IsAtMost (gap_of item) (gap_of other)) new.held);
    counted = counted_rough done gap hit.left hit.right old.counts new.counts visited counts;
  }

  -- a row whose left id isn't wanted leaves
  pub left_goes : (old new : SearchState N) (gap : Frac) (left right : ℕ) → wants left ≡ false → IsPermutation old.held (Row gap left right ∷ new.held)
      → new.desk ≡ old.desk → new.counts ≡ old.counts → GoesFor cmp m note wants old new
  left_goes old new gap left right out taken desk counts done h =
      still_for m note wants wants done old new desk counts
      (left_for o m laws wants old.held (Row gap left right ∷ []) new.held done wants taken
      (λ item at. (gap, left, right, (sym (only (Row gap left right) item at), out))) (λ id e. e) h)

  -- a visit of the front was noted or nothing was, and the frontier stays
  pub attempted_fails : (old new : SearchState N) (front : Item N) → IsVisit front → Contains old.held front → All (λ item. is_gt (item_cmp cmp front item) ≡ false) old.held
      → new.held ≡ old.held → new.counts ≡ old.counts → Attempts note m.price front old.desk new.desk → FailsFor cmp m note wants old new
  attempted_fails old new front visit at least same_held same_counts tries done h =
      let one = λ (P : Item N → Type 0) (p : P front). (let all : All P tries.tried =
      ⊎_elim (λ e. subst (All P) (sym e) (All-nil P)) (λ e. subst (All P) (sym e) (All-one P front p)) tries.few in all) in
      record {
        attempt = tries.tried;
        makes = record {
          taken = [];
          noted = tries.noted;
          rose = let up = tries.noted.up in omega arith;
          stands = subst (λ l. StandsFor cmp m wants l (done ++ [])) (sym same_held) (subst (StandsFor cmp m wants old.held) (sym (append-nil done)) h);
          visits = one IsVisit visit;
          tried = one (Contains new.held) (subst (λ l. Contains l front) (sym same_held) at);
          nearer = one (λ item. All (λ other. IsAtMost (gap_of item) (gap_of other)) new.held)
              (subst (All (λ other. IsAtMost (gap_of front) (gap_of other))) (sym same_held)
              (All-weaker (λ item. is_gt (item_cmp cmp front item) ≡ false) (λ other. IsAtMost (gap_of front) (gap_of other)) (λ item e. upto_far cmp front item e) old.held least));
          counted = λ c. subst (IsCounted (done ++ [])) (sym same_counts) (subst (λ d. IsCounted d old.counts) (sym (append-nil done)) c);
        };
        few = ⊎_elim (λ e. let n : length tries.tried ≡ 0 = ap length e in omega arith) (λ e. let n : length tries.tried ≡ 1 = ap length e in omega arith) tries.few;
      }

  -- ---- the answers of a call

  -- the row at the front is given, after more was taken
  pub row_given_for : (old mid new : SearchState N) (gone : List (Item N)) (hit : Hit) → GoesFor cmp m note wants old mid → Contains mid.held (row_item hit)
      → All (λ item. is_gt (item_cmp cmp (row_item hit) item) ≡ false) mid.held → All (λ item. item_cmp cmp (row_item hit) item ≡ Equal) gone
      → IsPermutation mid.held (gone ++ new.held) → new.counts ≡ mid.counts → new.desk ≡ mid.desk → MakesWantedVisits cmp m note wants old new (Ok (Some hit))
  row_given_for old mid new gone hit goes at least alike taken counts desk done h =
      let makes = goes done h in
      let all = done ++ makes.taken in
      let less = wants_after wants (Ok (Some hit)) in
      let tracks = makes.stands.tracks in
      let out : less hit.left ≡ false = ap (λ b. not b && wants hit.left) (eq-eqb hit.left hit.left refl) in
      let stands = left_for o m laws wants mid.held gone new.held all less taken
      (λ item i. let (far, is) = alike_row cmp hit.gap hit.left hit.right item (All-contains (λ x. item_cmp cmp (row_item hit) x ≡ Equal) gone item alike i) in
      (far, hit.left, hit.right, (is, out))) (λ id e. (and_parts (not (nat_eq id hit.left)) (wants id) e).1) makes.stands in
      record {
        attempt = [];
        makes = record {
          taken = makes.taken;
          noted = subst (Noted note m.price (makes.taken ++ []) old.desk) (sym desk) makes.noted;
          rose = subst (RoseBy (length (nodes_of makes.taken)) old.desk) (sym desk) makes.rose;
          stands = stands;
          visits = makes.visits;
          tried = All-nil (Contains new.held);
          nearer = All-nil (λ item. All (λ other. IsAtMost (gap_of item) (gap_of other)) new.held);
          counted = λ c. subst (IsCounted all) (sym counts) (makes.counted c);
        };
        bounds = record {
          settled = refl;
          near = All-by (λ item. IsAtMost (gap_of item) hit.gap) all
              (λ k i. All-contains (λ item. IsAtMost (gap_of k) (gap_of item)) mid.held (row_item hit)
              (All-contains (λ k. All (λ item. IsAtMost (gap_of k) (gap_of item)) mid.held) all k tracks.nearer i) at);
          reached = reached_row o m laws mid.held all hit at least tracks;
        };
      }

  -- nothing is queued, after more was taken
  pub none_given_for : (old new : SearchState N) → GoesFor cmp m note wants old new → new.held ≡ [] → MakesWantedVisits cmp m note wants old new (Ok None)
  none_given_for old new goes empty done h =
      let makes = goes done h in
      record { attempt = []; makes = makes; bounds = record { settled = refl; reached = reached_end o m laws new.held (done ++ makes.taken) empty makes.stands.tracks } }

  -- a step was refused, after more was taken
  pub fault_given_for : (old new : SearchState N) (fault : PageFault) → FailsFor cmp m note wants old new → MakesWantedVisits cmp m note wants old new (Err fault)
  fault_given_for old new fault fails done h =
      let cut = fails done h in
      let all = done ++ cut.makes.taken in
      let stands = cut.makes.stands in
      let tracks = stands.tracks in
      record {
        attempt = cut.attempt;
        makes = cut.makes;
        bounds = record {
          few = cut.few;
          near = λ hit first.
              let near = λ (k : Item N) (far : All (λ item. IsAtMost (gap_of k) (gap_of item)) new.held). within_wanted o m laws wants new.held all hit (gap_of k) first far stands in
              All-append (λ item. IsAtMost (gap_of item) hit.gap) all cut.attempt
              (All-weaker (λ k. All (λ item. IsAtMost (gap_of k) (gap_of item)) new.held) (λ item. IsAtMost (gap_of item) hit.gap) near all tracks.nearer)
              (All-weaker (λ k. All (λ item. IsAtMost (gap_of k) (gap_of item)) new.held) (λ item. IsAtMost (gap_of item) hit.gap) near cut.attempt cut.makes.nearer);
          inside =
              All-append (λ item. within m.ceiling (gap_of item) ≡ true) all cut.attempt (All-left (λ item. within m.ceiling (gap_of item) ≡ true) all new.held tracks.inside)
              (All-weaker (Contains new.held) (λ item. within m.ceiling (gap_of item) ≡ true)
              (λ k i. All-contains (λ item. within m.ceiling (gap_of item) ≡ true) new.held k
              (All-right (λ item. within m.ceiling (gap_of item) ≡ true) all new.held tracks.inside) i) cut.attempt cut.makes.tried);
        };
      }

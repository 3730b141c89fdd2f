-- What a change of one page leaves of the maps of stamps, and how many images are kept for them.
use Rattle.std.proofs.Common.{◌≡◌, ◌≢◌, ◌≤◌, ◌<◌, ◌+◌, ◌-◌, ℕ, Bool, true, false, cond, not, ◌&&◌, refl, sym, ap, subst, ◌∙◌, Option, Some, None, is_some, IsTrue, ◌⊎◌}
use Rattle.std.proofs.Common.{inl, inr, nat_eq, nat_lt, arith, eqb-true, eq-eqb}
use mathlib.Core.Bool.{true≢false}
use Rattle.std.specs.Ordering.{nat_cmp, eq_by_cmp}
use Rattle.std.specs.Cmp.{nat_cmp_total}
use Rattle.std.specs.Option.{option_map}
use Rattle.std.specs.FinMap as map
use Rattle.std.specs.FinSet as set
use Rattle.page_pool.specs.Disk.{NumberSet}
use Rattle.page_pool.specs.Archive.{ImageMap, ArchiveState, IsArchive, IsFrozen, ChangesPage, newest_images}
use Rattle.page_pool.specs.Inside.{ChangeMap, shown_images, shown_stamps, staged_shared}
use Rattle.page_pool.specs.Commands.{Settles}
use Rattle.page_pool.specs.Pool.{Shown}
use Rattle.page_pool.proofs.Maps.{tie_itself}
use Rattle.page_pool.proofs.Overlay.{same_set}
use Rattle.page_pool.proofs.Bounds.{contains-shared}
use Rattle.page_pool.proofs.Sizes.{len_falls}
use Rattle.page_pool.proofs.Settled.{Settles-refl}
use Rattle.page_pool.proofs.Stamped.{stamp_there, held-shown, shown-early, shown-late, shown_live, lt_is, at_end}
use Rattle.page_pool.proofs.Seen.{some_one}

-- two numbers are one or apart
pub decide : (q n : ℕ) → (q ≡ n) ⊎ (q ≢ n)
decide q n = (elim (nat_eq q n) as (λ b. nat_eq q n ≡ b → (q ≡ n) ⊎ (q ≢ n)) [
  | true ↦ λ t. inl (eqb-true q n t)
  | false ↦ λ f. inr (λ e. true≢false (sym (eq-eqb q n e) ∙ f))
]) refl

-- the commands that had begun, as two stamps in one slot say
at_one : (x y : ImageMap) (o : Option ImageMap) → option_map (λ f. f.at) (Some x) ≡ option_map (λ f. f.at) o → o ≡ Some y → x.at ≡ y.at
at_one x y o same is = some_one x.at y.at (same ∙ ap (option_map (λ f. f.at)) is)

-- a slot that is held after a change was held before
held_before : (x : ImageMap) (o : Option ImageMap) → option_map (λ f. f.at) (Some x) ≡ option_map (λ f. f.at) o → (y : ImageMap) × ((o ≡ Some y) × (x.at ≡ y.at))
held_before x None same = absurd (true≢false (ap is_some same))
held_before x (Some y) same = (y, (refl, some_one x.at y.at same))

module _ (a b : ArchiveState) (n : ℕ) (change : ChangesPage a b n) where
  -- a stamp of an earlier command was there before the change, with the same images
  pub frozen_back : (id : ℕ) (f : ImageMap) → IsFrozen b id f → IsFrozen a id f
  frozen_back id f frozen =
      let was = held_before f (map.get a.stamps id) (ap (option_map (λ g. g.at)) (sym frozen.0) ∙ change.held id) in
      let early : was.0.at < a.begun = subst (λ k. k < a.begun) was.1.1 (subst (λ k. f.at < k) change.begun frozen.1) in
      let still : map.get b.stamps id ≡ Some was.0 = change.stamps id was.0 (was.1.0, early) in
      subst (IsFrozen a id) (some_one was.0 f (sym still ∙ frozen.0)) (was.1.0, early)

  -- a stamp of the last command shows what the live map shows, and each other what it showed
  pub stamp_settled : (told : Bool) (changes changes' : ChangeMap) → IsArchive a → IsArchive b → Settles told (shown_live changes (newest_images a)) (shown_live changes' (newest_images b))
      → (id : ℕ) (x y : Shown) → map.get (shown_stamps a changes) id ≡ Some x → map.get (shown_stamps b changes') id ≡ Some y → Settles told x y
  stamp_settled told changes changes' old new live id x y before after =
      let f = stamp_there a changes id x before in
      let g = stamp_there b changes' id y after in
      let same_at : g.0.at ≡ f.0.at = at_one g.0 f.0 (map.get a.stamps id) (ap (option_map (λ h. h.at)) (sym g.1.0) ∙ change.held id) f.1.0 in
      (elim (nat_lt f.0.at a.begun) as (λ t. nat_lt f.0.at a.begun ≡ t → Settles told x y) [
        | true ↦ λ early.
            let still : map.get b.stamps id ≡ Some f.0 = change.stamps id f.0 (f.1.0, lt_is f.0.at a.begun early) in
            let one : g.0 ≡ f.0 = some_one g.0 f.0 (sym g.1.0 ∙ still) in
            let early' : nat_lt f.0.at b.begun ≡ true = ap (nat_lt f.0.at) change.begun ∙ early in
            let shows : y ≡ x = sym g.1.1 ∙ ap (shown_images b.begun changes') one ∙ shown-early b.begun changes' f.0 early' ∙ sym (shown-early a.begun changes f.0 early) ∙ f.1.1 in
            subst (Settles told x) (sym shows) (Settles-refl told x)
        | false ↦ λ late.
            let f_at : f.0.at ≡ a.begun = at_end f.0.at a.begun late (old.early id f.0 f.1.0).1 in
            let g_at : g.0.at ≡ b.begun = same_at ∙ f_at ∙ sym change.begun in
            let late' : nat_lt g.0.at b.begun ≡ false = (λ i. nat_lt (same_at i) (change.begun i)) ∙ late in
            let x_is : shown_live changes (newest_images a) ≡ x = ap (shown_live changes) (sym (old.latest id f.0 f.1.0 f_at)) ∙ sym (shown-late a.begun changes f.0 late) ∙ f.1.1 in
            let y_is : shown_live changes' (newest_images b) ≡ y = ap (shown_live changes') (sym (new.latest id g.0 g.1.0 g_at)) ∙ sym (shown-late b.begun changes' g.0 late') ∙ g.1.1 in
            subst (λ z. Settles told z y) x_is (subst (Settles told (shown_live changes (newest_images a))) y_is live)
      ]) refl

  -- the same stamps are held
  pub held_still : (changes changes' : ChangeMap) (id : ℕ) → map.contains_key (shown_stamps b changes') id ≡ map.contains_key (shown_stamps a changes) id
  held_still changes changes' id = held-shown b changes' id ∙ by_at (map.get b.stamps id) (map.get a.stamps id) (change.held id) ∙ sym (held-shown a changes id)
    where
      by_at : (o p : Option ImageMap) → option_map (λ f. f.at) o ≡ option_map (λ f. f.at) p → is_some o ≡ is_some p
      by_at None None h = refl
      by_at (Some f) (Some g) h = refl
      by_at None (Some g) h = absurd (true≢false (sym (ap is_some h)))
      by_at (Some f) None h = absurd (true≢false (ap is_some h))

-- a map whose pages and dirty ones stay, with the digests of the clean ones
pub settles_same : (told : Bool) (x y : Shown) → y.pages ≡ x.pages → y.dirty ≡ x.dirty
    → ((q : ℕ) → IsTrue (map.contains_key x.pages q) → set.contains x.dirty q ≡ false → map.get y.kept q ≡ map.get x.kept q) → Settles told x y
settles_same told x y pages dirty kept = record {
  pages = λ _. pages;
  lives = λ q. ap (λ m. map.contains_key m q) pages;
  dirty = λ q d. sym (ap (λ s. set.contains s q) dirty) ∙ d;
  written = λ q bytes there d clean. absurd (true≢false (sym d ∙ sym (ap (λ s. set.contains s q) dirty) ∙ clean));
  waiting = λ q d. ap (λ m. map.get m q) pages;
  clean = λ q live clean. (ap (λ m. map.get m q) pages, kept q live clean);
}

-- page n waits no more to be replaced, and its image counts with the replaced ones where a stamp sees it
pub shared_falls : (shared shared' : NumberSet) (changes changes' : ChangeMap) (n seen seen' : ℕ) → map.contains_key changes n ≡ true
    → ((q : ℕ) → q ≢ n → map.contains_key changes' q ≡ map.contains_key changes q)
    → shared' ≡ set.remove shared n → seen' ≡ seen + cond (set.contains shared n) 1 0
    → seen' + set.len (staged_shared shared' changes') ≤ seen + set.len (staged_shared shared changes)
shared_falls shared shared' changes changes' n seen seen' waits others less counted =
    let fewer : staged_shared shared' changes' ≡ set.remove (staged_shared shared changes) n = same_set _ _ (λ q.
    contains-shared shared' changes' q ∙ ap (λ s. set.contains s q && map.contains_key changes' q) less
    ∙ ap (λ b. b && map.contains_key changes' q) (set.contains-remove nat_cmp_total shared n q) ∙ by_tie q
    ∙ sym (set.contains-remove nat_cmp_total (staged_shared shared changes) n q ∙ ap (λ b. not (eq_by_cmp nat_cmp q n) && b) (contains-shared shared changes q))) in
    let has : set.contains (staged_shared shared changes) n ≡ (set.contains shared n && true) = contains-shared shared changes n ∙ ap (λ b. set.contains shared n && b) waits in
    (elim (set.contains shared n) as (λ b. set.contains shared n ≡ b → seen' + set.len (staged_shared shared' changes') ≤ seen + set.len (staged_shared shared changes)) [
      | true ↦ λ is.
          let one : set.len (staged_shared shared changes) ≡ set.len (set.remove (staged_shared shared changes) n) + 1 = len_falls (staged_shared shared changes) n (has ∙ ap (λ b. b && true) is) in
          let size : set.len (staged_shared shared' changes') ≡ set.len (set.remove (staged_shared shared changes) n) = ap set.len fewer in
          let more : seen' ≡ seen + 1 = counted ∙ ap (λ b. seen + cond b 1 0) is in
          omega arith
      | false ↦ λ is.
          let none : set.len (set.remove (staged_shared shared changes) n) ≡ set.len (staged_shared shared changes) = set.len-remove nat_cmp_total (staged_shared shared changes) n
          ∙ ap (λ b. cond b (set.len (staged_shared shared changes) - 1) (set.len (staged_shared shared changes))) (has ∙ ap (λ b. b && true) is) in
          let size : set.len (staged_shared shared' changes') ≡ set.len (set.remove (staged_shared shared changes) n) = ap set.len fewer in
          let more : seen' ≡ seen + 0 = counted ∙ ap (λ b. seen + cond b 1 0) is in
          omega arith
    ]) refl
  where
    by_tie : (q : ℕ) → ((not (eq_by_cmp nat_cmp q n) && set.contains shared q) && map.contains_key changes' q) ≡ (not (eq_by_cmp nat_cmp q n) && (set.contains shared q && map.contains_key changes q))
    by_tie q = (elim (eq_by_cmp nat_cmp q n) as (λ t. eq_by_cmp nat_cmp q n ≡ t
        → ((not t && set.contains shared q) && map.contains_key changes' q) ≡ (not t && (set.contains shared q && map.contains_key changes q))) [
          | true ↦ λ _. refl
          | false ↦ λ apart. ap (λ b. set.contains shared q && b) (others q (λ e. true≢false (sym (tie_itself n) ∙ ap (λ k. eq_by_cmp nat_cmp k n) (sym e) ∙ apart)))
        ]) refl

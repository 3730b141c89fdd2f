-- The stamps of the open cursors: which are held, and where cursors stand by them, when stamps come, go, or are settled.
use Rattle.std.proofs.Common.{◌≡◌, ◌≢◌, ℕ, zero, suc, ◌++◌, List, [], ◌∷◌, Option, Some, None, get_or, set, remove, refl, sym, ◌∙◌, ap, subst, true, false, true≢false, Bool, eqb, eqb-true, false-eqb}
use Rattle.std.specs.FinMap as map
use Rattle.std.specs.Prelude.{⊤, IsTrue, is_some}
use Rattle.page_pool.proofs.Maps.{get-insert_other, get-insert_same, get-remove_other, get-remove_same}
use Rattle.page_pool.specs.Commands.{SettlesStamps}
use Rattle.page_pool.specs.Disk.{PageMap}
use Rattle.page_pool.specs.Pool.{IsTold, PoolState, Shown, StampMap, shown_of}
use Rattle.page_pool.specs.Stamps.{KeepsMap, LetsMapGo}
use Rattle.plan_iterator.specs.declared.cursor.RowCursor.{RowCursor}
use Rattle.sand_model.specs.Cursor.{Cursor}
use Rattle.open_cursors.proofs.NamedCursors.{FirstAt}
use Rattle.open_cursors.specs.OpenCursors.{AreHeld, AtStamp, HasNone, HaveStamps, IsHeld, OverPages, StandAll}
use Rattle.open_cursors.specs.declared.open_cursor.OpenCursor.{OpenCursor}

-- other stamps are held as before
held_apart : (stamps : StampMap) (stamp other : ℕ) → other ≢ stamp → IsHeld stamps other → IsHeld (map.remove stamps stamp) other
held_apart stamps stamp other apart h = (h.0, get-remove_other stamps stamp other apart ∙ h.1)

-- one is not none
some_none : {A : Type 0} (a : A) → Some a ≡ None → ⊥
some_none a e = true≢false (ap is_some e)

-- what a stamp holds is held after a change, and where the disk tells its pages with the same ones
settled : (old new : PoolState) → SettlesStamps old new → (stamp : ℕ) (a : Shown) → map.get old.stamps stamp ≡ Some a
    → (b : Shown) × (map.get new.stamps stamp ≡ Some b) × (IsTold old → b.pages ≡ a.pages)
settled old new s stamp a here = go (map.get new.stamps stamp) refl where
  go : (o : Option Shown) → map.get new.stamps stamp ≡ o → (b : Shown) × (map.get new.stamps stamp ≡ Some b) × (IsTold old → b.pages ≡ a.pages)
  go (Some b) e = (b, e, λ told. (s.settles stamp a b here e).pages told)
  go None e = absurd (true≢false (sym (ap is_some here) ∙ (sym (s.held stamp) ∙ ap is_some e)))

-- nor does a change hold another one
alone_settled : (old new : PoolState) → SettlesStamps old new → (stamp : ℕ) → map.get old.stamps stamp ≡ None → map.get new.stamps stamp ≡ None
alone_settled old new s stamp none = go (map.get new.stamps stamp) refl where
  go : (o : Option Shown) → map.get new.stamps stamp ≡ o → map.get new.stamps stamp ≡ None
  go None e = e
  go (Some b) e = absurd (true≢false (ap is_some (sym e) ∙ (s.held stamp ∙ ap is_some none)))

module _ {S T : Type 0} where
  -- the stamp of the one at the place is held
  pub held_at : (stamps : StampMap) (xs : List (OpenCursor S T)) (p : OpenCursor S T → Bool) (at : ℕ) (d : OpenCursor S T) → HaveStamps stamps xs → FirstAt p xs at
      → IsHeld stamps (get_or xs at d).stamp
  held_at stamps [] p at d h f = absurd f
  held_at stamps (x ∷ xs) p zero d h f = h.0
  held_at stamps (x ∷ xs) p (suc at) d h f = held_at stamps xs p at d h.2 f.1

  -- no cursor has the stamp, wherever one under the same stamp is put
  none_set : (stamp : ℕ) (xs : List (OpenCursor S T)) (at : ℕ) (d y : OpenCursor S T) → y.stamp ≡ (get_or xs at d).stamp → HasNone stamp xs → HasNone stamp (set xs at y)
  none_set stamp [] at d y e h = tt
  none_set stamp (x ∷ xs) zero d y e h = (λ same. h.0 (sym e ∙ same), h.1)
  none_set stamp (x ∷ xs) (suc at) d y e h = (h.0, none_set stamp xs at d y e h.1)

  -- the stamps are held, wherever one under the same stamp is put
  have_set : (stamps : StampMap) (xs : List (OpenCursor S T)) (at : ℕ) (d y : OpenCursor S T) → y.stamp ≡ (get_or xs at d).stamp → HaveStamps stamps xs → HaveStamps stamps (set xs at y)
  have_set stamps [] at d y e h = tt
  have_set stamps (x ∷ xs) zero d y e h = (subst (IsHeld stamps) (sym e) h.0, subst (λ (s : ℕ). HasNone s xs) (sym e) h.1, h.2)
  have_set stamps (x ∷ xs) (suc at) d y e h = (h.0, none_set x.stamp xs at d y e h.1, have_set stamps xs at d y e h.2)

  -- whoever has none of them had none before
  none_unset : (stamp : ℕ) (xs : List (OpenCursor S T)) (at : ℕ) (d y : OpenCursor S T) → y.stamp ≡ (get_or xs at d).stamp → HasNone stamp (set xs at y) → HasNone stamp xs
  none_unset stamp [] at d y e h = tt
  none_unset stamp (x ∷ xs) zero d y e h = (λ same. h.0 (e ∙ same), h.1)
  none_unset stamp (x ∷ xs) (suc at) d y e h = (h.0, none_unset stamp xs at d y e h.1)

  -- where one under the same stamp is put, the stamps are held as before
  pub held_set : (stamps : StampMap) (xs : List (OpenCursor S T)) (at : ℕ) (d y : OpenCursor S T) → y.stamp ≡ (get_or xs at d).stamp → AreHeld stamps xs → AreHeld stamps (set xs at y)
  held_set stamps xs at d y e h = (have_set stamps xs at d y e h.0, λ stamp none. h.1 stamp (none_unset stamp xs at d y e none))

  -- ---- a stamp is released

  held_without : (stamps : StampMap) (stamp : ℕ) (xs : List (OpenCursor S T)) → HasNone stamp xs → HaveStamps stamps xs → HaveStamps (map.remove stamps stamp) xs
  held_without stamps stamp [] n h = tt
  held_without stamps stamp (x ∷ xs) n h = (held_apart stamps stamp x.stamp n.0 h.0, h.1, held_without stamps stamp xs n.1 h.2)

  none_removed : (stamp : ℕ) (xs : List (OpenCursor S T)) (at : ℕ) → HasNone stamp xs → HasNone stamp (remove xs at)
  none_removed stamp [] zero h = tt
  none_removed stamp [] (suc at) h = tt
  none_removed stamp (x ∷ xs) zero h = h.1
  none_removed stamp (x ∷ xs) (suc at) h = (h.0, none_removed stamp xs at h.1)

  apart_at : (stamp : ℕ) (xs : List (OpenCursor S T)) (p : OpenCursor S T → Bool) (at : ℕ) (d : OpenCursor S T) → HasNone stamp xs → FirstAt p xs at → (get_or xs at d).stamp ≢ stamp
  apart_at stamp [] p at d h f = absurd f
  apart_at stamp (x ∷ xs) p zero d h f = h.0
  apart_at stamp (x ∷ xs) p (suc at) d h f = apart_at stamp xs p at d h.1 f.1

  -- the others don't have the stamp of the one at the place
  pub others_apart : (stamps : StampMap) (xs : List (OpenCursor S T)) (p : OpenCursor S T → Bool) (at : ℕ) (d : OpenCursor S T) → HaveStamps stamps xs → FirstAt p xs at
      → HasNone (get_or xs at d).stamp (remove xs at)
  others_apart stamps [] p at d h f = absurd f
  others_apart stamps (x ∷ xs) p zero d h f = h.1
  others_apart stamps (x ∷ xs) p (suc at) d h f = (λ same. apart_at x.stamp xs p at d h.1 f.1 (sym same), others_apart stamps xs p at d h.2 f.1)

  -- the one at the place is gone, and its stamp is released
  pub held_removed : (stamps : StampMap) (xs : List (OpenCursor S T)) (p : OpenCursor S T → Bool) (at : ℕ) (d : OpenCursor S T) → HaveStamps stamps xs → FirstAt p xs at
      → HaveStamps (map.remove stamps (get_or xs at d).stamp) (remove xs at)
  held_removed stamps [] p at d h f = absurd f
  held_removed stamps (x ∷ xs) p zero d h f = held_without stamps x.stamp xs h.1 h.2
  held_removed stamps (x ∷ xs) p (suc at) d h f =
      (held_apart stamps (get_or xs at d).stamp x.stamp (λ same. apart_at x.stamp xs p at d h.1 f.1 (sym same)) h.0, none_removed x.stamp xs at h.1, held_removed stamps xs p at d h.2 f.1)

  -- a stamp that none of the others has is none of theirs, or the one at the place has it
  none_unremoved : (stamp : ℕ) (xs : List (OpenCursor S T)) (at : ℕ) (d : OpenCursor S T) → (get_or xs at d).stamp ≢ stamp → HasNone stamp (remove xs at) → HasNone stamp xs
  none_unremoved stamp [] at d apart h = tt
  none_unremoved stamp (x ∷ xs) zero d apart h = (apart, h)
  none_unremoved stamp (x ∷ xs) (suc at) d apart h = (h.0, none_unremoved stamp xs at d apart h.1)

  -- behind a removal no other stamp is held
  alone_removed : (stamps : StampMap) (xs : List (OpenCursor S T)) (at : ℕ) (d : OpenCursor S T) → ((stamp : ℕ) → HasNone stamp xs → map.get stamps stamp ≡ None)
      → (stamp : ℕ) → HasNone stamp (remove xs at) → map.get (map.remove stamps (get_or xs at d).stamp) stamp ≡ None
  alone_removed stamps xs at d alone stamp none = go (eqb stamp (get_or xs at d).stamp) refl where
    s : ℕ
    s = (get_or xs at d).stamp

    go : (b : Bool) → eqb stamp s ≡ b → map.get (map.remove stamps s) stamp ≡ None
    go true e = subst (λ (k : ℕ). map.get (map.remove stamps s) k ≡ None) (sym (eqb-true stamp s e)) (get-remove_same stamps s)
    go false e = get-remove_other stamps s stamp (false-eqb stamp s (sym e)) ∙ alone stamp (none_unremoved stamp xs at d (λ same. false-eqb stamp s (sym e) (sym same)) none)

  -- cursors without the stamp stand where they stood
  pub stand_released : (At : OverPages S T) (stamps : StampMap) (stamp : ℕ) (xs : List (OpenCursor S T)) (cs : List Cursor) → HasNone stamp xs
      → StandAll (AtStamp At) stamps xs cs → StandAll (AtStamp At) (map.remove stamps stamp) xs cs
  stand_released At stamps stamp [] [] n h = tt
  stand_released At stamps stamp [] (c ∷ cs) n h = absurd h
  stand_released At stamps stamp (x ∷ xs) [] n h = absurd h
  stand_released At stamps stamp (x ∷ xs) (c ∷ cs) n h =
      (h.0, (h.1.0, get-remove_other stamps stamp x.stamp n.0 ∙ h.1.1, h.1.2), stand_released At stamps stamp xs cs n.1 h.2)

  -- ---- a stamp is taken

  -- a stamp that wasn't held is none of theirs
  fresh_apart : (stamps : StampMap) (stamp : ℕ) (xs : List (OpenCursor S T)) → map.get stamps stamp ≡ None → HaveStamps stamps xs → HasNone stamp xs
  fresh_apart stamps stamp [] fresh h = tt
  fresh_apart stamps stamp (x ∷ xs) fresh h = (
    λ same. some_none h.0.0 (sym h.0.1 ∙ (ap (map.get stamps) same ∙ fresh)),
    fresh_apart stamps stamp xs fresh h.2,
  )

  none_behind : (stamp : ℕ) (xs : List (OpenCursor S T)) (y : OpenCursor S T) → y.stamp ≢ stamp → HasNone stamp xs → HasNone stamp (xs ++ y ∷ [])
  none_behind stamp [] y apart h = (apart, tt)
  none_behind stamp (x ∷ xs) y apart h = (h.0, none_behind stamp xs y apart h.1)

  held_behind : (stamps : StampMap) (shown : Shown) (y : OpenCursor S T) (xs : List (OpenCursor S T)) → HasNone y.stamp xs → HaveStamps stamps xs
      → HaveStamps (map.insert stamps y.stamp shown) (xs ++ y ∷ [])
  held_behind stamps shown y [] n h = ((shown, get-insert_same stamps y.stamp shown), tt, tt)
  held_behind stamps shown y (x ∷ xs) n h = (
    (h.0.0, get-insert_other stamps y.stamp shown x.stamp n.0 ∙ h.0.1),
    none_behind x.stamp xs y (λ same. n.0 (sym same)) h.1,
    held_behind stamps shown y xs n.1 h.2,
  )

  -- one more, whose stamp wasn't held
  pub held_opened : (stamps : StampMap) (shown : Shown) (y : OpenCursor S T) (xs : List (OpenCursor S T)) → map.get stamps y.stamp ≡ None → HaveStamps stamps xs
      → HaveStamps (map.insert stamps y.stamp shown) (xs ++ y ∷ [])
  held_opened stamps shown y xs fresh h = held_behind stamps shown y xs (fresh_apart stamps y.stamp xs fresh h) h

  -- behind one more no other stamp is held
  none_front : (stamp : ℕ) (xs : List (OpenCursor S T)) (y : OpenCursor S T) → HasNone stamp (xs ++ y ∷ []) → HasNone stamp xs × (y.stamp ≢ stamp)
  none_front stamp [] y h = (tt, h.0)
  none_front stamp (x ∷ xs) y h = let rest = none_front stamp xs y h.1 in ((h.0, rest.0), rest.1)

  alone_opened : (stamps : StampMap) (shown : Shown) (y : OpenCursor S T) (xs : List (OpenCursor S T)) → ((stamp : ℕ) → HasNone stamp xs → map.get stamps stamp ≡ None)
      → (stamp : ℕ) → HasNone stamp (xs ++ y ∷ []) → map.get (map.insert stamps y.stamp shown) stamp ≡ None
  alone_opened stamps shown y xs alone stamp none = let front = none_front stamp xs y none in
      get-insert_other stamps y.stamp shown stamp (λ same. front.1 (sym same)) ∙ alone stamp front.0

  stand_apart : (At : OverPages S T) (stamps : StampMap) (stamp : ℕ) (shown : Shown) (xs : List (OpenCursor S T)) (cs : List Cursor) → HasNone stamp xs → StandAll (AtStamp At) stamps xs cs
      → StandAll (AtStamp At) (map.insert stamps stamp shown) xs cs
  stand_apart At stamps stamp shown [] [] n h = tt
  stand_apart At stamps stamp shown [] (c ∷ cs) n h = absurd h
  stand_apart At stamps stamp shown (x ∷ xs) [] n h = absurd h
  stand_apart At stamps stamp shown (x ∷ xs) (c ∷ cs) n h =
      (h.0, (h.1.0, get-insert_other stamps stamp shown x.stamp n.0 ∙ h.1.1, h.1.2), stand_apart At stamps stamp shown xs cs n.1 h.2)

  -- the others stand where they stood
  pub stand_opened : (At : OverPages S T) (stamps : StampMap) (stamp : ℕ) (shown : Shown) (xs : List (OpenCursor S T)) (cs : List Cursor) → map.get stamps stamp ≡ None
      → HaveStamps stamps xs → StandAll (AtStamp At) stamps xs cs
      → StandAll (AtStamp At) (map.insert stamps stamp shown) xs cs
  stand_opened At stamps stamp shown xs cs fresh held h = stand_apart At stamps stamp shown xs cs (fresh_apart stamps stamp xs fresh held) h

  -- ---- stamps are settled

  have_settled : (old new : PoolState) → SettlesStamps old new → (xs : List (OpenCursor S T)) → HaveStamps old.stamps xs → HaveStamps new.stamps xs
  have_settled old new s [] h = tt
  have_settled old new s (x ∷ xs) h = let b = settled old new s x.stamp h.0.0 h.0.1 in ((b.0, b.1), h.1, have_settled old new s xs h.2)

  pub held_settled : (old new : PoolState) → SettlesStamps old new → (xs : List (OpenCursor S T)) → AreHeld old.stamps xs → AreHeld new.stamps xs
  held_settled old new s xs h = (have_settled old new s xs h.0, λ stamp none. alone_settled old new s stamp (h.1 stamp none))

  pub stand_settled : (At : OverPages S T) (old new : PoolState) → SettlesStamps old new → IsTold old → (xs : List (OpenCursor S T)) (cs : List Cursor)
      → StandAll (AtStamp At) old.stamps xs cs → StandAll (AtStamp At) new.stamps xs cs
  stand_settled At old new s told [] [] h = tt
  stand_settled At old new s told [] (c ∷ cs) h = absurd h
  stand_settled At old new s told (x ∷ xs) [] h = absurd h
  stand_settled At old new s told (x ∷ xs) (c ∷ cs) h =
      let b = settled old new s x.stamp h.1.0 h.1.1 in
      (h.0, (b.0, b.1, subst (λ (m : PageMap). At x.cursor m c) (sym (b.2 told)) h.1.2), stand_settled At old new s told xs cs h.2)

  -- ---- calls of the store

  -- the one in hand is held
  pub held_in_hand : (stamps : StampMap) (xs : List (OpenCursor S T)) (p : OpenCursor S T → Bool) (at : ℕ) (d : OpenCursor S T) → d ≡ get_or xs at d → AreHeld stamps xs
      → FirstAt p xs at → IsHeld stamps d.stamp
  held_in_hand stamps xs p at d here held f = subst (λ (x : OpenCursor S T). IsHeld stamps x.stamp) (sym here) (held_at stamps xs p at d held.0 f)

  -- none of the others has the stamp of one that was taken out
  ended_apart : (stamps : StampMap) (xs ys : List (OpenCursor S T)) (p : OpenCursor S T → Bool) (at : ℕ) (ended : OpenCursor S T) → ended ≡ get_or xs at ended
      → ys ≡ remove xs at → AreHeld stamps xs → FirstAt p xs at
      → HasNone ended.stamp ys
  ended_apart stamps xs ys p at ended here gone held f =
      subst (λ (zs : List (OpenCursor S T)). HasNone ended.stamp zs) (sym gone)
      (subst (λ (x : OpenCursor S T). HasNone x.stamp (remove xs at)) (sym here) (others_apart stamps xs p at ended held.0 f))

  -- one was taken out, and its stamp was let go: the others stand where they stood
  pub stand_let_go : (At : OverPages S T) (old new : PoolState) (xs ys : List (OpenCursor S T)) (p : OpenCursor S T → Bool) (at : ℕ) (ended : OpenCursor S T)
      → ended ≡ get_or xs at ended → ys ≡ remove xs at
      → LetsMapGo old new ended.stamp → AreHeld old.stamps xs → FirstAt p xs at → (cs : List Cursor) → StandAll (AtStamp At) old.stamps ys cs → StandAll (AtStamp At) new.stamps ys cs
  stand_let_go At old new xs ys p at ended here gone lets held f cs h =
      subst (λ (m : StampMap). StandAll (AtStamp At) m ys cs) (sym (ap (λ (q : PoolState). q.stamps) lets.after))
      (stand_released At old.stamps ended.stamp ys cs (ended_apart old.stamps xs ys p at ended here gone held f) h)

  -- and are held
  pub held_let_go : (old new : PoolState) (xs ys : List (OpenCursor S T)) (p : OpenCursor S T → Bool) (at : ℕ) (ended : OpenCursor S T) → ended ≡ get_or xs at ended → ys ≡ remove xs at
      → LetsMapGo old new ended.stamp → AreHeld old.stamps xs → FirstAt p xs at → AreHeld new.stamps ys
  held_let_go old new xs ys p at ended here gone lets held f =
      subst (λ (m : StampMap). AreHeld m ys) (sym (ap (λ (q : PoolState). q.stamps) lets.after))
      (subst (λ (zs : List (OpenCursor S T)). AreHeld (map.remove old.stamps ended.stamp) zs) (sym gone)
      (subst (λ (x : OpenCursor S T). AreHeld (map.remove old.stamps x.stamp) (remove xs at)) (sym here)
      (held_removed old.stamps xs p at ended held.0 f, alone_removed old.stamps xs at ended held.1)))

  -- one more was put behind them, whose stamp was just taken: they stand where they stood
  pub stand_kept : (At : OverPages S T) (old new : PoolState) (stamp : ℕ) (xs : List (OpenCursor S T)) (cs : List Cursor) → KeepsMap old new stamp
      → AreHeld old.stamps xs → StandAll (AtStamp At) old.stamps xs cs
      → StandAll (AtStamp At) new.stamps xs cs
  stand_kept At old new stamp xs cs kept held h =
      subst (λ (m : StampMap). StandAll (AtStamp At) m xs cs) (sym (ap (λ (q : PoolState). q.stamps) kept.after)) (stand_opened At old.stamps stamp (shown_of old) xs cs kept.fresh held.0 h)

  -- and all are held
  pub held_kept : (old new : PoolState) (y : OpenCursor S T) (xs ys : List (OpenCursor S T)) → ys ≡ xs ++ y ∷ [] → KeepsMap old new y.stamp → AreHeld old.stamps xs → AreHeld new.stamps ys
  held_kept old new y xs ys behind kept held =
      subst (λ (m : StampMap). AreHeld m ys) (sym (ap (λ (q : PoolState). q.stamps) kept.after))
      (subst (λ (zs : List (OpenCursor S T)). AreHeld (map.insert old.stamps y.stamp (shown_of old)) zs) (sym behind)
      (held_opened old.stamps (shown_of old) y xs kept.fresh held.0, alone_opened old.stamps (shown_of old) y xs held.1))

-- a stamp that is held is a key
pub held_key : (stamps : StampMap) (stamp : ℕ) → IsHeld stamps stamp → IsTrue (map.contains_key stamps stamp)
held_key stamps stamp h = ap is_some h.1

-- the stamp that was just taken shows the live pages
pub kept_shows : (old new : PoolState) (stamp : ℕ) → KeepsMap old new stamp → map.get new.stamps stamp ≡ Some (shown_of old)
kept_shows old new stamp kept = ap (λ (q : PoolState). map.get q.stamps stamp) kept.after ∙ get-insert_same old.stamps stamp (shown_of old)

use Rattle.std.proofs.Common.{◌≡◌, ◌<◌, ℕ, List, Bor, cond, Some, Ok, Err, inr, refl, sym, ap, subst, ◌∙◌}
use Rattle.std.specs.FinMap as map
use Rattle.std.proofs.lemmas.Result.{err_from_is_err_and}
use Rattle.page_pool.specs.declared.fault.PageFault.TheVariants.{Memory}
use Rattle.page_pool.specs.Archive.{ReadsImage}
use Rattle.page_pool.specs.Causes.{damages_after}
use Rattle.page_pool.proofs.Loads.{whole_read}
use Rattle.page_pool.proofs.Viewed.{some_and, if_some, older_live, whole_seen}
use Rattle.page_pool.proofs.Older.{damages_same, gets_older, got_older}
use Rattle.page_pool.proofs.pool.Pool.find_older.Goals as goal
use Rattle.page_pool.proofs.pool.Pool.find_older.Goals.{then-not-has_image+in_ok-read+in_ok-put_image, else-not-has_image}

-- nothing came into the frames
pub invariant_of-self-in-Break-1 : goal.invariant_of-self-in-Break-1
invariant_of-self-in-Break-1 g c =
    let f = some_and (map.get c.self.inside.archive.stamps c.args.slot) (λ f. (f.at < c.self.inside.archive.begun) × (map.get f.places c.args.n ≡ Some c.in-Some.place)) c.in-Some.ensures.found in
    let read = if_some (map.get c.self.inside.archive.stamps c.args.slot)
    (λ f. ReadsImage c.self.inside.archive c.read_seen-read.new.self f.pages f.kept c.args.n c.read_seen-read.result) f.0 f.1.0 c.read_seen-read.ensures.read in
    whole_read c.self.inside.archive c.read_seen-read.new.self c.self.inside.staged.changes c.self.inside.frames c.self.inside.frames c.self.inside.numbers c.self.inside.is_open c.args.n read.read c.read_seen-read.ensures.whole
    (λ q bytes is. inr is) (λ q bytes is. is) c.self.invariant

-- the archive refused
pub returns-in_err-read : goal.returns-in_err-read
returns-in_err-read g c =
    let f = some_and (map.get c.self.inside.archive.stamps c.args.slot) (λ f. (f.at < c.self.inside.archive.begun) × (map.get f.places c.args.n ≡ Some c.in-Some.place)) c.in-Some.ensures.found in
    let whole = if_some (map.get c.self.inside.archive.stamps c.args.slot)
    (λ f. ReadsImage c.self.inside.archive c.read_seen-read.new.self f.pages f.kept c.args.n c.read_seen-read.result) f.0 f.1.0 c.read_seen-read.ensures.read in
    let was : c.read_seen-read.result ≡ Err c.in_err-read.field-0.0 = c.in_err-read.was in
    let read = subst (ReadsImage c.self.inside.archive c.read_seen-read.new.self f.0.pages f.0.kept c.args.n) was whole in
    let p = err_from_is_err_and c.from_residual.result c.from_residual.ensures.1 in
    rw (p.1, p.2, ← c.self.view_is) (
      (
        refl,
        λ _. tt,
        gets_older c.self.inside.archive c.read_seen-read.new.self c.self.inside.staged c.self.inside.frames c.self.inside.frames c.self.inside.numbers c.self.inside.is_open
            c.self.inside.gets c.saturating_add-self-inside.result c.self.inside.damages c.damages_by-self-inside.result c.args.slot c.args.n f.0 f.1.0 f.1.1.0 read.read (Err c.in_err-read.field-0.0)
            refl c.saturating_add-self-inside.ensures (c.damages_by-self-inside.ensures ∙ ap (damages_after c.self.inside.damages) was
            ∙ damages_same (List ℕ) (Bor (List ℕ)) c.self.inside.damages c.in_err-read.field-0.0)
            read.counted read.damaged,
      ),
      record {
        live = tt;
        missing = λ missing.
            read.missing (sym (older_live c.self.inside.archive c.self.inside.staged c.self.inside.frames c.self.inside.numbers c.self.inside.is_open c.self.inside.gets c.self.inside.damages c.args.slot c.args.n f.0 f.1.0 f.1.1.0 c.self.invariant.archived) ∙ missing);
        value = tt;
        after = tt;
      },
    )

-- the image that was read came into a frame, at most
pub invariant_of-self-in-Break-branch-2 : goal.invariant_of-self-in-Break-branch-2
invariant_of-self-in-Break-branch-2 g c =
    let f = some_and (map.get c.self.inside.archive.stamps c.args.slot) (λ f. (f.at < c.self.inside.archive.begun) × (map.get f.places c.args.n ≡ Some c.in-Some.place)) c.in-Some.ensures.found in
    let whole = if_some (map.get c.self.inside.archive.stamps c.args.slot)
    (λ f. ReadsImage c.self.inside.archive c.read_seen-read.new.self f.pages f.kept c.args.n c.read_seen-read.result) f.0 f.1.0 c.read_seen-read.ensures.read in
    let was : c.read_seen-read.result ≡ Ok c.in_ok-read.field-0 = c.in_ok-read.was in
    let read = subst (ReadsImage c.self.inside.archive c.read_seen-read.new.self f.0.pages f.0.kept c.args.n) was whole in
    whole_seen c.self.inside.archive c.read_seen-read.new.self c.self.inside.staged.changes c.self.inside.frames c.put_image.new.self c.self.inside.numbers c.self.inside.is_open c.args.slot c.args.n c.in-Some.place f.0 c.lies_at-is_newest.result
    f.1.0 f.1.1.1 c.lies_at-is_newest.ensures.there c.lies_at-is_newest.ensures.elsewhere c.in_ok-read.field-0
    (read.digested, read.value) read.read c.read_seen-read.ensures.whole c.put_image.ensures.newest c.put_image.ensures.past c.self.invariant

-- memory for the frame was refused
pub returns-in_err-put_image : goal.returns-in_err-put_image
returns-in_err-put_image g c =
    let f = some_and (map.get c.self.inside.archive.stamps c.args.slot) (λ f. (f.at < c.self.inside.archive.begun) × (map.get f.places c.args.n ≡ Some c.in-Some.place)) c.in-Some.ensures.found in
    let whole = if_some (map.get c.self.inside.archive.stamps c.args.slot)
    (λ f. ReadsImage c.self.inside.archive c.read_seen-read.new.self f.pages f.kept c.args.n c.read_seen-read.result) f.0 f.1.0 c.read_seen-read.ensures.read in
    let was : c.read_seen-read.result ≡ Ok c.in_ok-read.field-0 = c.in_ok-read.was in
    let read = subst (ReadsImage c.self.inside.archive c.read_seen-read.new.self f.0.pages f.0.kept c.args.n) was whole in
    let p = err_from_is_err_and c.from_residual-in_err-put_image.result c.from_residual-in_err-put_image.ensures.1 in
    rw (p.1, p.2, ← c.self.view_is) (
      (
        refl,
        λ _. tt,
        gets_older c.self.inside.archive c.read_seen-read.new.self c.self.inside.staged c.self.inside.frames c.put_image.new.self c.self.inside.numbers c.self.inside.is_open
            c.self.inside.gets c.saturating_add-self-inside.result c.self.inside.damages c.damages_by-self-inside.result c.args.slot c.args.n f.0 f.1.0 f.1.1.0 read.read (Err Memory)
            c.put_image.ensures.most c.saturating_add-self-inside.ensures (c.damages_by-self-inside.ensures ∙ ap (damages_after c.self.inside.damages) was)
            read.counted tt,
      ),
      record { live = tt; missing = λ _. refl; value = tt; after = tt },
    )

-- the image that was read came into a frame, or lay in one
pub invariant_of-self-2 : goal.invariant_of-self-2
invariant_of-self-2 g c =
    let f = some_and (map.get c.self.inside.archive.stamps c.args.slot) (λ f. (f.at < c.self.inside.archive.begun) × (map.get f.places c.args.n ≡ Some c.in-Some.place)) c.in-Some.ensures.found in
    elim c.if-not-has_image.branch [
      | then-not-has_image+in_ok-read+in_ok-put_image w ↦
          let whole = if_some (map.get c.self.inside.archive.stamps c.args.slot)
          (λ f. ReadsImage c.self.inside.archive w.read_seen-read.new.self f.pages f.kept c.args.n w.read_seen-read.result) f.0 f.1.0 w.read_seen-read.ensures.read in
          let was : w.read_seen-read.result ≡ Ok w.in_ok-read.field-0 = w.in_ok-read.was in
          let read = subst (ReadsImage c.self.inside.archive w.read_seen-read.new.self f.0.pages f.0.kept c.args.n) was whole in
          rw (w.self-inside-is)
          (whole_seen c.self.inside.archive w.read_seen-read.new.self c.self.inside.staged.changes c.self.inside.frames w.put_image.new.self c.self.inside.numbers c.self.inside.is_open c.args.slot c.args.n c.in-Some.place f.0 c.lies_at-is_newest.result
          f.1.0 f.1.1.1 c.lies_at-is_newest.ensures.there c.lies_at-is_newest.ensures.elsewhere w.in_ok-read.field-0
          (read.digested, read.value) read.read w.read_seen-read.ensures.whole w.put_image.ensures.newest w.put_image.ensures.past c.self.invariant)
      | else-not-has_image w ↦ rw (w.self-inside-is) c.self.invariant
    ]

-- the page is in a frame
pub returns-in-Some-used_image : goal.returns-in-Some-used_image
returns-in-Some-used_image g c =
    let f = some_and (map.get c.self.inside.archive.stamps c.args.slot) (λ f. (f.at < c.self.inside.archive.begun) × (map.get f.places c.args.n ≡ Some c.in-Some.place)) c.in-Some.ensures.found in
    let framed = sym c.in-Some-used_image.ensures ∙ ap (λ page. Some page) (sym c.bytes.ensures) in
    elim c.if-not-has_image.branch [
      | then-not-has_image+in_ok-read+in_ok-put_image w ↦
          let whole = if_some (map.get c.self.inside.archive.stamps c.args.slot)
          (λ f. ReadsImage c.self.inside.archive w.read_seen-read.new.self f.pages f.kept c.args.n w.read_seen-read.result) f.0 f.1.0 w.read_seen-read.ensures.read in
          let was : w.read_seen-read.result ≡ Ok w.in_ok-read.field-0 = w.in_ok-read.was in
          let read = subst (ReadsImage c.self.inside.archive w.read_seen-read.new.self f.0.pages f.0.kept c.args.n) was whole in
          let got = got_older c.self.inside.archive w.read_seen-read.new.self c.self.inside.staged c.self.inside.frames w.put_image.new.self c.self.inside.numbers c.self.inside.is_open
          c.self.inside.gets c.saturating_add-self-inside.result c.self.inside.damages w.damages_by-self-inside.result c.args.slot c.args.n f.0 f.1.0 f.1.1.0 read.read
          c.in-Some.place c.lies_at-is_newest.result f.1.1.1 c.lies_at-is_newest.ensures.there c.lies_at-is_newest.ensures.elsewhere c.self.invariant.archived
          (whole_seen c.self.inside.archive w.read_seen-read.new.self c.self.inside.staged.changes c.self.inside.frames w.put_image.new.self c.self.inside.numbers c.self.inside.is_open c.args.slot c.args.n c.in-Some.place f.0 c.lies_at-is_newest.result
          f.1.0 f.1.1.1 c.lies_at-is_newest.ensures.there c.lies_at-is_newest.ensures.elsewhere w.in_ok-read.field-0
          (read.digested, read.value) read.read w.read_seen-read.ensures.whole w.put_image.ensures.newest w.put_image.ensures.past c.self.invariant)
          c.bytes.result.now (ap (λ t. cond c.lies_at-is_newest.result (map.get t.frames.newest c.args.n) (map.get t.frames.past c.in-Some.place)) (sym w.self-inside-is) ∙ framed) in
          rw (← c.self.view_is, w.self-inside-is) (
            (
              refl,
              λ _. tt,
              gets_older c.self.inside.archive w.read_seen-read.new.self c.self.inside.staged c.self.inside.frames w.put_image.new.self c.self.inside.numbers c.self.inside.is_open
                  c.self.inside.gets c.saturating_add-self-inside.result c.self.inside.damages w.damages_by-self-inside.result c.args.slot c.args.n f.0 f.1.0 f.1.1.0 read.read (Ok c.bytes.result)
                  w.put_image.ensures.most c.saturating_add-self-inside.ensures (w.damages_by-self-inside.ensures ∙ ap (damages_after c.self.inside.damages) was) read.counted tt,
            ),
            record { live = got.0; missing = λ _. tt; value = got.1; after = tt },
          )
      | else-not-has_image w ↦
          let got = got_older c.self.inside.archive c.self.inside.archive c.self.inside.staged c.self.inside.frames c.self.inside.frames c.self.inside.numbers c.self.inside.is_open
          c.self.inside.gets c.saturating_add-self-inside.result c.self.inside.damages c.self.inside.damages c.args.slot c.args.n f.0 f.1.0 f.1.1.0 (record { same = refl; told = refl; stored = refl })
          c.in-Some.place c.lies_at-is_newest.result f.1.1.1 c.lies_at-is_newest.ensures.there c.lies_at-is_newest.ensures.elsewhere c.self.invariant.archived
          (c.self.invariant)
          c.bytes.result.now (ap (λ t. cond c.lies_at-is_newest.result (map.get t.frames.newest c.args.n) (map.get t.frames.past c.in-Some.place)) (sym w.self-inside-is) ∙ framed) in
          rw (← c.self.view_is, w.self-inside-is) (
            (
              refl,
              λ _. tt,
              gets_older c.self.inside.archive c.self.inside.archive c.self.inside.staged c.self.inside.frames c.self.inside.frames c.self.inside.numbers c.self.inside.is_open
                  c.self.inside.gets c.saturating_add-self-inside.result c.self.inside.damages c.self.inside.damages c.args.slot c.args.n f.0 f.1.0 f.1.1.0
                  (record { same = refl; told = refl; stored = refl }) (Ok c.bytes.result)
                  refl c.saturating_add-self-inside.ensures refl refl tt,
            ),
            record { live = got.0; missing = λ _. tt; value = got.1; after = tt },
          )
    ]

-- none was in a frame for want of memory
pub returns-in-None : goal.returns-in-None
returns-in-None g c =
    let f = some_and (map.get c.self.inside.archive.stamps c.args.slot) (λ f. (f.at < c.self.inside.archive.begun) × (map.get f.places c.args.n ≡ Some c.in-Some.place)) c.in-Some.ensures.found in
    elim c.if-not-has_image.branch [
      | then-not-has_image+in_ok-read+in_ok-put_image w ↦
          let whole = if_some (map.get c.self.inside.archive.stamps c.args.slot)
          (λ f. ReadsImage c.self.inside.archive w.read_seen-read.new.self f.pages f.kept c.args.n w.read_seen-read.result) f.0 f.1.0 w.read_seen-read.ensures.read in
          let was : w.read_seen-read.result ≡ Ok w.in_ok-read.field-0 = w.in_ok-read.was in
          let read = subst (ReadsImage c.self.inside.archive w.read_seen-read.new.self f.0.pages f.0.kept c.args.n) was whole in
          rw (← c.self.view_is, w.self-inside-is) (
            (
              refl,
              λ _. tt,
              gets_older c.self.inside.archive w.read_seen-read.new.self c.self.inside.staged c.self.inside.frames w.put_image.new.self c.self.inside.numbers c.self.inside.is_open
                  c.self.inside.gets c.saturating_add-self-inside.result c.self.inside.damages w.damages_by-self-inside.result c.args.slot c.args.n f.0 f.1.0 f.1.1.0 read.read (Err Memory)
                  w.put_image.ensures.most c.saturating_add-self-inside.ensures (w.damages_by-self-inside.ensures ∙ ap (damages_after c.self.inside.damages) was) read.counted tt,
            ),
            record { live = tt; missing = λ _. refl; value = tt; after = tt },
          )
      | else-not-has_image w ↦
          rw (← c.self.view_is, w.self-inside-is) (
            (
              refl,
              λ _. tt,
              gets_older c.self.inside.archive c.self.inside.archive c.self.inside.staged c.self.inside.frames c.self.inside.frames c.self.inside.numbers c.self.inside.is_open
                  c.self.inside.gets c.saturating_add-self-inside.result c.self.inside.damages c.self.inside.damages c.args.slot c.args.n f.0 f.1.0 f.1.1.0
                  (record { same = refl; told = refl; stored = refl }) (Err Memory)
                  refl c.saturating_add-self-inside.ensures refl refl tt,
            ),
            record { live = tt; missing = λ _. refl; value = tt; after = tt },
          )
    ]

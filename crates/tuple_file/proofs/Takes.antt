-- A tuple is taken: out of a page, and out of the file.
use Rattle.std.proofs.Common.{◌≡◌, ◌≢◌, ℕ, ◌+◌, ◌*◌, ◌≤◌, Bool, true, false, List, [], sym, ◌∙◌, ap, ap₂, subst, inl, inr, arith}
use Rattle.std.specs.Prelude.{Option, None, Some, is_some, option_map, IfSome}
use Rattle.code_btree.specs.declared.map.Tree.{Tree}
use Rattle.code_btree.specs.Node.{Pair}
use Rattle.code_btree.specs.Items.{find_item, drop_item}
use Rattle.code_btree.specs.Tree.{Store, same, times, live, tree_items, tree_pages}
use Rattle.code_btree.specs.Calls.{Removed}
use Rattle.code_btree.proofs.Lists.{same_cases, live_none, live_same}
use Rattle.code_btree.proofs.Roots.{keeps_of}
use Rattle.code_btree.proofs.Frame.{frame}
use Rattle.tuple_file.specs.declared.file.TupleFile.{TupleFile}
use Rattle.tuple_file.specs.Page.{IsTuples, HasAt, tuple_at, some}
use Rattle.tuple_file.specs.File.{bytes_of, page_of, slot_of, tuple_of, tuples, tuple_places, homes, file_pages, IsFile}
use Rattle.tuple_file.specs.Calls.{TupleTaken}
use Rattle.tuple_file.specs.Steps.{Left, Gone, Emptied}
use Rattle.tuple_file.proofs.Counts.{times-up, times-drop, times-drop_none, found_leads, some_same, none_some}
use Rattle.tuple_file.proofs.Lists.{tuples_drop, tuples_find, tuples_same}
use Rattle.tuple_file.proofs.Houses.{by_test, tuple_same, pages_count, home_live, leads_home, owns_then}
use Rattle.tuple_file.proofs.Leads.{drop_leads}
use Rattle.tuple_file.proofs.PlacesLeft.{Vacated, home_left, home_gone, tuples_stay, houses_take, IsNewest, has_take}

-- from another id the tree leads where it led
leads_on : (id i place : ℕ) (es fs : List Pair) → fs ≡ drop_item id es → i ≢ id → find_item i es ≡ Some place → find_item i fs ≡ Some place
leads_on id i place es fs items d h = let P : List Pair → Type 0 = λ xs. find_item i xs ≡ Some place in subst P (sym items) (drop_leads id i place es d h)

pub take_done : (m x w : Store) (f : TupleFile) (u : Tree) (id n slot v : ℕ) (freed : Bool) (newest : Option ℕ) → IsFile m f → Removed m x f.tree u id (Some v)
    → n ≡ page_of v → slot ≡ slot_of v → Emptied x w n slot freed → IsNewest f.newest newest n freed → TupleTaken m w f (record { tree = u; newest = newest }) id true
take_done m x w f u id n slot v freed newest file r en es' e last =
    let es : List Pair = tree_items m f.tree in
    let ts : List ℕ = tree_pages m f.tree in
    let fs : List Pair = tree_items w u in
    let g : TupleFile = record { tree = u; newest = newest } in
    let found : find_item id es ≡ Some v = sym r.found in
    let asc = file.tree.at.ascending in
    let home_n : 1 ≤ times n (homes es) = omega (arith, found_leads id v es found, times-up v es, ap (λ (k : ℕ). times k (homes es)) en) in
    let kn = home_live m f n file home_n in
    let xm : (q : ℕ) → 1 ≤ times q (homes es) → x q ≡ m q = λ q l. (let k = home_live m f q file l in r.keeps.others q k.0 k.1) in
    let xn : x n ≡ m n = xm n home_n in
    let un : times n (tree_pages x u) ≡ 0 = omega (arith, r.keeps.moved n, kn.0, kn.1, live_same m x n xn) in
    let t = frame x w u (λ q l. e.others q (elim (same_cases q n) [ inl j ↦ absurd (omega (arith, un, l, ap (λ (k : ℕ). times k (tree_pages x u)) j.1)) | inr j ↦ j.0 ])) in
    let items : fs ≡ drop_item id es = t.items ∙ r.items in
    let up : (q : ℕ) → times q (tree_pages w u) ≡ times q (tree_pages x u) = λ q. ap (λ (ps : List ℕ). times q ps) t.pages in
    let hc : (q : ℕ) → times q (homes es) ≡ same q n + times q (homes fs) = λ q. times-drop (λ i. page_of i.1) q id v es asc found
    ∙ ap₂ (λ (k : ℕ) (xs : List Pair). same q k + times q (homes xs)) (sym en) (sym items) in
    let pc : (y : ℕ) → times y (tuple_places es) ≡ same y v + times y (tuple_places fs) = λ y. times-drop (λ i. i.1) y id v es asc found
    ∙ ap (λ (xs : List Pair). same y v + times y (tuple_places xs)) (sym items) in
    let p : Vacated m w es fs n slot v freed = record {
      page_is = sym en;
      slot_is = sym es';
      home = λ q l d. e.others q d ∙ xm q l;
      left = λ k. left_from x m w n slot xn (e.left k);
      gone = λ k. gone_from x m w n slot xn (e.gone k);
      page_count = hc;
      place_count = pc;
    } in
    let moved : (q : ℕ) → live w q + times q (file_pages m f) ≡ live m q + times q (file_pages w g) = λ q. elim (same_cases q n) [
      | inl j ↦ by_test freed
          (λ k. (let l = home_left m w es fs n slot v freed file.housed p (p.left k) in
          omega (
            arith,
            r.keeps.moved q,
            up q,
            pages_count m f q,
            pages_count w g q,
            l,
            home_n,
            (p.left k).is_live,
            live_same m x n xn,
            kn.0,
            ap (λ (i : ℕ). live x i) j.1,
            ap (λ (i : ℕ). live w i) j.1,
            ap (λ (i : ℕ). times i (homes es)) j.1,
            ap (λ (i : ℕ). times i (homes fs)) j.1,
          )))
          (λ k. (let l = home_gone m w es fs n slot v freed file.housed p (p.gone k) in
          omega (
            arith,
            r.keeps.moved q,
            up q,
            pages_count m f q,
            pages_count w g q,
            l,
            home_n,
            live_none w n (p.gone k).freed,
            live_same m x n xn,
            kn.0,
            ap (λ (i : ℕ). live x i) j.1,
            ap (λ (i : ℕ). live w i) j.1,
            ap (λ (i : ℕ). times i (homes es)) j.1,
            ap (λ (i : ℕ). times i (homes fs)) j.1,
          )))
      | inr j ↦ omega (arith, r.keeps.moved q, up q, pages_count m f q, pages_count w g q, hc q, j.0, live_same x w q (e.others q j.0))
    ] in
    let owns = owns_then m w (file_pages m f) (file_pages w g) file.owns moved in
    record {
      file = record {
        tree = t.tree r.tree;
        owns = owns;
        housed = houses_take m w es fs n slot v freed file.housed p;
        newest = λ q k.
            let l : 1 ≤ times q (homes es) = file.newest q (last.same_page q k) in
            elim (same_cases q n) [
              | inl j ↦ by_test freed
                  (λ b. omega (arith, home_left m w es fs n slot v freed file.housed p (p.left b), ap (λ (i : ℕ). times i (homes fs)) j.1))
                  (λ b. absurd (last.is_left q b k j.1))
              | inr j ↦ omega (arith, l, hc q, j.0)
            ];
      };
      rows = tuples_same m w fs (tuples_stay m w es fs n slot v freed file.housed p) ∙ (ap (λ (xs : List Pair). tuples m xs) items ∙ tuples_drop m id es asc);
      found = sym (ap (λ (o : Option (List ℕ)). is_some o) (tuples_find m id es ∙ ap (λ (o : Option ℕ). option_map (λ k. tuple_of m k) o) found));
      stays = λ q k l. last.kept q k (λ b z. absurd (omega (arith, l, owns q, ap (λ (i : ℕ). live w i) z, live_none w n (p.gone b).freed)));
      stay = λ i span d l.
          let leads = leads_on id i (span.page * 65536 + l.slot) es fs items d l.leads in
          record { slot = l.slot; leads = leads; has = has_take m w es fs n slot v freed file.housed p i span.page l.slot span.start span.length l.leads leads l.has };
      keeps = keeps_of m w (file_pages m f) (file_pages w g)
          (λ q l z.
          let c = pages_count m f q in
          let d : same q n ≡ 0 = elim (same_cases q n) [ inl j ↦ absurd (omega (arith, z, c, home_n, ap (λ (k : ℕ). times k (homes es)) j.1)) | inr j ↦ j.0 ] in
          e.others q d ∙ r.keeps.others q l (omega (arith, z, c)))
          moved;
    }
  where
    left_from : (x m w : Store) (n slot : ℕ) → x n ≡ m n → Left x w n slot → Left m w n slot
    left_from x m w n slot k l =
        let P : Option (List ℕ) → Type 0 = λ o. Rattle.tuple_file.specs.Page.Cleared (bytes_of o) (bytes_of (w n)) slot in
        record { is_live = l.is_live; cleared = subst P k l.cleared; one = l.one }

    gone_from : (x m w : Store) (n slot : ℕ) → x n ≡ m n → Gone x w n slot → Gone m w n slot
    gone_from x m w n slot k l =
        let P : Option (List ℕ) → Type 0 = λ o. (i : ℕ) → i ≢ slot → tuple_at (bytes_of o) i ≡ [] in
        record { freed = l.freed; bare = subst P k l.bare }

-- the id wasn't there: the file is as it was, though its tree may lie elsewhere
pub take_none : (m w : Store) (f : TupleFile) (u : Tree) (id : ℕ) → IsFile m f → Removed m w f.tree u id None → TupleTaken m w f (record { tree = u; newest = f.newest }) id false
take_none m w f u id file r =
    let es : List Pair = tree_items m f.tree in
    let fs : List Pair = tree_items w u in
    let g : TupleFile = record { tree = u; newest = f.newest } in
    let found : find_item id es ≡ None = sym r.found in
    let hc : (q : ℕ) → times q (homes fs) ≡ times q (homes es) = λ q. ap (λ (xs : List Pair). times q (homes xs)) r.items ∙ times-drop_none (λ i. page_of i.1) q id es found in
    let pc : (y : ℕ) → times y (tuple_places fs) ≡ times y (tuple_places es) = λ y. ap (λ (xs : List Pair). times y (tuple_places xs)) r.items ∙ times-drop_none (λ i. i.1) y id es found in
    let home : (q : ℕ) → 1 ≤ times q (homes es) → w q ≡ m q = λ q l. (let k = home_live m f q file l in r.keeps.others q k.0 k.1) in
    let moved : (q : ℕ) → live w q + times q (file_pages m f) ≡ live m q + times q (file_pages w g) = λ q. omega (arith, r.keeps.moved q, pages_count m f q, pages_count w g q, hc q) in
    record {
      file = record {
        tree = r.tree;
        owns = owns_then m w (file_pages m f) (file_pages w g) file.owns moved;
        housed = record {
          sound = λ q l.
              let k : 1 ≤ times q (homes es) = omega (arith, l, hc q) in
              let P : Option (List ℕ) → Type 0 = λ o. IsTuples (bytes_of o) in
              subst P (sym (home q k)) (file.housed.sound q k);
          led = λ v l.
              let k : 1 ≤ times (page_of v) (homes es) = omega (arith, l, hc (page_of v)) in
              omega (arith, pc v, file.housed.led v k, ap (λ (b : List ℕ). some b) (tuple_same m w v (home (page_of v) k)));
        };
        newest = λ q e. omega (arith, file.newest q e, hc q);
      };
      rows = tuples_same m w fs (λ v l. tuple_same m w v (home (page_of v) (omega (arith, l, pc v, times-up v es))))
          ∙ (ap (λ (xs : List Pair). tuples m xs) r.items ∙ tuples_drop m id es file.tree.at.ascending);
      found = sym (ap (λ (o : Option (List ℕ)). is_some o) (tuples_find m id es ∙ ap (λ (o : Option ℕ). option_map (λ k. tuple_of m k) o) found));
      stays = λ q k l. k;
      stay = λ i span d l.
          let R : Option (List ℕ) → Type 0 = λ o. HasAt (bytes_of o) l.slot span.start span.length in
          record {
            slot = l.slot;
            leads = leads_on id i (span.page * 65536 + l.slot) es fs r.items d l.leads;
            has = subst R (sym (home span.page (leads_home es i span.page l.slot (omega (arith, l.has.there)) l.leads))) l.has;
          };
      keeps = keeps_of m w (file_pages m f) (file_pages w g) (λ q l z. r.keeps.others q l (omega (arith, z, pages_count m f q))) moved;
    }

-- the tuple that is to be taken lies in a page of tuples
pub taken_sound : (m x : Store) (f : TupleFile) (u : Tree) (id n v : ℕ) → IsFile m f → Removed m x f.tree u id (Some v) → n ≡ page_of v → IsTuples (bytes_of (x n))
taken_sound m x f u id n v file r en =
    let es : List Pair = tree_items m f.tree in
    let l : 1 ≤ times n (homes es) = omega (arith, found_leads id v es (sym r.found), times-up v es, ap (λ (k : ℕ). times k (homes es)) en) in
    let k = home_live m f n file l in
    let P : Option (List ℕ) → Type 0 = λ o. IsTuples (bytes_of o) in
    subst P (sym (r.keeps.others n k.0 k.1)) (file.housed.sound n l)

kept_of : (old new : Option ℕ) (q n : ℕ) (freed : Bool) → old ≡ Some q → IfSome old (λ k. (freed ≡ true → k ≢ n) → new ≡ Some k) → (freed ≡ true → q ≢ n) → new ≡ Some q
kept_of old new q n freed e l = let P : Option ℕ → Type 0 = λ o. IfSome o (λ k. (freed ≡ true → k ≢ n) → new ≡ Some k) in subst P e l

pub newest_is : (old new : Option ℕ) (n : ℕ) (freed : Bool) → IfSome new (λ k. old ≡ Some k) → (freed ≡ true → IfSome new (λ k. k ≢ n))
    → IfSome old (λ k. (freed ≡ true → k ≢ n) → new ≡ Some k) → IsNewest old new n freed
newest_is old None n freed h k l = record { same_page = λ q e. absurd (none_some q (sym e)); is_left = λ q b e. absurd (none_some q (sym e)); kept = λ q e. kept_of old None q n freed e l }
newest_is old (Some p) n freed h k l = record {
  same_page = λ q e. h ∙ e;
  is_left = λ q b e z. k b (some_same p q e ∙ z);
  kept = λ q e. kept_of old (Some p) q n freed e l;
}

-- the same removal, by the id that was asked for and the answer that came
pub removed_as : (m x : Store) (t u : Tree) (key id : ℕ) (was is : Option ℕ) → key ≡ id → was ≡ is → Removed m x t u key was → Removed m x t u id is
removed_as m x t u key id was is ek ew r = let R : ℕ → Type 0 = λ k. Removed m x t u k was in let S : Option ℕ → Type 0 = λ o. Removed m x t u id o in subst S ew (subst R ek r)

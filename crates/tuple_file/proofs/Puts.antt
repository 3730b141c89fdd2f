-- A tuple is put: into a page, and into the file.
use Rattle.std.proofs.Common.{◌≡◌, ◌≢◌, ℕ, ◌+◌, ◌*◌, ◌<◌, ◌≤◌, suc, Bool, cond, List, [], ◌∷◌, ◌++◌, length, refl, sym, ◌∙◌, ap, ap₂, subst, inl, inr, arith}
use Rattle.std.specs.Prelude.{Option, None, Some, option_map}
use Rattle.std.proofs.lemmas.Bool.Decides.{leb_tells, eqb_tells}
use Rattle.code_btree.specs.declared.map.Tree.{Tree}
use Rattle.code_btree.specs.Node.{Pair}
use Rattle.code_btree.specs.Items.{find_item, items_below, items_above, put_item}
use Rattle.code_btree.specs.Tree.{Store, same, times, live, tree_items, tree_pages, IsTree}
use Rattle.code_btree.specs.Calls.{Inserted}
use Rattle.code_btree.specs.Calls as tree
use Rattle.code_btree.proofs.Lists.{same_cases, same_self, live_same}
use Rattle.code_btree.proofs.Orders.{lt_is, lt_not, eq_is, eq_not}
use Rattle.code_btree.proofs.Roots.{keeps_of}
use Rattle.code_btree.proofs.Frame.{frame}
use Rattle.tuple_file.specs.declared.file.TupleFile.{TupleFile}
use Rattle.tuple_file.specs.Page.{IsTuples, HasAt, some, Added}
use Rattle.tuple_file.specs.Rows.{of_id, with_id}
use Rattle.tuple_file.specs.File.{bytes_of, page_of, slot_of, tuple_of, tuples, tuple_places, homes, tuples_of, file_pages, IsHoused, IsFile}
use Rattle.tuple_file.specs.Calls.{FilePlanted, Put}
use Rattle.tuple_file.specs.Spans.{Lies}
use Rattle.tuple_file.specs.Steps.{Settled}
use Rattle.tuple_file.proofs.Counts.{times-up, times-put, page_back, slot_back, place_is, some_same, none_some}
use Rattle.tuple_file.proofs.Lists.{tuples_put, tuples_find, tuples_same}
use Rattle.tuple_file.proofs.Houses.{tuple_here, tuple_same, pages_count, home_live, leads_home, tree_apart, Ground, ground, led_all, owns_then}
use Rattle.tuple_file.proofs.Leads.{put_leads}

-- a tuple was put at place v, and no other tuple of the file was touched
record Placed (m w : Store) (es : List Pair) (n slot v : ℕ) (bytes : List ℕ) : Type 0 where
  page_is : page_of v ≡ n
  slot_is : slot_of v ≡ slot
  home : (q : ℕ) → 1 ≤ times q (homes es) → same q n ≡ 0 → w q ≡ m q
  start : ℕ
  added : Added (bytes_of (m n)) (bytes_of (w n)) bytes slot start
  all : (y : ℕ) → page_of y ≡ n → times y (tuple_places es) ≡ some (tuple_of m y)

-- the place had no tuple, so no id led there
unled : (m w : Store) (es : List Pair) (n slot v : ℕ) (bytes : List ℕ) → Placed m w es n slot v bytes → times v (tuple_places es) ≡ 0
unled m w es n slot v bytes p = p.all v p.page_is ∙ ap (λ (b : List ℕ). some b) (tuple_here m v n slot p.page_is p.slot_is ∙ p.added.was)

-- another place of the page
other_place : (m w : Store) (es : List Pair) (n slot v : ℕ) (bytes : List ℕ) → Placed m w es n slot v bytes → (y : ℕ) → page_of y ≡ n → slot_of y ≢ slot → tuple_of w y ≡ tuple_of m y
other_place m w es n slot v bytes p y e d = tuple_here w y n (slot_of y) e refl ∙ (p.added.others (slot_of y) d ∙ sym (tuple_here m y n (slot_of y) e refl))

-- one page and one slot are one place
pub one_place : (y v n slot : ℕ) → page_of y ≡ n → slot_of y ≡ slot → page_of v ≡ n → slot_of v ≡ slot → y ≡ v
one_place y v n slot a b c d = place_is y n slot a b ∙ sym (place_is v n slot c d)

pub apart_slots : (y v slot : ℕ) → slot_of v ≡ slot → slot_of y ≢ slot → same y v ≡ 0
apart_slots y v slot s d = elim (same_cases y v) [ inl i ↦ absurd (d (ap (λ (k : ℕ). slot_of k) i.1 ∙ s)) | inr i ↦ i.0 ]

pub apart_pages : (y v n : ℕ) → page_of v ≡ n → same (page_of y) n ≡ 0 → same y v ≡ 0
apart_pages y v n s d = elim (same_cases y v) [ inl i ↦ absurd (omega (arith, d, same_self n, ap (λ (k : ℕ). same k n) (ap (λ (k : ℕ). page_of k) i.1 ∙ s))) | inr i ↦ i.0 ]

-- the tuples to which ids led stay
tuples_stay : (m w : Store) (es : List Pair) (n slot v : ℕ) (bytes : List ℕ) → Placed m w es n slot v bytes → (y : ℕ) → 1 ≤ times y (tuple_places es) → tuple_of w y ≡ tuple_of m y
tuples_stay m w es n slot v bytes p y l = elim (same_cases (page_of y) n) [
  | inl j ↦ elim (eqb_tells (slot_of y) slot) [
    | inl z ↦ absurd (omega (arith, l, unled m w es n slot v bytes p, ap (λ (k : ℕ). times k (tuple_places es)) (one_place y v n slot j.1 z.1 p.page_is p.slot_is)))
    | inr z ↦ other_place m w es n slot v bytes p y j.1 z.1
  ]
  | inr j ↦ tuple_same m w y (p.home (page_of y) (omega (arith, l, times-up y es)) j.0)
]

houses_put : (m w : Store) (es fs : List Pair) (n slot v : ℕ) (bytes : List ℕ) → IsHoused m es → Placed m w es n slot v bytes → 1 ≤ length bytes
    → ((q : ℕ) → times q (homes fs) ≡ same q n + times q (homes es)) → ((y : ℕ) → times y (tuple_places fs) ≡ same y v + times y (tuple_places es)) → IsHoused w fs
houses_put m w es fs n slot v bytes h p size hc pc = record {
  sound = λ q l.
      let P : Option (List ℕ) → Type 0 = λ o. IsTuples (bytes_of o) in
      let Q : ℕ → Type 0 = λ k. IsTuples (bytes_of (w k)) in
      elim (same_cases q n) [
        | inl j ↦ subst Q (sym j.1) p.added.sound
        | inr j ↦ let k : 1 ≤ times q (homes es) = omega (arith, l, hc q, j.0) in subst P (sym (p.home q k j.0)) (h.sound q k)
      ];
  led = λ y l. elim (same_cases (page_of y) n) [
    | inl j ↦ elim (eqb_tells (slot_of y) slot) [
      | inl z ↦
          let e : y ≡ v = one_place y v n slot j.1 z.1 p.page_is p.slot_is in
          let one : some (tuple_of w y) ≡ 1 = ap (λ (b : List ℕ). some b) (tuple_here w y n slot j.1 z.1 ∙ p.added.here) ∙ some_of bytes size in
          omega (arith, one, pc y, same_self v, ap (λ (k : ℕ). same k v) e, unled m w es n slot v bytes p, ap (λ (k : ℕ). times k (tuple_places es)) e)
      | inr z ↦ omega (arith, pc y, apart_slots y v slot p.slot_is z.1, p.all y j.1, ap (λ (b : List ℕ). some b) (other_place m w es n slot v bytes p y j.1 z.1))
    ]
    | inr j ↦
        let k : 1 ≤ times (page_of y) (homes es) = omega (arith, l, hc (page_of y), j.0) in
        omega (arith, pc y, apart_pages y v n p.page_is j.0, h.led y k, ap (λ (b : List ℕ). some b) (tuple_same m w y (p.home (page_of y) k j.0)))
  ];
}
  where
    some_of : (xs : List ℕ) → 1 ≤ length xs → some xs ≡ 1
    some_of [] k = absurd (omega arith)
    some_of (x ∷ xs) k = refl

-- a tuple lies where it lay
has_put : (m w : Store) (es : List Pair) (n slot v : ℕ) (bytes : List ℕ) → Placed m w es n slot v bytes → (i page at from count : ℕ) → find_item i es ≡ Some (page * 65536 + at)
    → HasAt (bytes_of (m page)) at from count → HasAt (bytes_of (w page)) at from count
has_put m w es n slot v bytes p i page at from count leads has = elim (same_cases page n) [
  | inl j ↦
      let P : ℕ → Type 0 = λ k. HasAt (bytes_of (m k)) at from count in
      let Q : ℕ → Type 0 = λ k. HasAt (bytes_of (w k)) at from count in
      subst Q (sym j.1) (p.added.stays at from count (subst P j.1 has))
  | inr j ↦
      let R : Option (List ℕ) → Type 0 = λ o. HasAt (bytes_of o) at from count in
      subst R (sym (p.home page (leads_home es i page at (omega (arith, has.there)) leads) j.0)) has
]

none_of : {A B : Type 0} (f : A → B) (o : Option A) → option_map f o ≡ None → o ≡ None
none_of f None h = refl
none_of f (Some x) h = absurd (none_some (f x) h)

-- the value that was put is found
find_above : (k : ℕ) (es zs : List Pair) → find_item k (items_below k es ++ zs) ≡ find_item k zs
find_above k [] zs = refl
find_above k (e ∷ es) zs = elim (leb_tells (suc e.0) k) [
  | inl x ↦ let n : e.0 ≢ k = omega (arith, x.1) in rw (lt_is e.0 k x.1, eq_not e.0 k n) (find_above k es zs)
  | inr x ↦ rw (lt_not e.0 k (omega (arith, x.1))) (find_above k es zs)
]

find_put : (k v : ℕ) (es : List Pair) → find_item k (put_item k v es) ≡ Some v
find_put k v es = find_above k es ((k, v) ∷ items_above k es) ∙ ap (λ (b : Bool). cond b (Some v) (find_item k (items_above k es))) (eq_is k k refl)

pub put_done : (m x w : Store) (f : TupleFile) (u : Tree) (id n slot start v : ℕ) (bytes : List ℕ) (was : Option ℕ) → IsFile m f → of_id id (tuples_of m f) ≡ None → 1 ≤ length bytes
    → Settled m x f.newest n slot start bytes → v ≡ n * 65536 + slot → Inserted x w f.tree u id v was → Put m w f (record { tree = u; newest = Some n }) id bytes
put_done m x w f u id n slot start v bytes was file fresh size s ev i =
    let es : List Pair = tree_items m f.tree in
    let ts : List ℕ = tree_pages m f.tree in
    let fs : List Pair = tree_items w u in
    let g : TupleFile = record { tree = u; newest = Some n } in
    let gr : Ground m f n = ground m f n file s.from in
    let t = frame m x f.tree (λ q l. s.others q (tree_apart m f n q gr.apart l)) in
    let none : find_item id es ≡ None = none_of (λ k. tuple_of m k) (find_item id es) (sym (tuples_find m id es) ∙ fresh) in
    let items : fs ≡ put_item id v es = i.items ∙ ap (λ (xs : List Pair). put_item id v xs) t.items in
    let small : slot < 65536 = omega (arith, s.added.small) in
    let page_is : page_of v ≡ n = ap (λ (k : ℕ). page_of k) ev ∙ page_back n slot small in
    let slot_is : slot_of v ≡ slot = ap (λ (k : ℕ). slot_of k) ev ∙ slot_back n slot small in
    let hc : (q : ℕ) → times q (homes fs) ≡ same q n + times q (homes es) = λ q. ap (λ (xs : List Pair). times q (homes xs)) items
    ∙ (times-put (λ e. page_of e.1) q id v es none ∙ ap (λ (k : ℕ). same q k + times q (homes es)) page_is) in
    let pc : (y : ℕ) → times y (tuple_places fs) ≡ same y v + times y (tuple_places es) = λ y. ap (λ (xs : List Pair). times y (tuple_places xs)) items ∙ times-put (λ e. e.1) y id v es none in
    let tp : (q : ℕ) → times q (tree_pages x f.tree) ≡ times q ts = λ q. ap (λ (ps : List ℕ). times q ps) t.pages in
    let wn : w n ≡ x n = i.keeps.others n s.is_live (tp n ∙ gr.apart) in
    let A : Option (List ℕ) → Type 0 = λ o. Added (bytes_of (m n)) (bytes_of o) bytes slot start in
    let p : Placed m w es n slot v bytes = record {
      page_is = page_is;
      slot_is = slot_is;
      home = λ q l d.
          let k = home_live m f q file l in
          i.keeps.others q (live_same m x q (s.others q d) ∙ k.0) (tp q ∙ k.1) ∙ s.others q d;
      start = start;
      added = subst A (sym wn) s.added;
      all = led_all m f n file gr;
    } in
    let moved : (q : ℕ) → live w q + times q (file_pages m f) ≡ live m q + times q (file_pages w g) = λ q. elim (same_cases q n) [
      | inl j ↦ omega (
        arith,
        i.keeps.moved q,
        tp q,
        pages_count m f q,
        pages_count w g q,
        hc q,
        j.0,
        s.is_live,
        gr.both,
        ap (λ (k : ℕ). live x k) j.1,
        ap (λ (k : ℕ). live m k) j.1,
        ap (λ (k : ℕ). times k (homes es)) j.1,
      )
      | inr j ↦ omega (arith, i.keeps.moved q, tp q, pages_count m f q, pages_count w g q, hc q, j.0, live_same m x q (s.others q j.0))
    ] in
    record {
      file = record {
        tree = i.tree;
        owns = owns_then m w (file_pages m f) (file_pages w g) file.owns moved;
        housed = houses_put m w es fs n slot v bytes file.housed p size hc pc;
        newest = λ q e. omega (arith, hc q, same_self n, ap (λ (k : ℕ). same k n) (some_same n q e));
      };
      rows = ap (λ (xs : List Pair). tuples w xs) items ∙ (tuples_put w id v es ∙ ap₂ (λ (b : List ℕ) (rs : List (ℕ × List ℕ)). with_id id b rs)
          (tuple_here w v n slot page_is slot_is ∙ p.added.here) (tuples_same m w es (tuples_stay m w es n slot v bytes p)));
      lies = ap (λ (xs : List Pair). option_map page_of (find_item id xs)) items ∙ (ap (λ (o : Option ℕ). option_map page_of o) (find_put id v es) ∙ ap (λ (k : ℕ). Some k) page_is);
      fills = λ q e room. ap (λ (k : ℕ). Some k) (sym (s.fills q e room));
      begins = λ q full e.
          let N : ℕ → Type 0 = λ k. m k ≡ None in
          subst N (some_same n q e) (elim s.from [ inl i ↦ absurd (full n i.0 i.1) | inr i ↦ i ]);
      stay = λ i span l.
          let place : ℕ = span.page * 65536 + l.slot in
          let P : List Pair → Type 0 = λ xs. find_item i xs ≡ Some place in
          record {
            slot = l.slot;
            leads = subst P (sym items) (put_leads id v i place es (λ e. none_some place (sym l.leads ∙ (ap (λ (k : ℕ). find_item k es) e ∙ none))) l.leads);
            has = has_put m w es n slot v bytes p i span.page l.slot span.start span.length l.leads l.has;
          };
      keeps = keeps_of m w (file_pages m f) (file_pages w g)
          (λ q l z.
          let c = pages_count m f q in
          let d : same q n ≡ 0 = elim (same_cases q n) [ inl j ↦ absurd (omega (arith, l, z, c, gr.both, ap (λ (k : ℕ). live m k) j.1, ap (λ (k : ℕ). times k (homes es)) j.1)) | inr j ↦ j.0 ] in
          i.keeps.others q (live_same m x q (s.others q d) ∙ l) (omega (arith, tp q, z, c)) ∙ s.others q d)
          moved;
    }

-- where the tuple lies that was put
pub put_lies : (m x w : Store) (f : TupleFile) (u : Tree) (id n slot start count v : ℕ) (bytes : List ℕ) (was : Option ℕ) → IsFile m f → count ≡ length bytes
    → Settled m x f.newest n slot start bytes → v ≡ n * 65536 + slot → Inserted x w f.tree u id v was
    → Lies w (record { tree = u; newest = Some n }) id (record { page = n; start = start; length = count })
put_lies m x w f u id n slot start count v bytes was file ec s ev i =
    let gr : Ground m f n = ground m f n file s.from in
    let t = frame m x f.tree (λ q l. s.others q (tree_apart m f n q gr.apart l)) in
    let wn : w n ≡ x n = i.keeps.others n s.is_live (ap (λ (ps : List ℕ). times n ps) t.pages ∙ gr.apart) in
    let H : Option (List ℕ) → Type 0 = λ o. HasAt (bytes_of o) slot start count in
    let C : ℕ → Type 0 = λ k. HasAt (bytes_of (x n)) slot start k in
    record {
      slot = slot;
      leads = ap (λ (xs : List Pair). find_item id xs) i.items ∙ (find_put id v (tree_items x f.tree) ∙ ap (λ (k : ℕ). Some k) ev);
      has = subst H (sym wn) (subst C (sym ec) s.added.has);
    }

-- a file of no tuples is its tree alone
pub planted : (m w : Store) (u : Tree) → tree.Planted m w u → FilePlanted m w (record { tree = u; newest = None })
planted m w u h =
    let g : TupleFile = record { tree = u; newest = None } in
    let c : (q : ℕ) → times q (file_pages w g) ≡ times q (tree_pages w u) = λ q. omega (arith, pages_count w g q, ap (λ (xs : List Pair). times q (homes xs)) h.items) in
    let no : (q : ℕ) → times q (homes (tree_items w u)) ≡ 0 = λ q. ap (λ (xs : List Pair). times q (homes xs)) h.items in
    let moved : (q : ℕ) → live w q + times q [] ≡ live m q + times q (file_pages w g) = λ q. omega (arith, h.keeps.moved q, c q) in
    record {
      file = record {
        tree = h.tree;
        owns = owns_then m w [] (file_pages w g) (λ q. omega arith) moved;
        housed = record { sound = λ q l. absurd (omega (arith, l, no q)); led = λ v l. absurd (omega (arith, l, no (page_of v))) };
        newest = λ q e. absurd (none_some q (sym e));
      };
      rows = ap (λ (xs : List Pair). tuples w xs) h.items;
      keeps = keeps_of m w [] (file_pages w g) (λ q l z. h.keeps.others q l z) moved;
    }

-- the tree stays while a tuple is put into a page
pub settled_tree : (m x : Store) (f : TupleFile) (n slot start : ℕ) (bytes : List ℕ) → IsFile m f → Settled m x f.newest n slot start bytes → IsTree x f.tree
settled_tree m x f n slot start bytes file s =
    let gr : Ground m f n = ground m f n file s.from in
    (frame m x f.tree (λ q l. s.others q (tree_apart m f n q gr.apart l))).tree file.tree

-- the newest page is one of tuples
pub newest_sound : (m : Store) (f : TupleFile) → IsFile m f → (q : ℕ) → f.newest ≡ Some q → IsTuples (bytes_of (m q))
newest_sound m f file q e = file.housed.sound q (file.newest q e)

-- A file's pages, counted; its live pages; what it is where its pages stay.
use Rattle.std.proofs.Common.{◌≡◌, ℕ, zero, suc, ◌+◌, ◌*◌, ◌<◌, ◌≤◌, ◌⊎◌, Bool, true, false, cond, List, [], ◌++◌, take, drop, min, refl, sym, ◌∙◌, ap, ap₂, subst, inl, inr, arith}
use Rattle.std.specs.Prelude.{Option, None, Some, nat_lt}
use Rattle.std.proofs.lemmas.Bool.Decides.{leb_tells}
use Rattle.code_btree.specs.Bytes.{piece}
use Rattle.code_btree.specs.Node.{Pair}
use Rattle.code_btree.specs.Items.{find_item}
use Rattle.code_btree.specs.Tree.{Store, same, times, live, tree_items, tree_pages}
use Rattle.code_btree.proofs.Lists.{same_cases, live_small, live_none, none_live, live_same, times-append}
use Rattle.code_btree.proofs.Frame.{frame}
use Rattle.tuple_file.specs.declared.file.TupleFile.{TupleFile}
use Rattle.tuple_file.specs.Page.{IsTuples, HasAt, slot_count, slot_start, length_in, tuple_at, some}
use Rattle.tuple_file.specs.File.{bytes_of, page_of, slot_of, tuple_of, tuples, tuple_places, homes, once, file_pages, IsFile}
use Rattle.tuple_file.specs.Calls.{FileUnmoved}
use Rattle.tuple_file.proofs.Counts.{times-once, times-up, found_leads, page_back}
use Rattle.tuple_file.proofs.Lists.{tuples_same}

pub by_test : {A : Type 0} (b : Bool) → (b ≡ false → A) → (b ≡ true → A) → A
by_test true f g = g refl
by_test false f g = f refl

take_none : (w : ℕ) → ◌≡◌ {A = List ℕ} (take w []) []
take_none zero = refl
take_none (suc w) = refl

drop_none : (a : ℕ) → ◌≡◌ {A = List ℕ} (drop a []) []
drop_none zero = refl
drop_none (suc a) = refl

-- no page, no tuple
pub tuple_none : (i : ℕ) → tuple_at [] i ≡ []
unfolding tuple_at
tuple_none i =
    let none : piece (length_in [] i) (slot_start [] i) [] ≡ [] = ap (λ (x : List ℕ). take (length_in [] i) x) (drop_none (slot_start [] i)) ∙ take_none (length_in [] i) in
    elim (nat_lt i (slot_count [])) as (λ b. cond b (piece (length_in [] i) (slot_start [] i) []) [] ≡ []) [ true ↦ none | false ↦ refl ]

-- the tuple at a place, by its page
pub tuple_here : (m : Store) (v n i : ℕ) → page_of v ≡ n → slot_of v ≡ i → tuple_of m v ≡ tuple_at (bytes_of (m n)) i
tuple_here m v n i p s = ap₂ (λ (a b : ℕ). tuple_at (bytes_of (m a)) b) p s

pub tuple_same : (m w : Store) (v : ℕ) → w (page_of v) ≡ m (page_of v) → tuple_of w v ≡ tuple_of m v
tuple_same m w v e = ap (λ (o : Option (List ℕ)). tuple_at (bytes_of o) (slot_of v)) e

pub pages_count : (m : Store) (f : TupleFile) (q : ℕ) → times q (file_pages m f) ≡ times q (tree_pages m f.tree) + min 1 (times q (homes (tree_items m f.tree)))
pages_count m f q =
    times-append q (tree_pages m f.tree) (once (homes (tree_items m f.tree))) ∙ ap (λ (k : ℕ). times q (tree_pages m f.tree) + k) (times-once q (homes (tree_items m f.tree)))

-- a page of tuples is live, and none of the tree's
pub home_live : (m : Store) (f : TupleFile) (q : ℕ) → IsFile m f → 1 ≤ times q (homes (tree_items m f.tree)) → (live m q ≡ 1) × (times q (tree_pages m f.tree) ≡ 0)
home_live m f q h l =
    let o = h.owns q in
    let c = pages_count m f q in
    let s = live_small m q in
    (omega (arith, o, c, s, l), omega (arith, o, c, s, l))

-- a page of the tree's is none to which an id leads
pub tree_apart : (m : Store) (f : TupleFile) (n q : ℕ) → times n (tree_pages m f.tree) ≡ 0 → 1 ≤ times q (tree_pages m f.tree) → same q n ≡ 0
tree_apart m f n q h l = elim (same_cases q n) [ inl j ↦ absurd (omega (arith, h, l, ap (λ (k : ℕ). times k (tree_pages m f.tree)) j.1)) | inr j ↦ j.0 ]

-- a page that is of the file, or not live
pub record Ground (m : Store) (f : TupleFile) (n : ℕ) : Type 0 where
  pub apart : times n (tree_pages m f.tree) ≡ 0
  pub both : live m n ≡ min 1 (times n (homes (tree_items m f.tree)))

pub ground : {R : Type 0} (m : Store) (f : TupleFile) (n : ℕ) → IsFile m f → ((f.newest ≡ Some n) × R) ⊎ (m n ≡ None) → Ground m f n
ground m f n h s = elim s [
  | inl e ↦ let l = h.newest n e.0 in let k = home_live m f n h l in record { apart = k.1; both = omega (arith, k.0, l) }
  | inr e ↦
      let z = live_none m n e in
      let o = h.owns n in
      let c = pages_count m f n in
      record { apart = omega (arith, z, o, c); both = omega (arith, z, o, c) }
]

-- each tuple of such a page has one id
pub led_all : (m : Store) (f : TupleFile) (n : ℕ) → IsFile m f → Ground m f n → (v : ℕ) → page_of v ≡ n → times v (tuple_places (tree_items m f.tree)) ≡ some (tuple_of m v)
led_all m f n h g v e = elim (leb_tells 1 (times n (homes (tree_items m f.tree)))) [
  | inl x ↦ h.housed.led v (omega (arith, x.1, ap (λ (k : ℕ). times k (homes (tree_items m f.tree))) e))
  | inr x ↦
      let none : m n ≡ None = none_live m n (omega (arith, x.1, g.both)) in
      let empty : some (tuple_of m v) ≡ 0 = ap (λ (b : List ℕ). some b) (tuple_here m v n (slot_of v) e refl
      ∙ (ap (λ (o : Option (List ℕ)). tuple_at (bytes_of o) (slot_of v)) none ∙ tuple_none (slot_of v))) in
      omega (arith, empty, x.1, times-up v (tree_items m f.tree), ap (λ (k : ℕ). times k (homes (tree_items m f.tree))) e)
]

pub owns_then : (m w : Store) (before after : List ℕ) → ((q : ℕ) → times q before ≤ live m q) → ((q : ℕ) → live w q + times q before ≡ live m q + times q after) → (q : ℕ) → times q after ≤ live w q
owns_then m w before after o h q = omega (arith, o q, h q)

-- a page to a slot of which an id leads is one of the file
pub leads_home : (es : List Pair) (i page slot : ℕ) → slot < 65536 → find_item i es ≡ Some (page * 65536 + slot) → 1 ≤ times page (homes es)
leads_home es i page slot small h = omega (arith, found_leads i (page * 65536 + slot) es h, times-up (page * 65536 + slot) es, ap (λ (k : ℕ). times k (homes es)) (page_back page slot small))

-- a file depends only on its own pages
pub unmoved : (m w : Store) (f : TupleFile) → ((q : ℕ) → 1 ≤ times q (file_pages m f) → w q ≡ m q) → FileUnmoved m w f
unmoved m w f h =
    let es : List Pair = tree_items m f.tree in
    let t = frame m w f.tree (λ q l. h q (omega (arith, l, pages_count m f q))) in
    let home : (q : ℕ) → 1 ≤ times q (homes es) → w q ≡ m q = λ q l. h q (omega (arith, l, pages_count m f q)) in
    let pages : file_pages w f ≡ file_pages m f = ap₂ (λ (ps : List ℕ) (xs : List Pair). ps ++ once (homes xs)) t.pages t.items in
    let same_homes : (q : ℕ) → times q (homes (tree_items w f.tree)) ≡ times q (homes es) = λ q. ap (λ (xs : List Pair). times q (homes xs)) t.items in
    record {
      rows = ap (λ (xs : List Pair). tuples w xs) t.items ∙ tuples_same m w es (λ v l. tuple_same m w v (home (page_of v) (omega (arith, l, times-up v es))));
      pages = pages;
      stay = λ i span l.
          let R : Option (List ℕ) → Type 0 = λ o. HasAt (bytes_of o) l.slot span.start span.length in
          record {
            slot = l.slot;
            leads = ap (λ (xs : List Pair). find_item i xs) t.items ∙ l.leads;
            has = subst R (sym (home span.page (leads_home es i span.page l.slot (omega (arith, l.has.there)) l.leads))) l.has;
          };
      file = λ i. record {
        tree = t.tree i.tree;
        owns = λ q. elim (leb_tells 1 (times q (file_pages m f))) [
          | inl x ↦ omega (arith, i.owns q, ap (λ (ps : List ℕ). times q ps) pages, live_same m w q (h q x.1))
          | inr x ↦ omega (arith, x.1, ap (λ (ps : List ℕ). times q ps) pages)
        ];
        housed = record {
          sound = λ q l.
              let k : 1 ≤ times q (homes es) = omega (arith, l, same_homes q) in
              let P : Option (List ℕ) → Type 0 = λ o. IsTuples (bytes_of o) in
              subst P (sym (home q k)) (i.housed.sound q k);
          led = λ v l.
              let k : 1 ≤ times (page_of v) (homes es) = omega (arith, l, same_homes (page_of v)) in
              ap (λ (xs : List Pair). times v (tuple_places xs)) t.items ∙ (i.housed.led v k ∙ sym (ap (λ (b : List ℕ). some b) (tuple_same m w v (home (page_of v) k))));
        };
        newest = λ q e. omega (arith, i.newest q e, same_homes q);
      };
    }

-- The texts of lines as the parts of which they are formed.
use Rattle.std.proofs.Common.{◌≡◌, ℕ, ◌-◌, ◌≤◌, List, [], ◌∷◌, ◌++◌, length, get_or, take, drop, map, refl, sym, ap, ◌∙◌, append_assoc, arith}
use Rattle.std.specs.Prelude.{codes}
use Rattle.std.specs.Fmt.{decimal}
use Rattle.sand_base.specs.Refusal.{refusal_number, refusal_word}
use Rattle.sand_base.specs.declared.rect.Rect.{Rect}
use Rattle.sand_base.specs.declared.refusal.Refusal.{Refusal}
use Rattle.z_code.specs.Block.{square_of}
use Rattle.z_code.specs.declared.block.Block.{Block}
use Rattle.sand_model.specs.OutputText.{detail, ids_text, leaf_text, refused_text, stats_text, tabbed}
use Rattle.output_text.specs.Joined.{led}
use Rattle.output_text.proofs.Listed.{first-rest, joined-first, joined-led}

-- bytes that are appended one after the other
appended : (s held new a rest : List ℕ) → held ≡ s ++ a → new ≡ held ++ rest → new ≡ s ++ (a ++ rest)
appended s held new a rest first second = second ∙ ap (λ t. t ++ rest) first ∙ append_assoc s a rest

-- the counts and the rows of a cursor, word by word
stats-parts : (blocks pairs geometries rows : ℕ)
    → codes "blocks " ++ (decimal blocks ++ (codes " pairs " ++ (decimal pairs ++ (codes " geometries " ++ (decimal geometries ++ (codes " rows " ++ decimal rows))))))
    ≡ stats_text (record { blocks = blocks; pairs = pairs; geometries = geometries }) rows
stats-parts blocks pairs geometries rows =
    sym
    (ap (λ t. codes "blocks " ++ t)
    (append_assoc (decimal blocks) (codes " ") _
    ∙ ap (λ t. decimal blocks ++ (codes " pairs " ++ t))
    (append_assoc (decimal pairs) (codes " ") _
    ∙ ap (λ t. decimal pairs ++ (codes " geometries " ++ t))
    (append_assoc (decimal geometries) (codes " ") (codes "rows " ++ decimal rows)))))

-- the same, appended word by word
pub stats-appended : (s0 s1 s2 s3 s4 s5 s6 s7 s8 : List ℕ) (blocks pairs geometries rows : ℕ) → s1 ≡ s0 ++ codes "blocks "
    → s2 ≡ s1 ++ decimal blocks → s3 ≡ s2 ++ codes " pairs " → s4 ≡ s3 ++ decimal pairs → s5 ≡ s4 ++ codes " geometries "
    → s6 ≡ s5 ++ decimal geometries → s7 ≡ s6 ++ codes " rows " → s8 ≡ s7 ++ decimal rows
    → s8 ≡ s0 ++ stats_text (record { blocks = blocks; pairs = pairs; geometries = geometries }) rows
stats-appended s0 s1 s2 s3 s4 s5 s6 s7 s8 blocks pairs geometries rows e1 e2 e3 e4 e5 e6 e7 e8 =
    let t7 = appended s6 s7 s8 (codes " rows ") (decimal rows) e7 e8 in
    let t6 = appended s5 s6 s8 (decimal geometries) _ e6 t7 in
    let t5 = appended s4 s5 s8 (codes " geometries ") _ e5 t6 in
    let t4 = appended s3 s4 s8 (decimal pairs) _ e4 t5 in
    let t3 = appended s2 s3 s8 (codes " pairs ") _ e3 t4 in
    let t2 = appended s1 s2 s8 (decimal blocks) _ e2 t3 in
    appended s0 s1 s8 (codes "blocks ") _ e1 t2 ∙ ap (λ t. s0 ++ t) (stats-parts blocks pairs geometries rows)

-- three numbers with a tab behind each, and what stands behind them
leaf-parts : (level x y : ℕ) (ids : List ℕ)
    → (decimal level ++ 9 ∷ decimal x ++ 9 ∷ decimal y ++ 9 ∷ []) ++ ids ≡ tabbed (decimal level ∷ decimal x ∷ decimal y ∷ ids ∷ [])
leaf-parts level x y ids = simp append_assoc refl

-- a leaf: the numbers of its level and its low corner, and its ids
pub leaf-whole : (b : Block) (square : Rect) (ids : List ℕ) → square ≡ square_of b
    → (decimal b.level ++ 9 ∷ decimal square.low.x ++ 9 ∷ decimal square.low.y ++ 9 ∷ []) ++ ids_text ids ≡ leaf_text b ids
leaf-whole b square ids is =
    leaf-parts b.level square.low.x square.low.y (ids_text ids)
    ∙ ap (λ s. tabbed (decimal b.level ∷ decimal s.low.x ∷ decimal s.low.y ∷ ids_text ids ∷ [])) is

-- the ids of a leaf: the first one, and the others behind spaces
pub ids-first : (ids : List ℕ) (id : ℕ) → 1 ≤ length ids → id ≡ get_or ids 0 0
    → decimal id ++ led (codes " ") (map decimal (take (length ids - 1) (drop 1 ids))) ≡ ids_text ids
ids-first [] id some is = absurd (omega (arith, some))
ids-first (first ∷ ids) id some is = joined-first (codes " ") decimal (first ∷ ids) id 0 some is

-- a refusal: its number, its word, and what stands behind them
pub refused-whole : (why : Refusal) (n : ℕ) (word : List ℕ) → n ≡ refusal_number why → word ≡ refusal_word why
    → (codes "refused " ++ decimal n) ++ (32 ∷ word ++ led (codes " ") (detail why)) ≡ refused_text why
refused-whole why n word number-is word-is =
    ap (λ m. (codes "refused " ++ decimal m) ++ (32 ∷ word ++ led (codes " ") (detail why))) number-is
    ∙ ap (λ w. (codes "refused " ++ decimal (refusal_number why)) ++ (32 ∷ w ++ led (codes " ") (detail why))) word-is
    ∙ sym (joined-led (codes " ") (codes "refused") (decimal (refusal_number why) ∷ refusal_word why ∷ detail why))

-- ids and values: the first id, and the others behind tabs
pub places-first : (ids : List ℕ) (id : ℕ) (values : List (List ℕ)) → 1 ≤ length ids → id ≡ get_or ids 0 0
    → decimal id ++ led (9 ∷ []) (map decimal (take (length ids - 1) (drop 1 ids)) ++ values) ≡ tabbed (map decimal ids ++ values)
places-first ids id values some is =
    sym (joined-led (9 ∷ []) (decimal id) (map decimal (take (length ids - 1) (drop 1 ids)) ++ values))
    ∙ ap (λ all. tabbed (map decimal all ++ values)) (sym (first-rest ids id 0 some is))

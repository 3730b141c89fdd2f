-- Steps inside a removal: neighbours that are balanced, and what becomes of the tree under one page.
use Rattle.std.specs.Prelude.{◌≡◌, ℕ, zero, suc, ◌+◌, ◌≤◌, ◌<◌, List, [], ◌∷◌, ◌++◌, take, drop, length, get_or, Bool, true, false, Option, None, Some, IfSome}
use Rattle.code_btree.specs.declared.remove.Shrunk.{Shrunk}
use Rattle.code_btree.specs.Node.{Node, inner, size_of}
use Rattle.code_btree.specs.Items.{Each}
use Rattle.code_btree.specs.Tree.{Store, items, all_items, least, same, live, Owns, few, Sound}
use Rattle.code_btree.specs.Steps.{Change, Alters, Writes}

-- pages a and b were written, which are read as these nodes, and no other page changed
pub record Shares (m w : Store) (a b : ℕ) (o p : Node) : Type 0 where
  pub before : live m a ≡ 1
  pub right_before : live m b ≡ 1
  pub now : live w a ≡ 1
  pub node : Rattle.code_btree.specs.Tree.node w a ≡ o
  pub right : live w b ≡ 1
  pub right_node : Rattle.code_btree.specs.Tree.node w b ≡ p
  pub others : (q : ℕ) → same q a ≡ 0 → same q b ≡ 0 → w q ≡ m q

-- page a was written, which is read as this node, page b is no more, and no other page changed
pub record Merges (m w : Store) (a b : ℕ) (o : Node) : Type 0 where
  pub before : live m a ≡ 1
  pub right_before : live m b ≡ 1
  pub now : live w a ≡ 1
  pub node : Rattle.code_btree.specs.Tree.node w a ≡ o
  pub gone : live w b ≡ 0
  pub others : (q : ℕ) → same q a ≡ 0 → same q b ≡ 0 → w q ≡ m q

-- two neighbours, of which each is at most one short
pub record Neighbours (m : Store) (level a b : ℕ) : Type 0 where
  pub sound : Sound m level a
  pub right_sound : Sound m level b
  pub owns : Owns m level (a ∷ (b ∷ []))
  pub size : few level ≤ size_of (Rattle.code_btree.specs.Tree.node m a) + 1
  pub right_size : few level ≤ size_of (Rattle.code_btree.specs.Tree.node m b) + 1

-- the second of two neighbours, where it is still there
abbrev pub left_over : ℕ → Option ℕ → List ℕ
left_over b None = []
left_over b (Some up) = b ∷ []

-- Two neighbours became one, or two with this least key under the second; all are filled, and have the pairs that the two had.
pub record Balances (m w : Store) (level a b : ℕ) (up : Option ℕ) : Type 0 where
  pub change : Change m w level (a ∷ (b ∷ [])) (a ∷ left_over b up)
  pub items : all_items w level (a ∷ left_over b up) ≡ all_items m level (a ∷ (b ∷ []))
  pub full : Each (λ c. few level ≤ size_of (Rattle.code_btree.specs.Tree.node w c)) (a ∷ left_over b up)
  pub key : IfSome up (λ k. k ≡ least w level b)

-- the least key after a removal: the one that was told, or the one of before
abbrev pub or_least : Option ℕ → ℕ → ℕ
or_least None before = before
or_least (Some k) before = k

-- A key taken from the tree under page n, which is one entry or one key less at most.
pub record RemovesUnder (m w : Store) (level n key : ℕ) (s : Shrunk) : Type 0 where
  pub alters : Alters m w level (n ∷ []) (n ∷ []) key [] s.was
  pub lost : size_of (Rattle.code_btree.specs.Tree.node m n) ≤ size_of (Rattle.code_btree.specs.Tree.node w n) + 1
  pub filled : s.short ≡ false → few level ≤ size_of (Rattle.code_btree.specs.Tree.node w n)
  pub least_key : few level ≤ size_of (Rattle.code_btree.specs.Tree.node m n) → least w level n ≡ or_least s.least (least m level n)

-- the keys of a page, after the least key under child `at` became another one
abbrev pub noted_keys : ℕ → Option ℕ → List ℕ → List ℕ
noted_keys at None ks = ks
noted_keys zero (Some k) ks = ks
noted_keys (suc i) (Some k) ks = take i ks ++ ((k ∷ []) ++ drop (suc i) ks)

-- the keys and the children of a page, after its children j and j + 1 were balanced
abbrev pub mended_keys : ℕ → Option ℕ → List ℕ → List ℕ
mended_keys j None ks = take j ks ++ ([] ++ drop (j + 1) ks)
mended_keys j (Some k) ks = take j ks ++ ((k ∷ []) ++ drop (j + 1) ks)

-- the children where child j and the next one became one, or stayed two
abbrev pub mended_children : ℕ → Option ℕ → List ℕ → List ℕ
mended_children j None cs = take (j + 1) cs ++ ([] ++ drop (j + 2) cs)
mended_children j (Some k) cs = cs

-- The children j and j + 1 of page n were balanced, and the page was written.
pub record Mends (m w : Store) (level n j : ℕ) (ks cs : List ℕ) (size : ℕ) : Type 0 where
  pub mid : Store
  pub up : Option ℕ
  pub inside : j + 1 < length cs
  pub balances : get_or ks j 0 ≡ least m level (get_or cs (j + 1) 0) → Neighbours m level (get_or cs j 0) (get_or cs (j + 1) 0) → Balances m mid level (get_or cs j 0) (get_or cs (j + 1) 0) up
  pub writes : Writes mid w n (inner (mended_keys j up ks) (mended_children j up cs))
  pub counted : size ≡ length (mended_keys j up ks)

-- the number of entries before a key was taken, by the value that it had
abbrev pub count_before : ℕ → Option ℕ → ℕ
count_before n None = n
count_before n (Some was) = n + 1

-- the root has no key left, and this only child; or it stays
abbrev pub FallsTo : Store → ℕ → ℕ → Bool → Option ℕ → Type 0
FallsTo m height n short None = short ≡ true → 2 ≤ height → 1 ≤ size_of (Rattle.code_btree.specs.Tree.node m n)
FallsTo m height n short (Some c) = (2 ≤ height) × (Rattle.code_btree.specs.Tree.node m n ≡ inner [] (c ∷ []))

-- The lines of the workload of n: two relations that are indexed and filled, rankings of the one, and a join of both.
use Rattle.std.specs.Prelude.{ℕ, zero, suc, ◌+◌, ◌*◌, ◌/◌, ◌%◌, List, [], ◌∷◌, ◌++◌, codes, min}
use Rattle.std.specs.Fmt.{decimal}
use Rattle.work_gen.specs.Draws.{state_after, draw}

-- a grid point as it is written
abbrev pub spot_text : ℕ → ℕ → List ℕ
spot_text x y = codes "(" ++ decimal x ++ codes " " ++ decimal y ++ codes ")"

-- a place with its population goes into the first relation
unfoldable pub point_line : ℕ → ℕ → ℕ → List ℕ
point_line x y pop = codes "insert p " ++ spot_text x y ++ codes ", " ++ decimal pop

-- a coordinate and a step of at most 255 from it, within the plane
abbrev pub stepped : ℕ → ℕ → ℕ
stepped x e = min 65535 (x + e % 256)

-- a short way goes into the second relation
unfoldable pub segment_line : ℕ → ℕ → ℕ → ℕ → List ℕ
segment_line x y e f = codes "insert s " ++ spot_text x y ++ codes "-" ++ spot_text (stepped x e) (stepped y f)

-- the ten places nearest to a point
unfoldable pub rank_line : ℕ → ℕ → List ℕ
rank_line x y = codes "show 10 rank p.at from " ++ spot_text x y

-- the three nearest of at least this population
unfoldable pub filter_line : ℕ → ℕ → ℕ → List ℕ
filter_line x y pop = codes "show 3 filter (rank p.at from " ++ spot_text x y ++ codes ") where 1.pop >= " ++ decimal pop

-- both relations are made and indexed
abbrev pub opening_lines : List (List ℕ)
opening_lines =
    codes "create p (at point, pop int)"
    ∷ codes "create s (way segment)"
    ∷ codes "index p.at"
    ∷ codes "index s.way"
    ∷ []

-- the nearest way of each place, as far as 100 of them, and what the join spent
abbrev pub closing_lines : List (List ℕ)
closing_lines =
    codes "open j = semi p.at s.way"
    ∷ codes "next j 100"
    ∷ codes "stats j"
    ∷ codes "close j"
    ∷ []

-- so many turns of inserts, each of a place and a way, drawn from this state on
abbrev pub insert_lines : ℕ → ℕ → List (List ℕ)
insert_lines zero s = []
insert_lines (suc turns) s =
    point_line (draw 1 s) (draw 2 s) (draw 3 s)
    ∷ segment_line (draw 4 s) (draw 5 s) (draw 6 s) (draw 7 s)
    ∷ insert_lines turns (state_after 7 s)

-- so many turns of rankings, each without and with a filter, drawn from this state on
abbrev pub rank_lines : ℕ → ℕ → List (List ℕ)
rank_lines zero s = []
rank_lines (suc turns) s =
    rank_line (draw 1 s) (draw 2 s)
    ∷ filter_line (draw 3 s) (draw 4 s) (draw 5 s)
    ∷ rank_lines turns (state_after 5 s)

-- the workload of n: the state begins at n, and each turn of inserts draws seven numbers
abbrev pub workload : ℕ → List (List ℕ)
workload n =
    opening_lines
    ++ insert_lines n n
    ++ rank_lines (n / 10 + 1) (state_after (n * 7) n)
    ++ closing_lines

-- How far a workload has come, and which lines are left.
use Rattle.std.specs.Prelude.{ℕ, ◌+◌, ◌*◌, ◌/◌, List, [], ◌∷◌, ◌++◌, drop}
use Rattle.work_gen.specs.Draws.{state_after, draw}
use Rattle.work_gen.specs.Workload.{segment_line, filter_line, opening_lines, closing_lines, insert_lines, rank_lines}
use Rattle.work_gen.specs.declared.script.Script.{Script}
use Rattle.work_gen.specs.declared.script.Stage.{Stage}
use Rattle.work_gen.specs.declared.script.Stage.TheVariants.{CreatePoints, CreateSegments, IndexPoints, IndexSegments, Point, Segment, Rank, Filter, Open, Next, Stats, Close, Over}

-- so many turns of inserts, then the rankings and the join of the workload of n
abbrev pub lines_from_inserts : ℕ → ℕ → ℕ → List (List ℕ)
lines_from_inserts turns n s =
    insert_lines turns s
    ++ rank_lines (n / 10 + 1) (state_after (turns * 7) s)
    ++ closing_lines

-- the lines from this one on, of the workload of n, where the next number is drawn from this state
abbrev pub lines_at : Stage → ℕ → ℕ → List (List ℕ)
lines_at CreatePoints n s = opening_lines ++ lines_from_inserts n n s
lines_at CreateSegments n s = drop 1 opening_lines ++ lines_from_inserts n n s
lines_at IndexPoints n s = drop 2 opening_lines ++ lines_from_inserts n n s
lines_at IndexSegments n s = drop 3 opening_lines ++ lines_from_inserts n n s
lines_at (Point later) n s = lines_from_inserts (later + 1) n s
lines_at (Segment later) n s =
    segment_line (draw 1 s) (draw 2 s) (draw 3 s) (draw 4 s) ∷ lines_from_inserts later n (state_after 4 s)
lines_at (Rank later) n s = rank_lines (later + 1) s ++ closing_lines
lines_at (Filter later) n s =
    filter_line (draw 1 s) (draw 2 s) (draw 3 s) ∷ (rank_lines later (state_after 3 s) ++ closing_lines)
lines_at Open n s = closing_lines
lines_at Next n s = drop 1 closing_lines
lines_at Stats n s = drop 2 closing_lines
lines_at Close n s = drop 3 closing_lines
lines_at Over n s = []

-- the lines that are left
abbrev pub lines_left : Script → List (List ℕ)
lines_left script = lines_at script.stage script.turns script.generator.state

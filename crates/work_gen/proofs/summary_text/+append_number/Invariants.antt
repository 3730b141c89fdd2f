use Rattle.work_gen.proofs.summary_text.+append_number.Given as goal

-- a tenth of the number is left
abbrev pub decreases-append_number : goal.decreases-append_number
decreases-append_number l = l.number

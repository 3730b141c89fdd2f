-- The events of a tape in memory as its calls keep them, and how its state is stored as a proof tells its values apart.
use Rattle.std.specs.Prelude.{ℕ, Bool, List, refl}
use Rattle.std.specs.Coded.{Coded, code_by, coded×, coded_ℕ, coded_bool, coded_list, coded_option}
use Rattle.sand_base.specs.Calls.{CallsState}
use Rattle.sand_journal.specs.MemTape.{TapeEvent, MemTapeState}

-- the code of a list of events
abbrev pub events_code : Coded (List TapeEvent)
events_code = coded_list (coded_option (coded× coded_ℕ (coded_list coded_ℕ)))

-- the code of the calls so far
abbrev pub tape_calls_code : Coded CallsState
tape_calls_code = code_by (List ℕ × (ℕ × ℕ)) (coded× (coded_list coded_ℕ) (coded× coded_ℕ coded_ℕ))
    (λ s. (s.fails, (s.made, s.faults))) (λ p. record { fails = p.0; made = p.1.0; faults = p.1.1 }) (λ _. refl)

-- the code of such a tape
abbrev pub mem_tape_code : Coded MemTapeState
mem_tape_code = code_by (List ℕ × (List TapeEvent × (Bool × CallsState))) (coded× (coded_list coded_ℕ) (coded× events_code (coded× coded_bool tape_calls_code)))
    (λ s. (s.first, (s.events, (s.started, s.calls)))) (λ p. record { first = p.0; events = p.1.0; started = p.1.1.0; calls = p.1.1.1 }) (λ _. refl)

-- What a join with k partners keeps of the rows that it gave: how many of each left id, and how many are to come.
use Rattle.std.specs.Prelude.{◌≡◌, ℕ, suc, ◌-◌, ◌<◌, List, get_or, set, Option, None, Some, Result, Ok, Err, refl}
use Rattle.std.specs.Coded.{Coded, code_by, coded×, coded_ℕ, coded_list}
use Rattle.page_pool.specs.declared.fault.PageFault.{PageFault}
use Rattle.best_first.specs.declared.hit.Hit.{Hit}

-- The most partners of a left row; at the place of each left id how many partners its row was given; and how many rows are to be given at most.
pub record PartnerCounts : Type 0 where
  pub most : ℕ
  pub given : List ℕ
  pub waiting : ℕ

-- how many partners the left row of this id was given
abbrev pub given_to : PartnerCounts → ℕ → ℕ
given_to counts id = get_or counts.given id 0

-- the left row of this id was given one partner more, and one row less is to come
abbrev pub gives_to : ℕ → PartnerCounts → PartnerCounts
gives_to id counts = record counts { given = set counts.given id (suc (given_to counts id)); waiting = counts.waiting - 1 }

-- A row is given whose left row had fewer than the most partners, and has one more from then on; any other answer leaves the counts as they were.
abbrev pub GivesPartner : PartnerCounts → PartnerCounts → Result (Option Hit) PageFault → Type 0
GivesPartner old new (Ok (Some hit)) = (given_to old hit.left < old.most) × (new ≡ gives_to hit.left old)
GivesPartner old new (Ok None) = new ≡ old
GivesPartner old new (Err fault) = new ≡ old

-- counts are stored as the triple of their parts
abbrev pub partner_counts_code : Coded PartnerCounts
partner_counts_code =
    code_by (ℕ × (List ℕ × ℕ)) (coded× coded_ℕ (coded× (coded_list coded_ℕ) coded_ℕ)) (λ s. (s.most, (s.given, s.waiting)))
    (λ p. record { most = p.0; given = p.1.0; waiting = p.1.1 }) (λ _. refl)

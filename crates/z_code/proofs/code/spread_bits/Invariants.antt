-- What the bits at hand are, from the highest place down.
use Rattle.std.proofs.Common.{◌≡◌, ◌-◌, ◌/◌, ◌^◌}
use Rattle.sand_base.specs.declared.TheConstants.{COORDINATE_BITS}
use Rattle.z_code.specs.Code.{spread_bits}
use Rattle.z_code.proofs.code.spread_bits.Given as goal

-- the code so far is that of the bits from this place up
abbrev pub invariant-places : goal.invariant-places
invariant-places l = l.code ≡ spread_bits (COORDINATE_BITS - l.place) (l.coordinate / 2 ^ l.place)

-- What the bits at hand are, from the highest place down.
use Rattle.std.proofs.Common.{◌≡◌, ◌-◌, ◌/◌, ◌^◌}
use Rattle.sand_base.specs.declared.TheConstants.{COORDINATE_BITS}
use Rattle.z_code.specs.Code.{even_bits}
use Rattle.z_code.proofs.code.even_bits.Given as goal

-- the coordinate so far is that of the places from this one up
abbrev pub invariant-places : goal.invariant-places
invariant-places l = l.coordinate ≡ even_bits (COORDINATE_BITS - l.place) (l.z / 4 ^ l.place)

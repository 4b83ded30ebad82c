use Rattle.std.proofs.Common.{rules, arith}
use Rattle.settlement.proofs.Lengths.{decimal_short, pair_short}
use Rattle.settlement.proofs.sheet.settle_sheet.Goals as goal

-- These six are given, since a wrong body is refused 30 s sooner with them.
pub returns-in-Moments-ByWeight : goal.returns-in-Moments-ByWeight
returns-in-Moments-ByWeight g c = search rules fits 100

pub returns-in-Moments-SwornFirst : goal.returns-in-Moments-SwornFirst
returns-in-Moments-SwornFirst g c = search rules fits 100

pub returns-in-Spells-ByWeight : goal.returns-in-Spells-ByWeight
returns-in-Spells-ByWeight g c = search rules fits 100

pub returns-in-Spells-SwornFirst : goal.returns-in-Spells-SwornFirst
returns-in-Spells-SwornFirst g c = search rules fits 100

pub returns-in-Dwellings-ByWeight : goal.returns-in-Dwellings-ByWeight
returns-in-Dwellings-ByWeight g c = search rules fits 100

pub returns-in-Dwellings-SwornFirst : goal.returns-in-Dwellings-SwornFirst
returns-in-Dwellings-SwornFirst g c = search rules fits 100

pub settle_as-requires : goal.settle_as-requires
settle_as-requires g c = (λ v. omega (arith, decimal_short v.at), λ x. omega (arith, decimal_short x))

pub settle_as-requires-in-Moments-SwornFirst : goal.settle_as-requires-in-Moments-SwornFirst
settle_as-requires-in-Moments-SwornFirst g c = (λ v. omega (arith, decimal_short v.at), λ x. pair_short 47 x.sworn x.weight)

pub settle_as-requires-in-Spells-ByWeight : goal.settle_as-requires-in-Spells-ByWeight
settle_as-requires-in-Spells-ByWeight g c = (λ v. pair_short 32 v.start v.end, λ x. omega (arith, decimal_short x))

pub settle_as-requires-in-Spells-SwornFirst : goal.settle_as-requires-in-Spells-SwornFirst
settle_as-requires-in-Spells-SwornFirst g c = (λ v. pair_short 32 v.start v.end, λ x. pair_short 47 x.sworn x.weight)

pub settle_as-requires-in-Dwellings-ByWeight : goal.settle_as-requires-in-Dwellings-ByWeight
settle_as-requires-in-Dwellings-ByWeight g c = (λ v. pair_short 32 v.east v.north, λ x. omega (arith, decimal_short x))

pub settle_as-requires-in-Dwellings-SwornFirst : goal.settle_as-requires-in-Dwellings-SwornFirst
settle_as-requires-in-Dwellings-SwornFirst g c = (λ v. pair_short 32 v.east v.north, λ x. pair_short 47 x.sworn x.weight)

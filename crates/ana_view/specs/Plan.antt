-- What a plan holds.
use Rattle.ana_view.specs.declared.plan.Reached.{Reached}
use Rattle.ana_view.specs.declared.plan.Reached.TheVariants.{Nothing, Everyone, Host}
use Rattle.ana_view.specs.View.{Planned, everyone, nothing, one_host}

abbrev pub planned : Reached → Planned
planned Nothing = nothing
planned (Everyone r) = everyone r
planned (Host r) = one_host r

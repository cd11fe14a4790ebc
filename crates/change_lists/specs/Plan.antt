-- What a plan holds.
use Rattle.change_lists.specs.declared.plan.Reached.{Reached}
use Rattle.change_lists.specs.declared.plan.Reached.TheVariants.{Nothing, Everyone, Host}
use Rattle.change_lists.specs.ActiveView.{Planned, everyone, nothing, one_host}

abbrev pub planned : Reached → Planned
planned Nothing = nothing
planned (Everyone r) = everyone r
planned (Host r) = one_host r

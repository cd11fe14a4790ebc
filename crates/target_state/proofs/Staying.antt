-- Where nothing ends, each controller stays as it is.
use Rattle.std.proofs.Common.{◌≡◌, ℕ, Bool, true, false, Option, Some, None, refl, sym}
use Rattle.std.specs.Prelude.{if◌then◌else◌}
use Rattle.std.specs.Option.{option_map}
use Rattle.nvt_config.specs.Configuration.{Configuration}
use Rattle.fabrics_connect.specs.declared.row.Row.{Row}
use Rattle.target_decision.specs.declared.controller.Controller.{Controller}
use Rattle.target_history.specs.declared.end_cause.EndCause.TheVariants as cause
use Rattle.target_history.specs.EndCause.{ends_controller}
use Rattle.target_history.specs.Occurrence.{row_kept}

pub nothing_gone : (config : Configuration) (c : ℕ) (row : Option Row) (own : Option Controller) → ends_controller cause.Nothing config c row own ≡ false
nothing_gone config c None own = refl
nothing_gone config c (Some row) own = refl

kept_same : (c : ℕ) (o : Option Row) → option_map (row_kept cause.Nothing c) o ≡ o
kept_same c None = refl
kept_same c (Some row) = refl

pub nothing_leaves : (gone : Bool) (c : ℕ) (o : Option Row) → gone ≡ false → o ≡ (if gone then None else option_map (row_kept cause.Nothing c) o)
nothing_leaves true c o none = cc
nothing_leaves false c o none = sym (kept_same c o)

pub nothing_goes : {A : Type 0} (gone : Bool) (o : Option A) → gone ≡ false → o ≡ (if gone then None else o)
nothing_goes true o none = cc
nothing_goes false o none = refl

-- The bound `Start` asks nothing of what files held: who meets it meets it whatever they held. So what is
-- proved over `S: Start` holds of the code at `Unknown`, for any bytes.
use Rattle.std.proofs.Common.{ℕ}
use seplogic.Ra.Ura.{Ura}
use mir.Syntax.{Dict}
use prog.Model.{Model}
use types.Logic.{Logic}
use contract.Running.{Running}
use denote.RattleType.{RattleType}
use Rattle.file_disk.specs.declared.start.Start.{Ghosts}
use Rattle.file_disk.specs.contracts.start.Start.TheBound.{Met}

pub any_held : {M : Type 1} {𝓤 : Ura M} (𝓛 : Logic 𝓤) (𝓜 : Model 𝓤 𝓛.H) (𝓡 : Running 𝓤 𝓛.H 𝓜) (S : RattleType) (known : Ghosts S.Denot) (methods : Dict) (held : ℕ → ℕ → ℕ)
    → Met 𝓛 𝓜 𝓡 𝓡.env S known methods → Met 𝓛 𝓜 𝓡 𝓡.env S (record known { held = held }) methods
any_held 𝓛 𝓜 𝓡 S known methods held met = record {}

-- Identify (Base 2.0, section 5.17).
use Rattle.std.specs.Prelude.{ℕ, ◌==◌, nat_lt, Bool, List, Option, Some, None, is_some, find, Result, Ok, Err, if◌then◌else◌}
use Rattle.config_lists.specs.Namespace.{is_named, is_nsid}
use Rattle.nvt_config.specs.Configuration.{Configuration}
use Rattle.nvt_config.specs.SeenBy.{seen_by}
use Rattle.nvt_fields.specs.declared.status.Status.{Status}
use Rattle.nvt_fields.specs.Status.{invalid_field, invalid_namespace_or_format}
use Rattle.pdu_codec.specs.declared.command.Identify.{Identify}
use Rattle.pdu_codec.specs.Sqe.{identify_of}
use Rattle.admin_queue.specs.declared.outcome.Effect.TheVariants as effect
use Rattle.admin_queue.specs.declared.payload.Payload.TheVariants as payload
use Rattle.admin_queue.specs.declared.payload.Structure.{Structure}
use Rattle.admin_queue.specs.declared.payload.Structure.TheVariants as structure
use Rattle.admin_queue.specs.Controller.{AdminController}
use Rattle.admin_queue.specs.Outcome.{Outcome, returned}

abbrev pub given_where : Bool → Structure → Result Structure Status
given_where test s = if test then Ok s else Err invalid_namespace_or_format

-- what a controller of this subsystem tells of its namespaces, by CNS: the structure of any that could be there, the
-- list of the active ones above an identifier, and the descriptors of an active one; this is the configuration as its host
-- sees it
abbrev pub structure_of : Configuration → List ℕ → ℕ → ℕ → Result Structure Status
structure_of seen subsystem cns nsid =
    if cns == 0x00 then given_where (is_nsid nsid) (structure.Namespace nsid) else
    if cns == 0x02 then given_where (nat_lt nsid 0xFFFFFFFE) (structure.ActiveList nsid) else
    if cns == 0x03 then given_where (is_some (find (is_named subsystem nsid) seen.namespaces)) (structure.Descriptors nsid) else
    Err invalid_field

abbrev pub structure_in : Option (List ℕ) → Configuration → ℕ → ℕ → Result Structure Status
structure_in None seen cns nsid = Err invalid_field
structure_in (Some subsystem) seen cns nsid = structure_of seen subsystem cns nsid

-- each controller tells of itself, and an I/O controller of namespaces too
abbrev pub structure_asked : Configuration → AdminController → Identify → Result Structure Status
structure_asked config c request =
    if request.cns == 0x01 then Ok structure.Controller else structure_in c.subsystem (seen_by config c.host) request.cns request.nsid

abbrev pub identified : Result Structure Status → List ℕ → Outcome
identified (Ok s) entry = returned (payload.Identify s) effect.Nothing entry
identified (Err status) entry = Err status

abbrev pub identify : Configuration → AdminController → List ℕ → Outcome
identify config c entry = identified (structure_asked config c (identify_of entry)) entry

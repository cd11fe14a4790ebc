-- The admin commands (Base 2.0, section 5), by their opcode.
use Rattle.std.specs.Prelude.{ℕ, ◌==◌, List, Err, if◌then◌else◌}
use Rattle.nvt_config.specs.Configuration.{Configuration}
use Rattle.nvt_fields.specs.Status.{invalid_opcode}
use Rattle.pdu_codec.specs.Sqe.{opcode_of}
use Rattle.admin_queue.specs.declared.outcome.Effect.TheVariants as effect
use Rattle.admin_queue.specs.Controller.{AdminController}
use Rattle.admin_queue.specs.EventRequest.{event_request}
use Rattle.admin_queue.specs.Features.{get_features, set_features}
use Rattle.admin_queue.specs.Identify.{identify}
use Rattle.admin_queue.specs.LogPage.{get_log_page}
use Rattle.admin_queue.specs.Outcome.{Outcome, done}
use Rattle.admin_queue.specs.Pages.{Pages}

-- what the command of this entry comes to on a controller that is ready: an Abort aborts nothing, and its result
-- says so
abbrev pub admin : Pages → Configuration → AdminController → List ℕ → Outcome
admin pages config c entry =
    if opcode_of entry == 0x02 then get_log_page pages c entry else
    if opcode_of entry == 0x06 then identify config c entry else
    if opcode_of entry == 0x08 then done 1 effect.Nothing else
    if opcode_of entry == 0x09 then set_features c entry else
    if opcode_of entry == 0x0A then get_features c entry else
    if opcode_of entry == 0x0C then event_request c entry else
    if opcode_of entry == 0x18 then done 0 effect.KeepAlive else
    Err invalid_opcode

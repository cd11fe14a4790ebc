-- Get Features and Set Features (Base 2.0, sections 5.15 and 5.27).
use Rattle.std.specs.Prelude.{ℕ, ◌%◌, ◌/◌, ◌^◌, ◌==◌, ◌&&◌, not, Bool, List, Option, Some, None, Err, if◌then◌else◌}
use Rattle.nvt_fields.specs.Status.{feature_not_saveable, invalid_field}
use Rattle.pdu_codec.specs.declared.command.Feature.{Feature}
use Rattle.pdu_codec.specs.Sqe.{feature_of}
use Rattle.event_queue.specs.Events.{mask_in}
use Rattle.admin_queue.specs.declared.update.NoticeUpdate.TheVariants as update
use Rattle.admin_queue.specs.declared.outcome.Effect.{Effect}
use Rattle.admin_queue.specs.declared.outcome.Effect.TheVariants as effect
use Rattle.admin_queue.specs.Controller.{AdminController}
use Rattle.admin_queue.specs.Outcome.{Outcome, done, refuse}

-- whether each half is a number of queues, 0's based
abbrev pub are_queues : ℕ → Bool
are_queues value = not (value % 2 ^ 16 == 0xFFFF) && not (value / 2 ^ 16 == 0xFFFF)

-- 8 submission and 8 completion queues, both 0's based; a discovery controller has no I/O queue
abbrev pub queues_on : Option (List ℕ) → Outcome
queues_on None = Err invalid_field
queues_on (Some subsystem) = done 0x00070007 effect.Nothing

-- it is the kind of controller that decides: no Set Features changes how many queues there are
abbrev pub get_queues : AdminController → Outcome
get_queues c = queues_on c.subsystem

-- whatever number is asked for, the answer is how many there are
abbrev pub set_queues : AdminController → ℕ → Outcome
set_queues c value = refuse (not (are_queues value)) invalid_field (get_queues c)

-- which kinds of events are enabled
abbrev pub configured : ℕ → Effect
configured mask = effect.Notices (update.Configured mask)

abbrev pub set_by : AdminController → Feature → Outcome
set_by c feature =
    if feature.fid == 0x07 then set_queues c feature.value else
    if feature.fid == 0x0B then done 0 (configured feature.value) else
    if feature.fid == 0x0F then done 0 (effect.KeepAliveTimeout feature.value) else
    Err invalid_field

-- the number of queues (07h), Asynchronous Event Configuration (0Bh) and the Keep Alive Timer (0Fh), none of which is
-- saved
abbrev pub set_features : AdminController → List ℕ → Outcome
set_features c entry = refuse (feature_of entry).save feature_not_saveable (set_by c (feature_of entry))

-- a feature has one value, that in force: which of its values Select asks for is not looked at
abbrev pub get_features : AdminController → List ℕ → Outcome
get_features c entry =
    if (feature_of entry).fid == 0x07 then get_queues c else
    if (feature_of entry).fid == 0x0B then done (mask_in c.notices.events) effect.Nothing else
    if (feature_of entry).fid == 0x0F then done c.kato effect.Nothing else
    Err invalid_field

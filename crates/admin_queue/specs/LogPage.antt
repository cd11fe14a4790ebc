-- Get Log Page (Base 2.0, section 5.16).
use Rattle.std.specs.Prelude.{ℕ, ◌+◌, ◌*◌, ◌%◌, not, ◌==◌, ◌||◌, nat_lt, List, length, Option, Some, None, Err}
use Rattle.admin_queue.specs.declared.update.NoticeUpdate.{NoticeUpdate}
use Rattle.admin_queue.specs.declared.update.NoticeUpdate.TheVariants as update
use Rattle.nvt_fields.specs.Status.{invalid_field, invalid_log_page}
use Rattle.pdu_codec.specs.declared.command.GetLogPage.{GetLogPage}
use Rattle.pdu_codec.specs.Sqe.{get_log_page_of}
use Rattle.admin_queue.specs.declared.log.LogPage.{LogPage}
use Rattle.admin_queue.specs.declared.outcome.Effect.TheVariants as effect
use Rattle.admin_queue.specs.declared.payload.Payload.TheVariants as payload
use Rattle.admin_queue.specs.Controller.{AdminController}
use Rattle.admin_queue.specs.Log.{kind_of, page_of_lid, read_whole}
use Rattle.admin_queue.specs.Outcome.{Outcome, refuse, returned}
use Rattle.admin_queue.specs.Pages.{Pages, log_page_bytes}

-- what a read of this page makes of what its host is to be told
abbrev pub read_update : LogPage → GetLogPage → NoticeUpdate
read_update page request = update.Read (kind_of page) request.rae (read_whole page request.offset (4 * (request.numd + 1)))

-- what a read of this page comes to, where these are its bytes: it may begin up to the page's end
abbrev pub read_page : LogPage → List ℕ → GetLogPage → List ℕ → Outcome
read_page page bytes request entry =
    let dwords = request.numd + 1 in
    refuse (nat_lt 131072 (4 * dwords) || (not (request.offset % 4 == 0) || nat_lt (length bytes) request.offset)) invalid_field
    (returned (payload.LogPage (record { page = page; offset = request.offset; dwords = dwords })) (effect.Notices (read_update page request)) entry)

abbrev pub read_known : Option LogPage → Pages → AdminController → GetLogPage → List ℕ → Outcome
read_known None pages c request entry = Err invalid_log_page
read_known (Some page) pages c request entry = read_page page (log_page_bytes page pages c) request entry

-- what a read of a log page of this controller comes to
abbrev pub get_log_page : Pages → AdminController → List ℕ → Outcome
get_log_page pages c entry =
    let request = get_log_page_of entry in
    read_known (page_of_lid c.subsystem request.lid request.lsp) pages c request entry

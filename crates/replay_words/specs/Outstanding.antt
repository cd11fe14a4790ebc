-- The commands that a host has sent on a connection and that are not answered yet.
use Rattle.std.specs.Prelude.{ℕ, ◌+◌, ◌-◌, ◌==◌, Bool, List, [], ◌∷◌, ◌++◌, length, drop, reverse, slice_get, nat_lt, Option, Some, None, option_map, if◌then◌else◌}
use Rattle.std.specs.List.{position, remove}
use Rattle.pdu_codec.specs.Sqe.{cid_of}
use Rattle.pdu_words.specs.declared.command.QueueKind.{QueueKind}
use Rattle.pdu_words.specs.declared.command.QueueKind.TheVariants as queue
use Rattle.pdu_words.specs.declared.command.Command.{Command}
use Rattle.pdu_words.specs.declared.command.Command.TheVariants as command
use Rattle.pdu_words.specs.declared.subject.Subject.{Subject}
use Rattle.pdu_words.specs.declared.subject.Which.{Which}
use Rattle.pdu_words.specs.declared.subject.Which.TheVariants.{Oldest, Newest}
use Rattle.replay_words.specs.declared.outstanding.Sent.{Sent}
use Rattle.pdu_words.specs.Command.{command_of}

-- the queue that the last Connect asked for, and the commands, the oldest first
pub record Outstanding : Type 0 where
  pub queue : QueueKind
  pub sent : List Sent

abbrev pub none_outstanding : Outstanding
none_outstanding = record { queue = queue.Admin; sent = [] }

-- 1,024 commands are kept: the oldest is forgotten before one more
abbrev pub remembered : List Sent → Sent → List Sent
remembered sent new = (if nat_lt (length sent) 1024 then sent else drop 1 sent) ++ new ∷ []

-- a Connect names the queue of the commands after it: QID 0 is the admin queue
abbrev pub queue_after : Command → QueueKind → QueueKind
queue_after (command.Connect qid) q = if qid == 0 then queue.Admin else queue.Io
queue_after _ q = q

-- one more command, of this submission queue entry
abbrev pub sent_after : List ℕ → Outstanding → Outstanding
sent_after entry o =
    let c = command_of o.queue entry in
    record { queue = queue_after c o.queue; sent = remembered o.sent (record { cid = cid_of entry; command = c }) }

abbrev pub has_cid : ℕ → Sent → Bool
has_cid cid sent = sent.cid == cid

-- where the oldest command with this CID stands, and the newest
abbrev pub first_place_of : ℕ → List Sent → Option ℕ
first_place_of cid sent = position (has_cid cid) sent

-- of several with this CID the one sent last, since the oldest stands first
abbrev pub last_place_of : ℕ → List Sent → Option ℕ
last_place_of cid sent = option_map (λ behind. length sent - 1 - behind) (position (has_cid cid) (reverse sent))

abbrev pub place_by : Which → ℕ → List Sent → Option ℕ
place_by Oldest cid sent = first_place_of cid sent
place_by Newest cid sent = last_place_of cid sent

-- a CID alone may be that of several commands, where a host uses it twice: the subject says which of them
abbrev pub place_of : Subject → List Sent → Option ℕ
place_of subject sent = place_by subject.which subject.cid sent

abbrev pub command_at : Option ℕ → List Sent → Option Command
command_at None sent = None
command_at (Some place) sent = option_map (λ (s : Sent). s.command) (slice_get sent place)

abbrev pub behind_at : Option ℕ → List Sent → List Sent
behind_at None sent = sent
behind_at (Some place) sent = drop (place + 1) sent

abbrev pub without_at : Option ℕ → List Sent → List Sent
without_at None sent = sent
without_at (Some place) sent = remove sent place

-- the command that a PDU speaks of, and the others
abbrev pub command_of_subject : Subject → List Sent → Option Command
command_of_subject subject sent = command_at (place_of subject sent) sent

abbrev pub without_subject : Subject → List Sent → List Sent
without_subject subject sent = without_at (place_of subject sent) sent

-- the commands that were sent after it
abbrev pub behind_subject : Subject → List Sent → List Sent
behind_subject subject sent = behind_at (place_of subject sent) sent

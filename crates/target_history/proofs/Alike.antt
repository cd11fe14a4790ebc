-- What a connection is sent depends on what happened to it alone, and on what its worlds show it.
use Rattle.std.proofs.Common.{◌≡◌, ℕ, Bool, true, false, ◌||◌, ◌&&◌, List, [], ◌∷◌, ◌++◌, Option, Some, None, refl, sym, ap, ◌∙◌, append-nil}
use Rattle.std.specs.Prelude.{if◌then◌else◌, not, ◌+◌, ◌==◌, length, Result, Ok, Err}
use Rattle.data_transfer.specs.declared.fault.DataFault.{DataFault}
use Rattle.data_transfer.specs.declared.transfer.Progress.{Progress}
use Rattle.data_transfer.specs.declared.transfer.Progress.TheVariants as progress
use Rattle.data_transfer.specs.Part.{Part, data_answer}
use Rattle.pdu_codec.specs.declared.data_head.DataHead.{DataHead}
use Rattle.admin_queue.specs.declared.payload.Payload.{Payload}
use Rattle.admin_queue.specs.Controller.{AdminController}
use Rattle.admin_queue.proofs.Asking.{answered_alike}
use Rattle.fabrics_connect.specs.declared.decision.Decision as connect_decision
use Rattle.fabrics_connect.specs.declared.row.Row.{Row}
use Rattle.fabrics_connect.specs.Command.{Parameters, parameters_of}
use Rattle.fabrics_connect.specs.Connect.{admitted, begun, connect, joined_by, names_verdict, permission_verdict}
use Rattle.io_queue.specs.declared.reply.DataFormat.{DataFormat}
use Rattle.io_queue.specs.Act.{DiskOutcome}
use Rattle.io_queue.proofs.Deciding.{begun_alike, finished_alike}
use Rattle.nvt_fields.specs.declared.pdu_type.PduType.{PduType}
use Rattle.event_queue.specs.declared.changes.ViewChanges.{ViewChanges}
use Rattle.event_queue.specs.declared.completion.Completion.{Completion}
use Rattle.event_queue.specs.Events.{edit_answers}
use Rattle.admin_queue.specs.Notices.{NoticeState}
use Rattle.nvt_fields.specs.declared.pdu_type.PduType.TheVariants.{IcReq, IcResp, H2cTermReq, C2hTermReq, CapsuleCmd, CapsuleResp, H2cData, C2hData, R2t}
use Rattle.nvt_fields.specs.Status.{command_sequence_error}
use Rattle.pdu_codec.specs.Sqe.{fctype_of, opcode_of}
use Rattle.pdu_cut.specs.Front.{Front, incomplete, whole, faulty}
use Rattle.pdu_cut.specs.Pdu.{Pdu, data_part}
use Rattle.target_decision.specs.declared.decision.ReplyAnswer.{ReplyAnswer}
use Rattle.target_decision.specs.declared.decision.ReplyAnswer.TheVariants as answer
use Rattle.target_decision.specs.declared.decision.Decision.{Decision}
use Rattle.target_decision.specs.declared.decision.Decision.TheVariants as decision
use Rattle.target_decision.specs.declared.queue.SubmissionQueue.{SubmissionQueue}
use Rattle.target_decision.specs.declared.session.ConnectionState.{ConnectionState}
use Rattle.target_decision.specs.declared.session.Role.{Role}
use Rattle.target_decision.specs.declared.session.Role.TheVariants.{Admin, Io}
use Rattle.target_decision.specs.declared.session.Session.{Session}
use Rattle.target_decision.specs.declared.transfer.WaitingCommand.{WaitingCommand}
use Rattle.target_decision.specs.declared.session.Session.TheVariants.{Opened, Initialized, Connected, Ended}
use Rattle.target_decision.specs.Capsule.{admin_at, admin_by, command_in, connect_type, fabrics_opcode, finished, finished_by, finished_of, first_command, io_begun, io_at, io_by, io_finished, io_of, is_ready_at, on_admin_queue, owed, queue_command}
use Rattle.target_decision.specs.Carry.{brought_by}
use Rattle.target_decision.specs.Connect.{answered, connect_on}
use Rattle.target_decision.specs.Decision.{Brought, completed, data_of, decide, decide_in, entry_of, format_of, next_by, operation_in, operation_of, payload_at, payload_of, received_by, reply_wire, said_by, sent_by, wire_of}
use Rattle.target_decision.specs.Outcome.{Outcome, refuse, refused}
use Rattle.target_decision.specs.Session.{is_ended}
use Rattle.target_decision.specs.Transfer.{Tags, h2c_of, head_in}
use Rattle.target_decision.specs.Tell.{completion_pdus}
use Rattle.target_decision.specs.World.{World, admin_controller, admin_controller_of}
use Rattle.target_history.specs.Event.{Event, front_in, gives_up, disk_outcome_in, opens, steps}
use Rattle.target_history.specs.Occurrence.{Occurrence, Telling, completed_by, decided_on, operation_decided, replies_to, sends, sends_on, telling, told_at}
use Rattle.target_history.specs.History.{sent}
use Rattle.target_history.specs.Laws.{AdminAlike, AreSeenAlike, AreToldAlike, ConnectAlike, DiskAlike, HappenedAlike, IoAlike, IoSeen, RoleAlike, SameFor, SentByOwnAlone, SessionAlike, SubsystemAlike, WorldAlike, changes_at, changes_of, io_seen, is_command, is_edit, is_of, own}
use Rattle.target_history.proofs.Telling.{no_edit_made, untold}

-- ---- a Connect

last_alike : (admin : Bool) (v w : World) (port : ℕ) (p : Parameters) → (p.qid == 0) ≡ admin → ConnectAlike v w port p
    → (if admin then begun v.row p else joined_by port p (v.row p.cntlid)) ≡ (if admin then begun w.row p else joined_by port p (w.row p.cntlid))
unfolding begun
last_alike true v w port p is h = rw (h.free is) refl
last_alike false v w port p is h = rw (h.named is) refl

names_alike : (v w : World) (port : ℕ) (p : Parameters) → ConnectAlike v w port p → names_verdict v.config port p ≡ names_verdict w.config port p
unfolding names_verdict
names_alike v w port p h = rw h.served refl

permission_alike : (v w : World) (port : ℕ) (p : Parameters) → ConnectAlike v w port p → permission_verdict v.config port p ≡ permission_verdict w.config port p
unfolding permission_verdict
permission_alike v w port p h = rw h.used refl

admitted_alike : (v w : World) (port : ℕ) (p : Parameters) → ConnectAlike v w port p → admitted v.config v.row port p ≡ admitted w.config w.row port p
unfolding admitted
admitted_alike v w port p h = rw (names_alike v w port p h, permission_alike v w port p h, last_alike (p.qid == 0) v w port p refl h) refl

connect_alike : (v w : World) (port : ℕ) (entry bytes : List ℕ) → ConnectAlike v w port (parameters_of entry bytes)
    → connect v.config v.row port entry bytes ≡ connect w.config w.row port entry bytes
unfolding connect
connect_alike v w port entry bytes h = rw (admitted_alike v w port (parameters_of entry bytes) h) refl

first_alike : (v w : World) (port : ℕ) (entry bytes : List ℕ)
    → (((opcode_of entry == fabrics_opcode) && (fctype_of entry == connect_type)) ≡ true → ConnectAlike v w port (parameters_of entry bytes))
    → first_command v port entry bytes ≡ first_command w port entry bytes
first_alike v w port entry bytes h = by ((opcode_of entry == fabrics_opcode) && (fctype_of entry == connect_type)) h where
  by : (connects : Bool) → (connects ≡ true → ConnectAlike v w port (parameters_of entry bytes))
      → (if connects then connect_on v port entry bytes else refused command_sequence_error)
      ≡ (if connects then connect_on w port entry bytes else refused command_sequence_error)
  by true h = ap (λ (d : connect_decision.Decision). answered d entry) (connect_alike v w port entry bytes (h refl))
  by false h = refl

-- ---- a command on a queue

-- an admin command, and the data that it returns, of a controller of which the same can be told
told_alike : (v w : World) (ready : Bool) (o : Option AdminController) (cntlid : ℕ) (entry : List ℕ) → AreToldAlike o v w
    → admin_by ready o v cntlid entry ≡ admin_by ready o w cntlid entry
told_alike v w ready None cntlid entry h = refl
told_alike v w ready (Some c) cntlid entry h =
    rw (answered_alike.outcome c v.pages w.pages v.config w.config entry h) refl

admin_alike : (v w : World) (n : NoticeState) (cntlid : ℕ) (entry : List ℕ) → AdminAlike v w n cntlid → admin_at v n cntlid entry ≡ admin_at w n cntlid entry
admin_alike v w n cntlid entry h =
    told_alike v w (is_ready_at (v.row cntlid)) (admin_controller v n cntlid) cntlid entry h.told
    ∙ ap (λ (ready : Bool). admin_by ready (admin_controller v n cntlid) w cntlid entry) h.ready
    ∙ ap (λ (o : Option AdminController). admin_by (is_ready_at (w.row cntlid)) o w cntlid entry) h.controller

on_admin_alike : (v w : World) (n : NoticeState) (cntlid : ℕ) (entry : List ℕ) → AdminAlike v w n cntlid
    → on_admin_queue v n cntlid entry ≡ on_admin_queue w n cntlid entry
on_admin_alike v w n cntlid entry h = rw (h.registers, admin_alike v w n cntlid entry h) refl

-- an I/O command, by what it sees of its controller
abbrev io_from : Option IoSeen → World → List ℕ → ℕ → Outcome
io_from None w entry brings = refused command_sequence_error
io_from (Some s) w entry brings = refuse (not s.ready) command_sequence_error (io_of s.subsystem s.host s.port w entry brings)

io_is_from : (row : Option Row) (w : World) (entry : List ℕ) (brings : ℕ) → io_by row w entry brings ≡ io_from (io_seen row) w entry brings
io_is_from None w entry brings = refl
io_is_from (Some row) w entry brings = refl

of_alike : (subsystem : Option (List ℕ)) (host : List ℕ) (port : ℕ) (v w : World) (entry : List ℕ) (brings : ℕ) → SubsystemAlike subsystem host port v w
    → io_of subsystem host port v entry brings ≡ io_of subsystem host port w entry brings
of_alike None host port v w entry brings h = refl
of_alike (Some nqn) host port v w entry brings h = ap io_begun (begun_alike v.config w.config host port nqn entry brings h)

seen_alike : (o : Option IoSeen) (v w : World) (entry : List ℕ) (brings : ℕ) → AreSeenAlike o v w → io_from o v entry brings ≡ io_from o w entry brings
seen_alike None v w entry brings h = refl
seen_alike (Some s) v w entry brings h =
    ap (refuse (not s.ready) command_sequence_error) (of_alike s.subsystem s.host s.port v w entry brings h)

io_alike : (v w : World) (cntlid : ℕ) (entry : List ℕ) (brings : ℕ) → IoAlike v w cntlid → io_at v cntlid entry brings ≡ io_at w cntlid entry brings
io_alike v w cntlid entry brings h =
    io_is_from (v.row cntlid) v entry brings
    ∙ seen_alike (io_seen (v.row cntlid)) v w entry brings h.seen
    ∙ ap (λ (o : Option IoSeen). io_from o w entry brings) h.controller
    ∙ sym (io_is_from (w.row cntlid) w entry brings)

-- .. once its data have come
abbrev end_from : Option IoSeen → World → List ℕ → ℕ → Outcome
end_from None w entry came = refused command_sequence_error
end_from (Some s) w entry came = finished_of s.subsystem s.host s.port w entry came

end_is_from : (row : Option Row) (w : World) (entry : List ℕ) (came : ℕ) → finished_by row w entry came ≡ end_from (io_seen row) w entry came
end_is_from None w entry came = refl
end_is_from (Some row) w entry came = refl

end_of_alike : (subsystem : Option (List ℕ)) (host : List ℕ) (port : ℕ) (v w : World) (entry : List ℕ) (came : ℕ) → SubsystemAlike subsystem host port v w
    → finished_of subsystem host port v entry came ≡ finished_of subsystem host port w entry came
end_of_alike None host port v w entry came h = refl
end_of_alike (Some nqn) host port v w entry came h = ap io_finished (finished_alike v.config w.config host port nqn entry came h)

end_seen_alike : (o : Option IoSeen) (v w : World) (entry : List ℕ) (came : ℕ) → AreSeenAlike o v w → end_from o v entry came ≡ end_from o w entry came
end_seen_alike None v w entry came h = refl
end_seen_alike (Some s) v w entry came h = end_of_alike s.subsystem s.host s.port v w entry came h

ends_alike : (v w : World) (n : NoticeState) (role : Role) (queue : SubmissionQueue) → RoleAlike v w n role → (entry : List ℕ) (came : ℕ)
    → finished v (Connected role queue) entry came ≡ finished w (Connected role queue) entry came
ends_alike v w n (Admin cntlid) queue h entry came = refl
ends_alike v w n (Io cntlid qid) queue h entry came =
    end_is_from (v.row cntlid) v entry came
    ∙ end_seen_alike (io_seen (v.row cntlid)) v w entry came h.seen
    ∙ ap (λ (o : Option IoSeen). end_from o w entry came) h.controller
    ∙ sym (end_is_from (w.row cntlid) w entry came)

queue_alike : (v w : World) (n : NoticeState) (role : Role) (entry bytes : List ℕ) → RoleAlike v w n role
    → queue_command v n role entry bytes ≡ queue_command w n role entry bytes
queue_alike v w n (Admin cntlid) entry bytes h = on_admin_alike v w n cntlid entry h
queue_alike v w n (Io cntlid qid) entry bytes h = rw (io_alike v w cntlid entry (length bytes) h) refl

-- ---- what is decided

-- a command whose data have come ends the same
abbrev EndsAlike : World → World → Session → Type 0
EndsAlike v w s = (entry : List ℕ) (came : ℕ) → finished v s entry came ≡ finished w s entry came

completed_alike : (v w : World) (c : ConnectionState) (head : DataHead) (part : Option (Part WaitingCommand)) → EndsAlike v w c.session
    → completed v c head part ≡ completed w c head part
completed_alike v w c head None h = refl
completed_alike v w c head (Some part) h = ap (owed c.session head.cccid (Some head.ttag)) (h part.command.entry (head.datao + head.datal))

received_alike : (v w : World) (c : ConnectionState) (head : DataHead) (part : Option (Part WaitingCommand)) (answer : Result Progress DataFault)
    → EndsAlike v w c.session → received_by v c head part answer ≡ received_by w c head part answer
received_alike v w c head part (Ok progress.More) h = refl
received_alike v w c head part (Ok progress.Whole) h = completed_alike v w c head part h
received_alike v w c head part (Err fault) h = refl

next_alike : (kind : PduType) (v w : World) (c : ConnectionState) (tags : Tags) (pdu : Pdu)
    → (is_command kind ≡ true → command_in v c c.session (entry_of pdu) (data_part pdu) ≡ command_in w c c.session (entry_of pdu) (data_part pdu))
    → EndsAlike v w c.session → next_by kind v c tags pdu ≡ next_by kind w c tags pdu
next_alike CapsuleCmd v w c tags pdu h i = rw (h refl) refl
next_alike H2cData v w c tags pdu h i =
    received_alike v w c (head_in pdu) (tags (head_in pdu).ttag) (data_answer (tags (head_in pdu).ttag) (h2c_of pdu)) i
next_alike IcReq v w c tags pdu h i = refl
next_alike IcResp v w c tags pdu h i = refl
next_alike H2cTermReq v w c tags pdu h i = refl
next_alike C2hTermReq v w c tags pdu h i = refl
next_alike CapsuleResp v w c tags pdu h i = refl
next_alike C2hData v w c tags pdu h i = refl
next_alike R2t v w c tags pdu h i = refl

both : (a b : Bool) → a ≡ true → b ≡ true → (a && b) ≡ true
both a b h k = rw (h, k) refl

abbrev in_session : ConnectionState → Session → ConnectionState
in_session c s = record { port = c.port; session = s; alignment = c.alignment; notices = c.notices }

pdu_alike : (v w : World) (c : ConnectionState) (s : Session) (tags : Tags) (pdu : Pdu) → SessionAlike v w c (whole pdu) s
    → decide_in s v (in_session c s) tags pdu ≡ decide_in s w (in_session c s) tags pdu
pdu_alike v w c Opened tags pdu h = refl
pdu_alike v w c Initialized tags pdu h =
    let entry = entry_of pdu in
    let connects : Bool = (opcode_of entry == fabrics_opcode) && (fctype_of entry == connect_type) in
    next_alike pdu.kind v w (in_session c Initialized) tags pdu
    (λ is. first_alike v w c.port entry (data_part pdu) (λ (so : connects ≡ true). h (both (is_command pdu.kind) connects is so)))
    (λ entry came. refl)
pdu_alike v w c (Connected role queue) tags pdu h =
    next_alike pdu.kind v w (in_session c (Connected role queue)) tags pdu (λ is. queue_alike v w c.notices role (entry_of pdu) (data_part pdu) h)
    (ends_alike v w c.notices role queue h)
pdu_alike v w c Ended tags pdu h = refl

decide_alike : (v w : World) (c : ConnectionState) (tags : Tags) (front : Front) → SessionAlike v w c front c.session
    → decide v c tags front ≡ decide w c tags front
decide_alike v w c tags incomplete h = refl
decide_alike v w c tags (whole pdu) h = pdu_alike v w c c.session tags pdu h
decide_alike v w c tags (faulty fault head) h = refl

-- ---- what is sent

payload_alike : (v w : World) (o : Option AdminController) (r : Option Payload) → AreToldAlike o v w → payload_at v o r ≡ payload_at w o r
payload_alike v w o None h = refl
payload_alike v w None (Some r) h = refl
payload_alike v w (Some c) (Some r) h = ap Some (answered_alike.payload c v.pages w.pages v.config w.config r h)

admin_data : (v w : World) (n : NoticeState) (cntlid : ℕ) (d : Decision) → AdminAlike v w n cntlid
    → payload_at v (admin_controller v n cntlid) (payload_of d) ≡ payload_at w (admin_controller w n cntlid) (payload_of d)
admin_data v w n cntlid d h =
    payload_alike v w (admin_controller v n cntlid) (payload_of d) h.told
    ∙ ap (λ (o : Option AdminController). payload_at w o (payload_of d)) h.controller

-- without a controller none is returned
data_alike : (v w : World) (c : ConnectionState) (s : Session) (front : Front) (d : Decision) → SessionAlike v w c front s
    → payload_at v (admin_controller_of v c.notices s) (payload_of d) ≡ payload_at w (admin_controller_of w c.notices s) (payload_of d)
data_alike v w c Opened front d h = payload_alike v w None (payload_of d) tt
data_alike v w c Initialized front d h = payload_alike v w None (payload_of d) tt
data_alike v w c (Connected (Admin cntlid) queue) front d h = admin_data v w c.notices cntlid d h
data_alike v w c (Connected (Io cntlid qid) queue) front d h = payload_alike v w None (payload_of d) tt
data_alike v w c Ended front d h = payload_alike v w None (payload_of d) tt

said_alike : (format : DataFormat) (a : ReplyAnswer) (payload : Option (List ℕ)) (bytes : List ℕ) (b c : ℕ → List (List ℕ)) (m : DiskOutcome) → DiskAlike (operation_in a) b c
    → said_by format a payload bytes b m ≡ said_by format a payload bytes c m
said_alike format (answer.Given g) payload bytes b c m h = refl
said_alike format (answer.Performed op) payload bytes b c m h = rw h refl

wire_alike : (alignment : ℕ) (d : Decision) (front : Front) (given : Brought) (payload : Option (List ℕ)) (b c : ℕ → List (List ℕ)) (m : DiskOutcome)
    → DiskAlike (operation_of d) b c → wire_of alignment d front given payload b m ≡ wire_of alignment d front given payload c m
wire_alike alignment (decision.Reply r) front given payload b c m h =
    ap (reply_wire r) (said_alike (format_of r alignment) r.answer payload given.bytes b c m h)
wire_alike alignment (decision.Initialize asked) front given payload b c m h = refl
wire_alike alignment (decision.Request q) front given payload b c m h = refl
wire_alike alignment (decision.Receive ttag) front given payload b c m h = refl
wire_alike alignment (decision.Wait cid) front given payload b c m h = refl
wire_alike alignment (decision.Terminate t) front given payload b c m h = refl
wire_alike alignment decision.Close front given payload b c m h = refl

abbrev decided_by : Bool → World → Tags → Option ConnectionState → Front → Option Decision
decided_by stepping w tags o front = if stepping then decided_on w tags o front else None

sends_by : (stepping : Bool) (v w : World) (b c : ℕ → List (List ℕ)) (m : DiskOutcome) (tags : Tags) (o : Option ConnectionState) (front : Front)
    → (stepping ≡ true → WorldAlike v w front o) → DiskAlike (operation_decided (decided_by stepping v tags o front)) b c
    → sends_on v b m tags o (decided_by stepping v tags o front) front ≡ sends_on w c m tags o (decided_by stepping w tags o front) front
sends_by stepping v w b c m tags None front h i = refl
sends_by false v w b c m tags (Some k) front h i = refl
sends_by true v w b c m tags (Some k) front h i = by (is_ended k.session) i where
  over_or : Bool → World → Option Decision
  over_or over w = if over then None else Some (decide w k tags front)

  by : (over : Bool) → DiskAlike (operation_decided (over_or over v)) b c
      → sends_on v b m tags (Some k) (over_or over v) front ≡ sends_on w c m tags (Some k) (over_or over w) front
  by true i = refl
  by false i =
      let d = decide v k tags front in
      ap (λ (payload : Option (List ℕ)). wire_of k.alignment d front (brought_by tags d front) payload b m) (data_alike v w k k.session front d (h refl))
      ∙ wire_alike k.alignment d front (brought_by tags d front) (data_of w k d) b c m i
      ∙ ap (λ (e : Decision). sent_by w c m k e front (brought_by tags e front)) (decide_alike v w k tags front (h refl))

replies_alike : (k : ℕ) (x y : Occurrence) → SameFor k x y → replies_to x k ≡ replies_to y k
replies_alike k x y same =
    rw (same.event, ← same.connection, ← same.parts)
    (sends_by (steps x.event k) x.world y.world x.blocks y.blocks (disk_outcome_in x.event) (x.parts k) (x.connection k) (front_in x.event) same.world same.disk)

-- what an edit sends is known by what it changes of the views
abbrev completing : Option ViewChanges → NoticeState → List Completion
completing None n = []
completing (Some changes) n = edit_answers n.events changes

completing_is : (t : Option Telling) (n : NoticeState) → completed_by t n ≡ completing (changes_of t) n
completing_is None n = refl
completing_is (Some t) n = refl

abbrev told_of : Option ConnectionState → Option ViewChanges → List ℕ
told_of None changes = []
told_of (Some c) changes = completion_pdus c.session (completing changes c.notices)

told_is : (x : Occurrence) (o : Option ConnectionState) → told_at x o ≡ told_of o (changes_at x o)
told_is x None = refl
told_is x (Some c) = ap (completion_pdus c.session) (completing_is (telling x c) c.notices)

edits_alike : (k : ℕ) (x y : Occurrence) → SameFor k x y → told_at x (x.connection k) ≡ told_at y (y.connection k)
edits_alike k x y same =
    told_is x (x.connection k) ∙ ap (told_of (x.connection k)) same.changes
    ∙ ap (λ (o : Option ConnectionState). told_of o (changes_at y (y.connection k))) same.connection ∙ sym (told_is y (y.connection k))

both_sent : {a b c d : List ℕ} → a ≡ b → c ≡ d → a ++ c ≡ b ++ d
both_sent p q = rw (p, q) refl

sends_alike : (k : ℕ) (x y : Occurrence) → SameFor k x y → sends x k ≡ sends y k
sends_alike k x y same = both_sent (replies_alike k x y same) (edits_alike k x y same)

sent_more : (b c : Bool) (s t u z : List ℕ) → b ≡ c → s ≡ t → u ≡ z → (if b then [] else s ++ u) ≡ (if c then [] else t ++ z)
sent_more b c s t u z p q r = rw (p, q, r) refl

alike_sent : (g h : List Occurrence) (k : ℕ) → HappenedAlike g h k → sent g k ≡ sent h k
alike_sent [] [] k alike = refl
alike_sent [] (y ∷ ys) k alike = absurd alike
alike_sent (x ∷ xs) [] k alike = absurd alike
alike_sent (x ∷ xs) (y ∷ ys) k alike =
    sent_more (opens x.event k || gives_up x.event k) (opens y.event k || gives_up y.event k) (sent xs k) (sent ys k) (sends x k) (sends y k)
    (ap (λ (e : Event). opens e k || gives_up e k) (sym alike.0.event)) (alike_sent xs ys k alike.1) (sends_alike k x y alike.0)

-- ---- what is no event of the connection

none_of : (a b c d : Bool) → (a || (b || (c || d))) ≡ false → (a ≡ false) × (b ≡ false) × (c ≡ false) × (d ≡ false)
none_of true b c d h = cc
none_of false true c d h = cc
none_of false false true d h = cc
none_of false false false d h = (refl, refl, refl, h)

silent : (x : Occurrence) (tags : Tags) (o : Option ConnectionState) → sends_on x.world x.blocks (disk_outcome_in x.event) tags o None (front_in x.event) ≡ []
silent x tags None = refl
silent x tags (Some c) = refl

own_sent : (h : List Occurrence) (k : ℕ) → sent h k ≡ sent (own h k) k
own_sent [] k = refl
own_sent (x ∷ before) k = by (is_of x.event k) refl (own_sent before k) where
  by : (mine : Bool) → is_of x.event k ≡ mine → sent before k ≡ sent (own before k) k
      → sent (x ∷ before) k ≡ sent (if mine then x ∷ own before k else own before k) k
  by true is earlier = ap (λ (s : List ℕ). if opens x.event k || gives_up x.event k then [] else s ++ sends x k) earlier
  by false is earlier =
      let parts = none_of (opens x.event k) (steps x.event k) (gives_up x.event k) (is_edit x.event) is in
      let quiet : replies_to x k ≡ [] = rw parts.1 (silent x (x.parts k) (x.connection k)) in
      let unedited = untold x (x.connection k) (no_edit_made x.event x.world.config parts.3) in
      rw (parts.0, parts.2) (ap (λ (l : List ℕ). sent before k ++ l) (both_sent quiet unedited) ∙ append-nil (sent before k) ∙ earlier)

pub sent_by_own_alone : SentByOwnAlone
sent_by_own_alone = record { same = λ g h k alike. own_sent g k ∙ alike_sent (own g k) (own h k) k alike ∙ sym (own_sent h k) }

-- What goes by on a connection, PDU by PDU, and which command each response answers.
use Rattle.std.specs.Prelude.{ℕ, ◌+◌, ◌-◌, ◌<◌, ◌^◌, ◌≡◌, Bool, true, false, List, [], ◌∷◌, ◌++◌, length, take, slice_get, Option, Some, None}
use Rattle.std.specs.Option.{option_or}
use Rattle.pdu_codec.specs.Sqe.{entry_in}
use Rattle.pdu_words.specs.declared.explanation.ResponseFields.{ResponseFields}
use Rattle.connection_log.specs.declared.stage.Stage.{Stage}
use Rattle.connection_log.specs.declared.stage.Stage.TheVariants.{Before, Waits, Over}
use Rattle.connection_log.specs.declared.watch.ConnectionWatch.{ConnectionWatch}
use Rattle.connection_log.specs.Reading.{IsPdu}
use Rattle.connection_log.specs.Stages.{after_ask, after_response, capsule_header, is_connect, is_success, passed_over, response_in, told_by}
use Rattle.connection_log.specs.Watching.{answered, begun, heard, told}

-- The host sends a PDU that is no command, or asks by one, which is a Connect or is not. The target answers a command,
-- which succeeded or did not.
pub data Event : Type 0 where
  sends : Event
  asks : Bool → Event
  answers : Bool → Event

abbrev pub after_event : Event → Stage → Stage
after_event sends s = passed_over s
after_event (asks connect) (Before ahead) = after_ask connect ahead
after_event (asks connect) (Waits ahead passed) = Waits ahead true
after_event (asks connect) Over = Over
after_event (answers succeeded) s = after_response succeeded s

abbrev pub stage_after : Stage → List Event → Stage
stage_after s [] = s
stage_after s (event ∷ events) = stage_after (after_event event s) events

-- of each command, in their order, whether it is a Connect
abbrev pub asked : List Event → List Bool
asked [] = []
asked (sends ∷ events) = asked events
asked (asks connect ∷ events) = connect ∷ asked events
asked (answers succeeded ∷ events) = asked events

-- how many were answered
abbrev pub answered_count : List Event → ℕ
answered_count [] = 0
answered_count (sends ∷ events) = answered_count events
answered_count (asks connect ∷ events) = answered_count events
answered_count (answers succeeded ∷ events) = answered_count events + 1

-- no command is answered before it came, where so many wait for their answers already
abbrev pub InTurn : ℕ → List Event → Type 0
InTurn waiting [] = Unit {0}
InTurn waiting (sends ∷ events) = InTurn waiting events
InTurn waiting (asks connect ∷ events) = InTurn (waiting + 1) events
InTurn waiting (answers succeeded ∷ events) = (0 < waiting) × InTurn (waiting - 1) events

-- Where the next response is told, the command of its number is a Connect: it is that one's answer.
abbrev pub AnswersAreTheirs : Type 0
AnswersAreTheirs =
    (events : List Event) (passed : Bool) → InTurn 0 events → length (asked events) < 2 ^ 32
    → stage_after (Before 0) events ≡ Waits 0 passed → slice_get (asked events) (answered_count events) ≡ Some true

-- The answer to the first Connect is told.
abbrev pub FirstIsTold : Type 0
FirstIsTold =
    (events : List Event) → InTurn 0 events → length (asked events) < 2 ^ 32
    → slice_get (asked events) (answered_count events) ≡ Some true
    → ((k : ℕ) → k < answered_count events → slice_get (asked events) k ≡ Some false)
    → (passed : Bool) × (stage_after (Before 0) events ≡ Waits 0 passed)

-- a PDU of the host, or of the target
pub data Message : Type 0 where
  from_host : List ℕ → Message
  from_target : List ℕ → Message

abbrev pub request_event : Option (List ℕ) → Event
request_event None = sends
request_event (Some header) = asks (is_connect (entry_in header))

abbrev pub reply_events : Option ResponseFields → List Event
reply_events None = []
reply_events (Some completion) = answers (is_success completion.status) ∷ []

-- .. by the first bytes of the PDU
abbrev pub events_of : List Message → List Event
events_of [] = []
events_of (from_host pdu ∷ messages) = request_event (capsule_header (take 1152 pdu)) ∷ events_of messages
events_of (from_target pdu ∷ messages) = reply_events (response_in (take 24 pdu)) ++ events_of messages

-- each is one whole PDU
abbrev pub AreWhole : List Message → Type 0
AreWhole [] = Unit {0}
AreWhole (from_host pdu ∷ messages) = IsPdu pdu × AreWhole messages
AreWhole (from_target pdu ∷ messages) = IsPdu pdu × AreWhole messages

abbrev pub watched : ConnectionWatch → List Message → ConnectionWatch
watched w [] = w
watched w (from_host pdu ∷ messages) = watched (heard w pdu) messages
watched w (from_target pdu ∷ messages) = watched (answered w pdu) messages

-- A watch that was begun goes by the events of the PDUs; and of the next response it tells what is told at that stage.
abbrev pub WatchesEvents : Type 0
WatchesEvents =
    (messages : List Message) (reply : List ℕ) → AreWhole messages → IsPdu reply
    → let w : ConnectionWatch = watched (begun 1152 24) messages in
    let stage : Stage = stage_after (Before 0) (events_of messages) in
    (w.stage ≡ stage) × (told w reply ≡ told_by (response_in (take 24 reply)) stage)

-- the first bytes of a PDU that came while no Connect waited are kept, ..
abbrev pub KeepsFront : Type 0
KeepsFront =
    (messages : List Message) (pdu : List ℕ) (ahead : ℕ) → AreWhole messages → IsPdu pdu
    → let w : ConnectionWatch = watched (begun 1152 24) messages in
    w.stage ≡ Before ahead → (heard w pdu).requests.front ≡ take 1152 pdu

-- .. and while a Connect waits, they are its own, whatever goes by
abbrev pub KeepsConnect : Type 0
KeepsConnect =
    (w : ConnectionWatch) (bytes : List ℕ) (ahead : ℕ) (passed : Bool) → w.stage ≡ Waits ahead passed
    → ((heard w bytes).requests ≡ w.requests) × ((answered w bytes).requests ≡ w.requests)

-- it does not matter in which pieces the bytes come
pub record PiecesDoNotMatter (w : ConnectionWatch) (a b : List ℕ) : Type 0 where
  pub of_host : heard w (a ++ b) ≡ heard (heard w a) b
  pub of_target : answered w (a ++ b) ≡ answered (answered w a) b
  pub tells : told w (a ++ b) ≡ option_or (told w a) (told (answered w a) b)

-- it keeps as many bytes of a PDU as before
pub record SizesStay (old new : ConnectionWatch) : Type 0 where
  pub requests : new.requests.most ≡ old.requests.most
  pub replies : new.replies.most ≡ old.replies.most

-- an answer is told once, whatever the target sends behind it
abbrev pub IsToldOnce : Type 0
IsToldOnce =
    (w : ConnectionWatch) (a b : List ℕ) (completion : ResponseFields) → told w a ≡ Some completion
    → told (answered w a) b ≡ None

-- A watch goes by the events of whole PDUs, in any pieces.
use Rattle.std.proofs.Common.{◌≡◌, ℕ, ◌<◌, ◌≤◌, ◌==◌, ◌||◌, Bool, true, false, inl, inr, List, [], ◌∷◌, ◌++◌, Option, Some, None, length, take, drop, refl, sym, ap, subst, ◌∙◌, arith, lit≤}
use Rattle.std.specs.Option.{option_or}
use Rattle.std.specs.Prelude.{if◌then◌else◌}
use Rattle.std.proofs.lemmas.Bool.{cases_Bool}
use Rattle.std.proofs.lemmas.List.{drop_all, length-take}
use Rattle.std.proofs.Math.Seq.{take-length}
use Rattle.pdu_words.specs.declared.explanation.ResponseFields.{ResponseFields}
use Rattle.connection_log.specs.declared.stage.Stage.{Stage}
use Rattle.connection_log.specs.declared.stage.Stage.TheVariants.{Before, Waits, Over}
use Rattle.connection_log.specs.declared.watch.ConnectionWatch.{ConnectionWatch}
use Rattle.connection_log.specs.Conversation.{AreWhole, Event, IsToldOnce, KeepsConnect, KeepsFront, Message, PiecesDoNotMatter, SizesStay, WatchesEvents, after_event, events_of, from_host, from_target, reply_events, request_event, stage_after, watched}
use Rattle.connection_log.specs.Reading.{IsPdu, Reading, at_first, is_whole, next_pdu, read_on, with_bytes}
use Rattle.connection_log.specs.Stages.{after_capsule, after_reply, after_request, capsule_header, is_success, response_in, told_by}
use Rattle.connection_log.proofs.Readings.{first_is_next, has_header, most-next, next_behind, front_of_pdu, read_on_same, read_whole, short_in_pdu, whole_pdu}
use Rattle.connection_log.proofs.Watches.{heard_up_to, none_told, not_looked_at, or-assoc, replied_up_to, same_watch, still_waits, told_up_to, watch_of}
use Rattle.connection_log.specs.Watching.{answered, begun, heard, heard_in, replied, requested, response_at, told, told_at, with_byte}

heard-append : (w : ConnectionWatch) (a b : List ℕ) → heard w (a ++ b) ≡ heard (heard w a) b
heard-append w [] b = refl
heard-append w (x ∷ a) b = heard-append (heard_in w.stage x w) a b

answered-append : (w : ConnectionWatch) (a b : List ℕ) → answered w (a ++ b) ≡ answered (answered w a) b
answered-append w [] b = refl
answered-append w (x ∷ a) b = answered-append (replied (with_byte x w.replies) w) a b

told-append : (w : ConnectionWatch) (a b : List ℕ) → told w (a ++ b) ≡ option_or (told w a) (told (answered w a) b)
told-append w [] b = refl
told-append w (x ∷ a) b =
    ap (option_or (told_at (with_byte x w.replies) w)) (told-append (replied (with_byte x w.replies) w) a b)
    ∙ sym (or-assoc (told_at (with_byte x w.replies) w) (told (replied (with_byte x w.replies) w) a) (told (answered (replied (with_byte x w.replies) w) a) b))

pub pieces_do_not_matter : (w : ConnectionWatch) (a b : List ℕ) → PiecesDoNotMatter w a b
pieces_do_not_matter w a b = record { of_host = heard-append w a b; of_target = answered-append w a b; tells = told-append w a b }

one_heard : (w : ConnectionWatch) (b : ℕ) (stage : Stage) → SizesStay w (heard_in stage b w)
one_heard w b (Before ahead) = record { requests = most-next w.requests; replies = refl }
one_heard w b (Waits ahead passed) = record { requests = refl; replies = refl }
one_heard w b Over = record { requests = refl; replies = refl }

answered_sizes : (w : ConnectionWatch) (bytes : List ℕ) → SizesStay w (answered w bytes)
answered_sizes w [] = record { requests = refl; replies = refl }
answered_sizes w (b ∷ bytes) =
    let rest : SizesStay (replied (with_byte b w.replies) w) (answered w (b ∷ bytes)) = answered_sizes (replied (with_byte b w.replies) w) bytes in
    record { requests = rest.requests; replies = rest.replies ∙ most-next w.replies }

heard_sizes : (w : ConnectionWatch) (bytes : List ℕ) → SizesStay w (heard w bytes)
heard_sizes w [] = record { requests = refl; replies = refl }
heard_sizes w (b ∷ bytes) =
    let rest : SizesStay (heard_in w.stage b w) (heard w (b ∷ bytes)) = heard_sizes (heard_in w.stage b w) bytes in
    let first : SizesStay w (heard_in w.stage b w) = one_heard w b w.stage in
    record { requests = rest.requests ∙ first.requests; replies = rest.replies ∙ first.replies }

pub sizes_stay : (w : ConnectionWatch) (bytes : List ℕ) → SizesStay w (heard w bytes) × SizesStay w (answered w bytes)
sizes_stay w bytes = (heard_sizes w bytes, answered_sizes w bytes)

-- no Connect waits
abbrev IsSettled : Stage → Type 0
IsSettled (Before ahead) = Unit {0}
IsSettled (Waits ahead passed) = ⊥
IsSettled Over = Unit {0}

none_when_settled : (response : Option ResponseFields) (stage : Stage) → IsSettled stage → told_by response stage ≡ None
none_when_settled response (Before ahead) settled = refl
none_when_settled response (Waits ahead passed) settled = absurd settled
none_when_settled response Over settled = refl

settled_after : (response : Option ResponseFields) (stage : Stage) → IsSettled stage → IsSettled (after_reply response stage)
settled_after None stage settled = settled
settled_after (Some completion) (Before ahead) settled = tt
settled_after (Some completion) (Waits ahead passed) settled = absurd settled
settled_after (Some completion) Over settled = tt

settled_by : (response : Option ResponseFields) (completion : ResponseFields) (stage : Stage) → told_by response stage ≡ Some completion
    → IsSettled (after_reply response stage)
settled_by response completion (Before ahead) is = absurd (cc)
settled_by None completion (Waits ahead passed) is = absurd (cc (is, none_told (Waits ahead passed)))
settled_by (Some other) completion (Waits ahead passed) is =
    elim (cases_Bool (ahead == 0)) [
      | inl first ↦ rw first (settled_answer (is_success other.status || passed))
      | inr later ↦ absurd (cc (rw later at is))
    ]
  where
    settled_answer : (over : Bool) → IsSettled (if over then Over else Before 0)
    settled_answer true = tt
    settled_answer false = tt
settled_by response completion Over is = absurd (cc)

nothing_more : (w : ConnectionWatch) (b : List ℕ) → IsSettled w.stage → told w b ≡ None
nothing_more w [] settled = refl
nothing_more w (x ∷ b) settled =
    rw (none_when_settled (response_at (with_byte x w.replies)) w.stage settled)
    (nothing_more (replied (with_byte x w.replies) w) b (settled_after (response_at (with_byte x w.replies)) w.stage settled))

stays_settled : (w : ConnectionWatch) (a : List ℕ) → IsSettled w.stage → IsSettled (answered w a).stage
stays_settled w [] settled = settled
stays_settled w (x ∷ a) settled =
    stays_settled (replied (with_byte x w.replies) w) a (settled_after (response_at (with_byte x w.replies)) w.stage settled)

settled_first : (w : ConnectionWatch) (x : ℕ) (a : List ℕ) (completion : ResponseFields) (first : Option ResponseFields)
    → told_at (with_byte x w.replies) w ≡ first
    → (told (replied (with_byte x w.replies) w) a ≡ Some completion → IsSettled (answered (replied (with_byte x w.replies) w) a).stage)
    → option_or first (told (replied (with_byte x w.replies) w) a) ≡ Some completion
    → IsSettled (answered (replied (with_byte x w.replies) w) a).stage
settled_first w x a completion None same rest is = rest is
settled_first w x a completion (Some c) same rest is =
    stays_settled (replied (with_byte x w.replies) w) a (settled_by (response_at (with_byte x w.replies)) c w.stage same)

settled_once_told : (w : ConnectionWatch) (a : List ℕ) (completion : ResponseFields) → told w a ≡ Some completion
    → IsSettled (answered w a).stage
settled_once_told w [] completion is = absurd (cc)
settled_once_told w (x ∷ a) completion is =
    settled_first w x a completion (told_at (with_byte x w.replies) w) refl
    (settled_once_told (replied (with_byte x w.replies) w) a completion) is

pub is_told_once : IsToldOnce
is_told_once w a b completion is = nothing_more (answered w a) b (settled_once_told w a completion is)

-- the watch stands at the end of a PDU in both directions, at this stage
record Stands (w : ConnectionWatch) (s : Stage) : Type 0 where
  pub requests : next_pdu w.requests ≡ at_first 1152
  pub replies : next_pdu w.replies ≡ at_first 24
  pub stage : w.stage ≡ s

event_of_capsule : (header : Option (List ℕ)) (ahead : ℕ) → after_event (request_event header) (Before ahead) ≡ after_capsule header ahead
event_of_capsule None ahead = refl
event_of_capsule (Some header) ahead = refl

event_waiting : (header : Option (List ℕ)) (ahead : ℕ) (passed : Bool) → after_event (request_event header) (Waits ahead passed) ≡ Waits ahead true
event_waiting None ahead passed = refl
event_waiting (Some header) ahead passed = refl

event_over : (header : Option (List ℕ)) → after_event (request_event header) Over ≡ Over
event_over None = refl
event_over (Some header) = refl

events_of_reply : (response : Option ResponseFields) (stage : Stage) → stage_after stage (reply_events response) ≡ after_reply response stage
events_of_reply None stage = refl
events_of_reply (Some completion) stage = refl

-- the reader behind a whole PDU
module _ (most : ℕ) (r : Reading) (pdu : List ℕ) (wide : 24 ≤ most) (is : IsPdu pdu) (at : next_pdu r ≡ at_first most) where
  some : 0 < length pdu
  some = omega (arith, has_header most pdu wide is)

  from_first : (k : ℕ) → 0 < k → read_on r (take k pdu) ≡ read_on (at_first most) (take k pdu)
  from_first k more =
      read_on_same r (at_first most) (take k pdu) (omega (arith, length-take k pdu, some)) (at ∙ sym (first_is_next most))

  behind_it : read_on r (take (length pdu) pdu) ≡ with_bytes pdu (at_first most)
  behind_it =
      from_first (length pdu) some ∙ ap (read_on (at_first most)) (take-length pdu) ∙ read_whole most pdu wide is

  short_of_it : (k : ℕ) → 0 < k → k < length pdu → is_whole (read_on r (take k pdu)) ≡ false
  short_of_it k more before = ap is_whole (from_first k more) ∙ short_in_pdu most pdu wide is k before

  next_behind_it : next_pdu (with_bytes pdu (at_first most)) ≡ at_first most
  next_behind_it = sym (next_behind (with_bytes pdu (at_first most)) (whole_pdu most pdu wide is))

all_passed : (pdu : List ℕ) → drop (length pdu) pdu ≡ []
all_passed pdu = drop_all (length pdu) pdu (omega arith)

requested_whole : (pdu : List ℕ) (ahead : ℕ) → IsPdu pdu
    → requested (with_bytes pdu (at_first 1152)) ahead ≡ after_request (take 1152 pdu) ahead
requested_whole pdu ahead is =
    rw (whole_pdu 1152 pdu (lit≤ tt) is) (ap (λ (l : List ℕ). after_request l ahead) (front_of_pdu 1152 pdu (lit≤ tt) is))

response_whole : (pdu : List ℕ) → IsPdu pdu → response_at (with_bytes pdu (at_first 24)) ≡ response_in (take 24 pdu)
response_whole pdu is =
    rw (whole_pdu 24 pdu (lit≤ tt) is) (ap response_in (front_of_pdu 24 pdu (lit≤ tt) is))

or_nothing : (o : Option ResponseFields) → option_or o None ≡ o
or_nothing None = refl
or_nothing (Some c) = refl

event_before : (front : List ℕ) (ahead : ℕ) → after_event (request_event (capsule_header front)) (Before ahead) ≡ after_request front ahead
unfolding after_request
event_before front ahead = event_of_capsule (capsule_header front) ahead

stands_so : (w v : ConnectionWatch) (s t : Stage) → w ≡ v → t ≡ s → Stands v s → Stands w t
stands_so w v s t watch stage stands =
    subst (λ (u : ConnectionWatch). Stands u t) (sym watch) (subst (Stands v) (sym stage) stands)

-- behind a whole PDU of the host, or of the target
module _ (r p : Reading) (pdu : List ℕ) (is : IsPdu pdu) (at_r : next_pdu r ≡ at_first 1152) (at_p : next_pdu p ≡ at_first 24) where
  heard_before : (ahead : ℕ) → heard (watch_of r p (Before ahead)) pdu
      ≡ watch_of (with_bytes pdu (at_first 1152)) p (after_request (take 1152 pdu) ahead)
  heard_before ahead =
      let there : Reading = read_on r (take (length pdu) pdu) in
      heard_up_to (length pdu) r p ahead pdu (some 1152 r pdu (lit≤ tt) is at_r) (omega arith) (short_of_it 1152 r pdu (lit≤ tt) is at_r)
      ∙ ap (heard (watch_of there p (requested there ahead))) (all_passed pdu)
      ∙ ap (λ (q : Reading). watch_of q p (requested q ahead)) (behind_it 1152 r pdu (lit≤ tt) is at_r)
      ∙ ap (watch_of (with_bytes pdu (at_first 1152)) p) (requested_whole pdu ahead is)

  answered_whole : (s : Stage) → answered (watch_of r p s) pdu
      ≡ watch_of r (with_bytes pdu (at_first 24)) (after_reply (response_in (take 24 pdu)) s)
  answered_whole s =
      let there : Reading = read_on p (take (length pdu) pdu) in
      replied_up_to (length pdu) r p s pdu (some 24 p pdu (lit≤ tt) is at_p) (omega arith) (short_of_it 24 p pdu (lit≤ tt) is at_p)
      ∙ ap (answered (replied there (watch_of r p s))) (all_passed pdu)
      ∙ ap (λ (q : Reading). replied q (watch_of r p s)) (behind_it 24 p pdu (lit≤ tt) is at_p)
      ∙ ap (λ (o : Option ResponseFields). watch_of r (with_bytes pdu (at_first 24)) (after_reply o s)) (response_whole pdu is)

  told_whole : (s : Stage) → told (watch_of r p s) pdu ≡ told_by (response_in (take 24 pdu)) s
  told_whole s =
      let there : Reading = read_on p (take (length pdu) pdu) in
      told_up_to (length pdu) r p s pdu (some 24 p pdu (lit≤ tt) is at_p) (omega arith) (short_of_it 24 p pdu (lit≤ tt) is at_p)
      ∙ ap (λ (l : List ℕ). option_or (told_at there (watch_of r p s)) (told (replied there (watch_of r p s)) l)) (all_passed pdu)
      ∙ or_nothing (told_at there (watch_of r p s))
      ∙ ap (λ (q : Reading). told_at q (watch_of r p s)) (behind_it 24 p pdu (lit≤ tt) is at_p)
      ∙ ap (λ (o : Option ResponseFields). told_by o s) (response_whole pdu is)

  host_at : (s : Stage) → Stands (heard (watch_of r p s) pdu) (after_event (request_event (capsule_header (take 1152 pdu))) s)
  host_at (Before ahead) =
      stands_so (heard (watch_of r p (Before ahead)) pdu) (watch_of (with_bytes pdu (at_first 1152)) p (after_request (take 1152 pdu) ahead))
      (after_request (take 1152 pdu) ahead) (after_event (request_event (capsule_header (take 1152 pdu))) (Before ahead))
      (heard_before ahead) (event_before (take 1152 pdu) ahead)
      (record { requests = next_behind_it 1152 r pdu (lit≤ tt) is at_r; replies = at_p; stage = refl })
  host_at (Waits ahead passed) =
      stands_so (heard (watch_of r p (Waits ahead passed)) pdu) (watch_of r p (Waits ahead true))
      (Waits ahead true) (after_event (request_event (capsule_header (take 1152 pdu))) (Waits ahead passed))
      (not_looked_at r p (Waits ahead passed) pdu (some 1152 r pdu (lit≤ tt) is at_r) (λ n e. cc))
      (event_waiting (capsule_header (take 1152 pdu)) ahead passed)
      (record { requests = at_r; replies = at_p; stage = refl })
  host_at Over =
      stands_so (heard (watch_of r p Over) pdu) (watch_of r p Over)
      Over (after_event (request_event (capsule_header (take 1152 pdu))) Over)
      (not_looked_at r p Over pdu (some 1152 r pdu (lit≤ tt) is at_r) (λ n e. cc))
      (event_over (capsule_header (take 1152 pdu)))
      (record { requests = at_r; replies = at_p; stage = refl })

  target_at : (s : Stage) → Stands (answered (watch_of r p s) pdu) (stage_after s (reply_events (response_in (take 24 pdu))))
  target_at s =
      stands_so (answered (watch_of r p s) pdu) (watch_of r (with_bytes pdu (at_first 24)) (after_reply (response_in (take 24 pdu)) s))
      (after_reply (response_in (take 24 pdu)) s) (stage_after s (reply_events (response_in (take 24 pdu))))
      (answered_whole s) (events_of_reply (response_in (take 24 pdu)) s)
      (record { requests = at_r; replies = next_behind_it 24 p pdu (lit≤ tt) is at_p; stage = refl })

-- from the watch itself
is_there : (w : ConnectionWatch) (s : Stage) → Stands w s → w ≡ watch_of w.requests w.replies s
is_there w s stands = same_watch w.requests w.requests w.replies w.replies w.stage s refl refl stands.stage

host_step : (w : ConnectionWatch) (s : Stage) (pdu : List ℕ) → IsPdu pdu → Stands w s
    → Stands (heard w pdu) (after_event (request_event (capsule_header (take 1152 pdu))) s)
host_step w s pdu is stands =
    let next : Stage = after_event (request_event (capsule_header (take 1152 pdu))) s in
    subst (λ (v : ConnectionWatch). Stands (heard v pdu) next) (sym (is_there w s stands))
    (host_at w.requests w.replies pdu is stands.requests stands.replies s)

target_step : (w : ConnectionWatch) (s : Stage) (pdu : List ℕ) → IsPdu pdu → Stands w s
    → Stands (answered w pdu) (stage_after s (reply_events (response_in (take 24 pdu))))
target_step w s pdu is stands =
    let next : Stage = stage_after s (reply_events (response_in (take 24 pdu))) in
    subst (λ (v : ConnectionWatch). Stands (answered v pdu) next) (sym (is_there w s stands))
    (target_at w.requests w.replies pdu is stands.requests stands.replies s)

told_step_whole : (w : ConnectionWatch) (s : Stage) (pdu : List ℕ) → IsPdu pdu → Stands w s
    → told w pdu ≡ told_by (response_in (take 24 pdu)) s
told_step_whole w s pdu is stands =
    ap (λ (v : ConnectionWatch). told v pdu) (is_there w s stands)
    ∙ told_whole w.requests w.replies pdu is stands.requests stands.replies s

stage_after-append : (s : Stage) (a b : List Event) → stage_after s (a ++ b) ≡ stage_after (stage_after s a) b
stage_after-append s [] b = refl
stage_after-append s (event ∷ a) b = stage_after-append (after_event event s) a b

stands_after : (messages : List Message) (w : ConnectionWatch) (s : Stage) → AreWhole messages → Stands w s
    → Stands (watched w messages) (stage_after s (events_of messages))
stands_after [] w s whole stands = stands
stands_after (from_host pdu ∷ messages) w s whole stands =
    stands_after messages (heard w pdu) (after_event (request_event (capsule_header (take 1152 pdu))) s) whole.1
    (host_step w s pdu whole.0 stands)
stands_after (from_target pdu ∷ messages) w s whole stands =
    let replies : List Event = reply_events (response_in (take 24 pdu)) in
    subst (Stands (watched (answered w pdu) messages)) (sym (stage_after-append s replies (events_of messages)))
    (stands_after messages (answered w pdu) (stage_after s replies) whole.1 (target_step w s pdu whole.0 stands))

stands_begun : Stands (begun 1152 24) (Before 0)
stands_begun = record { requests = first_is_next 1152; replies = first_is_next 24; stage = refl }

pub watches_events : WatchesEvents
watches_events messages reply whole is =
    let stands : Stands (watched (begun 1152 24) messages) (stage_after (Before 0) (events_of messages)) =
    stands_after messages (begun 1152 24) (Before 0) whole stands_begun
    in
    (stands.stage, told_step_whole (watched (begun 1152 24) messages) (stage_after (Before 0) (events_of messages)) reply is stands)

front_behind : (w : ConnectionWatch) (ahead : ℕ) (pdu : List ℕ) → IsPdu pdu → Stands w (Before ahead)
    → (heard w pdu).requests.front ≡ take 1152 pdu
front_behind w ahead pdu is stands =
    ap (λ (v : ConnectionWatch). (heard v pdu).requests.front) (is_there w (Before ahead) stands)
    ∙ ap (λ (v : ConnectionWatch). v.requests.front) (heard_before w.requests w.replies pdu is stands.requests stands.replies ahead)
    ∙ front_of_pdu 1152 pdu (lit≤ tt) is

pub keeps_front : KeepsFront
keeps_front messages pdu ahead whole is before =
    let stands : Stands (watched (begun 1152 24) messages) (stage_after (Before 0) (events_of messages)) =
    stands_after messages (begun 1152 24) (Before 0) whole stands_begun
    in
    front_behind (watched (begun 1152 24) messages) ahead pdu is
    (record { requests = stands.requests; replies = stands.replies; stage = before })

waiting_keeps : (r p : Reading) (ahead : ℕ) (passed : Bool) (bytes : List ℕ) → (heard (watch_of r p (Waits ahead passed)) bytes).requests ≡ r
waiting_keeps r p ahead passed [] = refl
waiting_keeps r p ahead passed (b ∷ bytes) = ap (λ (v : ConnectionWatch). v.requests) (still_waits r p ahead bytes)

replies_keep : (w : ConnectionWatch) (bytes : List ℕ) → (answered w bytes).requests ≡ w.requests
replies_keep w [] = refl
replies_keep w (b ∷ bytes) = replies_keep (replied (with_byte b w.replies) w) bytes

pub keeps_connect : KeepsConnect
keeps_connect w bytes ahead passed is =
    let there : w ≡ watch_of w.requests w.replies (Waits ahead passed) =
    same_watch w.requests w.requests w.replies w.replies w.stage (Waits ahead passed) refl refl is
    in (
      ap (λ (v : ConnectionWatch). (heard v bytes).requests) there ∙ waiting_keeps w.requests w.replies ahead passed bytes,
      replies_keep w bytes,
    )

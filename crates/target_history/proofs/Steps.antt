-- What one more event makes of what the history says of a connection.
use Rattle.std.proofs.Common.{◌≡◌, ℕ, suc, ◌+◌, ◌%◌, Bool, true, false, not, ◌&&◌, ◌||◌, List, [], ◌∷◌, length, Option, Some, None, refl, sym, ap, ◌∙◌, arith}
use Rattle.std.specs.Prelude.{if◌then◌else◌, nat_le}
use Rattle.std.specs.Option.{option_map}
use Rattle.std.proofs.Math.Nat.{mod-eq_of_lt}
use Rattle.event_queue.specs.declared.completion.Completion.{Completion}
use Rattle.admin_queue.specs.Notices.{NoticeState, notices_at_connect}
use Rattle.pdu_codec.specs.Sqe.{cid_of}
use Rattle.pdu_cut.specs.Front.{Front}
use Rattle.pdu_cut.specs.Pdu.{data_part}
use Rattle.target_decision.specs.declared.consequence.Consequence.{Consequence}
use Rattle.target_decision.specs.declared.consequence.Consequence.TheVariants as consequence
use Rattle.target_decision.specs.declared.decision.Decision.{Decision}
use Rattle.target_decision.specs.declared.decision.Decision.TheVariants as decision
use Rattle.target_decision.specs.declared.queue.SubmissionQueue.{SubmissionQueue}
use Rattle.target_decision.specs.declared.session.ConnectionState.{ConnectionState}
use Rattle.target_decision.specs.declared.session.Role.{Role}
use Rattle.target_decision.specs.declared.session.Session.{Session}
use Rattle.target_decision.specs.declared.session.Session.TheVariants.{Connected, Ended}
use Rattle.target_decision.specs.Capsule.{command, finished, owed}
use Rattle.target_decision.specs.Decision.{decide, entry_of}
use Rattle.target_decision.specs.Outcome.{Outcome}
use Rattle.target_decision.specs.Session.{opened_on, replied}
use Rattle.target_decision.specs.Tell.{completed_in}
use Rattle.target_decision.specs.Transfer.{Tags, head_in}
use Rattle.target_decision.specs.World.{World}
use Rattle.target_decision.proofs.Deciding.{decision_is, owed_is}
use Rattle.target_history.specs.EndCause.{ends_by}
use Rattle.target_history.specs.Event.{front_in, gives_up, opens, port_in, steps}
use Rattle.target_history.specs.Occurrence.{Occurrence, alignment_decided, completed_by, consequence_decided, connection_after, connection_moved, decided, decided_on, cause_of, ends, ends_live, initializes, is_end_decided, is_initialize, noted_at, notices_decided, port_at, responses, responses_decided, session_decided, telling}
use Rattle.target_history.specs.History.{Admission, admission_by, admission_of, admission_or, admits, alignment_of, connection_of, has_ended, is_initialized, is_known, notices_of, port_of, responses_by, responses_since, session_of, session_with}
use Rattle.target_history.specs.Laws.{role_at, role_of}
use Rattle.target_history.specs.Noticing.{noted_after}
use Rattle.target_history.proofs.Heads.{head_goes_round}

-- ---- a queue's head

pub one_more : (n m : ℕ) → (1 + n) % (m + 1) ≡ (if nat_le m (n % (m + 1)) then 0 else n % (m + 1) + 1)
one_more n m =
    let same : 1 + n ≡ n + 1 = omega arith in
    ap (λ (x : ℕ). x % (m + 1)) same ∙ head_goes_round n m

pub first_head : (m : ℕ) → (1 + 0) % (m + 1) ≡ (if nat_le m 0 then 0 else 0 + 1)
first_head m =
    let none : 0 % (m + 1) ≡ 0 = mod-eq_of_lt (omega arith) in
    rw none at (one_more 0 m)

abbrev with_head : ℕ → Role → ℕ → Session
with_head sqsize role head = Connected role (record { sqsize = sqsize; head = head })

-- ---- a step

-- one more response counts on a connection that has a queue
counts : (a : Option Admission) (i : Bool) (n : ℕ) → session_with a i (1 + n) ≡ replied consequence.Nothing (session_with a i n)
counts None false n = refl
counts None true n = refl
counts (Some a) i n = ap (with_head a.sqsize a.role) (one_more n a.sqsize)

-- a reply, by what it changes
replies : (ch : Consequence) (a : Option Admission) (i : Bool) (n : ℕ)
    → session_with (admission_or (admission_by ch) a) i (1 + responses_by (admission_by ch) n) ≡ replied ch (session_with a i n)
replies (consequence.Begin b) a i n = ap (with_head b.sqsize _) (first_head b.sqsize)
replies (consequence.Join j) a i n = ap (with_head j.sqsize _) (first_head j.sqsize)
replies _ a i n = counts a i n

-- where no response is sent
uncounted : (a : Option Admission) (i : Bool) (n : ℕ) → session_with a i (0 + n) ≡ session_with a i n
uncounted a i n =
    let same : 0 + n ≡ n = omega arith in
    ap (session_with a i) same

-- what one more decision makes of a session, by whether the connection is ended from elsewhere, and was ended before
turns : (d : Option Decision) (e ended i : Bool) (a : Option Admission) (n : ℕ)
    → (ended ≡ true → d ≡ None) → (is_initialize d ≡ true → a ≡ None)
    → (if (is_end_decided d || e) || ended then Ended else
    session_with (admission_or (admission_by (consequence_decided d)) a) (is_initialize d || i)
    (responses_decided d + responses_by (admission_by (consequence_decided d)) n))
    ≡ (if e then Ended else session_decided (if ended then Ended else session_with a i n) d)
turns None true true i a n none first = refl
turns None true false i a n none first = refl
turns None false true i a n none first = refl
turns None false false i a n none first =
    let same : 0 + n ≡ n = omega arith in
    ap (session_with a i) same
turns (Some d) e true i a n none first = let h = none refl in cc
turns (Some (decision.Initialize alignment)) true false i a n none first = refl
turns (Some (decision.Reply r)) true false i a n none first = refl
turns (Some (decision.Request q)) true false i a n none first = refl
turns (Some (decision.Receive ttag)) true false i a n none first = refl
turns (Some (decision.Wait cid)) true false i a n none first = refl
turns (Some (decision.Terminate t)) true false i a n none first = refl
turns (Some decision.Close) true false i a n none first = refl
turns (Some (decision.Request q)) false false i a n none first = uncounted a i n
turns (Some (decision.Receive ttag)) false false i a n none first = uncounted a i n
turns (Some (decision.Wait cid)) false false i a n none first = uncounted a i n
turns (Some (decision.Initialize alignment)) false false i a n none first = rw (first refl) refl
turns (Some (decision.Reply r)) false false i a n none first = replies r.consequence a i n
turns (Some (decision.Terminate t)) false false i a n none first = refl
turns (Some decision.Close) false false i a n none first = refl

-- ---- requests that an edit completes

completed_ended : (cs : List Completion) → completed_in Ended cs ≡ Ended
completed_ended [] = refl
completed_ended (c ∷ rest) = completed_ended rest

-- each counts
completes_count : (a : Option Admission) (i : Bool) (n : ℕ) (cs : List Completion) → session_with a i (length cs + n) ≡ completed_in (session_with a i n) cs
completes_count a i n [] = uncounted a i n
completes_count a i n (c ∷ rest) =
    let more : suc (length rest) + n ≡ length rest + (1 + n) = omega arith in
    ap (session_with a i) more ∙ completes_count a i (1 + n) rest ∙ ap (λ (s : Session). completed_in s rest) (counts a i n)

-- what follows them, by whether the connection is ended
told_by : (over e ended i : Bool) (a : Option Admission) (m n : ℕ) (s : Session) (cs : List Completion) → n ≡ length cs + m
    → (if (over || e) || ended then Ended else session_with a i m) ≡ (if e then Ended else s)
    → (if (over || e) || ended then Ended else session_with a i n) ≡ (if e then Ended else completed_in s cs)
told_by true true ended i a m n s cs is h = refl
told_by false true ended i a m n s cs is h = refl
told_by true false ended i a m n s cs is h = sym (completed_ended cs) ∙ ap (λ (t : Session). completed_in t cs) h
told_by false false true i a m n s cs is h = sym (completed_ended cs) ∙ ap (λ (t : Session). completed_in t cs) h
told_by false false false i a m n s cs is h = ap (session_with a i) is ∙ completes_count a i m cs ∙ ap (λ (t : Session). completed_in t cs) h

-- ---- what may be decided

abbrev on_queue : ℕ → ℕ → NoticeState → Role → SubmissionQueue → ConnectionState
on_queue port alignment notices role q = record { port = port; session = Connected role q; alignment = alignment; notices = notices }

-- a connection that has a queue is not initialized again
owed_not : (s : Session) (cid : ℕ) (transfer : Option ℕ) (o : Outcome) → is_initialize (Some (owed s cid transfer o)) ≡ false
owed_not s cid transfer o = owed_is (λ d. is_initialize (Some d) ≡ false) s cid transfer (λ r ends head. refl) (λ len. refl) refl o

never_again : (w : World) (port alignment : ℕ) (notices : NoticeState) (role : Role) (q : SubmissionQueue) (tags : Tags) (front : Front)
    → is_initialize (Some (decide w (on_queue port alignment notices role q) tags front)) ≡ false
never_again w port alignment notices role q tags front =
    decision_is w (on_queue port alignment notices role q) tags front (λ d. is_initialize (Some d) ≡ false) (record {
      closes = refl;
      terminates = λ t. refl;
      initializes = λ opened asked. cc;
      answers = λ pdu is kind room. owed_not (Connected role q) (cid_of (entry_of pdu)) None (command w (on_queue port alignment notices role q) tags (entry_of pdu) (data_part pdu));
      receives = λ pdu part brings. refl;
      completes = λ pdu part brings.
          owed_not (Connected role q) (head_in pdu).cccid (Some (head_in pdu).ttag) (finished w (Connected role q) part.command.entry ((head_in pdu).datao + (head_in pdu).datal));
    })

-- nothing is decided on a connection that is ended
none_by : (stepping ended : Bool) (w : World) (tags : Tags) (port alignment : ℕ) (notices : NoticeState) (s : Session) (front : Front) → ended ≡ true
    → (if stepping then decided_on w tags (Some (record { port = port; session = if ended then Ended else s; alignment = alignment; notices = notices })) front else None) ≡ None
none_by false ended w tags port alignment notices s front h = refl
none_by true true w tags port alignment notices s front h = refl
none_by true false w tags port alignment notices s front h = cc

-- .. and Initialize on none that has a queue
first_by : (stepping ended i : Bool) (w : World) (tags : Tags) (port alignment : ℕ) (notices : NoticeState) (a : Option Admission) (n : ℕ) (front : Front)
    → is_initialize (if stepping then decided_on w tags (Some (record { port = port; session = if ended then Ended else session_with a i n; alignment = alignment; notices = notices })) front else None) ≡ true
    → a ≡ None
first_by stepping ended i w tags port alignment notices None n front h = refl
first_by false ended i w tags port alignment notices (Some a) n front h = cc
first_by true true i w tags port alignment notices (Some a) n front h = cc
first_by true false i w tags port alignment notices (Some a) n front h =
    let q : SubmissionQueue = record { sqsize = a.sqsize; head = n % (a.sqsize + 1) } in
    let clash : true ≡ false = sym h ∙ never_again w port alignment notices a.role q tags front in cc

-- ---- one more event

abbrev connection_with : Bool → ℕ → ℕ → NoticeState → Session → Option ConnectionState
connection_with known port alignment notices session =
    if known then Some (record { port = port; session = session; alignment = alignment; notices = notices }) else None

abbrev pub met_as : List Occurrence → ℕ → ConnectionState
met_as before k = record { port = port_of before k; session = session_of before k; alignment = alignment_of before k; notices = notices_of before k }

session_step : (x : Occurrence) (before : List Occurrence) (k : ℕ) → x.connection k ≡ Some (met_as before k)
    → (if ends x k || has_ended before k then Ended else
    session_with (admission_or (admits x k) (admission_of before k)) (initializes x k || is_initialized before k)
    (responses x k + responses_by (admits x k) (responses_since before k)))
    ≡ (connection_moved x k (met_as before k)).session
session_step x before k met =
    let v : ConnectionState = met_as before k in
    let d : Option Decision = (if steps x.event k then decided_on x.world (x.parts k) (Some v) (front_in x.event) else None) in
    let cs : List Completion = completed_by (telling x v) v.notices in
    let over = ends_by (cause_of x) (ends_live x) v in
    let a = admission_by (consequence_decided d) in
    let since = responses_by a (responses_since before k) in
    rw met (told_by (is_end_decided d) over (has_ended before k) (is_initialize d || is_initialized before k) (admission_or a (admission_of before k))
    (responses_decided d + since) ((responses_decided d + length cs) + since) (session_decided v.session d) cs (omega arith)
    (turns d over (has_ended before k) (is_initialized before k) (admission_of before k) (responses_since before k)
    (none_by (steps x.event k) (has_ended before k) x.world (x.parts k) (port_of before k) (alignment_of before k) (notices_of before k) _ (front_in x.event))
    (first_by (steps x.event k) (has_ended before k) (is_initialized before k) x.world (x.parts k) (port_of before k) (alignment_of before k) (notices_of before k)
    (admission_of before k) (responses_since before k) (front_in x.event))))

-- a connection whose host is told this
abbrev pub noted_as : NoticeState → ConnectionState → ConnectionState
noted_as n v = record v { notices = n }

-- What one more event makes of a connection, apart from what its host is told.
apart_step : (x : Occurrence) (before : List Occurrence) (k : ℕ) → x.connection k ≡ connection_of before k
    → connection_of (x ∷ before) k ≡ option_map (noted_as (notices_of (x ∷ before) k)) (connection_after x k (connection_of before k))
apart_step x before k met = by (opens x.event k) (gives_up x.event k) (is_known before k) (notices_of (x ∷ before) k) met where
  by : (opening giving known : Bool) (n : NoticeState)
      → x.connection k ≡ connection_with known (port_of before k) (alignment_of before k) (notices_of before k) (session_of before k)
      → connection_with (opening || (not giving && known)) (if opening then port_in x.event else port_of before k)
      (if opening then 0 else alignment_decided (alignment_of before k) (decided x k)) n
      (if not opening && (ends x k || has_ended before k) then Ended else
      session_with (if opening then None else admission_or (admits x k) (admission_of before k))
      (not opening && (initializes x k || is_initialized before k))
      (responses x k + responses_by (admits x k) (responses_since before k)))
      ≡ option_map (noted_as n) (if opening then Some (opened_on (port_in x.event)) else
      if giving then None else option_map (connection_moved x k) (connection_with known (port_of before k) (alignment_of before k) (notices_of before k) (session_of before k)))
  by true giving known n met = refl
  by false true known n met = refl
  by false false false n met = refl
  by false false true n met = ap Some (whole (session_step x before k met)) where
    whole : {s t : Session} → s ≡ t
        → (let v : ConnectionState = record { port = port_of before k; session = s; alignment = alignment_decided (alignment_of before k) (decided x k); notices = n } in v)
        ≡ (let v : ConnectionState = record { port = port_of before k; session = t; alignment = alignment_decided (alignment_of before k) (decided x k); notices = n } in v)
    whole p = rw p refl

noted_role : (n : NoticeState) (o : Option ConnectionState) → role_at (option_map (noted_as n) o) ≡ role_at o
noted_role n None = refl
noted_role n (Some v) = refl

noted_port : (n : NoticeState) (o : Option ConnectionState) → port_at (option_map (noted_as n) o) ≡ port_at o
noted_port n None = refl
noted_port n (Some v) = refl

-- .. which queue it is, and its port
pub role_step : (x : Occurrence) (before : List Occurrence) (k : ℕ) → x.connection k ≡ connection_of before k
    → role_of (x ∷ before) k ≡ role_at (connection_after x k (connection_of before k))
role_step x before k met =
    ap role_at (apart_step x before k met) ∙ noted_role (notices_of (x ∷ before) k) (connection_after x k (connection_of before k))

pub port_step : (x : Occurrence) (before : List Occurrence) (k : ℕ) → x.connection k ≡ connection_of before k
    → port_at (connection_of (x ∷ before) k) ≡ port_at (connection_after x k (connection_of before k))
port_step x before k met =
    ap port_at (apart_step x before k met) ∙ noted_port (notices_of (x ∷ before) k) (connection_after x k (connection_of before k))

-- .. and of all of it, where what its host is told follows from what it was told
pub noted_step : (x : Occurrence) (before : List Occurrence) (k : ℕ) → x.connection k ≡ connection_of before k
    → notices_of (x ∷ before) k ≡ noted_after x k (notices_of before k)
    → connection_of (x ∷ before) k ≡ connection_after x k (connection_of before k)
noted_step x before k met noted =
    apart_step x before k met ∙ ap (λ (n : NoticeState). option_map (noted_as n) (connection_after x k (connection_of before k))) noted
    ∙ by (opens x.event k) (gives_up x.event k) (is_known before k) met
  where
    m : NoticeState
    m = notices_decided (notices_of before k) (decided x k)

    by : (opening giving known : Bool) → x.connection k ≡ connection_with known (port_of before k) (alignment_of before k) (notices_of before k) (session_of before k)
        → option_map (noted_as (if opening then notices_at_connect else noted_at x (x.connection k) m)) (if opening then Some (opened_on (port_in x.event)) else
        if giving then None else option_map (connection_moved x k) (connection_with known (port_of before k) (alignment_of before k) (notices_of before k) (session_of before k)))
        ≡ (if opening then Some (opened_on (port_in x.event)) else
        if giving then None else option_map (connection_moved x k) (connection_with known (port_of before k) (alignment_of before k) (notices_of before k) (session_of before k)))
    by true giving known met = refl
    by false true known met = refl
    by false false false met = refl
    by false false true met = ap (λ (o : Option ConnectionState). Some (noted_as (noted_at x o m) (connection_moved x k (met_as before k)))) met

-- Each response carries the number of responses since the Connect.
use Rattle.std.proofs.Common.{◌≡◌, ℕ, ◌+◌, ◌%◌, ◌<◌, Bool, true, false, List, ◌∷◌, Option, Some, None, refl, sym, ◌∙◌, arith}
use Rattle.std.specs.Prelude.{if◌then◌else◌}
use Rattle.std.proofs.Math.Nat.{mod-lt}
use Rattle.nvt_config.specs.Configuration.{Configuration}
use Rattle.admin_queue.specs.Notices.{NoticeState}
use Rattle.pdu_codec.specs.Sqe.{cid_of}
use Rattle.pdu_cut.specs.Front.{Front}
use Rattle.pdu_cut.specs.Pdu.{data_part}
use Rattle.target_decision.specs.declared.consequence.Consequence.{Consequence}
use Rattle.target_decision.specs.declared.consequence.Consequence.TheVariants as consequence
use Rattle.target_decision.specs.declared.decision.Decision.{Decision}
use Rattle.target_decision.specs.declared.decision.Decision.TheVariants as decision
use Rattle.target_decision.specs.declared.decision.Reply.{Reply}
use Rattle.target_decision.specs.declared.session.ConnectionState.{ConnectionState}
use Rattle.target_decision.specs.declared.session.Session.{Session}
use Rattle.target_decision.specs.declared.session.Session.TheVariants.{Ended}
use Rattle.target_decision.specs.Capsule.{command, finished, head_after, owed}
use Rattle.target_decision.specs.Decision.{decide, entry_of}
use Rattle.target_decision.specs.Outcome.{Outcome}
use Rattle.target_decision.specs.Session.{is_ended}
use Rattle.target_decision.specs.Transfer.{Tags, head_in}
use Rattle.target_decision.specs.World.{World}
use Rattle.target_decision.proofs.Deciding.{decision_is, owed_is}
use Rattle.target_history.specs.Event.{Event, edited, front_in, opened, opens, stepped, steps, given_up, ticked}
use Rattle.target_history.specs.Occurrence.{Occurrence, decided, decided_on, edit_made}
use Rattle.target_history.specs.History.{Admission, admission_by, admission_of, admission_or, alignment_of, connection_of, has_ended, is_initialized, is_known, notices_of, port_of, responses_by, responses_since, session_with}
use Rattle.target_history.specs.Laws.{HeadsCountResponses, sqsize_of}
use Rattle.target_history.proofs.Steps.{first_head, one_more}
use Rattle.target_history.proofs.Telling.{no_completion}

-- ---- the head that a reply carries

abbrev HeadIs : Session → Decision → Type 0
HeadIs s (decision.Reply r) = r.sqhd ≡ head_after s r.consequence
HeadIs s _ = Unit {0}

owed_heads : (s : Session) (cid : ℕ) (transfer : Option ℕ) (o : Outcome) → HeadIs s (owed s cid transfer o)
owed_heads s cid transfer o = owed_is (HeadIs s) s cid transfer (λ r ends head. head) (λ len. tt) tt o

decide_heads : (w : World) (v : ConnectionState) (tags : Tags) (front : Front) → HeadIs v.session (decide w v tags front)
decide_heads w v tags front = decision_is w v tags front (HeadIs v.session) (record {
  closes = tt;
  terminates = λ t. tt;
  initializes = λ opened alignment. tt;
  answers = λ pdu is kind room. owed_heads v.session (cid_of (entry_of pdu)) None (command w v tags (entry_of pdu) (data_part pdu));
  receives = λ pdu part brings. tt;
  completes = λ pdu part brings.
      owed_heads v.session (head_in pdu).cccid (Some (head_in pdu).ttag)
      (finished w v.session part.command.entry ((head_in pdu).datao + (head_in pdu).datal));
})

-- ---- .. on a connection that is known and not ended

heads_same : (s : Session) (d e : Decision) → d ≡ e → HeadIs s d → HeadIs s e
heads_same s d e same h = rw (← same) h

decided_heads : (over : Bool) (w : World) (v : ConnectionState) (tags : Tags) (front : Front) (r : Reply)
    → (if over then None else Some (decide w v tags front)) ≡ Some (decision.Reply r) → r.sqhd ≡ head_after v.session r.consequence
decided_heads true w v tags front r h = cc
decided_heads false w v tags front r h =
    let same : decide w v tags front ≡ decision.Reply r = cc in
    heads_same v.session (decide w v tags front) (decision.Reply r) same (decide_heads w v tags front)

told : (stepping known ended : Bool) (w : World) (tags : Tags) (port alignment : ℕ) (notices : NoticeState) (s : Session) (front : Front) (r : Reply)
    → (if stepping then decided_on w tags (if known then Some (record { port = port; session = if ended then Ended else s; alignment = alignment; notices = notices }) else None) front else None)
    ≡ Some (decision.Reply r) → r.sqhd ≡ head_after s r.consequence
told false known ended w tags port alignment notices s front r h = cc
told true false ended w tags port alignment notices s front r h = cc
told true true true w tags port alignment notices s front r h = cc
told true true false w tags port alignment notices s front r h =
    decided_heads (is_ended s) w (record { port = port; session = s; alignment = alignment; notices = notices }) tags front r h

-- ---- the head counts

round_one : (n : ℕ) → 0 ≡ n % (0 + 1)
round_one n = let small : n % (0 + 1) < 0 + 1 = mod-lt n (omega arith) in omega (arith, small)

head_counts : (ch : Consequence) (a : Option Admission) (i : Bool) (n : ℕ)
    → head_after (session_with a i n) ch
    ≡ (1 + responses_by (admission_by ch) n) % (sqsize_of (admission_or (admission_by ch) a) + 1)
head_counts (consequence.Begin b) a i n = sym (first_head b.sqsize)
head_counts (consequence.Join j) a i n = sym (first_head j.sqsize)
head_counts _ None false n = round_one (1 + n)
head_counts _ None true n = round_one (1 + n)
head_counts _ (Some a) i n = sym (one_more n a.sqsize)

-- a decision is of a step, and a step opens nothing
no_open : (event : Event) (k : ℕ) (d : Option Decision) (e : Decision) → (if steps event k then d else None) ≡ Some e → opens event k ≡ false
no_open (edited edit) k d e h = refl
no_open (opened port n) k d e h = cc
no_open (given_up n) k d e h = refl
no_open (stepped n front m) k d e h = refl
no_open (ticked now) k d e h = refl

-- .. and is no edit, of which the host is told
no_edit : (event : Event) (k : ℕ) (c : Configuration) (d : Option Decision) (e : Decision) → (if steps event k then d else None) ≡ Some e → edit_made event c ≡ None
no_edit (edited edit) k c d e h = cc
no_edit (opened port n) k c d e h = refl
no_edit (given_up n) k c d e h = refl
no_edit (stepped n front m) k c d e h = refl
no_edit (ticked now) k c d e h = refl

counts_here : (x : Occurrence) (before : List Occurrence) (k : ℕ) (r : Reply)
    → x.connection k ≡ connection_of before k → decided x k ≡ Some (decision.Reply r)
    → r.sqhd ≡ responses_since (x ∷ before) k % (sqsize_of (admission_of (x ∷ before) k) + 1)
counts_here x before k r met h =
    let carries = told (steps x.event k) (is_known before k) (has_ended before k) x.world (x.parts k) (port_of before k) (alignment_of before k) (notices_of before k)
    (session_with (admission_of before k) (is_initialized before k) (responses_since before k)) (front_in x.event) r (rw met at h) in
    let closed = no_open x.event k (decided_on x.world (x.parts k) (x.connection k) (front_in x.event)) (decision.Reply r) h in
    let untold = no_completion x (x.connection k) (no_edit x.event k x.world.config (decided_on x.world (x.parts k) (x.connection k) (front_in x.event)) (decision.Reply r) h) in
    rw (h, closed, untold) (carries ∙ head_counts r.consequence (admission_of before k) (is_initialized before k) (responses_since before k))

pub heads_count_responses : HeadsCountResponses
heads_count_responses = record { counts = counts_here }

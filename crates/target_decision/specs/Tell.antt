-- What an edit tells the host of a controller, on its admin queue: the completions of requests that wait.
use Rattle.std.specs.Prelude.{ℕ, List, [], ◌∷◌, ◌++◌}
use Rattle.nvt_config.specs.Configuration.{Configuration}
use Rattle.event_queue.specs.declared.completion.Completion.{Completion}
use Rattle.admin_queue.specs.Notices.{tell_answers, told}
use Rattle.admin_queue.specs.Viewer.{Views}
use Rattle.nvt_fields.specs.Status.{success}
use Rattle.pdu_codec.specs.CapsuleResp.{capsule_resp}
use Rattle.target_decision.specs.declared.session.ConnectionState.{ConnectionState}
use Rattle.target_decision.specs.declared.session.Session.{Session}
use Rattle.target_decision.specs.Capsule.{head_counted}
use Rattle.target_decision.specs.Session.{responded_in}

-- the response that completes a request
abbrev pub completion_pdu : Session → Completion → List ℕ
completion_pdu session c = capsule_resp (record { result = c.result; sqhd = head_counted session; cid = c.cid; status = success })

-- those that complete these, one after another, each counted
abbrev pub completion_pdus : Session → List Completion → List ℕ
completion_pdus session [] = []
completion_pdus session (c ∷ rest) = completion_pdu session c ++ completion_pdus (responded_in session) rest

abbrev pub completed_in : Session → List Completion → Session
completed_in session [] = session
completed_in session (c ∷ rest) = completed_in (responded_in session) rest

-- what an edit from one configuration to another sends on the admin queue of a controller that shows this
abbrev pub told_pdus : Configuration → Configuration → Views → ConnectionState → List ℕ
told_pdus old new views v = completion_pdus v.session (tell_answers old new views v.notices)

-- .. and where it leaves that
abbrev pub told_after : Configuration → Configuration → Views → ConnectionState → ConnectionState
told_after old new views v = record v {
  session = completed_in v.session (tell_answers old new views v.notices);
  notices = told old new views v.notices;
}

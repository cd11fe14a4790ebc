-- All that a queue sent and took, by its history.
use Rattle.std.specs.Prelude.{ℕ, List, [], ◌∷◌, ◌++◌}
use Rattle.pdu_codec.specs.declared.initialize.IcReq.{IcReq}
use Rattle.pdu_codec.specs.Initialize.{ic_req}
use Rattle.host_driver.specs.declared.params.HostParams.{HostParams}
use Rattle.host_driver.specs.Event.{Event, History, consumed_at, submitted, taken}
use Rattle.host_driver.specs.State.{state_after}
use Rattle.host_driver.specs.Told.{sends}

-- no alignment of data to the host, no digest, one R2T of a command at a time
abbrev pub request : IcReq
request = record { pfv = 0; hpda = 0; dgst = 0; maxr2t = 0 }

-- what was sent, in its order: the ICReq, and what each event sends
unfoldable pub sent_after : HostParams → History → List ℕ
sent_after params [] = ic_req request
sent_after params (e ∷ h) = sent_after params h ++ sends params (state_after params h) e

-- the bytes that an event took of what came
abbrev pub took : Event → List ℕ
took (submitted cid c) = []
took (taken front) = consumed_at front

-- the bytes of the PDUs that were taken, in their order
unfoldable pub taken_after : History → List ℕ
taken_after [] = []
taken_after (e ∷ h) = taken_after h ++ took e

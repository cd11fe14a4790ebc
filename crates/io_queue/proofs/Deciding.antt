-- What a command's checks look at.
use Rattle.std.proofs.Common.{◌≡◌, ℕ, List, Option, Some, None, Result, Ok, refl, ap, ◌∙◌}
use Rattle.config_lists.specs.declared.group_state.AnaState.{AnaState}
use Rattle.config_lists.specs.declared.namespace.Namespace.{Namespace}
use Rattle.nvt_config.specs.Configuration.{Configuration}
use Rattle.nvt_fields.specs.declared.status.Status.{Status}
use Rattle.pdu_codec.specs.Sqe.{nsid_of, opcode_of}
use Rattle.io_queue.specs.declared.opcode.IoOpcode.{IoOpcode}
use Rattle.io_queue.specs.Beginning.{begin, on_namespace, on_opcode}
use Rattle.io_queue.specs.Finishing.{finish, on_namespace_again}
use Rattle.io_queue.specs.Laws.{DecidedByOwnAlone, SeenAlike}
use Rattle.io_queue.specs.Opcode.{opcode_of_code}
use Rattle.io_queue.specs.Reach.{found_reached, namespace_seen, reached, state_verdict, then_do}

found_alike : (c d : Configuration) (host : List ℕ) (port : ℕ) (subsystem : List ℕ) → SeenAlike host port subsystem c d → (o : Option Namespace)
    → found_reached o c port subsystem ≡ found_reached o d port subsystem
found_alike c d host port subsystem h None = refl
found_alike c d host port subsystem h (Some n) =
    ap (λ (state : AnaState). then_do (state_verdict state) (λ reached. let found : Result Namespace Status = Ok n in found)) (h.states n.group)

reached_alike : (c d : Configuration) (host : List ℕ) (port : ℕ) (subsystem entry : List ℕ) → SeenAlike host port subsystem c d
    → reached c host port subsystem entry ≡ reached d host port subsystem entry
reached_alike c d host port subsystem entry h =
    ap (λ (o : Option Namespace). found_reached o c port subsystem) (h.namespaces (nsid_of entry))
    ∙ found_alike c d host port subsystem h (namespace_seen d host subsystem (nsid_of entry))

opcode_alike : (c d : Configuration) (host : List ℕ) (port : ℕ) (subsystem entry : List ℕ) (len : ℕ) → SeenAlike host port subsystem c d → (code : Option IoOpcode)
    → on_opcode code c host port subsystem entry len ≡ on_opcode code d host port subsystem entry len
opcode_alike c d host port subsystem entry len h None = refl
opcode_alike c d host port subsystem entry len h (Some code) =
    ap (λ (r : Result Namespace Status). then_do r (λ n. on_namespace n code entry len)) (reached_alike c d host port subsystem entry h)

pub begun_alike : (c d : Configuration) (host : List ℕ) (port : ℕ) (subsystem entry : List ℕ) (len : ℕ) → SeenAlike host port subsystem c d
    → begin c host port subsystem entry len ≡ begin d host port subsystem entry len
begun_alike c d host port subsystem entry len h = opcode_alike c d host port subsystem entry len h (opcode_of_code (opcode_of entry))

pub finished_alike : (c d : Configuration) (host : List ℕ) (port : ℕ) (subsystem entry : List ℕ) (came : ℕ) → SeenAlike host port subsystem c d
    → finish c host port subsystem entry came ≡ finish d host port subsystem entry came
finished_alike c d host port subsystem entry came h =
    ap (λ (r : Result Namespace Status). then_do r (λ n. on_namespace_again n (opcode_of_code (opcode_of entry)) entry came)) (reached_alike c d host port subsystem entry h)

pub decided_by_own_alone : DecidedByOwnAlone
decided_by_own_alone = record { begins = begun_alike; finishes = finished_alike }

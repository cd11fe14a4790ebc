-- What a target that agrees with a history says of the events that may come.
use Rattle.std.proofs.Common.{◌≡◌, ℕ, ◌<◌, Bool, true, false, ◌||◌, ◌&&◌, List, Option, Some, None, IsSome, IsOk, Ok, is_some, refl, sym, ap, ◌∙◌, subst}
use Rattle.std.specs.Prelude.{not, is_none, if◌then◌else◌}
use Rattle.std.specs.Option.{option_map}
use Rattle.config_lists.specs.declared.edit.Edit.{Edit}
use Rattle.nvt_config.specs.Accept.{accept}
use Rattle.nvt_config.specs.Configuration.{Configuration}
use Rattle.tables.specs.NumberTable.{place}
use Rattle.tables.proofs.NumberTables.{least_free-Some, least_free_below}
use Rattle.pdu_cut.specs.declared.side.Side.TheVariants.{Target}
use Rattle.pdu_cut.specs.Front.{Front, front}
use Rattle.target_core.specs.declared.fault.OpenFault.{OpenFault}
use Rattle.target_core.specs.declared.fault.OpenFault.TheVariants.{NoSuchPort}
use Rattle.target_core.specs.Agreement.{Agrees, AgreesWith}
use Rattle.target_core.specs.Connection.{KnownConnection}
use Rattle.target_core.specs.Target.{TargetState, free_number, is_ended_at, is_incomplete, open_fault, port_of}
use Rattle.target_core.specs.Transition.{StandsIn}
use Rattle.target_core.proofs.Calls.{ended_tells}
use Rattle.target_decision.specs.declared.session.ConnectionState.{ConnectionState}
use Rattle.target_decision.specs.Session.{is_ended}
use Rattle.target_decision.specs.World.{connections_max}
use Rattle.target_history.specs.History.{Opening, config_of, connection_of, happened, has_ended, is_known}
use Rattle.target_history.specs.Event.{Event}
use Rattle.target_history.specs.Occurrence.{Occurrence}
use Rattle.target_core.specs.Possible.{MayOpen, MayStep}
use Rattle.target_core.specs.Steps.{is_idle_at}

-- ---- connections that are known

known_of : (before : List Occurrence) (k : ℕ) → is_some (connection_of before k) ≡ is_known before k
known_of before k = by (is_known before k) _ where
  by : (known : Bool) (c : ConnectionState) → is_some (if known then Some c else None) ≡ known
  by true c = refl
  by false c = refl

same_some : (o : Option KnownConnection) → is_some (option_map (λ (c : KnownConnection). c.state) o) ≡ is_some o
same_some None = refl
same_some (Some c) = refl

pub known_agrees : (t : TargetState) (disks : Opening) (before : List Occurrence) (received taken : ℕ → List ℕ) (k : ℕ)
    → AgreesWith t disks before received taken → is_known before k ≡ is_some (place t.connections k)
known_agrees t disks before received taken k agrees =
    sym (known_of before k) ∙ sym (ap is_some (agrees.connection k)) ∙ same_some (place t.connections k)

-- ---- what may come

pub edit_may : (t : TargetState) (disks : Opening) (before : List Occurrence) (received taken : ℕ → List ℕ) (edit : Edit) (c : Configuration)
    → AgreesWith t disks before received taken → accept t.config edit ≡ Ok c → IsOk (accept (config_of disks before) edit)
edit_may t disks before received taken edit c agrees accepted =
    subst IsOk (ap (λ (old : Configuration). accept old edit) agrees.config) (rw accepted refl)

is_port : {A : Type 0} (o : Option A) (rest : Option OpenFault) → (if is_none o then Some NoSuchPort else rest) ≡ None → IsSome o
is_port None rest h = cc
is_port (Some a) rest h = refl

pub open_may : (t : TargetState) (disks : Opening) (before : List Occurrence) (received taken : ℕ → List ℕ) (port k : ℕ)
    → AgreesWith t disks before received taken → k < connections_max → open_fault t port ≡ None → free_number t ≡ Some k → MayOpen disks before port k
open_may t disks before received taken port k agrees within accepted free =
    let least = least_free-Some t.connections k free in
    record {
      there = subst (λ (c : Configuration). IsSome (port_of c port)) agrees.config (is_port (port_of t.config port) _ accepted);
      within = within;
      free = known_agrees t disks before received taken k agrees ∙ ap is_some least.0;
      least = λ j below. known_agrees t disks before received taken j agrees
          ∙ least_free_below t.connections k j free below;
    }

not_ended : (s : Option (List ℕ)) (o : Option KnownConnection) → is_idle_at s o ≡ false → (is_some o ≡ true) × (is_ended_at o ≡ false)
not_ended None o busy = cc
not_ended (Some held) None busy = cc
not_ended (Some held) (Some c) busy = (refl, by (is_ended c.state.session) busy) where
  by : (ended : Bool) → (ended || is_incomplete (front Target held)) ≡ false → ended ≡ false
  by true h = cc
  by false h = refl

stands_complete : (found : Front) (s : Option (List ℕ)) → StandsIn found s → not (is_incomplete found) ≡ true
stands_complete found None stands = absurd stands
stands_complete found (Some held) stands = rw stands.1 refl

lasts_by : (ended known has : Bool) → ended ≡ (known && has) → ended ≡ false → known ≡ true → has ≡ false
lasts_by ended true has is not known = sym is ∙ not
lasts_by ended false has is not known = cc

pub step_may : (t : TargetState) (disks : Opening) (events : List Event) (received taken : ℕ → List ℕ) (k : ℕ) (found : Front)
    → Agrees t disks events received taken → is_idle_at (place t.streams k) (place t.connections k) ≡ false → StandsIn found (place t.streams k)
    → MayStep (happened disks events) k (not (is_incomplete found))
step_may t disks events received taken k found agrees busy stands =
    let before = happened disks events in
    let here = not_ended (place t.streams k) (place t.connections k) busy in
    let known = known_agrees t disks before received taken k agrees ∙ here.0 in
    record {
      known = known;
      lasts = lasts_by (is_ended_at (place t.connections k)) (is_known before k) (has_ended before k)
          ((ended_tells t k (is_ended_at (place t.connections k)) refl).tells disks events received taken agrees) here.1 known;
      something = stands_complete found (place t.streams k) stands;
    }

-- Each configuration of a target's history is valid, and has a name for each subsystem: a target begins so, and each
-- accepted edit keeps it so.
use Rattle.std.proofs.Common.{◌-◌, ◌<◌, ℕ, not, List, [], ◌∷◌, Result, Ok, Err, All, IfOk, IsTrue, length, map, drop, subst, sym, arith}
use Rattle.std.specs.Str.{bytes_eq}
use Rattle.std.proofs.lemmas.List.Elements.{All-cons, All-drop, All-filter, All-head, All-nil, All-push, All-tail}
use Rattle.nvt_fields.specs.Name.{IsName}
use Rattle.config_lists.proofs.Lists.{All-changed_where}
use Rattle.config_lists.specs.Edit.{IsNamed}
use Rattle.config_lists.specs.declared.edit.Edit.{Edit}
use Rattle.config_lists.specs.declared.edit.Edit.TheVariants.{SubsystemAdd, SubsystemSet, SubsystemDel, HostAdd, AnaSet}
use Rattle.config_lists.specs.declared.fault.EditFault.{EditFault}
use Rattle.nvt_config.specs.Accept.{accept, effect}
use Rattle.nvt_config.specs.Configuration.{Configuration, are_disks, disks_alone}
use Rattle.nvt_config.specs.Valid.{IsValid}
use Rattle.nvt_config.proofs.Hosts.{hosts_alone}
use Rattle.nvt_config.proofs.Refusals.{IfOk-effect}
use Rattle.nvt_config.proofs.States.{states_alone}
use Rattle.nvt_config.proofs.Valid.{IsValid-accept}
use Rattle.discovery_view.specs.Told.{IsSound}
use Rattle.target_history.specs.Event.{Event, edited, given_up, opened, stepped, ticked}
use Rattle.target_history.specs.History.{Opening, config_of, happened, meets_after}
use Rattle.target_history.specs.Occurrence.{accepted_or, config_after}
use Rattle.target_core.specs.Agreement.{AddsNamed, AddsNamedBy, Agrees}
use Rattle.target_core.specs.Target.{TargetState}
use Rattle.discovery_history.specs.Growing.{happened_by}

abbrev AreNamed : Configuration → Type 0
AreNamed c = All (λ s. IsName s.nqn) c.subsystems

-- each configuration that stood is sound
abbrev pub AreSound : Opening → List Event → Type 0
AreSound disks events = (n : ℕ) → IsSound (config_of disks (happened_by disks events n))

-- ---- an edit keeps names

named_after : (c : Configuration) (edit : Edit) → IsNamed edit → AreNamed c → AreNamed (effect c edit)
named_after c (SubsystemAdd nqn serial access) named is =
    All-push (λ s. IsName s.nqn) c.subsystems (record { nqn = nqn; serial = serial; access = access }) is named
named_after c (SubsystemSet nqn access) named is =
    All-changed_where (λ s. IsName s.nqn) (λ s. bytes_eq s.nqn nqn) (λ s. record s { access = access }) (λ s named. named) c.subsystems is
named_after c (SubsystemDel nqn) named is = All-filter (λ s. not (bytes_eq s.nqn nqn)) (λ s. IsName s.nqn) c.subsystems is
named_after c (HostAdd nqn) named is = subst AreNamed (sym (hosts_alone c nqn)) is
named_after c (AnaSet port nqn group state) named is = subst AreNamed (sym (states_alone c port nqn group state)) is
named_after c edit named is = is

-- ---- from event to event

sound_or : (r : Result Configuration EditFault) (c : Configuration) → IsSound c → IfOk r IsValid → IfOk r AreNamed → IsSound (accepted_or r c)
sound_or (Ok d) c is valid named = record { valid = valid; names = named }
sound_or (Err fault) c is valid named = is

sound_after : (event : Event) (c : Configuration) → AddsNamedBy event → IsSound c → IsSound (config_after event c)
sound_after (edited edit) c named is = sound_or (accept c edit) c is (IsValid-accept c edit is.valid) (IfOk-effect c edit AreNamed (named_after c edit named is.names))
sound_after (opened port k) c named is = is
sound_after (stepped k front m) c named is = is
sound_after (given_up k) c named is = is
sound_after (ticked now) c named is = is

none_below : {X : Type 0} (j : ℕ) → j < 0 → X
none_below j below = absurd (omega (arith, below))

alone_is_valid : (units : List ℕ) → IsTrue (are_disks units) → IsValid (disks_alone units)
alone_is_valid units are = record {
  disks = are;
  subsystems = record { count = omega arith; sound = All-nil _; distinct = λ _ j _ _ below. none_below j below };
  namespaces = record { sound = All-nil _; distinct = λ _ j _ _ below. none_below j below; disks = λ _ j _ _ below. none_below j below; uuids = λ _ j _ _ below. none_below j below };
  ports = record { count = omega arith; sound = All-nil _; distinct = λ _ j _ _ below. none_below j below };
  links = record { sound = All-nil _; distinct = λ _ j _ _ below. none_below j below };
  hosts = record { count = omega arith; distinct = λ _ j _ _ below. none_below j below };
  allows = record { count = omega arith; sound = All-nil _; distinct = λ _ j _ _ below. none_below j below };
  states = record { sound = All-nil _; distinct = λ _ j _ _ below. none_below j below };
  referrals = record { count = omega arith; sound = All-nil _; distinct = λ _ j _ _ below. none_below j below };
  shows = record { count = omega arith; sound = All-nil _; distinct = λ _ j _ _ below. none_below j below };
}

sound_at : (disks : Opening) (events : List Event) → IsTrue (are_disks (map length disks)) → All AddsNamedBy events → IsSound (config_of disks (happened disks events))
sound_at disks [] are named = record { valid = alone_is_valid (map length disks) are; names = All-nil (λ s. IsName s.nqn) }
sound_at disks (event ∷ before) are named =
    sound_after event (config_of disks (happened disks before)) (named 0 event (omega arith)) (sound_at disks before are (All-tail AddsNamedBy event before named))

-- the events of what happened are those of the history
named_events : (disks : Opening) (events : List Event) → All AddsNamed (happened disks events) → All AddsNamedBy events
named_events disks [] named = All-nil AddsNamedBy
named_events disks (event ∷ before) named =
    let first = meets_after disks (happened disks before) event in
    All-cons AddsNamedBy event before (All-head AddsNamed first (happened disks before) named)
    (named_events disks before (All-tail AddsNamed first (happened disks before) named))

pub are_sound : (t : TargetState) (disks : Opening) (events : List Event) (received taken : ℕ → List ℕ) → Agrees t disks events received taken
    → AreSound disks events
are_sound t disks events received taken agrees n =
    sound_at disks (drop (length events - n) events) agrees.sizes
    (All-drop AddsNamedBy (length events - n) events (named_events disks events agrees.named))

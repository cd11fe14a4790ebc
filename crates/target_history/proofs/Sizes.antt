-- The disks keep their sizes: each configuration of a history is valid, and what is decided is within its disks.
use Rattle.std.proofs.Common.{◌≡◌, ◌+◌, ◌<◌, ◌≤◌, ℕ, ◌==◌, Bool, true, false, List, [], ◌∷◌, Option, Some, None, Result, Ok, Err, IfOk, IsTrue, length, map, take, refl, ◌∙◌, ap, subst, arith, length-take, option_map, if◌then◌else◌}
use Rattle.std.proofs.lemmas.List.{get_or-map, length-map}
use Rattle.std.proofs.lemmas.List.Elements.{All-nil}
use Rattle.std.proofs.lemmas.Bool.{eqb-true}
use Rattle.block_store.specs.Write.{Write}
use Rattle.block_store.proofs.Overwrites.{length-overwritten}
use Rattle.config_lists.specs.declared.edit.Edit.{Edit}
use Rattle.config_lists.specs.declared.edit.Edit.TheVariants.{HostAdd, AnaSet}
use Rattle.config_lists.specs.declared.fault.EditFault.{EditFault}
use Rattle.nvt_config.specs.Accept.{accept, effect}
use Rattle.nvt_config.specs.Configuration.{Configuration, are_disks, disks_alone}
use Rattle.nvt_config.specs.Valid.{IsValid}
use Rattle.nvt_config.proofs.Hosts.{hosts_alone}
use Rattle.nvt_config.proofs.Refusals.{is_effect}
use Rattle.nvt_config.proofs.States.{states_alone}
use Rattle.nvt_config.proofs.Valid.{IsValid-accept}
use Rattle.io_queue.specs.declared.operation.Extent.{Extent}
use Rattle.io_queue.specs.declared.operation.Operation.{Operation}
use Rattle.io_queue.specs.Act.{DiskOutcome, count_new}
use Rattle.io_queue.specs.Execution.{new_of, write_of, write_on, written}
use Rattle.io_queue.specs.Operation.{HasExtent, disk_of}
use Rattle.pdu_cut.specs.Front.{Front}
use Rattle.target_decision.specs.declared.session.ConnectionState.{ConnectionState}
use Rattle.target_decision.specs.Decision.{WithinIn, act_in, decide}
use Rattle.target_decision.specs.Session.{is_ended}
use Rattle.target_decision.specs.Transfer.{Tags}
use Rattle.target_decision.specs.World.{World}
use Rattle.target_decision.proofs.Within.{decided_within}
use Rattle.target_history.specs.Event.{Event, disk_outcome_in, edited, front_in, given_up, opened, stepped, ticked}
use Rattle.target_history.specs.History.{Opening, blocks_of, config_of, connection_of, happened, meets_after, part_of, world_of}
use Rattle.target_history.specs.Lasting.{SizesStay, units_in}
use Rattle.target_history.specs.Occurrence.{accepted_or, bytes_asked, bytes_decided, config_after, decided_on, decision_of, operation_asked, operation_decided, stepping, stepping_tags}
use Rattle.target_history.proofs.Blocks.{blocks_step}
use Rattle.target_history.proofs.Given.{act_is, written_within}

-- ---- each configuration is valid, and has the disks

none_below : {X : Type 0} (j : ℕ) → j < 0 → X
none_below j below = absurd (omega (arith, below))

alone_is_valid : (units : List ℕ) → IsTrue (are_disks units) → IsValid (disks_alone units)
alone_is_valid units are = record {
  disks = are;
  subsystems = record { count = omega arith; sound = All-nil _; distinct = λ _ j _ _ below. none_below j below };
  namespaces = record { sound = All-nil _; distinct = λ _ j _ _ below. none_below j below; disks = λ _ j _ _ below. none_below j below; uuids = λ _ j _ _ below. none_below j below };
  ports = record { count = omega arith; sound = All-nil _; distinct = λ _ j _ _ below. none_below j below };
  links = record { sound = All-nil _; distinct = λ _ j _ _ below. none_below j below };
  hosts = record { count = omega arith; distinct = λ _ j _ _ below. none_below j below };
  allows = record { count = omega arith; sound = All-nil _; distinct = λ _ j _ _ below. none_below j below };
  states = record { sound = All-nil _; distinct = λ _ j _ _ below. none_below j below };
  referrals = record { count = omega arith; sound = All-nil _; distinct = λ _ j _ _ below. none_below j below };
  shows = record { count = omega arith; sound = All-nil _; distinct = λ _ j _ _ below. none_below j below };
}

units_stay : (c : Configuration) (edit : Edit) → (effect c edit).units ≡ c.units
units_stay c (HostAdd nqn) = ap (λ d. d.units) (hosts_alone c nqn)
units_stay c (AnaSet port nqn group state) = ap (λ d. d.units) (states_alone c port nqn group state)
units_stay c edit = refl

valid_or : (r : Result Configuration EditFault) (c : Configuration) → IsValid c → IfOk r IsValid → IsValid (accepted_or r c)
valid_or (Ok d) c valid after = after
valid_or (Err fault) c valid after = valid

valid_after : (event : Event) (c : Configuration) → IsValid c → IsValid (config_after event c)
valid_after (edited edit) c valid = valid_or (accept c edit) c valid (IsValid-accept c edit valid)
valid_after (opened port k) c valid = valid
valid_after (stepped k front m) c valid = valid
valid_after (given_up k) c valid = valid
valid_after (ticked now) c valid = valid

units_after : (event : Event) (c : Configuration) → (config_after event c).units ≡ c.units
units_after (edited edit) c = by (accept c edit) refl where
  by : (r : Result Configuration EditFault) → accept c edit ≡ r → (accepted_or r c).units ≡ c.units
  by (Ok d) is = ap (λ e. e.units) (is_effect c d edit is) ∙ units_stay c edit
  by (Err fault) is = refl
units_after (opened port k) c = refl
units_after (stepped k front m) c = refl
units_after (given_up k) c = refl
units_after (ticked now) c = refl

config_valid : (disks : Opening) (events : List Event) → IsTrue (are_disks (map length disks)) → IsValid (config_of disks (happened disks events))
config_valid disks [] are = alone_is_valid (map length disks) are
config_valid disks (event ∷ before) are = valid_after event (config_of disks (happened disks before)) (config_valid disks before are)

config_units : (disks : Opening) (events : List Event) → (config_of disks (happened disks events)).units ≡ map length disks
config_units disks [] = refl
config_units disks (event ∷ before) = units_after event (config_of disks (happened disks before)) ∙ config_units disks before

-- ---- what is decided is within them

decided_in : (w : World) (tags : Tags) (o : Option ConnectionState) (front : Front) → IsValid w.config
    → WithinIn w.config.units (operation_decided (decided_on w tags o front)) (bytes_decided (decided_on w tags o front) tags front)
decided_in w tags None front valid = tt
decided_in w tags (Some v) front valid = by (is_ended v.session) where
  by : (over : Bool)
      → WithinIn w.config.units (operation_decided (if over then None else Some (decide w v tags front))) (bytes_decided (if over then None else Some (decide w v tags front)) tags front)
  by true = tt
  by false = decided_within w v tags front valid

fits : (disks : Opening) (e : Extent) → HasExtent (map length disks) e → e.first + e.units ≤ length (units_in disks e.disk)
fits disks e has =
    let there : e.disk < length disks = omega (arith, has.disk, length-map disks length) in
    subst (λ n. e.first + e.units ≤ n) (get_or-map length disks e.disk [] 0 there) has.within

-- so a write leaves as many units as there were
act_keeps : (disks : Opening) (o : Option Operation) (bytes : List ℕ) (m : DiskOutcome) (disk : ℕ) (contents : List (List ℕ))
    → WithinIn (map length disks) o bytes → length contents ≡ length (units_in disks disk)
    → length (written (write_on disk (act_in o bytes m)) contents) ≡ length contents
act_keeps disks None bytes m disk contents within long = refl
act_keeps disks (Some op) bytes m disk contents within long = by (write_of op bytes) refl where
  by : (o : Option Write) → write_of op bytes ≡ o
      → length (written (write_on disk (option_map (λ w. record { disk = disk_of op; write = new_of m w }) o)) contents) ≡ length contents
  by None wrote = refl
  by (Some w) wrote = on (disk == disk_of op) refl where
    on : (same : Bool) → (disk == disk_of op) ≡ same → length (written (if same then Some (new_of m w) else None) contents) ≡ length contents
    on false other = refl
    on true same =
        let here : disk ≡ op.extent.disk = eqb-true disk op.extent.disk same in
        let room : op.extent.first + op.extent.units ≤ length (units_in disks op.extent.disk) = fits disks op.extent within.0 in
        let size : length contents ≡ length (units_in disks op.extent.disk) = long ∙ ap (λ d. length (units_in disks d)) here in
        let whole = written_within op.action op.extent bytes w wrote in
        length-overwritten contents (take (count_new m (length w.units)) w.units) w.first
        (omega (arith, room, size, whole.0, whole.1, length-take (count_new m (length w.units)) w.units))

pub sizes_stay : (disks : Opening) (events : List Event) (disk : ℕ) → IsTrue (are_disks (map length disks))
    → length (blocks_of disks (happened disks events) disk) ≡ length (units_in disks disk)
sizes_stay disks [] disk are = refl
sizes_stay disks (event ∷ before) disk are =
    let earlier = happened disks before in
    let x = meets_after disks earlier event in
    let stood = sizes_stay disks before disk are in
    let within : WithinIn (map length disks) (operation_asked x) (bytes_asked x) =
    subst (λ units. WithinIn units (operation_asked x) (bytes_asked x)) (config_units disks before)
    (decided_in (world_of disks earlier) (stepping_tags event (part_of earlier)) (stepping event (connection_of earlier)) (front_in event)
    (config_valid disks before are)) in
    ap (λ (c : List (List ℕ)). length c) (blocks_step disks x earlier disk)
    ∙ ap (λ o. length (written (write_on disk o) (blocks_of disks earlier disk))) (act_is (decision_of x) (stepping_tags event (part_of earlier)) (front_in event) (disk_outcome_in event))
    ∙ act_keeps disks (operation_asked x) (bytes_asked x) (disk_outcome_in event) disk (blocks_of disks earlier disk) within stood
    ∙ stood

pub sizes_stay_law : SizesStay
sizes_stay_law = record { stay = sizes_stay }

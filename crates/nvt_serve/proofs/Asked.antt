-- What ports hand out is done, and told: from the contracts of the calls that do it to a deed.
use Rattle.std.proofs.Common.{◌≡◌, ◌≢◌, ℕ, ◌≤◌, Bool, true, false, List, [], ◌∷◌, length, take, set, slice_index_or, Option, Some, None, Result, Ok, Err, IsErr, MatchOption, is_some, refl, ap, ◌∙◌, subst, arith}
use Rattle.std.specs.Option.{option_map}
use Rattle.std.proofs.lemmas.List.{length-take}
use Rattle.tables.specs.NumberTable.{place}
use Rattle.tables.proofs.NumberTables.{least_free-Some}
use Rattle.nvt_ports.specs.declared.event.PortEvent.{PortEvent}
use Rattle.nvt_ports.specs.declared.event.PortEvent.TheVariants as next
use Rattle.nvt_ports.specs.Event.{in_use_after}
use Rattle.nvt_ports.specs.Told.{PortsState, TellsMore, Told, handed_out_by, heard}
use Rattle.nvt_serve.specs.declared.asking.Counted.{Counted}
use Rattle.nvt_serve.specs.declared.asking.Counted.TheVariants as counted
use Rattle.nvt_serve.specs.declared.ties.Ties.{Ties}
use Rattle.nvt_serve.specs.Asking.{Answers, EditsBy, EndsBy, EndsSlot, HasRooms, OpensBy, ReceivesIn, numbers_by, room_of_slot}
use Rattle.nvt_serve.specs.Deed as deed
use Rattle.nvt_serve.specs.Deed.{Answered, AreReceived, Asked, Deed, Does, IsUnused, Serving, made_to, refused_by}
use Rattle.nvt_serve.specs.Looks.{AreLooks, Edits, Ticks}
use Rattle.nvt_serve.specs.Served.{AreTied, AreTies, Goes, serving}
use Rattle.nvt_serve.proofs.Looking.{looks_as, looks_edited, looks_opened, looks_received, looks_refused, looks_same, looks_ticked, looks_untied}
use Rattle.nvt_serve.proofs.Runs.{goes_once, numbers_of_one}
use Rattle.nvt_serve.proofs.Tying.{does_keep, within_kept}
use Rattle.target_core.specs.declared.fault.NoConn.{NoConn}
use Rattle.target_core.specs.Connection.{KnownConnection}
use Rattle.target_core.specs.Transition.{Transition}
use Rattle.target_core.specs.Target.{ReceivesAt, TargetState, free_number, room_at, room_of}
use Rattle.target_history.specs.Event.{given_up, ticked}

-- what a call of `next` tells, and which slots are in use after it
pub record AskedBy (event : PortEvent) (buffer : List ℕ) (old new : PortsState) : Type 0 where
  pub told : new.told ≡ option_map (heard (handed_out_by event buffer)) old.told
  pub in_use : new.in_use ≡ in_use_after event old.in_use
  pub faults : new.faults ≡ old.faults

-- what comes of it
pub record Comes (result : Counted) (p q : PortsState) (old new : TargetState) (before after : Ties) : Type 0 where
  pub ties : AreTies q new after
  pub goes : Goes (numbers_by result) (serving p old before) (serving q new after)

comes : (d : Deed) (result : Counted) (p q : PortsState) (old new : TargetState) (before after : Ties) → numbers_of_one d ≡ numbers_by result
    → Does d (serving p old before) (serving q new after) → AreLooks new after → AreTies p old before → Comes result p q old new before after
comes d result p q old new before after numbers does looks are = record {
  ties = record {
    tied = does_keep d (serving p old before) (serving q new after) does are.tied;
    within = within_kept d (serving p old before) (serving q new after) does are.within;
    looks = looks;
  };
  goes = subst (λ n. Goes n (serving p old before) (serving q new after)) numbers (goes_once d (serving p old before) (serving q new after) does);
}

-- ---- nothing, a tick, a line

pub nothing_comes : (p q : PortsState) (buffer : List ℕ) (t : TargetState) (ties : Ties) → AskedBy next.Nothing buffer p q → AreTies p t ties
    → Comes counted.Nothing p q t t ties ties
nothing_comes p q buffer t ties asked are =
    comes deed.nothing_came counted.Nothing p q t t ties ties refl
    (record {
      ports = record { told = asked.told; in_use = asked.in_use; faults = asked.faults };
      target = record { target = refl; connections = refl };
    })
    are.looks are

pub tick_comes : (p q : PortsState) (buffer : List ℕ) (ms : ℕ) (old new : TargetState) (before after : Ties) → AskedBy (next.Tick ms) buffer p q
    → Transition (ticked ms) old new → Ticks before after → AreTies p old before → Comes counted.Nothing p q old new before after
tick_comes p q buffer ms old new before after asked transition ticks are =
    comes (deed.clock_set ms) counted.Nothing p q old new before after refl
    (record {
      ports = record { told = asked.told; in_use = asked.in_use; faults = asked.faults };
      target = record { transition = transition; connections = ticks.connections };
    })
    (looks_ticked old new ms before after transition ticks are.looks) are

answered : (p q r : PortsState) (buffer : List ℕ) (n : ℕ) (answer : Told → Told) → AskedBy (next.Line n) buffer p q → Answers answer q r
    → Answered (take n buffer) answer p r
answered p q r buffer n answer asked answers = record {
  told = subst (λ (o : Option Told). TellsMore answer o r.told) asked.told answers.told;
  in_use = answers.in_use ∙ asked.in_use;
  faults = answers.faults ∙ asked.faults;
}

pub line_comes : (p q r : PortsState) (buffer : List ℕ) (n : ℕ) (result : Counted) (old new : TargetState) (before after : Ties)
    → AskedBy (next.Line n) buffer p q → EditsBy (take n buffer) result q r old new → Edits before after → AreTies p old before
    → Comes result p r old new before after
line_comes p q r buffer n counted.Edited old new before after asked h edits are =
    comes (deed.edit_made (take n buffer) h.makes.edit) counted.Edited p r old new before after refl
    (record {
      ports = answered p q r buffer n (made_to new.config) asked h.answers;
      target = record {
        is_line = h.makes.is_line;
        accepted = h.makes.accepted;
        happens = record { transition = h.makes.transition; connections = edits.connections };
      };
    })
    (looks_edited old new h.makes.edit before after h.makes.transition edits are.looks) are
line_comes p q r buffer n counted.Refused old new before after asked h edits are =
    comes (deed.edit_refused (take n buffer) h.why) counted.Refused p r old new before after refl
    (record {
      ports = answered p q r buffer n (refused_by h.why) asked h.answers;
      target = (h.refuses, record { target = h.stays; connections = edits.connections });
    })
    (looks_same old new after h.stays (looks_refused old before after edits are.looks)) are
line_comes p q r buffer n counted.Opened old new before after asked none edits are = absurd none
line_comes p q r buffer n counted.Nothing old new before after asked none edits are = absurd none

-- ---- bytes

none_of : (bytes : List ℕ) → length bytes ≤ 0 → bytes ≡ []
none_of [] within = refl
none_of (b ∷ bytes) within = absurd (omega (arith, within))

received_by : (result : Result ℕ NoConn) (bytes : List ℕ) → IsErr result → bytes ≡ [] → AreReceived result bytes
received_by (Ok n) bytes err none = cc
received_by (Err fault) bytes err none = none

all_received : (k : ℕ) (s : Option (List ℕ)) (o : Option KnownConnection) (old new : TargetState) (bytes : List ℕ) (result : Result ℕ NoConn)
    → ReceivesAt k s o old bytes result new → length bytes ≤ room_at s o → AreReceived result bytes
all_received k None o old new bytes result h within = received_by result bytes h.0 (none_of bytes within)
all_received k (Some held) None old new bytes result h within = received_by result bytes h.0 (none_of bytes within)
all_received k (Some held) (Some c) old new bytes result h within =
    rw h.0 (let less : length bytes ≤ room_of held c = within in omega (arith, less))

same_connections : (before after : Ties) → after ≡ before → after.connections ≡ before.connections
same_connections before after same = ap (λ (ties : Ties). ties.connections) same

-- .. as the rooms say that were handed in
pub room_of_bytes : (n slot : ℕ) (rooms : List ℕ) (t : TargetState) (ties : Ties) → rooms ≡ ties.rooms → HasRooms ties.rooms t ties
    → n ≤ slice_index_or rooms slot 0 → n ≤ room_of_slot t (place ties.connections slot)
room_of_bytes n slot rooms t ties same has fits =
    subst (λ (m : ℕ). n ≤ m) (ap (λ (l : List ℕ). slice_index_or l slot 0) same ∙ has slot) fits

pub bytes_come : (p q : PortsState) (buffer : List ℕ) (slot n : ℕ) (old new : TargetState) (before after : Ties) → AskedBy (next.Bytes slot n) buffer p q
    → n ≤ length buffer → n ≤ room_of_slot old (place before.connections slot)
    → ReceivesIn slot (place before.connections slot) (take n buffer) old new before after
    → AreTies p old before → Comes counted.Nothing p q old new before after
bytes_come p q buffer slot n old new before after asked within room receives are = by (place before.connections slot) refl room receives where
  tells : Asked (handed_out_by (next.Bytes slot n) buffer) p.in_use p q
  tells = record { told = asked.told; in_use = asked.in_use; faults = asked.faults }

  by : (o : Option ℕ) → place before.connections slot ≡ o → n ≤ room_of_slot old o → ReceivesIn slot o (take n buffer) old new before after
      → Comes counted.Nothing p q old new before after
  by None untied room receives =
      comes (deed.received_by_none slot (take n buffer)) counted.Nothing p q old new before after refl
      (record {
        ports = tells;
        target = (untied, record { target = receives.0; connections = same_connections before after receives.1 });
      })
      (looks_as new before after receives.1 (looks_same old new before receives.0 are.looks)) are
  by (Some k) tied room receives =
      comes (deed.received slot k (take n buffer)) counted.Nothing p q old new before after refl
      (record {
        ports = tells;
        target = record {
          tied = tied;
          result = receives.result;
          all = all_received k (place old.streams k) (place old.connections k) old new (take n buffer) receives.result receives.receives
              (let less : n ≤ room_at (place old.streams k) (place old.connections k) = room in omega (arith, length-take n buffer, within, less));
          receives = receives.receives;
          connections = receives.ties.connections;
        };
      })
      (looks_received old new slot k (room_at (place new.streams k) (place new.connections k)) (take n buffer) receives.result before after
      receives.receives receives.ties refl tied are.tied.alone are.looks) are

-- ---- a host that connects

-- a number that is free is no slot's
free_untied : (s : Serving) (k : ℕ) → AreTied s → free_number s.target ≡ Some k → (slot : ℕ) → place s.connections slot ≢ Some k
free_untied s k are free slot tied =
    let none = (least_free-Some s.target.connections k free).0 in
    let known = are.known slot k tied in
    let here : is_some (place s.target.connections k) ≡ false = ap is_some none in cc

pub host_comes : (p q r : PortsState) (buffer : List ℕ) (slot port : ℕ) (result : Counted) (old new : TargetState) (before after : Ties)
    → AskedBy (next.Open slot port) buffer p q → IsUnused slot p
    → OpensBy slot port result (serving q old before) (serving r new after) before after → AreTies p old before
    → Comes result p r old new before after
host_comes p q r buffer slot port counted.Opened old new before after asked unused opens are =
    comes (deed.connected slot port opens.number) counted.Opened p r old new before after refl
    (record {
      ports = rw opens.ports (record { told = asked.told; in_use = asked.in_use; faults = asked.faults });
      target = record {
        unused = unused;
        accepted = opens.accepted;
        within = opens.within;
        free = opens.free;
        transition = opens.transition;
        tied = opens.opens.connections;
      };
    })
    (looks_opened old new slot port opens.number (room_at (place new.streams opens.number) (place new.connections opens.number)) before after
    opens.transition opens.opens refl (free_untied (serving p old before) opens.number are.tied opens.free) are.looks) are
host_comes p q r buffer slot port counted.Refused old new before after asked unused refuses are =
    comes (deed.refused slot port refuses.fault) counted.Refused p r old new before after refl
    (record {
      ports = record {
        told = refuses.ports.told ∙ asked.told;
        in_use = refuses.ports.in_use ∙ ap (λ (l : List Bool). set l slot false) asked.in_use;
        faults = refuses.ports.faults ∙ asked.faults;
      };
      target = record { unused = unused; why = refuses.why; stays = record { target = refuses.stays.target; connections = refuses.stays.connections } };
    })
    (looks_as new before after refuses.ties (looks_same old new before refuses.stays.target are.looks)) are
host_comes p q r buffer slot port counted.Edited old new before after asked unused none are = absurd none
host_comes p q r buffer slot port counted.Nothing old new before after asked unused none are = absurd none

-- ---- a host that is gone

pub known_is : (o : Option KnownConnection) (A B : Type 0) → is_some o ≡ true → MatchOption o A (λ c. B) → B
known_is None A B known h = cc
known_is (Some c) A B known h = h

pub host_goes : (p q r : PortsState) (buffer : List ℕ) (slot : ℕ) (old new : TargetState) (before after : Ties) → AskedBy (next.End slot) buffer p q
    → EndsSlot slot (place before.connections slot) (serving q old before) (serving r new after) before after → AreTies p old before
    → Comes counted.Nothing p r old new before after
host_goes p q r buffer slot old new before after asked ends are = by (place before.connections slot) refl ends.0 where
  tells : Asked (handed_out_by (next.End slot) buffer) (set p.in_use slot false) p r
  tells = record {
    told = ends.1.told ∙ asked.told;
    in_use = ends.1.in_use ∙ ap (λ (l : List Bool). set l slot false) asked.in_use;
    faults = ends.1.faults ∙ asked.faults;
  }

  by : (o : Option ℕ) → place before.connections slot ≡ o → EndsBy slot o (serving q old before) (serving r new after) before after
      → Comes counted.Nothing p r old new before after
  by None untied h =
      comes (deed.gone_from_none slot) counted.Nothing p r old new before after refl
      (record { ports = tells; target = (untied, record { target = h.0; connections = same_connections before after h.1 }) })
      (looks_as new before after h.1 (looks_same old new before h.0 are.looks))
      are
  by (Some k) tied h =
      let transition = known_is (place old.connections k) (new ≡ old) (Transition (given_up k) old new) (are.tied.known slot k tied) h.transition in
      comes (deed.gone slot k) counted.Nothing p r old new before after refl
      (record { ports = tells; target = record { tied = tied; transition = transition; untied = h.unties.connections } })
      (looks_untied old new slot k before after transition h.unties tied are.tied.alone are.looks) are

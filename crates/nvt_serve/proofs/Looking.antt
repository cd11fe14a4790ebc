-- What a turn does not look at, through all that is done in it.
use Rattle.std.proofs.Common.{◌≡◌, ◌≢◌, ◌⊎◌, ℕ, ◌+◌, ◌<◌, ◌≤◌, Bool, true, false, ◌||◌, List, [], ◌∷◌, length, get_or, replicate, Option, Some, None, Result, is_some, refl, sym, ap, ◌∙◌, subst, inl, inr, arith, true≢false}
use Rattle.std.specs.Prelude.{◌==◌, if◌then◌else◌}
use Rattle.std.specs.Option.{option_map}
use Rattle.std.proofs.lemmas.Bool.{cases_eq, cases_lt}
use Rattle.std.proofs.lemmas.Bool.Decides.{nat_tests}
use Rattle.std.proofs.lemmas.List.{get_or_past, get_or-replicate, get_or-set_other, length-replicate}
use Rattle.config_lists.specs.declared.edit.Edit.{Edit}
use Rattle.tables.specs.NumberTable.{place, with_value, without}
use Rattle.tables.proofs.NumberTables.{place-without, place_past}
use Rattle.nvt_serve.specs.Asking.{HasRooms, room_of_slot}
use Rattle.nvt_serve.specs.declared.ties.Ties.{Ties}
use Rattle.nvt_serve.specs.Deed.{IsSlotOf}
use Rattle.nvt_serve.specs.Looks.{AreActive, AreEnding, AreKnown, AreLooks, AreReady, AreRooms, Edits, Forgets, ForgetsAlone, GivesRooms, HasRoomAt, HasRoomIn, IsAlone, LastsAt, NoneEnds, Opens, Receives, Rests, RestsAt, RestsNow, SetsRoom, SetsRoomAt, StepsIn, Ticks, Unties, is_queue}
use Rattle.nvt_serve.specs.Sets.{IsFirst, Joins, SetsBit, is_in}
use Rattle.nvt_serve.specs.Served.{IsQuietAt, has_bytes, is_quiet}
use Rattle.nvt_serve.specs.Stepping.{StepsOut}
use Rattle.nvt_serve.proofs.Lasting.{if_other, if_same, lasts_edited, lasts_given_up, lasts_opened, lasts_received, lasts_taken, lasts_ticked, opened_alive, received_connections, taken_ended}
use Rattle.target_core.specs.declared.fault.NoConn.{NoConn}
use Rattle.target_core.specs.Connection.{KnownConnection, fresh_on}
use Rattle.target_core.specs.Transition.{Transition, known_moved}
use Rattle.target_core.specs.Target.{ReceivesAt, TakenAt, TargetState, is_ended_at, is_idle, meets, output_at, room_at}
use Rattle.target_history.specs.Event.{edited, given_up, opened, ticked}
use Rattle.target_core.proofs.Knowing.{edited_known, received_known, taken_known, ticked_known}

-- ---- sets

own_in : (k before after : ℕ) (there : Bool) → SetsBit k there before after → is_in after k ≡ there
own_in k before after there sets = sets k ∙ if_same k _ _

other_in : (k j before after : ℕ) (there : Bool) → SetsBit k there before after → j ≢ k → is_in after j ≡ is_in before j
other_in k j before after there sets differs = sets j ∙ if_other j k _ _ differs

-- one that is not in a set that was joined was in neither
neither : (a b : Bool) → (a || b) ≡ false → (a ≡ false) × (b ≡ false)
neither true b h = cc
neither false b h = (refl, h)

joined_out : (other old new j : ℕ) → Joins other old new → is_in new j ≡ false → (is_in old j ≡ false) × (is_in other j ≡ false)
joined_out other old new j joins out = neither (is_in old j) (is_in other j) (sym (joins j) ∙ out)

-- ---- connections that are not known

none_queue : (o : Option KnownConnection) → is_some o ≡ false → is_queue o ≡ false
none_queue None none = refl
none_queue (Some c) none = cc

none_ended : (o : Option KnownConnection) → is_some o ≡ false → is_ended_at o ≡ false
none_ended None none = refl
none_ended (Some c) none = cc

none_rests : (s : Option (List ℕ)) (o : Option KnownConnection) → is_some o ≡ false → RestsAt s o
none_rests None None none = record { output = refl; idle = refl }
none_rests (Some held) None none = record { output = refl; idle = refl }
none_rests s (Some c) none = cc

-- ---- rooms

-- where each connection of a slot has the room that it had
rooms_last : (old new : TargetState) (rooms : List ℕ) (connections : List (Option ℕ))
    → ((slot k : ℕ) → place connections slot ≡ Some k → (n : ℕ) → HasRoomAt n (place old.streams k) (place old.connections k)
    → HasRoomAt n (place new.streams k) (place new.connections k))
    → AreRooms rooms connections old → AreRooms rooms connections new
rooms_last old new rooms connections lasts are = λ slot. by slot (place connections slot) refl (are slot) where
  by : (slot : ℕ) (o : Option ℕ) → place connections slot ≡ o → HasRoomIn (get_or rooms slot 0) old o → HasRoomIn (get_or rooms slot 0) new o
  by slot None untied has = has
  by slot (Some k) tied has = lasts slot k tied (get_or rooms slot 0) has

-- the room of one slot, and of each other
set_same : (slot room other : ℕ) (before after : List ℕ) → SetsRoom slot room before after → other ≡ slot → get_or after other 0 ≡ room
set_same slot room other before after sets same =
    let equal : (other == slot) ≡ true = grind (arith, nat_tests) in
    sets other ∙ ap (λ (b : Bool). if b then room else get_or before other 0) equal

set_other : (slot room other : ℕ) (before after : List ℕ) → SetsRoom slot room before after → other ≢ slot → get_or after other 0 ≡ get_or before other 0
set_other slot room other before after sets differs = sets other ∙ if_other other slot _ _ differs

-- one connection of a slot has another room, and each other one has the room that it had
rooms_with : (old new : TargetState) (slot k room : ℕ) (before after : List ℕ) (connections : List (Option ℕ)) → place connections slot ≡ Some k
    → IsAlone connections → SetsRoom slot room before after → room ≡ room_at (place new.streams k) (place new.connections k)
    → ((j : ℕ) → j ≢ k → (n : ℕ) → HasRoomAt n (place old.streams j) (place old.connections j) → HasRoomAt n (place new.streams j) (place new.connections j))
    → AreRooms before connections old → AreRooms after connections new
rooms_with old new slot k room before after connections tied alone sets has lasts are = λ other. by other (cases_eq other slot) where
  kept : (other : ℕ) → other ≢ slot → (o : Option ℕ) → place connections other ≡ o → HasRoomIn (get_or before other 0) old o
      → HasRoomIn (get_or before other 0) new o
  kept other differs None untied had = had
  kept other differs (Some j) too had =
      lasts j (λ same. differs (alone other slot k (too ∙ ap Some same) tied)) (get_or before other 0) had

  by : (other : ℕ) → (other ≡ slot) ⊎ (other ≢ slot) → HasRoomIn (get_or after other 0) new (place connections other)
  by other (inl same) =
      let here : place connections other ≡ Some k = ap (place connections) same ∙ tied in
      rw (here, set_same slot room other before after sets same) (λ alive. has)
  by other (inr differs) =
      rw (set_other slot room other before after sets differs) (kept other differs (place connections other) refl (are other))

-- a connection is opened in a slot
rooms_opened : (old new : TargetState) (slot k room : ℕ) (before after : List ℕ) (connections tied : List (Option ℕ))
    → tied ≡ with_value connections slot k → place tied slot ≡ Some k → SetsRoom slot room before after
    → room ≡ room_at (place new.streams k) (place new.connections k)
    → ((other j : ℕ) → place connections other ≡ Some j → (n : ℕ) → HasRoomAt n (place old.streams j) (place old.connections j)
    → HasRoomAt n (place new.streams j) (place new.connections j))
    → AreRooms before connections old → AreRooms after tied new
rooms_opened old new slot k room before after connections tied ties placed sets has lasts are = λ other. by other (cases_eq other slot) where
  kept : (other : ℕ) (o : Option ℕ) → place connections other ≡ o → HasRoomIn (get_or before other 0) old o → HasRoomIn (get_or before other 0) new o
  kept other None untied had = had
  kept other (Some j) too had = lasts other j too (get_or before other 0) had

  by : (other : ℕ) → (other ≡ slot) ⊎ (other ≢ slot) → HasRoomIn (get_or after other 0) new (place tied other)
  by other (inl same) =
      let here : place tied other ≡ Some k = ap (place tied) same ∙ placed in
      rw (here, set_same slot room other before after sets same) (λ alive. has)
  by other (inr differs) =
      let there : place tied other ≡ place connections other =
      ap (λ (l : List (Option ℕ)). place l other) ties ∙ get_or-set_other connections slot other (Some k) None differs in
      rw (there, set_other slot room other before after sets differs) (kept other (place connections other) refl (are other))

-- one of a slot is given up
rooms_left : (old new : TargetState) (slot k : ℕ) (before after : List ℕ) (connections left : List (Option ℕ)) → left ≡ without connections slot
    → place connections slot ≡ Some k → IsAlone connections → SetsRoom slot 0 before after
    → ((j : ℕ) → j ≢ k → (n : ℕ) → HasRoomAt n (place old.streams j) (place old.connections j) → HasRoomAt n (place new.streams j) (place new.connections j))
    → AreRooms before connections old → AreRooms after left new
rooms_left old new slot k before after connections left leaves tied alone sets lasts are = λ other. by other (cases_eq other slot) where
  kept : (other : ℕ) → other ≢ slot → (o : Option ℕ) → place connections other ≡ o → HasRoomIn (get_or before other 0) old o
      → HasRoomIn (get_or before other 0) new o
  kept other differs None untied had = had
  kept other differs (Some j) too had =
      lasts j (λ same. differs (alone other slot k (too ∙ ap Some same) tied)) (get_or before other 0) had

  by : (other : ℕ) → (other ≡ slot) ⊎ (other ≢ slot) → HasRoomIn (get_or after other 0) new (place left other)
  by other (inl same) =
      let equal : (other == slot) ≡ true = grind (arith, nat_tests) in
      let here : place left other ≡ None =
      ap (λ (l : List (Option ℕ)). place l other) leaves ∙ place-without connections slot other
      ∙ ap (λ (b : Bool). if b then None else place connections other) equal in
      rw (here, set_same slot 0 other before after sets same) refl
  by other (inr differs) =
      let there : place left other ≡ place connections other =
      ap (λ (l : List (Option ℕ)). place l other) leaves ∙ get_or-set_other connections slot other None None differs in
      rw (there, set_other slot 0 other before after sets differs) (kept other differs (place connections other) refl (are other))

-- one that has no slot changes, and each other one has the room that it had
rooms_beside : (old new : TargetState) (k : ℕ) (rooms : List ℕ) (connections : List (Option ℕ)) → ((slot : ℕ) → place connections slot ≢ Some k)
    → ((j : ℕ) → j ≢ k → (n : ℕ) → HasRoomAt n (place old.streams j) (place old.connections j) → HasRoomAt n (place new.streams j) (place new.connections j))
    → AreRooms rooms connections old → AreRooms rooms connections new
rooms_beside old new k rooms connections none lasts are =
    rooms_last old new rooms connections (λ slot j tied. lasts j (λ same. none slot (tied ∙ ap Some same))) are

-- where no connection has ended, the rooms are those of the connections
exact_in : (room : ℕ) (t : TargetState) (o : Option ℕ) → ((k : ℕ) → is_ended_at (place t.connections k) ≡ false) → HasRoomIn room t o → room ≡ room_of_slot t o
exact_in room t None none has = has
exact_in room t (Some k) none has = has (none k)

pub rooms_exact : (t : TargetState) (before after : Ties) → ((k : ℕ) → is_ended_at (place t.connections k) ≡ false) → NoneEnds before after
    → AreLooks t before → HasRooms after.rooms t after
rooms_exact t before after none ends are = rw (ends.rooms, ends.connections)
    (λ slot. exact_in (get_or before.rooms slot 0) t (place before.connections slot) none (are.rooms slot))

known_in : (room : ℕ) (t : TargetState) (o : Option ℕ) → room ≡ room_of_slot t o → HasRoomIn room t o
known_in room t None is = is
known_in room t (Some k) is = λ alive. is

-- .. which are looked at, one after the other
pub alive_more : (least k ending : ℕ) (t : TargetState) → IsFirst least k ending → AreEnding ending t → is_ended_at (place t.connections k) ≡ false
    → ((j : ℕ) → j < least → is_ended_at (place t.connections j) ≡ false) → (j : ℕ) → j < k + 1 → is_ended_at (place t.connections j) ≡ false
alive_more least k ending t first are here before j below =
    elim (cases_eq j k) [
      | inl same ↦ ap (λ (i : ℕ). is_ended_at (place t.connections i)) same ∙ here
      | inr differs ↦ elim (cases_lt j least) [
        | inl passed ↦ before j passed
        | inr past ↦ are j (first.none j past (omega (arith, below, differs)))
      ]
    ]

pub alive_all : (least ending : ℕ) (t : TargetState) → ((k : ℕ) → least ≤ k → is_in ending k ≡ false) → AreEnding ending t
    → ((j : ℕ) → j < least → is_ended_at (place t.connections j) ≡ false) → (k : ℕ) → is_ended_at (place t.connections k) ≡ false
alive_all least ending t none are before k =
    elim (cases_lt k least) [
      | inl passed ↦ before k passed
      | inr past ↦ are k (none k past)
    ]

-- ---- at first

-- those that are known, one by one
pub known_more : (t : TargetState) (k before after : ℕ) → SetsBit k true before after → is_some (place t.connections k) ≡ true
    → ((j : ℕ) → j < k → is_in before j ≡ is_some (place t.connections j))
    → (j : ℕ) → j < k + 1 → is_in after j ≡ is_some (place t.connections j)
known_more t k before after sets here known j below =
    elim (cases_eq j k) [
      | inl same ↦ ap (is_in after) same ∙ own_in k before after true sets ∙ sym (ap (λ (i : ℕ). is_some (place t.connections i)) same ∙ here)
      | inr differs ↦ other_in k j before after true sets differs ∙ known j (omega (arith, below, differs))
    ]

pub out_more : (k before after : ℕ) → SetsBit k true before after → ((j : ℕ) → k ≤ j → is_in before j ≡ false) → (j : ℕ) → k + 1 ≤ j → is_in after j ≡ false
out_more k before after sets rest j past =
    other_in k j before after true sets (λ same. omega (arith, past, same)) ∙ rest j (omega (arith, past))

pub unknown_more : (t : TargetState) (k known : ℕ) → is_some (place t.connections k) ≡ false
    → ((j : ℕ) → j < k → is_in known j ≡ is_some (place t.connections j)) → ((j : ℕ) → k ≤ j → is_in known j ≡ false)
    → (j : ℕ) → j < k + 1 → is_in known j ≡ is_some (place t.connections j)
unknown_more t k known none are rest j below =
    elim (cases_eq j k) [
      | inl same ↦ rest j (omega (arith, same)) ∙ sym (ap (λ (i : ℕ). is_some (place t.connections i)) same ∙ none)
      | inr differs ↦ are j (omega (arith, below, differs))
    ]

pub known_all : (t : TargetState) (known n : ℕ) → n ≡ 64 → length t.connections ≡ 64
    → ((j : ℕ) → j < n → is_in known j ≡ is_some (place t.connections j)) → ((j : ℕ) → n ≤ j → is_in known j ≡ false) → AreKnown known t
known_all t known n all most are rest = λ j.
    elim (cases_lt j n) [
      | inl within ↦ are j within
      | inr past ↦ rest j past ∙ sym (ap is_some (place_past t.connections j (omega (arith, all, most, past))))
    ]

pub no_room : (n s : ℕ) → ◌≡◌ {A = ℕ} (get_or (replicate n 0) s 0) 0
no_room n s =
    elim (cases_lt s n) [
      | inl within ↦ get_or-replicate n s 0 0 within
      | inr past ↦ get_or_past (replicate n 0) s 0 (omega (arith, past, length-replicate {A = ℕ} n 0))
    ]

pub looks_first : (t : TargetState) (ties : Ties) → AreKnown ties.known.bits t → ties.active ≡ ties.known → ties.ready ≡ ties.known
    → ties.ending ≡ ties.known → ties.rooms ≡ replicate 64 0 → ((slot : ℕ) → place ties.connections slot ≡ None) → AreLooks t ties
looks_first t ties known active ready ending rooms untied = record {
  known = known;
  active = rw active (λ k out. none_queue (place t.connections k) (sym (known k) ∙ out));
  ready = rw ready (λ k out. none_rests (place t.streams k) (place t.connections k) (sym (known k) ∙ out));
  ending = rw ending (λ k out. none_ended (place t.connections k) (sym (known k) ∙ out));
  rooms = rw rooms (λ slot. rw (untied slot) (no_room 64 slot));
}

-- ---- nothing happens

pub looks_same : (old new : TargetState) (ties : Ties) → new ≡ old → AreLooks old ties → AreLooks new ties
looks_same old new ties same are = subst (λ (t : TargetState). AreLooks t ties) (sym same) are

pub looks_as : (t : TargetState) (before after : Ties) → after ≡ before → AreLooks t before → AreLooks t after
looks_as t before after same are = subst (λ (ties : Ties). AreLooks t ties) (sym same) are

pub looks_rest : (t : TargetState) (k : ℕ) (before after : Ties) → RestsNow k before after → Rests t k → AreLooks t before → AreLooks t after
looks_rest t k before after now rests are = record {
  known = rw now.known are.known;
  active = rw now.active are.active;
  ready = λ j out. elim (cases_eq j k) [
    | inl same ↦ subst (λ (i : ℕ). Rests t i) (sym same) rests
    | inr differs ↦ are.ready j (sym (other_in k j before.ready.bits after.ready.bits false now.ready differs) ∙ out)
  ];
  ending = rw now.ending are.ending;
  rooms = rw (now.rooms, now.connections) are.rooms;
}

pub looks_alive : (t : TargetState) (before after : Ties) → NoneEnds before after → ((k : ℕ) → is_ended_at (place t.connections k) ≡ false)
    → AreLooks t before → AreLooks t after
looks_alive t before after ends none are = record {
  known = rw ends.known are.known;
  active = rw ends.active are.active;
  ready = rw ends.ready are.ready;
  ending = λ k out. none k;
  rooms = rw (ends.rooms, ends.connections) are.rooms;
}

pub looks_given : (t : TargetState) (rooms : List ℕ) (before after : Ties) → GivesRooms rooms before after → HasRooms rooms t before
    → AreLooks t before → AreLooks t after
looks_given t rooms before after gives has are = record {
  known = rw gives.known are.known;
  active = rw gives.active are.active;
  ready = rw gives.ready are.ready;
  ending = rw gives.ending are.ending;
  rooms = rw (gives.rooms, gives.connections) (λ slot. known_in (get_or rooms slot 0) t (place before.connections slot) (has slot));
}

pub has_given : (t : TargetState) (rooms : List ℕ) (before after : Ties) → GivesRooms rooms before after → HasRooms rooms t before → HasRooms after.rooms t after
has_given t rooms before after gives has = rw (gives.rooms, gives.connections) has

-- ---- a tick, an edit

pub looks_ticked : (old new : TargetState) (ms : ℕ) (before after : Ties) → Transition (ticked ms) old new → Ticks before after
    → AreLooks old before → AreLooks new after
looks_ticked old new ms before after transition ticks are = record {
  known = rw ticks.known (λ k. are.known k ∙ sym (ticked_known old new ms transition k));
  active = rw ticks.active (λ k out. (lasts_ticked old new ms transition k).queue (are.active k out));
  ready = rw ticks.ready (λ k out. (lasts_ticked old new ms transition k).rests (are.ready k out));
  ending = λ k out.
      let outs = joined_out before.active.bits before.ending.bits after.ending.bits k ticks.ending out in
      (lasts_ticked old new ms transition k).alive (are.active k outs.1) (are.ending k outs.0);
  rooms = rw (ticks.rooms, ticks.connections)
      (rooms_last old new before.rooms before.connections (λ slot k tied. (lasts_ticked old new ms transition k).room) are.rooms);
}

pub looks_edited : (old new : TargetState) (edit : Edit) (before after : Ties) → Transition (edited edit) old new → Edits before after
    → AreLooks old before → AreLooks new after
looks_edited old new edit before after transition edits are = record {
  known = rw edits.known (λ k. are.known k ∙ sym (edited_known old new edit transition k));
  active = rw edits.active (λ k out. (lasts_edited old new edit transition k).queue (are.active k out));
  ready = λ k out.
      let outs = joined_out before.active.bits before.ready.bits after.ready.bits k edits.ready out in
      (lasts_edited old new edit transition k).rests (are.active k outs.1) (are.ready k outs.0);
  ending = λ k out.
      let outs = joined_out before.known.bits before.ending.bits after.ending.bits k edits.ending out in
      none_ended (place new.connections k) (edited_known old new edit transition k ∙ sym (are.known k) ∙ outs.1);
  rooms = rw (edits.rooms, edits.connections)
      (rooms_last old new before.rooms before.connections (λ slot k tied. (lasts_edited old new edit transition k).room) are.rooms);
}

pub looks_refused : (t : TargetState) (before after : Ties) → Edits before after → AreLooks t before → AreLooks t after
looks_refused t before after edits are = record {
  known = rw edits.known are.known;
  active = rw edits.active are.active;
  ready = λ k out. are.ready k (joined_out before.active.bits before.ready.bits after.ready.bits k edits.ready out).0;
  ending = λ k out. are.ending k (joined_out before.known.bits before.ending.bits after.ending.bits k edits.ending out).0;
  rooms = rw (edits.rooms, edits.connections) are.rooms;
}

-- ---- hosts that connect

map_known : {T U : Type 0} (f : T → U) (o : Option T) → is_some (option_map f o) ≡ is_some o
map_known f None = refl
map_known f (Some x) = refl

fresh_at : (old new : TargetState) (port k : ℕ) → Transition (opened port k) old new → place new.connections k ≡ Some (fresh_on port)
fresh_at old new port k transition = transition.connection k ∙ if_same k _ _

no_bytes : (port : ℕ) → RestsAt (Some []) (Some (fresh_on port))
no_bytes port = record { output = refl; idle = refl }

pub looks_opened : (old new : TargetState) (slot port k room : ℕ) (before after : Ties) → Transition (opened port k) old new
    → Opens slot k room before after → room ≡ room_at (place new.streams k) (place new.connections k)
    → ((other : ℕ) → place before.connections other ≢ Some k) → AreLooks old before → AreLooks new after
looks_opened old new slot port k room before after transition opens has free are =
    let fresh = fresh_at old new port k transition in
    let bare = transition.stream k ∙ if_same k _ _ in
    record {
      known = λ j. elim (cases_eq j k) [
        | inl same ↦ ap (is_in after.known.bits) same ∙ own_in k before.known.bits after.known.bits true opens.known
            ∙ sym (ap (λ (i : ℕ). is_some (place new.connections i)) same ∙ ap is_some fresh)
        | inr differs ↦ other_in k j before.known.bits after.known.bits true opens.known differs ∙ are.known j
            ∙ sym (ap is_some (transition.connection j ∙ if_other j k _ _ differs)
            ∙ map_known (known_moved (meets old (opened port k)) j) (place old.connections j))
      ];
      active = rw opens.active (λ j out. elim (cases_eq j k) [
        | inl same ↦ ap (λ (i : ℕ). is_queue (place new.connections i)) same ∙ ap is_queue fresh
        | inr differs ↦ (lasts_opened old new port k transition j differs).queue (are.active j out)
      ]);
      ready = rw opens.ready (λ j out. elim (cases_eq j k) [
        | inl same ↦ subst (λ (i : ℕ). Rests new i) (sym same) (rw (bare, fresh) (no_bytes port))
        | inr differs ↦ (lasts_opened old new port k transition j differs).rests (are.ready j out)
      ]);
      ending = rw opens.ending (λ j out. elim (cases_eq j k) [
        | inl same ↦ ap (λ (i : ℕ). is_ended_at (place new.connections i)) same ∙ ap is_ended_at fresh
        | inr differs ↦ opened_alive old new port k transition j differs (are.ending j out)
      ]);
      rooms = rooms_opened old new slot k room before.rooms after.rooms before.connections after.connections opens.connections opens.placed opens.rooms has
          (λ other j tied. (lasts_opened old new port k transition j (λ same. free other (tied ∙ ap Some same))).room) are.rooms;
    }

-- ---- connections that are given up

none_at : (old new : TargetState) (k : ℕ) → Transition (given_up k) old new → place new.connections k ≡ None
none_at old new k transition = transition.connection k ∙ if_same k _ _

-- all but the rooms
pub record Forgotten (t : TargetState) (ties : Ties) : Type 0 where
  pub known : AreKnown ties.known.bits t
  pub active : AreActive ties.active.bits t
  pub ready : AreReady ties.ready.bits t
  pub ending : AreEnding ties.ending.bits t

forgotten : (old new : TargetState) (k : ℕ) (before after : Ties) → Transition (given_up k) old new → Forgets k before after → AreLooks old before
    → Forgotten new after
forgotten old new k before after transition forgets are =
    let gone = none_at old new k transition in
    record {
      known = λ j. elim (cases_eq j k) [
        | inl same ↦ ap (is_in after.known.bits) same ∙ own_in k before.known.bits after.known.bits false forgets.known
            ∙ sym (ap (λ (i : ℕ). is_some (place new.connections i)) same ∙ ap is_some gone)
        | inr differs ↦ other_in k j before.known.bits after.known.bits false forgets.known differs ∙ are.known j
            ∙ sym (ap is_some (transition.connection j ∙ if_other j k _ _ differs)
            ∙ map_known (known_moved (meets old (given_up k)) j) (place old.connections j))
      ];
      active = λ j out. elim (cases_eq j k) [
        | inl same ↦ ap (λ (i : ℕ). is_queue (place new.connections i)) same ∙ ap is_queue gone
        | inr differs ↦ (lasts_given_up old new k transition j differs).queue
            (are.active j (sym (other_in k j before.active.bits after.active.bits false forgets.active differs) ∙ out))
      ];
      ready = λ j out. elim (cases_eq j k) [
        | inl same ↦ none_rests (place new.streams j) (place new.connections j)
            (ap (λ (i : ℕ). is_some (place new.connections i)) same ∙ ap is_some gone)
        | inr differs ↦ (lasts_given_up old new k transition j differs).rests
            (are.ready j (sym (other_in k j before.ready.bits after.ready.bits false forgets.ready differs) ∙ out))
      ];
      ending = λ j out. elim (cases_eq j k) [
        | inl same ↦ ap (λ (i : ℕ). is_ended_at (place new.connections i)) same ∙ ap is_ended_at gone
        | inr differs ↦
            let outs = joined_out after.active.bits before.ending.bits after.ending.bits j forgets.ending out in
            (lasts_given_up old new k transition j differs).alive
            (are.active j (sym (other_in k j before.active.bits after.active.bits false forgets.active differs) ∙ outs.1)) (are.ending j outs.0)
      ];
    }

pub looks_untied : (old new : TargetState) (slot k : ℕ) (before after : Ties) → Transition (given_up k) old new → Unties slot k before after
    → place before.connections slot ≡ Some k → IsAlone before.connections → AreLooks old before → AreLooks new after
looks_untied old new slot k before after transition unties tied alone are =
    let others = forgotten old new k before after transition unties.forgets are in
    record {
      known = others.known;
      active = others.active;
      ready = others.ready;
      ending = others.ending;
      rooms = rooms_left old new slot k before.rooms after.rooms before.connections after.connections unties.connections tied alone unties.rooms
          (λ j differs. (lasts_given_up old new k transition j differs).room) are.rooms;
    }

pub looks_forgotten : (old new : TargetState) (k : ℕ) (before after : Ties) → Transition (given_up k) old new → ForgetsAlone k before after
    → ((slot : ℕ) → place before.connections slot ≢ Some k) → AreLooks old before → AreLooks new after
looks_forgotten old new k before after transition forgets none are =
    let others = forgotten old new k before after transition forgets.forgets are in
    record {
      known = others.known;
      active = others.active;
      ready = others.ready;
      ending = others.ending;
      rooms = rw (forgets.rooms, forgets.connections)
          (rooms_beside old new k before.rooms before.connections none (λ j differs. (lasts_given_up old new k transition j differs).room) are.rooms);
    }

-- ---- bytes that come, and output that is taken

pub looks_received : (old new : TargetState) (slot k room : ℕ) (piece : List ℕ) (result : Result ℕ NoConn) (before after : Ties)
    → ReceivesAt k (place old.streams k) (place old.connections k) old piece result new → Receives slot k room before after
    → room ≡ room_at (place new.streams k) (place new.connections k) → place before.connections slot ≡ Some k → IsAlone before.connections
    → AreLooks old before → AreLooks new after
looks_received old new slot k room piece result before after h receives has tied alone are =
    let lasts : (j : ℕ) → j ≢ k → LastsAt j old new = λ j differs.
    lasts_received old new k (place old.streams k) (place old.connections k) piece result h j differs in
    let same = received_connections old new k (place old.streams k) (place old.connections k) piece result h in
    record {
      known = rw receives.known (λ j. are.known j ∙ sym (received_known old new k piece result h j));
      active = λ j out. elim (cases_eq j k) [
        | inl here ↦ absurd (true≢false (sym (ap (is_in after.active.bits) here ∙ own_in k before.active.bits after.active.bits true receives.active) ∙ out))
        | inr differs ↦ (lasts j differs).queue (are.active j (sym (other_in k j before.active.bits after.active.bits true receives.active differs) ∙ out))
      ];
      ready = λ j out. elim (cases_eq j k) [
        | inl here ↦ absurd (true≢false (sym (ap (is_in after.ready.bits) here ∙ own_in k before.ready.bits after.ready.bits true receives.ready) ∙ out))
        | inr differs ↦ (lasts j differs).rests (are.ready j (sym (other_in k j before.ready.bits after.ready.bits true receives.ready differs) ∙ out))
      ];
      ending = rw (receives.ending, same) are.ending;
      rooms = rw receives.connections
          (rooms_with old new slot k room before.rooms after.rooms before.connections tied alone receives.rooms has (λ j differs. (lasts j differs).room) are.rooms);
    }

pub looks_taken : (old new : TargetState) (k n : ℕ) (ties : Ties) → TakenAt k (place old.connections k) old n new → AreLooks old ties → AreLooks new ties
looks_taken old new k n ties takes are = record {
  known = λ j. are.known j ∙ sym (taken_known old new k n takes j);
  active = λ j out. (lasts_taken old new k n takes j).queue (are.active j out);
  ready = λ j out. (lasts_taken old new k n takes j).rests (are.ready j out);
  ending = λ j out. taken_ended old new k n takes j ∙ are.ending j out;
  rooms = rooms_last old new ties.rooms ties.connections (λ slot j tied. (lasts_taken old new k n takes j).room) are.rooms;
}

-- ---- steps

rooms_stepped : (old new : TargetState) (o : Option ℕ) (k room : ℕ) (before after : List ℕ) (connections : List (Option ℕ)) → IsSlotOf o k connections
    → IsAlone connections → SetsRoomAt o room before after → room ≡ room_at (place new.streams k) (place new.connections k)
    → ((j : ℕ) → j ≢ k → (n : ℕ) → HasRoomAt n (place old.streams j) (place old.connections j) → HasRoomAt n (place new.streams j) (place new.connections j))
    → AreRooms before connections old → AreRooms after connections new
rooms_stepped old new None k room before after connections none alone same has lasts are =
    rw same (rooms_beside old new k before connections none lasts are)
rooms_stepped old new (Some slot) k room before after connections tied alone sets has lasts are =
    rooms_with old new slot k room before after connections tied alone sets has lasts are

pub looks_stepped : (old new : TargetState) (k room : ℕ) (wants : Bool) (before after : Ties) → StepsOut k wants old new → StepsIn k room before after
    → room ≡ room_at (place new.streams k) (place new.connections k) → IsAlone before.connections → is_in before.ready.bits k ≡ true
    → AreLooks old before → AreLooks new after
looks_stepped old new k room wants before after steps kept has alone there are = record {
  known = rw kept.known (λ j. are.known j ∙ sym (steps.known j));
  active = λ j out. elim (cases_eq j k) [
    | inl here ↦ absurd (true≢false (sym (ap (is_in after.active.bits) here ∙ own_in k before.active.bits after.active.bits true kept.active) ∙ out))
    | inr differs ↦ (steps.lasts j differs).queue (are.active j (sym (other_in k j before.active.bits after.active.bits true kept.active differs) ∙ out))
  ];
  ready = rw kept.ready (λ j out. elim (cases_eq j k) [
    | inl here ↦ absurd (true≢false (sym (ap (is_in before.ready.bits) here ∙ there) ∙ out))
    | inr differs ↦ (steps.lasts j differs).rests (are.ready j out)
  ]);
  ending = λ j out.
      let outs = joined_out after.active.bits before.ending.bits after.ending.bits j kept.ending out in
      elim (cases_eq j k) [
        | inl here ↦ absurd (true≢false (sym (ap (is_in after.active.bits) here ∙ own_in k before.active.bits after.active.bits true kept.active) ∙ outs.1))
        | inr differs ↦ (steps.lasts j differs).alive
            (are.active j (sym (other_in k j before.active.bits after.active.bits true kept.active differs) ∙ outs.1)) (are.ending j outs.0)
      ];
  rooms = rw kept.connections
      (rooms_stepped old new kept.slot k room before.rooms after.rooms before.connections kept.tied alone kept.rooms has (λ j differs. (steps.lasts j differs).room)
      are.rooms);
}

-- one that is quiet and has no output rests
quiet_rests : (s : Option (List ℕ)) (o : Option KnownConnection) → is_quiet s o ≡ true → output_at o ≡ [] → RestsAt s o
quiet_rests None o quiet none = record { output = none; idle = refl }
quiet_rests (Some held) None quiet none = record { output = none; idle = refl }
quiet_rests (Some held) (Some c) quiet none = record { output = none; idle = ap (λ (l : List ℕ). has_bytes l || is_idle held c) (sym none) ∙ quiet }

pub rests_quiet : (t : TargetState) (k : ℕ) → IsQuietAt t k → output_at (place t.connections k) ≡ [] → Rests t k
rests_quiet t k quiet none = quiet_rests (place t.streams k) (place t.connections k) quiet none

pub output_none : (bytes output : List ℕ) (is_empty : Bool) → bytes ≡ output → is_empty ≡ (length bytes == 0) → is_empty ≡ true → output ≡ []
output_none [] output is_empty same is holds = sym same
output_none (b ∷ bytes) output is_empty same is holds =
    let some : (length (b ∷ bytes) == 0) ≡ false = grind (arith, nat_tests) in
    absurd (true≢false (sym holds ∙ is ∙ some))

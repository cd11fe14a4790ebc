-- A slot carries the stream of its connection.
use Rattle.std.proofs.Common.{◌≡◌, ◌≢◌, ℕ, true, false, ◌||◌, List, [], ◌∷◌, ◌++◌, Option, Some, None, is_some, refl, sym, ap, ◌∙◌, inl, inr, arith}
use Rattle.std.specs.Prelude.{◌==◌, if◌then◌else◌}
use Rattle.std.proofs.lemmas.Bool.{cases_eq}
use Rattle.std.proofs.lemmas.Bool.Decides.{nat_tests}
use Rattle.tables.specs.NumberTable.{place, with_value, without}
use Rattle.tables.proofs.NumberTables.{least_free-Some}
use Rattle.nvt_ports.specs.Told.{HandedOut}
use Rattle.nvt_serve.specs.Deed as deed
use Rattle.nvt_serve.specs.Deed.{Deed, Does, IsSlotOf, Runs, Serving, without_slot}
use Rattle.nvt_serve.specs.History.{SlotsCarryTheirConnections, handed_out_for, handed_out_in, heard_in, received_after, received_with, sent_in, sent_with, taken_after, taken_with}
use Rattle.nvt_serve.specs.Served.{AreTied}
use Rattle.nvt_serve.proofs.Tying.{does_keep, left_before, none_tied, there, tied_new, unused_untied}
use Rattle.target_core.specs.Target.{free_number}

abbrev Lists : Type 0
Lists = ℕ → List ℕ

-- what stands for the connection of each slot is what stands for the slot
abbrev Match : List (Option ℕ) → Lists → Lists → Type 0
Match connections f g = (slot k : ℕ) → place connections slot ≡ Some k → f k ≡ g slot

same_match : (old new : List (Option ℕ)) (f g : Lists) → new ≡ old → Match old f g → Match new f g
same_match old new f g same holds slot k tied = holds slot k (there new old slot k same tied)

-- a slot without a connection is something else's
beside_match : (old new : List (Option ℕ)) (f g h : Lists) (slot : ℕ) → new ≡ old → place old slot ≡ None
    → ((other : ℕ) → other ≢ slot → h other ≡ g other) → Match old f g → Match new f h
beside_match old new f g h slot same untied others holds other k tied =
    let was = there new old other k same tied in
    elim (cases_eq other slot) [
      | inl is ↦ let here : place old other ≡ None = ap (place old) is ∙ untied in cc
      | inr differs ↦ holds other k was ∙ sym (others other differs)
    ]

cleared : (slot other : ℕ) (bytes : List ℕ) → other ≢ slot → (if slot == other then [] else bytes) ≡ bytes
cleared slot other bytes differs =
    let unequal : (slot == other) ≡ false = grind (arith, nat_tests) in
    rw unequal refl

grown : (slot other : ℕ) (bytes piece : List ℕ) → other ≢ slot → (if slot == other then bytes ++ piece else bytes) ≡ bytes
grown slot other bytes piece differs =
    let unequal : (slot == other) ≡ false = grind (arith, nat_tests) in
    rw unequal refl

-- a connection is opened in a slot
opened_match : (s : Serving) (new : List (Option ℕ)) (f g : Lists) (slot k : ℕ) → AreTied s → free_number s.target ≡ Some k
    → new ≡ with_value s.connections slot k → Match s.connections f g
    → Match new (λ j. if (j == k) || false then [] else f j) (λ other. if slot == other then [] else g other)
opened_match s new f g slot k are free tied holds other j at =
    elim (tied_new s.connections slot k other j (there new (with_value s.connections slot k) other j tied at)) [
      | inl here ↦
          let same = here.1 in
          let is = here.0 in
          let one : (j == k) ≡ true = grind (arith, nat_tests) in
          let two : (slot == other) ≡ true = grind (arith, nat_tests) in
          rw (one, two) refl
      | inr was ↦
          let known = are.known other j was.1 in
          let none = (least_free-Some s.target.connections k free).0 in
          let differs : j ≢ k = λ is. let gone : is_some (place s.target.connections j) ≡ false = ap is_some (ap (place s.target.connections) is ∙ none) in cc in
          let one : (j == k) ≡ false = grind (arith, nat_tests) in
          rw one (holds other j was.1 ∙ sym (cleared slot other (g other) was.0))
    ]

-- bytes come, or go, in a slot
grown_match : (s : Serving) (new : List (Option ℕ)) (f g : Lists) (slot k : ℕ) (bytes : List ℕ) → AreTied s → place s.connections slot ≡ Some k
    → new ≡ s.connections → Match s.connections f g
    → Match new (λ j. if j == k then f j ++ bytes else f j) (λ other. if slot == other then g other ++ bytes else g other)
grown_match s new f g slot k bytes are tied same holds other j at =
    let was = there new s.connections other j same at in
    elim (cases_eq other slot) [
      | inl is ↦
          let equal : Some j ≡ Some k = sym was ∙ ap (place s.connections) is ∙ tied in
          let same_number : j ≡ k = cc in
          let one : (j == k) ≡ true = grind (arith, nat_tests) in
          let two : (slot == other) ≡ true = grind (arith, nat_tests) in
          rw (one, two) (ap (λ (l : List ℕ). l ++ bytes) (holds other j was))
      | inr differs ↦
          let not_k : j ≢ k = λ is. differs (are.alone other slot k (was ∙ ap Some is) tied) in
          let one : (j == k) ≡ false = grind (arith, nat_tests) in
          rw one (holds other j was ∙ sym (grown slot other (g other) bytes differs))
    ]

-- a connection is given up
left_match : (old new : List (Option ℕ)) (f g : Lists) (k : ℕ)
    → ((other j : ℕ) → place new other ≡ Some j → (j ≢ k) × (place old other ≡ Some j)) → Match old f g
    → Match new (λ j. if false || (j == k) then [] else f j) g
left_match old new f g k split holds other j at =
    let was = split other j at in
    let differs = was.0 in
    let one : (j == k) ≡ false = grind (arith, nat_tests) in
    rw one (holds other j was.1)

split_slot : (s : Serving) (new : List (Option ℕ)) (o : Option ℕ) (k : ℕ) → AreTied s → IsSlotOf o k s.connections → new ≡ without_slot o s.connections
    → (other j : ℕ) → place new other ≡ Some j → (j ≢ k) × (place s.connections other ≡ Some j)
split_slot s new None k are none same other j at =
    let was = there new s.connections other j same at in
    (λ is. none other (was ∙ ap Some is), was)
split_slot s new (Some slot) k are tied untied other j at =
    let was = left_before s.connections slot other j (there new (without s.connections slot) other j untied at) in
    (λ is. was.0 (are.alone other slot k (was.1 ∙ ap Some is) tied), was.1)

-- ---- what is received

received_match : (d : Deed) (old new : Serving) (f g : Lists) → Does d old new → AreTied old → Match old.connections f g
    → Match new.connections (received_with d f) (λ slot. heard_in slot (handed_out_for d) (g slot))
received_match (deed.clock_set ms) old new f g h are holds = same_match old.connections new.connections f g h.target.connections holds
received_match (deed.connected slot port k) old new f g h are holds =
    opened_match old new.connections f g slot k are h.target.free h.target.tied holds
received_match (deed.refused slot port fault) old new f g h are holds =
    beside_match old.connections new.connections f g _ slot h.target.stays.connections (unused_untied old slot are h.target.unused)
    (λ other differs. cleared slot other (g other) differs) holds
received_match (deed.received slot k bytes) old new f g h are holds =
    grown_match old new.connections f g slot k bytes are h.target.tied h.target.connections holds
received_match (deed.received_by_none slot bytes) old new f g h are holds =
    beside_match old.connections new.connections f g _ slot h.target.1.connections h.target.0 (λ other differs. grown slot other (g other) bytes differs) holds
received_match (deed.gone slot k) old new f g h are holds =
    left_match old.connections new.connections f g k (split_slot old new.connections (Some slot) k are h.target.tied h.target.untied) holds
received_match (deed.gone_from_none slot) old new f g h are holds = same_match old.connections new.connections f g h.target.1.connections holds
received_match (deed.edit_made line edit) old new f g h are holds = same_match old.connections new.connections f g h.target.happens.connections holds
received_match (deed.edit_refused line why) old new f g h are holds = same_match old.connections new.connections f g h.target.1.connections holds
received_match deed.nothing_came old new f g h are holds = same_match old.connections new.connections f g h.target.connections holds
received_match (deed.stepped_on k found m) old new f g h are holds = same_match old.connections new.connections f g h.target.happens.connections holds
received_match (deed.sent slot k bytes) old new f g h are holds = same_match old.connections new.connections f g h.target.connections holds
received_match (deed.failed slot k) old new f g h are holds =
    left_match old.connections new.connections f g k (split_slot old new.connections (Some slot) k are h.target.tied h.target.untied) holds
received_match (deed.closed slot k) old new f g h are holds =
    left_match old.connections new.connections f g k (split_slot old new.connections slot k are h.target.tied h.target.untied) holds

heard_in-append : (slot : ℕ) (a b : List HandedOut) (so_far : List ℕ) → heard_in slot (a ++ b) so_far ≡ heard_in slot b (heard_in slot a so_far)
heard_in-append slot [] b so_far = refl
heard_in-append slot (h ∷ a) b so_far = heard_in-append slot a b _

received_runs : (deeds : List Deed) (old new : Serving) (f g : Lists) → Runs deeds old new → AreTied old → Match old.connections f g
    → Match new.connections (received_after deeds f) (λ slot. heard_in slot (handed_out_in deeds) (g slot))
received_runs [] old new f g same are holds = same_match old.connections new.connections f g (ap (λ (s : Serving). s.connections) same) holds
received_runs (d ∷ deeds) old new f g h are holds = λ slot k at.
    received_runs deeds h.0 new (received_with d f) (λ other. heard_in other (handed_out_for d) (g other)) h.2 (does_keep d old h.0 h.1 are)
    (received_match d old h.0 f g h.1 are holds) slot k at
    ∙ sym (heard_in-append slot (handed_out_for d) (handed_out_in deeds) (g slot))

-- ---- what is taken

taken_match : (d : Deed) (old new : Serving) (f g : Lists) → Does d old new → AreTied old → Match old.connections f g
    → Match new.connections (taken_with d f) (λ slot. sent_with slot d (g slot))
taken_match (deed.clock_set ms) old new f g h are holds = same_match old.connections new.connections f g h.target.connections holds
taken_match (deed.connected slot port k) old new f g h are holds =
    opened_match old new.connections f g slot k are h.target.free h.target.tied holds
taken_match (deed.refused slot port fault) old new f g h are holds = same_match old.connections new.connections f g h.target.stays.connections holds
taken_match (deed.received slot k bytes) old new f g h are holds = same_match old.connections new.connections f g h.target.connections holds
taken_match (deed.received_by_none slot bytes) old new f g h are holds = same_match old.connections new.connections f g h.target.1.connections holds
taken_match (deed.gone slot k) old new f g h are holds =
    left_match old.connections new.connections f g k (split_slot old new.connections (Some slot) k are h.target.tied h.target.untied) holds
taken_match (deed.gone_from_none slot) old new f g h are holds = same_match old.connections new.connections f g h.target.1.connections holds
taken_match (deed.edit_made line edit) old new f g h are holds = same_match old.connections new.connections f g h.target.happens.connections holds
taken_match (deed.edit_refused line why) old new f g h are holds = same_match old.connections new.connections f g h.target.1.connections holds
taken_match deed.nothing_came old new f g h are holds = same_match old.connections new.connections f g h.target.connections holds
taken_match (deed.stepped_on k found m) old new f g h are holds = same_match old.connections new.connections f g h.target.happens.connections holds
taken_match (deed.sent slot k bytes) old new f g h are holds =
    grown_match old new.connections f g slot k bytes are h.target.tied h.target.connections holds
taken_match (deed.failed slot k) old new f g h are holds =
    left_match old.connections new.connections f g k (split_slot old new.connections (Some slot) k are h.target.tied h.target.untied) holds
taken_match (deed.closed slot k) old new f g h are holds =
    left_match old.connections new.connections f g k (split_slot old new.connections slot k are h.target.tied h.target.untied) holds

taken_runs : (deeds : List Deed) (old new : Serving) (f g : Lists) → Runs deeds old new → AreTied old → Match old.connections f g
    → Match new.connections (taken_after deeds f) (λ slot. sent_in slot deeds (g slot))
taken_runs [] old new f g same are holds = same_match old.connections new.connections f g (ap (λ (s : Serving). s.connections) same) holds
taken_runs (d ∷ deeds) old new f g h are holds =
    taken_runs deeds h.0 new (taken_with d f) (λ other. sent_with other d (g other)) h.2 (does_keep d old h.0 h.1 are)
    (taken_match d old h.0 f g h.1 are holds)

-- ---- from the first deed on

none_match : (connections : List (Option ℕ)) (f g : Lists) → ((slot : ℕ) → place connections slot ≡ None) → Match connections f g
none_match connections f g none slot k tied = let here = none slot in cc

pub slots_carry_their_connections : SlotsCarryTheirConnections
slots_carry_their_connections = record {
  received = λ deeds old new f slot k none runs at.
      received_runs deeds old new f (λ other. []) runs (none_tied old none) (none_match old.connections f (λ other. []) none) slot k at;
  taken = λ deeds old new f slot k none runs at.
      taken_runs deeds old new f (λ other. []) runs (none_tied old none) (none_match old.connections f (λ other. []) none) slot k at;
}

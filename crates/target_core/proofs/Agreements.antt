-- A target that moves by an event agrees with the history that is longer by it.
use Rattle.std.proofs.Common.{◌≡◌, ℕ, Bool, true, false, ◌||◌, IsTrue, List, [], ◌∷◌, ◌++◌, drop, length, map, Option, Some, None, refl, sym, ap, ◌∙◌, append_assoc}
use Rattle.std.proofs.Math.Path.{fun_ext}
use Rattle.std.proofs.lemmas.Bool.{eqb-true}
use Rattle.std.proofs.lemmas.List.Elements.{All-cons, All-nil}
use Rattle.std.specs.Prelude.{if◌then◌else◌, ◌==◌}
use Rattle.std.specs.Option.{option_map}
use Rattle.nvt_config.specs.Configuration.{Configuration, are_disks}
use Rattle.fabrics_connect.specs.declared.row.Row.{Row}
use Rattle.tables.specs.NumberTable.{place}
use Rattle.tables.proofs.NumberTables.{place-replicate}
use Rattle.target_state.specs.Controllers.{controller_places}
use Rattle.std.proofs.Math.ListN.{get_or-map}
use Rattle.block_store.specs.Stored.{Stored}
use Rattle.data_transfer.specs.Parts.{part_at}
use Rattle.io_queue.specs.Execution.{contents_at, no_disk, write_on, written}
use Rattle.pdu_cut.specs.declared.side.Side.TheVariants.{Target}
use Rattle.pdu_cut.specs.Front.{Front, incomplete, whole, faulty}
use Rattle.pdu_cut.specs.Pdu.{Pdu}
use Rattle.pdu_cut.proofs.Streams.{begins_with_none, begins_with_taken}
use Rattle.target_core.specs.Agreement.{AddsNamed, AddsNamedBy, Agrees, AgreesAfter, AgreesStill, AgreesWith, OutputAgrees, StreamAgrees, nothing}
use Rattle.target_core.specs.Connection.{KnownConnection, fresh_on}
use Rattle.target_decision.specs.Session.{opened_on}
use Rattle.target_core.specs.Transition.{Transition, Stands, StandsIn, known_after, known_moved}
use Rattle.target_core.specs.Target.{TargetState, connection_at, meets, IsNewTarget, world_at}
use Rattle.target_decision.specs.declared.controller.Controller.{Controller}
use Rattle.target_decision.specs.declared.session.ConnectionState.{ConnectionState}
use Rattle.target_decision.specs.Decision.{consumed_of}
use Rattle.admin_queue.specs.Pages.{Pages}
use Rattle.target_decision.specs.Transfer.{Tags}
use Rattle.target_decision.specs.World.{World, connections_max}
use Rattle.target_history.specs.Event.{Event, edited, port_in, front_in, gives_up, opened, opens, steps, stepped, given_up, ticked}
use Rattle.target_history.specs.Occurrence.{Occurrence, acts, clock_after, config_after, controller_after, connection_after, connection_moved, parts_after, row_after, sends}
use Rattle.target_history.specs.History.{Opening, blocks_of, clock_of, config_of, connection_of, happened, last_front, meets_after, part_of, pdus_of, sent, with_pdu, world_of}
use Rattle.target_history.proofs.Blocks.{blocks_step}
use Rattle.target_history.proofs.Lives.{controller_step, row_step}
use Rattle.target_history.proofs.Noticing.{connection_step}
use Rattle.target_history.proofs.Transfers.{part_step}
use Rattle.target_state.proofs.Shows.{new_show, pages_agree, views_step}

-- ---- what an event meets

worlds_same : (v w : World) → v.pages ≡ w.pages → v.config ≡ w.config → ((c : ℕ) → v.row c ≡ w.row c) → ((c : ℕ) → v.controller c ≡ w.controller c) → v ≡ w
worlds_same v w pages config rows controllers =
    ap (λ (a : Pages). let u : World = record { pages = a; config = v.config; row = v.row; controller = v.controller } in u) pages
    ∙ ap (λ (a : Configuration). let u : World = record { pages = w.pages; config = a; row = v.row; controller = v.controller } in u) config
    ∙ ap (λ (a : ℕ → Option Row). let u : World = record { pages = w.pages; config = w.config; row = a; controller = v.controller } in u) (fun_ext rows)
    ∙ ap (λ (a : ℕ → Option Controller). let u : World = record { pages = w.pages; config = w.config; row = w.row; controller = a } in u) (fun_ext controllers)

-- what a decision may look at is what the history says
world_agrees : (t : TargetState) (disks : Opening) (before : List Occurrence) (received taken : ℕ → List ℕ)
    → AgreesWith t disks before received taken → world_at t ≡ world_of disks before
world_agrees t disks before received taken agrees =
    worlds_same (world_at t) (world_of disks before) (pages_agree t.shown disks before agrees.shown) agrees.config agrees.row agrees.controller

occurrences_same : (event : Event) (v w : World) (f g : ℕ → Option ConnectionState) (p q : ℕ → Tags) (m n : ℕ) (b c : ℕ → List (List ℕ)) → v ≡ w → f ≡ g → p ≡ q → m ≡ n → b ≡ c
    → (let x : Occurrence = record { event = event; world = v; connection = f; parts = p; clock = m; blocks = b } in x)
    ≡ (let x : Occurrence = record { event = event; world = w; connection = g; parts = q; clock = n; blocks = c } in x)
occurrences_same event v w f g p q m n b c worlds connections parts clocks blocks = rw (worlds, connections, parts, clocks, blocks) refl

-- .. and so is all that an event meets
pub meets_agree : (t : TargetState) (event : Event) (disks : Opening) (before : List Occurrence) (received taken : ℕ → List ℕ)
    → AgreesWith t disks before received taken → meets t event ≡ meets_after disks before event
meets_agree t event disks before received taken agrees =
    occurrences_same event (world_at t) (world_of disks before) (connection_at t) (connection_of before) (part_at t.transfers) (part_of before) t.clock (clock_of before)
    (contents_at t.disks) (blocks_of disks before) (world_agrees t disks before received taken agrees) (fun_ext agrees.connection) (fun_ext (λ k. fun_ext (agrees.part k))) agrees.clock
    (fun_ext agrees.blocks)

-- ---- connections

moved_here : (x : Occurrence) (k : ℕ) (o : Option KnownConnection)
    → option_map (λ (c : KnownConnection). c.state) (known_after x k o)
    ≡ connection_after x k (option_map (λ (c : KnownConnection). c.state) o)
moved_here x k o = by (opens x.event k) (gives_up x.event k) o where
  by : (opening giving : Bool) (o : Option KnownConnection)
      → option_map (λ (c : KnownConnection). c.state)
      (if opening then Some (fresh_on (port_in x.event)) else if giving then None else option_map (known_moved x k) o)
      ≡ (if opening then Some (opened_on (port_in x.event)) else
      if giving then None else option_map (connection_moved x k) (option_map (λ (c : KnownConnection). c.state) o))
  by true giving o = refl
  by false true o = refl
  by false false None = refl
  by false false (Some c) = refl

output_step : (x : Occurrence) (before : List Occurrence) (k : ℕ) (o : Option KnownConnection) (t : List ℕ)
    → x.connection k ≡ option_map (λ (c : KnownConnection). c.state) o → OutputAgrees o (sent before k) t
    → OutputAgrees (known_after x k o) (sent (x ∷ before) k) (if opens x.event k || gives_up x.event k then [] else t)
output_step x before k o t met agrees = by (opens x.event k) (gives_up x.event k) o met agrees where
  by : (opening giving : Bool) (o : Option KnownConnection)
      → x.connection k ≡ option_map (λ (c : KnownConnection). c.state) o → OutputAgrees o (sent before k) t
      → OutputAgrees (if opening then Some (fresh_on (port_in x.event)) else if giving then None else option_map (known_moved x k) o)
      (if opening || giving then [] else sent before k ++ sends x k) (if opening || giving then [] else t)
  by true giving o met agrees = refl
  by false true o met agrees = (refl, refl)
  by false false None met agrees = rw (met, agrees.0) (refl, agrees.1)
  by false false (Some c) met agrees = rw agrees (append_assoc t c.output (sends x k))

-- ---- streams

-- what a step finds is the next PDU of the stream, or a fault that stays
consumed_step : (held received : List ℕ) (pdus : List Pdu) (last found : Front) → StandsIn found (Some held)
    → StreamAgrees (Some held) pdus last received
    → StreamAgrees (Some (drop (consumed_of found) held)) (with_pdu found pdus) found received
consumed_step held received pdus last incomplete stands agrees = let complete = stands.1 in cc
consumed_step held received pdus last (whole pdu) stands agrees =
    (begins_with_taken Target received pdus held pdu agrees.0 stands.0, tt)
consumed_step held received pdus last (faulty fault head) stands agrees = (agrees.0, stands.0)

abbrev stands_at : Bool → Front → Option (List ℕ) → Type 0
stands_at true found o = StandsIn found o
stands_at false found o = Unit {0}

stream_by : (event : Event) (k : ℕ) (o : Option (List ℕ)) (pdus : List Pdu) (last : Front) (received : List ℕ)
    → (opening giving stepping : Bool) → stands_at stepping (front_in event) o → StreamAgrees o pdus last received
    → StreamAgrees (if opening then Some [] else if giving then None else option_map (λ held. if stepping then drop (consumed_of (front_in event)) held else held) o)
    (if opening || giving then [] else if stepping then with_pdu (front_in event) pdus else pdus)
    (if opening || giving then incomplete else if stepping then front_in event else last)
    (if opening || giving then [] else received)
stream_by event k o pdus last received true giving stepping stands agrees = (begins_with_none Target [], tt)
stream_by event k o pdus last received false true stepping stands agrees = refl
stream_by event k None pdus last received false false true stands agrees = agrees
stream_by event k None pdus last received false false false stands agrees = agrees
stream_by event k (Some held) pdus last received false false true stands agrees =
    consumed_step held received pdus last (front_in event) stands agrees
stream_by event k (Some held) pdus last received false false false stands agrees = agrees

-- what stands in the stream of a step is what stands in that of its number
stands_here : (event : Event) (t : TargetState) (k : ℕ) → Stands event t → stands_at (steps event k) (front_in event) (place t.streams k)
stands_here (edited edit) t k stands = tt
stands_here (opened port n) t k stands = tt
stands_here (given_up n) t k stands = tt
stands_here (ticked now) t k stands = tt
stands_here (stepped n found m) t k stands = by (k == n) refl where
  by : (same : Bool) → (k == n) ≡ same → stands_at same found (place t.streams k)
  by true is = rw (eqb-true k n is) stands
  by false is = tt

-- ---- one more event

named_here : (event : Event) (t : TargetState) → Stands event t → AddsNamedBy event
named_here (edited edit) t stands = stands
named_here (opened port n) t stands = tt
named_here (given_up n) t stands = tt
named_here (ticked now) t stands = tt
named_here (stepped n found m) t stands = tt

pub transition_agrees : (event : Event) (old new : TargetState) → Transition event old new → AgreesAfter event old new
transition_agrees event old new transition = record {
  keeps = λ disks events received taken agrees.
      let before = happened disks events in
      let x : Occurrence = meets_after disks before event in
      let met : meets old event ≡ x = meets_agree old event disks before received taken agrees in
      let config : new.config ≡ config_after event (config_of disks before) = transition.config ∙ ap (config_after event) agrees.config in
      record {
        config = config;
        clock = transition.clock ∙ ap (clock_after event) agrees.clock;
        shown = views_step x old.shown new.shown disks before (rw config at transition.shown) agrees.shown;
        connection = λ k. ap (option_map (λ (c : KnownConnection). c.state))
            (transition.connection k ∙ ap (λ (y : Occurrence). known_after y k (place old.connections k)) met)
            ∙ moved_here x k (place old.connections k) ∙ ap (connection_after x k) (agrees.connection k)
            ∙ sym (connection_step disks events event k);
        part = λ k ttag. transition.part k ttag ∙ ap (λ (y : Occurrence). parts_after y k (part_at old.transfers k) ttag) met
            ∙ ap (λ (tags : Tags). parts_after x k tags ttag) (fun_ext (agrees.part k)) ∙ sym (part_step x before k refl refl ttag);
        row = λ c. transition.row c ∙ ap (λ (y : Occurrence). row_after y c (place old.rows c)) met ∙ ap (row_after x c) (agrees.row c)
            ∙ sym (row_step x before c refl);
        controller = λ c. transition.controller c ∙ ap (λ (y : Occurrence). controller_after y c (place old.controllers c)) met
            ∙ ap (controller_after x c) (agrees.controller c) ∙ sym (controller_step x before c);
        stream = λ k. rw (transition.stream k)
            (stream_by event k (place old.streams k) (pdus_of before k) (last_front before k) (received k) (opens event k) (gives_up event k)
            (steps event k) (stands_here event old k transition.stands) (agrees.stream k));
        output = λ k. rw (transition.connection k, met) (output_step x before k (place old.connections k) (taken k) (sym (agrees.connection k)) (agrees.output k));
        blocks = λ d. transition.blocks d ∙ ap (λ (y : Occurrence). written (write_on d (acts y)) (contents_at old.disks d)) met
            ∙ ap (written (write_on d (acts x))) (agrees.blocks d) ∙ sym (blocks_step disks x before d);
        sizes = agrees.sizes;
        named = All-cons AddsNamed x before (named_here event old transition.stands) agrees.named;
      };
}

-- ---- no event

pub same_agrees : (old new : TargetState) → new ≡ old → AgreesStill old new
same_agrees old new same = record { keeps = λ disks events received taken agrees. rw same agrees }

pub new_agrees : (target : TargetState) (disks : Opening) → IsTrue (are_disks (map length disks)) → IsNewTarget disks target → Agrees target disks [] nothing nothing
new_agrees target disks sizes fresh = record {
  config = fresh.over.config;
  clock = fresh.over.clock;
  shown = new_show target.shown disks fresh.over.shown;
  connection = λ k. rw (fresh.over.connections, place-replicate connections_max k) refl;
  part = fresh.over.transfers.at;
  row = λ c. rw (fresh.over.rows, place-replicate controller_places c) refl;
  controller = λ c. rw (fresh.over.controllers, place-replicate controller_places c) refl;
  stream = λ k. rw (fresh.over.streams, place-replicate connections_max k) refl;
  output = λ k. rw (fresh.over.connections, place-replicate connections_max k) (refl, refl);
  blocks = λ d. rw (← fresh.units) (sym (get_or-map (λ (s : Stored). s.contents) target.disks d no_disk));
  sizes = sizes;
  named = All-nil AddsNamed;
}

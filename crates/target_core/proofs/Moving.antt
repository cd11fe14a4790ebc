-- What the calls make of a target, place by place.
use Rattle.std.proofs.Common.{◌≡◌, ℕ, ◌+◌, ◌<◌, ◌≤◌, Bool, true, false, List, [], length, map, ◌++◌, max, Option, Some, None, Ok, refl, sym, ap, ◌∙◌, append-nil}
use Rattle.std.specs.Prelude.{if◌then◌else◌, ◌==◌, is_none, position}
use Rattle.std.specs.Option.{option_map}
use Rattle.tables.specs.NumberTable.{place, with_value, without}
use Rattle.tables.proofs.NumberTables.{least_free-Some, place-map, place-with_value, place-without}
use Rattle.config_lists.specs.declared.edit.Edit.{Edit}
use Rattle.config_lists.specs.Edit.{IsNamed}
use Rattle.nvt_config.specs.Accept.{accept}
use Rattle.nvt_config.specs.Configuration.{Configuration}
use Rattle.target_state.specs.Controllers.{TablesState, gone_by}
use Rattle.target_state.proofs.Staying.{nothing_gone, nothing_goes, nothing_leaves}
use Rattle.block_store.specs.Stored.{Stored}
use Rattle.discovery_view.specs.Forming.{reach}
use Rattle.fabrics_connect.specs.declared.row.Row.{Row}
use Rattle.admin_queue.specs.Viewer.{Views}
use Rattle.data_transfer.specs.Part.{Part}
use Rattle.data_transfer.specs.Parts.{Stand, part_at, without_queue}
use Rattle.io_queue.specs.Act.{DiskOutcome}
use Rattle.io_queue.specs.Execution.{contents_at}
use Rattle.pdu_cut.specs.Front.{Front}
use Rattle.target_core.specs.Connection.{KnownConnection, ends_known, fresh_on, settled, told_known, told_to}
use Rattle.target_core.specs.Transition.{Transition, known_moved}
use Rattle.target_core.specs.Target.{TargetState, meets}
use Rattle.target_state.specs.Views.{ShowNext}
use Rattle.target_decision.specs.declared.decision.Decision.{Decision}
use Rattle.target_decision.specs.declared.session.ConnectionState.{ConnectionState}
use Rattle.target_decision.specs.declared.session.Role.TheVariants.{Admin, Io}
use Rattle.target_decision.specs.declared.session.Session.{Session}
use Rattle.target_decision.specs.declared.session.Session.TheVariants.{Opened, Initialized, Connected, Ended}
use Rattle.target_decision.specs.declared.transfer.WaitingCommand.{WaitingCommand}
use Rattle.target_decision.specs.Tell.{completed_in, completion_pdus}
use Rattle.target_decision.specs.Transfer.{Tags}
use Rattle.target_decision.specs.World.{World}
use Rattle.target_history.specs.declared.end_cause.EndCause.{EndCause}
use Rattle.target_history.specs.declared.end_cause.EndCause.TheVariants as cause
use Rattle.target_history.specs.EndCause.{cause_edited, cause_lost, ends_by, ends_session, is_on_port}
use Rattle.target_history.specs.Event.{Event, edited, front_in, disk_outcome_in, opened, opens, given_up, gives_up, ticked}
use Rattle.target_history.specs.Occurrence.{Occurrence, Telling, alignment_decided, completed_by, config_after, connection_moved, decided, cause_of, edit_made, ends_live, made_by, noted_by, notices_decided, parts_after, row_kept, sends_on, session_decided, telling, telling_by, told_at, views_at, views_in, views_of}
use Rattle.target_history.proofs.Endings.{kept_whole}
use Rattle.target_history.proofs.Telling.{no_telling}
use Rattle.target_history.proofs.Tests.{neither}
use Rattle.target_core.proofs.Settling.{nothing_drops, same_at}

abbrev pub tables_of : TargetState → TablesState
tables_of t = record { rows = t.rows; own = t.controllers }

-- what an event that is no edit makes of a connection, by what is decided on it and what ends elsewhere
abbrev pub turned : World → (ℕ → List (List ℕ)) → DiskOutcome → Tags → Option Decision → Front → EndCause → (ℕ → Bool) → KnownConnection → KnownConnection
turned w blocks m tags d found e gone c = record {
  state = record {
    port = c.state.port;
    session = if ends_by e gone c.state then Ended else session_decided c.state.session d;
    alignment = alignment_decided c.state.alignment d;
    notices = notices_decided c.state.notices d;
  };
  output = c.output ++ sends_on w blocks m tags (Some c.state) d found;
}

-- .. and any, where this is told
abbrev moved_as : Occurrence → ℕ → KnownConnection → Option Telling → KnownConnection
moved_as x k c t = record {
  state = record {
    port = c.state.port;
    session =
        if ends_by (cause_of x) (ends_live x) c.state then Ended else
        completed_in (session_decided c.state.session (decided x k)) (completed_by t c.state.notices);
    alignment = alignment_decided c.state.alignment (decided x k);
    notices = noted_by t (notices_decided c.state.notices (decided x k));
  };
  output = c.output ++ (sends_on x.world x.blocks (disk_outcome_in x.event) (x.parts k) (Some c.state) (decided x k) (front_in x.event)
      ++ completion_pdus c.state.session (completed_by t c.state.notices));
}

moves_as : (x : Occurrence) (k : ℕ) (c : KnownConnection) → x.connection k ≡ Some c.state → known_moved x k c ≡ moved_as x k c (telling x c.state)
moves_as x k c met =
    ap (λ (o : Option ConnectionState). let d : KnownConnection = record {
      state = connection_moved x k c.state;
      output = c.output ++ (sends_on x.world x.blocks (disk_outcome_in x.event) (x.parts k) o (decided x k) (front_in x.event) ++ told_at x o);
    } in d) met

-- ---- what is no edit

untold_as : (x : Occurrence) (k : ℕ) (c : KnownConnection)
    → moved_as x k c None ≡ turned x.world x.blocks (disk_outcome_in x.event) (x.parts k) (decided x k) (front_in x.event) (cause_of x) (ends_live x) c
untold_as x k c =
    ap (λ (l : List ℕ). let d : KnownConnection = record {
      state = record {
        port = c.state.port;
        session = if ends_by (cause_of x) (ends_live x) c.state then Ended else session_decided c.state.session (decided x k);
        alignment = alignment_decided c.state.alignment (decided x k);
        notices = notices_decided c.state.notices (decided x k);
      };
      output = c.output ++ l;
    } in d) (append-nil (sends_on x.world x.blocks (disk_outcome_in x.event) (x.parts k) (Some c.state) (decided x k) (front_in x.event)))

pub moved_is : (x : Occurrence) (k : ℕ) (c : KnownConnection) → x.connection k ≡ Some c.state → edit_made x.event x.world.config ≡ None
    → known_moved x k c ≡ turned x.world x.blocks (disk_outcome_in x.event) (x.parts k) (decided x k) (front_in x.event) (cause_of x) (ends_live x) c
moved_is x k c met unedited = moves_as x k c met ∙ ap (moved_as x k c) (no_telling x c.state unedited) ∙ untold_as x k c

settled_turned : (w : World) (blocks : ℕ → List (List ℕ)) (m : DiskOutcome) (tags : Tags) (found : Front) (e : EndCause) (gone : ℕ → Bool) (c : KnownConnection) → settled e gone c ≡ turned w blocks m tags None found e gone c
settled_turned w blocks m tags found e gone c = by (ends_by e gone c.state) where
  by : (ended : Bool)
      → (if ended then record c { state = record c.state { session = Ended } } else c)
      ≡ (let d : KnownConnection = record {
        state = record c.state { session = if ended then Ended else c.state.session };
        output = c.output ++ [];
      } in d)
  by true = simp append-nil
  by false = simp append-nil

-- where nothing is decided on it, what ends elsewhere is all that becomes of it
pub silent_at : (x : Occurrence) (k : ℕ) (o : Option KnownConnection)
    → x.connection k ≡ option_map (λ (c : KnownConnection). c.state) o → decided x k ≡ None → edit_made x.event x.world.config ≡ None
    → option_map (settled (cause_of x) (ends_live x)) o ≡ option_map (known_moved x k) o
silent_at x k None met none unedited = refl
silent_at x k (Some c) met none unedited =
    ap Some (settled_turned x.world x.blocks (disk_outcome_in x.event) (x.parts k) (front_in x.event) (cause_of x) (ends_live x) c
    ∙ ap (λ (d : Option Decision). turned x.world x.blocks (disk_outcome_in x.event) (x.parts k) d (front_in x.event) (cause_of x) (ends_live x) c) (sym none)
    ∙ sym (moved_is x k c met unedited))

pub stream_stays : (o : Option (List ℕ)) → o ≡ option_map (λ held. held) o
stream_stays None = refl
stream_stays (Some held) = refl

-- .. and of its transfers
pub part_at-silent : (x : Occurrence) (k : ℕ) (o : Option KnownConnection) (tags : Tags) (t : ℕ)
    → x.connection k ≡ option_map (λ (c : KnownConnection). c.state) o → decided x k ≡ None → opens x.event k ≡ false → gives_up x.event k ≡ false
    → (if ends_known (cause_of x) (ends_live x) o then None else tags t) ≡ parts_after x k tags t
part_at-silent x k None tags t met none opening giving = rw (none, met, opening, giving) refl
part_at-silent x k (Some c) tags t met none opening giving = rw (none, met, opening, giving) refl

-- ---- an edit

-- the controllers that are gone, by the configuration that an event leaves
gone_after : (old : TargetState) (event : Event) (config : Configuration) → config_after event old.config ≡ config
    → gone_by (cause_of (meets old event)) config (tables_of old) ≡ ends_live (meets old event)
gone_after old event config after =
    ap (λ (c : Configuration). gone_by (cause_of (meets old event)) c (tables_of old)) (sym after)

-- what a controller that stays shows is the same
views_stay : (edit : Edit) (gone : ℕ → Bool) (rows row : ℕ → Option Row) (c : ℕ) → gone c ≡ false
    → rows c ≡ (if gone c then None else option_map (row_kept (cause_edited edit) c) (row c)) → option_map views_of (rows c) ≡ option_map views_of (row c)
views_stay edit gone rows row c lives is =
    ap (option_map views_of) (is ∙ ap (λ (over : Bool). if over then None else option_map (row_kept (cause_edited edit) c) (row c)) lives) ∙ by (row c)
  where
    by : (o : Option Row) → option_map views_of (option_map (row_kept (cause_edited edit) c) o) ≡ option_map views_of o
    by None = refl
    by (Some r) = ap (λ (kept : Row). Some (views_of kept)) (kept_whole edit c r)

viewer_stays : (edit : Edit) (gone : ℕ → Bool) (rows row : ℕ → Option Row) (s : Session) → ends_session (cause_edited edit) gone s ≡ false
    → ((c : ℕ) → rows c ≡ (if gone c then None else option_map (row_kept (cause_edited edit) c) (row c))) → views_in rows s ≡ views_in row s
viewer_stays edit gone rows row (Connected (Admin c) queue) lasts is = views_stay edit gone rows row c lasts (is c)
viewer_stays edit gone rows row (Connected (Io c qid) queue) lasts is = refl
viewer_stays edit gone rows row Opened lasts is = refl
viewer_stays edit gone rows row Initialized lasts is = refl
viewer_stays edit gone rows row Ended lasts is = refl

-- an edit ends a connection, or its host is told
module _ (old : TargetState) (edit : Edit) (new : Configuration) (rows : ℕ → Option Row) (k : ℕ) (accepted : accept old.config edit ≡ Ok new)
    (is : (c : ℕ) → rows c ≡ (if ends_live (meets old (edited edit)) c then None else option_map (row_kept (cause_edited edit) c) (place old.rows c))) where
  abbrev x : Occurrence
  x = meets old (edited edit)

  abbrev e : EndCause
  e = cause_edited edit

  made : edit_made (edited edit) old.config ≡ Some new
  made = ap made_by accepted

  -- by whether it is ended, and what is shown
  abbrev edit_as : KnownConnection → Bool → Option Telling → KnownConnection
  edit_as c over t = record {
    state = record {
      port = c.state.port;
      session = if over then Ended else completed_in c.state.session (completed_by t c.state.notices);
      alignment = c.state.alignment;
      notices = noted_by t c.state.notices;
    };
    output = c.output ++ completion_pdus c.state.session (completed_by t c.state.notices);
  }

  told_as : (c : KnownConnection) (views : Option Views) → told_to old.config new views c ≡ edit_as c false (telling_by old.config (Some new) views)
  told_as c None = simp append-nil
  told_as c (Some views) = refl

  over_as : (c : KnownConnection) → (let d : KnownConnection = record c { state = record c.state { session = Ended } } in d) ≡ edit_as c true None
  over_as c = simp append-nil

  edit_turned : (c : KnownConnection) (over : Bool) → ends_by e (ends_live x) c.state ≡ over
      → told_known old.config new rows (if over then record c { state = record c.state { session = Ended } } else c)
      ≡ edit_as c over (telling_by old.config (Some new) (if over then None else views_in x.world.row c.state.session))
  edit_turned c true ends = over_as c
  edit_turned c false ends =
      ap (λ (views : Option Views). told_to old.config new views c)
      (viewer_stays edit (ends_live x) rows x.world.row c.state.session (neither (is_on_port e c.state.port) (ends_session e (ends_live x) c.state.session) ends).1 is)
      ∙ told_as c (views_in x.world.row c.state.session)

  told_settled : (c : KnownConnection) → place old.connections k ≡ Some c → told_known old.config new rows (settled e (ends_live x) c) ≡ known_moved x k c
  told_settled c known =
      edit_turned c (ends_by e (ends_live x) c.state) refl
      ∙ ap (λ (m : Option Configuration). edit_as c (ends_by e (ends_live x) c.state) (telling_by old.config m (views_at x c.state))) (sym made)
      ∙ sym (moves_as x k c (ap (option_map (λ (d : KnownConnection). d.state)) known))

  edit_at : (o : Option KnownConnection) → place old.connections k ≡ o
      → option_map (told_known old.config new rows) (option_map (settled e (ends_live x)) o) ≡ option_map (known_moved x k) o
  edit_at None known = refl
  edit_at (Some c) known = ap Some (told_settled c known)

pub edit_moves : (old new : TargetState) (edit : Edit) → IsNamed edit → accept old.config edit ≡ Ok new.config → new.clock ≡ old.clock
    → ShowNext new.config old.shown new.shown → new.formed ≤ old.formed + reach old.config edit → new.streams ≡ old.streams
    → (ended : List (Option KnownConnection))
    → ended ≡ map (option_map (settled (cause_edited edit) (gone_by (cause_edited edit) new.config (tables_of old)))) old.connections
    → new.connections ≡ map (option_map (told_known old.config new.config (λ (c : ℕ). place new.rows c))) ended
    → ((c : ℕ) → place new.rows c ≡ (if gone_by (cause_edited edit) new.config (tables_of old) c then None else
    option_map (row_kept (cause_edited edit) c) (place old.rows c)))
    → ((c : ℕ) → place new.controllers c ≡ (if gone_by (cause_edited edit) new.config (tables_of old) c then None else place old.controllers c))
    → ((k t : ℕ) → part_at new.transfers k t ≡ (if ends_known (cause_edited edit) (gone_by (cause_edited edit) new.config (tables_of old)) (place old.connections k) then None else part_at old.transfers k t))
    → new.disks ≡ old.disks → Transition (edited edit) old new
edit_moves old new edit named accepted clock shown formed streams ended settles tells rows controllers parts disks =
    let x = meets old (edited edit) in
    let after : config_after (edited edit) old.config ≡ new.config = rw accepted refl in
    let gone = gone_after old (edited edit) new.config after in
    let row : (c : ℕ) → place new.rows c ≡ (if ends_live x c then None else option_map (row_kept (cause_edited edit) c) (place old.rows c)) =
    (λ c. rows c ∙ ap (λ (g : ℕ → Bool). if g c then None else option_map (row_kept (cause_edited edit) c) (place old.rows c)) gone) in
    let told = told_known old.config new.config (λ (c : ℕ). place new.rows c) in
    record {
      stands = named;
      config = sym after;
      clock = clock;
      shown = shown;
      formed = formed;
      connection = λ k. ap (λ (l : List (Option KnownConnection)). place l k)
          (tells ∙ ap (map (option_map told)) settles
          ∙ ap (λ (g : ℕ → Bool). map (option_map told) (map (option_map (settled (cause_edited edit) g)) old.connections)) gone)
          ∙ place-map told (map (option_map (settled (cause_edited edit) (ends_live x))) old.connections) k
          ∙ ap (option_map told) (place-map (settled (cause_edited edit) (ends_live x)) old.connections k)
          ∙ edit_at old edit new.config (λ (n : ℕ). place new.rows n) k accepted row (place old.connections k) refl;
      part = λ k t. parts k t
          ∙ ap (λ (g : ℕ → Bool). if ends_known (cause_edited edit) g (place old.connections k) then None else part_at old.transfers k t) gone
          ∙ part_at-silent x k (place old.connections k) (part_at old.transfers k) t refl refl refl refl;
      stream = λ k. rw streams (stream_stays (place old.streams k));
      row = row;
      controller = λ c. controllers c ∙ ap (λ (g : ℕ → Bool). if g c then None else place old.controllers c) gone;
      blocks = λ d. ap (λ (l : List Stored). contents_at l d) disks;
    }

-- ---- the clock

pub tick_moves : (old new : TargetState) (now : ℕ) → new.config ≡ old.config → new.clock ≡ max old.clock now → new.shown ≡ old.shown → new.formed ≡ old.formed
    → new.streams ≡ old.streams
    → new.connections ≡ map (option_map (settled (cause.Clock (max old.clock now)) (gone_by (cause.Clock (max old.clock now)) old.config (tables_of old)))) old.connections
    → ((c : ℕ) → place new.rows c ≡ (if gone_by (cause.Clock (max old.clock now)) old.config (tables_of old) c then None else
    option_map (row_kept (cause.Clock (max old.clock now)) c) (place old.rows c)))
    → ((c : ℕ) → place new.controllers c ≡ (if gone_by (cause.Clock (max old.clock now)) old.config (tables_of old) c then None else place old.controllers c))
    → ((k t : ℕ) → part_at new.transfers k t ≡ (if ends_known (cause.Clock (max old.clock now)) (gone_by (cause.Clock (max old.clock now)) old.config (tables_of old)) (place old.connections k) then None else part_at old.transfers k t))
    → new.disks ≡ old.disks → Transition (ticked now) old new
tick_moves old new now config clock shown formed streams connections rows controllers parts disks =
    let x = meets old (ticked now) in
    record {
      stands = tt;
      config = config;
      clock = clock;
      shown = shown;
      formed = formed;
      connection = λ k. ap (λ (l : List (Option KnownConnection)). place l k) connections
          ∙ place-map (settled (cause.Clock (max old.clock now)) (ends_live x)) old.connections k ∙ silent_at x k (place old.connections k) refl refl refl;
      part = λ k t. parts k t ∙ part_at-silent x k (place old.connections k) (part_at old.transfers k) t refl refl refl refl;
      stream = λ k. rw streams (stream_stays (place old.streams k));
      row = rows;
      controller = controllers;
      blocks = λ d. ap (λ (l : List Stored). contents_at l d) disks;
    }

-- .. where the clock then shows this
pub tick_moves_to : (old new : TargetState) (now clock : ℕ) → clock ≡ max old.clock now → new.config ≡ old.config → new.clock ≡ clock → new.shown ≡ old.shown → new.formed ≡ old.formed
    → new.streams ≡ old.streams
    → new.connections ≡ map (option_map (settled (cause.Clock clock) (gone_by (cause.Clock clock) old.config (tables_of old)))) old.connections
    → ((c : ℕ) → place new.rows c ≡ (if gone_by (cause.Clock clock) old.config (tables_of old) c then None else
    option_map (row_kept (cause.Clock clock) c) (place old.rows c)))
    → ((c : ℕ) → place new.controllers c ≡ (if gone_by (cause.Clock clock) old.config (tables_of old) c then None else place old.controllers c))
    → ((k t : ℕ) → part_at new.transfers k t ≡ (if ends_known (cause.Clock clock) (gone_by (cause.Clock clock) old.config (tables_of old)) (place old.connections k) then None else part_at old.transfers k t))
    → new.disks ≡ old.disks → Transition (ticked now) old new
tick_moves_to old new now clock is config shows shown formed streams connections rows controllers parts disks =
    tick_moves old new now config (shows ∙ is) shown formed streams (rw is at connections) (λ c. rw is at (rows c)) (λ c. rw is at (controllers c))
    (λ k t. rw is at (parts k t)) disks

-- ---- an open

pub open_moves : (old new : TargetState) (port k : ℕ) → position is_none old.connections ≡ Some k → k < length old.streams
    → new.config ≡ old.config → new.shown ≡ old.shown → new.formed ≡ old.formed → new.clock ≡ old.clock
    → new.streams ≡ with_value old.streams k [] → new.connections ≡ with_value old.connections k (fresh_on port)
    → new.rows ≡ old.rows → new.controllers ≡ old.controllers → Stand new.transfers (without_queue (part_at old.transfers) k) → new.disks ≡ old.disks
    → Transition (opened port k) old new
open_moves old new port k free within config shown formed clock streams connections rows controllers parts disks =
    let empty = least_free-Some old.connections k free in
    record {
      stands = tt;
      config = config;
      clock = clock;
      shown = shown;
      formed = formed;
      connection = λ j. rw (connections, place-with_value old.connections k (fresh_on port) j empty.1) (here j (j == k));
      part = λ j t. parts.at j t ∙ part_here j t (j == k) refl;
      stream = λ j. rw (streams, place-with_value old.streams k [] j within) (stream_here j (j == k));
      row = λ c. rw rows (nothing_leaves (ends_live x c) c (place old.rows c) (none c));
      controller = λ c. rw controllers (nothing_goes (ends_live x c) (place old.controllers c) (none c));
      blocks = λ d. ap (λ (l : List Stored). contents_at l d) disks;
    }
  where
    x : Occurrence
    x = meets old (opened port k)

    none : (c : ℕ) → ends_live (meets old (opened port k)) c ≡ false
    none c = nothing_gone old.config c (place old.rows c) (place old.controllers c)

    here : (j : ℕ) (same : Bool) → (if same then Some (fresh_on port) else place old.connections j)
        ≡ (if same then Some (fresh_on port) else option_map (known_moved (meets old (opened port k)) j) (place old.connections j))
    here j true = refl
    here j false = sym (same_at (ends_live (meets old (opened port k))) none (place old.connections j))
        ∙ silent_at (meets old (opened port k)) j (place old.connections j) refl refl refl

    part_here : (j t : ℕ) (same : Bool) → (j == k) ≡ same
        → (if same then None else part_at old.transfers j t) ≡ parts_after (meets old (opened port k)) j (part_at old.transfers j) t
    part_here j t true same = rw same refl
    part_here j t false same =
        nothing_drops (ends_live (meets old (opened port k))) none (place old.connections j) (part_at old.transfers j t)
        ∙ part_at-silent (meets old (opened port k)) j (place old.connections j) (part_at old.transfers j) t refl refl same refl

    stream_here : (j : ℕ) (same : Bool) → (if same then Some [] else place old.streams j)
        ≡ (if same then Some [] else option_map (λ held. held) (place old.streams j))
    stream_here j true = refl
    stream_here j false = stream_stays (place old.streams j)

-- ---- the end of a connection

pub end_moves : (old new : TargetState) (k : ℕ) (c : KnownConnection) (e : EndCause) → place old.connections k ≡ Some c
    → e ≡ cause_lost c.state.session → new.config ≡ old.config → new.shown ≡ old.shown → new.formed ≡ old.formed → new.clock ≡ old.clock
    → new.streams ≡ without old.streams k
    → new.connections ≡ without (map (option_map (settled e (gone_by e old.config (tables_of old)))) old.connections) k
    → ((n : ℕ) → place new.rows n ≡ (if gone_by e old.config (tables_of old) n then None else option_map (row_kept e n) (place old.rows n)))
    → ((n : ℕ) → place new.controllers n ≡ (if gone_by e old.config (tables_of old) n then None else place old.controllers n))
    → (mid : List (List (Option (Part WaitingCommand))))
    → ((j t : ℕ) → part_at mid j t ≡ (if ends_known e (gone_by e old.config (tables_of old)) (place old.connections j) then None else part_at old.transfers j t))
    → Stand new.transfers (without_queue (part_at mid) k)
    → new.disks ≡ old.disks → Transition (given_up k) old new
end_moves old new k c e known is config shown formed clock streams connections rows controllers mid settles parts disks =
    let lost : cause_of x ≡ e = rw known (sym is) in
    record {
      stands = tt;
      config = config;
      clock = clock;
      shown = shown;
      formed = formed;
      connection = λ j. rw connections (
          place-without (map (option_map (settled e (gone_by e old.config (tables_of old)))) old.connections) k j
          ∙ here lost j (j == k));
      part = λ j t. parts.at j t ∙ part_here lost j t (settles j t) (j == k) refl;
      stream = λ j. rw (streams, place-without old.streams k j) (stream_here j (j == k));
      row = λ n. rw lost (rows n);
      controller = λ n. rw lost (controllers n);
      blocks = λ d. ap (λ (l : List Stored). contents_at l d) disks;
    }
  where
    x : Occurrence
    x = meets old (given_up k)

    here : cause_of (meets old (given_up k)) ≡ e → (j : ℕ) (same : Bool)
        → (if same then None else place (map (option_map (settled e (gone_by e old.config (tables_of old)))) old.connections) j)
        ≡ (if same then None else option_map (known_moved (meets old (given_up k)) j) (place old.connections j))
    here lost j true = refl
    here lost j false =
        place-map (settled e (gone_by e old.config (tables_of old))) old.connections j
        ∙ ap (λ (f : EndCause). option_map (settled f (gone_by f old.config (tables_of old))) (place old.connections j)) (sym lost)
        ∙ silent_at (meets old (given_up k)) j (place old.connections j) refl refl refl

    part_here : cause_of (meets old (given_up k)) ≡ e → (j t : ℕ)
        → part_at mid j t ≡ (if ends_known e (gone_by e old.config (tables_of old)) (place old.connections j) then None else part_at old.transfers j t)
        → (same : Bool) → (j == k) ≡ same
        → (if same then None else part_at mid j t) ≡ parts_after (meets old (given_up k)) j (part_at old.transfers j) t
    part_here lost j t settled true same = rw same refl
    part_here lost j t settled false same =
        settled
        ∙ ap (λ (f : EndCause). if ends_known f (gone_by f old.config (tables_of old)) (place old.connections j) then None else part_at old.transfers j t) (sym lost)
        ∙ part_at-silent (meets old (given_up k)) j (place old.connections j) (part_at old.transfers j) t refl refl refl same

    stream_here : (j : ℕ) (same : Bool) → (if same then None else place old.streams j)
        ≡ (if same then None else option_map (λ held. held) (place old.streams j))
    stream_here j true = refl
    stream_here j false = stream_stays (place old.streams j)

-- What a step has done to the target.
use Rattle.std.proofs.Common.{◌≡◌, ℕ, ◌<◌, Bool, true, false, ◌||◌, List, length, map, drop, ◌++◌, Option, Some, None, MatchOption, refl, sym, ap, subst, ◌∙◌}
use Rattle.std.specs.Prelude.{if◌then◌else◌, ◌==◌}
use Rattle.std.specs.Option.{option_map}
use Rattle.std.proofs.Math.Dec.{T, eqb_refl}
use Rattle.std.proofs.lemmas.Bool.{eqb-true}
use Rattle.tables.specs.NumberTable.{place, with_value}
use Rattle.tables.proofs.NumberTables.{place_within, place-map, place-with_value}
use Rattle.target_state.specs.Controllers.{gone_by}
use Rattle.target_state.proofs.Changing.{changed_alike}
use Rattle.target_state.proofs.Staying.{nothing_gone}
use Rattle.fabrics_connect.specs.declared.row.Row.{Row}
use Rattle.block_store.specs.Stored.{Stored}
use Rattle.data_transfer.specs.Part.{Part}
use Rattle.data_transfer.specs.Parts.{Stand, part_at}
use Rattle.io_queue.specs.Act.{DiskOutcome}
use Rattle.io_queue.specs.Execution.{DisksDid, contents_at, write_on, written}
use Rattle.pdu_cut.specs.declared.side.Side.TheVariants.{Target}
use Rattle.pdu_cut.specs.Front.{Front, front}
use Rattle.target_core.specs.declared.fault.Stepped.{Stepped}
use Rattle.target_core.specs.Agreement.{AgreesByStep}
use Rattle.target_core.specs.Connection.{KnownConnection, acted, ends_known, settled}
use Rattle.target_core.specs.Transition.{ActedAt, ActsAt, ActsOn, Transition, StepsBy, StepsOn, known_moved, stepped_by}
use Rattle.target_core.specs.Target.{IsTarget, TargetState, is_idle, is_incomplete, meets, world_at}
use Rattle.target_decision.specs.declared.consequence.Consequence.{Consequence}
use Rattle.target_decision.specs.declared.decision.Decision.{Decision}
use Rattle.target_decision.specs.declared.decision.Decision.TheVariants as decision
use Rattle.target_decision.specs.declared.session.Session.{Session}
use Rattle.target_decision.specs.declared.session.Session.TheVariants.{Ended}
use Rattle.target_decision.specs.Begin.{row_by, row_decided}
use Rattle.target_decision.specs.declared.transfer.WaitingCommand.{WaitingCommand}
use Rattle.target_decision.specs.Carry.{brought_by, tags_after, with_own}
use Rattle.target_decision.specs.Decision.{Brought, act_by, consumed_of, decide, is_end, operation_of, sent_by}
use Rattle.target_decision.specs.Transfer.{Tags}
use Rattle.target_decision.specs.Session.{is_ended, session_after, turned as turned_by}
use Rattle.target_decision.specs.World.{World}
use Rattle.target_history.specs.declared.end_cause.EndCause.{EndCause}
use Rattle.target_history.specs.EndCause.{cause_decided, ends_by}
use Rattle.target_history.specs.Event.{stepped}
use Rattle.target_history.specs.Occurrence.{DisksAct, act_decided, bytes_decided, consequence_decided, consequence_of, controller_changed, decided, decision_of, cause_of, ends_live, is_end_decided, operation_decided, parts_after, port_met, row_changed, row_kept, terminates}
use Rattle.target_core.proofs.Calls.{step_keeps_by}
use Rattle.target_core.proofs.Moving.{moved_is, part_at-silent, silent_at, stream_stays, tables_of, turned}
use Rattle.target_core.proofs.Places.{connection_is_target, map_is_target, stream_is_target}
use Rattle.target_core.proofs.Settling.{QuietWhere, decision_settles, tags_settle}

-- ---- what is decided

-- on the connection that a step is of, and on the others
decides_here : (old : TargetState) (k : ℕ) (found : Front) (m : DiskOutcome) (c : KnownConnection) (d : Decision) (j : ℕ) → (j == k) ≡ true
    → place old.connections j ≡ Some c → is_ended c.state.session ≡ false → d ≡ decide (world_at old) c.state (part_at old.transfers k) found
    → decided (meets old (stepped k found m)) j ≡ Some d
decides_here old k found m c d j same there lasts decides =
    let own : d ≡ decide (world_at old) c.state (part_at old.transfers j) found =
    decides ∙ ap (λ n. decide (world_at old) c.state (part_at old.transfers n) found) (sym (eqb-true j k same)) in
    rw (same, there, lasts, own) refl

decides_none : (old : TargetState) (k : ℕ) (found : Front) (m : DiskOutcome) (j : ℕ) → (j == k) ≡ false → decided (meets old (stepped k found m)) j ≡ None
decides_none old k found m j same = rw same refl

-- .. by the event
decides_so : (old : TargetState) (k : ℕ) (found : Front) (m : DiskOutcome) (c : KnownConnection) (d : Decision) → place old.connections k ≡ Some c
    → is_ended c.state.session ≡ false → d ≡ decide (world_at old) c.state (part_at old.transfers k) found
    → decision_of (meets old (stepped k found m)) ≡ Some d
decides_so old k found m c d known lasts decides = rw (known, lasts, decides) refl

-- .. and what that ends
ends_so : (old : TargetState) (k : ℕ) (found : Front) (m : DiskOutcome) (c : KnownConnection) (d : Decision) → place old.connections k ≡ Some c
    → is_ended c.state.session ≡ false → d ≡ decide (world_at old) c.state (part_at old.transfers k) found
    → cause_of (meets old (stepped k found m)) ≡ cause_decided c.state.session d
ends_so old k found m c d known lasts decides = rw (known, lasts, decides) refl

-- ---- connections

-- what a decision makes of its own connection, and what else it ends then, is what its event makes of it
turns : (w : World) (blocks : ℕ → List (List ℕ)) (m : DiskOutcome) (tags : Tags) (d : Decision) (found : Front) (gone : ℕ → Bool) (c : KnownConnection)
    → QuietWhere (cause_decided c.state.session d) gone
    → settled (cause_decided c.state.session d) gone (acted w blocks m d found (brought_by tags d found) c)
    ≡ turned w blocks m tags (Some d) found (cause_decided c.state.session d) gone c
turns w blocks m tags d found gone c quiet =
    by (ends_by (cause_decided c.state.session d) gone (turned_by c.state d))
    ∙ ap (λ (s : Session). let r : KnownConnection = record {
      state = record (turned_by c.state d) { session = s };
      output = c.output ++ sent_by w blocks m c.state d found (brought_by tags d found);
    } in r) (decision_settles d gone c.state.port c.state.session quiet)
  where
    by : (ended : Bool)
        → (if ended then record (acted w blocks m d found (brought_by tags d found) c) { state = record (turned_by c.state d) { session = Ended } }
        else acted w blocks m d found (brought_by tags d found) c)
        ≡ (let r : KnownConnection = record {
          state = record (turned_by c.state d) { session = if ended then Ended else session_after c.state.session d };
          output = c.output ++ sent_by w blocks m c.state d found (brought_by tags d found);
        } in r)
    by true = refl
    by false = refl

quiet_here : (old : TargetState) (e : EndCause) → QuietWhere e (gone_by e old.config (tables_of old))
quiet_here old e is c =
    ap (λ (f : EndCause). gone_by f old.config (tables_of old) c) is ∙ nothing_gone old.config c (place old.rows c) (place old.controllers c)

step_at : (old : TargetState) (k : ℕ) (found : Front) (m : DiskOutcome) (c : KnownConnection) (d : Decision) (e : EndCause) (j : ℕ)
    → place old.connections k ≡ Some c → is_ended c.state.session ≡ false → d ≡ decide (world_at old) c.state (part_at old.transfers k) found
    → e ≡ cause_decided c.state.session d → cause_of (meets old (stepped k found m)) ≡ e
    → (same : Bool) → (j == k) ≡ same
    → option_map (settled e (gone_by e old.config (tables_of old))) (if same then Some (acted (world_at old) (contents_at old.disks) m d found (brought_by (part_at old.transfers k) d found) c) else place old.connections j)
    ≡ option_map (known_moved (meets old (stepped k found m)) j) (place old.connections j)
step_at old k found m c d e j known lasts decides ends met true same =
    let x = meets old (stepped k found m) in
    let there : place old.connections j ≡ Some c = ap (place old.connections) (eqb-true j k same) ∙ known in
    let seen : x.connection j ≡ Some c.state = ap (option_map (λ (a : KnownConnection). a.state)) there in
    let transition : known_moved x j c ≡ turned (world_at old) (contents_at old.disks) m (part_at old.transfers k) (Some d) found e (gone_by e old.config (tables_of old)) c =
    moved_is x j c seen refl
    ∙ ap (λ n. turned x.world x.blocks m (part_at old.transfers n) (decided x j) found (cause_of x) (ends_live x) c) (eqb-true j k same)
    ∙ ap (λ (b : Option Decision). turned x.world x.blocks m (part_at old.transfers k) b found (cause_of x) (ends_live x) c) (decides_here old k found m c d j same there lasts decides)
    ∙ ap (λ (f : EndCause). turned x.world x.blocks m (part_at old.transfers k) (Some d) found f (gone_by f old.config (tables_of old)) c) met in
    ap (λ (f : EndCause). Some (settled f (gone_by f old.config (tables_of old)) (acted (world_at old) (contents_at old.disks) m d found (brought_by (part_at old.transfers k) d found) c))) ends
    ∙ ap Some (turns (world_at old) (contents_at old.disks) m (part_at old.transfers k) d found (gone_by (cause_decided c.state.session d) old.config (tables_of old)) c
    (quiet_here old (cause_decided c.state.session d)))
    ∙ ap (λ (f : EndCause). Some (turned (world_at old) (contents_at old.disks) m (part_at old.transfers k) (Some d) found f (gone_by f old.config (tables_of old)) c)) (sym ends)
    ∙ ap Some (sym transition) ∙ ap (option_map (known_moved x j)) (sym there)
step_at old k found m c d e j known lasts decides ends met false same =
    let x = meets old (stepped k found m) in
    ap (λ (f : EndCause). option_map (settled f (gone_by f old.config (tables_of old))) (place old.connections j)) (sym met)
    ∙ silent_at x j (place old.connections j) refl (decides_none old k found m j same) refl

stream_at : (found : Front) (held : List ℕ) (o : Option (List ℕ)) (same : Bool) → (same ≡ true → o ≡ Some held)
    → (if same then Some (drop (consumed_of found) held) else o) ≡ option_map (λ held. if same then drop (consumed_of found) held else held) o
stream_at found held o true here = rw (here refl) refl
stream_at found held o false here = stream_stays o

-- ---- transfers

part_here : (old : TargetState) (k : ℕ) (found : Front) (m : DiskOutcome) (c : KnownConnection) (d : Decision) (e : EndCause) (j t : ℕ)
    → place old.connections k ≡ Some c → is_ended c.state.session ≡ false → d ≡ decide (world_at old) c.state (part_at old.transfers k) found
    → e ≡ cause_decided c.state.session d → cause_of (meets old (stepped k found m)) ≡ e
    → (same : Bool) → (j == k) ≡ same
    → (if ends_known e (gone_by e old.config (tables_of old))
    (if same then Some (acted (world_at old) (contents_at old.disks) m d found (brought_by (part_at old.transfers k) d found) c) else place old.connections j)
    then None else (if same then tags_after d found (part_at old.transfers k) t else part_at old.transfers j t))
    ≡ parts_after (meets old (stepped k found m)) j (part_at old.transfers j) t
part_here old k found m c d e j t known lasts decides ends met true same =
    let x = meets old (stepped k found m) in
    let one : j ≡ k = eqb-true j k same in
    let seen : x.connection j ≡ Some c.state = ap (option_map (λ (a : KnownConnection). a.state)) (ap (place old.connections) one ∙ known) in
    let decided_so = decides_here old k found m c d j same (ap (place old.connections) one ∙ known) lasts decides in
    ap (λ (f : EndCause). if ends_known f (gone_by f old.config (tables_of old)) (Some (acted (world_at old) (contents_at old.disks) m d found (brought_by (part_at old.transfers k) d found) c)) then None else tags_after d found (part_at old.transfers k) t) ends
    ∙ tags_settle d found (part_at old.transfers k) t (gone_by (cause_decided c.state.session d) old.config (tables_of old)) c.state.port c.state.session
    (quiet_here old (cause_decided c.state.session d))
    ∙ ap (λ (f : EndCause). if is_end d || ends_by f (gone_by f old.config (tables_of old)) c.state then None else tags_after d found (part_at old.transfers k) t) (sym ends ∙ sym met)
    ∙ ap (λ n. if is_end d || ends_by (cause_of x) (ends_live x) c.state then None else tags_after d found (part_at old.transfers n) t) (sym one)
    ∙ sym (rw (decided_so, seen) refl)
part_here old k found m c d e j t known lasts decides ends met false same =
    let x = meets old (stepped k found m) in
    ap (λ (f : EndCause). if ends_known f (gone_by f old.config (tables_of old)) (place old.connections j) then None else part_at old.transfers j t) (sym met)
    ∙ part_at-silent x j (place old.connections j) (part_at old.transfers j) t refl (decides_none old k found m j same) refl refl

-- ---- the target

-- the row that a decision makes is the one that its event makes
row_so : (d : Decision) (port : ℕ) (found : Front) → row_decided d port found ≡ row_by (consequence_decided (Some d)) port found
row_so (decision.Reply r) port found = refl
row_so (decision.Initialize alignment) port found = refl
row_so (decision.Request q) port found = refl
row_so (decision.Receive ttag) port found = refl
row_so (decision.Wait cid) port found = refl
row_so (decision.Terminate t) port found = refl
row_so decision.Close port found = refl

pub step_moves : (old new : TargetState) (k : ℕ) (held : List ℕ) (c : KnownConnection) (d : Decision) (e : EndCause) (ch : Consequence) (begun : Option Row) (m : DiskOutcome)
    → place old.streams k ≡ Some held → place old.connections k ≡ Some c
    → is_ended c.state.session ≡ false → is_incomplete (front Target held) ≡ false
    → d ≡ decide (world_at old) c.state (part_at old.transfers k) (front Target held)
    → e ≡ cause_decided c.state.session d → ch ≡ consequence_decided (Some d)
    → begun ≡ row_decided d c.state.port (front Target held)
    → new.config ≡ old.config → new.shown ≡ old.shown → new.formed ≡ old.formed → new.clock ≡ old.clock
    → new.connections ≡ map (option_map (settled e (gone_by e old.config (tables_of old)))) (with_value old.connections k (acted (world_at old) (contents_at old.disks) m d (front Target held) (brought_by (part_at old.transfers k) d (front Target held)) c))
    → new.streams ≡ with_value old.streams k (drop (consumed_of (front Target held)) held)
    → ((n : ℕ) → place new.rows n ≡ row_changed ch begun (if gone_by e old.config (tables_of old) n then None else place old.controllers n) n
    (if gone_by e old.config (tables_of old) n then None else option_map (row_kept e n) (place old.rows n)))
    → ((n : ℕ) → place new.controllers n ≡ controller_changed ch old.clock n (if gone_by e old.config (tables_of old) n then None else place old.controllers n))
    → ((disk : ℕ) → contents_at new.disks disk ≡ written (write_on disk (act_by d (brought_by (part_at old.transfers k) d (front Target held)) m)) (contents_at old.disks disk))
    → (mid : List (List (Option (Part WaitingCommand))))
    → Stand mid (with_own (part_at old.transfers) k (tags_after d (front Target held) (part_at old.transfers k)))
    → ((j t : ℕ) → part_at new.transfers j t ≡ (if ends_known e (gone_by e old.config (tables_of old))
    (place (with_value old.connections k (acted (world_at old) (contents_at old.disks) m d (front Target held) (brought_by (part_at old.transfers k) d (front Target held)) c)) j)
    then None else part_at mid j t))
    → Transition (stepped k (front Target held) m) old new
step_moves old new k held c d e ch begun m stream known lasts complete decides ends changes begins config shown formed clock connections streams rows controllers blocks mid carries parts =
    let found = front Target held in
    let x = meets old (stepped k found m) in
    let within : k < length old.connections = place_within old.connections k c known in
    let stream_within : k < length old.streams = place_within old.streams k held stream in
    let met : cause_of x ≡ e = ends_so old k found m c d known lasts decides ∙ sym ends in
    let so : consequence_of x ≡ ch = ap consequence_decided (decides_so old k found m c d known lasts decides) ∙ sym changes in
    let port : port_met x ≡ c.state.port = rw known refl in
    let row : row_by (consequence_of x) (port_met x) found ≡ begun =
    ap (λ (b : Consequence). row_by b (port_met x) found) (so ∙ changes)
    ∙ ap (λ (p : ℕ). row_by (consequence_decided (Some d)) p found) port ∙ sym (row_so d c.state.port found) ∙ sym begins in
    record {
      stands = rw stream (refl, complete);
      config = config;
      clock = clock;
      shown = shown;
      formed = formed;
      connection = λ j. ap (λ (l : List (Option KnownConnection)). place l j) connections
          ∙ place-map (settled e (gone_by e old.config (tables_of old))) (with_value old.connections k (acted (world_at old) (contents_at old.disks) m d found (brought_by (part_at old.transfers k) d found) c)) j
          ∙ ap (option_map (settled e (gone_by e old.config (tables_of old)))) (place-with_value old.connections k (acted (world_at old) (contents_at old.disks) m d found (brought_by (part_at old.transfers k) d found) c) j within)
          ∙ step_at old k found m c d e j known lasts decides ends met (j == k) refl;
      part = λ j t. parts j t
          ∙ ap (λ (o : Option KnownConnection). if ends_known e (gone_by e old.config (tables_of old)) o then None else part_at mid j t)
          (place-with_value old.connections k (acted (world_at old) (contents_at old.disks) m d found (brought_by (part_at old.transfers k) d found) c) j within)
          ∙ ap (λ (o : Option (Part WaitingCommand)). if ends_known e (gone_by e old.config (tables_of old))
          (if j == k then Some (acted (world_at old) (contents_at old.disks) m d found (brought_by (part_at old.transfers k) d found) c) else place old.connections j)
          then None else o) (carries.at j t)
          ∙ part_here old k found m c d e j t known lasts decides ends met (j == k) refl;
      stream = λ j. rw (streams, place-with_value old.streams k (drop (consumed_of found) held) j stream_within)
          (stream_at found held (place old.streams j) (j == k) (λ is. ap (place old.streams) (eqb-true j k is) ∙ stream));
      row = λ n. rows n ∙ changed_alike ch begun (gone_by e old.config (tables_of old) n) n (place old.controllers n) (option_map (row_kept e n) (place old.rows n))
          ∙ ap (λ (f : EndCause). row_changed ch begun (place old.controllers n) n
          (if gone_by f old.config (tables_of old) n then None else option_map (row_kept f n) (place old.rows n))) (sym met)
          ∙ ap (λ (b : Consequence). row_changed b begun (place old.controllers n) n
          (if ends_live x n then None else option_map (row_kept (cause_of x) n) (place old.rows n))) (sym so)
          ∙ ap (λ (r : Option Row). row_changed (consequence_of x) r (place old.controllers n) n
          (if ends_live x n then None else option_map (row_kept (cause_of x) n) (place old.rows n))) (sym row);
      controller = λ n. controllers n
          ∙ ap (λ (f : EndCause). controller_changed ch old.clock n (if gone_by f old.config (tables_of old) n then None else place old.controllers n)) (sym met)
          ∙ ap (λ (b : Consequence). controller_changed b old.clock n (if ends_live x n then None else place old.controllers n)) (sym so);
      blocks = λ disk. blocks disk
          ∙ ap (λ (o : Option Decision). written (write_on disk (act_decided o (part_at old.transfers k) found m)) (contents_at old.disks disk))
          (sym (decides_so old k found m c d known lasts decides));
    }

same_here : (k : ℕ) → (k == k) ≡ true
same_here k = T_true (k == k) (eqb_refl k) where
  T_true : (b : Bool) → T b → b ≡ true
  T_true true h = refl
  T_true false h = absurd h

-- .. and whether it ends the connection
step_ends : (old : TargetState) (k : ℕ) (found : Front) (m : DiskOutcome) (c : KnownConnection) (d : Decision)
    → place old.connections k ≡ Some c → is_ended c.state.session ≡ false → d ≡ decide (world_at old) c.state (part_at old.transfers k) found
    → terminates (meets old (stepped k found m)) k ≡ is_end d
step_ends old k found m c d known lasts decides =
    ap is_end_decided (decides_here old k found m c d k (same_here k) known lasts decides)

-- the connections and streams after a step of one that is known
pub acted_known : {T : Type 0} (k : ℕ) (f : T → T) (o : Option T) (c : T) (old new : List (Option T)) → o ≡ Some c → ActedAt k f o old new
    → new ≡ with_value old k (f c)
acted_known k f None c old new known acts = cc
acted_known k f (Some d) c old new known acts =
    let same : d ≡ c = cc in
    acts ∙ ap (λ x. with_value old k (f x)) same

pub step_is_target : (streams : List (Option (List ℕ))) (connections : List (Option KnownConnection)) (k : ℕ) (held after : List ℕ) (c turned : KnownConnection)
    (f : KnownConnection → KnownConnection) → IsTarget streams connections → place streams k ≡ Some held → place connections k ≡ Some c
    → IsTarget (with_value streams k after) (map (option_map f) (with_value connections k turned))
step_is_target streams connections k held after c turned f is stream known =
    map_is_target (with_value streams k after) (with_value connections k turned) f
    (stream_is_target streams (with_value connections k turned) k held after (connection_is_target streams connections k c turned is known) stream)

steps_by : (old new : TargetState) (k : ℕ) (held : List ℕ) (c : KnownConnection) (d : Decision) (s : Stepped) (m : DiskOutcome)
    → place old.connections k ≡ Some c → is_ended c.state.session ≡ false → is_incomplete (front Target held) ≡ false
    → d ≡ decide (world_at old) c.state (part_at old.transfers k) (front Target held)
    → DisksDid (operation_of d) (brought_by (part_at old.transfers k) d (front Target held)).bytes m old.disks new.disks
    → Transition (stepped k (front Target held) m) old new → s ≡ stepped_by (is_end d) → StepsBy k held c s old new
steps_by old new k held c d s m known lasts complete decides did transition is =
    rw is (by (is_end d) (step_ends old k (front Target held) m c d known lasts decides))
  where
    idle : is_idle held c ≡ false
    idle = rw (lasts, complete) refl

    acts : DisksAct (meets old (stepped k (front Target held) m)) old.disks new.disks
    acts = subst (λ (o : Option Decision). DisksDid (operation_decided o) (bytes_decided o (part_at old.transfers k) (front Target held)) m old.disks new.disks)
        (sym (decides_so old k (front Target held) m c d known lasts decides)) did

    steps : (ended : Bool) → terminates (meets old (stepped k (front Target held) m)) k ≡ ended → StepsOn k held ended old new
    steps ended ends = record { disk_outcome = m; did = acts; transition = transition; ends = ends }

    by : (ended : Bool) → terminates (meets old (stepped k (front Target held) m)) k ≡ ended → StepsBy k held c (stepped_by ended) old new
    by true ends = (idle, steps true ends)
    by false ends = (idle, steps false ends)

-- what acts on the connection at k, where that is known
pub acts_known : (k : ℕ) (w : World) (d : Decision) (found : Front) (b : Brought) (o : Option KnownConnection) (c : KnownConnection)
    (old new : List (Option KnownConnection)) (disks after : List Stored) → o ≡ Some c → ActsAt k w d found b o old new disks after
    → ActsOn k w d found b c old new disks after
acts_known k w d found b None c old new disks after known acts = cc
acts_known k w d found b (Some e) c old new disks after known acts =
    let same : e ≡ c = cc in
    rw same at acts

-- the transfers of a connection that is known
pub carried_known : (o : Option KnownConnection) (c : KnownConnection) (P Q : Type 0) → o ≡ Some c → MatchOption o P (λ b. Q) → Q
carried_known None c P Q known h = cc
carried_known (Some b) c P Q known h = h

pub step_done : (old new : TargetState) (k : ℕ) (held : List ℕ) (c : KnownConnection) (found : Front) (d : Decision) (e : EndCause) (ch : Consequence) (begun : Option Row) (s : Stepped)
    (turned : List (Option KnownConnection)) → place old.streams k ≡ Some held → place old.connections k ≡ Some c
    → is_ended c.state.session ≡ false → found ≡ front Target held → is_incomplete found ≡ false
    → d ≡ decide (world_at old) c.state (part_at old.transfers k) found
    → e ≡ cause_decided c.state.session d → ch ≡ consequence_decided (Some d) → begun ≡ row_decided d c.state.port found
    → new.config ≡ old.config → new.shown ≡ old.shown → new.formed ≡ old.formed → new.clock ≡ old.clock
    → ActsOn k (world_at old) d found (brought_by (part_at old.transfers k) d found) c old.connections turned old.disks new.disks
    → new.connections ≡ map (option_map (settled e (gone_by e old.config (tables_of old)))) turned
    → new.streams ≡ with_value old.streams k (drop (consumed_of found) held)
    → ((n : ℕ) → place new.rows n ≡ row_changed ch begun (if gone_by e old.config (tables_of old) n then None else place old.controllers n) n
    (if gone_by e old.config (tables_of old) n then None else option_map (row_kept e n) (place old.rows n)))
    → ((n : ℕ) → place new.controllers n ≡ controller_changed ch old.clock n (if gone_by e old.config (tables_of old) n then None else place old.controllers n))
    → (mid : List (List (Option (Part WaitingCommand)))) → Stand mid (with_own (part_at old.transfers) k (tags_after d found (part_at old.transfers k)))
    → ((j t : ℕ) → part_at new.transfers j t ≡ (if ends_known e (gone_by e old.config (tables_of old)) (place turned j) then None else part_at mid j t))
    → s ≡ stepped_by (is_end d) → StepsBy k held c s old new
step_done old new k held c found d e ch begun s turned stream known lasts stands complete decides ends changes begins config shown formed clock acts connections streams rows controllers mid carries parts steps =
    let here : is_incomplete (front Target held) ≡ false = rw stands at complete in
    let decided : d ≡ decide (world_at old) c.state (part_at old.transfers k) (front Target held) = rw stands at decides in
    let m : DiskOutcome = acts.acts.disk_outcome in
    let made : turned ≡ with_value old.connections k (acted (world_at old) (contents_at old.disks) m d found (brought_by (part_at old.transfers k) d found) c) =
    acts.placed ∙ ap (with_value old.connections k) acts.acts.connection in
    steps_by old new k held c d s m known lasts here decided (rw stands at acts.acts.did)
    (step_moves old new k held c d e ch begun m stream known lasts here decided ends changes (rw stands at begins) config shown formed clock
    (rw stands at (connections ∙ ap (map (option_map (settled e (gone_by e old.config (tables_of old))))) made)) (rw stands at streams) rows controllers
    (rw stands at acts.acts.contents) mid (rw stands at carries)
    (λ j t. rw stands at (parts j t ∙ ap (λ (l : List (Option KnownConnection)). if ends_known e (gone_by e old.config (tables_of old)) (place l j) then None else part_at mid j t) made))) steps

-- .. and so it agrees with the history that is longer by it
pub step_agrees : (old new : TargetState) (k : ℕ) (held : List ℕ) (c : KnownConnection) (found : Front) (d : Decision) (e : EndCause) (ch : Consequence) (begun : Option Row) (s : Stepped)
    (turned : List (Option KnownConnection)) → place old.streams k ≡ Some held → place old.connections k ≡ Some c
    → is_ended c.state.session ≡ false → found ≡ front Target held → is_incomplete found ≡ false
    → d ≡ decide (world_at old) c.state (part_at old.transfers k) found
    → e ≡ cause_decided c.state.session d → ch ≡ consequence_decided (Some d) → begun ≡ row_decided d c.state.port found
    → new.config ≡ old.config → new.shown ≡ old.shown → new.formed ≡ old.formed → new.clock ≡ old.clock
    → ActsOn k (world_at old) d found (brought_by (part_at old.transfers k) d found) c old.connections turned old.disks new.disks
    → new.connections ≡ map (option_map (settled e (gone_by e old.config (tables_of old)))) turned
    → new.streams ≡ with_value old.streams k (drop (consumed_of found) held)
    → ((n : ℕ) → place new.rows n ≡ row_changed ch begun (if gone_by e old.config (tables_of old) n then None else place old.controllers n) n
    (if gone_by e old.config (tables_of old) n then None else option_map (row_kept e n) (place old.rows n)))
    → ((n : ℕ) → place new.controllers n ≡ controller_changed ch old.clock n (if gone_by e old.config (tables_of old) n then None else place old.controllers n))
    → (mid : List (List (Option (Part WaitingCommand)))) → Stand mid (with_own (part_at old.transfers) k (tags_after d found (part_at old.transfers k)))
    → ((j t : ℕ) → part_at new.transfers j t ≡ (if ends_known e (gone_by e old.config (tables_of old)) (place turned j) then None else part_at mid j t))
    → s ≡ stepped_by (is_end d) → AgreesByStep k s old new
step_agrees old new k held c found d e ch begun s turned stream known lasts stands complete decides ends changes begins config shown formed clock acts connections streams rows controllers mid carries parts steps =
    step_keeps_by old new k held c s stream (step_done old new k held c found d e ch begun s turned stream known lasts stands complete decides ends changes begins config shown formed clock acts connections streams rows controllers mid carries parts steps)

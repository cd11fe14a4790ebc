-- Over all that happened a controller, and each of its I/O queues, is there exactly as long as a connection is its
-- queue.
use Rattle.std.proofs.Common.{◌≡◌, ◌≤◌, ℕ, Bool, true, false, not, ◌||◌, ◌&&◌, List, [], ◌∷◌, length, map, Option, Some, None, refl, sym, ap, subst, ◌∙◌, inl, inr, arith}
use Rattle.std.specs.Prelude.{if◌then◌else◌, ◌==◌, is_some, IsSomeAnd}
use Rattle.std.specs.List.{range_with_len}
use Rattle.std.specs.Option.{option_map}
use Rattle.std.proofs.lemmas.Bool.Decides.{leb_tells}
use Rattle.std.proofs.lemmas.List.{get_or_past}
use Rattle.std.proofs.lemmas.List.FromFn.{get_or-map-range_with_len, length-map-range_with_len}
use Rattle.nvt_config.specs.Configuration.{Configuration}
use Rattle.fabrics_connect.specs.Row.{has_queue as has_qid}
use Rattle.property_regs.specs.declared.regs.Regs.{Regs}
use Rattle.target_decision.specs.declared.consequence.Consequence.{Consequence}
use Rattle.target_decision.specs.declared.consequence.Consequence.TheVariants as consequence
use Rattle.target_decision.specs.declared.session.ConnectionState.{ConnectionState}
use Rattle.target_decision.specs.declared.session.Role.{Role}
use Rattle.target_decision.specs.declared.session.Role.TheVariants.{Admin, Io}
use Rattle.target_decision.specs.declared.session.Session.{Session}
use Rattle.target_decision.specs.declared.session.Session.TheVariants.{Opened, Initialized, Connected, Ended}
use Rattle.target_decision.specs.Consequence.{role_by}
use Rattle.target_decision.specs.Session.{role_in}
use Rattle.target_decision.specs.Transfer.{Tags}
use Rattle.target_decision.specs.World.{World}
use Rattle.target_history.specs.declared.end_cause.EndCause.{EndCause}
use Rattle.target_history.specs.declared.end_cause.EndCause.TheVariants as cause
use Rattle.target_history.specs.EndCause.{ends_role, ends_row_at, ends_timer, is_barred, is_on_port, resets}
use Rattle.target_history.specs.Event.{Event, opens, stepped}
use Rattle.target_history.specs.Occurrence.{Occurrence, Start, begins, begins_by, consequence_of, config_after, connection_after, cause_of, ends_live, port_at, started}
use Rattle.target_history.specs.History.{Opening, config_of, controller_of, connection_of, drops_by, happened, has_queue, is_known, joins_by, meets_after, registers_of, row_of, row_with, start_of, start_or}
use Rattle.target_history.specs.Laws.{ControllersLiveByTheirAdmins, OpenVacant, QueueIdsAreOfConnections, QueuesAreOnTheirPort, is_queue_of, is_role_of, role_at, role_of}
use Rattle.target_history.proofs.Holding.{AllHold, Holds, LivesOn, all_hold}
use Rattle.target_history.proofs.Roles.{leaves, leaving_loses, lost_of, made_is, remains_is}
use Rattle.target_history.proofs.Steps.{role_step}
use Rattle.target_history.proofs.Tests.{bool_is, both_same, both_true, either_false, flipped, neither, same_here, same_number}

-- a connection is this queue
abbrev Served : List Occurrence → Role → Type 0
Served h role = (k : ℕ) × (role_of h k ≡ Some role)

pub record AllServed (h : List Occurrence) : Type 0 where
  pub admin : (c : ℕ) → is_some (start_of h c) ≡ true → Served h (Admin c)
  pub io : (c q : ℕ) → is_some (start_of h c) ≡ true → has_queue h c q ≡ true → Served h (Io c q)

-- ---- options and tests

starts_live : (o : Option Start) (P : Start → Type 0) → IsSomeAnd o P → is_some o ≡ true
starts_live None P h = absurd h
starts_live (Some s) P h = refl

-- what lives after an event is begun by it, or lived before
lived : (b o : Option Start) (gone : Bool) → b ≡ None → is_some (start_or b (if gone then None else o)) ≡ true
    → (gone ≡ false) × (is_some o ≡ true)
lived None o true begun h = cc
lived None o false begun h = (refl, h)
lived (Some s) o gone begun h = cc

-- .. and a queue is joined, or was there
had : (joins drops has : Bool) (b : Option Start) → joins ≡ false → (joins || (not (is_some b || drops) && has)) ≡ true
    → (b ≡ None) × (drops ≡ false) × (has ≡ true)
had true drops has b joined h = cc
had false true has None joined h = cc
had false false has None joined h = (refl, refl, h)
had false drops has (Some s) joined h = cc

-- ---- what an event begins

begun_by : (x : Occurrence) (ch : Consequence) (c : ℕ) (s : Start) → begins_by x ch c ≡ Some s → role_by ch ≡ Some (Admin c)
begun_by x (consequence.Begin b) c s h = by (c == b.controller.cntlid) refl h where
  by : (same : Bool) → (c == b.controller.cntlid) ≡ same → (if same then Some (started x b) else None) ≡ Some s
      → role_by (consequence.Begin b) ≡ Some (Admin c)
  by true is h = ap (λ (d : ℕ). Some (Admin d)) (sym (same_number c b.controller.cntlid is))
  by false is h = cc
begun_by x _ c s h = cc

joined_by : (ch : Consequence) (c q : ℕ) → joins_by ch c q ≡ true → role_by ch ≡ Some (Io c q)
joined_by (consequence.Join j) c q h =
    let parts = both_true (c == j.cntlid) (q == j.qid) h in
    let same : Io j.cntlid j.qid ≡ Io c q = rw (same_number c j.cntlid parts.0, same_number q j.qid parts.1) refl in
    ap Some same
joined_by _ c q h = cc

-- what becomes a queue is the connection of the step
event_makes : (event : Event) (w : World) (connection : ℕ → Option ConnectionState) (parts : ℕ → Tags) (clock : ℕ) (blocks : ℕ → List (List ℕ)) (role : Role)
    → let x : Occurrence = record { event = event; world = w; connection = connection; parts = parts; clock = clock; blocks = blocks } in
    role_by (consequence_of x) ≡ Some role → (k : ℕ) × (role_at (connection_after x k (connection k)) ≡ Some role)
event_makes (stepped n front m) w connection parts clock blocks role made =
    let x : Occurrence = record { event = stepped n front m; world = w; connection = connection; parts = parts; clock = clock; blocks = blocks } in
    (n, made_is x n role (same_here n) refl refl made)
event_makes _ w connection parts clock blocks role made = cc

-- ---- what ends a queue

-- the port of a controller that lives on is not deleted
port_stays : (e : EndCause) (config : Configuration) (registers : Regs) (queue : ℕ → Bool) (c port : ℕ) (o : Option Start)
    → IsSomeAnd o (λ s. s.row.port ≡ port) → ends_row_at e config c (option_map (row_with registers queue) o) ≡ false → is_on_port e port ≡ false
port_stays e config registers queue c port None there h = absurd there
port_stays (cause.Port id) config registers queue c port (Some s) there h =
    ap (λ (p : ℕ). id == p) (sym there) ∙ (neither (id == s.row.port) (is_barred config s.row.host s.row.subsystem s.row.port) h).0
port_stays _ config registers queue c port (Some s) there h = refl

-- .. and its admin queue is not lost
admin_stays : (e : EndCause) (config : Configuration) (registers : Regs) (queue : ℕ → Bool) (c : ℕ) (o : Option Start)
    → is_some o ≡ true → ends_row_at e config c (option_map (row_with registers queue) o) ≡ false → e ≡ cause.Controller c → ⊥
admin_stays e config registers queue c None there h is = cc
admin_stays e config registers queue c (Some s) there h is =
    let same : (c == c) ≡ false = ap (λ (e : EndCause). ends_row_at e config c (Some (row_with registers queue s))) (sym is) ∙ h in
    let clash : true ≡ false = sym (same_here c) ∙ same in
    cc

not_reset : (e : EndCause) (c q : ℕ) → drops_by e c q ≡ false → resets e c ≡ false
not_reset (cause.Reset d) c q h = flipped d c h
not_reset _ c q h = refl

not_lost : (e : EndCause) (c q : ℕ) → drops_by e c q ≡ false → e ≡ cause.Queue c q → ⊥
not_lost e c q h is =
    let same : ((c == c) && (q == q)) ≡ false = ap (λ (e : EndCause). drops_by e c q) (sym is) ∙ h in
    let clash : true ≡ false = sym (both_same c q) ∙ same in
    cc

role_port : (h : List Occurrence) (port : ℕ) (role : Role) → Holds h port role → (c : ℕ) → is_role_of c role ≡ true → LivesOn h c port
role_port h port (Admin d) held c is = subst (λ (e : ℕ). LivesOn h e port) (sym (same_number c d is)) held
role_port h port (Io d q) held c is = subst (λ (e : ℕ). LivesOn h e port) (sym (same_number c d is)) held.0

-- ---- one more event

module _ (disks : Opening) (before : List Occurrence) (event : Event) (held : AllHold before) (earlier : AllServed before)
    (vacant : (k : ℕ) → opens event k ≡ true → is_known before k ≡ false) where
  abbrev x : Occurrence
  x = meets_after disks before event

  abbrev became : Configuration
  became = config_after event (config_of disks before)

  -- a connection that is a queue is not opened
  not_opened : (k : ℕ) (role : Role) → role_of before k ≡ Some role → opens event k ≡ false
  not_opened k role is =
      elim (bool_is (opens event k)) [
        | inr closed ↦ closed
        | inl opening ↦
            let unknown : is_known before k ≡ false = vacant k opening in
            let clash : None ≡ Some role = sym (rw unknown refl) ∙ is in
            cc
      ]

  row_stays : (c : ℕ) → ends_live x c ≡ false → ends_row_at (cause_of x) became c (row_of before c) ≡ false
  row_stays c goes =
      (neither (ends_row_at (cause_of x) became c (row_of before c)) (ends_timer (cause_of x) (controller_of before c)) goes).0

  serves_on : (k : ℕ) (role : Role) (c : ℕ) → role_of before k ≡ Some role → is_role_of c role ≡ true → ends_live x c ≡ false
      → ends_role (cause_of x) (ends_live x) role ≡ false → (cause_of x ≡ lost_of role → ⊥) → Served (x ∷ before) role
  serves_on k role c is own goes kept stays =
      let lives : LivesOn before c (port_at (connection_of before k)) = role_port before (port_at (connection_of before k)) role (held.there k role is) c own in
      let leaving : leaves x k ≡ false =
      elim (bool_is (leaves x k)) [
        | inr remains ↦ remains
        | inl leaving ↦ absurd (stays (leaving_loses x k role is leaving))
      ] in
      let port : is_on_port (cause_of x) (port_at (connection_of before k)) ≡ false =
      port_stays (cause_of x) became (registers_of before c) (has_queue before c) c (port_at (connection_of before k)) (start_of before c) lives (row_stays c goes) in
      (k, role_step x before k refl ∙ remains_is x k role is (not_opened k role is) leaving port kept)

  makes : (role : Role) → role_by (consequence_of x) ≡ Some role → Served (x ∷ before) role
  makes role made =
      let found = event_makes event x.world x.connection x.parts x.clock x.blocks role made in
      (found.0, role_step x before found.0 refl ∙ found.1)

  admin_after : (c : ℕ) → is_some (start_of (x ∷ before) c) ≡ true → Served (x ∷ before) (Admin c)
  admin_after c lives = by (begins x c) refl where
    by : (b : Option Start) → begins x c ≡ b → Served (x ∷ before) (Admin c)
    by (Some s) begun = makes (Admin c) (begun_by x (consequence_of x) c s begun)
    by None begun =
        let on = lived (begins x c) (start_of before c) (ends_live x c) begun lives in
        let found = earlier.admin c on.1 in
        serves_on found.0 (Admin c) c found.1 (same_here c) on.0 on.0
        (admin_stays (cause_of x) became (registers_of before c) (has_queue before c) c (start_of before c) on.1 (row_stays c on.0))

  io_after : (c q : ℕ) → is_some (start_of (x ∷ before) c) ≡ true → has_queue (x ∷ before) c q ≡ true → Served (x ∷ before) (Io c q)
  io_after c q lives has =
      elim (bool_is (joins_by (consequence_of x) c q)) [
        | inl joins ↦ makes (Io c q) (joined_by (consequence_of x) c q joins)
        | inr other ↦
            let was = had (joins_by (consequence_of x) c q) (drops_by (cause_of x) c q) (has_queue before c q) (begins x c) other has in
            let on = lived (begins x c) (start_of before c) (ends_live x c) was.0 lives in
            let found = earlier.io c q on.1 was.2 in
            serves_on found.0 (Io c q) c found.1 (same_here c) on.0
            (either_false (ends_live x c) (resets (cause_of x) c) on.0 (not_reset (cause_of x) c q was.1))
            (not_lost (cause_of x) c q was.1)
      ]

  served_after : AllServed (x ∷ before)
  served_after = record { admin = admin_after; io = io_after }

pub all_served : (disks : Opening) (events : List Event) → OpenVacant disks events → AllServed (happened disks events)
all_served disks [] vacant = record { admin = λ c h. cc; io = λ c q h i. cc }
all_served disks (event ∷ events) vacant =
    served_after disks (happened disks events) event (all_hold disks events) (all_served disks events vacant.1) vacant.0

-- ---- the laws

some_mapped : (registers : Regs) (queue : ℕ → Bool) (o : Option Start) (q : ℕ) → q ≤ 8 → is_some o ≡ true → queue q ≡ true
    → IsSomeAnd (option_map (row_with registers queue) o) (λ row. has_qid q row ≡ true)
some_mapped registers queue None q small lives has = cc
some_mapped registers queue (Some s) q small lives has =
    get_or-map-range_with_len queue 0 9 q q false (omega arith) (omega arith) ∙ has

mapped_has : (queue : ℕ → Bool) (registers : Regs) (s : Start) (q : ℕ) → has_qid q (row_with registers queue s) ≡ true → queue q ≡ true
mapped_has queue registers s q h =
    elim (leb_tells 9 q) [
      | inl (test, past) ↦
          let long : length (map queue (range_with_len 0 9)) ≡ 9 = length-map-range_with_len queue 0 9 in
          let none : has_qid q (row_with registers queue s) ≡ false = get_or_past (map queue (range_with_len 0 9)) q false (omega (arith, long)) in
          let clash : true ≡ false = sym h ∙ none in
          cc
      | inr (test, small) ↦ sym (get_or-map-range_with_len queue 0 9 q q false small (omega arith)) ∙ h
    ]

mapped_some : (registers : Regs) (queue : ℕ → Bool) (o : Option Start) (q : ℕ) → IsSomeAnd (option_map (row_with registers queue) o) (λ row. has_qid q row ≡ true)
    → (is_some o ≡ true) × (queue q ≡ true)
mapped_some registers queue None q h = absurd h
mapped_some registers queue (Some s) q h = (refl, mapped_has queue registers s q h)

pub controllers_live_by_their_admins : ControllersLiveByTheirAdmins
controllers_live_by_their_admins = record {
  lives = λ disks events k c is.
      let h = happened disks events in
      starts_live (start_of h c) (λ (s : Start). s.row.port ≡ port_at (connection_of h k)) ((all_hold disks events).there k (Admin c) is);
  served = λ disks events c vacant lives. (all_served disks events vacant).admin c lives;
}

session_role : (s : Session) (c : ℕ) → is_queue_of c s ≡ true → (role : Role) × (role_in s ≡ Some role) × (is_role_of c role ≡ true)
session_role Opened c h = cc
session_role Initialized c h = cc
session_role (Connected role queue) c h = (role, refl, h)
session_role Ended c h = cc

row_port : (registers : Regs) (queue : ℕ → Bool) (o : Option Start) (port : ℕ) → IsSomeAnd o (λ s. s.row.port ≡ port)
    → IsSomeAnd (option_map (row_with registers queue) o) (λ row. row.port ≡ port)
row_port registers queue None port h = h
row_port registers queue (Some s) port h = h

pub queues_are_on_their_port : QueuesAreOnTheirPort
queues_are_on_their_port = record {
  port = λ disks events k c v met own.
      let h = happened disks events in
      let found = session_role v.session c own in
      let held : Holds h (port_at (connection_of h k)) found.0 = (all_hold disks events).there k found.0 (ap role_at met ∙ found.1) in
      let lives : LivesOn h c v.port = subst (LivesOn h c) (ap port_at met) (role_port h (port_at (connection_of h k)) found.0 held c found.2) in
      row_port (registers_of h c) (has_queue h c) (start_of h c) v.port lives;
}

pub queue_ids_are_of_connections : QueueIdsAreOfConnections
queue_ids_are_of_connections = record {
  has = λ disks events k c q is.
      let h = happened disks events in
      let held = (all_hold disks events).there k (Io c q) is in
      some_mapped (registers_of h c) (has_queue h c) (start_of h c) q held.1
      (starts_live (start_of h c) (λ (s : Start). s.row.port ≡ port_at (connection_of h k)) held.0) held.2;
  served = λ disks events c q vacant there.
      let h = happened disks events in
      let parts = mapped_some (registers_of h c) (has_queue h c) (start_of h c) q there in
      (all_served disks events vacant).io c q parts.0 parts.1;
}

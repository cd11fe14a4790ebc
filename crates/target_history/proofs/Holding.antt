-- Over all that happened each queue has its controller, and is of one connection.
use Rattle.std.proofs.Common.{◌≡◌, ◌⊎◌, ◌≤◌, ℕ, Bool, true, false, not, ◌||◌, ◌&&◌, List, [], ◌∷◌, Option, Some, None, refl, sym, ap, subst, ◌∙◌, inl, inr, arith}
use Rattle.std.specs.Prelude.{if◌then◌else◌, ◌==◌, is_some, IsSomeAnd}
use Rattle.std.specs.Option.{option_map}
use Rattle.std.proofs.lemmas.List.FromFn.{get_or-map-range_with_len}
use Rattle.property_regs.specs.declared.regs.Regs.{Regs}
use Rattle.target_decision.specs.declared.consequence.Beginning.{Beginning}
use Rattle.target_decision.specs.declared.consequence.Consequence.{Consequence}
use Rattle.target_decision.specs.declared.consequence.Consequence.TheVariants as consequence
use Rattle.target_decision.specs.declared.consequence.Joining.{Joining}
use Rattle.target_decision.specs.declared.session.Role.{Role}
use Rattle.target_decision.specs.declared.session.Role.TheVariants.{Admin, Io}
use Rattle.target_decision.specs.Consequence.{role_by}
use Rattle.target_history.specs.declared.end_cause.EndCause.{EndCause}
use Rattle.target_history.specs.declared.end_cause.EndCause.TheVariants as cause
use Rattle.target_history.specs.EndCause.{resets}
use Rattle.target_history.specs.Event.{Event, edited, opened, stepped, steps, given_up, ticked}
use Rattle.target_history.specs.Occurrence.{Occurrence, Start, begins, begins_by, consequence_of, cause_of, ends_live, port_at, port_met, started, stepping}
use Rattle.target_history.specs.History.{Opening, connection_of, drops_by, happened, has_queue, joins_by, meets_after, registers_of, row_of, row_with, start_of, start_or}
use Rattle.target_history.specs.Laws.{QueuesAreOfOneConnection, role_at, role_of}
use Rattle.target_history.proofs.Admissions.{AdmitsBy, CanTake, event_admits}
use Rattle.target_history.proofs.Endings.{reply_ends}
use Rattle.target_history.proofs.Roles.{Comes, LostFrom, Stays, after_is, leaves, loses, nothing_ends}
use Rattle.target_history.proofs.Steps.{port_step, role_step}
use Rattle.target_history.proofs.Tests.{both_same, either_true, flipped, neither, same_here, same_number}

-- ---- what is there of a queue

abbrev StartsOn : ℕ → Start → Type 0
StartsOn port s = s.row.port ≡ port

-- the controller lives, begun on this port
abbrev pub LivesOn : List Occurrence → ℕ → ℕ → Type 0
LivesOn h c port = IsSomeAnd (start_of h c) (StartsOn port)

-- what is there of the queue of a connection on this port
abbrev pub Holds : List Occurrence → ℕ → Role → Type 0
Holds h port (Admin c) = LivesOn h c port
Holds h port (Io c q) = LivesOn h c port × (q ≤ 8) × (has_queue h c q ≡ true)

pub record AllHold (h : List Occurrence) : Type 0 where
  pub there : (k : ℕ) (role : Role) → role_of h k ≡ Some role → Holds h (port_at (connection_of h k)) role
  pub one : (j k : ℕ) (role : Role) → role_of h j ≡ Some role → role_of h k ≡ Some role → j ≡ k

-- ---- options

none_starts : (registers : Regs) (queue : ℕ → Bool) (o : Option Start) (port : ℕ) → option_map (row_with registers queue) o ≡ None → IsSomeAnd o (StartsOn port) → ⊥
none_starts registers queue None port h starts = starts
none_starts registers queue (Some s) port h starts = cc

takes_on : (registers : Regs) (queue : ℕ → Bool) (o : Option Start) (port q : ℕ) → IsSomeAnd (option_map (row_with registers queue) o) (CanTake port q)
    → IsSomeAnd o (StartsOn port)
takes_on registers queue None port q h = h
takes_on registers queue (Some s) port q h = h.port

takes_new : (registers : Regs) (queue : ℕ → Bool) (o : Option Start) (port q : ℕ) → q ≤ 8 → IsSomeAnd (option_map (row_with registers queue) o) (CanTake port q)
    → queue q ≡ false
takes_new registers queue None port q small h = absurd h
takes_new registers queue (Some s) port q small h =
    sym (get_or-map-range_with_len queue 0 9 q q false (omega arith) (omega arith)) ∙ h.vacant

start_kept : (b o : Option Start) (gone : Bool) (port : ℕ) → b ≡ None → gone ≡ false → IsSomeAnd o (StartsOn port)
    → IsSomeAnd (start_or b (if gone then None else o)) (StartsOn port)
start_kept None o false port begun lives h = h
start_kept None o true port begun lives h = cc
start_kept (Some s) o gone port begun lives h = cc

start_begun : (b o : Option Start) (s : Start) (port : ℕ) → b ≡ Some s → s.row.port ≡ port → IsSomeAnd (start_or b o) (StartsOn port)
start_begun None o s port begun h = cc
start_begun (Some t) o s port begun h =
    let same : t ≡ s = cc in
    ap (λ (u : Start). u.row.port) same ∙ h

queue_kept : (joins drops has : Bool) (b : Option Start) → b ≡ None → drops ≡ false → has ≡ true
    → (joins || (not (is_some b || drops) && has)) ≡ true
queue_kept true drops has b begun dropped h = refl
queue_kept false false true None begun dropped h = refl
queue_kept false true has None begun dropped h = cc
queue_kept false false false None begun dropped h = cc
queue_kept false drops has (Some s) begun dropped h = cc

-- ---- rows

no_row : (h : List Occurrence) (c port : ℕ) → row_of h c ≡ None → LivesOn h c port → ⊥
no_row h c port none lives = none_starts (registers_of h c) (has_queue h c) (start_of h c) port none lives

may_join : (h : List Occurrence) (c port q : ℕ) → IsSomeAnd (row_of h c) (CanTake port q) → LivesOn h c port
may_join h c port q can = takes_on (registers_of h c) (has_queue h c) (start_of h c) port q can

has_none : (h : List Occurrence) (c port q : ℕ) → q ≤ 8 → IsSomeAnd (row_of h c) (CanTake port q) → has_queue h c q ≡ false
has_none h c port q small can = takes_new (registers_of h c) (has_queue h c) (start_of h c) port q small can

-- ---- one more event

-- two connections that one event steps
stepped_one : (event : Event) (j k : ℕ) → steps event j ≡ true → steps event k ≡ true → j ≡ k
stepped_one (edited edit) j k h i = cc
stepped_one (opened port n) j k h i = cc
stepped_one (given_up n) j k h i = cc
stepped_one (ticked now) j k h i = cc
stepped_one (stepped n front m) j k h i = same_number j n h ∙ sym (same_number k n i)

module _ (disks : Opening) (before : List Occurrence) (event : Event) (earlier : AllHold before) where
  abbrev x : Occurrence
  x = meets_after disks before event

  abbrev Admitted : Consequence → Type 0
  Admitted ch = AdmitsBy (row_of before) (role_at (stepping event (connection_of before))) (port_met x) ch

  admitted : Admitted (consequence_of x)
  admitted = event_admits x

  -- a controller that lives is not begun again
  not_begun_by : (ch : Consequence) (c port : ℕ) → Admitted ch → LivesOn before c port → begins_by x ch c ≡ None
  not_begun_by (consequence.Begin b) c port h lives = by (c == b.controller.cntlid) refl where
    by : (same : Bool) → (c == b.controller.cntlid) ≡ same → (if same then Some (started x b) else None) ≡ None
    by true is =
        let none : row_of before c ≡ None = ap (row_of before) (same_number c b.controller.cntlid is) ∙ h.1 in
        absurd (no_row before c port none lives)
    by false is = refl
  not_begun_by _ c port h lives = refl

  pub not_begun : (c port : ℕ) → LivesOn before c port → begins x c ≡ None
  not_begun c port lives = not_begun_by (consequence_of x) c port admitted lives

  lives_on : (c port : ℕ) → LivesOn before c port → ends_live x c ≡ false → LivesOn (x ∷ before) c port
  lives_on c port lives goes =
      start_kept (begins x c) (start_of before c) (ends_live x c) port (not_begun c port lives) goes lives

  -- a queue is dropped with its connection, or by a reset, which ends that
  not_dropped : (k c q : ℕ) (e : EndCause) → role_of before k ≡ Some (Io c q) → leaves x k ≡ false → LostFrom x e
      → (ends_live x c || resets e c) ≡ false → drops_by e c q ≡ false
  not_dropped k c q (cause.Queue d p) is stays lost kept = by (c == d) (q == p) refl refl where
    by : (a b : Bool) → (c == d) ≡ a → (q == p) ≡ b → (a && b) ≡ false
    by false b h i = refl
    by true false h i = refl
    by true true h i =
        let role : Role = Io d p in
        let same : Io c q ≡ role = rw (same_number c d h, same_number q p i) refl in
        let one : lost.0 ≡ k = earlier.one lost.0 k role lost.1 (is ∙ ap Some same) in
        let clash : true ≡ false = sym lost.2 ∙ ap (leaves x) one ∙ stays in
        cc
  not_dropped k c q (cause.Reset d) is stays lost kept = flipped c d (neither (ends_live x c) (d == c) kept).1
  not_dropped k c q _ is stays lost kept = refl

  stays_holding : (k : ℕ) (role : Role) → Stays x k role → Holds before (port_at (connection_of before k)) role
      → Holds (x ∷ before) (port_at (connection_of before k)) role
  stays_holding k (Admin c) stays h = lives_on c (port_at (connection_of before k)) h stays.kept
  stays_holding k (Io c q) stays h =
      let dropped : drops_by (cause_of x) c q ≡ false = not_dropped k c q (cause_of x) stays.before stays.remains (loses x) stays.kept in (
        lives_on c (port_at (connection_of before k)) h.0 (neither (ends_live x c) (resets (cause_of x) c) stays.kept).0,
        h.1,
        queue_kept (joins_by (consequence_of x) c q) (drops_by (cause_of x) c q) (has_queue before c q) (begins x c) (not_begun c (port_at (connection_of before k)) h.0) dropped h.2,
      )

  begins_holding : (b : Beginning) → consequence_of x ≡ consequence.Begin b → LivesOn (x ∷ before) b.controller.cntlid (port_met x)
  begins_holding b is =
      let c = b.controller.cntlid in
      let begun : begins x c ≡ Some (started x b) = ap (λ (ch : Consequence). begins_by x ch c) is ∙ rw (same_here c) refl in
      start_begun (begins x c) (if ends_live x c then None else start_of before c) (started x b) (port_met x) begun refl

  joins_holding : (j : Joining) → consequence_of x ≡ consequence.Join j → Admitted (consequence.Join j) → Holds (x ∷ before) (port_met x) (Io j.cntlid j.qid)
  joins_holding j is h =
      let joined : joins_by (consequence_of x) j.cntlid j.qid ≡ true = ap (λ (ch : Consequence). joins_by ch j.cntlid j.qid) is ∙ both_same j.cntlid j.qid in (
        lives_on j.cntlid (port_met x) (may_join before j.cntlid (port_met x) j.qid h.2) (nothing_ends x j.cntlid (reply_ends x (consequence.Join j) is (λ e. cc))),
        h.1,
        either_true (joins_by (consequence_of x) j.cntlid j.qid) _ joined,
      )

  comes_holding : (ch : Consequence) (role : Role) → consequence_of x ≡ ch → Admitted ch → role_by ch ≡ Some role → Holds (x ∷ before) (port_met x) role
  comes_holding (consequence.Begin b) role is h made =
      let same : Admin b.controller.cntlid ≡ role = cc in
      subst (Holds (x ∷ before) (port_met x)) same (begins_holding b is)
  comes_holding (consequence.Join j) role is h made =
      let same : Io j.cntlid j.qid ≡ role = cc in
      subst (Holds (x ∷ before) (port_met x)) same (joins_holding j is h)
  comes_holding _ role is h made = cc

  -- no connection becomes what another one is
  not_made : (ch : Consequence) (port : ℕ) (role : Role) → Admitted ch → role_by ch ≡ Some role → Holds before port role → ⊥
  not_made (consequence.Begin b) port role h made held =
      let same : role ≡ Admin b.controller.cntlid = cc in
      no_row before b.controller.cntlid port h.1 (subst (Holds before port) same held)
  not_made (consequence.Join j) port role h made held =
      let same : role ≡ Io j.cntlid j.qid = cc in
      let has : has_queue before j.cntlid j.qid ≡ true = (subst (Holds before port) same held).2 in
      let new : has_queue before j.cntlid j.qid ≡ false = has_none before j.cntlid (port_met x) j.qid h.1 h.2 in
      let clash : true ≡ false = sym has ∙ new in
      cc
  not_made _ port role h made held = cc

  after_of : (k : ℕ) (role : Role) → role_of (x ∷ before) k ≡ Some role → Stays x k role ⊎ Comes x k role
  after_of k role h = after_is x k role (sym (role_step x before k refl) ∙ h)

  there_after : (k : ℕ) (role : Role) → role_of (x ∷ before) k ≡ Some role → Holds (x ∷ before) (port_at (connection_of (x ∷ before) k)) role
  there_after k role h =
      let port = port_step x before k refl in
      elim (after_of k role h) [
        | inl stays ↦
            subst (λ (p : ℕ). Holds (x ∷ before) p role) (sym (port ∙ stays.same_port)) (stays_holding k role stays (earlier.there k role stays.before))
        | inr comes ↦
            subst (λ (p : ℕ). Holds (x ∷ before) p role) (sym (port ∙ comes.same_port)) (comes_holding (consequence_of x) role refl admitted comes.made)
      ]

  one_after : (j k : ℕ) (role : Role) → role_of (x ∷ before) j ≡ Some role → role_of (x ∷ before) k ≡ Some role → j ≡ k
  one_after j k role hj hk =
      elim (after_of j role hj) [
        | inl stays ↦
            elim (after_of k role hk) [
              | inl too ↦ earlier.one j k role stays.before too.before
              | inr comes ↦ absurd (not_made (consequence_of x) (port_at (connection_of before j)) role admitted comes.made (earlier.there j role stays.before))
            ]
        | inr comes ↦
            elim (after_of k role hk) [
              | inl stays ↦ absurd (not_made (consequence_of x) (port_at (connection_of before k)) role admitted comes.made (earlier.there k role stays.before))
              | inr too ↦ stepped_one event j k comes.stepped too.stepped
            ]
      ]

  holds_after : AllHold (x ∷ before)
  holds_after = record { there = there_after; one = one_after }

pub all_hold : (disks : Opening) (events : List Event) → AllHold (happened disks events)
all_hold disks [] = record { there = λ k role h. cc; one = λ j k role h i. cc }
all_hold disks (event ∷ events) = holds_after disks (happened disks events) event (all_hold disks events)

pub queues_are_of_one_connection : QueuesAreOfOneConnection
queues_are_of_one_connection = record { one = λ disks events. (all_hold disks events).one }

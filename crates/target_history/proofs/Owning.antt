-- Whose admin queue a connection is: that of the controller that lives under the identifier of its queue.
use Rattle.std.proofs.Common.{◌≡◌, ℕ, Bool, true, false, List, [], ◌∷◌, Option, Some, None, refl, sym, ap, subst, ◌∙◌, inl, inr}
use Rattle.std.specs.Prelude.{if◌then◌else◌, IsSomeAnd}
use Rattle.fabrics_connect.specs.declared.row.Row.{Row}
use Rattle.target_decision.specs.declared.consequence.Consequence.{Consequence}
use Rattle.target_decision.specs.declared.consequence.Consequence.TheVariants as consequence
use Rattle.target_decision.specs.declared.decision.Decision.{Decision}
use Rattle.target_decision.specs.declared.decision.Decision.TheVariants as decision
use Rattle.target_decision.specs.declared.session.Role.{Role}
use Rattle.target_decision.specs.declared.session.Role.TheVariants.{Admin}
use Rattle.target_decision.specs.Consequence.{role_by}
use Rattle.target_history.specs.Event.{Event, opens}
use Rattle.target_history.specs.Occurrence.{Occurrence, Start, begins, begins_by, connection_after, consequence_decided, consequence_of, decided, ends_live, own_consequence, port_at, started}
use Rattle.target_history.specs.History.{Admission, Opening, admission_by, admission_of, admission_or, connection_of, happened, meets_after, row_of, start_of, start_or}
use Rattle.target_history.specs.Laws.{role_at, role_of}
use Rattle.target_history.specs.Told.{owner_by, owner_of}
use Rattle.target_history.proofs.Admissions.{AdmitsAt, AdmitsBy, own_admits}
use Rattle.target_history.proofs.Holding.{AllHold, all_hold, not_begun}
use Rattle.target_history.proofs.Roles.{Stays, after_is, own_is}
use Rattle.target_history.proofs.Steps.{role_step}
use Rattle.target_history.proofs.Tests.{bool_is, same_here}

-- ---- no controller before its Connect

unowned_by : (x : Occurrence) (opening : Bool) (ch : Consequence) (o : Option Start) (a : Option Admission) → (a ≡ None → o ≡ None)
    → (if opening then None else admission_or (admission_by ch) a) ≡ None → (if opening then None else owner_by x ch o) ≡ None
unowned_by x true ch o a earlier none = refl
unowned_by x false (consequence.Begin b) o a earlier none = cc
unowned_by x false (consequence.Join j) o a earlier none = cc
unowned_by x false _ o a earlier none = earlier none

pub unowned : (h : List Occurrence) (k : ℕ) → admission_of h k ≡ None → owner_of h k ≡ None
unowned [] k none = refl
unowned (x ∷ before) k none = unowned_by x (opens x.event k) (own_consequence x k) (owner_of before k) (admission_of before k) (unowned before k) none

-- ---- options

start_stays : (P : Start → Type 0) (b o : Option Start) (gone : Bool) → b ≡ None → gone ≡ false → IsSomeAnd o P
    → IsSomeAnd (start_or b (if gone then None else o)) P
start_stays P None o false none lives h = h
start_stays P None o true none lives h = cc
start_stays P (Some s) o gone none lives h = cc

start_new : (P : Start → Type 0) (b o : Option Start) (s : Start) → b ≡ Some s → P s → IsSomeAnd (start_or b o) P
start_new P None o s is h = cc
start_new P (Some t) o s is h =
    let same : s ≡ t = cc in
    subst P same h

start_each : (P Q : Start → Type 0) (o : Option Start) → ((s : Start) → P s → Q s) → IsSomeAnd o P → IsSomeAnd o Q
start_each P Q None each h = h
start_each P Q (Some s) each h = each s h

-- ---- one more event

-- a connection that is a queue begins no controller
begins_none : (x : Occurrence) (row : ℕ → Option Row) (port : ℕ) (o : Option Role) (role : Role) (d : Option Decision) (owner : Option Start) → o ≡ Some role
    → AdmitsAt row o port d → owner_by x (consequence_decided d) owner ≡ owner
begins_none x row port o role None owner is admits = refl
begins_none x row port o role (Some (decision.Reply r)) owner is admits = by r.consequence admits where
  by : (ch : Consequence) → AdmitsBy row o port ch → owner_by x ch owner ≡ owner
  by (consequence.Begin b) admits =
      let none : o ≡ None = admits.0 in
      cc
  by _ admits = refl
begins_none x row port o role (Some _) owner is admits = refl

-- this began the controller
abbrev pub IsOwner : List Occurrence → ℕ → Start → Type 0
IsOwner h k s = owner_of h k ≡ Some s

abbrev pub Owns : List Occurrence → ℕ → Type 0
Owns h k = (c : ℕ) → role_of h k ≡ Some (Admin c) → IsSomeAnd (start_of h c) (IsOwner h k)

module _ (disks : Opening) (before : List Occurrence) (event : Event) (k : ℕ) where
  abbrev x : Occurrence
  x = meets_after disks before event

  not_opened : (role : Role) → role_of (x ∷ before) k ≡ Some role → opens event k ≡ false
  not_opened role is =
      elim (bool_is (opens event k)) [
        | inr closed ↦ closed
        | inl opening ↦
            let none : role_at (connection_after x k (connection_of before k)) ≡ None = rw opening refl in
            let clash : None ≡ Some role = sym none ∙ sym (role_step x before k refl) ∙ is in
            cc
      ]

  -- the owner of a connection that is a queue stays
  pub owner_stays : (role : Role) → opens event k ≡ false → role_of before k ≡ Some role → owner_of (x ∷ before) k ≡ owner_of before k
  owner_stays role closed is =
      rw closed (begins_none x (row_of before) (port_at (connection_of before k)) (role_of before k) role (decided x k) (owner_of before k) is (own_admits x k))

  stays_owned : (c : ℕ) → AllHold before → opens event k ≡ false → Stays x k (Admin c) → Owns before k
      → IsSomeAnd (start_of (x ∷ before) c) (IsOwner (x ∷ before) k)
  stays_owned c held closed stays earlier =
      let port = port_at (connection_of before k) in
      let unbegun : begins x c ≡ None = not_begun disks before event held c port (held.there k (Admin c) stays.before) in
      let same = owner_stays (Admin c) closed stays.before in
      start_stays (IsOwner (x ∷ before) k) (begins x c) (start_of before c) (ends_live x c) unbegun stays.kept
      (start_each (IsOwner before k) (IsOwner (x ∷ before) k) (start_of before c) (λ s is. same ∙ is) (earlier c stays.before))

  comes_owned : (ch : Consequence) (c : ℕ) → consequence_of x ≡ ch → own_consequence x k ≡ ch → role_by ch ≡ Some (Admin c) → opens event k ≡ false
      → IsSomeAnd (start_of (x ∷ before) c) (IsOwner (x ∷ before) k)
  comes_owned (consequence.Begin b) c is own made closed =
      let same : c ≡ b.controller.cntlid = cc in
      let new : begins x c ≡ Some (started x b) =
      ap (λ (ch : Consequence). begins_by x ch c) is ∙ rw same (rw (same_here b.controller.cntlid) refl) in
      let owner : owner_of (x ∷ before) k ≡ Some (started x b) = rw closed (ap (λ (ch : Consequence). owner_by x ch (owner_of before k)) own) in
      start_new (IsOwner (x ∷ before) k) (begins x c) (if ends_live x c then None else start_of before c) (started x b) new owner
  comes_owned (consequence.Join j) c is own made closed = cc
  comes_owned _ c is own made closed = cc

  owns_after : AllHold before → Owns before k → Owns (x ∷ before) k
  owns_after held earlier c role =
      let closed = not_opened (Admin c) role in
      elim (after_is x k (Admin c) (sym (role_step x before k refl) ∙ role)) [
        | inl stays ↦ stays_owned c held closed stays earlier
        | inr comes ↦ comes_owned (consequence_of x) c refl (ap consequence_decided (own_is x k comes.stepped)) comes.made closed
      ]

pub all_own : (disks : Opening) (events : List Event) (k : ℕ) → Owns (happened disks events) k
all_own disks [] k c role = cc
all_own disks (event ∷ events) k c role =
    owns_after disks (happened disks events) event k (all_hold disks events) (all_own disks events k) c role

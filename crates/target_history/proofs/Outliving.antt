-- A controller that is permitted after an edit outlives it, with its connections.
use Rattle.std.proofs.Common.{◌≡◌, ℕ, Bool, true, false, List, ◌∷◌, Some, refl, sym, ap, ◌∙◌, inl, inr}
use Rattle.std.specs.Prelude.{if◌then◌else◌}
use Rattle.config_lists.specs.declared.edit.Edit.{Edit}
use Rattle.fabrics_connect.specs.declared.row.Row.{Row}
use Rattle.target_decision.specs.declared.session.ConnectionState.{ConnectionState}
use Rattle.target_decision.specs.declared.session.Role.{Role}
use Rattle.target_decision.specs.declared.session.Role.TheVariants.{Admin, Io}
use Rattle.target_decision.specs.declared.session.Session.{Session}
use Rattle.target_decision.specs.declared.session.Session.TheVariants.{Opened, Initialized, Connected, Ended}
use Rattle.target_decision.specs.Tell.{completed_in}
use Rattle.target_history.specs.EndCause.{cause_edited, ends_by, ends_role, ends_session, is_on_port}
use Rattle.target_history.specs.Event.{Event, edited}
use Rattle.target_history.specs.Occurrence.{Occurrence, completed_by, ends_live, noted_by, telling}
use Rattle.target_history.specs.History.{Opening, config_of, controller_of, connection_of, happened, meets_after, row_of}
use Rattle.target_history.specs.Laws.{PermittedOutliveEdits, StaysPermitted, deletes, is_queue_of, is_role_of, told_on}
use Rattle.target_history.proofs.Endings.{edit_is, kept_whole, no_timer, row_outlives}
use Rattle.target_history.proofs.Lives.{controller_step, row_step}
use Rattle.target_history.proofs.Noticing.{connection_step}
use Rattle.target_history.proofs.Tests.{same_number}

-- the connection of a controller that lives, where its port is not deleted
role_outlives : (e : Edit) (gone : ℕ → Bool) (c : ℕ) (role : Role) → gone c ≡ false → is_role_of c role ≡ true → ends_role (cause_edited e) gone role ≡ false
role_outlives edit gone c (Admin d) lives is = ap gone (sym (same_number c d is)) ∙ lives
role_outlives edit gone c (Io d q) lives is =
    let live : gone d ≡ false = ap gone (sym (same_number c d is)) ∙ lives in
    elim (edit_is edit) [
      | inl other ↦ rw (live, other) refl
      | inr (id, del) ↦ rw live (ap (λ (e : Edit). ends_role (cause_edited e) (λ (n : ℕ). false) (Io d q)) del)
    ]

session_outlives : (edit : Edit) (gone : ℕ → Bool) (c : ℕ) (s : Session) → gone c ≡ false → is_queue_of c s ≡ true
    → ends_session (cause_edited edit) gone s ≡ false
session_outlives edit gone c Opened lives is = refl
session_outlives edit gone c Initialized lives is = refl
session_outlives edit gone c (Connected role queue) lives is = role_outlives edit gone c role lives is
session_outlives edit gone c Ended lives is = refl

port_outlives : (edit : Edit) (port : ℕ) → deletes edit port ≡ false → is_on_port (cause_edited edit) port ≡ false
port_outlives edit port h =
    elim (edit_is edit) [
      | inl other ↦ rw other refl
      | inr (id, is) ↦ ap (λ (e : Edit). is_on_port (cause_edited e) port) is ∙ ap (λ (e : Edit). deletes e port) (sym is) ∙ h
    ]

module _ (disks : Opening) (events : List Event) (edit : Edit) (c : ℕ) (row : Row) (stays : StaysPermitted disks events edit c row) where
  abbrev before : List Occurrence
  before = happened disks events

  abbrev x : Occurrence
  x = meets_after disks before (edited edit)

  lives : ends_live x c ≡ false
  lives =
      rw (stays.lives, row_outlives edit (config_of disks (x ∷ before)) c row stays.port stays.permitted, no_timer edit (controller_of before c)) refl

  row_stays : row_of (x ∷ before) c ≡ Some row
  row_stays = row_step x before c refl ∙ rw (lives, stays.lives) (ap Some (kept_whole edit c row))

  controller_stays : controller_of (x ∷ before) c ≡ controller_of before c
  controller_stays = controller_step x before c ∙ rw lives refl

  connection_stays : (k : ℕ) (v : ConnectionState) → connection_of before k ≡ Some v → is_queue_of c v.session ≡ true
      → deletes edit v.port ≡ false → connection_of (x ∷ before) k ≡ Some (told_on x v)
  connection_stays k v met is port =
      let here : ends_by (cause_edited edit) (ends_live x) v ≡ false =
      rw (port_outlives edit v.port port) (session_outlives edit (ends_live x) c v.session lives is) in
      connection_step disks events (edited edit) k ∙ rw met (ap Some (whole (ap (λ (over : Bool). if over then Ended else completed_in v.session (completed_by (telling x v) v.notices)) here)))
    where
      whole : {s t : Session} → s ≡ t
          → (let c : ConnectionState = record { port = v.port; session = s; alignment = v.alignment; notices = noted_by (telling x v) v.notices } in c)
          ≡ (let c : ConnectionState = record { port = v.port; session = t; alignment = v.alignment; notices = noted_by (telling x v) v.notices } in c)
      whole p = rw p refl

pub permitted_outlive_edits : PermittedOutliveEdits
permitted_outlive_edits = record {
  row = row_stays;
  controller = controller_stays;
  connections = λ disks events edit c row k v stays. connection_stays disks events edit c row stays k v;
}

-- What connections are told by edits.
use Rattle.std.proofs.Common.{◌≡◌, ◌+◌, Bool, true, false, List, [], ◌∷◌, length, Option, Some, None, refl, ap, ◌∙◌, arith}
use Rattle.std.specs.Prelude.{if◌then◌else◌}
use Rattle.nvt_config.specs.Configuration.{Configuration}
use Rattle.event_queue.specs.declared.completion.Completion.{Completion}
use Rattle.admin_queue.specs.Notices.{NoticeState}
use Rattle.admin_queue.specs.Viewer.{Views, changes_seen}
use Rattle.target_decision.specs.declared.session.ConnectionState.{ConnectionState}
use Rattle.target_decision.specs.declared.session.Session.{Session}
use Rattle.target_decision.specs.declared.session.Session.TheVariants.{Opened, Initialized, Connected, Ended}
use Rattle.target_decision.specs.Session.{responded_in, role_in}
use Rattle.target_decision.specs.Tell.{completed_in, completion_pdus}
use Rattle.target_decision.proofs.Telling.{edit_counted}
use Rattle.target_history.specs.EndCause.{ends_by}
use Rattle.target_history.specs.Event.{Event, edited, opened, stepped, given_up, ticked}
use Rattle.target_history.specs.Laws.{is_edit}
use Rattle.target_history.specs.Occurrence.{Occurrence, Telling, cause_of, completed_by, completes_at, edit_made, ends_live, noted_at, noted_by, telling, telling_by, told_at, views_at}

-- ---- what is no edit tells nothing

pub no_telling : (x : Occurrence) (v : ConnectionState) → edit_made x.event x.world.config ≡ None → telling x v ≡ None
no_telling x v none = ap (λ (made : Option Configuration). telling_by x.world.config made (views_at x v)) none

pub no_completion : (x : Occurrence) (o : Option ConnectionState) → edit_made x.event x.world.config ≡ None → completes_at x o ≡ []
no_completion x None none = refl
no_completion x (Some v) none = ap (λ (t : Option Telling). completed_by t v.notices) (no_telling x v none)

pub no_note : (x : Occurrence) (o : Option ConnectionState) (s : NoticeState) → edit_made x.event x.world.config ≡ None → noted_at x o s ≡ s
no_note x None s none = refl
no_note x (Some v) s none = ap (λ (t : Option Telling). noted_by t s) (no_telling x v none)

pub untold : (x : Occurrence) (o : Option ConnectionState) → edit_made x.event x.world.config ≡ None → told_at x o ≡ []
untold x None none = refl
untold x (Some v) none = ap (λ (t : Option Telling). completion_pdus v.session (completed_by t v.notices)) (no_telling x v none)

pub no_edit_made : (event : Event) (c : Configuration) → is_edit event ≡ false → edit_made event c ≡ None
no_edit_made (edited edit) c h = cc
no_edit_made (opened port n) c h = refl
no_edit_made (given_up n) c h = refl
no_edit_made (stepped n front m) c h = refl
no_edit_made (ticked now) c h = refl

-- ---- nothing is told on a connection that shows nothing

pub unseen : (old : Configuration) (made : Option Configuration) → telling_by old made None ≡ None
unseen old None = refl
unseen old (Some new) = refl

none_either : {A : Type 0} (b : Bool) (o : Option A) → o ≡ None → (if b then None else o) ≡ None
none_either true o none = refl
none_either false o none = none

pub ended_untold : (x : Occurrence) (v : ConnectionState) → v.session ≡ Ended → told_at x (Some v) ≡ []
ended_untold x v ended =
    let none : views_at x v ≡ None = none_either (ends_by (cause_of x) (ends_live x) v) _ (rw ended refl) in
    let silent : telling x v ≡ None = ap (λ (views : Option Views). telling_by x.world.config (edit_made x.event x.world.config) views) none ∙ unseen x.world.config (edit_made x.event x.world.config) in
    ap (λ (t : Option Telling). completion_pdus v.session (completed_by t v.notices)) silent

-- ---- the queue stays

pub responded_role : (s : Session) → role_in (responded_in s) ≡ role_in s
responded_role Opened = refl
responded_role Initialized = refl
responded_role (Connected role queue) = refl
responded_role Ended = refl

pub completed_role : (s : Session) (cs : List Completion) → role_in (completed_in s cs) ≡ role_in s
completed_role s [] = refl
completed_role s (c ∷ rest) = completed_role (responded_in s) rest ∙ responded_role s

-- ---- the requests that wait

-- each completion answers one
pub told_counted : (t : Option Telling) (s : NoticeState) → length (completed_by t s) + length (noted_by t s).events.waiting ≡ length s.events.waiting
told_counted None s = omega arith
told_counted (Some t) s = edit_counted s.events (changes_seen t.old t.new t.views)

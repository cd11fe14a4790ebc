-- Over disks whose reads find what was written, each step does.
use Rattle.std.proofs.Common.{◌≡◌, ℕ, Bool, true, false, Result, Ok, Err, refl, sym, ◌∙◌}
use Rattle.io_queue.specs.Act.{is_found}
use Rattle.target_core.specs.declared.fault.StepFault.{StepFault}
use Rattle.target_core.specs.declared.fault.Stepped.{Stepped}
use Rattle.target_core.specs.declared.fault.Stepped.TheVariants.{Idle, One, Ended}
use Rattle.target_core.specs.Agreement.{AgreesAfterStep, AgreesByStep, StepAgrees, front_of}
use Rattle.target_core.specs.Faithful.{AgreesFaithfully, AgreesFaithfullyBy, AreFaithful, FaithfulStepAgrees}
use Rattle.target_core.specs.Target.{TargetState}
use Rattle.tables.specs.NumberTable.{place}

finds_none : (k : ℕ) (old new : TargetState) → AreFaithful old.disks → AreFaithful new.disks
    → (h : AgreesAfterStep k (front_of (place old.streams k)) old new) (found : Bool) → is_found h.disk_outcome ≡ found → found ≡ false
finds_none k old new before after h true is =
    let strayed = h.tells.strayed is in
    absurd (strayed.1 (λ d. after d ∙ sym (before d)))
finds_none k old new before after h false is = refl

faithfully : (k : ℕ) (old new : TargetState) → AreFaithful old.disks → AreFaithful new.disks
    → AgreesAfterStep k (front_of (place old.streams k)) old new → AgreesFaithfully k old new
faithfully k old new before after h = record { step = h; finds = finds_none k old new before after h (is_found h.disk_outcome) refl }

by_step : (k : ℕ) (s : Stepped) (old new : TargetState) → AreFaithful old.disks → AreFaithful new.disks → AgreesByStep k s old new
    → AgreesFaithfullyBy k s old new
by_step k Idle old new before after h = h
by_step k One old new before after h = faithfully k old new before after h
by_step k Ended old new before after h = faithfully k old new before after h

pub step_faithfully : (k : ℕ) (old new : TargetState) (result : Result Stepped StepFault) → AreFaithful old.disks → AreFaithful new.disks
    → StepAgrees k old result new → FaithfulStepAgrees k old result new
step_faithfully k old new (Ok s) before after h = by_step k s old new before after h
step_faithfully k old new (Err fault) before after h = h

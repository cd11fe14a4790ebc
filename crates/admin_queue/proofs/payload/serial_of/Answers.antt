use Rattle.std.proofs.Common.{◌≡◌, Some, find, sym, ap, ◌∙◌}
use Rattle.std.specs.Prelude.{IsTrue}
use Rattle.std.specs.Option.{option_copied}
use Rattle.std.specs.Str.{bytes_eq}
use Rattle.config_lists.specs.declared.subsystem.Subsystem.{Subsystem}
use Rattle.config_lists.specs.Subsystem.{is_subsystem}
use Rattle.config_lists.proofs.Lists.{found_holds}
use Rattle.admin_queue.proofs.Serials.{serial_fits}
use Rattle.admin_queue.proofs.payload.serial_of.Goals as goal

pub returns-in-Some-clause-bound : goal.returns-in-Some-clause-bound
returns-in-Some-clause-bound c =
    let s : Subsystem = c.in-Some.subsystem.now in
    let found : find (λ (s : Subsystem). bytes_eq s.nqn c.args.nqn.now) c.args.config.now.subsystems ≡ Some s =
    sym c.subsystem.ensures.found ∙ ap option_copied c.in-Some.is in
    let holds = found_holds (λ (s : Subsystem). IsTrue (is_subsystem s)) (λ (s : Subsystem). bytes_eq s.nqn c.args.nqn.now) c.args.config.now.subsystems c.subsystem.ensures.valid.subsystems.sound in
    let sound : IsTrue (is_subsystem s) = rw found at holds in
    rw c.as_bytes.ensures (serial_fits s sound)

use Rattle.std.proofs.Common.{◌≡◌, IfErr, IfOk, subst}
use Rattle.config_text.specs.Lines.{lines_of}
use Rattle.nvt_config.specs.Configuration.{disks_alone}
use Rattle.edit_lines.specs.Configured.{Configures, IsConfiguredOver, RefusesEdits}
use Rattle.edit_lines.proofs.Taking.{sizes_zeroed}
use Rattle.edit_lines.proofs.configured.configure.Goals as goal

pub returns-clause-ok : goal.returns-clause-ok
returns-clause-ok c =
    subst (λ units. IfOk c.configure_over.result (λ target. Configures (lines_of c.args.edits.now) (disks_alone units) target.config))
    (sizes_zeroed c.args.units.now _ c.in_ok-disks.ensures) c.configure_over.ensures.ok

pub returns-clause-configured : goal.returns-clause-configured
returns-clause-configured c =
    subst (λ disks. IfOk c.configure_over.result (IsConfiguredOver c.args.edits.now disks)) c.in_ok-disks.ensures c.configure_over.ensures.configured

pub returns-clause-fault : goal.returns-clause-fault
returns-clause-fault c =
    subst (λ units. IfErr c.configure_over.result (λ fault. RefusesEdits fault c.args.edits.now units))
    (sizes_zeroed c.args.units.now _ c.in_ok-disks.ensures) c.configure_over.ensures.fault

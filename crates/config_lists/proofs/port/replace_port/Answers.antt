use Rattle.std.proofs.Common.{◌==◌, sym, ◌∙◌}
use Rattle.std.proofs.lemmas.Bool.{eqb-true, false_from_ne_true}
use Rattle.config_lists.proofs.Lists.{set-changed_where, changed_where_none}
use Rattle.config_lists.proofs.port.replace_port.Goals as goal

pub returns-in-Some : goal.returns-in-Some
returns-in-Some c =
    let id = c.args.port.id in
    set-changed_where (λ old. old.id == c.args.port.id) c.args.port c.args.ports.now c.in-Some.at (sym c.in-Some.ensures) (λ i j d less below first.
    false_from_ne_true _ (λ second. c.requires i j d less below (eqb-true _ id first ∙ sym (eqb-true _ id second))))

pub returns-in_default : goal.returns-in_default
returns-in_default c = sym (changed_where_none (λ old. old.id == c.args.port.id) _ c.args.ports.now (sym c.in_default.ensures))

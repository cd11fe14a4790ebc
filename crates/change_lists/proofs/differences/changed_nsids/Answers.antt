use Rattle.std.proofs.Common.{◌≡◌, ◌≤◌, not, ℕ, List, Option, None, find, get_or, ap, ◌∙◌}
use Rattle.std.specs.Option.{option_map}
use Rattle.config_lists.specs.declared.namespace.Namespace.{Namespace}
use Rattle.config_lists.specs.Namespace.{is_named, nsid_max}
use Rattle.nvt_config.specs.Configuration.{Configuration}
use Rattle.config_lists.proofs.Sets.{nsids_alike}
use Rattle.change_lists.specs.Changes.{are_same, attributes_of, changes_namespace}
use Rattle.change_lists.specs.Tables.{differs}
use Rattle.change_lists.proofs.differences.changed_nsids.Goals as goal

-- tables of two configurations differ where a namespace changes
changes : (old new : Configuration) (subsystem : List ℕ) (before after : List (Option Namespace))
    → ((nsid : ℕ) → nsid ≤ nsid_max → get_or before nsid None ≡ find (is_named subsystem nsid) old.namespaces)
    → ((nsid : ℕ) → nsid ≤ nsid_max → get_or after nsid None ≡ find (is_named subsystem nsid) new.namespaces)
    → (nsid : ℕ) → 1 ≤ nsid → nsid ≤ nsid_max → differs before after nsid ≡ changes_namespace old new subsystem nsid
changes old new subsystem before after one other nsid above below =
    ap (λ o. not (are_same (option_map attributes_of o) (option_map attributes_of (get_or after nsid None)))) (one nsid below)
    ∙ ap (λ o. not (are_same (option_map attributes_of (find (is_named subsystem nsid) old.namespaces)) (option_map attributes_of o))) (other nsid below)

pub returns : goal.returns
returns c =
    let old = c.args.old.now in
    let new = c.args.new.now in
    let subsystem = c.args.subsystem.now in
    c.differing.ensures
    ∙ nsids_alike (differs c.table-before.result c.table-after.result) (changes_namespace old new subsystem)
    (changes old new subsystem c.table-before.result c.table-after.result c.table-before.ensures.found c.table-after.ensures.found)

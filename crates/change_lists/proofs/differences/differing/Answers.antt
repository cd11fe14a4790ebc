use Rattle.std.proofs.Common.{◌≡◌, ℕ, List, Option, [], ap, ◌∙◌}
use Rattle.config_lists.specs.declared.namespace.Namespace.{Namespace}
use Rattle.config_lists.specs.Nsids.{nsids_in}
use Rattle.config_lists.specs.Numbered.{nsids_where}
use Rattle.change_lists.specs.Tables.{differs, noted}
use Rattle.change_lists.proofs.Changed.{all_differing}
use Rattle.change_lists.proofs.differences.differing.Goals as goal

-- what is added by those of each table
added_by : (before after : List (Option Namespace)) (first second empty middle result : List ℕ) → empty ≡ [] → first ≡ nsids_in before → second ≡ nsids_in after
    → middle ≡ noted (differs before after) first empty → result ≡ noted (differs before after) second middle → result ≡ nsids_where (differs before after)
added_by before after first second empty middle result none is then_is made then_made =
    then_made ∙ ap (λ s. noted (differs before after) second s) (made ∙ ap (λ l. noted (differs before after) l empty) is ∙ ap (noted (differs before after) (nsids_in before)) none)
    ∙ ap (λ l. noted (differs before after) l (noted (differs before after) (nsids_in before) [])) then_is
    ∙ all_differing before after

pub returns : goal.returns
returns c =
    added_by c.args.before.now c.args.after.now c.nsids.result c.nsids-2.result c.new-changed.result c.add_differing.new.changed c.add_differing-2.new.changed
    c.new-changed.ensures c.nsids.ensures.all c.nsids-2.ensures.all c.add_differing.ensures c.add_differing-2.ensures

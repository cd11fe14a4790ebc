use Rattle.std.proofs.Common.{◌<◌, [], length, refl, ap, sym, ◌∙◌}
use Rattle.config_lists.specs.Show.{has_show}
use Rattle.config_lists.specs.NsidSet.{with_nsid}
use Rattle.config_lists.proofs.Sets.{no_nsids}
use Rattle.config_lists.proofs.Shown.{none_shown, one_shown}
use Rattle.config_lists.proofs.onlooker.nsids_shown.Goals as goal
use Rattle.config_lists.proofs.onlooker.nsids_shown.Goals.{else-is_show_in, then-is_show_in}

pub loop-show-init : goal.loop-show-init
loop-show-init c =
    c.new-shown.ensures ∙ sym (no_nsids (λ nsid. has_show [] c.args.subsystem.now nsid c.args.host.now) (λ k above below. refl))

pub loop-show-preserved : goal.loop-show-preserved
loop-show-preserved c =
    let all = c.args.shows.now in
    let host = c.args.host.now in
    let subsystem = c.args.subsystem.now in
    let s = c.show-item.result in
    let i = c.loop-show.show-index in
    let below : i < length all = c.loop-show-test.true in
    elim c.if-is_show_in.branch [
      | then-is_show_in w ↦
          w.shown-is ∙ w.insert.ensures ∙ ap (with_nsid s.nsid) c.loop-show.invariant
          ∙ one_shown all host subsystem i s below c.show-item.is (sym c.is_show_in.ensures ∙ w.if-is_show_in.true)
      | else-is_show_in w ↦
          w.shown-is ∙ c.loop-show.invariant
          ∙ none_shown all host subsystem i s below c.show-item.is (sym c.is_show_in.ensures ∙ w.if-is_show_in.false)
    ]

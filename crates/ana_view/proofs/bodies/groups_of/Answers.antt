use Rattle.std.proofs.Common.{◌≡◌, Bor, List, Option, Some, None, is_some, true, not, take, bytes_eq, refl, ap, sym, ◌∙◌}
use Rattle.std.specs.Option.{option_copied}
use Rattle.config_lists.specs.declared.show.Show.{Show}
use Rattle.tables.specs.NameTable.{value_of}
use Rattle.nvt_config.proofs.Viewers.{own_passed, own_put, own_there}
use Rattle.ana_view.specs.Reached.{AreGroupsFor}
use Rattle.ana_view.specs.View.{OfSubsystem}
use Rattle.ana_view.proofs.Pages.{take_next}
use Rattle.ana_view.proofs.bodies.groups_of.Goals as goal
use Rattle.ana_view.proofs.bodies.groups_of.Goals.{then-eq+then-is_none+in_ok-own+in_ok-put, else-eq, else-eq-via-then-eq+else-is_none, else-eq-via-else-eq}

copied : (o : Option (Bor OfSubsystem)) → is_some (option_copied o) ≡ is_some o
copied None = refl
copied (Some groups) = refl

pub loop-show-preserved : goal.loop-show-preserved
loop-show-preserved c =
    let config = c.args.config.now in
    let subsystem = c.args.subsystem.now in
    let meant = AreGroupsFor config subsystem in
    let shows : List Show = c.shows-show-items.result.now in
    let i = c.loop-show.show-index in
    let s : Show = c.show-item.result in
    let more = take_next shows i s c.loop-show-test.true c.show-item.is in
    let tested : bytes_eq s.subsystem subsystem ≡ c.eq.result = rw (c.eq.ensures, c.as_bytes.ensures) refl in
    elim c.if-eq.branch [
      | then-eq+then-is_none+in_ok-own+in_ok-put w ↦
          rw w.groups-is (record {
            strangers = rw w.put.ensures.common c.loop-show.invariant.strangers;
            own = rw more (own_put subsystem meant (take i shows) s c.loop-show.groups.own w.put.new.self.own w.in_ok-own.own (tested ∙ w.if-eq.true) (rw c.as_bytes-host.ensures at w.in_ok-put.ensures.put) (rw (w.seen_by.ensures, c.as_bytes-host.ensures) at w.in_ok-own.ensures.groups) c.loop-show.invariant.own);
          })
      | else-eq w ↦
          rw w.groups-is (record {
            strangers = c.loop-show.invariant.strangers;
            own = rw more (elim w.else-eq.branch [
              | else-eq-via-then-eq+else-is_none w' ↦
                  let there : is_some (value_of c.loop-show.groups.own s.host) ≡ true = rw c.as_bytes-host.ensures at (ap is_some (sym w'.own.ensures) ∙ copied w'.own.result ∙ w'.is_none.ensures ∙ ap not w'.if-is_none.false) in
                  own_there subsystem meant (take i shows) s c.loop-show.groups.own there c.loop-show.invariant.own
              | else-eq-via-else-eq w' ↦ own_passed subsystem meant (take i shows) s c.loop-show.groups.own (tested ∙ w'.if-eq.false) c.loop-show.invariant.own
            ]);
          })
    ]

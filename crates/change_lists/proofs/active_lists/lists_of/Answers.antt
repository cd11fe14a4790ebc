use Rattle.std.proofs.Common.{◌≡◌, ◌+◌, ◌++◌, ◌∷◌, [], true, not, refl, suc, take, is_some, ap, sym, ◌∙◌, arith}
use Rattle.std.proofs.Math.Seq.{take-suc}
use Rattle.std.proofs.lemmas.List.{take_all}
use Rattle.std.specs.Str.{bytes_eq}
use Rattle.config_lists.specs.declared.show.Show.{Show}
use Rattle.nvt_config.specs.Configuration.{Configuration}
use Rattle.config_lists.specs.Numbered.{active_nsids}
use Rattle.nvt_config.proofs.Viewers.{own_first, own_passed, own_put, own_there, some_lent}
use Rattle.tables.specs.NameTable.{value_of}
use Rattle.change_lists.specs.Reached.{IsListFor}
use Rattle.change_lists.proofs.active_lists.lists_of.Goals as goal
use Rattle.change_lists.proofs.active_lists.lists_of.Goals.{then-eq+then-is_none+in_ok-list+in_ok-put, else-eq, else-eq-via-then-eq+else-is_none, else-eq-via-else-eq}

pub loop-show-init : goal.loop-show-init
loop-show-init c = record {
  own = rw c.new-lists.ensures (own_first c.args.subsystem.now (IsListFor c.args.config.now c.args.subsystem.now));
  common = refl;
}

pub loop-show-preserved : goal.loop-show-preserved
loop-show-preserved c =
    let shows = c.shows-show-items.result.now in
    let i = c.loop-show.show-index in
    let s : Show = c.show-item.result in
    let subsystem = c.args.subsystem.now in
    let meant = IsListFor c.args.config.now subsystem in
    let so_far = take i shows in
    let one : i + 1 ≡ suc i = omega arith in
    let more : take (i + 1) shows ≡ so_far ++ s ∷ [] = ap (λ k. take k shows) one ∙ take-suc shows i s c.loop-show-test.true ∙ ap (λ (y : Show). so_far ++ y ∷ []) (sym c.show-item.is) in
    let named = ap (λ l. bytes_eq l subsystem) (sym c.as_bytes.ensures) ∙ sym c.eq.ensures in
    elim c.if-eq.branch [
      | then-eq+then-is_none+in_ok-list+in_ok-put w ↦
          let put = rw c.as_bytes-host.ensures at w.in_ok-put.ensures.put in
          let is : meant s.host w.in_ok-list.list = rw (w.seen_by.ensures, c.as_bytes-host.ensures) at w.in_ok-list.ensures in
          record {
            own = rw (more, w.lists-is) (own_put subsystem meant so_far s c.loop-show.lists.own w.put.new.self.own w.in_ok-list.list (named ∙ w.if-eq.true) put is c.loop-show.invariant.own);
            common = ap (λ v. v.common) w.lists-is ∙ w.put.ensures.common ∙ c.loop-show.invariant.common;
          }
      | else-eq w ↦ record {
        own = rw (more, w.lists-is) (elim w.else-eq.branch [
          | else-eq-via-then-eq+else-is_none w' ↦
              let there : is_some (value_of c.loop-show.lists.own s.host) ≡ true = rw c.as_bytes-host.ensures at (sym (ap is_some w'.own.ensures) ∙ some_lent w'.own.result (w'.is_none.ensures ∙ ap not w'.if-is_none.false)) in
              own_there subsystem meant so_far s c.loop-show.lists.own there c.loop-show.invariant.own
          | else-eq-via-else-eq w' ↦ own_passed subsystem meant so_far s c.loop-show.lists.own (named ∙ w'.if-eq.false) c.loop-show.invariant.own
        ]);
        common = ap (λ v. v.common) w.lists-is ∙ c.loop-show.invariant.common;
      }
    ]

pub returns-clause-common : goal.returns-clause-common
returns-clause-common c = c.loop-show.invariant.common ∙ ap (λ v. v.common) c.new-lists.ensures ∙ c.in_ok-strangers.ensures ∙ ap (λ (d : Configuration). active_nsids d.namespaces c.args.subsystem.now) c.seen_by_strangers.ensures

pub returns-clause-own : goal.returns-clause-own
returns-clause-own c =
    let shows = c.shows-show-items.result.now in
    let all : take c.loop-show.show-index shows ≡ c.args.config.now.shows = take_all c.loop-show.show-index shows c.loop-show-test.false ∙ c.shows-show-items.ensures.lent in
    rw all at c.loop-show.invariant.own

use Rattle.std.proofs.Common.{◌≡◌, ◌+◌, ◌++◌, ◌∷◌, [], List, true, not, refl, suc, take, is_some, ap, sym, ◌∙◌, arith}
use Rattle.std.proofs.Math.Seq.{take-suc}
use Rattle.std.specs.Str.{bytes_eq}
use Rattle.config_lists.specs.declared.show.Show.{Show}
use Rattle.std.proofs.lemmas.List.{append-nil, append_assoc}
use Rattle.nvt_config.proofs.Viewers.{own_passed, own_put, own_there, some_lent}
use Rattle.tables.specs.NameTable.{value_of}
use Rattle.change_lists.specs.Reached.{AreChangesFor}
use Rattle.change_lists.proofs.differences.add_changes.Goals as goal
use Rattle.change_lists.proofs.differences.add_changes.Goals.{then-eq+then-is_none+in_ok-put, else-eq, else-eq-via-then-eq+else-is_none, else-eq-via-else-eq}

pub loop-show-init : goal.loop-show-init
loop-show-init c = record { own = λ before are. rw append-nil are; common = refl }

pub loop-show-preserved : goal.loop-show-preserved
loop-show-preserved c =
    let shows = c.args.shows.now in
    let i = c.loop-show.show-index in
    let s : Show = c.show-item.result in
    let subsystem = c.args.subsystem.now in
    let meant = AreChangesFor c.args.old.now c.args.new.now subsystem in
    let so_far = take i shows in
    let one : i + 1 ≡ suc i = omega arith in
    let more : take (i + 1) shows ≡ so_far ++ s ∷ [] = ap (λ k. take k shows) one ∙ take-suc shows i s c.loop-show-test.true ∙ ap (λ (y : Show). so_far ++ y ∷ []) (sym c.show-item.is) in
    let joined : (before : List Show) → before ++ take (i + 1) shows ≡ (before ++ so_far) ++ s ∷ [] = λ before. ap (λ l. before ++ l) more ∙ sym (append_assoc before so_far (s ∷ [])) in
    let named = ap (λ l. bytes_eq l subsystem) (sym c.as_bytes.ensures) ∙ sym c.eq.ensures in
    elim c.if-eq.branch [
      | then-eq+then-is_none+in_ok-put w ↦
          let put = rw c.as_bytes-host.ensures at w.in_ok-put.ensures.put in
          let is : meant s.host w.changed_nsids-nsids.result = rw (w.seen_by.ensures, w.seen_by-then-is_none.ensures, c.as_bytes-host.ensures) at w.changed_nsids-nsids.ensures in
          record {
            own = λ before are. rw (joined before, w.changed-is) (own_put subsystem meant (before ++ so_far) s c.loop-show.changed.own w.put.new.self.own w.changed_nsids-nsids.result (named ∙ w.if-eq.true) put is (c.loop-show.invariant.own before are));
            common = ap (λ v. v.common) w.changed-is ∙ w.put.ensures.common ∙ c.loop-show.invariant.common;
          }
      | else-eq w ↦ record {
        own = λ before are. rw (joined before, w.changed-is) (elim w.else-eq.branch [
          | else-eq-via-then-eq+else-is_none w' ↦
              let there : is_some (value_of c.loop-show.changed.own s.host) ≡ true = rw c.as_bytes-host.ensures at (sym (ap is_some w'.own.ensures) ∙ some_lent w'.own.result (w'.is_none.ensures ∙ ap not w'.if-is_none.false)) in
              own_there subsystem meant (before ++ so_far) s c.loop-show.changed.own there (c.loop-show.invariant.own before are)
          | else-eq-via-else-eq w' ↦ own_passed subsystem meant (before ++ so_far) s c.loop-show.changed.own (named ∙ w'.if-eq.false) (c.loop-show.invariant.own before are)
        ]);
        common = ap (λ v. v.common) w.changed-is ∙ c.loop-show.invariant.common;
      }
    ]

use Rattle.std.proofs.Common.{◌≡◌, ◌+◌, ◌++◌, ◌∷◌, [], List, suc, take, ap, sym, ◌∙◌, arith}
use Rattle.std.proofs.Math.Seq.{take-suc}
use Rattle.std.proofs.lemmas.List.{map-append, take_all}
use Rattle.config_lists.specs.declared.subsystem.Subsystem.{Subsystem}
use Rattle.tables.specs.NameTable.{IsPut}
use Rattle.change_lists.proofs.Ready.{names_of, none_ready, one_more_ready, shows_active}
use Rattle.change_lists.proofs.active_lists.ActiveLists.of.Goals as goal

pub loop-subsystem-init : goal.loop-subsystem-init
loop-subsystem-init c = none_ready c.args.config.now _ c.new.ensures

pub loop-subsystem-preserved : goal.loop-subsystem-preserved
loop-subsystem-preserved c =
    let xs : List Subsystem = c.subsystems-subsystem-items.result.now in
    let i = c.loop-subsystem.subsystem-index in
    let s : Subsystem = c.subsystem-item.result in
    let one : i + 1 ≡ suc i = omega arith in
    let more : take (i + 1) xs ≡ take i xs ++ s ∷ [] =
    ap (λ k. take k xs) one ∙ take-suc xs i s c.loop-subsystem-test.true ∙ ap (λ (y : Subsystem). take i xs ++ y ∷ []) (sym c.subsystem-item.is) in
    let name = c.as_bytes-name.ensures in
    let put : IsPut c.loop-subsystem.lists.shown.lists c.put.new.self.shown.lists s.nqn c.in_ok-nsids.nsids = rw name at c.in_ok-put.ensures in
    rw (more, map-append) (one_more_ready c.args.config.now (names_of (take i xs)) c.loop-subsystem.lists.shown c.put.new.self.shown s.nqn c.in_ok-nsids.nsids put (rw name at c.in_ok-nsids.ensures.common) (rw name at c.in_ok-nsids.ensures.own) c.loop-subsystem.invariant)

pub returns : goal.returns
returns c =
    let xs : List Subsystem = c.subsystems-subsystem-items.result.now in
    let all : take c.loop-subsystem.subsystem-index xs ≡ c.args.config.now.subsystems =
    take_all c.loop-subsystem.subsystem-index xs c.loop-subsystem-test.false ∙ c.subsystems-subsystem-items.ensures.lent in
    shows_active c.args.config.now c.loop-subsystem.lists.shown c.subsystems-subsystem-items.ensures.valid (rw all at c.loop-subsystem.invariant)

use Rattle.target_core.proofs.Units.{all_ok, stores_hold}
use Rattle.target_core.proofs.disks.stores_over.Goals as goal

pub returns : goal.returns
returns g c =
    all_ok _ _ c.stores_of.result
    (λ stores. stores_hold g.D.Disk.contents g.D.Disk.synced g.D.Disk.faults g.D.Disk.strays c.args.disks.items stores.items) c.stores_of.ensures

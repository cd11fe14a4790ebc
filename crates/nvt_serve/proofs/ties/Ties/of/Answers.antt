use Rattle.std.proofs.Common.{refl}
use Rattle.tables.proofs.NumberTables.{place-replicate}
use Rattle.nvt_serve.proofs.Looking.{looks_first}
use Rattle.nvt_serve.proofs.ties.Ties.of.Goals as goal

pub returns-clause-looks : goal.returns-clause-looks
returns-clause-looks g c = looks_first c.args.target.now _ c.known_of-known.ensures refl refl refl refl (λ slot. place-replicate 64 slot)

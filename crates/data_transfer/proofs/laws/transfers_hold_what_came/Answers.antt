use Rattle.data_transfer.proofs.Coming.{holds_what_came}
use Rattle.data_transfer.proofs.laws.transfers_hold_what_came.Goals as goal

pub returns : goal.returns
returns g c = holds_what_came

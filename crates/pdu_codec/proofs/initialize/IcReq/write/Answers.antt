use Rattle.pdu_codec.proofs.Appended.{bytes_appended}
use Rattle.pdu_codec.specs.Initialize.{ic_req}
use Rattle.pdu_codec.proofs.initialize.IcReq.write.Goals as goal

pub returns-clause-exact : goal.returns-clause-exact
returns-clause-exact c = rw (c.common_header-common.ensures, c.fields.ensures) at c.append.ensures

pub returns-clause-bytes : goal.returns-clause-bytes
returns-clause-bytes c =
    bytes_appended c.args.out.now c.append.new.out (ic_req c.args.self.now) c.append.result (returns-clause-exact c)

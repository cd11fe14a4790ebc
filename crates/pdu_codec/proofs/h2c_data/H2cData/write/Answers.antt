use Rattle.pdu_codec.proofs.Appended.{bytes_appended}
use Rattle.pdu_codec.specs.H2cData.{h2c_data, sent_of}
use Rattle.pdu_codec.proofs.h2c_data.H2cData.write.Goals as goal

pub returns-clause-exact : goal.returns-clause-exact
returns-clause-exact c =
    rw (c.common_header-header.ensures, c.flags.ensures, c.data_offset-pdo.ensures.value, c.fields.ensures) at c.append.ensures

pub returns-clause-bytes : goal.returns-clause-bytes
returns-clause-bytes c =
    bytes_appended c.args.out.now c.append.new.out (h2c_data (sent_of c.args.self.now)) c.append.result (returns-clause-exact c)

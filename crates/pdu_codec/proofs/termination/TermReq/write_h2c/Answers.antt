use Rattle.nvt_fields.specs.FatalErrorStatus.{fatal_code_of}
use Rattle.pdu_codec.proofs.Appended.{bytes_appended}
use Rattle.pdu_codec.specs.TermReq.{h2c_term_req}
use Rattle.pdu_codec.proofs.termination.TermReq.write_h2c.Goals as goal

pub returns-clause-exact : goal.returns-clause-exact
returns-clause-exact c = rw (c.common_header-common.ensures, c.fields.ensures) at c.append.ensures

pub returns-clause-bytes : goal.returns-clause-bytes
returns-clause-bytes c =
    bytes_appended c.args.out.now c.append.new.out (h2c_term_req (fatal_code_of c.args.fes) c.args.fei c.args.head.now) c.append.result (returns-clause-exact c)

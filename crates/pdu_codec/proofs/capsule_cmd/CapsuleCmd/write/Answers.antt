use Rattle.std.proofs.Common.{◌≡◌, ◌==◌, true, false, length, sym, ◌∙◌}
use Rattle.pdu_codec.proofs.Appended.{bytes_appended}
use Rattle.pdu_codec.specs.CapsuleCmd.{capsule_cmd}
use Rattle.pdu_codec.proofs.capsule_cmd.CapsuleCmd.write.Goals as goal

pub returns-then-is_empty-clause-exact : goal.returns-then-is_empty-clause-exact
returns-then-is_empty-clause-exact c =
    let empty : (length c.args.self.now.payload.now == 0) ≡ true = sym c.is_empty.ensures ∙ c.if-is_empty.true in
    rw empty (rw (c.common_header-header.ensures, c.entry-entry.ensures) at c.append.ensures)

pub returns-then-is_empty-clause-bytes : goal.returns-then-is_empty-clause-bytes
returns-then-is_empty-clause-bytes c =
    bytes_appended c.args.out.now c.append.new.out (capsule_cmd c.args.self.now.sqe c.args.self.now.cpda c.args.self.now.payload.now) c.append.result (returns-then-is_empty-clause-exact c)

pub returns-clause-exact : goal.returns-clause-exact
returns-clause-exact c =
    let some : (length c.args.self.now.payload.now == 0) ≡ false = sym c.is_empty.ensures ∙ c.if-is_empty.false in
    rw some (rw (c.common_header-header-2.ensures, c.entry-entry.ensures, c.capsule_data_offset-pdo.ensures.value) at c.append-2.ensures)

pub returns-clause-bytes : goal.returns-clause-bytes
returns-clause-bytes c =
    bytes_appended c.args.out.now c.append-2.new.out (capsule_cmd c.args.self.now.sqe c.args.self.now.cpda c.args.self.now.payload.now) c.append-2.result (returns-clause-exact c)

use Rattle.std.proofs.Common.{◌≡◌, ℕ, length, replicate, refl, ◌∙◌, rules}
use Rattle.std.specs.Int.{w16, to_le_bytes}
use Rattle.nvt_fields.specs.Field.{padded}
use Rattle.pdu_codec.proofs.ConnectWritten.{written_fields, field_of_256}
use Rattle.pdu_codec.proofs.connect_data.ConnectDataFields.write.Goals as goal

pub returns : goal.returns
returns c =
    let zeros : c.fill.new.self ≡ replicate {A = ℕ} (length c.args.bytes.now) 0 = search rules in
    let whole : length c.args.bytes.now ≡ 1024 = search rules in
    let hostid : length c.args.self.now.hostid.now ≡ 16 = search rules in
    let sub_len : length c.write_zeroed.new.field ≡ 256 = search rules in
    let host_len : length c.write_zeroed-2.new.field ≡ 256 = search rules in
    let sub : c.write_zeroed.new.field ≡ padded 256 0 c.args.self.now.subnqn.now = field_of_256 _ c.write_zeroed.new.field c.args.self.now.subnqn.now c.write_zeroed.ensures sub_len in
    let host : c.write_zeroed-2.new.field ≡ padded 256 0 c.args.self.now.hostnqn.now = field_of_256 _ c.write_zeroed-2.new.field c.args.self.now.hostnqn.now c.write_zeroed-2.ensures host_len in
    written_fields (length c.args.bytes.now) c.fill.new.self c.copy_from_slice.new.self c.copy_from_slice-2.new.self c.write_zeroed.new.field c.write_zeroed-2.new.field c.args.self.now.hostid.now (to_le_bytes w16 c.args.self.now.cntlid) c.args.self.now.subnqn.now c.args.self.now.hostnqn.now zeros whole c.copy_from_slice.ensures.after (c.copy_from_slice-2.ensures.after ∙ c.to_le_bytes-cntlid.ensures) sub host hostid refl c.requires.subnqn

use Rattle.std.proofs.Common.{◌≡◌, ℕ, replicate, rules}
use Rattle.discovery_view.specs.Records.{parts_on}
use Rattle.discovery_view.proofs.Bytes.{record_pieces}
use Rattle.discovery_view.proofs.entry.Entry.write.Goals as goal

pub returns : goal.returns
returns c =
    let gap_len = c.split_at_mut-gap.ensures.front_len in
    let rest_len = c.split_at_mut-address.ensures.back_len in
    let zeros : c.fill.new.self ≡ replicate {A = ℕ} 192 0 = search rules in
    let end : c.fill-2.new.self ≡ replicate {A = ℕ} 256 0 = search rules in
    rw (
      c.copy_from_slice.ensures.after,
      c.record_head.ensures,
      c.write_spaced.ensures,
      c.as_bytes.ensures.value,
      c.format.ensures.text,
      c.split_at_mut-service.ensures.front_len,
      zeros,
      c.write_zeroed.ensures,
      c.split_at_mut-name.ensures.front_len,
      c.write_spaced-2.ensures,
      c.as_bytes-2.ensures,
      c.split_at_mut-address.ensures.front_len,
      end,
      ← c.self.view_is,
    )
    (record_pieces (parts_on c.self.inside.subtype c.self.inside.port.now c.self.inside.nqn.now))

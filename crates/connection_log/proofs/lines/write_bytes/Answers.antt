use Rattle.std.proofs.Common.{◌≡◌, ◌++◌, ◌∷◌, flat_map, sym, ap, ◌∙◌, append_assoc, rules}
use Rattle.std.proofs.Output.{has_written_append}
use Rattle.connection_log.specs.Lines.{shown_byte}
use Rattle.connection_log.proofs.lines.write_bytes.Goals as goal

pub bytes-preserved : goal.bytes-preserved
bytes-preserved g c =
    λ plain.
    let now = c.bytes.invariant plain in
    let b = c.in-Some.byte.now in
    let more : c.bytes.rest.now ≡ b ∷ c.in-Some.after.now = search rules in (
      now.0 ++ shown_byte b,
      has_written_append _ _ _ _ _ _ now.1 (search rules),
      append_assoc now.0 (shown_byte b) _ ∙ ap (λ l. now.0 ++ flat_map shown_byte l) (sym more) ∙ now.2,
    )

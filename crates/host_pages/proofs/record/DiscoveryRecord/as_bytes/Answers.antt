use Rattle.std.proofs.Common.{ap, sym, ◌∙◌, take}
use Rattle.std.proofs.Math.Seq.{take-length}
use Rattle.host_pages.proofs.record.DiscoveryRecord.as_bytes.Goals as goal

pub returns : goal.returns
returns c =
    let bytes = c.self.inside.bytes.now in
    c.part.ensures ∙ ap (λ n. take n bytes) (sym c.self.invariant) ∙ take-length bytes ∙ c.self.view_is

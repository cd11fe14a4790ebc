use Rattle.std.proofs.Common.{ap, ◌∙◌, take}
use Rattle.pdu_words.specs.Pages.{dwords}
use Rattle.pdu_words.proofs.Numbers.{dwords_take}
use Rattle.pdu_words.proofs.pages.before_zero.Goals as goal

pub returns : goal.returns
returns c =
    dwords_take c.count_before_zero-count.result c.args.bytes.now
    ∙ ap (λ n. take n (dwords c.args.bytes.now)) c.count_before_zero-count.ensures.count

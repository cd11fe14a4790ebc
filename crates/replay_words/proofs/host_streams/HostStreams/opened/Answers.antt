use Rattle.std.proofs.Common.{◌≡◌, ℕ, ◌<◌, ◌∙◌, ap, Option, Some, None}
use Rattle.std.proofs.lemmas.Bool.{lt-ltb}
use Rattle.std.proofs.lemmas.List.{set-set}
use Rattle.tables.specs.NumberTable.{with_value, without}
use Rattle.replay_words.specs.HostStream.{Heard, nothing_heard}
use Rattle.replay_words.specs.HostStreams.{Known, opened_at}
use Rattle.replay_words.proofs.host_streams.HostStreams.opened.Goals as goal

opened_anew : (old mid new : Known) (number : ℕ) (heard : Heard) → number < 64 → mid ≡ without old number
    → heard ≡ nothing_heard → new ≡ with_value mid number heard → new ≡ opened_at number old
opened_anew old mid new number heard less emptied anew put =
    let at : new ≡ with_value old number nothing_heard =
    put ∙ ap (λ x. with_value x number heard) emptied ∙ set-set {A = Option Heard} old number None (Some heard)
    ∙ ap (with_value old number) anew in
    rw (lt-ltb number 64 less) at

pub returns-clause-ok : goal.returns-clause-ok
returns-clause-ok c =
    opened_anew c.args.self.now c.self.inside.table c.put.new.self c.args.number c.in_ok-host_stream.host_stream
    c.if-number-ge-CONNECTIONS_MAX.false (c.self.view_is ∙ c.closed.ensures)
    c.in_ok-host_stream.ensures c.put.ensures

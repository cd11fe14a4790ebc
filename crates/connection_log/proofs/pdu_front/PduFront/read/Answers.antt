use Rattle.std.proofs.Common.{ℕ, ◌≡◌, ◌<◌, ◌==◌, false, List, [], ◌∷◌, ◌++◌, ◌+◌, ◌-◌, length, take, drop, min, ap, sym, subst, ◌∙◌, arith}
use Rattle.connection_log.specs.Reading.{HasRead, IsInOrder, Reading, ReadsOn, next_pdu, with_bytes}
use Rattle.connection_log.proofs.Readings.{from_place, has_read_on, pdu_len_least, next_behind, next_within, reads_at_once, reads_both, reads_header}
use Rattle.connection_log.proofs.pdu_front.PduFront.read.Goals as goal
use Rattle.connection_log.proofs.pdu_front.PduFront.read.Goals.{Then-self-lt-HEADER_LEN, After-read_first, After-read_to, then-is_whole, else-is_whole}

pub read_to-header-requires-clause-end : goal.read_to-header-requires-clause-end
read_to-header-requires-clause-end c = pdu_len_least _

stream_read : (old new : Reading) (bytes : List ℕ) (count : ℕ) → IsInOrder old → ReadsOn old bytes count new
    → (before : List ℕ) → HasRead old before → HasRead new (before ++ take count bytes)
stream_read old new bytes count order reads before read =
    subst (λ (r : Reading). HasRead r (before ++ take count bytes)) (sym reads.after) (has_read_on old (take count bytes) before order.most read)

some_there : (bytes : List ℕ) → (length bytes == 0) ≡ false → 0 < length bytes
some_there [] off = cc
some_there (b ∷ bytes) off = omega arith

header_alone : (c : Then-self-lt-HEADER_LEN) → ReadsOn c.args.self.now c.args.bytes.now c.read_to-header.result c.read_to-header.new.self
header_alone c =
    let next : c.if-is_whole.self ≡ next_pdu c.args.self.now =
    elim c.if-is_whole.branch [
      | then-is_whole w ↦ w.self-is ∙ w.clear.ensures.first ∙ next_behind c.args.self.now (sym c.is_whole.ensures.whole ∙ w.if-is_whole.true)
      | else-is_whole w ↦ w.self-is ∙ next_within c.args.self.now (sym c.is_whole.ensures.whole ∙ w.if-is_whole.false)
    ]
    in
    reads_header c.args.self.now c.if-is_whole.self c.read_to-header.new.self c.args.bytes.now c.read_to-header.result
    c.is_whole.ensures.in_order (some_there c.args.bytes.now (sym c.is_empty.ensures ∙ c.if-is_empty.false)) next c.read_to-header.ensures.number c.read_to-header.ensures.after
    (omega (arith, c.if-self-lt-HEADER_LEN.true, ap (λ (r : Reading). r.came) c.self-3.view_is))

header_and_more : (c : After-read_to) → ReadsOn c.args.self.now c.args.bytes.now (c.read_to-header.result + c.read_to.result) c.read_to.new.self
header_and_more c =
    let next : c.if-is_whole.self ≡ next_pdu c.args.self.now =
    elim c.if-is_whole.branch [
      | then-is_whole w ↦ w.self-is ∙ w.clear.ensures.first ∙ next_behind c.args.self.now (sym c.is_whole.ensures.whole ∙ w.if-is_whole.true)
      | else-is_whole w ↦ w.self-is ∙ next_within c.args.self.now (sym c.is_whole.ensures.whole ∙ w.if-is_whole.false)
    ]
    in
    let rest : List ℕ = drop c.read_to-header.result c.args.bytes.now in
    let at_rest : take (length c.args.bytes.now - c.read_to-header.result) rest ≡ rest =
    from_place c.args.bytes.now c.read_to-header.result
    in
    reads_both c.args.self.now c.if-is_whole.self c.read_to-header.new.self c.args.bytes.now c.read_to-header.result
    c.is_whole.ensures.in_order (some_there c.args.bytes.now (sym c.is_empty.ensures ∙ c.if-is_empty.false)) next c.read_to-header.ensures.number c.read_to-header.ensures.after
    c.read_to.result c.read_to.new.self
    (omega (arith, c.if-self-lt-HEADER_LEN.false, ap (λ (r : Reading). r.came) c.self-3.view_is))
    (subst (λ (n : ℕ). c.read_to.result ≡ min (n - c.read_to-header.new.self.came) (length rest)) c.pdu_len-len.ensures
    (subst (λ (l : List ℕ). c.read_to.result ≡ min (c.pdu_len-len.result - c.read_to-header.new.self.came) (length l)) at_rest c.read_to.ensures.number))
    (subst (λ (l : List ℕ). c.read_to.new.self ≡ with_bytes (take c.read_to.result l) c.read_to-header.new.self) at_rest c.read_to.ensures.after)

at_once : (c : After-read_first) → ReadsOn c.args.self.now c.args.bytes.now c.read_first.result c.read_first.new.self
at_once c =
    let next : c.if-is_whole.self ≡ next_pdu c.args.self.now =
    elim c.if-is_whole.branch [
      | then-is_whole w ↦ w.self-is ∙ w.clear.ensures.first ∙ next_behind c.args.self.now (sym c.is_whole.ensures.whole ∙ w.if-is_whole.true)
      | else-is_whole w ↦ w.self-is ∙ next_within c.args.self.now (sym c.is_whole.ensures.whole ∙ w.if-is_whole.false)
    ]
    in
    reads_at_once c.args.self.now c.if-is_whole.self c.read_first.new.self c.args.bytes.now c.read_first.result c.is_whole.ensures.in_order
    c.if-bytes.true next (sym (ap (λ (r : Reading). r.came) c.self-2.view_is) ∙ c.if-self-eq0.true) c.read_first.ensures.number c.read_first.ensures.after

pub returns-then-self-lt-HEADER_LEN-clause-reads : goal.returns-then-self-lt-HEADER_LEN-clause-reads
returns-then-self-lt-HEADER_LEN-clause-reads c = header_alone c

pub returns-then-self-lt-HEADER_LEN-clause-stream : goal.returns-then-self-lt-HEADER_LEN-clause-stream
returns-then-self-lt-HEADER_LEN-clause-stream c =
    stream_read c.args.self.now c.read_to-header.new.self c.args.bytes.now c.read_to-header.result c.is_whole.ensures.in_order (header_alone c)

pub returns-clause-reads : goal.returns-clause-reads
returns-clause-reads c = header_and_more c

pub returns-clause-stream : goal.returns-clause-stream
returns-clause-stream c =
    stream_read c.args.self.now c.read_to.new.self c.args.bytes.now (c.read_to-header.result + c.read_to.result) c.is_whole.ensures.in_order (header_and_more c)

pub returns-then-bytes-clause-reads : goal.returns-then-bytes-clause-reads
returns-then-bytes-clause-reads c = at_once c

pub returns-then-bytes-clause-stream : goal.returns-then-bytes-clause-stream
returns-then-bytes-clause-stream c =
    stream_read c.args.self.now c.read_first.new.self c.args.bytes.now c.read_first.result c.is_whole.ensures.in_order (at_once c)

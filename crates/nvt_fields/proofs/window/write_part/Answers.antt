use Rattle.std.proofs.Common.{length, ◌-◌, arith}
use Rattle.std.proofs.lemmas.List.{take_rest}
use Rattle.nvt_fields.proofs.Windows.{put_at_end, window_behind, window_from_start, window_in_front, window_over_rest}
use Rattle.nvt_fields.proofs.window.write_part.Goals as goal

pub returns-then-passed-bytes : goal.returns-then-passed-bytes
returns-then-passed-bytes c = λ page len shown.
    rw (c.write_front.ensures, take_rest)
    (window_over_rest c.args.out.now page c.args.bytes.now c.args.offset (c.args.offset - c.args.at) (omega arith) c.if-passed-bytes.true shown)

pub returns-else-passed-bytes : goal.returns-else-passed-bytes
returns-else-passed-bytes c = λ page len shown.
    window_behind c.args.out.now page c.args.bytes.now c.args.offset (length c.args.out.now) (omega arith) shown

pub returns-then-start-out : goal.returns-then-start-out
returns-then-start-out c = λ page len shown.
    rw (put_at_end, c.write_front-then-start-out.ensures, take_rest)
    (window_from_start c.args.out.now page c.args.bytes.now c.args.offset (c.args.at - c.args.offset) (omega arith) c.if-start-out.true shown)

pub returns-else-start-out : goal.returns-else-start-out
returns-else-start-out c = λ page len shown.
    window_in_front c.args.out.now page c.args.bytes.now c.args.offset (length c.args.out.now) (omega arith) shown

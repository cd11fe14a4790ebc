use Rattle.std.proofs.Common.{◌≡◌, ℕ, ◌-◌, ◌<◌, ◌++◌, min, List, [], length, drop, take, true, false, ap, ◌∙◌, arith, length-drop}
use Rattle.std.proofs.lemmas.Grind.{common_steps}
use Rattle.pdu_cut.specs.Side.{capacity_of}
use Rattle.replay_words.specs.Hearing.{TakesPdus}
use Rattle.replay_words.proofs.Bounds.{incomplete_bound}
use Rattle.replay_words.proofs.Hearings.{so_far_piece, takes_incomplete, hears_all, hears_to_fault}
use Rattle.replay_words.proofs.hearing.hear.Goals as goal

smaller : (rest : List ℕ) (n held : ℕ) → n ≡ min (32768 - held) (length rest) → held < 32768 → 0 < length rest
    → length (drop n rest) < length rest
smaller rest n held e bound some = let dropped = length-drop n rest in omega (arith, dropped)

pub loop-rest-smaller : goal.loop-rest-smaller
loop-rest-smaller c =
    let rest = c.loop-rest.rest.now in
    let held = c.loop-rest.buffer.held in
    let some : 0 < length rest = grind (arith, common_steps, c.is_empty.ensures, c.loop-rest-test.true) in
    let taken : c.receive-taken.result ≡ min (32768 - length held) (length rest) =
    c.receive-taken.ensures.taken ∙ ap (λ s. min (capacity_of s - length held) (length rest)) c.loop-rest.invariant.side in
    rw c.split_at.ensures.back (smaller rest c.receive-taken.result (length held) taken (incomplete_bound held c.loop-rest.invariant.incomplete) some)

pub loop-rest-preserved : goal.loop-rest-preserved
loop-rest-preserved c =
    let rest = c.loop-rest.rest.now in
    let held = c.loop-rest.buffer.held in
    let n = c.receive-taken.result in
    let now = c.take_pdus.new in
    let calm : TakesPdus c.args.number (held ++ take n rest) now.buffer.held c.loop-rest.commands now.commands c.loop-rest.text.items now.text.items false =
    rw (c.receive-taken.ensures.appended, c.if-branch.false) at c.in_ok-take_pdus.ensures.taken in
    record {
      side = c.in_ok-take_pdus.ensures.side;
      incomplete = takes_incomplete c.args.number (held ++ take n rest) now.buffer.held c.loop-rest.commands now.commands c.loop-rest.text.items now.text.items calm;
      so_far = rw c.split_at.ensures.back (so_far_piece c.args.number (c.args.buffer.now.held ++ c.args.bytes.now) held rest now.buffer.held n c.args.commands.now c.loop-rest.commands now.commands [] c.loop-rest.text.items now.text.items false c.loop-rest.invariant.so_far calm);
    }

pub returns-then-branch-clause-heard : goal.returns-then-branch-clause-heard
returns-then-branch-clause-heard c =
    let rest = c.loop-rest.rest.now in
    let held = c.loop-rest.buffer.held in
    let n = c.receive-taken.result in
    let now = c.take_pdus.new in
    let faulty : TakesPdus c.args.number (held ++ take n rest) now.buffer.held c.loop-rest.commands now.commands c.loop-rest.text.items now.text.items true =
    rw (c.receive-taken.ensures.appended, c.if-branch.true) at c.in_ok-take_pdus.ensures.taken in
    let heard = so_far_piece c.args.number (c.args.buffer.now.held ++ c.args.bytes.now) held rest now.buffer.held n c.args.commands.now c.loop-rest.commands now.commands [] c.loop-rest.text.items now.text.items true c.loop-rest.invariant.so_far faulty in
    hears_to_fault c.args.number c.args.buffer.now.held c.args.bytes.now now.buffer.held (drop n rest) (held ++ take n rest) c.args.commands.now c.loop-rest.commands now.commands c.loop-rest.text.items now.text.items heard faulty

pub returns-clause-heard : goal.returns-clause-heard
returns-clause-heard c =
    let none : c.loop-rest.rest.now ≡ [] = grind (arith, common_steps, c.is_empty.ensures, c.loop-rest-test.false) in
    hears_all c.args.number c.args.buffer.now.held c.args.bytes.now c.loop-rest.buffer.held c.args.commands.now c.loop-rest.commands c.loop-rest.text.items
    (rw none at c.loop-rest.invariant.so_far) c.loop-rest.invariant.incomplete

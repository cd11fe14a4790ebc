use Rattle.std.specs.Io.KnownBytes.{Appends}
use Rattle.std.proofs.Common.{subst, ◌≡◌, ℕ, ◌≤◌, ◌==◌, not, List, length, take, ap, ◌∙◌, inl, arith}
use Rattle.std.specs.List.{AllPass, position_or_len}
use Rattle.std.proofs.lemmas.List.{get_or-take, length-take-le, take-take}
use Rattle.std.proofs.lemmas.List.Sums.{prefix_len_passes}
use Rattle.replay_words.specs.Explained.{kept}
use Rattle.replay_words.proofs.explained.Explained.pass.Goals as goal

-- no line ends before the first end
no_end_in : (buf : List ℕ) (n : ℕ) → n ≤ position_or_len (λ b. b == 10) buf → n ≤ length buf
    → AllPass (λ b. not (b == 10)) (take n buf)
no_end_in buf n before fits = λ k d lt.
    let len = length-take-le n buf fits in
    ap (λ b. not (b == 10)) (get_or-take n buf k d (omega arith)) ∙ prefix_len_passes (λ b. not (b == 10)) buf k d (omega arith)

pub returns-then-len-gt0-clause-passed : goal.returns-then-len-gt0-clause-passed
returns-then-len-gt0-clause-passed g c =
    let buf = c.args.buf.now in
    let len = c.find_byte-len.result in
    let n = c.in_ok-taken.taken in
    let within : n ≤ length c.split_at.result.0.now = c.in_ok-taken.ensures.bound in
    let fits : n ≤ len = omega (arith, within, c.split_at.ensures.front_len) in
    let passed : c.split_at-then-len-gt0.result.0.now ≡ take n buf =
    c.split_at-then-len-gt0.ensures.front ∙ ap (take n) c.split_at.ensures.front ∙ take-take n len buf fits in
    inl (record {
      no_end = no_end_in buf n (omega (arith, fits, c.find_byte-len.ensures.place)) (omega (arith, fits, c.find_byte-len.ensures.within));
      kept = c.in_ok-keep.ensures.line ∙ ap (kept c.args.self.now.line.items) passed;
      same = c.in_ok-keep.ensures.notes;
      passed_on = rw c.keep.ensures.out (subst (λ (bytes : List ℕ). Appends (g.W.Write.contents c.args.self.now.out.now) (g.W.Write.contents c.write.new.self) bytes) (ap (take n) c.split_at.ensures.front ∙ take-take n len buf fits) c.in_ok-taken.ensures.bytes);
    })

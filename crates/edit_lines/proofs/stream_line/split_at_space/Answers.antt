use Rattle.std.proofs.Common.{◌≡◌, ◌+◌, ◌-◌, ◌∷◌, ◌++◌, length, take, drop, length-drop, sym, ap, ◌∙◌, arith}
use Rattle.std.proofs.lemmas.List.{length-take-le, take_all}
use Rattle.edit_lines.proofs.Splits.{no_space_in, split_there}
use Rattle.edit_lines.proofs.stream_line.split_at_space.Goals as goal

pub returns-then-len-text : goal.returns-then-len-text
returns-then-len-text c =
    let n = c.find_byte-len.result in
    let rest = drop (n + 1) c.args.text.now in
    let all : take (length c.args.text.now - (n + 1)) rest ≡ rest = take_all _ rest (omega (arith, length-drop (n + 1) c.args.text.now)) in (
      split_there c.args.text.now n c.find_byte-len.ensures.place c.if-len-text.true
          ∙ ap (λ tail. take n c.args.text.now ++ 32 ∷ tail) (sym all),
      length-take-le n c.args.text.now c.find_byte-len.ensures.within ∙ c.find_byte-len.ensures.place,
    )

pub returns-else-len-text : goal.returns-else-len-text
returns-else-len-text c = λ word rest e. no_space_in c.args.text.now word rest (omega (arith, c.find_byte-len.ensures.place)) e

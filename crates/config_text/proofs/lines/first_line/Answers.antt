use Rattle.std.proofs.Common.{◌≡◌, ◌+◌, ◌-◌, [], ◌∷◌, length, take, drop, length-drop, sym, ap, ◌∙◌, arith}
use Rattle.std.proofs.lemmas.List.{take_all, drop_all}
use Rattle.config_text.specs.Lines.{lines_of}
use Rattle.config_text.proofs.LineLemmas.{lines_at}
use Rattle.config_text.proofs.lines.first_line.Goals as goal

pub returns-then-len-bytes : goal.returns-then-len-bytes
returns-then-len-bytes c =
    let n = c.find_byte-len.result in
    let rest = drop (n + 1) c.args.bytes.now in
    let all : take (length c.args.bytes.now - (n + 1)) rest ≡ rest = take_all _ rest (omega (arith, length-drop (n + 1) c.args.bytes.now)) in
    lines_at c.args.bytes.now n c.requires c.find_byte-len.ensures.place
    ∙ ap (λ tail. take n c.args.bytes.now ∷ lines_of tail) (sym all)

pub returns-else-len-bytes : goal.returns-else-len-bytes
returns-else-len-bytes c =
    let n = c.find_byte-len.result in
    let none : drop (n + 1) c.args.bytes.now ≡ [] = drop_all (n + 1) c.args.bytes.now (omega arith) in
    lines_at c.args.bytes.now n c.requires c.find_byte-len.ensures.place
    ∙ ap (λ line. line ∷ lines_of (drop (n + 1) c.args.bytes.now)) (take_all n c.args.bytes.now (omega arith))
    ∙ ap (λ tail. c.args.bytes.now ∷ lines_of tail) none

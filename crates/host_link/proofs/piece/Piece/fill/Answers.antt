use Rattle.std.proofs.Common.{ℕ, List, take, length, ◌≡◌, sym, ap, ◌∙◌, arith}
use Rattle.std.specs.Prelude.{slice_range}
use Rattle.std.proofs.lemmas.List.{with_items_is}
use Rattle.host_link.specs.Conversation.{came}
use Rattle.host_link.proofs.Ranges.{first_of, none_left}
use Rattle.host_link.proofs.piece.Piece.fill.Goals as goal

pub returns : goal.returns
returns g c =
    let n = c.in_ok-self-inside.field-0 in
    let p = c.self.inside in
    let new = c.receive.new.buffer in
    let len : length new ≡ p.buffer.len = omega (arith, c.receive.auto.buffer, c.deref_mut.ensures.len) in
    record {
      receiving = came (take n new);
      fills = (
        sym c.self.view_is ∙ none_left p.buffer.items p.start p.end c.if-self.false,
        c.in_ok-self-inside.ensures.told,
        ap (λ (l : List ℕ). slice_range l 0 n) (with_items_is p.buffer new len) ∙ first_of new n,
      );
      answers = tt;
    }

use Rattle.std.proofs.Common.{◌≡◌, ◌-◌, ◌+◌, ◌++◌, List, ℕ, Bool, [], length, take, drop, min, sym, ap, subst, ◌∙◌, arith}
use Rattle.pdu_cut.specs.declared.side.Side.TheVariants.{Target}
use Rattle.pdu_cut.specs.Front.{front, incomplete}
use Rattle.pdu_cut.specs.Received.{Received}
use Rattle.pdu_cut.specs.Side.{capacity_of}
use Rattle.replay_words.specs.Hearing.{Hears}
use Rattle.replay_words.specs.HostStream.{Heard}
use Rattle.replay_words.specs.Outstanding.{Outstanding}
use Rattle.replay_words.proofs.Hearings.{hears_incomplete, hears_last, receives_all}
use Rattle.replay_words.proofs.host_stream.HostStream.after.Goals as goal

-- what an empty buffer holds once it was given these bytes
received : (empty after : Received) (n : ℕ) (held piece : List ℕ) → front Target held ≡ incomplete
    → empty ≡ record { side = Target; held = [] } → piece ≡ held
    → n ≡ min (capacity_of empty.side - length empty.held) (length piece)
    → after ≡ record empty { held = empty.held ++ take n piece } → after.held ≡ held
received empty after n held piece h is same taken appended =
    receives_all held after.held n h
    (taken ∙ ap (λ (b : Received). min (capacity_of b.side - length b.held) (length piece)) is ∙ ap (λ (l : List ℕ). min 32768 (length l)) same)
    (ap (λ (b : Received). b.held) appended ∙ ap (λ (b : Received). b.held ++ take n piece) is ∙ ap (take n) same)

-- the room that is taken up
taken_up : (empty after : Received) (room left : ℕ) → empty ≡ record { side = Target; held = [] } → after.side ≡ Target
    → room + length empty.held ≡ capacity_of empty.side → left + length after.held ≡ capacity_of after.side
    → left + length after.held ≡ room
taken_up empty after room left is side all some =
    let most : room + 0 ≡ 32768 = sym (ap (λ (b : Received). room + length b.held) is) ∙ all ∙ ap (λ (b : Received). capacity_of b.side) is in
    let less : left + length after.held ≡ 32768 = some ∙ ap capacity_of side in
    omega (arith, most, less)

pub hear-requires-clause-incomplete : goal.hear-requires-clause-incomplete
hear-requires-clause-incomplete c =
    let calm = c.self.invariant (ap (λ s. s.deaf) c.self.view_is ∙ c.requires.hears) in
    ap (front Target) (received c.in_ok-buffer.buffer c.receive.new.self c.receive.result c.self.inside.held.items c.deref.result.now
    calm c.in_ok-buffer.ensures c.deref.ensures.value c.receive.ensures.taken c.receive.ensures.appended) ∙ calm

pub overflow_sub-room : goal.overflow_sub-room
overflow_sub-room c =
    let up = taken_up c.in_ok-buffer.buffer c.hear.new.buffer c.room-room.result c.room.result c.in_ok-buffer.ensures c.in_ok-deaf.ensures.side c.room-room.ensures c.room.ensures in
    omega (arith, up)

-- what was heard of the buffer was heard of what is held
heard_of : (number : ℕ) (held buffer new_held last front : List ℕ) (old copy new : Outstanding) (bytes text : List ℕ) (fault : Bool) (room left : ℕ)
    → Hears number buffer new_held copy new bytes text fault → buffer ≡ held → copy ≡ old → front ≡ held
    → left + length new_held ≡ room → last ≡ drop (length (front ++ bytes) - (room - left)) (front ++ bytes)
    → Hears number held last old new bytes text fault
heard_of number held buffer new_held last front old copy new bytes text fault room left h all same is up ends =
    let len : room - left ≡ length new_held = omega (arith, up) in
    hears_last number held new_held last old new bytes text fault
    (subst (λ (o : Outstanding). Hears number held new_held o new bytes text fault) same
    (subst (λ (l : List ℕ). Hears number l new_held copy new bytes text fault) all h))
    (ends ∙ ap (λ (l : List ℕ). drop (length (l ++ bytes) - (room - left)) (l ++ bytes)) is
    ∙ ap (λ n. drop (length (held ++ bytes) - n) (held ++ bytes)) len)

pub invariant_of-result : goal.invariant_of-result
invariant_of-result c =
    let calm = c.self.invariant (ap (λ s. s.deaf) c.self.view_is ∙ c.requires.hears) in
    let all = received c.in_ok-buffer.buffer c.receive.new.self c.receive.result c.self.inside.held.items c.deref.result.now
    calm c.in_ok-buffer.ensures c.deref.ensures.value c.receive.ensures.taken c.receive.ensures.appended in
    let up = taken_up c.in_ok-buffer.buffer c.hear.new.buffer c.room-room.result c.room.result c.in_ok-buffer.ensures c.in_ok-deaf.ensures.side c.room-room.ensures c.room.ensures in
    hears_incomplete _ _ _ _ _ _ _ _
    (heard_of c.args.number c.self.inside.held.items c.receive.new.self.held c.hear.new.buffer.held c.in_ok-held.held.items c.deref-2.result.now _ c.in_ok-commands.commands c.hear.new.commands c.args.bytes.now c.hear.new.text.items c.in_ok-deaf.deaf c.room-room.result c.room.result
    c.in_ok-deaf.ensures.heard all c.in_ok-commands.ensures c.deref-2.ensures.value up c.in_ok-held.ensures)

pub returns : goal.returns
returns c =
    let calm = c.self.invariant (ap (λ s. s.deaf) c.self.view_is ∙ c.requires.hears) in
    let all = received c.in_ok-buffer.buffer c.receive.new.self c.receive.result c.self.inside.held.items c.deref.result.now
    calm c.in_ok-buffer.ensures c.deref.ensures.value c.receive.ensures.taken c.receive.ensures.appended in
    let up = taken_up c.in_ok-buffer.buffer c.hear.new.buffer c.room-room.result c.room.result c.in_ok-buffer.ensures c.in_ok-deaf.ensures.side c.room-room.ensures c.room.ensures in
    let heard = heard_of c.args.number c.self.inside.held.items c.receive.new.self.held c.hear.new.buffer.held c.in_ok-held.held.items c.deref-2.result.now _ c.in_ok-commands.commands c.hear.new.commands c.args.bytes.now c.hear.new.text.items c.in_ok-deaf.deaf c.room-room.result c.room.result
    c.in_ok-deaf.ensures.heard all c.in_ok-commands.ensures c.deref-2.ensures.value up c.in_ok-held.ensures in
    subst (λ (s : Heard). Hears c.args.number s.held c.in_ok-held.held.items s.commands c.hear.new.commands c.args.bytes.now c.hear.new.text.items c.in_ok-deaf.deaf) c.self.view_is heard

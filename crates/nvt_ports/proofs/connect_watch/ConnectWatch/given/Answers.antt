use Rattle.std.proofs.Common.{ℕ, ◌+◌, ◌<◌, ◌≡◌, List, [], ◌∷◌, ◌++◌, length, get_or, take, drop, append_assoc, ap, sym, ◌∙◌, subst, arith}
use Rattle.std.proofs.lemmas.List.{take_more, take-append-drop}
use Rattle.nvt_ports.specs.Watching.{HasSeen, watched, with_byte}
use Rattle.nvt_ports.proofs.Connects.{stays_connected, stepped}
use Rattle.nvt_ports.proofs.connect_watch.ConnectWatch.given.Goals as goal

byte_behind : (before bytes : List ℕ) (i : ℕ) → i < length bytes
    → (before ++ take i bytes) ++ get_or bytes i 0 ∷ [] ≡ before ++ take (i + 1) bytes
byte_behind before bytes i lt =
    append_assoc before (take i bytes) (get_or bytes i 0 ∷ []) ∙ ap (λ (l : List ℕ). before ++ l) (sym (take_more bytes i 0 lt))

rest_behind : (before bytes : List ℕ) (i : ℕ) → (before ++ take i bytes) ++ drop i bytes ≡ before ++ bytes
rest_behind before bytes i =
    append_assoc before (take i bytes) (drop i bytes) ∙ ap (λ (l : List ℕ). before ++ l) (take-append-drop i bytes)

pub loop-b-preserved : goal.loop-b-preserved
loop-b-preserved c = record {
  seen = λ before seen.
      let bytes = c.args.bytes.now in
      let i = c.loop-b.b-index in
      let b = get_or bytes i 0 in
      rw c.take.ensures
      (subst (HasSeen (watched (with_byte b c.loop-b.self))) (byte_behind before bytes i c.loop-b-test.true)
      (stepped b (omega (arith, c.type_inv.bytes i)) c.if-self.false (c.loop-b.invariant.seen before seen)));
  stays = λ was. absurd (cc (c.if-self.false, was, c.loop-b.invariant.stays was));
}

pub returns-then-self-clause-seen : goal.returns-then-self-clause-seen
returns-then-self-clause-seen c = λ before seen.
    let bytes = c.args.bytes.now in
    let i = c.loop-b.b-index in
    subst (HasSeen c.loop-b.self) (rest_behind before bytes i)
    (stays_connected (before ++ take i bytes) (drop i bytes) c.if-self.true (c.loop-b.invariant.seen before seen))

-- The lines of a file, taken in turn.
use Rattle.std.proofs.Common.{◌≡◌, ℕ, ◌+◌, ◌-◌, ◌*◌, ◌<◌, MatchResult, IsOk, List, [], ◌∷◌, length, get_or, take, drop, refl, sym, ap, subst, ◌∙◌, arith, Bool, inl, inr, Result, Ok, Err}
use Rattle.std.specs.List.{All, AllPass}
use Rattle.hex.specs.Hex.{decode_sized, is_hex_digit}
use Rattle.hex.specs.declared.error.FromHexError.{FromHexError}
use Rattle.hex.proofs.HexLemmas.{IsOk-decode_sized}
use Rattle.std.proofs.lemmas.List.Elements.{All-push}
use Rattle.config_text.specs.Lines.{lines_of}
use Rattle.edit_lines.specs.Configured.{AcceptsAll, RefusesEdits}
use Rattle.edit_lines.proofs.Taking.{next_line}
use Rattle.nvt_replay.specs.Replay.{EndsScript, Explains, IsFirstMalformed}
use Rattle.edit_lines.specs.StreamLine.{IsStreamLine, Says}
use Rattle.edit_lines.specs.declared.stream_line.StreamLine.{StreamLine}
use Rattle.edit_lines.specs.declared.stream_line.StreamLine.TheVariants as stream
use Rattle.edit_lines.specs.declared.fault.ReplayFault.{ReplayFault}
use Rattle.edit_lines.specs.declared.fault.ReplayFault.TheVariants as fault

-- a fault of the script explains itself to the whole replay, once all edits are accepted
pub ended : (f : ReplayFault) (has_failed : Bool) (edits stream units : List ℕ) → AcceptsAll edits units → EndsScript has_failed f (lines_of stream)
    → Explains f edits stream units
ended (fault.EditLine m reply) has_failed edits stream units accepted ends = absurd ends
ended (fault.StreamLine m) has_failed edits stream units accepted ends = (accepted, ends)
ended fault.Memory has_failed edits stream units accepted ends = tt
ended fault.Io has_failed edits stream units accepted ends = accepted
ended fault.Disks has_failed edits stream units accepted ends = absurd ends

-- a fault of the edits explains them to the whole replay
pub explained : (f : ReplayFault) (edits stream units : List ℕ) → RefusesEdits f edits units → Explains f edits stream units
explained (fault.EditLine m reply) edits stream units h = h
explained (fault.StreamLine m) edits stream units h = absurd h
explained fault.Memory edits stream units h = tt
explained fault.Io edits stream units h = absurd h
explained fault.Disks edits stream units h = h

-- what a line says makes it one of the five forms
pub is_stream_line : (line : List ℕ) (says : StreamLine) → Says line says → IsStreamLine line
is_stream_line line (stream.Open port) h = inl (port, h)
is_stream_line line (stream.Receive k hex) h = inr (inl (k, hex.now, h))
is_stream_line line (stream.End k) h = inr (inr (inl (k, h)))
is_stream_line line (stream.Tick ms) h = inr (inr (inr (inl (ms, h))))
is_stream_line line (stream.Edit text) h = inr (inr (inr (inr (text.now, h))))

pub well_formed_more : (all : List (List ℕ)) (n : ℕ) (line : List ℕ) (rest : List (List ℕ)) → drop n all ≡ line ∷ rest → All IsStreamLine (take n all) → IsStreamLine line → All IsStreamLine (take (n + 1) all)
well_formed_more all n line rest e before is =
    subst (All IsStreamLine) (sym (next_line all n line rest e).more) (All-push IsStreamLine (take n all) line before is)

pub malformed_at : (all : List (List ℕ)) (n : ℕ) (line : List ℕ) (rest : List (List ℕ)) → drop n all ≡ line ∷ rest → All IsStreamLine (take n all) → ¬ IsStreamLine line → IsFirstMalformed all (n + 1)
malformed_at all n line rest e before not =
    let next = next_line all n line rest e in
    let below : n < length all = next.below in
    let front : n + 1 - 1 ≡ n = omega arith in
    record {
      counted = (omega arith, omega arith);
      before = subst (λ k. All IsStreamLine (take k all)) (sym front) before;
      malformed = λ is. not (subst IsStreamLine (ap (λ k. get_or all k []) front ∙ next.is) is);
    }

-- pairs of hex digits are decoded into room for as many bytes
pub is_decoded : (text : List ℕ) (n : ℕ) (out : List ℕ) (result : Result (Unit {0}) FromHexError)
    → MatchResult (decode_sized text n) (λ bytes. (result ≡ Ok tt) × (out ≡ bytes)) (λ e. result ≡ Err e)
    → (length text ≡ 2 * n) × AllPass is_hex_digit text → IsOk result
is_decoded text n out result value fits = by (decode_sized text n) refl value where
  by : (r : Result (List ℕ) FromHexError) → decode_sized text n ≡ r
      → MatchResult r (λ bytes. (result ≡ Ok tt) × (out ≡ bytes)) (λ e. result ≡ Err e) → IsOk result
  by (Ok bytes) is value = rw value.0 refl
  by (Err e) is value = let failed : Result (List ℕ) FromHexError = Err e in let fails : IsOk failed = rw is at ((IsOk-decode_sized text n).1 fits) in cc

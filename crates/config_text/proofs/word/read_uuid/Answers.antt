use Rattle.std.proofs.Common.{sym, ◌∙◌, ap}
use Rattle.std.proofs.lemmas.Bool.{false≢true}
use Rattle.std.proofs.lemmas.Bool.Decides.{Decides-eqb}
use Rattle.std.proofs.lemmas.Slice.Eq.{slice_eq-Decides}
use Rattle.config_text.specs.Word.{uuid_word}
use Rattle.config_text.proofs.UuidLemmas.{unparsed}
use Rattle.config_text.proofs.word.read_uuid.Goals as goal

pub returns-in_default-clause-variant : goal.returns-in_default-clause-variant
returns-in_default-clause-variant c = sym (unparsed c.args.word.now (λ some. false≢true (c.in_default.ensures.ok.1 some)))

pub returns-then-eq-clause-some : goal.returns-then-eq-clause-some
returns-then-eq-clause-some c =
    sym ((slice_eq-Decides Decides-eqb _ _ _ c.eq.ensures).0 c.if-eq.true) ∙ c.as_bytes-2.ensures.value ∙ c.encode_lower-text.ensures.text ∙ ap uuid_word c.hyphenated.ensures

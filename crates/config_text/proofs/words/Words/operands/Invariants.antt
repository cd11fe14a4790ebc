use Rattle.std.proofs.Common.{◌≡◌, ◌+◌, ◌++◌, drop, map}
use Rattle.std.specs.List.{AllByRecursion}
use Rattle.arrayvec.specs.ArrayVec.{array_vec_len}
use Rattle.config_text.specs.Operand.{IsSaid, form_of, values, word_of}
use Rattle.config_text.specs.Words.{forms_fault}
use Rattle.config_text.specs.WordsLeft.{words_left}
use Rattle.config_text.proofs.words.Words.operands.Given as goal

abbrev pub invariant-loop-form : goal.invariant-loop-form
invariant-loop-form l = record {
  fault : forms_fault l.self.end l.self.column (drop l.form-index l.forms) (words_left l.self) ≡ forms_fault l.fn.self.end l.fn.self.column l.forms (words_left l.fn.self);
  words : map word_of (values l.operands.items) ++ words_left l.self ≡ map word_of (values l.fn.operands.items) ++ words_left l.fn.self;
  forms : map form_of (values l.operands.items) ++ drop l.form-index l.forms ≡ map form_of (values l.fn.operands.items) ++ l.forms;
  said : AllByRecursion IsSaid (values l.fn.operands.items) → AllByRecursion IsSaid (values l.operands.items);
  len : array_vec_len l.operands ≡ array_vec_len l.fn.operands + l.form-index;
}

use Rattle.config_text.proofs.WordLemmas.{words_split_at, words_whole}
use Rattle.config_text.proofs.words.first_word.Goals as goal

pub returns-then-len-text-clause-words : goal.returns-then-len-text-clause-words
returns-then-len-text-clause-words c = words_split_at c.args.text.now c.find_byte-len.result c.find_byte-len.ensures.place c.if-len-text.true

pub returns-else-len-text-clause-words : goal.returns-else-len-text-clause-words
returns-else-len-text-clause-words c = words_whole c.args.text.now c.find_byte-len.result c.find_byte-len.ensures.place c.if-len-text.false

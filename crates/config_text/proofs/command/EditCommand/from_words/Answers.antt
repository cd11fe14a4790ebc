use Rattle.std.proofs.Common.{◌∙◌}
use Rattle.config_text.proofs.command.EditCommand.from_words.Goals as goal

pub returns : goal.returns
returns c = c.copied.ensures ∙ c.find_command.ensures

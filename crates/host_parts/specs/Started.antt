-- What the processes of the lab are started with.
use Rattle.std.specs.Prelude.{◌≡◌, ℕ, List, [], ◌∷◌, ◌++◌, codes}
use Rattle.std.specs.Fmt.{decimal}
use Rattle.std.specs.Process.{command_args, command_program}
use Rattle.std.specs.declared.process.command.Command.{Command}
use Rattle.host_parts.specs.declared.course.LabPlan.{LabPlan}

-- this program is started with these words
pub record Starts {A : Type 0} (program : List ℕ) (words : List (List ℕ)) (command : Command A) : Type 0 where
  pub program_is : command_program command ≡ program
  pub words_are : command_args command ≡ words

-- `run /dev/null --control PORT --turns N`
abbrev pub target_words : LabPlan → List (List ℕ)
target_words plan = codes "run" ∷ codes "/dev/null" ∷ codes "--control" ∷ decimal plan.control ∷ codes "--turns" ∷ decimal plan.turns ∷ []

-- `VERB --turns N 127.0.0.1 PORT nqn.2026-01.test:a nqn.2026-01.test:h1 1 0`, of namespace 1 from block 0 on
abbrev pub host_words : List ℕ → LabPlan → List (List ℕ)
host_words verb plan = verb ∷ codes "--turns" ∷ decimal plan.turns ∷ codes "127.0.0.1" ∷ decimal plan.port
    ∷ codes "nqn.2026-01.test:a" ∷ codes "nqn.2026-01.test:h1" ∷ codes "1" ∷ codes "0" ∷ []

-- 16 blocks, each byte of which is 5, once a line says so
abbrev pub writer_words : LabPlan → List (List ℕ)
writer_words plan = host_words (codes "write") plan ++ codes "16" ∷ codes "5" ∷ codes "--hold" ∷ []

-- one block
abbrev pub reader_words : LabPlan → List (List ℕ)
reader_words plan = host_words (codes "read") plan ++ codes "1" ∷ []

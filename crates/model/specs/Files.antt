-- The system that a file at hand stands for, by its type, and the answer that such a file is.
-- Assumes nothing.
use Rattle.std.specs.Prelude.{Result, Ok, Err}
use Rattle.answers.specs.Answer.{Answer, refusal, number_of}
use Rattle.answers.specs.declared.Refusal.{Refusal}
use Rattle.system.specs.System.{System}
use Rattle.model.specs.Held.{system_in}
use Rattle.model.specs.Says.{sized}
use Rattle.model.specs.declared.held.LaidFile.{LaidFile}
use Rattle.model.specs.declared.held.HeldFile.{HeldFile}

abbrev pub laid_system : LaidFile → System
laid_system file = system_in file.bytes.now file.model

abbrev pub held_system : HeldFile → System
held_system file = system_in file.bytes.now file.model

-- the paper's answer of a file at hand, by its counts, or of a refusal
abbrev pub held_answer : Result HeldFile Refusal → Answer
held_answer (Ok file) = sized file.model.lines file.model.levels
held_answer (Err e) = refusal (number_of e)

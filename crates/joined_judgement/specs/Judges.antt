-- The calls that request W6 speaks of: the file that joining made, and a file judged between no line and all lines by a route that computes the nested fixpoint.
-- Assumes nothing.
use Rattle.std.specs.Prelude.{List, ◌≡◌, ℕ, take, Result}
use Rattle.answers.specs.declared.Refusal.{Refusal}
use Rattle.sets.specs.Set.{full}
use Rattle.trees.specs.Fit.{Universal}
use Rattle.model.specs.File.{lines_in, decode}
use Rattle.routes.specs.Routes.{least_levels, greatest_levels}
use Rattle.routes.specs.declared.shared.Found.{Found}
use Rattle.writer.specs.Says.{written_answer}
use Rattle.solver.specs.Says.{judged_answer, PlainSays, BuiltSays, LentSays}
use Rattle.solver.specs.declared.Unjudged.{Unjudged}
use Rattle.one_sided_solver.specs.Says.{OneSidedSays}

-- what joining made in the buffer: as many bytes as it answers
abbrev pub file_made : Result ℕ Refusal → List ℕ → List ℕ
file_made w buffer' = take (written_answer w).length buffer'

-- an accepted judging, and the set that it answers: by plain rounds or by built-in trees, under any ceiling, by lent trees that are universal, or by the
-- one-sided route over such a tree (request W9)
pub data Judges (file : List ℕ) : ℕ → Type 0 where
  plainly : {ceiling : ℕ} {r : Result Found Unjudged} → PlainSays file 0 (full (lines_in file)) ceiling r → (judged_answer r).number ≡ 0 → Judges file (judged_answer r).set
  by_built_trees : {ceiling : ℕ} {r : Result Found Unjudged} → BuiltSays file 0 (full (lines_in file)) ceiling r → (judged_answer r).number ≡ 0 → Judges file (judged_answer r).set
  by_universal_trees : {u v : List ℕ} {r : Result Found Unjudged} → LentSays file 0 (full (lines_in file)) u v r → (judged_answer r).number ≡ 0
      → Universal (decode file).lines (least_levels (decode file)) u → Universal (decode file).lines (greatest_levels (decode file)) v
      → Judges file (judged_answer r).set
  one_sidedly : {v words words' : List ℕ} {r : Result Found Unjudged} → OneSidedSays file v words r words' → (judged_answer r).number ≡ 0
      → Universal (decode file).lines (greatest_levels (decode file)) v → Judges file (judged_answer r).set

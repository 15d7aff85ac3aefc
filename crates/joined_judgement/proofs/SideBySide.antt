-- Request W6's promise, from the contracts alone: the judgement of a joined file is the two judgements side by side, wherever all three calls are accepted.
-- Each call is by plain rounds, by built-in trees, by universal lent trees or by the one-sided route over a universal tree, and they need not be alike.
-- And the judgement of a file is one set, however it is judged.
-- Assumes nothing.
use Rattle.std.specs.Prelude.{Result}
use mathlib.Core.List.{List}
use mathlib.Core.Path.{◌≡◌, refl, sym, ◌∙◌, ap, ap₂}
use Prim.Native.Nat.{ℕ}
use lib.ListN.{length}
use Rattle.answers.specs.declared.Refusal.{Refusal}
use Rattle.sets.specs.Set.{full}
use Rattle.sets.specs.SideBySide.{side_by_side}
use Rattle.system.specs.System.{System}
use Rattle.model.specs.File.{lines_in, decode}
use Rattle.model.proofs.Refusals.{none_of, none_over}
use Rattle.routes.specs.Routes.{nested_set}
use Rattle.routes.proofs.Joined.{joined_set}
use Rattle.writer.specs.Says.{written_answer}
use Rattle.joiner.specs.Says.{JoinSays}
use Rattle.joiner.proofs.Passed.{join_passes}
use Rattle.joined_judgement.specs.Judges.{file_made, Judges, plainly, by_built_trees, by_universal_trees, one_sidedly}
use Rattle.joined_judgement.proofs.JoinedFiles.{formed₁, formed₂, accepts, joined_accepted}

-- the nested fixpoint of a system from no line to all lines
abbrev judgement : System → ℕ
judgement m = nested_set m 0 (full m.lines)

-- each route's set is the nested fixpoint
judged_nested : {file : List ℕ} {set : ℕ} → Judges file set → set ≡ judgement (decode file)
unfolding decode
judged_nested (plainly says ok) = says.nested (none_of _ _ _ says.answer refl ok)
judged_nested (by_built_trees says ok) = says.nested (none_over _ _ _ _ says.answer refl ok)
judged_nested (by_universal_trees says ok least greatest) = says.nested (none_of _ _ _ says.answer refl ok) least greatest
judged_nested (one_sidedly says ok greatest) = says.nested (none_of _ _ _ says.answer refl ok) greatest

pub judgings_agree : {file : List ℕ} {set set' : ℕ} → Judges file set → Judges file set' → set ≡ set'
judgings_agree one other = judged_nested one ∙ sym (judged_nested other)

pub side_by_side_lem :
    (first second buffer buffer' : List ℕ) (w : Result ℕ Refusal) → JoinSays first second buffer w buffer' → (written_answer w).number ≡ 0
    → (set set₁ set₂ : ℕ) → Judges (file_made w buffer') set → Judges first set₁ → Judges second set₂ → set ≡ side_by_side (lines_in first) set₁ set₂
unfolding decode
side_by_side_lem first second buffer buffer' w joins ok set set₁ set₂ whole one other =
    let none = accepts first second buffer buffer' w joins ok in
    let can_join = (join_passes first second (length buffer) none).can_join in
    judged_nested whole ∙ ap judgement (joined_accepted first second buffer buffer' w joins ok).stands
    ∙ joined_set (decode first) (decode second) (formed₁ first second (length buffer) none) (formed₂ first second (length buffer) none) can_join
    ∙ sym (ap₂ (side_by_side (lines_in first)) (judged_nested one) (judged_nested other))

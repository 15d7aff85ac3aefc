-- What one query and each judging answer, and what is promised of a judgement besides (document 01, "Operations" and "Fixing a judgement").
-- Assumes nothing.
use Rattle.std.specs.Prelude.{List, ◌≡◌, ℕ, ◌*◌, Result, Ok, Err}
use Rattle.answers.specs.Answer.{Answer, refusal, over_ceiling, number_of}
use Rattle.answers.specs.Check.{unless, unless_over}
use Rattle.answers.specs.declared.Refusal.{Refusal}
use Rattle.trees.specs.Tree.{leaves}
use Rattle.trees.specs.Fit.{Universal}
use Rattle.trees.specs.Built.{leaf_count}
use Rattle.model.specs.File.{decode}
use Rattle.system.specs.Query.{query}
use Rattle.routes.specs.Routes.{least_levels, greatest_levels, built_least, built_greatest, nested_set, plain_run, restricted_set, restricted_count}
use Rattle.routes.specs.declared.shared.Found.{Found}
use Rattle.admission.specs.Checks.{forecast}
use Rattle.solver.specs.Checks.{query_number, built_number, plain_number, lent_number}
use Rattle.solver.specs.declared.Unjudged.{Unjudged}
use Rattle.solver.specs.declared.Unjudged.TheVariants.{OverCeiling, Refused}

-- accepted with a set
abbrev pub valued : ℕ → Answer
valued set = record { number = 0; set = set; count = 0; length = 0; lines = 0; levels = 0 }

-- accepted with a set and a count
abbrev pub judged : ℕ → ℕ → Answer
judged set count = record { number = 0; set = set; count = count; length = 0; lines = 0; levels = 0 }

-- the paper's answer of what each operation answers
abbrev pub queried_answer : Result ℕ Refusal → Answer
queried_answer (Ok set) = valued set
queried_answer (Err e) = refusal (number_of e)

abbrev pub unjudged_answer : Unjudged → Answer
unjudged_answer (OverCeiling forecast) = over_ceiling forecast
unjudged_answer (Refused e) = refusal (number_of e)

abbrev pub judged_answer : Result Found Unjudged → Answer
judged_answer (Ok found) = judged found.set found.count
judged_answer (Err e) = unjudged_answer e

-- one query of a file at the arguments xs, level 1 first
abbrev pub query_answer : List ℕ → List ℕ → Answer
query_answer file xs = unless (query_number file xs) (valued (query (decode file) xs))

-- judging plainly: the answer that is asked for
abbrev pub plain_answer : List ℕ → ℕ → ℕ → ℕ → Answer
plain_answer file a b ceiling = unless (plain_number file a b ceiling) (judged (plain_run (decode file) a b).value (plain_run (decode file) a b).queries)

pub record PlainSays (file : List ℕ) (a b ceiling : ℕ) (r : Result Found Unjudged) : Type 0 where
  pub answer : judged_answer r ≡ plain_answer file a b ceiling
  -- an accepted set is the nested fixpoint
  pub nested : plain_number file a b ceiling ≡ 0 → (judged_answer r).set ≡ nested_set (decode file) a b

-- judging by built-in trees, for the file's own number of lines; nothing is judged where the forecast is over the ceiling, and the answer tells the forecast
abbrev pub built_answer : List ℕ → ℕ → ℕ → ℕ → Answer
built_answer file a b ceiling =
    let s = decode file in
    let u = built_least s s.lines in
    let v = built_greatest s s.lines in
    unless_over (forecast s) (built_number file a b ceiling) (judged (restricted_set s a b u v) (restricted_count s u v))

pub record BuiltSays (file : List ℕ) (a b ceiling : ℕ) (r : Result Found Unjudged) : Type 0 where
  pub answer : judged_answer r ≡ built_answer file a b ceiling
  -- an accepted count is the product of the two trees' leaves, and an accepted set is the nested fixpoint
  pub product : built_number file a b ceiling ≡ 0 → (judged_answer r).count ≡ leaf_count (decode file).lines (least_levels (decode file)) * leaf_count (decode file).lines (greatest_levels (decode file))
  pub nested : built_number file a b ceiling ≡ 0 → (judged_answer r).set ≡ nested_set (decode file) a b

-- judging by lent trees
abbrev pub lent_answer : List ℕ → ℕ → ℕ → List ℕ → List ℕ → Answer
lent_answer file a b u v = unless (lent_number file a b u v) (judged (restricted_set (decode file) a b u v) (restricted_count (decode file) u v))

pub record LentSays (file : List ℕ) (a b : ℕ) (u v : List ℕ) (r : Result Found Unjudged) : Type 0 where
  pub answer : judged_answer r ≡ lent_answer file a b u v
  -- an accepted count is the product of the two trees' leaves, whatever the trees; over universal trees an accepted set is the nested fixpoint
  pub product : lent_number file a b u v ≡ 0 → (judged_answer r).count ≡ leaves u * leaves v
  pub nested : lent_number file a b u v ≡ 0 → Universal (decode file).lines (least_levels (decode file)) u → Universal (decode file).lines (greatest_levels (decode file)) v
      → (judged_answer r).set ≡ nested_set (decode file) a b

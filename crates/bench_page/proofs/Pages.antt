-- The page of a file that is accepted has n + 1 rows of 41 bytes, and one that is judged shows the nested fixpoint. With room for the longest page, the page
-- is turned down as judging is.
-- Assumes nothing.
use mathlib.Core.List.{List, ◌++◌}
use mathlib.Core.Path.{◌≡◌, refl, sym, ◌∙◌, ap}
use Prim.Native.Nat.{ℕ, zero, suc, ◌+◌, ◌*◌, ◌≤◌, ◌<◌}
use native.Mathlib.Omega.{arith}
use borrow.Author.Tests.{le-ltb}
use lib.ListN.{length}
use Rattle.answers.specs.Check.{first_of}
use Rattle.answers.proofs.Checks.{first_before, after_none}
use Rattle.sets.specs.Set.{full}
use Rattle.model.specs.File.{lines_in, decode}
use Rattle.checker.specs.Checks.{file_checks, file_number}
use Rattle.checker.proofs.Accepted.{accepted}
use Rattle.admission.specs.Checks.{bound_checks, bound_number}
use Rattle.admission.proofs.Admitted.{file_passed, never_misplaced}
use Rattle.routes.specs.Routes.{nested_set}
use Rattle.routes.proofs.Promises.{whole_range, built_nested}
use Rattle.solver.specs.Checks.{forecast_checks, built_checks, built_number, program_ceiling}
use Rattle.solver.proofs.Forecast.{both_passed}
use Rattle.page_layout.specs.Page.{page}
use Rattle.page_layout.proofs.Pages.{page_length}
use Rattle.bench_page.specs.Says.{shown_answer, page_of, room_checks, page_number}

-- the number of the judgement that is shown
abbrev pub shown_number : List ℕ → ℕ
shown_number file = built_number file 0 (full (lines_in file)) program_ceiling

-- from no line to all lines 9 never applies: what is turned down is the file, and then its forecast
pub shown_checks : (file : List ℕ) → shown_number file ≡ first_of (file_checks file ++ forecast_checks file program_ceiling)
unfolding built_number bound_number file_number
shown_checks file = at (file_number file) refl
  where
    at : (e : ℕ) → file_number file ≡ e → shown_number file ≡ first_of (file_checks file ++ forecast_checks file program_ceiling)
    at zero h =
        after_none (bound_checks file 0 (full (lines_in file))) (forecast_checks file program_ceiling) refl (never_misplaced file ∙ h)
        ∙ sym (after_none (file_checks file) (forecast_checks file program_ceiling) refl h)
    at (suc e) h =
        first_before (bound_checks file 0 (full (lines_in file))) (forecast_checks file program_ceiling) (omega (arith, never_misplaced file))
        ∙ never_misplaced file ∙ sym (first_before (file_checks file) (forecast_checks file program_ceiling) (omega arith))

-- where it is judged, the file is accepted
judged_file : (file : List ℕ) → shown_number file ≡ 0 → file_number file ≡ 0
judged_file file h = file_passed file 0 (full (lines_in file)) (both_passed file 0 (full (lines_in file)) program_ceiling h).0

module _ (file : List ℕ) (accepted-file : file_number file ≡ 0) where
  -- the page of an accepted file has n + 1 rows
  pub file_page_length : length (page_of file) ≡ 41 * (lines_in file + 1)
  unfolding page_of decode
  file_page_length =
      let header = (accepted file accepted-file).header in
      page_length (decode file) (shown_answer file).set header.lines_most header.levels_most

  -- so no page is longer than that of 64 lines
  longest_page : 41 * (lines_in file + 1) ≤ 2665
  longest_page = omega (arith, (accepted file accepted-file).header.lines_most)

-- the page of a file that is judged shows the nested fixpoint from no line to all lines
pub page_nested : (file : List ℕ) → shown_number file ≡ 0 → page_of file ≡ page (decode file) (nested_set (decode file) 0 (full (lines_in file)))
unfolding page_of decode
page_nested file judged =
    rw judged (ap (page (decode file)) (built_nested (decode file) 0 (full (lines_in file)) (whole_range (lines_in file)) (accepted file (judged_file file judged)).header.lines_least))

-- a number with which judging refuses is the page's
pub judging_before : (file : List ℕ) (room : ℕ) → 0 < shown_number file → page_number file room ≡ shown_number file
unfolding page_number built_number
judging_before file room h =
    let checked : page_number file room ≡ first_of (built_checks file 0 (full (lines_in file)) program_ceiling ++ room_checks file room) = refl in
    checked ∙ first_before (built_checks file 0 (full (lines_in file)) program_ceiling) (room_checks file room) h

-- where judging accepts, the room alone is left to check
pub room_left : (file : List ℕ) (room : ℕ) → shown_number file ≡ 0 → page_number file room ≡ first_of (room_checks file room)
unfolding page_number built_number
room_left file room = after_none (built_checks file 0 (full (lines_in file)) program_ceiling) (room_checks file room) refl

-- with room for the page of 64 lines, the page is turned down with the numbers of judging alone
pub page_number_lem : (file : List ℕ) (room : ℕ) → 2665 ≤ room → page_number file room ≡ shown_number file
page_number_lem file room enough = at (shown_number file) refl
  where
    at : (e : ℕ) → shown_number file ≡ e → page_number file room ≡ e
    at zero h =
        let right = judged_file file h in
        room_left file room h ∙ rw (le-ltb room (length (page_of file)) (omega (arith, file_page_length file right, longest_page file right)))
    at (suc e) h = judging_before file room (omega arith) ∙ h

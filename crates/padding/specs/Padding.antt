-- Texts that blanks set to one side.
-- Assumes nothing.
use Rattle.std.specs.Prelude.{List, ◌++◌, ℕ, ◌-◌, length, replicate}

-- so many blanks
abbrev pub blanks : ℕ → List ℕ
blanks k = replicate k 32

-- a text set to the right, and one set to the left, in k places: blanks fill the others
abbrev pub set_right : ℕ → List ℕ → List ℕ
set_right k text = blanks (k - length text) ++ text

abbrev pub set_left : ℕ → List ℕ → List ℕ
set_left k text = text ++ blanks (k - length text)

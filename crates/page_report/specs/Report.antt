-- The text that the page program writes for an input: the bench page of its file, or the line of the refusal, of the file or of the forecast.
-- Assumes nothing.
use Rattle.std.specs.Prelude.{cond, List, [], ℕ, ltb, length}
use Rattle.bench_page.specs.Says.{shown_answer, page_of}
use Rattle.text.specs.Text.{text_or_refused}

unfoldable pub page_text : List ℕ → List ℕ
page_text file = text_or_refused (shown_answer file).number (shown_answer file).count (page_of file)

-- making the text in a lent buffer; one under 2,665 bytes, the longest page, is left as it was, and no text is made
abbrev pub made_text : List ℕ → List ℕ → List ℕ
made_text file out = cond (ltb (length out) 2665) [] (page_text file)

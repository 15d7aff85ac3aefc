-- The contract of writing in each of its cases: refused with a number, or accepted.
-- Assumes nothing.
use mathlib.Core.List.{List, ◌++◌}
use mathlib.Core.Path.{◌≡◌, sym, ◌∙◌, ap, ap₂}
use Prim.Native.Nat.{ℕ}
use lib.ListN.{length, drop}
use Rattle.std.specs.Prelude.{Ok, Err}
use Rattle.answers.specs.Check.{unless}
use Rattle.answers.specs.declared.Refusal.{Refusal}
use Rattle.system.specs.System.{System, system_of, Sliced}
use Rattle.model.specs.File.{file_length, encode}
use Rattle.writer.specs.Says.{write_number, WriteSays}
use Rattle.model.specs.Says.{made, filled}
use Rattle.model.specs.declared.layout.Model.{Model}
use Rattle.model.proofs.Refusals.{AcceptedAs, RefusedAs, refused_answer, filled_refused}
use Rattle.model.proofs.RoundTrip.{encode_length}

pub write_refused : (m : System) (buffer : List ℕ) (r : Refusal) → RefusedAs (write_number m (length buffer)) r → WriteSays m buffer (Err r) buffer
write_refused m buffer r h = record { answer = refused_answer h (made _); left = filled_refused (encode m) buffer h.positive }

-- k has the system's counts, as they were handed on
pub write_accepted :
    (m : System) (buffer buffer' : List ℕ) (k : Model) (e bytes : ℕ) → write_number m (length buffer) ≡ 0 → Sliced m → AcceptedAs e m.lines m.levels k
    → bytes ≡ file_length k.lines k.levels
    → buffer' ≡ encode (system_of k.lines k.levels m.signs m.kinds m.thresholds m.words) ++ drop (file_length k.lines k.levels) buffer
    → WriteSays m buffer (Ok bytes) buffer'
write_accepted m buffer buffer' k e bytes none sliced counts size wrote =
    let sizes = ap₂ file_length counts.lines counts.levels in
    let given = ap₂ (λ (i j : ℕ). system_of i j m.signs m.kinds m.thresholds m.words) counts.lines counts.levels in
    record {
      answer = ap made (size ∙ sizes) ∙ sym (ap (λ (x : ℕ). unless x (made (file_length m.lines m.levels))) none);
      left =
          wrote ∙ ap₂ (λ (s : System) (n : ℕ). encode s ++ drop n buffer) given (sizes ∙ sym (encode_length m sliced))
          ∙ sym (ap (λ (x : ℕ). filled x (encode m) buffer) none);
    }

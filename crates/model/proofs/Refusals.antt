-- What an answer of checking or reading says of its number and of the counts, and the answer that a refusal is.
-- Assumes nothing.
use mathlib.Core.Bool.{Bool, true, false, cond}
use mathlib.Core.List.{List, ◌++◌}
use mathlib.Core.Path.{◌≡◌, refl, sym, ◌∙◌, ap}
use Prim.Native.Nat.{ℕ, zero, suc, ◌<◌}
use native.Mathlib.Omega.{arith}
use lib.Dec.{eqb}
use borrow.Author.Tests.{eqb-true, ne_eqb}
use Rattle.answers.specs.Answer.{Answer, refusal, over_ceiling, number_of}
use Rattle.answers.specs.Check.{Check, first_of, unless, unless_over}
use Rattle.answers.specs.declared.Refusal.{Refusal}
use Rattle.answers.proofs.Checks.{first_before, unless_refused, number_positive}
use Rattle.model.specs.Says.{sized, filled}
use Rattle.model.specs.declared.layout.Model.{Model}

-- an accepted answer, unless a number refuses, has that number
pub unless_number : (e : ℕ) (a : Answer) → a.number ≡ 0 → (unless e a).number ≡ e
unless_number zero a h = h
unless_number (suc e) a h = refl

-- the number of an operation that accepts
pub none_of : (e : ℕ) (a b : Answer) → a ≡ unless e b → b.number ≡ 0 → a.number ≡ 0 → e ≡ 0
none_of e a b says clear ok = sym (unless_number e b clear) ∙ ap (λ (x : Answer). x.number) (sym says) ∙ ok

-- The same of an operation with a forecast under a ceiling (request W8).
pub over_number : (forecast e : ℕ) (a : Answer) → a.number ≡ 0 → (unless_over forecast e a).number ≡ e
over_number forecast e a h = at (eqb e 10) refl
  where
    at : (t : Bool) → eqb e 10 ≡ t → (cond t (over_ceiling forecast) (unless e a)).number ≡ e
    at true q = sym (eqb-true e 10 q)
    at false q = unless_number e a h

pub none_over : (forecast e : ℕ) (a b : Answer) → a ≡ unless_over forecast e b → b.number ≡ 0 → a.number ≡ 0 → e ≡ 0
none_over forecast e a b says clear ok = sym (over_number forecast e b clear) ∙ ap (λ (x : Answer). x.number) (sym says) ∙ ok

-- a number that refuses decides the answer, whatever would be accepted
pub over_same : (forecast : ℕ) {e : ℕ} (a b : Answer) → 0 < e → unless_over forecast e a ≡ unless_over forecast e b
over_same forecast {e = zero} a b h = absurd (omega arith)
over_same forecast {e = suc e} a b h = refl

-- what an answer with the number e, and the counts n and d where e is 0, says in each case
pub record AcceptedAs (e n d : ℕ) (m : Model) : Type 0 where
  pub number : e ≡ 0
  pub lines : m.lines ≡ n
  pub levels : m.levels ≡ d

pub record RefusedAs (e : ℕ) (r : Refusal) : Type 0 where
  pub number : number_of r ≡ e
  pub positive : 0 < e

pub refused_by : (r : Refusal) {e : ℕ} → e ≡ number_of r → RefusedAs e r
refused_by r h = record { number = sym h; positive = omega (arith, number_positive r) }

-- a refusal is the whole answer
pub refused_answer : {e : ℕ} {r : Refusal} → RefusedAs e r → (a : Answer) → refusal (number_of r) ≡ unless e a
refused_answer h a = ap refusal h.number ∙ sym (unless_refused a h.positive)

-- under a ceiling too, but for 10
pub refused_under : (forecast : ℕ) {e : ℕ} {r : Refusal} → RefusedAs e r → (e ≡ 10 → ⊥) → (a : Answer) → refusal (number_of r) ≡ unless_over forecast e a
refused_under forecast {e} h other a = rw (ne_eqb e 10 other) (refused_answer h a)

-- checks of which one refuses decide
pub refused_before : (cs ds : List Check) {r : Refusal} → RefusedAs (first_of cs) r → RefusedAs (first_of (cs ++ ds)) r
refused_before cs ds {r} h = refused_by r (first_before cs ds h.positive ∙ sym h.number)

-- what an answer tells, of `reading_answer` and of `held_answer` alike: in an arm the clause is this fact
module _ (e n d : ℕ) where
  pub accepted_as : {m : Model} → sized m.lines m.levels ≡ unless e (sized n d) → AcceptedAs e n d m
  accepted_as {m} h = at e h
    where
      at : (e : ℕ) → sized m.lines m.levels ≡ unless e (sized n d) → AcceptedAs e n d m
      at zero q =
          record { number = refl; lines = ap (λ (x : Answer). x.lines) q; levels = ap (λ (x : Answer). x.levels) q }
      at (suc e) q = let z : 0 ≡ suc e = ap (λ (x : Answer). x.number) q in absurd (omega arith)

  pub refused_as : {r : Refusal} → refusal (number_of r) ≡ unless e (sized n d) → RefusedAs e r
  refused_as {r} h = refused_by r (sym (ap (λ (x : Answer). x.number) h ∙ unless_number e (sized n d) refl))

-- a number other than 0 leaves a lent list as it was
pub filled_refused : {e : ℕ} (new old : List ℕ) → 0 < e → old ≡ filled e new old
filled_refused {e = zero} new old h = absurd (omega arith)
filled_refused {e = suc e} new old h = refl

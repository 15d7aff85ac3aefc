use mathlib.Core.Bool.{Bool, true, false, cond}
use mathlib.Core.List.{[]}
use mathlib.Core.Path.{◌≡◌, refl, sym, ◌∙◌, ap, ap₂}
use Prim.Native.Nat.{ℕ, zero, suc, ◌+◌, ◌-◌, ◌*◌, ◌/◌, ◌^◌, ◌≤◌, ◌<◌}
use native.Mathlib.Nat.{div-one, mul-suc}
use native.Mathlib.Omega.{arith}
use borrow.Author.Tests.{ne_eqb, lt-leb}
use lib.Dec.{eqb}
use lib.ListN.{get_or}
use mir.Val.{bool_byte}
use Rattle.system.specs.Query.{value_of, set_of}
use Rattle.model.specs.File.{is_old, line_bytes}
use Rattle.evaluator.specs.ByLevels.{initial_set}
use Rattle.model.proofs.Places.{line_kind, kind-room}
use Rattle.system.proofs.LineSets.{set_same_values, digits_from, digits_fit, digits_none}
use Rattle.evaluator.proofs.initial_set.Invariants.{is_one}
use Rattle.evaluator.proofs.initial_set.Goals as goal
use Rattle.evaluator.proofs.initial_set.Goals.{After-line_bytes-step, In-loop-i}

-- without operands the lines of kind 1 alone are set, if a vote needs one at least
kind_one : (kind t : ℕ) → (2 ≤ kind → 1 ≤ t) → eqb kind 1 ≡ value_of kind t []
kind_one zero t h = refl
kind_one (suc zero) t h = refl
kind_one (suc (suc k)) t h = ne_eqb (suc (suc k)) 1 (λ e. omega arith) ∙ sym (lt-leb t 0 (h (omega arith)))

-- at most two bytes a line
few_bytes : (t : Bool) (n : ℕ) → line_bytes t * n ≤ 2 * n
few_bytes true n = omega arith
few_bytes false n = omega arith

all-few : (c : After-line_bytes-step) → let n = c.args.file.model.lines in c.line_bytes-step.result * n ≤ 2 * n
all-few c = let z = c.args.file in rw c.line_bytes-step.ensures (few_bytes (is_old z.model.lines z.model.levels z.bytes.now) z.model.lines)

pub overflow_mul-at : goal.overflow_mul-at
overflow_mul-at c = omega (arith, all-few (goal.at.overflow_mul-at c).After-line_bytes-step, c.args.file.held.laid_out.few_lines)

pub overflow_add-at : goal.overflow_add-at
overflow_add-at c = omega (arith, all-few (goal.at.overflow_add-at c).After-line_bytes-step, c.args.file.held.laid_out.few_lines, c.args.file.held.laid_out.few_levels, c.kinds_at-first.ensures)

pub loop-i-init : goal.loop-i-init
loop-i-init c = record { place = refl; digits = sym (digits_none _ _) }

-- the line before stands `step` bytes before
line_before : (first step i at : ℕ) → (i ≡ 0 → ⊥) → at ≡ first + step * i → at ≡ first + step * (i - 1) + step
line_before first step i at ne e =
    let next : i ≡ suc (i - 1) = omega arith in
    e ∙ ap (λ (j : ℕ). first + step * j) next ∙ omega (arith, mul-suc step (i - 1))

here : (c : In-loop-i) → let step = c.line_bytes-step.result in c.loop-i.at ≡ c.kinds_at-first.result + step * (c.loop-i.i - 1) + step
here c = line_before _ _ c.loop-i.i c.loop-i.at (λ e. omega arith) c.loop-i.invariant.place

pub overflow_sub-at : goal.overflow_sub-at
overflow_sub-at c = omega (arith, here (goal.at.overflow_sub-at c).In-loop-i)

pub bounds-file-at : goal.bounds-file-at
bounds-file-at c =
    let z = c.args.file in
    let room = kind-room z.bytes.now z.model (c.loop-i.i - 1) z.held.laid_out (omega arith) in
    omega (arith, here (goal.at.bounds-file-at c).In-loop-i, rw (← c.line_bytes-step.ensures, ← c.kinds_at-first.ensures) at room)

byte : (t : Bool) → bool_byte t ≡ cond t 1 0
byte true = refl
byte false = refl

-- one line's digit more, and that it fits
record More (set n i : ℕ) (p : ℕ → Bool) (t : Bool) : Type 0 where
  is : 2 * set + bool_byte t ≡ set_of n p / 2 ^ i
  fits : 2 * set + bool_byte t < 2 ^ 64

more : (set n i : ℕ) (p : ℕ → Bool) (t : Bool) → n ≤ 64 → i < n → set ≡ set_of n p / 2 ^ suc i → p i ≡ t → More set n i p t
more set n i p t few l e v =
    let is : 2 * set + bool_byte t ≡ set_of n p / 2 ^ i = omega (arith, e, byte t, digits_from n p i t l v) in
    record { is = is; fits = rw is (digits_fit n p i few) }

-- the digit of the line that is looked at
digit : (c : In-loop-i) →
    let z = c.args.file in
    let l = c.loop-i in
    let step = c.line_bytes-step.result in
    More l.set z.model.lines (l.i - 1) (is_one z.bytes.now c.kinds_at-first.result step) (eqb (get_or z.bytes.now (l.at - step) 0) 1)
digit c =
    let z = c.args.file in
    let l = c.loop-i in
    let next : l.i ≡ suc (l.i - 1) = omega arith in
    let place = here c in
    more l.set z.model.lines (l.i - 1) _ _ z.held.laid_out.few_lines (omega arith) (rw (← next) l.invariant.digits)
    (ap (λ (j : ℕ). eqb (get_or z.bytes.now j 0) 1) (omega (arith, place)))

pub overflow_mul-set : goal.overflow_mul-set
overflow_mul-set c = omega (arith, (digit (goal.at.overflow_mul-set c).In-loop-i).fits)

pub overflow_add-set : goal.overflow_add-set
overflow_add-set c = omega (arith, (digit (goal.at.overflow_add-set c).In-loop-i).fits)

pub loop-i-preserved : goal.loop-i-preserved
loop-i-preserved c = record { place = omega (arith, here (goal.at.loop-i-preserved c).In-loop-i); digits = (digit (goal.at.loop-i-preserved c).In-loop-i).is }

pub returns : goal.returns
unfolding initial_set
returns c =
    let z = c.args in
    let end : c.loop-i.i ≡ 0 = omega arith in
    c.loop-i.invariant.digits ∙ rw end (div-one _) ∙ set_same_values z.file.model.lines _ _ (λ i l.
    ap₂ (λ (first step : ℕ). eqb (get_or z.file.bytes.now (first + step * i) 0) 1) c.kinds_at-first.ensures c.line_bytes-step.ensures
    ∙ ap (λ (k : ℕ). eqb k 1) (sym (line_kind z.file.model.lines z.file.model.levels z.file.bytes.now i l)) ∙ kind_one _ _ (z.file.held.votes i))

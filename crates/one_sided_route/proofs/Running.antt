-- The run over the equations of a file's system, with its state, its words, its flags and its queue in lists.
-- Assumes nothing.
use mathlib.Core.Bool.{Bool, true, false, true≢false, cond}
use mathlib.Core.List.{List, [], ◌∷◌, map}
use mathlib.Core.Path.{◌≡◌, refl, sym, ◌∙◌, ap, ap₂, subst}
use Prim.Native.Nat.{ℕ, zero, suc, ◌+◌, ◌*◌, ◌≤◌, ◌<◌}
use native.Mathlib.Nat.{mul-le-mul}
use native.Mathlib.Numerals.{add-one}
use native.Mathlib.Omega.{arith}
use borrow.Author.Tests.{eq-eqb, eqb-true, eqb-false}
use lib.Dec.{eqb}
use lib.ListN.{length, get_or, set, take, drop, replicate, length-replicate, get_or-replicate, length-drop}
use lib.Seq.{take_all, get_or-take, get_or-drop, get_or-set_same, get_or-set_other, length-take-le, ext_get_or}
use Rattle.sets.specs.Set.{full}
use Rattle.sets.proofs.Order as order
use Rattle.sets.proofs.Range.{full_below}
use Rattle.trees.specs.Tree.{leaves}
use Rattle.fixpoint.specs.Sets.{sets}
use Rattle.fixpoint.proofs.Sets.{sets_lawful}
use Rattle.system.specs.System.{sign}
use Rattle.system.specs.Query.{query}
use Rattle.system.proofs.Monotone.{query_monotone}
use Rattle.model.specs.declared.layout.Model.{Model}
use Rattle.model.specs.Held.{system_in}
use Rattle.routes.specs.Parts.{Lent, greatest_of}
use Rattle.one_sided.specs.Equations.{Equation, equation_system}
use Rattle.one_sided.specs.Stages.{value_in, right_side, start, alike, any_changed, due, run}
use Rattle.one_sided.proofs.Sets.{step_from_empty}
use Rattle.one_sided.proofs.Stages.{value_in_lem, below_value}
use Rattle.one_sided.proofs.Equations.{generate_count}
use Rattle.one_sided.proofs.Leaves.{leaf_equation, argument_at_lem, argument_count}
use Rattle.one_sided_route.specs.Route.{staged_run}
use Rattle.one_sided_leaves.specs.Leaves.{arguments_in, variables_in, Spans}
use Rattle.one_sided_stages.specs.Stages.{right_side_at, Grows, Queued, Carried, Evaluated, Listed, Flagged, FlaggedFor}
use Rattle.one_sided_leaves.proofs.Blocks.{argument_within}
use Rattle.one_sided_route.proofs.Chosen.{chosen_count, chosen_length, chosen_at, count_within, flags_count}
use Rattle.one_sided_route.proofs.Ahead.{next_by, Ahead, ahead_first, ahead_more, ahead_settled, ahead_spent}

get_d_map_in : {A : Type 0} (g : A → ℕ) (l : List A) (i : ℕ) (d : A) (x : ℕ) → i < length l → get_or (map g l) i x ≡ g (get_or l i d)
get_d_map_in g [] i d x h = absurd (omega arith)
get_d_map_in g (y ∷ l) zero d x h = refl
get_d_map_in g (y ∷ l) (suc i) d x h = get_d_map_in g l i d x (omega arith)

-- two states, place by place

alike_same : (s t : List ℕ) → length s ≡ length t → ((i : ℕ) → i < length s → get_or s i 0 ≡ get_or t i 0) → alike eqb s t ≡ true
unfolding alike
alike_same [] [] l p = refl
alike_same [] (y ∷ t) l p = absurd (omega arith)
alike_same (x ∷ s) [] l p = absurd (omega arith)
alike_same (x ∷ s) (y ∷ t) l p =
    let q : x ≡ y = p 0 (omega arith) in
    rw (eq-eqb x y q) (alike_same s t (omega arith) (λ i h. p (suc i) (omega arith)))

alike_other : (s t : List ℕ) (i : ℕ) → i < length s → i < length t → (get_or s i 0 ≡ get_or t i 0 → ⊥) → alike eqb s t ≡ false
unfolding alike
alike_other [] t i h l ne = absurd (omega arith)
alike_other (x ∷ s) [] i h l ne = absurd (omega arith)
alike_other (x ∷ s) (y ∷ t) zero h l ne = go (eqb x y) refl
  where
    go : (b : Bool) → eqb x y ≡ b → cond (eqb x y) (alike eqb s t) false ≡ false
    go true e = absurd (ne (eqb-true x y e))
    go false e = rw e
alike_other (x ∷ s) (y ∷ t) (suc i) h l ne = rw (alike_other s t i (omega arith) (omega arith) ne) (go (eqb x y))
  where
    go : (b : Bool) → cond b false false ≡ false
    go true = refl
    go false = refl

-- values of some variables

map_same : (ρ σ : ℕ → ℕ) (ys : List ℕ) → ((k : ℕ) → k < length ys → ρ (get_or ys k 0) ≡ σ (get_or ys k 0)) → map ρ ys ≡ map σ ys
map_same ρ σ [] p = refl
map_same ρ σ (y ∷ ys) p =
    let q : ρ y ≡ σ y = p 0 (omega arith) in
    ap₂ ◌∷◌ q (map_same ρ σ ys (λ k h. p (suc k) (omega arith)))

-- one of some variables changed
record Other (ρ σ : ℕ → ℕ) (ys : List ℕ) : Type 0 where
  place : ℕ
  inside : place < length ys
  other : ρ (get_or ys place 0) ≡ σ (get_or ys place 0) → ⊥

changed_other : (ρ σ : ℕ → ℕ) (ys : List ℕ) → any_changed eqb ρ σ ys ≡ true → Other ρ σ ys
unfolding any_changed
changed_other ρ σ [] e = absurd (true≢false (sym e))
changed_other ρ σ (y ∷ ys) e = go (eqb (ρ y) (σ y)) refl (changed_other ρ σ ys)
  where
    go : (b : Bool) → eqb (ρ y) (σ y) ≡ b → (any_changed eqb ρ σ ys ≡ true → Other ρ σ ys) → Other ρ σ (y ∷ ys)
    go true q ih = let o = ih (rw q at e) in record { place = suc o.place; inside = omega (arith, o.inside); other = o.other }
    go false q ih = record { place = 0; inside = omega arith; other = eqb-false (ρ y) (σ y) q }

other_changed : (ρ σ : ℕ → ℕ) (ys : List ℕ) (k : ℕ) → k < length ys → (ρ (get_or ys k 0) ≡ σ (get_or ys k 0) → ⊥) → any_changed eqb ρ σ ys ≡ true
unfolding any_changed
other_changed ρ σ [] k h ne = absurd (omega arith)
other_changed ρ σ (y ∷ ys) zero h ne = go (eqb (ρ y) (σ y)) refl
  where
    go : (b : Bool) → eqb (ρ y) (σ y) ≡ b → cond (eqb (ρ y) (σ y)) (any_changed eqb ρ σ ys) true ≡ true
    go true q = absurd (ne (eqb-true (ρ y) (σ y) q))
    go false q = rw q
other_changed ρ σ (y ∷ ys) (suc k) h ne = rw (other_changed ρ σ ys k (omega arith) ne) (go (eqb (ρ y) (σ y)))
  where
    go : (b : Bool) → cond b true true ≡ true
    go true = refl
    go false = refl

both_ways : (a b : Bool) → (a ≡ true → b ≡ true) → (b ≡ true → a ≡ true) → a ≡ b
both_ways true b p q = sym (p refl)
both_ways false true p q = q refl
both_ways false false p q = refl

-- no equation
abbrev blank : Equation
blank = record { bound = 0; arguments = [] }

module _ (file : List ℕ) (m : Model) (v : List ℕ) where
  abbrev n : ℕ
  n = m.lines

  abbrev f : List ℕ → ℕ
  f = query (system_in file m)

  abbrev es : List Equation
  es = equation_system (sign (system_in file m)) m.levels v

  -- the run at a stage: that stage, and the stages after it, are ahead
  pub record Running (words₀ state : List ℕ) (flags : List Bool) (queue words : List ℕ) (number left count : ℕ) : Type 0 where
    pub t : List ℕ
    pub cs : List ℕ
    pub due_now : Equation → Bool
    pub t_long : length t ≡ leaves v
    pub cs_long : length cs ≡ leaves v
    pub state_is : (y : ℕ) → y ≤ leaves v → get_or state y 0 ≡ value_in (sets n) t y
    pub words_is : (y : ℕ) → y ≤ leaves v → get_or words y 0 ≡ value_in (sets n) cs y
    pub beyond : (k : ℕ) → leaves v < k → get_or words k 0 ≡ get_or words₀ k 0
    pub words_long : length words ≡ length words₀
    pub flagged : (i : ℕ) → i < leaves v → get_or flags i false ≡ due_now (get_or es i blank)
    pub queued : Queued (leaves v) flags queue number
    pub ahead : Ahead n f es (run (sets n) eqb f es (leaves v * n + 1)) due_now left count t cs
    pub room : count + 1024 * left ≤ 67109888
    -- what is not due is in the words as in the state
    pub carried : (i : ℕ) → i < leaves v → due_now (get_or es i blank) ≡ false → get_or t i 0 ≡ get_or cs i 0

  module _ (tree : Lent (greatest_of (system_in file m) m.levels) v) where
    equation_count : length es ≡ leaves v
    equation_count = generate_count (sign (system_in file m)) m.levels 0 [] 0 v tree.tree

    equation_of : (i : ℕ) → i < leaves v → get_or es i blank ≡ record { bound = i; arguments = arguments_in file m v i }
    equation_of i h = leaf_equation (sign (system_in file m)) v m.levels tree.tree blank i h

    variable_count : (i : ℕ) → length (variables_in file m v i) ≡ suc m.levels
    variable_count i = omega (arith, argument_count (sign (system_in file m)) v i m.levels [])

    variable_within : (i : ℕ) → i < leaves v → (k : ℕ) → k < suc m.levels → get_or (variables_in file m v i) k 0 ≤ leaves v
    variable_within i h zero p = omega arith
    variable_within i h (suc k) p =
        let q : k < m.levels = omega arith in
        omega (arith, argument_at_lem (sign (system_in file m)) v i m.levels k q, argument_within (sign (system_in file m)) v i k (omega arith))

    -- a right side by a valuation that is a state at every variable
    right_side_of : (state : List ℕ) (ρ : ℕ → ℕ) → ((y : ℕ) → y ≤ leaves v → get_or state y 0 ≡ ρ y) → (i : ℕ) → i < leaves v
        → right_side (sets n) f ρ (get_or es i blank) ≡ right_side_at file m v state i
    right_side_of state ρ p i h =
        let b : ρ i ≡ get_or state i 0 = sym (p i (omega arith)) in
        let a : map ρ (arguments_in file m v i) ≡ map (λ y. get_or state y 0) (arguments_in file m v i)
        = map_same ρ (λ y. get_or state y 0) (arguments_in file m v i) (λ k q. sym (p (get_or (arguments_in file m v i) k 0) (variable_within i h (suc k) (omega (arith, variable_count i))))) in
        ap (right_side (sets n) f ρ) (equation_of i h)
        ∙ ap₂ (λ (x : ℕ) (ys : List ℕ). (sets n).step 0 x (f ys)) b a
        ∙ step_from_empty (get_or state i 0) (f (map (λ y. get_or state y 0) (arguments_in file m v i)))

    -- the first stage is to be made: every right side is due
    pub running_first : (x : ℕ) (words₀ : List ℕ) (flags₀ flags : List Bool) (queue : List ℕ) (number : ℕ) → x ≡ full n → leaves v < length words₀ → n ≤ 64
        → Queued (leaves v) flags queue number → Flagged 0 (leaves v) flags₀ flags
        → Running (set words₀ 0 x) (x ∷ replicate 1024 0) flags queue (set words₀ 0 x) number (leaves v * n + 1) 0
    running_first x words₀ flags₀ flags queue number e h few queued all =
        let w = leaves v in
        let small : w ≤ 1024 = omega (arith, tree.few) in
        let cs = take w (drop 1 words₀) in
        let cs_long : length cs ≡ w = length-take-le w (drop 1 words₀) (omega (arith, length-drop 1 words₀)) in
        record {
          t = start (sets n) es;
          cs = cs;
          due_now = λ q. true;
          t_long = length-replicate {A = ℕ} (length es) 0 ∙ equation_count;
          cs_long = cs_long;
          state_is = state_at;
          words_is = words_at;
          beyond = λ k p. refl;
          words_long = refl;
          flagged = λ i p. all.span i (omega arith) p;
          queued = queued;
          ahead = ahead_first n f es (query_monotone (system_in file m)) (w * n + 1) cs (omega (arith, equation_count, cs_long));
          room = omega (arith, mul-le-mul small few);
          carried = λ i p q. absurd (true≢false q);
        }
      where
        state_at : (y : ℕ) → y ≤ leaves v → get_or (x ∷ replicate 1024 0) y 0 ≡ value_in (sets n) (start (sets n) es) y
        state_at zero p = e
        state_at (suc i) p = get_or-replicate 1024 i 0 0 (omega (arith, tree.few)) ∙ sym (get_or-replicate (length es) i 0 0 (omega (arith, equation_count)))

        words_at : (y : ℕ) → y ≤ leaves v → get_or (set words₀ 0 x) y 0 ≡ value_in (sets n) (take (leaves v) (drop 1 words₀)) y
        words_at zero p = get_or-set_same words₀ 0 x 0 (omega arith) ∙ e
        words_at (suc i) p =
            let z : 1 + i ≡ suc i = omega arith in
            get_or-set_other words₀ 0 (suc i) x 0 (λ q. omega arith)
            ∙ sym (get_or-take (leaves v) (drop 1 words₀) i 0 (omega arith) ∙ get_or-drop 1 words₀ i 0 ∙ ap (λ (k : ℕ). get_or words₀ k 0) z)

    module _ {words₀ state : List ℕ} {flags : List Bool} {queue words : List ℕ} {number left count : ℕ} (r : Running words₀ state flags queue words number left count) where
      abbrev u : List ℕ
      u = next_by n f es r.due_now r.t r.cs

      u_long : length u ≡ leaves v
      u_long = chosen_length r.due_now (right_side (sets n) f (value_in (sets n) r.t)) es r.cs (omega (arith, equation_count, r.cs_long)) ∙ equation_count

      -- the stage takes no line away
      pub running_grows : Grows file m v state
      running_grows i h =
          let R = r.ahead.reached in
          let whole = order.empty_least (full n) in
          let right : value_in (sets n) u (suc i) ≡ right_side_at file m v state i
          = ap (λ (xs : List ℕ). get_or xs i 0) R.evaluated
          ∙ get_d_map_in (right_side (sets n) f (value_in (sets n) r.t)) es i blank 0 (omega (arith, equation_count))
          ∙ right_side_of state (value_in (sets n) r.t) r.state_is i h in (
            full_below n (get_or state i 0) (rw (r.state_is i (omega arith)) (value_in_lem (sets n) (sets_lawful n) whole R.within i).below),
            rw (add-one i, r.state_is (suc i) (omega arith), ← right) (below_value (sets n) (sets_lawful n) R.grows (suc i)),
          )

      pub running_carried : Carried (leaves v) flags state words
      running_carried = record {
        first = r.state_is 0 (omega arith) ∙ sym (r.words_is 0 (omega arith));
        others = λ i h e.
            ap (λ (k : ℕ). get_or state k 0) (add-one i) ∙ r.state_is (suc i) (omega arith)
            ∙ r.carried i h (sym (r.flagged i h) ∙ e)
            ∙ sym (ap (λ (k : ℕ). get_or words k 0) (add-one i) ∙ r.words_is (suc i) (omega arith));
      }

      number_is : number ≡ chosen_count r.due_now es
      number_is =
          r.queued.counted
          ∙ flags_count r.due_now blank es flags (leaves v) (omega (arith, equation_count)) r.flagged
          ∙ ap (chosen_count r.due_now) (take_all (leaves v) es (omega (arith, equation_count)))

      pub number_few : number ≤ 1024
      number_few = omega (arith, number_is, count_within r.due_now es, equation_count, tree.few)

      module _ (words' : List ℕ) (long : length words' ≡ length words) (made : Evaluated file m v flags state words words') where
        -- what the stage leaves
        words_next : (y : ℕ) → y ≤ leaves v → get_or words' y 0 ≡ value_in (sets n) u y
        words_next zero h = made.first ∙ r.words_is 0 h
        words_next (suc i) h =
            ap (λ (k : ℕ). get_or words' k 0) (sym (add-one i))
            ∙ go (r.due_now (get_or es i blank)) refl
            ∙ sym (chosen_at r.due_now (right_side (sets n) f (value_in (sets n) r.t)) blank es r.cs i (omega (arith, equation_count)) (omega (arith, equation_count, r.cs_long)))
          where
            go : (b : Bool) → r.due_now (get_or es i blank) ≡ b
                → get_or words' (i + 1) 0 ≡ cond (r.due_now (get_or es i blank)) (right_side (sets n) f (value_in (sets n) r.t) (get_or es i blank)) (get_or r.cs i 0)
            go true e = rw e (made.due i h (r.flagged i h ∙ e) ∙ sym (right_side_of state (value_in (sets n) r.t) r.state_is i h))
            go false e =
                rw e (made.kept i h (r.flagged i h ∙ e) ∙ ap (λ (k : ℕ). get_or words k 0) (add-one i) ∙ r.words_is (suc i) h)

        -- whether nothing changed
        module _ (changed : List ℕ) (others : ℕ) (listed : Listed (leaves v) state words' changed others) where
          none_other : others ≡ 0 → alike eqb r.t u ≡ true
          none_other none = alike_same r.t u (r.t_long ∙ sym u_long) same
            where
              same : (i : ℕ) → i < length r.t → get_or r.t i 0 ≡ get_or u i 0
              same i h = go (eqb (get_or r.t i 0) (get_or u i 0)) refl
                where
                  go : (b : Bool) → eqb (get_or r.t i 0) (get_or u i 0) ≡ b → get_or r.t i 0 ≡ get_or u i 0
                  go true e = eqb-true (get_or r.t i 0) (get_or u i 0) e
                  go false e =
                      let p : suc i ≤ leaves v = omega (arith, r.t_long) in
                      let entry = listed.all (suc i) p (λ q. eqb-false (get_or r.t i 0) (get_or u i 0) e (sym (r.state_is (suc i) p) ∙ q ∙ words_next (suc i) p)) in
                      absurd (omega (arith, entry.inside))

          some_other : (others ≡ 0 → ⊥) → alike eqb r.t u ≡ false
          some_other some = go (get_or changed 0 0) (listed.inside 0 (omega arith)) (listed.other 0 (omega arith))
            where
              go : (y : ℕ) → y ≤ leaves v → (get_or state y 0 ≡ get_or words' y 0 → ⊥) → alike eqb r.t u ≡ false
              go zero p ne = absurd (ne (r.state_is 0 p ∙ sym (words_next 0 p)))
              go (suc i) p ne =
                  alike_other r.t u i (omega (arith, r.t_long)) (omega (arith, u_long)) (λ q. ne (r.state_is (suc i) p ∙ q ∙ sym (words_next (suc i) p)))

          -- a leaf is due exactly if a variable that changed has it in its span
          due_spans : {from to : List ℕ} {flags' : List Bool} → Spans file m v from to → FlaggedFor (leaves v) state words' from to flags'
              → (i : ℕ) → i < leaves v → get_or flags' i false ≡ due (sets n) eqb r.t u (get_or es i blank)
          due_spans {from} {to} {flags'} spans by i h =
              both_ways (get_or flags' i false) (due (sets n) eqb r.t u (get_or es i blank)) caused flagged_so
            where
              is_due : due (sets n) eqb r.t u (get_or es i blank) ≡ any_changed eqb (value_in (sets n) r.t) (value_in (sets n) u) (variables_in file m v i)
              is_due = ap (due (sets n) eqb r.t u) (equation_of i h)

              caused : get_or flags' i false ≡ true → due (sets n) eqb r.t u (get_or es i blank) ≡ true
              caused e =
                  let c = by.only i h e in
                  let y = c.variable in
                  let entry = spans.only i y c.few c.after c.up_to in
                  is_due
                  ∙ other_changed (value_in (sets n) r.t) (value_in (sets n) u) (variables_in file m v i) entry.place (omega (arith, entry.inside, variable_count i))
                  (λ q. c.other (r.state_is y c.few ∙ ap (value_in (sets n) r.t) (sym entry.is) ∙ q ∙ ap (value_in (sets n) u) entry.is ∙ sym (words_next y c.few)))

              flagged_so : due (sets n) eqb r.t u (get_or es i blank) ≡ true → get_or flags' i false ≡ true
              flagged_so e =
                  let o = changed_other (value_in (sets n) r.t) (value_in (sets n) u) (variables_in file m v i) (sym is_due ∙ e) in
                  let y = get_or (variables_in file m v i) o.place 0 in
                  let k : o.place < suc m.levels = omega (arith, o.inside, variable_count i) in
                  let few : y ≤ leaves v = variable_within i h o.place k in
                  let span = spans.has i y h (record { place = o.place; inside = k; is = refl }) in
                  by.all i (record {
                    variable = y;
                    few = few;
                    other = λ q. o.other (sym (r.state_is y few) ∙ q ∙ words_next y few);
                    after = span.0;
                    up_to = span.1;
                  })

          -- the next stage is to be made
          pub running_more : (state' : List ℕ) (flags' : List Bool) (queue' from to : List ℕ) (number' left' : ℕ) → left ≡ suc left' → (others ≡ 0 → ⊥)
              → ((y : ℕ) → y ≤ leaves v → get_or state' y 0 ≡ get_or words' y 0)
              → Spans file m v from to → FlaggedFor (leaves v) state words' from to flags' → Queued (leaves v) flags' queue' number'
              → Running words₀ state' flags' queue' words' number' left' (count + number)
          running_more state' flags' queue' from to number' left' more some taken spans by queued = record {
            t = u;
            cs = u;
            due_now = due (sets n) eqb r.t u;
            t_long = u_long;
            cs_long = u_long;
            state_is = λ y h. taken y h ∙ words_next y h;
            words_is = words_next;
            beyond = λ k h. made.beyond k h ∙ r.beyond k h;
            words_long = long ∙ r.words_long;
            flagged = due_spans spans by;
            queued = queued;
            ahead =
                subst (λ (k : ℕ). Ahead n f es (run (sets n) eqb f es (leaves v * n + 1)) (due (sets n) eqb r.t u) left' (count + k) u u) (sym number_is)
                (ahead_more n f es (query_monotone (system_in file m)) left'
                (subst (λ (k : ℕ). Ahead n f es (run (sets n) eqb f es (leaves v * n + 1)) r.due_now k count r.t r.cs) more r.ahead)
                (some_other some));
            room = omega (arith, r.room, number_few);
            carried = λ i p q. refl;
          }

          ended : ((run (sets n) eqb f es (leaves v * n + 1)).value ≡ u) × ((run (sets n) eqb f es (leaves v * n + 1)).queries ≡ count + chosen_count r.due_now es)
              → (get_or words' (leaves v) 0 ≡ (staged_run (system_in file m) v).value) × (count + number ≡ (staged_run (system_in file m) v).queries)
          ended e = (
            words_next (leaves v) (omega arith) ∙ sym (ap (λ (xs : List ℕ). value_in (sets n) xs (leaves v)) e.0),
            ap (λ (k : ℕ). count + k) number_is ∙ sym e.1,
          )

          -- the end: nothing changed, or no stage is allowed any more
          pub running_settled : others ≡ 0 → (get_or words' (leaves v) 0 ≡ (staged_run (system_in file m) v).value) × (count + number ≡ (staged_run (system_in file m) v).queries)
          running_settled none = ended (ahead_settled n f es left r.ahead (none_other none))

          pub running_spent : left ≡ 0 → (get_or words' (leaves v) 0 ≡ (staged_run (system_in file m) v).value) × (count + number ≡ (staged_run (system_in file m) v).queries)
          running_spent none =
              ended (ahead_spent n f es (subst (λ (k : ℕ). Ahead n f es (run (sets n) eqb f es (leaves v * n + 1)) r.due_now k count r.t r.cs) none r.ahead))

        -- what is behind the variables stays
        pub rest_kept : drop (leaves v + 1) words' ≡ drop (leaves v + 1) words₀
        rest_kept =
            ext_get_or 0 (drop (leaves v + 1) words') (drop (leaves v + 1) words₀)
            (omega (arith, length-drop (leaves v + 1) words', length-drop (leaves v + 1) words₀, long, r.words_long))
            (λ k h. get_or-drop (leaves v + 1) words' k 0 ∙ made.beyond (leaves v + 1 + k) (omega arith) ∙ r.beyond (leaves v + 1 + k) (omega arith) ∙ sym (get_or-drop (leaves v + 1) words₀ k 0))

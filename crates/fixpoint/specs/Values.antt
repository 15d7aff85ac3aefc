-- What a nested fixpoint is taken over: values with an order, meet and join, a bounded step, and the two extreme fixed points of a function.
-- Operations alone, so that a definition over them can be read without a proof; their laws are a record of their own (Lawful.antt).
-- Assumes nothing.
use Rattle.std.specs.Prelude.{ℕ}

pub record Values : Type 1 where
  pub C : Type 0
  pub ◌⊑◌ : C → C → Type 0
  infix 40 ◌⊑◌
  pub bot : C
  pub top : C
  pub meet : C → C → C
  pub join : C → C → C
  -- the bounded step: between a and b, towards x
  pub step : C → C → C → C
  -- the least and the greatest fixed point
  pub lfp : (C → C) → C
  pub gfp : (C → C) → C
  -- strictly monotone, so that it bounds the length of a chain
  pub rank : C → ℕ

-- `evaluator::decide` meets its contract: the lines that are asked are looked at by what they are without operands, and those decided change.
-- Assumes nothing.
use native.Mathlib.Omega.{arith}
use Rattle.model.specs.Held.{system_in}
use Rattle.model.proofs.Places.{word_room}
use Rattle.evaluator.proofs.DecidedLines.{next, next_none}
use Rattle.evaluator.proofs.Needs.{turned}
use Rattle.evaluator.proofs.decide.Goals as goal

pub returns : goal.returns
returns c =
    let z = c.args in
    let m = z.file.model in
    let carry = z.carry in
    let hits = c.meeting-hits.ensures in
    let n =
    next (system_in z.file.bytes.now m) z.file.held.votes z.k z.x z.bounds.low z.bounds.high carry.pending carry.needs.now
    (word_room m.lines m.levels z.file.bytes.now z.k c.requires.0) c.requires.1 _ _ _ hits.met hits.lowered _ (turned z.x (omega arith)) c.selecting-missed.ensures in
    record { few = n.0; next = n.1 }

pub returns-then-asked-eq0 : goal.returns-then-asked-eq0
returns-then-asked-eq0 c =
    let z = c.args in
    let m = z.file.model in
    let carry = z.carry in
    let n =
    next_none (system_in z.file.bytes.now m) z.file.held.votes z.k z.x z.bounds.low z.bounds.high carry.pending carry.needs.now
    (word_room m.lines m.levels z.file.bytes.now z.k c.requires.0) c.requires.1 _ (turned z.x (omega arith)) c.if-asked-eq0.true in
    record { few = n.0; next = n.1 }

-- `routes::innermost_level` meets its contract: each of its two calls says the sign that was asked.
-- Assumes nothing.
use Rattle.routes.proofs.innermost.innermost_level.Goals as goal

pub returns-then-greatest : goal.returns-then-greatest
returns-then-greatest c = rw c.if-greatest.true c.over_leaves.ensures

pub returns-else-greatest : goal.returns-else-greatest
returns-else-greatest c = rw c.if-greatest.false c.over_leaves-else-greatest.ensures

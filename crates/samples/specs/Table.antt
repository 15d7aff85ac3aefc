-- The samples that document 01 marks † and those of the requests as one table: what the definitions give beside what the papers say.
-- Assumes nothing.
use Rattle.std.specs.Prelude.{List, [], ◌∷◌, ◌++◌, ◌≡◌, ℕ}
use Rattle.trees.specs.Built.{built, leaf_count}
use Rattle.system.specs.System.{System, sign}
use Rattle.system.specs.Joined.{joined}
use Rattle.admission.specs.Checks.{forecast}
use Rattle.routes.specs.Routes.{built_least, built_greatest, nested_set, plain_run, restricted_set, restricted_count}
use Rattle.share.specs.Share.{share_of}
use Rattle.met_lines.specs.MetLines.{met_lines, met_share}
use Rattle.page_layout.specs.Page.{page}
use Rattle.one_sided.specs.Equations.{Equation, equation_system}
use Rattle.one_sided_route.specs.Route.{one_sided_set, staged_run}
use Rattle.samples.specs.Models.{P, Q, one, dead_ends, pyrometers, one_line_twice, spares, met_at_level2, sixteen_met, idle_lines}

-- what the definitions give, and what the papers say or what follows from them by hand
pub record Row : Type 0 where
  pub given : List ℕ
  pub said : List ℕ

abbrev pub row : List ℕ → List ℕ → Row
row given said = record { given = given; said = said }

-- a model between two bounds: the nested fixpoint, then the plain set and count
abbrev pub plainly : System → ℕ → ℕ → List ℕ
plainly m a b = nested_set m a b ∷ (plain_run m a b).value ∷ (plain_run m a b).queries ∷ []

-- the set and count over two trees
abbrev pub over : System → ℕ → ℕ → List ℕ → List ℕ → List ℕ
over m a b u v = restricted_set m a b u v ∷ restricted_count m u v ∷ []

-- the set and count over the built-in trees
abbrev pub over_built : System → ℕ → ℕ → List ℕ
over_built m a b = over m a b (built_least m m.lines) (built_greatest m m.lines)

-- the one-sided set over a tree, then the set and the evaluations of the run by stages
abbrev pub one_sidedly : System → List ℕ → List ℕ
one_sidedly m v = one_sided_set m v ∷ (staged_run m v).value ∷ (staged_run m v).queries ∷ []

-- the variables of some equations: of each the bound, then the arguments, that of level 1 first
abbrev pub variables : List Equation → List ℕ
variables [] = []
variables (e ∷ es) = e.bound ∷ e.arguments ++ variables es

-- P's bench page as it is taped, in ASCII: `lines  2 levels 2 share 1000`, ` 0 all +` and ` 1 any +`, each with blanks up to 40 characters and a newline
abbrev pub page_of_p : List ℕ
page_of_p =
    108 ∷ 105 ∷ 110 ∷ 101 ∷ 115 ∷ 32 ∷ 32 ∷ 50 ∷ 32 ∷ 108 ∷ 101 ∷ 118 ∷ 101 ∷ 108 ∷ 115 ∷ 32 ∷ 50 ∷ 32 ∷ 115 ∷ 104 ∷ 97 ∷ 114 ∷ 101 ∷ 32 ∷ 49 ∷ 48 ∷ 48 ∷ 48 ∷ 32 ∷ 32 ∷ 32 ∷ 32 ∷ 32 ∷ 32 ∷ 32 ∷ 32 ∷ 32 ∷ 32 ∷ 32 ∷ 32 ∷ 10 ∷
    32 ∷ 48 ∷ 32 ∷ 97 ∷ 108 ∷ 108 ∷ 32 ∷ 43 ∷ 32 ∷ 32 ∷ 32 ∷ 32 ∷ 32 ∷ 32 ∷ 32 ∷ 32 ∷ 32 ∷ 32 ∷ 32 ∷ 32 ∷ 32 ∷ 32 ∷ 32 ∷ 32 ∷ 32 ∷ 32 ∷ 32 ∷ 32 ∷ 32 ∷ 32 ∷ 32 ∷ 32 ∷ 32 ∷ 32 ∷ 32 ∷ 32 ∷ 32 ∷ 32 ∷ 32 ∷ 32 ∷ 10 ∷
    32 ∷ 49 ∷ 32 ∷ 97 ∷ 110 ∷ 121 ∷ 32 ∷ 43 ∷ 32 ∷ 32 ∷ 32 ∷ 32 ∷ 32 ∷ 32 ∷ 32 ∷ 32 ∷ 32 ∷ 32 ∷ 32 ∷ 32 ∷ 32 ∷ 32 ∷ 32 ∷ 32 ∷ 32 ∷ 32 ∷ 32 ∷ 32 ∷ 32 ∷ 32 ∷ 32 ∷ 32 ∷ 32 ∷ 32 ∷ 32 ∷ 32 ∷ 32 ∷ 32 ∷ 32 ∷ 32 ∷ 10 ∷ []

unfoldable pub table : List Row
table =
    row (plainly Q 0 3) (0 ∷ 0 ∷ 3 ∷ []) ∷
    row (over_built Q 0 3) (0 ∷ 4 ∷ []) ∷
    row (over P 0 3 [] []) (2 ∷ 1 ∷ []) ∷
    row (over P 0 3 (1 ∷ []) []) (3 ∷ 2 ∷ []) ∷
    row (over Q 0 3 [] []) (1 ∷ 1 ∷ []) ∷
    row (plainly (one 0) 0 1) (0 ∷ 0 ∷ 1 ∷ []) ∷
    row (plainly (one 1) 0 1) (1 ∷ 1 ∷ 1 ∷ []) ∷
    row (nested_set P 1 1 ∷ (plain_run P 1 1).value ∷ over_built P 1 1) (1 ∷ 1 ∷ 1 ∷ 4 ∷ []) ∷
    row (built 2 2) (2 ∷ 1 ∷ []) ∷
    row (built 3 2) (2 ∷ 1 ∷ 1 ∷ 2 ∷ []) ∷
    row (leaf_count 4 2 ∷ leaf_count 8 2 ∷ leaf_count 4 3 ∷ leaf_count 64 1 ∷ []) (8 ∷ 21 ∷ 13 ∷ 64 ∷ []) ∷
    -- the output that document 01 gives for P
    row (plainly P 0 3) (3 ∷ 3 ∷ 3 ∷ []) ∷
    row (over_built P 0 3) (3 ∷ 4 ∷ []) ∷
    -- its page (request W1)
    row (page P (nested_set P 0 3)) page_of_p ∷
    -- Lines without operands (request W2). A least level begins with no line: the first round gives line 1 alone, since the lines 2 and 3 stand on
    -- themselves, and the second the same. A greatest level begins with all lines: the first round takes line 0 alone away, and the second none.
    -- S(4, 1) has four leaves, S(4, 0) one.
    row (plainly (dead_ends 0) 0 15 ++ over_built (dead_ends 0) 0 15) (2 ∷ 2 ∷ 2 ∷ 2 ∷ 4 ∷ []) ∷
    row (plainly (dead_ends 1) 0 15 ++ over_built (dead_ends 1) 0 15) (14 ∷ 14 ∷ 2 ∷ 14 ∷ 4 ∷ []) ∷
    -- Shares at a half (request W3): one good line of 16 has 62.5 thousandths, three have 187.5.
    row (share_of 1 16 ∷ share_of 3 16 ∷ []) (62 ∷ 188 ∷ []) ∷
    -- Votes (request W4). Two of three: level 1 goes from no line to lines 1 and 2, then, with the vote, to lines 0 to 2, and a third round changes
    -- nothing; level 2 goes from all lines to these, and a second round, of three queries again, changes nothing. S(4, 1) has four leaves.
    row (plainly (pyrometers 2) 0 15 ++ over_built (pyrometers 2) 0 15) (7 ∷ 7 ∷ 6 ∷ 7 ∷ 16 ∷ []) ∷
    -- All three: the vote stays unset, so that two rounds of level 1 are enough, in each of the two rounds of level 2.
    row (plainly (pyrometers 3) 0 15 ++ over_built (pyrometers 3) 0 15) (6 ∷ 6 ∷ 4 ∷ 6 ∷ 16 ∷ []) ∷
    -- One line that is selected at two levels is two operands.
    row (plainly one_line_twice 0 3 ++ over_built one_line_twice 0 3) (3 ∷ 3 ∷ 3 ∷ 3 ∷ 4 ∷ []) ∷
    -- The heights that the table of leaf counts leaves out (request W5): 1 leaf and n leaves, and none where n is 0.
    row (leaf_count 0 0 ∷ leaf_count 1 0 ∷ leaf_count 64 0 ∷ leaf_count 0 1 ∷ leaf_count 1 1 ∷ leaf_count 63 1 ∷ []) (0 ∷ 1 ∷ 1 ∷ 0 ∷ 1 ∷ 63 ∷ []) ∷
    -- Joined models (request W6). One line and the dead ends behind it: their words 0, 0, 5 and 10 are moved up by one line, and their set 14 becomes 28
    -- beside the line's own 1. The other way round the line comes fifth, and its set is 16. Each has two rounds: the first takes away the dead end alone,
    -- the second nothing. S(5, 1) has five leaves.
    row (joined (one 1) (dead_ends 1)).words (1 ∷ 0 ∷ 0 ∷ 10 ∷ 20 ∷ []) ∷
    row (plainly (joined (one 1) (dead_ends 1)) 0 31 ++ over_built (joined (one 1) (dead_ends 1)) 0 31) (29 ∷ 29 ∷ 2 ∷ 29 ∷ 5 ∷ []) ∷
    row (plainly (joined (dead_ends 1) (one 1)) 0 31 ++ over_built (joined (dead_ends 1) (one 1)) 0 31) (30 ∷ 30 ∷ 2 ∷ 30 ∷ 5 ∷ []) ∷
    -- P, with the set 3, and the pyrometers behind it, with the set 7: 3 + 4 * 7. Level 1 settles in its third round, as it does in both alone, and level 2 in
    -- its second, as in the pyrometers alone. S(6, 1) has six leaves.
    row (plainly (joined P (pyrometers 2)) 0 63 ++ over_built (joined P (pyrometers 2)) 0 63) (31 ∷ 31 ∷ 6 ∷ 31 ∷ 36 ∷ []) ∷
    -- Lines that can be met from line 0 (request W7): both of P, line 0 alone where it has no operands, of joined models those of the first, and a line that
    -- is an operand at level 2 alone.
    row (met_lines P ∷ met_lines (dead_ends 0) ∷ met_lines (joined P (pyrometers 2)) ∷ met_lines met_at_level2 ∷ []) (3 ∷ 1 ∷ 3 ∷ 5 ∷ []) ∷
    -- Lines 1 and 3 are good. Lines 0 to 2 can be met, so one good line of three counts; of all five lines two are good, which would be 400.
    row (nested_set spares 0 31 ∷ met_lines spares ∷ met_share spares (nested_set spares 0 31) ∷ []) (10 ∷ 7 ∷ 333 ∷ []) ∷
    -- one good line and three good lines of the sixteen that can be met, and one with both spares good beside it
    row (met_share sixteen_met 32768 ∷ met_share sixteen_met 57344 ∷ met_share sixteen_met 229376 ∷ []) (62 ∷ 188 ∷ 62 ∷ []) ∷
    -- The forecast (request W8): S(2, 1) has two leaves, so P and Q have two times two. Of four lines, two least levels and a greatest one, in either order, the
    -- trees have L(4, 2) = 8 and L(4, 1) = 4 leaves; turned over, 4 and 8; with all three least, L(4, 3) = 13 and one. The restricted set makes as many queries.
    row (forecast P ∷ forecast Q ∷ over_built P 0 3) (4 ∷ 4 ∷ 3 ∷ 4 ∷ []) ∷
    row (forecast (idle_lines 4 (0 ∷ 0 ∷ 1 ∷ [])) ∷ forecast (idle_lines 4 (1 ∷ 0 ∷ 0 ∷ [])) ∷ forecast (idle_lines 4 (1 ∷ 0 ∷ 1 ∷ [])) ∷ forecast (idle_lines 4 (0 ∷ 0 ∷ 0 ∷ [])) ∷ []) (32 ∷ 32 ∷ 32 ∷ 13 ∷ []) ∷
    row (over_built (idle_lines 4 (0 ∷ 0 ∷ 1 ∷ [])) 0 15) (15 ∷ 32 ∷ []) ∷
    -- 64 lines, four levels of each sign, as models/largest.model has them: 2,645 leaves on both sides
    row (leaf_count 64 4 ∷ forecast (idle_lines 64 (0 ∷ 1 ∷ 0 ∷ 1 ∷ 0 ∷ 1 ∷ 0 ∷ 1 ∷ [])) ∷ []) (2645 ∷ 6996025 ∷ []) ∷
    -- The equations of document 001's Algorithm 1 (request W9), for least and greatest levels in turn, the innermost least, over two pairs of leaves: level 1 reads
    -- the leaf's own variable, level 2 the one before it, level 3 the last of its pair, level 4 the one before its pair, level 5 the last of all.
    row (variables (equation_system (sign (idle_lines 1 (0 ∷ 1 ∷ 0 ∷ 1 ∷ 0 ∷ []))) 5 (1 ∷ 2 ∷ 1 ∷ [])))
    (0 ∷ 1 ∷ 0 ∷ 2 ∷ 0 ∷ 4 ∷ 1 ∷ 2 ∷ 1 ∷ 2 ∷ 0 ∷ 4 ∷ 2 ∷ 3 ∷ 2 ∷ 4 ∷ 2 ∷ 4 ∷ 3 ∷ 4 ∷ 3 ∷ 4 ∷ 2 ∷ 4 ∷ []) ∷
    -- Its stages over two leaves, which are universal for two lines. P: x1 and x2 become 2 and 0, then 3 and 0, then 3 and 2, with two evaluations each; then x2
    -- alone is due, becomes 3, and is evaluated once more. Q: 1 and 0; then x2 alone is due, and stays.
    row (one_sidedly P (1 ∷ []) ++ one_sidedly Q (1 ∷ [])) (3 ∷ 3 ∷ 8 ∷ 0 ∷ 0 ∷ 3 ∷ []) ∷
    -- Over one leaf, which is not universal, Q's x1 becomes 1, then 3, and stays.
    row (one_sidedly Q []) (3 ∷ 3 ∷ 3 ∷ []) ∷
    -- The dead ends with a greatest level: every variable is evaluated in the first stage, which gives x1 its 14, and then each of the other three once. With a
    -- least one there is one leaf, and two evaluations of it.
    row (one_sidedly (dead_ends 1) (1 ∷ 1 ∷ 1 ∷ []) ++ one_sidedly (dead_ends 0) []) (14 ∷ 14 ∷ 7 ∷ 2 ∷ 2 ∷ 2 ∷ []) ∷
    -- Votes of two and of three over four leaves: in the stages 4, 2, 3, 3, 2 and 1 right sides are due, and 4, 2, 2, 2 and 1.
    row (one_sidedly (pyrometers 2) (1 ∷ 1 ∷ 1 ∷ []) ++ one_sidedly (pyrometers 3) (1 ∷ 1 ∷ 1 ∷ [])) (7 ∷ 7 ∷ 15 ∷ 6 ∷ 6 ∷ 11 ∷ []) ∷
    []

-- every row of a table holds
abbrev pub Holds : List Row → Type 0
Holds [] = Unit {0}
Holds (r ∷ rs) = (r.given ≡ r.said) × Holds rs

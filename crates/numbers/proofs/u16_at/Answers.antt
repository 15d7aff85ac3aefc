-- `numbers::u16_at` meets its contract: its bytes, added up as they are worth, are the number.
-- Assumes nothing.
use Rattle.std.proofs.Common.{◌∙◌}
use Rattle.numbers.proofs.Little.{copied_number}
use Rattle.numbers.proofs.u16_at.Goals as goal

pub returns : goal.returns
returns c = c.from_le_bytes.ensures ∙ copied_number c.args.s.now _ c.args.at 1 c.requires c.bytes_at.ensures

-- `reader::word_at` meets its contract. Assumes nothing.
use mathlib.Core.Path.{sym, ◌∙◌}
use Rattle.record.proofs.RecordLaws.{line_view}
use Rattle.reader.proofs.HeadWays.{word-said}
use borrow.Author.Rules.{rules}
use Rattle.reader.proofs.heads.word_at.Goals as goal

pub slice_bounds-is_trim-end : goal.slice_bounds-is_trim-end
slice_bounds-is_trim-end c = sym (line_view _ _ _ _ _ (sym c.line_at.ensures ∙ c.in-Ok.is)).counted

pub returns : goal.returns
returns c = search (word-said, rules)

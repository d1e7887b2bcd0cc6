-- `is_fields` meets its contract: one answer for each part of the line. Assumes nothing.
use Rattle.supline.proofs.ReadingWays.{fields-ways}
use borrow.Author.Rules.{rules}
use Rattle.supline.proofs.reading.is_fields.Goals as goal

pub returns-then-s-lt-LINE_WIDTH : goal.returns-then-s-lt-LINE_WIDTH
returns-then-s-lt-LINE_WIDTH c = search (fields-ways, rules)

pub returns-then-size-gt-NAME_WIDTH : goal.returns-then-size-gt-NAME_WIDTH
returns-then-size-gt-NAME_WIDTH c = search (fields-ways, rules)

pub slice_bounds-is_same-end : goal.slice_bounds-is_same-end
slice_bounds-is_same-end c = search (fields-ways, rules)

pub returns-then-not-is_same : goal.returns-then-not-is_same
returns-then-not-is_same c = search (fields-ways, rules)

pub slice_bounds-is_same-length-2 : goal.slice_bounds-is_same-length-2
slice_bounds-is_same-length-2 c = search (fields-ways, rules)

pub returns-then-not-is_same-2 : goal.returns-then-not-is_same-2
returns-then-not-is_same-2 c = search (fields-ways, rules)

pub returns-then-not-is_same-3 : goal.returns-then-not-is_same-3
returns-then-not-is_same-3 c = search (fields-ways, rules)

pub returns : goal.returns
returns c = search (fields-ways, rules)

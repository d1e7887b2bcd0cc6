-- `is_right_date` meets its contract: the date stands right aligned. Assumes nothing.
use Rattle.supline.proofs.ReadingWays.{fields-ways}
use borrow.Author.Rules.{rules}
use Rattle.supline.proofs.reading.is_right_date.Goals as goal

pub returns-then-s-lt-LINE_WIDTH : goal.returns-then-s-lt-LINE_WIDTH
returns-then-s-lt-LINE_WIDTH c = search (fields-ways, rules)

pub returns-then-not-is_date : goal.returns-then-not-is_date
returns-then-not-is_date c = search (fields-ways, rules)

pub returns : goal.returns
returns c = search (fields-ways, rules)

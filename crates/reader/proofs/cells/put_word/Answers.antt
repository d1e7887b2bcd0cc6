-- `put_word` meets its contract: the part that is copied is the content without blanks at its ends. Assumes nothing.
use native.Mathlib.Omega.{arith}
use Rattle.reader.proofs.Storing.{never-padded, word_in, word-part}
use Rattle.reader.proofs.cells.put_word.Goals as goal

pub overflow_add-word : goal.overflow_add-word
overflow_add-word c = omega (arith, word_in _ _ c.word_of.ensures _ _ c.in-Some.is)

pub slice_bounds-put_letters-end : goal.slice_bounds-put_letters-end
slice_bounds-put_letters-end c = word_in _ _ c.word_of.ensures _ _ c.in-Some.is

pub put_letters-requires : goal.put_letters-requires
put_letters-requires c = rw (word-part _ _ c.word_of.ensures _ _ c.in-Some.is) c.requires

pub returns-in-Some : goal.returns-in-Some
returns-in-Some c = rw (word-part _ _ c.word_of.ensures _ _ c.in-Some.is) at c.put_letters.ensures

pub returns-in_default : goal.returns-in_default
returns-in_default c = absurd (never-padded _ _ c.word_of.ensures c.in_default.is)

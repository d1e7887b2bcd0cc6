-- `convert_text` meets its contract: too long, or what the input is converted to. Assumes nothing.
use Rattle.conversion.proofs.CleanWays.{text-long, text-short}
use Rattle.conversion.proofs.convert_text.Goals as goal

pub returns-then-src-gt-INPUT_MOST : goal.returns-then-src-gt-INPUT_MOST
returns-then-src-gt-INPUT_MOST c =
    let said = text-long c.args.src.now _ c.args.out.now _ c.if-src-gt-INPUT_MOST.true (rw c.number.ensures at c.refused_text.ensures.value) (rw c.number.ensures at c.refused_text.ensures.out_after)
    in record { value = said.0; out_after = said.1 }

pub returns : goal.returns
returns c =
    let said = text-short c.args.src.now _ c.args.out.now _ c.if-src-gt-INPUT_MOST.false c.converted_text.ensures.value c.converted_text.ensures.out_after
    in record { value = said.0; out_after = said.1 }

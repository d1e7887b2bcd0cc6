-- `reader::head_at` meets its contract. Assumes nothing.
use Rattle.reader.proofs.HeadTrust.{own_read}
use Rattle.reader.proofs.heads.head_at.Goals as goal

pub border_at-requires : goal.border_at-requires
border_at-requires c = record { key_says = (c.in_ok-key.ensures, c.in-1.is); vouched = c.requires }

pub note_at-requires : goal.note_at-requires
note_at-requires c = record { key_says = (c.in_ok-key.ensures, c.in-2.is); vouched = c.requires }

pub sign_at-requires : goal.sign_at-requires
sign_at-requires c = record { key_says = (c.in_ok-key.ensures, c.in-3.is); vouched = c.requires }

pub mark_at-requires : goal.mark_at-requires
mark_at-requires c = record { key_says = (c.in_ok-key.ensures, c.in-4.is); vouched = c.requires }

pub path_at-requires : goal.path_at-requires
path_at-requires c = (c.in_ok-key.ensures, c.in-5.is)

pub returns-in-5 : goal.returns-in-5
returns-in-5 c = own_read c.args.mode c.args.src.now c.args.at c.args.judged c.path_at.result c.path_at.ensures

-- `area::net_area` meets its contract: a row that was found stands within its tables. Assumes nothing.
use Rattle.row.proofs.SeekLaws.{stood}
use Rattle.area.proofs.QuestionWays.{stood-islands}
use Rattle.area.proofs.net_area.Goals as goal

pub net_area_of-requires : goal.net_area_of-requires
net_area_of-requires c = stood-islands _ _ _ _ _ (stood _ _ _ _ c.in_ok-d.d _ c.seek.ensures c.in_ok-d.was) _ c.left_at-own.ensures

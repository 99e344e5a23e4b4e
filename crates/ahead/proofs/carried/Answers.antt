-- An effect that leads on is carried out; where it does not, nothing is taken.
use Rattle.ahead.proofs.Laws.{goes_none, item-goes}
use borrow.Enum.Refused.{opened}
use Rattle.ahead.proofs.carried.Goals as goal

pub returns-in-Err : goal.returns-in-Err
returns-in-Err c = goes_none _ _ _ _ c.none.ensures

pub returns-in-Frame : goal.returns-in-Frame
returns-in-Frame c = goes_none _ _ _ _ c.none-in-Frame.ensures

pub returns-in_default : goal.returns-in_default
returns-in_default c =
    item-goes c.requires c.in-Ok.is (opened c.in_default.in_default-own.keys2) c.take-taken.ensures c.stands_in.ensures c.around_at.ensures

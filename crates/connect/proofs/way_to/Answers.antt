-- `connect::way_to` meets its contract. Assumes nothing.
use Rattle.connect.proofs.way_to.Goals as goal

pub returns-in-North : goal.returns-in-North
returns-in-North c = rw c.in-North.is

pub returns-in-East : goal.returns-in-East
returns-in-East c = rw c.in-East.is

pub returns-in-South : goal.returns-in-South
returns-in-South c = rw c.in-South.is

pub returns-in-West : goal.returns-in-West
returns-in-West c = rw c.in-West.is

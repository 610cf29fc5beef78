use Rattle.house_history.proofs.Marks.{house-stays}
use Rattle.house_history.proofs.laws.no_row_drops_the_house.Goals as goal

pub returns : goal.returns
returns c = house-stays

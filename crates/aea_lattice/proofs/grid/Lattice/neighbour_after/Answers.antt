use Rattle.aea_lattice.proofs.grid.Lattice.neighbour_after.Goals as goal

pub returns-in-Horiz : goal.returns-in-Horiz
returns-in-Horiz c = rw c.in-Horiz.is c.horiz_output.ensures

pub returns-in-Right : goal.returns-in-Right
returns-in-Right c = rw c.in-Right.is c.right_output.ensures

pub returns-in-Left : goal.returns-in-Left
returns-in-Left c = rw c.in-Left.is c.left_output.ensures

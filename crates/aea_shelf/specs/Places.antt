-- Where the cells of an archive's blocks lie on its disk.
use Rattle.std.specs.Prelude.{ℕ, ◌+◌, ◌-◌, ◌*◌, ◌/◌, List, ◌++◌, take, drop, replicate}
use Rattle.aea_lattice.specs.declared.blocks.BlockId.{BlockId}
use Rattle.aea_lattice.specs.declared.shape.Shape.{Shape}
use Rattle.aea_lattice.specs.Shapes.{number_in}
use Rattle.aea_place.specs.Homes.{home_of}
use Rattle.aea_disk.specs.Files.{Files}
use Rattle.aea_disk.specs.State.{HasRange}

-- the bytes of a cell
abbrev pub cell_size : Shape → ℕ
cell_size shape = shape.block + 48

-- the file of a block's home. The file of site k has the number k.
abbrev pub home_file : Shape → BlockId → ℕ
home_file shape b = (home_of shape.sites (number_in shape b)).site

-- the place in this file at which its cell begins
abbrev pub home_place : Shape → BlockId → ℕ
home_place shape b = (home_of shape.sites (number_in shape b)).cell * cell_size shape

-- the rows of an archive of this shape with so many nodes: its blocks, shared out to the sites
abbrev pub rows_of : Shape → ℕ → ℕ
rows_of shape n = ((1 + shape.alpha) * n + shape.sites - 1) / shape.sites

-- the bytes of these rows, which a site's file has at most
abbrev pub site_bytes : Shape → ℕ → ℕ
site_bytes shape n = rows_of shape n * cell_size shape

-- the home begins with these bytes
abbrev pub HasAtHome : Shape → BlockId → List ℕ → Files → Type 0
HasAtHome shape b bytes c = HasRange (home_file shape b) (home_place shape b) bytes c

-- the bytes of a home, as many as the file has
abbrev pub home_bytes : Shape → BlockId → Files → List ℕ
home_bytes shape b c = take (cell_size shape) (drop (home_place shape b) (c (home_file shape b)))

-- the bytes of a home, where those past the end of the file are taken as zeros
abbrev pub padded_home : Shape → BlockId → Files → List ℕ
padded_home shape b c = take (cell_size shape) (home_bytes shape b c ++ replicate (cell_size shape) 0)

-- The bytes of a page.
use Rattle.std.specs.Prelude.{ℕ, List}
use Rattle.aea_io.specs.declared.space.Space.{Space}
use Rattle.aea_io.specs.declared.space.Space.TheVariants.{Here, Taken}

-- all the bytes that it has
abbrev pub bytes_of : Space → List ℕ
bytes_of (Here bytes) = bytes
bytes_of (Taken bytes) = bytes.items

-- What may be the name of an object.
use Rattle.std.specs.Prelude.{ℕ, Bool, not, ◌&&◌, ◌==◌, nat_le, List, length, IsTrue}
use Rattle.std.specs.List.{list_all}
use Rattle.std.specs.Str.{is_utf8}

-- the byte is no control character: neither below 32, the space, nor 127, the delete character
abbrev pub is_plain_byte : ℕ → Bool
is_plain_byte byte = nat_le 32 byte && not (byte == 127)

-- whether the bytes are a name: 1 to 255 bytes of UTF-8 without control characters
abbrev pub is_name : List ℕ → Bool
is_name name = nat_le 1 (length name) && nat_le (length name) 255 && list_all is_plain_byte name && is_utf8 name

-- the bytes are a name
abbrev pub IsName : List ℕ → Type 0
IsName name = IsTrue (is_name name)

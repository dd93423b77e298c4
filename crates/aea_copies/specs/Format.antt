-- Copies of a ledger, and how one is spelled. All numbers are written high byte first.
use Rattle.std.specs.Prelude.{ℕ, List, [], ◌∷◌, ◌++◌, length, replicate, codes}
use Rattle.std.specs.List.{flat_map}
use Rattle.std.specs.Int.{w32, to_be_bytes}
use Rattle.sha2.specs.Sha256.{sha256}
use Rattle.aea_records.specs.Format.{open_gate}

-- The link after a piece: the SHA-256 of the link before, of the length of the piece, in 4 bytes, and of the piece.
abbrev pub link_after : List ℕ → List ℕ → List ℕ
link_after link piece = sha256 (link ++ (to_be_bytes w32 (length piece) ++ piece))

-- the link before the first piece
abbrev pub first_link : List ℕ
first_link = replicate 32 0

-- an entry after this link: an open gate, the length of its piece, the piece, and its own link
abbrev pub copy_entry : List ℕ → List ℕ → List ℕ
copy_entry link piece = open_gate ∷ (to_be_bytes w32 (length piece) ++ (piece ++ link_after link piece))

-- entries one after the other, each linked to the one before
abbrev pub chain : List ℕ → List (List ℕ) → List ℕ
chain link [] = []
chain link (piece ∷ pieces) = copy_entry link piece ++ chain (link_after link piece) pieces

-- the link of the last of them
abbrev pub last_link : List ℕ → List (List ℕ) → List ℕ
last_link link [] = link
last_link link (piece ∷ pieces) = last_link (link_after link piece) pieces

-- the mark of a copy
abbrev pub copy_mark : List ℕ
copy_mark = codes "AEACOPY1"

-- a copy up to the gate that ends its entries: its own gate, open; the mark; and the entries
abbrev pub copied : List (List ℕ) → List ℕ
copied pieces = open_gate ∷ (copy_mark ++ chain first_link pieces)

-- the text of a copy: its pieces, joined
abbrev pub text_of : List (List ℕ) → List ℕ
text_of pieces = flat_map (λ p. p) pieces

-- a whole copy, as it is written: with a closed gate that ends it
abbrev pub whole_copy : List (List ℕ) → List ℕ
whole_copy pieces = copied pieces ++ 0 ∷ []

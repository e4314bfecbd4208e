-- The bytes of a file, and what a read, a write and a cut are.
use Rattle.std.specs.Prelude.{ℕ, ◌+◌, ◌-◌, List, ◌++◌, length, take, drop, replicate}

-- at most so many bytes from an offset on, and none past the end
abbrev pub read_at : List ℕ → ℕ → ℕ → List ℕ
read_at bytes offset size = take size (drop offset bytes)

-- the first bytes up to a length, and zeros where there were none
abbrev pub cut_to : List ℕ → ℕ → List ℕ
cut_to bytes size = take size bytes ++ replicate (size - length bytes) 0

-- a piece is written at an offset, with zeros between the old end and the offset
abbrev pub written : List ℕ → ℕ → List ℕ → List ℕ
written bytes offset piece = cut_to bytes offset ++ piece ++ drop (offset + length piece) bytes

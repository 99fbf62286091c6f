-- Files in memory, and what calls make of them.
use Rattle.std.specs.Prelude.{ℕ, ◌+◌, ◌-◌, ◌/◌, max, List, ◌++◌, length, take, drop, replicate, Option, Some, None}
use Rattle.body_model.specs.LowerFile.{LowerFile, no_octets}
use Rattle.lower_mem.specs.declared.stored.TheConstants.{TORN}

-- What a file holds, and the room of its body and of its attribute, in octets.
pub record FileInMemory : Type 0 where
  pub file : LowerFile
  pub body_room : ℕ
  pub attribute_room : ℕ

-- no octets, and no room
abbrev pub nothing : FileInMemory
nothing = record { file = no_octets; body_room = 0; attribute_room = 0 }

abbrev pub length_in : Option (List ℕ) → ℕ
length_in (Some octets) = length octets
length_in None = 0

-- with room for what it holds
abbrev pub stored : LowerFile → FileInMemory
stored file = record { file = file; body_room = length file.body; attribute_room = length_in file.attribute }

abbrev pub with_body : List ℕ → FileInMemory → FileInMemory
with_body body f = record f { file = record { attribute = f.file.attribute; body = body } }

abbrev pub with_attribute : Option (List ℕ) → FileInMemory → FileInMemory
with_attribute attribute f = record f { file = record { attribute = attribute; body = f.file.body } }

-- with at least so much room
abbrev pub with_rooms : ℕ → ℕ → FileInMemory → FileInMemory
with_rooms body attribute f = record { file = f.file; body_room = max f.body_room body; attribute_room = max f.attribute_room attribute }

-- octets that are put into a body at an offset, behind zeros where it ended before
abbrev pub put_at : ℕ → List ℕ → List ℕ → List ℕ
put_at at octets old = take at (old ++ replicate (at + length octets - length old) 0) ++ (octets ++ drop (at + length octets) old)

-- a body of another length, in which new octets are zeros
abbrev pub resized : ℕ → List ℕ → List ℕ
resized len old = take len old ++ replicate (len - length old) 0

-- what a failing write of so many octets puts in their place: the first half of its range, rounded up, is torn
abbrev pub torn : ℕ → List ℕ
torn count = replicate ((count + 1) / 2) TORN

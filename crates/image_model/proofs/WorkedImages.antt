-- Three images, octet by octet, and the offsets of some faults.
use Rattle.std.proofs.Common.{◌≡◌, ℕ, ◌++◌, List, [], ◌∷◌, None, Ok, Err, refl}
use Rattle.lower_model.specs.declared.kind.Kind.TheVariants.{Dir, File}
use Rattle.lower_model.specs.declared.node.LowerNode.{LowerNode}
use Rattle.image_model.specs.declared.fault.ImageKind.TheVariants as kinds
use Rattle.image_model.specs.ImageText.{image, magic, root}
use Rattle.image_model.specs.ImageReading.{reading, nodes_at, counted_nodes_at, entries_at, entry_at, level_at, kind_at, name_at, file_octets_at, attribute_at, body_at}

abbrev directory_a : LowerNode
directory_a = record { parent = 0; kind = Dir; name = 0x61 ∷ []; attribute = None; body = [] }

abbrev file_f : LowerNode
file_f = record { parent = 0; kind = File; name = 0x66 ∷ []; attribute = None; body = [] }

abbrev empty_octets : List ℕ
empty_octets = 0x45 ∷ 0x43 ∷ 0x52 ∷ 0x59 ∷ 0x49 ∷ 0x4d ∷ 0x47 ∷ 0x31 ∷ 0 ∷ 0 ∷ 0 ∷ 0 ∷ []

abbrev octets_of_a : List ℕ
octets_of_a = 0x45 ∷ 0x43 ∷ 0x52 ∷ 0x59 ∷ 0x49 ∷ 0x4d ∷ 0x47 ∷ 0x31 ∷ 0 ∷ 0 ∷ 0 ∷ 1 ∷ 0 ∷ 1 ∷ 0 ∷ 1 ∷ 0x61 ∷ []

abbrev octets_of_f : List ℕ
octets_of_f = 0x45 ∷ 0x43 ∷ 0x52 ∷ 0x59 ∷ 0x49 ∷ 0x4d ∷ 0x47 ∷ 0x31 ∷ 0 ∷ 0 ∷ 0 ∷ 1 ∷ 0 ∷ 1 ∷ 1 ∷ 1 ∷ 0x66 ∷ 0 ∷ 0 ∷ 0 ∷ 0 ∷ 0 ∷ []

empty_image : image (root ∷ []) ≡ empty_octets
empty_image = refl

image_of_a : image (root ∷ directory_a ∷ []) ≡ octets_of_a
image_of_a = refl

image_of_f : image (root ∷ file_f ∷ []) ≡ octets_of_f
image_of_f = refl

empty_reading : reading empty_octets ≡ Ok (root ∷ [])
unfolding nodes_at counted_nodes_at entries_at
empty_reading = refl

reading_of_a : reading octets_of_a ≡ Ok (root ∷ directory_a ∷ [])
unfolding nodes_at counted_nodes_at entries_at entry_at level_at kind_at name_at file_octets_at
reading_of_a = refl

reading_of_f : reading octets_of_f ≡ Ok (root ∷ file_f ∷ [])
unfolding nodes_at counted_nodes_at entries_at entry_at level_at kind_at name_at file_octets_at attribute_at body_at
reading_of_f = refl

no_magic : reading [] ≡ Err (record { offset = 0; kind = kinds.Magic })
unfolding nodes_at
no_magic = refl

cut_count : reading (magic ++ 0 ∷ []) ≡ Err (record { offset = 8; kind = kinds.Cut })
unfolding nodes_at counted_nodes_at
cut_count = refl

octets_behind : reading (octets_of_a ++ 0 ∷ []) ≡ Err (record { offset = 17; kind = kinds.Extra })
unfolding nodes_at counted_nodes_at entries_at entry_at level_at kind_at name_at file_octets_at
octets_behind = refl

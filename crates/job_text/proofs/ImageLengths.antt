-- The line of an image's length takes any number: where the octets end before it, they are wrong from the image's first one on.
use Rattle.std.proofs.Common.{◌≡◌, [], ◌∷◌, ◌++◌, Ok, Err, codes, refl}
use Rattle.reading_model.specs.Lines.{cut_in}
use Rattle.reading_model.specs.Fields.{any_number_in}
use Rattle.image_model.specs.ImageText.{root}
use Rattle.image_model.specs.ImageReading.{nodes_at, counted_nodes_at, entries_at}
use Rattle.job_text.specs.JobReading.{word_at, image_at}

empty : image_at (codes "image 12\nECRYIMG1" ++ 0 ∷ 0 ∷ 0 ∷ 0 ∷ 10 ∷ codes "end") ≡ Ok (root ∷ [], codes "end")
unfolding image_at word_at cut_in any_number_in nodes_at counted_nodes_at entries_at
empty = refl

one_too_long : image_at (codes "image 5\nECRY") ≡ Err 4
unfolding image_at word_at cut_in any_number_in
one_too_long = refl

last_u64 : image_at (codes "image 18446744073709551615\nECRY") ≡ Err 4
unfolding image_at word_at cut_in any_number_in
last_u64 = refl

one_more : image_at (codes "image 18446744073709551616\nECRY") ≡ Err 4
unfolding image_at word_at cut_in any_number_in
one_more = refl

thirty_digits : image_at (codes "image 999999999999999999999999999999\nECRY") ≡ Err 4
unfolding image_at word_at cut_in any_number_in
thirty_digits = refl

-- a line that is no number is wrong from its own first octet on
no_number : image_at (codes "image 05\nECRY") ≡ Err 13
unfolding image_at word_at cut_in any_number_in
no_number = refl

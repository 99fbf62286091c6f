-- Worked places of bad jobs: each place was counted by hand from the rules of the text.
use Rattle.std.proofs.Common.{◌≡◌, ℕ, ◌+◌, ◌^◌, Bool, true, false, ltb, List, [], ◌∷◌, ◌++◌, length, codes, Result, Ok, Err, refl, subst, arith}
use Rattle.std.specs.Prelude.{◌==◌, ◌&&◌}
use Rattle.std.specs.List.{list_all, AllByRecursion}
use Rattle.std.proofs.lemmas.Bool.{and_parts, eqb-true, ltb-true}
use Rattle.hex.specs.Hex.{decode_pairs}
use Rattle.octet_model.specs.Octets.{AreOctets}
use Rattle.image_model.specs.ImageReading.{nodes_at, counted_nodes_at, entries_at, entry_at, level_at, kind_at, name_at, attribute_at, body_at, file_octets_at}
use Rattle.reading_model.specs.Lines.{cut_in}
use Rattle.reading_model.specs.Fields.{any_number_in, number_in, hex_in, sized_hex_in, octets_in, each_in, path_in}
use Rattle.reading_model.specs.OpReading.{op_in}
use Rattle.job_model.specs.declared.job.Job.{Job}
use Rattle.job_model.specs.BadPlace.{IsBadPlace}
use Rattle.job_text.specs.JobReading.{word_at, whole_at, times_at, keys_at, making_at, image_at, op_at, script_at, scripts_at, end_at, work_at, job_at}
use Rattle.job_text.proofs.LineParts.{IsSlice}
use Rattle.job_text.proofs.BadPlaces.{job_stops}

-- ---- a place by computation

is_octet : ℕ → Bool
is_octet c = ltb c 256

are_octets : (octets : List ℕ) → list_all is_octet octets ≡ true → AreOctets octets
unfolding is_octet
are_octets [] e = tt
are_octets (c ∷ cs) e = let p = and_parts (ltb c 256) (list_all is_octet cs) e in (ltb-true c 256 p.0, are_octets cs p.1)

-- octets and a place
abbrev Row : Type 0
Row = List ℕ × ℕ

abbrev stops_at : ℕ → ℕ → Result Job ℕ → Bool
stops_at place all (Ok job) = false
stops_at place all (Err left) = place + left == all

abbrev is_bad : Row → Bool
is_bad row = (list_all is_octet row.0 && ltb (length row.0) (2 ^ 64)) && stops_at row.1 (length row.0) (job_at row.0)

abbrev IsBad : Row → Type 0
IsBad row = IsBadPlace row.0 row.1

by_reading : (row : Row) → is_bad row ≡ true → IsBad row
by_reading row e =
    let p = and_parts (list_all is_octet row.0 && ltb (length row.0) (2 ^ 64)) (stops_at row.1 (length row.0) (job_at row.0)) e in
    let q = and_parts (list_all is_octet row.0) (ltb (length row.0) (2 ^ 64)) p.0 in
    of (job_at row.0) (record { octets = are_octets row.0 q.0; short = ltb-true (length row.0) (2 ^ 64) q.1 }) refl p.1
  where
    of : (r : Result Job ℕ) → IsSlice row.0 → job_at row.0 ≡ r → stops_at row.1 (length row.0) r ≡ true → IsBad row
    of (Ok job) fits is test = absurd cc
    of (Err left) fits is test =
        let s = job_stops.stops row.0 fits left is in
        let same : s.0 ≡ row.1 = omega (arith, s.1, eqb-true (row.1 + left) (length row.0) test) in
        subst (IsBadPlace row.0) same s.2

abbrev AreBad : List Row → Type 0
AreBad rows = AllByRecursion IsBad rows

all_bad : (rows : List Row) → list_all is_bad rows ≡ true → AreBad rows
all_bad [] e = tt
all_bad (row ∷ rows) e = let p = and_parts (is_bad row) (list_all is_bad rows) e in (by_reading row p.0, all_bad rows p.1)

-- ---- the good lines before each

abbrev first : List ℕ
first = codes "ecryptfs-job 1\n"

abbrev to_salt : List ℕ
to_salt = first ++ codes "passphrase 74657374\n"

abbrev to_namesalt : List ℕ
to_namesalt = to_salt ++ codes "salt 0011223344556677\n"

abbrev to_names : List ℕ
to_names = to_namesalt ++ codes "namesalt 0011223344556677\n"

abbrev to_meta : List ℕ
to_meta = to_names ++ codes "names plain\n"

abbrev to_random : List ℕ
to_random = to_meta ++ codes "meta header\n"

abbrev settings : List ℕ
settings = to_random ++ codes "random 0000000000000000000000000000000000000000000000000000000000000000\n"

abbrev to_sessions : List ℕ
to_sessions = settings ++ codes "image 12\nECRYIMG1" ++ 0 ∷ 0 ∷ 0 ∷ 0 ∷ 10 ∷ []

abbrev to_script : List ℕ
to_script = to_sessions ++ codes "sessions 1\n"

abbrev to_schedule : List ℕ
to_schedule = to_script ++ codes "script 0\n"

abbrev to_end : List ℕ
to_end = to_schedule ++ codes "schedule\n"

-- the first line, and the passphrase
abbrev first_lines : List Row
first_lines =
    ([], 0)  -- no line at all
    ∷ (codes "ecryptfs-job 1", 0)  -- a line that is cut
    ∷ (codes "ecryptfs-job 2\n", 0)  -- another first line
    ∷ (codes "ecryptfs-job 1 \n", 0)  -- a blank at its end
    ∷ (first, 15)  -- the line missing
    ∷ (first ++ codes "passphrase \n", 15)  -- no octet
    ∷ (first ++ codes "passphrase 7\n", 15)  -- half an octet
    ∷ (first ++ codes "passphrase 7A\n", 15)  -- a capital digit
    ∷ (first ++ codes "passphrase 6161616161616161616161616161616161616161616161616161616161616161616161616161616161616161616161616161616161616161616161616161616161\n", 15)  -- 65 octets
    ∷ (first ++ codes "passphrase 61616161616161616161616161616161616161616161616161616161616161616161616161616161616161616161616161616161616161616161616161616161\n", 155)  -- 64 octets, and the next line missing
    ∷ (first ++ codes "passphrase 74", 15)  -- a line that is cut
    ∷ []

first_lines-are_bad : AreBad first_lines
unfolding is_octet decode_pairs job_at whole_at word_at cut_in keys_at making_at hex_in sized_hex_in image_at any_number_in number_in nodes_at counted_nodes_at entries_at entry_at level_at kind_at name_at attribute_at body_at file_octets_at work_at scripts_at script_at times_at op_at op_in path_in octets_in each_in end_at
first_lines-are_bad = all_bad first_lines refl

-- the other settings
abbrev setting_lines : List Row
setting_lines =
    (to_salt ++ codes "salt 00112233445566\n", 35)  -- 7 octets
    ∷ (to_salt ++ codes "salt 001122334455667788\n", 35)  -- 9 octets
    ∷ (to_salt ++ codes "namesalt 0011223344556677\n", 35)  -- the next line in its place
    ∷ (to_namesalt, 57)  -- the line missing
    ∷ (to_namesalt ++ codes "salt 0011223344556677\n", 57)  -- the last line again
    ∷ (to_names ++ codes "names tag71\n", 83)  -- another form
    ∷ (to_names ++ codes "names tag70", 83)  -- a line that is cut
    ∷ (to_meta ++ codes "meta\n", 95)  -- no word
    ∷ (to_meta ++ codes "meta attribute\n", 110)  -- the line good, and the next one missing
    ∷ (to_random ++ codes "random 00\n", 107)  -- 1 octet
    ∷ (to_random, 107)  -- the line missing
    ∷ []

setting_lines-are_bad : AreBad setting_lines
unfolding is_octet decode_pairs job_at whole_at word_at cut_in keys_at making_at hex_in sized_hex_in image_at any_number_in number_in nodes_at counted_nodes_at entries_at entry_at level_at kind_at name_at attribute_at body_at file_octets_at work_at scripts_at script_at times_at op_at op_in path_in octets_in each_in end_at
setting_lines-are_bad = all_bad setting_lines refl

-- the length of the image
abbrev image_lengths : List Row
image_lengths =
    (settings ++ codes "image\n", 179)  -- no number
    ∷ (settings ++ codes "image 012\n", 179)  -- a leading zero
    ∷ (settings ++ codes "image 12 \n", 179)  -- a blank at its end
    ∷ (settings ++ codes "image 12", 179)  -- a line that is cut
    ∷ (settings ++ codes "image 12\n", 188)  -- no octet of the image
    ∷ (settings ++ codes "image 12\nECRYIMG1", 188)  -- 8 octets of 12
    ∷ (settings ++ codes "image 12\nXXXX", 188)  -- cut, and bad besides
    ∷ (settings ++ codes "image 18446744073709551616\nECRY", 206)  -- more than 64 bits
    ∷ (settings ++ codes "image 999999999999999999999999999999\nECRYIMG1" ++ 0 ∷ 0 ∷ 0 ∷ 0 ∷ 10 ∷ [], 216)  -- thirty digits
    ∷ (settings ++ codes "image 0\n\n", 187)  -- no octets, which are no image
    ∷ []

image_lengths-are_bad : AreBad image_lengths
unfolding is_octet decode_pairs job_at whole_at word_at cut_in keys_at making_at hex_in sized_hex_in image_at any_number_in number_in nodes_at counted_nodes_at entries_at entry_at level_at kind_at name_at attribute_at body_at file_octets_at work_at scripts_at script_at times_at op_at op_in path_in octets_in each_in end_at
image_lengths-are_bad = all_bad image_lengths refl

-- a bad image whose octets are all there
abbrev image_faults : List Row
image_faults =
    (settings ++ codes "image 12\nXCRYIMG1" ++ 0 ∷ 0 ∷ 0 ∷ 0 ∷ 10 ∷ [], 188)  -- the magic
    ∷ (settings ++ codes "image 12\nECRYIMG1" ++ 0 ∷ 0 ∷ 16 ∷ 0 ∷ 10 ∷ [], 196)  -- 4,096 entries
    ∷ (settings ++ codes "image 17\nECRYIMG1" ++ 0 ∷ 0 ∷ 0 ∷ 1 ∷ 0 ∷ 2 ∷ 0 ∷ 1 ∷ 97 ∷ 10 ∷ [], 200)  -- the level
    ∷ (settings ++ codes "image 17\nECRYIMG1" ++ 0 ∷ 0 ∷ 0 ∷ 1 ∷ 0 ∷ 1 ∷ 2 ∷ 1 ∷ 97 ∷ 10 ∷ [], 202)  -- the kind
    ∷ (settings ++ codes "image 16\nECRYIMG1" ++ 0 ∷ 0 ∷ 0 ∷ 1 ∷ 0 ∷ 1 ∷ 0 ∷ 0 ∷ 10 ∷ [], 203)  -- a name of no octets
    ∷ (settings ++ codes "image 17\nECRYIMG1" ++ 0 ∷ 0 ∷ 0 ∷ 1 ∷ 0 ∷ 1 ∷ 0 ∷ 1 ∷ 47 ∷ 10 ∷ [], 204)  -- no name
    ∷ (settings ++ codes "image 22\nECRYIMG1" ++ 0 ∷ 0 ∷ 0 ∷ 2 ∷ 0 ∷ 1 ∷ 0 ∷ 1 ∷ 98 ∷ 0 ∷ 1 ∷ 0 ∷ 1 ∷ 97 ∷ 10 ∷ [], 209)  -- names out of order
    ∷ (settings ++ codes "image 18\nECRYIMG1" ++ 0 ∷ 0 ∷ 0 ∷ 1 ∷ 0 ∷ 1 ∷ 1 ∷ 1 ∷ 102 ∷ 2 ∷ 10 ∷ [], 205)  -- the flag
    ∷ (settings ++ codes "image 22\nECRYIMG1" ++ 0 ∷ 0 ∷ 0 ∷ 1 ∷ 0 ∷ 1 ∷ 1 ∷ 1 ∷ 102 ∷ 1 ∷ 0 ∷ 1 ∷ 0 ∷ 1 ∷ 10 ∷ [], 206)  -- an attribute of 65,537 octets
    ∷ (settings ++ codes "image 21\nECRYIMG1" ++ 0 ∷ 0 ∷ 0 ∷ 1 ∷ 0 ∷ 1 ∷ 1 ∷ 1 ∷ 102 ∷ 0 ∷ 0 ∷ 0 ∷ 0 ∷ 10 ∷ [], 206)  -- the length of a body cut
    ∷ (settings ++ codes "image 23\nECRYIMG1" ++ 0 ∷ 0 ∷ 0 ∷ 1 ∷ 0 ∷ 1 ∷ 1 ∷ 1 ∷ 102 ∷ 0 ∷ 0 ∷ 0 ∷ 0 ∷ 5 ∷ 120 ∷ 10 ∷ [], 210)  -- a body cut
    ∷ (settings ++ codes "image 13\nECRYIMG1" ++ 0 ∷ 0 ∷ 0 ∷ 0 ∷ 120 ∷ 10 ∷ [], 200)  -- an octet behind the last entry
    ∷ []

image_faults-are_bad : AreBad image_faults
unfolding is_octet decode_pairs job_at whole_at word_at cut_in keys_at making_at hex_in sized_hex_in image_at any_number_in number_in nodes_at counted_nodes_at entries_at entry_at level_at kind_at name_at attribute_at body_at file_octets_at work_at scripts_at script_at times_at op_at op_in path_in octets_in each_in end_at
image_faults-are_bad = all_bad image_faults refl

-- what stands behind the image
abbrev image_ends : List Row
image_ends =
    (settings ++ codes "image 12\nECRYIMG1" ++ 0 ∷ 0 ∷ 0 ∷ 0 ∷ [], 200)  -- nothing
    ∷ (settings ++ codes "image 12\nECRYIMG1" ++ 0 ∷ 0 ∷ 0 ∷ 0 ∷ 120 ∷ [], 200)  -- another octet
    ∷ (settings ++ codes "image 12\nECRYIMG1" ++ 0 ∷ 0 ∷ 0 ∷ 0 ∷ codes "sessions 1\n", 200)  -- the next line at once
    ∷ (settings ++ codes "image 12\nXCRYIMG1" ++ 0 ∷ 0 ∷ 0 ∷ 0 ∷ 120 ∷ [], 188)  -- another octet, and a bad image
    ∷ (settings ++ codes "image 12\nXCRYIMG1" ++ 0 ∷ 0 ∷ 0 ∷ 0 ∷ codes "\nsessions 17\n", 188)  -- a wrong line, and a bad image
    ∷ []

image_ends-are_bad : AreBad image_ends
unfolding is_octet decode_pairs job_at whole_at word_at cut_in keys_at making_at hex_in sized_hex_in image_at any_number_in number_in nodes_at counted_nodes_at entries_at entry_at level_at kind_at name_at attribute_at body_at file_octets_at work_at scripts_at script_at times_at op_at op_in path_in octets_in each_in end_at
image_ends-are_bad = all_bad image_ends refl

-- sessions and their operations
abbrev scripts : List Row
scripts =
    (to_sessions, 201)  -- the line missing
    ∷ (to_sessions ++ codes "sessions 0\n", 201)  -- no session
    ∷ (to_sessions ++ codes "sessions 17\n", 201)  -- 17 sessions
    ∷ (to_sessions ++ codes "sessions 1", 201)  -- a line that is cut
    ∷ (to_script ++ codes "script 65537\n", 212)  -- 65,537 operations
    ∷ (to_script ++ codes "schedule\nend\n", 212)  -- the line missing
    ∷ (to_sessions ++ codes "sessions 2\nscript 0\nschedule\nend\n", 221)  -- one script of two
    ∷ (to_script ++ codes "script 1\nsync 16\n", 221)  -- no slot
    ∷ (to_script ++ codes "script 1\n\n", 221)  -- an empty line
    ∷ (to_script ++ codes "script 1\nmkdir /a/..\n", 221)  -- no path
    ∷ (to_script ++ codes "script 1\nsync 15", 221)  -- an operation that is cut
    ∷ (to_script ++ codes "script 2\nsync 15\nschedule\nend\n", 229)  -- one operation of two
    ∷ (to_script ++ codes "script 1\nsync 15\nsync 15\nschedule\nend\n", 229)  -- one operation too many
    ∷ []

scripts-are_bad : AreBad scripts
unfolding is_octet decode_pairs job_at whole_at word_at cut_in keys_at making_at hex_in sized_hex_in image_at any_number_in number_in nodes_at counted_nodes_at entries_at entry_at level_at kind_at name_at attribute_at body_at file_octets_at work_at scripts_at script_at times_at op_at op_in path_in octets_in each_in end_at
scripts-are_bad = all_bad scripts refl

-- the schedule and the end
abbrev last_lines : List Row
last_lines =
    (to_schedule ++ codes "schedule 1\nend\n", 221)  -- an item that is the number of sessions
    ∷ (to_schedule ++ codes "schedule  0\nend\n", 221)  -- two blanks
    ∷ (to_schedule ++ codes "schedule 0 \nend\n", 221)  -- a blank at its end
    ∷ (to_schedule ++ codes "schedule 00\nend\n", 221)  -- a leading zero
    ∷ (to_schedule ++ codes "schedule 0", 221)  -- a line that is cut
    ∷ (to_sessions ++ codes "sessions 2\nscript 0\nscript 0\nschedule 0 1 2\nend\n", 230)  -- of two sessions the third
    ∷ (to_sessions ++ codes "sessions 2\nscript 0\nscript 0\nschedule 0 1 1\n", 245)  -- a good schedule, and no end
    ∷ (to_end, 230)  -- the line missing
    ∷ (to_end ++ codes "end", 230)  -- a line that is cut
    ∷ (to_end ++ codes "end \n", 230)  -- a blank at its end
    ∷ (to_end ++ codes "end\n\n", 234)  -- an empty line behind it
    ∷ (to_end ++ codes "end\nx", 234)  -- an octet behind it
    ∷ []

last_lines-are_bad : AreBad last_lines
unfolding is_octet decode_pairs job_at whole_at word_at cut_in keys_at making_at hex_in sized_hex_in image_at any_number_in number_in nodes_at counted_nodes_at entries_at entry_at level_at kind_at name_at attribute_at body_at file_octets_at work_at scripts_at script_at times_at op_at op_in path_in octets_in each_in end_at
last_lines-are_bad = all_bad last_lines refl

-- two faults, of which the first decides
abbrev two_faults : List Row
two_faults =
    (first ++ codes "passphrase \nnamesalt 0011223344556677\n", 15)  -- two lines of the settings
    ∷ (to_random ++ codes "random 00\nimage 12\nXCRYIMG1" ++ 0 ∷ 0 ∷ 0 ∷ 0 ∷ [], 107)  -- a line and the image
    ∷ (settings ++ codes "image 12\nECRYIMG1" ++ 0 ∷ 0 ∷ 0 ∷ 0 ∷ codes "\nsessions 17\nscript 1\nsync 16\n", 201)  -- two lines behind the image
    ∷ (to_script ++ codes "script 1\nsync 16\nschedule 1\nend\nx", 221)  -- an operation, the schedule and an octet behind the end
    ∷ []

two_faults-are_bad : AreBad two_faults
unfolding is_octet decode_pairs job_at whole_at word_at cut_in keys_at making_at hex_in sized_hex_in image_at any_number_in number_in nodes_at counted_nodes_at entries_at entry_at level_at kind_at name_at attribute_at body_at file_octets_at work_at scripts_at script_at times_at op_at op_in path_in octets_in each_in end_at
two_faults-are_bad = all_bad two_faults refl

-- Worked values of a `make`: the draws, the first lines of its scripts, the first items of its schedule.
use Rattle.std.proofs.Common.{◌≡◌, ℕ, List, [], ◌∷◌, length, take, refl}
use Rattle.std.specs.Prelude.{codes, replicate}
use Rattle.std.specs.List.{flat_map}
use Rattle.std.specs.Fmt.{digits}
use Rattle.sha2.specs.Sha256.{sha256, digest_bytes, hash_after, compress, rounds, schedule, first_words}
use Rattle.hex.specs.Hex.{encode_with}
use Rattle.lower_model.specs.declared.meta_place.MetaPlace.TheVariants.{Header, Attribute}
use Rattle.text_model.specs.Line.{line, number, hex}
use Rattle.script_model.specs.declared.op.Op.{Op}
use Rattle.script_model.specs.declared.op.Op.TheVariants as ops
use Rattle.script_model.specs.ScriptText.{op_line}
use Rattle.make_model.specs.Draws.{next_state, draw, draw_mod, one, for_each_from, for_each, repeat}
use Rattle.make_model.specs.MakeJobs.{meta_place_of, random_of, new_directory, new_file, line_of_kind, round}
use Rattle.make_model.specs.MakeText.{make_text}

-- ---- draws

abbrev draws : ℕ → ℕ → List ℕ
draws count n = (repeat count (one draw) n).0

draws_of_one : draws 5 1 ≡ 16838 ∷ 5758 ∷ 10113 ∷ 17515 ∷ 31051 ∷ []
unfolding next_state for_each_from
draws_of_one = refl

draws_of_two : draws 5 2 ≡ 908 ∷ 22817 ∷ 10239 ∷ 12914 ∷ 25837 ∷ []
unfolding next_state for_each_from
draws_of_two = refl

draws_of_a_thousand : draws 5 1000 ≡ 28322 ∷ 7943 ∷ 4653 ∷ 8133 ∷ 31660 ∷ []
unfolding next_state for_each_from
draws_of_a_thousand = refl

-- ---- job A of `make 1`

abbrev lines : List Op → List ℕ
lines script = flat_map op_line script

eight_directories : lines (for_each 8 new_directory 1).0 ≡ codes "mkdir /d0\nmkdir /d1\nmkdir /d2\nmkdir /d3\nmkdir /d4\nmkdir /d5\nmkdir /d6\nmkdir /d7\n"
unfolding for_each_from digits
eight_directories = refl

-- An operation's line; that of a write with its first four octets, and then how many it has.
abbrev told : Op → List ℕ
told (ops.Write slot offset octets) = line (codes "write" ∷ number slot ∷ number offset ∷ hex (take 4 octets) ∷ number (length octets) ∷ [])
told op = op_line op

-- its first file has 14 writes
first_file : flat_map told (new_file 0 1).0 ≡ codes "create 0 /d0/f0\nwrite 0 0 7e816b4b 4000\nwrite 0 4000 fc0c2465 4000\nwrite 0 8000 0197fddc 4000\nwrite 0 12000 671c9167 4000\nwrite 0 16000 049275bf 4000\nwrite 0 20000 b2f1449b 4000\nwrite 0 24000 473193b5 4000\nwrite 0 28000 9c4afcc3 4000\nwrite 0 32000 8935177d 4000\nwrite 0 36000 e6e97b9d 4000\nwrite 0 40000 8b5ec0d9 4000\nwrite 0 44000 508c7fe9 4000\nwrite 0 48000 0d6b4f87 4000\nwrite 0 52000 9af4c969 4000\nclose 0\n"
unfolding next_state for_each_from new_file digits encode_with
first_file = refl

-- ---- job B of `make 1`: the draws go on from the state behind job A

first_script : flat_map told (repeat 3 round 1475200833).0 ≡ codes "open 0 /d1/f57\nwrite 0 30308 8e3ef961 512\nclose 0\nopen 0 /d7/f31\ntruncate 0 56286\nclose 0\nopen 0 /d5/f29\ntruncate 0 27756\nclose 0\n"
unfolding next_state for_each_from round line_of_kind digits encode_with
first_script = refl

second_script : flat_map told (repeat 2 round 1579322349).0 ≡ codes "open 0 /d5/f37\ntruncate 0 52696\nclose 0\nopen 0 /d0/f40\nwrite 0 19428 c80ec0a4 512\nclose 0\n"
unfolding next_state for_each_from round line_of_kind digits encode_with
second_script = refl

third_script : flat_map told (repeat 2 round 1167713557).0 ≡ codes "open 0 /d1/f17\nsync 0\nclose 0\nopen 0 /d7/f15\nread 0 35314 4096\nclose 0\n"
unfolding next_state for_each_from round line_of_kind digits encode_with
third_script = refl

fourth_script : flat_map told (repeat 2 round 63177192).0 ≡ codes "open 0 /d1/f57\ntruncate 0 24718\nclose 0\nopen 0 /d3/f11\nread 0 51092 4096\nclose 0\n"
unfolding next_state for_each_from round line_of_kind digits encode_with
fourth_script = refl

first_items : (repeat 12 (one (draw_mod 4)) 950794235).0 ≡ 1 ∷ 3 ∷ 1 ∷ 0 ∷ 2 ∷ 1 ∷ 2 ∷ 3 ∷ 3 ∷ 0 ∷ 2 ∷ 3 ∷ []
unfolding next_state for_each_from
first_items = refl

-- ---- settings

odd_number : meta_place_of 1 ≡ Attribute
odd_number = refl

even_number : meta_place_of 1000 ≡ Header
even_number = refl

random_of_a_thousand : random_of 1000 ≡ 0 ∷ 0 ∷ 0 ∷ 0 ∷ 0 ∷ 0 ∷ 3 ∷ 232 ∷ replicate 24 0
random_of_a_thousand = refl

-- ---- the summary, of a report of the three octets `abc`, whose SHA-256 is an example of FIPS 180-4

summary : make_text 7 3043148 (codes "abc") ≡ codes "ecryptfs-make 1\nnumber 7\nimage 3043148\nreport 3\nsha256 ba7816bf8f01cfea414140de5dae2223b00361a396177a9cb410ff61f20015ad\nend\n"
unfolding digits encode_with sha256 digest_bytes hash_after compress rounds schedule first_words
summary = refl

-- The two jobs of a `make`.
use Rattle.std.specs.Prelude.{ℕ, ◌≤◌, ◌*◌, ◌%◌, ◌==◌, if◌then◌else◌, List, [], ◌∷◌, ◌++◌, codes, replicate, None}
use Rattle.std.specs.Int.{w64, to_be_bytes}
use Rattle.lower_model.specs.declared.kind.Kind.TheVariants.{Dir}
use Rattle.lower_model.specs.declared.node.LowerNode.{LowerNode}
use Rattle.lower_model.specs.declared.meta_place.MetaPlace.{MetaPlace}
use Rattle.lower_model.specs.declared.meta_place.MetaPlace.TheVariants.{Header, Attribute}
use Rattle.text_model.specs.Line.{number}
use Rattle.script_model.specs.declared.op.Op.{Op}
use Rattle.script_model.specs.declared.op.Op.TheVariants as ops
use Rattle.job_model.specs.declared.job.Job.{Job}
use Rattle.job_model.specs.declared.job.NameCoding.TheVariants.{Tag70}
use Rattle.make_model.specs.declared.limits.TheConstants.{LEAST_NUMBER, GREATEST_NUMBER}
use Rattle.make_model.specs.Draws.{Making, draw, draw_mod, give, one, for_each, repeat, ◌>>=◌}

-- the numbers that a `make` may have
pub record IsMakeNumber (n : ℕ) : Type 0 where
  pub least : LEAST_NUMBER ≤ n
  pub greatest : n ≤ GREATEST_NUMBER

-- ---- the settings

abbrev pub passphrase : List ℕ
passphrase = codes "make"

abbrev pub salt : List ℕ
salt = 0x00 ∷ 0x11 ∷ 0x22 ∷ 0x33 ∷ 0x44 ∷ 0x55 ∷ 0x66 ∷ 0x77 ∷ []

abbrev pub meta_place_of : ℕ → MetaPlace
meta_place_of n = if n % 2 == 0 then Header else Attribute

-- the number as 8 octets, the highest first, and zeros
abbrev pub random_of : ℕ → List ℕ
random_of n = to_be_bytes w64 n ++ replicate 24 0

abbrev pub job_of : ℕ → List LowerNode → List (List Op) → List ℕ → Job
job_of n image scripts schedule = record {
  passphrase = passphrase;
  salt = salt;
  namesalt = salt;
  names = Tag70;
  meta_place = meta_place_of n;
  random = random_of n;
  image = image;
  scripts = scripts;
  schedule = schedule;
}

-- ---- names and octets

abbrev pub directory_name : ℕ → List ℕ
directory_name d = codes "d" ++ number d

abbrev pub file_name : ℕ → List ℕ
file_name i = codes "f" ++ number i

-- the eight directories take the files in turn
abbrev pub file_path : ℕ → List (List ℕ)
file_path i = directory_name (i % 8) ∷ file_name i ∷ []

abbrev pub octets_of : ℕ → Making (List ℕ)
octets_of count = repeat count (one (draw_mod 256))

-- ---- job A: directories, and new files in them

abbrev pub empty_image : List LowerNode
empty_image = record { parent = 0; kind = Dir; name = []; attribute = None; body = [] } ∷ []

abbrev pub new_directory : ℕ → Making (List Op)
new_directory d = give (ops.Mkdir (directory_name d ∷ []) ∷ [])

abbrev pub piece : ℕ → Making (List Op)
piece j = octets_of 4000 >>= λ octets. give (ops.Write 0 (4000 * j) octets ∷ [])

unfoldable pub new_file : ℕ → Making (List Op)
new_file i = draw_mod 24 >>= λ k. for_each k piece >>= λ pieces. give (ops.Create 0 (file_path i) ∷ pieces ++ ops.Close 0 ∷ [])

unfoldable pub script_a : Making (List Op)
script_a = for_each 8 new_directory >>= λ directories. for_each 64 new_file >>= λ files. give (directories ++ files)

-- the job, and the state of the draws behind it
abbrev pub job_a : ℕ → Job × ℕ
job_a n = (script_a >>= λ script. give (job_of n empty_image (script ∷ []) [])) n

-- ---- job B: rounds on these files

abbrev pub twice_a_draw : Making ℕ
twice_a_draw = draw >>= λ d. give (2 * d)

unfoldable pub line_of_kind : ℕ → Making Op
line_of_kind kind =
    if kind == 0 then (twice_a_draw >>= λ at. give (ops.Read 0 at 4096))
    else if kind == 1 then (twice_a_draw >>= λ at. octets_of 512 >>= λ octets. give (ops.Write 0 at octets))
    else if kind == 2 then (twice_a_draw >>= λ at. give (ops.Truncate 0 at))
    else give (ops.Sync 0)

unfoldable pub round : Making (List Op)
round = draw_mod 64 >>= λ i. draw_mod 4 >>= λ kind. line_of_kind kind >>= λ op. give (ops.Open 0 (file_path i) ∷ op ∷ ops.Close 0 ∷ [])

unfoldable pub script_b : Making (List Op)
script_b = repeat 100 round

unfoldable pub scripts_b : Making (List (List Op))
scripts_b = repeat 4 (one script_b)

unfoldable pub schedule_b : Making (List ℕ)
schedule_b = repeat 1000 (one (draw_mod 4))

-- the job of an image, where the draws go on from a state
abbrev pub job_b_from : ℕ → ℕ → List LowerNode → Job
job_b_from n state image = ((scripts_b >>= λ scripts. schedule_b >>= λ schedule. give (job_of n image scripts schedule)) state).0

-- the job of the image that came out of job A; the draws go on
abbrev pub job_b : ℕ → List LowerNode → Job
job_b n image = job_b_from n (job_a n).1 image

-- Worked values of jobs.
use Rattle.std.proofs.Common.{◌≡◌, List, [], ◌∷◌, ◌++◌, ℕ, refl}
use Rattle.std.specs.Prelude.{codes, replicate, None}
use Rattle.std.specs.Fmt.{digits}
use Rattle.hex.specs.Hex.{encode_with}
use Rattle.lower_model.specs.declared.kind.Kind.TheVariants.{Dir}
use Rattle.lower_model.specs.declared.node.LowerNode.{LowerNode}
use Rattle.script_model.specs.declared.op.Op.{Op}
use Rattle.script_model.specs.declared.op.Op.TheVariants as ops
use Rattle.job_model.specs.declared.job.Job.{Job}
use Rattle.lower_model.specs.declared.meta_place.MetaPlace.TheVariants.{Header}
use Rattle.job_model.specs.declared.job.NameCoding.TheVariants.{Plain}
use Rattle.job_model.specs.JobText.{job_text}

abbrev root : LowerNode
root = record { parent = 0; kind = Dir; name = []; attribute = None; body = [] }

-- one session on an empty image, with a passphrase `test`
abbrev job_of : List Op → Job
job_of script = record {
  passphrase = codes "test";
  salt = 0 ∷ 17 ∷ 34 ∷ 51 ∷ 68 ∷ 85 ∷ 102 ∷ 119 ∷ [];
  namesalt = 0 ∷ 17 ∷ 34 ∷ 51 ∷ 68 ∷ 85 ∷ 102 ∷ 119 ∷ [];
  names = Plain;
  meta_place = Header;
  random = replicate 32 0;
  image = root ∷ [];
  scripts = script ∷ [];
  schedule = [];
}

abbrev settings : List ℕ
settings = codes "ecryptfs-job 1\npassphrase 74657374\nsalt 0011223344556677\nnamesalt 0011223344556677\nnames plain\nmeta header\nrandom 0000000000000000000000000000000000000000000000000000000000000000\n"

abbrev empty_image : List ℕ
empty_image = codes "image 12\nECRYIMG1" ++ 0 ∷ 0 ∷ 0 ∷ 0 ∷ 10 ∷ []

no_operations : job_text (job_of []) ≡ settings ++ empty_image ++ codes "sessions 1\nscript 0\nschedule\nend\n"
unfolding digits encode_with
no_operations = refl

abbrev make_and_list : List Op
make_and_list = ops.Mkdir (codes "a" ∷ []) ∷ ops.List [] ∷ []

two_operations : job_text (job_of make_and_list) ≡ settings ++ empty_image ++ codes "sessions 1\nscript 2\nmkdir /a\nlist /\nschedule\nend\n"
unfolding digits encode_with
two_operations = refl

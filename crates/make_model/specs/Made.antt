-- What the output of a `make` sums up.
use Rattle.std.specs.Prelude.{ℕ, ◌≡◌, ◌⊎◌, List, length}
use Rattle.lower_model.specs.declared.node.LowerNode.{LowerNode}
use Rattle.image_model.specs.ImageText.{image}
use Rattle.job_model.specs.declared.job.Job.{Job}
use Rattle.served_model.specs.Served.{Maker, ServedInOrder, IsStuckInOrder}
use Rattle.make_model.specs.MakeJobs.{job_a, job_b}
use Rattle.make_model.specs.MakeText.{make_text}

-- The output is the report of a replay of this job in the order of its schedule, which found the maker as it was before and left it as it is after.
abbrev pub IsReplayed : Job → Maker → Maker → List ℕ → Type 0
IsReplayed job before after output = ServedInOrder job before after output

-- the image that the report of a replay prints
abbrev pub image_of : (job : Job) (before after : Maker) (output : List ℕ) → IsReplayed job before after output → List LowerNode
image_of job before after output replayed = replayed.served.image

-- The output sums up two reports: one of job A, and one of job B with the image that came out of job A.
pub record IsMakeText (n : ℕ) (before after : Maker) (output : List ℕ) : Type 0 where
  pub between : Maker
  pub report_a : List ℕ
  pub replayed_a : IsReplayed (job_a n).0 before between report_a
  pub report_b : List ℕ
  pub replayed_b : IsReplayed (job_b n (image_of (job_a n).0 before between report_a replayed_a)) between after report_b
  pub text : output ≡ make_text n (length (image (image_of (job_a n).0 before between report_a replayed_a))) report_b

-- A failure of the lower parts ended the replay of job B, whose output this is.
pub record IsStuckAtB (n : ℕ) (before after : Maker) (output : List ℕ) : Type 0 where
  pub between : Maker
  pub report_a : List ℕ
  pub replayed_a : IsReplayed (job_a n).0 before between report_a
  pub stuck : IsStuckInOrder (job_b n (image_of (job_a n).0 before between report_a replayed_a)) between after output

-- A failure of the lower parts ended one of the two replays.
abbrev pub IsStuckMake : ℕ → Maker → Maker → List ℕ → Type 0
IsStuckMake n before after output = IsStuckInOrder (job_a n).0 before after output ⊎ IsStuckAtB n before after output

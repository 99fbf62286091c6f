-- What the two replays of a `make` come to.
use Rattle.std.proofs.Common.{◌≡◌, ℕ, List, length, sym, subst, ap, ◌∙◌}
use Rattle.lower_model.specs.declared.node.LowerNode.{LowerNode}
use Rattle.image_model.specs.ImageText.{image}
use Rattle.job_model.specs.declared.job.Job.{Job}
use Rattle.job_model.specs.Job.{IsJob}
use Rattle.served_model.specs.Served.{Maker, ServedInOrder, IsStuckInOrder}
use Rattle.make_model.specs.MakeJobs.{job_a, job_b_from}
use Rattle.make_model.specs.MakeText.{make_text}
use Rattle.make_model.specs.Made.{IsMakeText, IsStuckAtB}
use Rattle.make_model.proofs.LawfulJobs.{job_a-lawful, job_b_from-lawful}

-- job A, with the draws behind it
pub first_lawful : (n : ℕ) (made : Job × ℕ) → made ≡ job_a n → IsJob made.0
first_lawful n made is = subst (λ (m : Job × ℕ). IsJob m.0) (sym is) (job_a-lawful n)

-- Job A was replayed, and this image came out of it.
abbrev pub CameOut : Job → Maker → Maker → List ℕ → List LowerNode → Type 0
CameOut job before between report came_out = (served : ServedInOrder job before between report) × (came_out ≡ served.served.image)

module _ (n : ℕ) (before between : Maker) (report_a : List ℕ) (came_out : List LowerNode) where
  -- job B
  pub second_lawful : (made : Job × ℕ) (second : Job) → CameOut made.0 before between report_a came_out → second ≡ job_b_from n made.1 came_out → IsJob second
  second_lawful made second first is =
      let lawful = job_b_from-lawful n made.1 first.0.served.image first.0.served.lawful in
      subst IsJob (ap (job_b_from n made.1) (sym first.1) ∙ sym is) lawful

  module _ (after : Maker) (output : List ℕ) where
    sums_up_first : (report_b : List ℕ) (made : Job × ℕ) → job_a n ≡ made → (first : ServedInOrder made.0 before between report_a)
        → ServedInOrder (job_b_from n made.1 first.served.image) between after report_b → output ≡ make_text n (length (image first.served.image)) report_b → IsMakeText n before after output
    sums_up_first report_b made is =
        subst (λ (m : Job × ℕ). (first : ServedInOrder m.0 before between report_a) → ServedInOrder (job_b_from n m.1 first.served.image) between after report_b
        → output ≡ make_text n (length (image first.served.image)) report_b → IsMakeText n before after output)
        is
        (λ first second text. record { between = between; report_a = report_a; replayed_a = first; report_b = report_b; replayed_b = second; text = text })

    -- both jobs were replayed
    pub sums_up : (report_b : List ℕ) (made : Job × ℕ) (second : Job) → made ≡ job_a n → CameOut made.0 before between report_a came_out → second ≡ job_b_from n made.1 came_out
        → ServedInOrder second between after report_b → output ≡ make_text n (length (image came_out)) report_b → IsMakeText n before after output
    sums_up report_b made second is first second_is served text =
        sums_up_first report_b made (sym is) first.0
        (subst (λ (job : Job). ServedInOrder job between after report_b) (second_is ∙ ap (job_b_from n made.1) first.1) served)
        (text ∙ ap (λ (nodes : List LowerNode). make_text n (length (image nodes)) report_b) first.1)

    stuck_first : (made : Job × ℕ) → job_a n ≡ made → (first : ServedInOrder made.0 before between report_a) → IsStuckInOrder (job_b_from n made.1 first.served.image) between after output
        → IsStuckAtB n before after output
    stuck_first made is =
        subst (λ (m : Job × ℕ). (first : ServedInOrder m.0 before between report_a) → IsStuckInOrder (job_b_from n m.1 first.served.image) between after output → IsStuckAtB n before after output)
        is
        (λ first stuck. record { between = between; report_a = report_a; replayed_a = first; stuck = stuck })

    -- a failure ended the replay of job B
    pub stuck_at_second : (made : Job × ℕ) (second : Job) → made ≡ job_a n → CameOut made.0 before between report_a came_out → second ≡ job_b_from n made.1 came_out
        → IsStuckInOrder second between after output → IsStuckAtB n before after output
    stuck_at_second made second is first second_is stuck =
        stuck_first made (sym is) first.0 (subst (λ (job : Job). IsStuckInOrder job between after output) (second_is ∙ ap (job_b_from n made.1) first.1) stuck)

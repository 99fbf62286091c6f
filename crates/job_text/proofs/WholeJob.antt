-- A whole job: what is read is a job that is spelled so, and what is spelled so is read.
use Rattle.std.proofs.Common.{◌≡◌, ℕ, ◌<◌, ◌≤◌, ◌^◌, List, [], ◌∷◌, ◌++◌, length, map, codes, Ok, refl, sym, ap, subst, ◌∙◌, append_assoc, arith}
use Rattle.std.specs.Prelude.{◌==◌}
use Rattle.std.specs.List.{flat_map}
use Rattle.std.proofs.lemmas.Bool.{eqb-true}
use Rattle.std.proofs.lemmas.List.{nil_from_length, length-append}
use Rattle.answer_model.proofs.Binds.{bind_ok, ok_is}
use Rattle.job_model.specs.declared.limits.TheConstants.{MOST_OCTETS, MOST_SESSIONS}
use Rattle.image_model.specs.ImageText.{image}
use Rattle.text_model.specs.Line.{line, number, hex}
use Rattle.script_model.specs.declared.op.Op.{Op}
use Rattle.script_model.specs.Script.{IsScript}
use Rattle.job_model.specs.declared.job.Job.{Job}
use Rattle.job_model.specs.Job.{IsJob, IsSchedule}
use Rattle.job_model.specs.JobText.{IsJobText, settings_text, coding_word, meta_place_word, job_text, image_text, session_text}
use Rattle.job_text.specs.declared.settings.Keys.{Keys}
use Rattle.job_text.specs.declared.settings.Making.{Making}
use Rattle.job_text.specs.JobReading.{whole_at, keys_at, making_at, image_at, scripts_at, schedule_at, end_at, Work, work_at, job_of, job_at}
use Rattle.job_text.proofs.LineParts.{IsSlice, IsSlice-rest, ended, whole_found, whole_again}
use Rattle.job_text.proofs.JobParts.{IsImage, image_part, AreCounted, counted_text, scripts_part, schedule_part, AreKeys, keys_text, keys_part, IsMaking, making_text, making_part, joined, apart}

-- ---- what stands behind the settings

end_found : (octets : List ℕ) (nothing : Unit {0}) → end_at octets ≡ Ok nothing → octets ≡ line (codes "end" ∷ [])
unfolding end_at
end_found octets nothing e =
    let r = bind_ok (whole_at (codes "end") octets) _ nothing e in
    let g = ended (length r.0 == 0) tt (length r.0) nothing r.2 in
    whole_found (codes "end") octets r.0 r.1 ∙ ap (λ (t : List ℕ). line (codes "end" ∷ []) ++ t) (nil_from_length r.0 (eqb-true (length r.0) 0 g.0))

end_again : end_at (line (codes "end" ∷ [])) ≡ Ok tt
unfolding end_at
end_again = rw (whole_again (codes "end") [] refl) refl

record IsWork (work : Work) : Type 0 where
  image : IsImage work.0
  scripts : AreCounted 1 MOST_SESSIONS IsScript work.1
  schedule : IsSchedule (length work.1) work.2

abbrev schedule_line : List ℕ → List ℕ
schedule_line items = line (codes "schedule" ∷ map number items)

abbrev sessions_text : List (List Op) → List ℕ
sessions_text scripts = counted_text (codes "sessions ") session_text scripts

abbrev work_text : Work → List ℕ
work_text work = ((image_text (image work.0) ++ sessions_text work.1) ++ schedule_line work.2) ++ line (codes "end" ∷ [])

work_found : (octets : List ℕ) (work : Work) → IsSlice octets → work_at octets ≡ Ok work → (octets ≡ work_text work) × IsWork work
unfolding work_at
work_found octets work fits e =
    let a = bind_ok (image_at octets) _ work e in
    let b = bind_ok (scripts_at a.0.1) _ work a.2 in
    let c = bind_ok (schedule_at (length b.0.0) b.0.1) _ work b.2 in
    let d = bind_ok (end_at c.0.1) _ work c.2 in
    let f = image_part.found octets fits a.0 a.1 in
    let fits1 = IsSlice-rest octets (image_text (image a.0.0)) a.0.1 f.0 fits in
    let g = scripts_part.found a.0.1 fits1 b.0 b.1 in
    let h = (schedule_part (length b.0.0) g.1.most_is).found b.0.1 (IsSlice-rest a.0.1 (sessions_text b.0.0) b.0.1 g.0 fits1) c.0 c.1 in
    let made : Work = (a.0.0, b.0.0, c.0.0) in
    let parts = joined octets (image_text (image a.0.0)) (sessions_text b.0.0) (schedule_line c.0.0) a.0.1 b.0.1 c.0.1 f.0 g.0 h.0 in
    subst (λ (w : Work). (octets ≡ work_text w) × IsWork w) {x = made} (ok_is made work d.2)
    (◌∙◌ {b = ((image_text (image a.0.0) ++ sessions_text b.0.0) ++ schedule_line c.0.0) ++ c.0.1} parts (ap (λ (t : List ℕ). ((image_text (image a.0.0) ++ sessions_text b.0.0) ++ schedule_line c.0.0) ++ t) (end_found c.0.1 d.0 d.1)), record { image = f.1; scripts = g.1; schedule = h.1 })

work_again : (work : Work) → IsWork work → work_at (work_text work) ≡ Ok work
unfolding work_at
work_again work h =
    let a = image_text (image work.0) in
    let b = sessions_text work.1 in
    let c = schedule_line work.2 in
    let d = line (codes "end" ∷ []) in
    ap work_at (apart a b c d)
    ∙ rw (image_part.again work.0 (b ++ (c ++ d)) h.image, scripts_part.again work.1 (c ++ d) h.scripts, (schedule_part (length work.1) h.scripts.most_is).again work.2 d h.schedule, end_again) refl

-- ---- the job

regroup : (h p s n a m r i e f c d : List ℕ) → (((((((((((h ++ p) ++ s) ++ n) ++ a) ++ m) ++ r) ++ i) ++ e) ++ f) ++ c) ++ d) ≡ h ++ (((p ++ s) ++ n) ++ (((a ++ m) ++ r) ++ (((i ++ (e ++ f)) ++ c) ++ d)))
regroup h p s n a m r i e f c d = simp append_assoc

abbrev keys_in : Job → Keys
keys_in job = record { passphrase = job.passphrase; salt = job.salt; namesalt = job.namesalt }

abbrev making_in : Job → Making
making_in job = record { names = job.names; meta_place = job.meta_place; random = job.random }

abbrev work_in : Job → Work
work_in job = (job.image, job.scripts, job.schedule)

abbrev head : List ℕ
head = line (codes "ecryptfs-job" ∷ codes "1" ∷ [])

regrouped : (job : Job) → job_text job ≡ head ++ (keys_text (keys_in job) ++ (making_text (making_in job) ++ work_text (work_in job)))
regrouped job =
    regroup head (line (codes "passphrase" ∷ hex job.passphrase ∷ [])) (line (codes "salt" ∷ hex job.salt ∷ [])) (line (codes "namesalt" ∷ hex job.namesalt ∷ []))
    (line (codes "names" ∷ coding_word job.names ∷ [])) (line (codes "meta" ∷ meta_place_word job.meta_place ∷ [])) (line (codes "random" ∷ hex job.random ∷ []))
    (image_text (image job.image)) (line (codes "sessions" ∷ number (length job.scripts) ∷ [])) (flat_map session_text job.scripts) (schedule_line job.schedule) (line (codes "end" ∷ []))

spelled_as : (job : Job) (octets : List ℕ) → octets ≡ head ++ (keys_text (keys_in job) ++ (making_text (making_in job) ++ work_text (work_in job))) → octets ≡ job_text job
spelled_as job octets e = e ∙ sym (regrouped job)

job_from : (keys : Keys) (making : Making) (work : Work) → AreKeys keys → IsMaking making → IsWork work → IsJob (job_of keys making work.0 work.1 work.2)
job_from keys making work k m w = record {
  passphrase = k.passphrase;
  salt = k.salt;
  namesalt = k.namesalt;
  random = m;
  image = w.image.tree;
  some_session = w.scripts.least_is;
  few_sessions = w.scripts.most_is;
  scripts = w.scripts.each;
  schedule = w.schedule;
}

pub job_found : (octets : List ℕ) (job : Job) → IsSlice octets → job_at octets ≡ Ok job → IsJob job × (octets ≡ job_text job)
unfolding job_at
job_found octets job fits e =
    let h = bind_ok (whole_at (codes "ecryptfs-job 1") octets) _ job e in
    let k = bind_ok (keys_at h.0) _ job h.2 in
    let m = bind_ok (making_at k.0.1) _ job k.2 in
    let w = bind_ok (work_at m.0.1) _ job m.2 in
    let first = whole_found (codes "ecryptfs-job 1") octets h.0 h.1 in
    let fits1 = IsSlice-rest octets head h.0 first fits in
    let f = keys_part.found h.0 fits1 k.0 k.1 in
    let fits2 = IsSlice-rest h.0 (keys_text k.0.0) k.0.1 f.0 fits1 in
    let g = making_part.found k.0.1 fits2 m.0 m.1 in
    let i = work_found m.0.1 w.0 (IsSlice-rest k.0.1 (making_text m.0.0) m.0.1 g.0 fits2) w.1 in
    let made = job_of k.0.0 m.0.0 w.0.0 w.0.1 w.0.2 in
    let parts : octets ≡ head ++ (keys_text k.0.0 ++ (making_text m.0.0 ++ work_text w.0)) =
    first ∙ ap (λ (t : List ℕ). head ++ t) (f.0 ∙ ap (λ (t : List ℕ). keys_text k.0.0 ++ t) (g.0 ∙ ap (λ (t : List ℕ). making_text m.0.0 ++ t) i.0)) in
    subst (λ (j : Job). IsJob j × (octets ≡ job_text j)) {x = made} (ok_is made job w.2) (job_from k.0.0 m.0.0 w.0 f.1 g.1 i.1, spelled_as made octets parts)

pub job_again : (job : Job) → IsJob job → length (image job.image) < 2 ^ 64 → job_at (job_text job) ≡ Ok job
unfolding job_at
job_again job lawful small =
    let keys : AreKeys (keys_in job) = record { passphrase = lawful.passphrase; salt = lawful.salt; namesalt = lawful.namesalt } in
    let work : IsWork (work_in job) = record { image = record { tree = lawful.image; small = small }; scripts = record { least_is = lawful.some_session; most_is = lawful.few_sessions; each = lawful.scripts }; schedule = lawful.schedule } in
    let w = work_text (work_in job) in
    let m = making_text (making_in job) in
    ap job_at (regrouped job)
    ∙ rw (whole_again (codes "ecryptfs-job 1") (keys_text (keys_in job) ++ (m ++ w)) refl, keys_part.again (keys_in job) (m ++ w) keys, making_part.again (making_in job) w lawful.random, work_again (work_in job) work) refl

-- ---- texts of jobs

within : (s l i e f c d : List ℕ) → length i ≤ length (((((s ++ ((l ++ i) ++ 10 ∷ [])) ++ e) ++ f) ++ c) ++ d)
within s l i e f c d = simp length-append (omega arith)

image_small : (job : Job) (octets : List ℕ) → IsJobText job octets → length (image job.image) < 2 ^ 64
image_small job octets t =
    let most : length (image job.image) ≤ length (job_text job) =
    within (settings_text job) (line (codes "image" ∷ number (length (image job.image)) ∷ [])) (image job.image) (line (codes "sessions" ∷ number (length job.scripts) ∷ [])) (flat_map session_text job.scripts) (schedule_line job.schedule) (line (codes "end" ∷ [])) in
    let same : length octets ≡ length (job_text job) = ap length t.text in
    omega (arith, t.short)

-- what is read is a job with this text
pub is_job_text : (octets : List ℕ) (job : Job) → IsSlice octets → length octets ≤ MOST_OCTETS → job_at octets ≡ Ok job → IsJobText job octets
is_job_text octets job fits short e = let f = job_found octets job fits e in record { lawful = f.0; short = short; text = f.1 }

pub text_read : (octets : List ℕ) (job : Job) → IsJobText job octets → job_at octets ≡ Ok job
text_read octets job t = ap job_at t.text ∙ job_again job t.lawful (image_small job octets t)

-- a text has one job
pub one_job : (octets : List ℕ) (job other : Job) → job_at octets ≡ Ok job → IsJobText other octets → job ≡ other
one_job octets job other e t = ok_is {E = ℕ} job other (sym e ∙ text_read octets other t)

-- Both jobs are lawful: whatever their number and, of job B, its image and the state of the draws are.
use Rattle.std.proofs.Common.{◌≡◌, ℕ, ◌*◌, ◌≤◌, ◌<◌, Bool, true, false, cond, ltb, List, [], ◌∷◌, length, refl, sym, subst, arith, lit<, lit≤}
use Rattle.std.specs.Prelude.{replicate, ◌==◌}
use Rattle.std.specs.Int.{w64, to_be_bytes}
use Rattle.std.specs.List.{AllByRecursion, list_all}
use Rattle.std.proofs.lemmas.Bool.{ltb-true, and_parts}
use Rattle.std.proofs.lemmas.List.{length-append}
use Rattle.octet_model.specs.Octets.{AreOctets, HasOctets}
use Rattle.lower_model.specs.declared.node.LowerNode.{LowerNode}
use Rattle.lower_model.specs.LowerTree.{IsLowerTree}
use Rattle.script_model.specs.declared.op.Op.{Op}
use Rattle.script_model.specs.declared.op.Op.TheVariants as ops
use Rattle.script_model.specs.Script.{IsOp, IsScript, AreWritten, IsOffset}
use Rattle.job_model.specs.Job.{IsJob, IsPassphrase, IsSchedule}
use Rattle.make_model.specs.Draws.{Making, next_state, draw_mod, one, for_each}
use Rattle.make_model.specs.MakeJobs.{passphrase, salt, random_of, job_of, octets_of, empty_image, new_directory, piece, new_file, script_a, job_a, twice_a_draw, line_of_kind, round, script_b, scripts_b, schedule_b, job_b_from, job_b}
use Rattle.make_model.proofs.Drawing.{all-append, for_each-all, for_each-few, length-for_each}
use Rattle.make_model.proofs.MakeNames.{is_directory_name, is_file_path}

-- ---- octets

-- whether each number fits an octet
abbrev are_octets : List ℕ → Bool
are_octets octets = list_all (λ c. ltb c 256) octets

octets_of_pass : (xs : List ℕ) → are_octets xs ≡ true → AreOctets xs
octets_of_pass [] all = tt
octets_of_pass (x ∷ xs) all =
    let parts = and_parts (ltb x 256) (are_octets xs) all in
    (ltb-true x 256 parts.0, octets_of_pass xs parts.1)

-- ---- draws

twice_a_draw-offset : (x : ℕ) → IsOffset (twice_a_draw x).0
unfolding next_state
twice_a_draw-offset x = omega arith

are_written : (count x : ℕ) → 1 ≤ count → count ≤ 65536 → AreWritten (octets_of count x).0
are_written count x some few =
    let length_is : length (octets_of count x).0 ≡ count * 1 = length-for_each 1 (λ i. one (draw_mod 256)) count x (λ i y. refl) in
    ((omega (arith, length_is), omega (arith, length_is)), for_each-all (λ c. c < 256) (λ i. one (draw_mod 256)) count x (λ i y lt. (omega arith, tt)))

-- ---- job A

directories_lawful : (x : ℕ) → AllByRecursion IsOp (for_each 8 new_directory x).0
directories_lawful x = for_each-all IsOp new_directory 8 x (λ d y lt. ((is_directory_name d lt, tt), tt))

pieces_lawful : (k x : ℕ) → k < 24 → AllByRecursion IsOp (for_each k piece x).0
pieces_lawful k x few = for_each-all IsOp piece k x (λ j y lt. ((omega arith, omega arith, are_written 4000 y (omega arith) (omega arith)), tt))

file_lawful : (i x : ℕ) → i < 64 → AllByRecursion IsOp (new_file i x).0
unfolding new_file
file_lawful i x lt =
    let pieces = pieces_lawful (draw_mod 24 x).0 (draw_mod 24 x).1 (omega arith) in
    ((omega arith, is_file_path i lt), all-append IsOp (for_each (draw_mod 24 x).0 piece (draw_mod 24 x).1).0 (ops.Close 0 ∷ []) pieces (omega arith, tt))

file_few : (i x : ℕ) → length (new_file i x).0 ≤ 26
unfolding new_file
file_few i x =
    let pieces = for_each-few 1 piece (draw_mod 24 x).0 (draw_mod 24 x).1 (λ j y. omega arith) in
    omega (arith, length-append (for_each (draw_mod 24 x).0 piece (draw_mod 24 x).1).0 (ops.Close 0 ∷ []), pieces)

pub script_a-lawful : (x : ℕ) → IsScript (script_a x).0
unfolding script_a
script_a-lawful x =
    let directories = directories_lawful x in
    let files = for_each-all IsOp new_file 64 (for_each 8 new_directory x).1 file_lawful in
    let few = for_each-few 1 new_directory 8 x (λ d y. omega arith) in
    let few_files = for_each-few 26 new_file 64 (for_each 8 new_directory x).1 file_few in
    record {
      few = omega (arith, length-append (for_each 8 new_directory x).0 (for_each 64 new_file (for_each 8 new_directory x).1).0, few, few_files);
      ops = all-append IsOp (for_each 8 new_directory x).0 (for_each 64 new_file (for_each 8 new_directory x).1).0 directories files;
    }

-- ---- job B

either : (x : ℕ) (b : Bool) (make make' : Making Op) → IsOp (make x).0 → IsOp (make' x).0 → IsOp (cond b make make' x).0
either x b make make' lawful lawful' = elim b as (λ b. IsOp (cond b make make' x).0) [ true ↦ lawful | false ↦ lawful' ]

line_lawful : (kind x : ℕ) → IsOp (line_of_kind kind x).0
unfolding line_of_kind
line_lawful kind x =
    let at = twice_a_draw-offset x in
    either x (kind == 0) _ _ (lit< tt, at, (lit≤ tt, lit≤ tt))
    (either x (kind == 1) _ _ (lit< tt, at, are_written 512 (twice_a_draw x).1 (lit≤ tt) (lit≤ tt))
    (either x (kind == 2) _ _ (lit< tt, at) (lit< tt)))

round_lawful : (i x : ℕ) → i < 100 → AllByRecursion IsOp (round x).0
unfolding round
round_lawful i x lt =
    let file = is_file_path (draw_mod 64 x).0 (omega arith) in
    ((lit< tt, file), (line_lawful (draw_mod 4 (draw_mod 64 x).1).0 (draw_mod 4 (draw_mod 64 x).1).1, (lit< tt, tt)))

script_b-lawful : (x : ℕ) → IsScript (script_b x).0
unfolding script_b round
script_b-lawful x =
    let few = for_each-few 3 (λ i. round) 100 x (λ i y. omega arith) in
    record { few = omega (arith, few); ops = for_each-all IsOp (λ i. round) 100 x (λ i y lt. round_lawful i y lt) }

scripts_lawful : (x : ℕ) → AllByRecursion IsScript (scripts_b x).0
unfolding scripts_b
scripts_lawful x = for_each-all IsScript (λ i. one script_b) 4 x (λ i y lt. (script_b-lawful y, tt))

length-scripts_b : (x : ℕ) → length (scripts_b x).0 ≡ 4
unfolding scripts_b
length-scripts_b x = length-for_each 1 (λ i. one script_b) 4 x (λ i y. refl)

-- each item is one of the four sessions
pub schedule_b-items : (x : ℕ) → AllByRecursion (λ s. s < 4) (schedule_b x).0
unfolding schedule_b
schedule_b-items x = for_each-all (λ s. s < 4) (λ i. one (draw_mod 4)) 1000 x (λ i y lt. (omega arith, tt))

pub length-schedule_b : (x : ℕ) → length (schedule_b x).0 ≡ 1000
unfolding schedule_b
length-schedule_b x = length-for_each 1 (λ i. one (draw_mod 4)) 1000 x (λ i y. refl)

-- ---- both

salt_lawful : HasOctets 8 salt
salt_lawful = record { length_is = refl; octets = octets_of_pass salt refl }

passphrase_lawful : IsPassphrase passphrase
passphrase_lawful = record { some = lit≤ tt; few = lit≤ tt; octets = octets_of_pass passphrase refl }

random_lawful : (n : ℕ) → HasOctets 32 (random_of n)
random_lawful n = record {
  length_is = refl;
  octets = all-append (λ c. c < 256) (to_be_bytes w64 n) (replicate 24 0)
      (omega arith, (omega arith, (omega arith, (omega arith, (omega arith, (omega arith, (omega arith, (omega arith, tt)))))))) (octets_of_pass (replicate 24 0) refl);
}

job_lawful : (n : ℕ) (image : List LowerNode) (scripts : List (List Op)) (schedule : List ℕ) → IsLowerTree image → 1 ≤ length scripts → length scripts ≤ 16 → AllByRecursion IsScript scripts →
    IsSchedule (length scripts) schedule → IsJob (job_of n image scripts schedule)
job_lawful n image scripts schedule lawful some few each turns = record {
  passphrase = passphrase_lawful;
  salt = salt_lawful;
  namesalt = salt_lawful;
  random = random_lawful n;
  image = lawful;
  some_session = some;
  few_sessions = few;
  scripts = each;
  schedule = turns;
}

pub empty_image_lawful : IsLowerTree empty_image
empty_image_lawful = ((refl, refl, refl, refl, refl), lit≤ tt, tt)

pub job_a-lawful : (n : ℕ) → IsJob (job_a n).0
job_a-lawful n =
    job_lawful n empty_image ((script_a n).0 ∷ []) [] empty_image_lawful (lit≤ tt) (lit≤ tt) (script_a-lawful n, tt) (record { few = lit≤ tt; items = tt })

pub job_b_from-lawful : (n state : ℕ) (image : List LowerNode) → IsLowerTree image → IsJob (job_b_from n state image)
job_b_from-lawful n state image lawful =
    let four = length-scripts_b state in
    let many = length-schedule_b (scripts_b state).1 in
    let items : AllByRecursion (λ s. s < 4) (schedule_b (scripts_b state).1).0 = schedule_b-items (scripts_b state).1 in
    job_lawful n image (scripts_b state).0 (schedule_b (scripts_b state).1).0 lawful (omega (arith, four)) (omega (arith, four)) (scripts_lawful state)
    (record { few = omega (arith, many); items = subst (λ (sessions : ℕ). AllByRecursion (λ s. s < sessions) (schedule_b (scripts_b state).1).0) (sym four) items })

pub job_b-lawful : (n : ℕ) (image : List LowerNode) → IsLowerTree image → IsJob (job_b n image)
job_b-lawful n image lawful = job_b_from-lawful n (job_a n).1 image lawful
